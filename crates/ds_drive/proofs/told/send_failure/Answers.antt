use Rattle.std.proofs.Common.{◌∙◌, ℕ, List, ◌++◌, subst}
use Rattle.std.specs.Prelude.{codes, OnOk}
use Rattle.std.specs.Io.KnownBytes.{Appends}
use Rattle.ds_drive.specs.Names.{shown_name}
use Rattle.ds_drive.proofs.Tellings.{line_carries}
use Rattle.ds_drive.proofs.told.send_failure.Goals as goal

pub returns-in-UnreadableFile-clause-all : goal.returns-in-UnreadableFile-clause-all
returns-in-UnreadableFile-clause-all g c = rw c.in-UnreadableFile.is
    (subst (λ (name : List ℕ). OnOk c.send_unreadable.result (Appends (g.E.Output.contents c.args.err.now) (g.E.Output.contents c.send_unreadable.new.err) (codes "dsmon: " ++ ((codes "26 Unreadable " ++ shown_name name) ++ codes "\n")))) c.as_bytes.ensures.value c.send_unreadable.ensures.all)

pub returns-in-UnreadableSource-clause-all : goal.returns-in-UnreadableSource-clause-all
returns-in-UnreadableSource-clause-all g c = rw c.in-UnreadableSource.is
    (line_carries c.send_line.result _ _ (codes "26 Unreadable ") c.in-UnreadableSource.name _ (c.as_bytes-in-UnreadableSource.ensures.value ∙ c.as_str.ensures.value) c.send_line.ensures.all)
