use Rattle.std.proofs.Common.{List, ℕ, subst}
use Rattle.std.specs.Io.KnownBytes.{Appends}
use Rattle.std.specs.Prelude.{OnOk, OnErr}
use Rattle.ds_text.specs.Sent.{AppendsPart}
use Rattle.ds_drive.proofs.Tellings.{others_same}
use Rattle.ds_drive.proofs.told.send_faults.Goals as goal

pub returns-in-len1-up-clause-all : goal.returns-in-len1-up-clause-all
returns-in-len1-up-clause-all g c =
    subst (λ (l : List ℕ). OnOk c.tell_lines.result (Appends (g.E.Output.contents c.args.err.now) (g.E.Output.contents c.tell_lines.new.err) l))
    (others_same c.args.text.now _ c.args.faults.now _ c.in-len1-up.len_at_least c.after_first-reasons.ensures)
    c.tell_lines.ensures.all

pub returns-in-len1-up-clause-front : goal.returns-in-len1-up-clause-front
returns-in-len1-up-clause-front g c =
    subst (λ (l : List ℕ). OnErr c.tell_lines.result (AppendsPart (g.E.Output.contents c.args.err.now) (g.E.Output.contents c.tell_lines.new.err) l))
    (others_same c.args.text.now _ c.args.faults.now _ c.in-len1-up.len_at_least c.after_first-reasons.ensures)
    c.tell_lines.ensures.front
