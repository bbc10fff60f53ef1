use Rattle.std.proofs.Common.{List, ℕ, subst}
use Rattle.std.specs.Prelude.{OnErr, OnOk}
use Rattle.std.specs.Io.KnownBytes.{Appends}
use Rattle.ds_text.specs.Sent.{AppendsPart}
use Rattle.ds_drive.proofs.Tellings.{first_shown}
use Rattle.ds_drive.proofs.told.send_source.Goals as goal

pub returns-in-Some-first-clause-all : goal.returns-in-Some-first-clause-all
returns-in-Some-first-clause-all g c =
    subst (λ (l : List ℕ). OnOk c.show_fault.result (Appends (g.E.Output.contents c.args.err.now) (g.E.Output.contents c.show_fault.new.err) l))
    (first_shown c.args.source.now c.in-Some.source _ _ c.in-Some-first.first.now c.in-Some.is c.deref-in-Some-first.ensures.value c.deref.ensures.value c.in-Some-first.ensures.value)
    c.show_fault.ensures.all

pub returns-in-Some-first-clause-front : goal.returns-in-Some-first-clause-front
returns-in-Some-first-clause-front g c =
    subst (λ (l : List ℕ). OnErr c.show_fault.result (AppendsPart (g.E.Output.contents c.args.err.now) (g.E.Output.contents c.show_fault.new.err) l))
    (first_shown c.args.source.now c.in-Some.source _ _ c.in-Some-first.first.now c.in-Some.is c.deref-in-Some-first.ensures.value c.deref.ensures.value c.in-Some-first.ensures.value)
    c.show_fault.ensures.front
