use Rattle.std.proofs.Common.{List, ℕ, ap, subst}
use Rattle.std.specs.Io.KnownBytes.{Appends}
use Rattle.ds_text.specs.Sent.{AppendsPart}
use Rattle.ds_text.proofs.Sends.{appends_both, at_err, err_gives, ok_gives, part_after, part_before}
use Rattle.ds_drive.specs.Hints.{source_hint}
use Rattle.ds_drive.specs.Told.{Passed, none_passed, told_lines}
use Rattle.ds_drive.proofs.list.send_listed.Goals as goal

pub returns-in_err-tell_lines-clause-front : goal.returns-in_err-tell_lines-clause-front
returns-in_err-tell_lines-clause-front g c = at_err c.from_residual.result
    (part_before (g.E.Output.contents c.args.err.now) (g.E.Output.contents c.tell_lines.new.err)
    (told_lines c.args.wording.front.now c.args.wording.place.now c.args.wording.text.now (none_passed c.args.wording.text.now) c.args.faults.now) (source_hint c.args.wording.text.now)
    (subst (λ (l : List ℕ). AppendsPart (g.E.Output.contents c.args.err.now) (g.E.Output.contents c.tell_lines.new.err) l)
    (ap (λ (p : Passed). told_lines c.args.wording.front.now c.args.wording.place.now c.args.wording.text.now p c.args.faults.now) c.no_line_passed.ensures)
    c.in_err-tell_lines.ensures.front))

pub returns-clause-all : goal.returns-clause-all
returns-clause-all g c = ok_gives c.send_source_hint.result
    (appends_both (g.E.Output.contents c.args.err.now) (g.E.Output.contents c.tell_lines.new.err) (g.E.Output.contents c.send_source_hint.new.err)
    (told_lines c.args.wording.front.now c.args.wording.place.now c.args.wording.text.now (none_passed c.args.wording.text.now) c.args.faults.now) (source_hint c.args.wording.text.now)
    (subst (λ (l : List ℕ). Appends (g.E.Output.contents c.args.err.now) (g.E.Output.contents c.tell_lines.new.err) l)
    (ap (λ (p : Passed). told_lines c.args.wording.front.now c.args.wording.place.now c.args.wording.text.now p c.args.faults.now) c.no_line_passed.ensures)
    c.in_ok-tell_lines.ensures.all))
    c.send_source_hint.ensures.all

pub returns-clause-front : goal.returns-clause-front
returns-clause-front g c = err_gives c.send_source_hint.result
    (part_after (g.E.Output.contents c.args.err.now) (g.E.Output.contents c.tell_lines.new.err) (g.E.Output.contents c.send_source_hint.new.err)
    (told_lines c.args.wording.front.now c.args.wording.place.now c.args.wording.text.now (none_passed c.args.wording.text.now) c.args.faults.now) (source_hint c.args.wording.text.now)
    (subst (λ (l : List ℕ). Appends (g.E.Output.contents c.args.err.now) (g.E.Output.contents c.tell_lines.new.err) l)
    (ap (λ (p : Passed). told_lines c.args.wording.front.now c.args.wording.place.now c.args.wording.text.now p c.args.faults.now) c.no_line_passed.ensures)
    c.in_ok-tell_lines.ensures.all))
    c.send_source_hint.ensures.front
