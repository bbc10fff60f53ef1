use Rattle.std.proofs.Common.{rules, ℕ, take, arith, subst, List}
use Rattle.std.proofs.lemmas.Grind.{common_steps}
use Rattle.std.specs.Io.KnownBytes.{Appends}
use Rattle.std.proofs.lemmas.List.{take_rest}
use Rattle.ds_text.proofs.Sends.{asked_last, asked_more, part_of_text, appends_kept, appends_both, take_both, took_nothing}
use Rattle.ds_text.proofs.writes.send.Goals as goal

pub returns-in-Ok-eq0-clause-err : goal.returns-in-Ok-eq0-clause-err
returns-in-Ok-eq0-clause-err g c = part_of_text _ _ c.args.text.now c.loop-sent.sent (appends_kept _ _ _ _ c.loop-sent.invariant.written (took_nothing _ _ c.in-Ok-eq0.field-0 _ c.in-Ok-eq0.field-0-test c.in-Ok-eq0.ensures.bytes))

pub loop-sent-preserved : goal.loop-sent-preserved
loop-sent-preserved g c = record {
  within = grind (arith, common_steps, c.in-Ok.ensures.bound);
  written = subst (Appends _ _) (take_both c.loop-sent.sent c.in-Ok.n c.args.text.now) (appends_both _ _ _ _ _ c.loop-sent.invariant.written (subst (λ (ys : List ℕ). Appends (g.O.Output.contents c.loop-sent.out) (g.O.Output.contents c.take.new.self) (take c.in-Ok.n ys)) (take_rest c.args.text.now c.loop-sent.sent) c.in-Ok.ensures.bytes));
  asked = asked_more _ _ _ _ c.loop-sent.invariant.asked (search rules) c.take.ensures.counted;
}

pub returns-in-Err-clause-err : goal.returns-in-Err-clause-err
returns-in-Err-clause-err g c = part_of_text _ _ c.args.text.now c.loop-sent.sent (appends_kept _ _ _ _ c.loop-sent.invariant.written c.in-Err.ensures.bytes)

pub returns-in-Ok-eq0-clause-once : goal.returns-in-Ok-eq0-clause-once
returns-in-Ok-eq0-clause-once g c = asked_last _ _ _ _ c.loop-sent.invariant.asked (search rules) c.take.ensures.counted

pub returns-in-Err-clause-once : goal.returns-in-Err-clause-once
returns-in-Err-clause-once g c = asked_last _ _ _ _ c.loop-sent.invariant.asked (search rules) c.take.ensures.counted
