use Rattle.std.proofs.Common.{◌∙◌, ◌+◌, sym, ap, subst, length, Result, Ok, rules}
use Rattle.ds_word.specs.ResultBinding.{◌>>=◌}
use Rattle.ds_policy.specs.Inner.Refusal.{IsUnread}
use Rattle.ds_policy.specs.declared.events.cause.InputReason.{InputReason}
use Rattle.ds_policy.specs.InputText.{Said, with_lines, input_in, lines_of}
use Rattle.ds_policy.specs.InputFacts.{AreGoodCommands}
use Rattle.ds_policy.specs.Inner.InputFacts.{IsGoodInput}
use Rattle.ds_policy.proofs.Binds.{unread_at, unread_then}
use Rattle.ds_policy.proofs.GoodInput.{good_input, good_commands}
use Rattle.ds_policy.proofs.InputLineSteps.{lines_good, lines_bad, lines_end, rest_within}
use Rattle.ds_policy.proofs.events.events_of.Goals as goal

pub returns-in_err-add_line-clause-exact : goal.returns-in_err-add_line-clause-exact
returns-in_err-add_line-clause-exact c =
    let e = c.in_err-add_line.field-0.0 in
    let bad = lines_bad c.args.pages.now c.loop-left.reading (c.loop-left.number + 1) c.loop-left.left.now _ e c.first_line.ensures.line (rw c.in_ok-named.ensures at c.in_err-add_line.ensures) in
    unread_at (λ x. x) c.from_residual-in_err-add_line.result e _ (search rules)
    (unread_then e (with_lines c.args.pages.now _ _ _) (λ s. Ok (input_in s)) (subst (IsUnread e) c.loop-left.invariant.same bad))

pub loop-left-preserved : goal.loop-left-preserved
loop-left-preserved c = record {
  same = sym (lines_good c.args.pages.now c.loop-left.reading c.add_line.new.self (c.loop-left.number + 1) c.loop-left.left.now _ _ c.first_line.ensures.line c.first_line.ensures.rest (rw c.in_ok-named.ensures at c.in_ok-add_line.ensures)) ∙ c.loop-left.invariant.same;
  within = rest_within c.loop-left.number (length c.args.text.now) c.loop-left.left.now _ c.first_line.ensures.rest (search rules) c.loop-left.invariant.within;
}

pub invariant_of-result : goal.invariant_of-result
invariant_of-result c =
    let read = sym c.loop-left.invariant.same ∙ lines_end c.args.pages.now c.loop-left.reading (c.loop-left.number + 1) c.loop-left.left.now (search rules) in
    let HoldsOf : Said → Type 0 = λ s. IsGoodInput (input_in s) in
    subst HoldsOf (sym c.reading-2.view_is) (good_input c.args.pages.now (lines_of c.args.text.now) c.loop-left.reading read)

pub returns : goal.returns
returns c =
    let read = sym c.loop-left.invariant.same ∙ lines_end c.args.pages.now c.loop-left.reading (c.loop-left.number + 1) c.loop-left.left.now (search rules) in
    record {
      exact = ap (λ (r : Result Said InputReason). r >>= (λ s. Ok (input_in s))) (read ∙ ap (λ (s : Said). Ok s) (sym c.reading-2.view_is));
      good = subst (λ (s : Said). AreGoodCommands (length c.args.pages.now) s.commands) (sym c.reading-2.view_is) (good_commands c.args.pages.now (lines_of c.args.text.now) c.loop-left.reading read);
    }
