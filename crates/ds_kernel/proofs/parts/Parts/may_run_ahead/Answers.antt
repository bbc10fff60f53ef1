use Rattle.std.proofs.Common.{◌≡◌, ◌+◌, ◌-◌, ◌==◌, ◌<◌, ℕ, true, false, ap, sym, subst, ◌∙◌, arith}
use Rattle.std.specs.Prelude.{Option, is_some, min}
use Rattle.ds_word.specs.Word.{bits}
use Rattle.ds_kernel.proofs.Ahead.{may_run_ahead, goes_two, within_quiet, no_end, none_owed, some_ready}
use Rattle.ds_kernel.proofs.parts.Parts.may_run_ahead.Goals as goal

pub returns-then-not-is_user-clause-any : goal.returns-then-not-is_user-clause-any
returns-then-not-is_user-clause-any g c = λ soon none goes.
    let no : true ≡ false = sym (ap (λ (n : ℕ). bits n 1 1 == 1) goes.mode) ∙ (sym c.is_user.ensures ∙ c.if-not-is_user.true) in absurd (cc)

pub returns-then-end-self-clause-any : goal.returns-then-end-self-clause-any
returns-then-end-self-clause-any g c = λ soon none goes.
    let m = c.args.self.now.monitor in
    let quiet : m.time + 1 + c.slot_tick-before.result < m.quiet_until =
    subst (λ (k : ℕ). m.time + 1 + k < m.quiet_until) (sym c.slot_tick-before.ensures) (goes_two c.args.self.now c.requires.good (omega (arith, none)) goes) in
    absurd (no_end m.time c.args.n m.quiet_until c.slot_tick-before.result c.min-end.result (c.min-end.ensures ∙ ap (λ (q : ℕ). min c.args.n q) (c.saturating_sub-last.ensures ∙ ap (λ (k : ℕ). m.quiet_until - k) c.from.ensures)) c.if-end-self.true soon quiet)

pub returns-then-is_some-2-clause-ahead : goal.returns-then-is_some-2-clause-ahead
returns-then-is_some-2-clause-ahead g c =
    let m = c.args.self.now.monitor in
    let later = c.if-end-self.false in
    may_run_ahead c.args.self.now (c.min-end.result - m.time - 1) c.requires.good c.show_events_in_order.ensures.commands c.show_events_in_order.ensures.order
    (none_owed m.owed (sym c.is_some.ensures ∙ c.if-is_some.false))
    (some_ready m.ready (sym (c.is_some-2.ensures ∙ ap (λ (o : Option ℕ). is_some o) c.first_ready.ensures) ∙ c.if-is_some-2.true))
    (sym c.is_user.ensures ∙ c.if-not-is_user.false)
    (subst (λ (k : ℕ). m.time + (c.min-end.result - m.time - 1) + k < m.quiet_until) c.slot_tick-before.ensures (within_quiet m.time c.args.n m.quiet_until c.slot_tick-before.result c.min-end.result (c.min-end.ensures ∙ ap (λ (q : ℕ). min c.args.n q) (c.saturating_sub-last.ensures ∙ ap (λ (k : ℕ). m.quiet_until - k) c.from.ensures)) (omega (arith, later))))
