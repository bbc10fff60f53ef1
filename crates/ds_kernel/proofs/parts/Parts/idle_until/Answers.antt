use Rattle.std.proofs.Common.{sym, ap, ◌-◌, ◌∙◌}
use Rattle.std.specs.Prelude.{Option, is_some, min, ℕ}
use Rattle.ds_kernel.proofs.IdleTurns.{may_idle, none_owed, nobody_ready}
use Rattle.ds_kernel.proofs.parts.Parts.idle_until.Goals as goal

pub returns-then-self-end-clause-may : goal.returns-then-self-end-clause-may
returns-then-self-end-clause-may g c =
    let p = c.args.self.now in
    may_idle c.args.n c.min-end.result p c.requires.good c.requires.going
    (none_owed p.monitor.owed (sym c.is_some.ensures ∙ c.if-is_some.false))
    (nobody_ready p.monitor.ready (ap (λ (o : Option ℕ). is_some o) (sym c.first_ready.ensures) ∙ (sym c.is_some-else-is_some.ensures ∙ c.if-is_some-2.false)))
    c.show_events_in_order.ensures.commands c.show_events_in_order.ensures.order
    (c.min-end.ensures
    ∙ ap (λ (n : ℕ). min c.args.n n) (c.saturating_sub.ensures ∙ ap (λ (n : ℕ). n - 1) (c.min-comes.ensures ∙ ap (λ (n : ℕ). min n p.monitor.ends) c.next_time.ensures))) c.if-self-end.true
