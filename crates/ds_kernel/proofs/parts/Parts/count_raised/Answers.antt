use Rattle.std.proofs.Common.{◌≡◌, ◌+◌, ◌-◌, ◌≤◌, ◌<◌, ◌∙◌, ℕ, ap, sym, subst, arith}
use Rattle.ds_ahead.specs.Inner.Ahead.{owed_tick}
use Rattle.ds_refinement.specs.Held.{Own}
use Rattle.ds_kernel.specs.declared.parts.Parts.{Parts}
use Rattle.ds_kernel.specs.Inner.Parts.{own_of}
use Rattle.ds_kernel.proofs.Blocking.{whole_raised, counts_leave_room}
use Rattle.ds_kernel.proofs.Doing.{owed_small}
use Rattle.ds_kernel.proofs.parts.Parts.count_raised.Goals as goal

pub returns-then-self-before-clause-own : goal.returns-then-self-before-clause-own
returns-then-self-before-clause-own g c =
    let old = c.args.self.now in
    let own : own_of c.pass.new.self ≡ own_of old = ap (λ (p : Parts g.row.L.Denot). own_of p) c.pass.ensures in
    let is : old.spent ≡ c.args.before = sym (ap (λ (o : Own). o.spent) own) ∙ c.if-self-before.true in
    let enough : owed_tick c.args.slot ≤ c.args.steps + c.args.before = c.requires.some in
    ap (λ (o : Own). record o { spent = c.owed_tick-then-self-before.result + 1 }) own
    ∙ (ap (λ (s : ℕ). record (own_of old) { spent = s + 1 }) c.owed_tick-then-self-before.ensures
    ∙ sym (whole_raised c.args.steps (c.args.steps + c.args.before - owed_tick c.args.slot) c.args.before c.args.slot (own_of old) (c.requires.fresh is) is (omega (arith, enough))))

pub count_one-requires-clause-spent : goal.count_one-requires-clause-spent
count_one-requires-clause-spent g c =
    let own : own_of c.pass.new.self ≡ own_of c.args.self.now = ap (λ (p : Parts g.row.L.Denot). own_of p) c.pass.ensures in
    let small : owed_tick c.args.slot ≤ 1 = owed_small c.args.slot in
    let ticks : ℕ = c.args.steps + c.args.before - c.owed_tick.result in
    let room = counts_leave_room (ticks + owed_tick c.args.slot - c.args.before) ticks c.args.slot (own_of c.pass.new.self) (λ none. omega (arith, small, none))
    (subst (λ (o : Own). o.spent ≤ 61) (sym own) c.requires.spent) (subst (λ (o : Own). o.since < 56) (sym own) c.requires.since) in
    let few : c.count_steps.new.self.spent ≤ 62 = subst (λ (o : Own). o.spent ≤ 62) (sym c.count_steps.ensures.own) room.0 in
    omega (arith, few)

pub count_one-requires-clause-since : goal.count_one-requires-clause-since
count_one-requires-clause-since g c =
    let own : own_of c.pass.new.self ≡ own_of c.args.self.now = ap (λ (p : Parts g.row.L.Denot). own_of p) c.pass.ensures in
    let small : owed_tick c.args.slot ≤ 1 = owed_small c.args.slot in
    let ticks : ℕ = c.args.steps + c.args.before - c.owed_tick.result in
    let room = counts_leave_room (ticks + owed_tick c.args.slot - c.args.before) ticks c.args.slot (own_of c.pass.new.self) (λ none. omega (arith, small, none))
    (subst (λ (o : Own). o.spent ≤ 61) (sym own) c.requires.spent) (subst (λ (o : Own). o.since < 56) (sym own) c.requires.since) in
    subst (λ (o : Own). o.since ≤ 56) (sym c.count_steps.ensures.own) room.1
