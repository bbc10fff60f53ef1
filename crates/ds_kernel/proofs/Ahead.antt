-- How far a block of instructions may go.
use Rattle.std.proofs.Common.{◌≡◌, ◌≢◌, ℕ, ◌+◌, ◌-◌, ◌<◌, ◌≤◌, Bool, true, false, nat_le, List, [], ◌∷◌, None, refl, sym, subst, arith}
use Rattle.std.specs.Prelude.{min, is_some, Option, Some}
use Rattle.std.specs.List.Sorted.{IsNonDecreasingBy}
use Rattle.std.proofs.lemmas.Bool.Decides.{nat_tests}
use Rattle.std.proofs.Math.Nat.{min-eq_left, min-eq_right, min-le_right}
use Rattle.ds_cp0.specs.System.{is_user}
use Rattle.ds_ahead.specs.Inner.Ahead.{owed_tick}
use Rattle.ds_policy.specs.InputFacts.{has_time, comes_at}
use Rattle.ds_pagemap.specs.declared.turn.Turn.{Turn}
use Rattle.ds_pagemap.specs.Machine.{first}
use Rattle.ds_refinement.specs.Inner.Blocks.{MayRunAhead}
use Rattle.ds_refinement.proofs.Quieter.{quiet_until, user_status_of}
use Rattle.ds_refinement.proofs.Tallied.{few_of}
use Rattle.ds_monitor.specs.Inner.Coming.{first_time, first_due, period_end}
use Rattle.ds_kernel.specs.declared.parts.Parts.{Parts}
use Rattle.ds_kernel.specs.Inner.Parts.{held}
use Rattle.ds_kernel.specs.Inner.Good.{IsGood}
use Rattle.ds_kernel.proofs.Waiting.{due_later, passed_later}
use Rattle.ds_kernel.proofs.Bounding.{nothing_due}
use Rattle.ds_kernel.proofs.Doing.{owed_small}

pub may_run_ahead : {L : Type 0} (p : Parts L) (limit : ℕ) → IsGood p → IsNonDecreasingBy has_time p.monitor.due.commands → IsNonDecreasingBy comes_at p.monitor.due.characters → p.monitor.owed ≡ None → p.monitor.ready ≢ [] → is_user p.core.system ≡ true
    → p.monitor.time + limit + owed_tick p.core.slot < p.monitor.quiet_until → MayRunAhead limit (held p)
may_run_ahead p limit good commands order owed ready user early =
    let last : ℕ = p.monitor.time + limit + owed_tick p.core.slot in record {
      owed = owed;
      ready = ready;
      mode = user_status_of (held p) good.sound user;
      few = (few_of (held p) good.sound.state good.sound.stands).spent;
      quiet = quiet_until last (held p).kept good.orderly.ticked (nothing_due p.monitor last p.monitor.owed commands order good.next early good.orderly.kept);
    }

below_both : (a b t : ℕ) → t < a → t < b → t < min a b
below_both a b t x y = elim (nat_le a b) as (λ (r : Bool). nat_le a b ≡ r → t < min a b) [
  | true ↦ λ e. (let l : a ≤ b = grind (arith, nat_tests) in subst (λ (n : ℕ). t < n) (sym (min-eq_left l)) x)
  | false ↦ λ e. (let l : b ≤ a = grind (arith, nat_tests) in subst (λ (n : ℕ). t < n) (sym (min-eq_right l)) y)
] refl

-- where two instructions may run ahead, and the time before which no right ends is not reached, nothing is due up to the boundary after one
pub goes_two : {L : Type 0} (p : Parts L) → IsGood p → p.monitor.time + 2 < p.monitor.ends → MayRunAhead 2 (held p) → p.monitor.time + 1 + owed_tick p.core.slot < p.monitor.quiet_until
goes_two p good none goes =
    let early : p.monitor.time ≤ 1000000001 = good.orderly.early in
    let small : owed_tick p.core.slot ≤ 1 = owed_small p.core.slot in
    let soon = p.monitor.time + 1 + owed_tick p.core.slot in
    let last = p.monitor.time + 2 + owed_tick p.core.slot in
    let q = goes.quiet.quiet last (omega arith) (omega arith) in
    let ordered : last < first_time has_time p.monitor.due.commands = due_later has_time last p.monitor.due.commands (omega (arith, early, small)) q.commands in
    let first : last < first_time comes_at p.monitor.due.characters = due_later comes_at last p.monitor.due.characters (omega (arith, early, small)) q.characters in
    let passes : last < period_end p.monitor.rate p.monitor.ticked = passed_later p.monitor.rate p.monitor.ticked last (omega (arith, early, small)) q.period in
    subst (λ (n : ℕ). soon < n) (sym good.next)
    (below_both (min (first_due p.monitor.due) (period_end p.monitor.rate p.monitor.ticked)) p.monitor.ends soon
    (below_both (first_due p.monitor.due) (period_end p.monitor.rate p.monitor.ticked) soon
    (below_both (first_time has_time p.monitor.due.commands - 1) (first_time comes_at p.monitor.due.characters) soon (omega (arith, ordered)) (omega (arith, first))) (omega (arith, passes))) (omega (arith, none, small)))

-- the time at which the last boundary of a block comes
pub within_quiet : (time n q owed end : ℕ) → end ≡ min n (q - owed) → time + 1 < end → time + (end - time - 1) + owed < q
within_quiet time n q owed end is some =
    let most : min n (q - owed) ≤ q - owed = min-le_right n (q - owed) in
    omega (arith, is, some, most)

-- the last boundary of a block of some instructions comes before anything is due
pub before_quiet : (time n q owed limit : ℕ) → time + limit + 1 ≡ min n (q - owed) → 1 ≤ limit → time + limit + 1 + owed ≤ q
before_quiet time n q owed limit is some =
    let most : min n (q - owed) ≤ q - owed = min-le_right n (q - owed) in
    omega (arith, is, some, most)

pub no_end : (time n q owed end : ℕ) → end ≡ min n (q - owed) → end ≤ time + 1 → time + 1 < n → time + 1 + owed < q → ⊥
no_end time n q owed end is few soon quiet =
    let past : time + 1 < min n (q - owed) = below_both n (q - owed) (time + 1) soon (omega (arith, quiet)) in
    omega (arith, is, few, past)

pub none_owed : (o : Option Turn) → is_some o ≡ false → o ≡ None
none_owed None e = refl
none_owed (Some turn) e = absurd (cc)

pub some_ready : (queue : List ℕ) → is_some (first queue) ≡ true → queue ≢ []
some_ready [] e = absurd (cc)
some_ready (p ∷ rest) e = λ none. absurd (cc)
