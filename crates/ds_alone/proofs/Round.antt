-- What a process that goes round alone never does is found by one round.
use Rattle.std.proofs.Common.{◌≡◌, ℕ, zero, suc, ◌+◌, ◌-◌, ◌<◌, ◌≤◌, Bool, true, false, cond, [], ◌∷◌, length, refl, sym, ap, ◌∙◌, subst, arith, inl, inr}
use Rattle.std.specs.Prelude.{◌&&◌}
use Rattle.std.proofs.lemmas.Bool.{cases_lt}
use Rattle.ds_pagemap.specs.Machine.{State, process_of}
use Rattle.ds_pagemap.specs.Unit.{unit}
use Rattle.ds_promise.specs.Quiet.{quiet_first}
use Rattle.ds_alone.specs.Alone.{NothingWaits, SeemsAlike}
use Rattle.ds_alone.specs.Deeds.{only, is_ready, next_asks_nothing, asks_nothing_alone, AsksNothing, alone_after}
use Rattle.ds_alone.specs.Tests.{GoesRound}
use Rattle.ds_alone.specs.Touched.{quiet_alone, IsQuietAlone}
use Rattle.ds_alone.proofs.Inputs.{units_quiet_too}
use Rattle.ds_alone.proofs.Lines.{unit_wrote}
use Rattle.ds_alone.proofs.Tests.{seen_alike}
use Rattle.ds_alone.proofs.Units.{fine_step, waits_next, units_ask_too}

nothing_more : (k : ℕ) → zero + k ≡ k
nothing_more k = omega arith

one_less : (i k : ℕ) → suc i + k ≡ suc (i + k)
one_less i k = omega arith

and_so : (a b : Bool) → a ≡ true → b ≡ true → (a && b) ≡ true
and_so true b e f = f
and_so false b e f = e

-- a test of each unit, while process p is ready
module _ (p : ℕ) (fine : State → Bool) (alone : ℕ → State → Bool)
    (none : (m : State) → alone zero m ≡ true)
    (step : (k : ℕ) (m : State) → alone (suc k) m ≡ cond (is_ready (process_of m p).standing) (fine m && alone k (unit (only p m))) true) where
  -- fewer units pass where more do
  fewer : (i j : ℕ) (m : State) → i ≤ j → alone j m ≡ true → alone i m ≡ true
  fewer zero j m h e = none m
  fewer (suc i) zero m h e = absurd (omega (arith, h))
  fewer (suc i) (suc j) m h e = step i m ∙ either (is_ready (process_of m p).standing) refl (fewer i j (unit (only p m)) (omega (arith, h)))
    where
      either : (b : Bool) → is_ready (process_of m p).standing ≡ b → (alone j (unit (only p m)) ≡ true → alone i (unit (only p m)) ≡ true) → cond b (fine m && alone i (unit (only p m))) true ≡ true
      either false is more = refl
      either true is more =
          let f = fine_step (is_ready (process_of m p).standing) (fine m) (alone j (unit (only p m))) (sym (step j m) ∙ e) is in
          and_so (fine m) (alone i (unit (only p m))) f.0 (more f.1)

  -- who is no longer ready passes
  over : (k : ℕ) (m : State) → is_ready (process_of m p).standing ≡ false → alone k m ≡ true
  over zero m is = none m
  over (suc k) m is = step k m ∙ ap (λ (b : Bool). cond b (fine m && alone k (unit (only p m))) true) is

  -- what comes after so many units passes
  later : (i k : ℕ) (m : State) → alone (i + k) m ≡ true → alone k (alone_after p i m) ≡ true
  later zero k m e = subst (λ (j : ℕ). alone j m ≡ true) (nothing_more k) e
  later (suc i) k m e = either (is_ready (process_of m p).standing) refl (later i k (unit (only p m)))
    where
      either : (b : Bool) → is_ready (process_of m p).standing ≡ b → (alone (i + k) (unit (only p m)) ≡ true → alone k (alone_after p i (unit (only p m))) ≡ true) → alone k (cond b (alone_after p i (unit (only p m))) m) ≡ true
      either false is more = over k m is
      either true is more = more (fine_step (is_ready (process_of m p).standing) (fine m) (alone (i + k) (unit (only p m))) (sym (step (i + k) m) ∙ (ap (λ (j : ℕ). alone j m) (sym (one_less i k)) ∙ e)) is).1

  -- so many units pass, and so many after them
  joined : (i k : ℕ) (m : State) → alone i m ≡ true → alone k (alone_after p i m) ≡ true → alone (i + k) m ≡ true
  joined zero k m e f = subst (λ (j : ℕ). alone j m ≡ true) (sym (nothing_more k)) f
  joined (suc i) k m e f = ap (λ (j : ℕ). alone j m) (one_less i k) ∙ (step (i + k) m ∙ either (is_ready (process_of m p).standing) refl f (joined i k (unit (only p m))))
    where
      either : (b : Bool) → is_ready (process_of m p).standing ≡ b → alone k (cond b (alone_after p i (unit (only p m))) m) ≡ true
          → (alone i (unit (only p m)) ≡ true → alone k (alone_after p i (unit (only p m))) ≡ true → alone (i + k) (unit (only p m)) ≡ true)
          → cond b (fine m && alone (i + k) (unit (only p m))) true ≡ true
      either false is f more = refl
      either true is f more =
          let one = fine_step (is_ready (process_of m p).standing) (fine m) (alone i (unit (only p m))) (sym (step i m) ∙ e) is in
          and_so (fine m) (alone (i + k) (unit (only p m))) one.0 (more one.1 f)

  -- all units pass, where so many do, and with them all those after them
  all_after : (i : ℕ) (m : State) → alone i m ≡ true → ((k : ℕ) → alone k (alone_after p i m) ≡ true) → (k : ℕ) → alone k m ≡ true
  all_after i m e rest k = elim (cases_lt k i) [
    | inl less ↦ fewer k i m (omega (arith, less)) e
    | inr more ↦ subst (λ (j : ℕ). alone j m ≡ true) (back i k more) (joined i (k - i) m e (rest (k - i)))
  ]
    where
      back : (i k : ℕ) → i ≤ k → i + (k - i) ≡ k
      back i k h = omega (arith, h)

  -- all units of rounds pass
  rounds : (d : ℕ) (m : State) → 0 < d → alone d m ≡ true → ((k : ℕ) → alone k m ≡ true → alone k (alone_after p d m) ≡ true) → (most k : ℕ) → k ≤ most → alone k m ≡ true
  rounds d m some e again zero k h = fewer k zero m h (none m)
  rounds d m some e again (suc most) k h = elim (cases_lt k d) [
    | inl less ↦ fewer k d m (omega (arith, less)) e
    | inr more ↦ subst (λ (j : ℕ). alone j m ≡ true) (back d k more) (joined d (k - d) m e (again (k - d) (rounds d m some e again most (k - d) (fewer_left d k most some h))))
  ]
    where
      back : (d k : ℕ) → d ≤ k → d + (k - d) ≡ k
      back d k h = omega (arith, h)

      fewer_left : (d k most : ℕ) → 0 < d → k ≤ suc most → k - d ≤ most
      fewer_left d k most some h = omega (arith, some, h)

  pub all_rounds : (before round : ℕ) (m : State) → 0 < round → alone (before + round) m ≡ true
      → ((k : ℕ) → alone k (alone_after p before m) ≡ true → alone k (alone_after p round (alone_after p before m)) ≡ true) → (k : ℕ) → alone k m ≡ true
  all_rounds before round m some e again = all_after before m (fewer before (before + round) m (omega arith) e)
      (λ k. rounds round (alone_after p before m) some (later before round m e) again k k (omega arith))

-- it is there after a unit
one_more : (p : ℕ) (m : State) → 0 < p → p ≤ length m.processes → p ≤ length (unit (only p m)).processes
one_more p m above within = let e = (unit_wrote p (only p m) [] refl above within).many in omega (arith, e, within)

-- what stands along the way
there : (listens : Bool) (p k : ℕ) (m : State) → 0 < p → p ≤ length m.processes → NothingWaits listens p m → (p ≤ length (alone_after p k m).processes) × NothingWaits listens p (alone_after p k m)
there listens p zero m above within waits = (within, waits)
there listens p (suc k) m above within waits = by (is_ready (process_of m p).standing) (there listens p k (unit (only p m)) above (one_more p m above within) (waits_next listens p m above within waits))
  where
    by : (b : Bool) → (p ≤ length (alone_after p k (unit (only p m))).processes) × NothingWaits listens p (alone_after p k (unit (only p m)))
        → (p ≤ length (cond b (alone_after p k (unit (only p m))) m).processes) × NothingWaits listens p (cond b (alone_after p k (unit (only p m))) m)
    by true next = next
    by false next = (within, waits)

module _ (listens : Bool) (p before round : ℕ) (m : State) (above : 0 < p) (within : p ≤ length m.processes) (waits : NothingWaits listens p m) (goes : GoesRound p before round m)
    (asks : asks_nothing_alone listens p (before + round) m ≡ true) where
  abbrev one : State
  one = alone_after p before m

  at_one : (p ≤ length one.processes) × NothingWaits listens p one
  at_one = there listens p before m above within waits

  at_two : (p ≤ length (alone_after p round one).processes) × NothingWaits listens p (alone_after p round one)
  at_two = there listens p round one above at_one.0 at_one.1

  seems : SeemsAlike p one (alone_after p round one)
  seems = seen_alike p one (alone_after p round one) above at_one.0 at_two.0 goes.again

  asks_round : (k : ℕ) → asks_nothing_alone listens p k m ≡ true
  asks_round = all_rounds p (λ x. next_asks_nothing listens p (only p x)) (asks_nothing_alone listens p) (λ x. refl) (λ j x. refl) before round m goes.some asks
      (λ k e. units_ask_too listens p k one (alone_after p round one) seems at_one.1 at_two.1 e)

  asks_there : (k : ℕ) → asks_nothing_alone listens p k one ≡ true
  asks_there k = later p (λ x. next_asks_nothing listens p (only p x)) (asks_nothing_alone listens p) (λ x. refl) (λ j x. refl) before k m (asks_round (before + k))

  quiet_round : quiet_alone p (before + round) m ≡ true → (k : ℕ) → quiet_alone p k m ≡ true
  quiet_round quiet = all_rounds p (λ x. quiet_first (only p x) (p ∷ [])) (quiet_alone p) (λ x. refl) (λ j x. refl) before round m goes.some quiet
      (λ k e. units_quiet_too listens p k one (alone_after p round one) seems at_one.1 at_two.1 (asks_there k) e)

pub asks_going_round : (listens : Bool) (p before round : ℕ) (m : State) → 0 < p → p ≤ length m.processes → NothingWaits listens p m → GoesRound p before round m → asks_nothing_alone listens p (before + round) m ≡ true → AsksNothing listens p m
asks_going_round listens p before round m above within waits goes asks = record { units = asks_round listens p before round m above within waits goes asks }

pub quiet_going_round : (listens : Bool) (p before round : ℕ) (m : State) → 0 < p → p ≤ length m.processes → NothingWaits listens p m → GoesRound p before round m → asks_nothing_alone listens p (before + round) m ≡ true
    → quiet_alone p (before + round) m ≡ true → IsQuietAlone p m
quiet_going_round listens p before round m above within waits goes asks quiet = record { units = quiet_round listens p before round m above within waits goes asks quiet }
