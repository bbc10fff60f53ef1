-- Which process has not ended where all have to.
use Rattle.std.proofs.Common.{◌≡◌, ◌∙◌, ℕ, zero, suc, ◌+◌, ◌<◌, ◌≤◌, Bool, true, false, length, sym, ap, subst, arith}
use Rattle.std.specs.Prelude.{Option, Some, None, is_some, if◌then◌else◌}
use Rattle.std.proofs.lemmas.Bool.{true≢false}
use Rattle.ds_procs.specs.declared.process.Standing.{Standing}
use Rattle.ds_pagemap.specs.Machine.{State, has_ended, process_of}
use Rattle.ds_station.specs.Outcome.{first_unended, unended_from}
use Rattle.ds_station.specs.declared.outcome.Unended.{Unended}
use Rattle.ds_drive.specs.Outcomes.{where_wanted}

abbrev process_or : Option Unended → ℕ
process_or None = 0
process_or (Some u) = u.process

-- a number of one of so many processes
abbrev IsOneOf : ℕ → ℕ → Type 0
IsOneOf count p = (0 < p) × (p ≤ count)

found_by : (ended : Bool) (s : Standing) (p n count : ℕ) (u : Unended) (rest : Option Unended) → 0 < p → p + suc n ≤ count + 1 → (rest ≡ Some u → IsOneOf count u.process)
    → ◌≡◌ {A = Option Unended} (if ended then rest else Some (record { process = p; standing = s })) (Some u) → IsOneOf count u.process
found_by true s p n count u rest above within others found = others found
found_by false s p n count u rest above within others found = subst (IsOneOf count) (ap process_or found) (above, omega (arith, within))

found_within : (m : State) (p n count : ℕ) (u : Unended) → 0 < p → p + n ≤ count + 1 → unended_from m p n ≡ Some u → IsOneOf count u.process
found_within m p zero count u above within found = absurd (true≢false (ap is_some (sym found)))
found_within m p (suc n) count u above within found =
    found_by (has_ended (process_of m p).standing) (process_of m p).standing p n count u (unended_from m (p + 1) n) above within
    (λ more. found_within m (p + 1) n count u (omega arith) (omega (arith, within)) more) found

-- the first that has not ended is one of all
unended_within : (m : State) (u : Unended) → first_unended m ≡ Some u → IsOneOf (length m.processes) u.process
unended_within m u found = found_within m 1 (length m.processes) (length m.processes) u (omega arith) (omega arith) found

wanted_is : (must : Bool) (u : Option Unended) (v : Unended) → where_wanted must u ≡ Some v → u ≡ Some v
wanted_is true u v is = is
wanted_is false u v is = absurd (true≢false (ap is_some (sym is)))

module _ (must : Bool) (m : State) (r : Option Unended) (u : Unended) (is : r ≡ where_wanted must (first_unended m)) (found : r ≡ Some u) where
  -- so where all have to end
  pub unmet_above : 0 < u.process
  unmet_above = (unended_within m u (wanted_is must (first_unended m) u (sym is ∙ found))).0

  pub unmet_within : u.process ≤ length m.processes
  unmet_within = (unended_within m u (wanted_is must (first_unended m) u (sym is ∙ found))).1
