-- Who lives: what the marks of the grants tell is what the processes' standings tell.
use Rattle.std.proofs.Common.{◌≡◌, ◌∙◌, ℕ, zero, suc, ◌+◌, ◌-◌, Bool, true, false, not, ◌&&◌, nat_lt, List, [], ◌∷◌, length, map, refl, sym, ap, ap₂, arith}
use Rattle.std.specs.Prelude.{slice_index_or}
use Rattle.std.proofs.lemmas.Bool.Decides.{nat_tests}
use Rattle.ds_policy.specs.declared.grant.Right.{Right}
use Rattle.ds_policy.specs.Grants.{PageState, give, take, grant, narrow, revoke, drop_by_command}
use Rattle.ds_grants.specs.State.{GrantsState}
use Rattle.ds_grants.specs.Inner.State.{lives_in}
use Rattle.ds_pagemap.specs.Machine.{State, Process, no_process, process_of, has_ended, lives}
use Rattle.ds_monitor.specs.Inner.Ended.{marks_of}

below_next : (i n : ℕ) → nat_lt (suc i) (suc n) ≡ nat_lt i n
below_next i n = grind (arith, nat_tests)

none_below : (i : ℕ) → nat_lt i 0 ≡ false
none_below i = grind (arith, nat_tests)

some_below : (n : ℕ) → nat_lt 0 (suc n) ≡ true
some_below n = grind (arith, nat_tests)

-- a process that is there and hasn't ended has no mark
marked : (qs : List Process) (i : ℕ) → (nat_lt i (length qs) && not (has_ended (slice_index_or qs i no_process).standing)) ≡ not (slice_index_or (map (λ (q : Process). has_ended q.standing) qs) i true)
marked [] i = ap (λ (b : Bool). b && not (has_ended no_process.standing)) (none_below i)
marked (q ∷ qs) zero = ap (λ (b : Bool). b && not (has_ended q.standing)) (some_below (length qs))
marked (q ∷ qs) (suc i) = ap (λ (b : Bool). b && not (has_ended (slice_index_or qs i no_process).standing)) (below_next i (length qs)) ∙ marked qs i

-- the processes that live are those without a mark
pub lives_as : (m : State) (g : GrantsState) (p : ℕ) → marks_of m ≡ g.ended → lives m p ≡ lives_in g p
lives_as m g zero marks = refl
lives_as m g (suc i) marks =
    let next : length m.processes + 1 ≡ suc (length m.processes) = omega arith in
    let before : suc i - 1 ≡ i = omega arith in
    ap (λ (b : Bool). nat_lt 0 (suc i) && b)
    (ap₂ (λ (n k : ℕ). nat_lt (suc i) n && not (has_ended (slice_index_or m.processes k no_process).standing)) next before
    ∙ (ap (λ (b : Bool). b && not (has_ended (slice_index_or m.processes i no_process).standing)) (below_next i (length m.processes))
    ∙ (marked m.processes i ∙ ap₂ (λ (bs : List Bool) (k : ℕ). not (slice_index_or bs k true)) marks (sym before))))

-- who lives hasn't ended
pub lives_alive : (m : State) (p : ℕ) → lives m p ≡ true → has_ended (process_of m p).standing ≡ false
lives_alive m p is = by (nat_lt 0 p) (nat_lt p (length m.processes + 1)) (has_ended (process_of m p).standing) is
  where
    by : (a b e : Bool) → (a && (b && not e)) ≡ true → e ≡ false
    by true true false is = refl
    by true true true is = absurd (cc)
    by true false e is = absurd (cc)
    by false b e is = absurd (cc)

-- Each command asks of one process alone whether it lives.
module _ (f g : ℕ → Bool) (s : PageState) (p address : ℕ) (same : f p ≡ g p) where
  pub grant_as : (page : ℕ) (right : Right) (may : Bool) (rule : ℕ) → grant f s p address page right may rule ≡ grant g s p address page right may rule
  grant_as page right may rule = rw same refl

  pub narrow_as : narrow f s p address ≡ narrow g s p address
  narrow_as = rw same refl

  pub revoke_as : (rule : ℕ) → revoke f s p address rule ≡ revoke g s p address rule
  revoke_as rule = rw same refl

  pub drop_as : drop_by_command f s p address ≡ drop_by_command g s p address
  drop_as = rw same refl

-- And so does each call.

pub give_as : (f g : ℕ → Bool) (s : PageState) (caller address receiver to mode : ℕ) → f receiver ≡ g receiver → give f s caller address receiver to mode ≡ give g s caller address receiver to mode
give_as f g s caller address receiver to mode same = rw same refl

pub take_as : (f g : ℕ → Bool) (s : PageState) (caller p address : ℕ) → f p ≡ g p → take f s caller p address ≡ take g s caller p address
take_as f g s caller p address same = rw same refl
