-- Processes that wake, and the one that goes to the end.
use Rattle.std.proofs.Common.{◌≡◌, ◌∙◌, ℕ, zero, suc, ◌+◌, ◌-◌, ◌<◌, Bool, true, false, ◌&&◌, ◌||◌, cond, if◌then◌else◌, List, [], ◌∷◌, length, map, refl, sym, ap, subst, arith}
use Rattle.std.specs.Prelude.{slice_index_or, slice_set, nat_lt, All, ◌≢◌, ◌==◌, not, drop, take, ◌++◌, Some}
use Rattle.std.proofs.lemmas.Bool.Decides.{nat_tests}
use Rattle.std.specs.List.{list_any}
use Rattle.std.proofs.lemmas.List.{get_or-map, length-map}
use Rattle.ds_procs.specs.declared.process.Standing.{Standing}
use Rattle.ds_procs.specs.Inner.Queue.{IsQueue, without}
use Rattle.ds_pagemap.specs.Machine.{State, Process, no_process, process_of, is_waiting, made_ready, first}
use Rattle.ds_pagemap.specs.Calls.{queue_of}
use Rattle.ds_pagemap.specs.Boundary.{wakes, woken}
use Rattle.ds_refinement.specs.Held.{Kept}
use Rattle.ds_monitor.specs.Inner.Kept.{kept_after}

next_count : (count p : ℕ) → p < count + 1 → count + 1 - p ≡ suc (count + 1 - (p + 1))
next_count count p l = omega (arith, l)

-- who wakes from p on are p, if it wakes, and those after it
pub wakes_on : (m : State) (p count : ℕ) → p < count + 1 → woken m p (count + 1 - p) ≡ woken (woken m p 1) (p + 1) (count + 1 - (p + 1))
wakes_on m p count l = ap (λ (n : ℕ). woken m p n) (next_count count p l)

-- after the last nobody wakes
pub wakes_end : (m : State) (p count : ℕ) → count < p → woken m p (count + 1 - p) ≡ m
wakes_end m p count l = let none : count + 1 - p ≡ 0 = omega (arith, l) in ap (λ (n : ℕ). woken m p n) none

-- the lines stay where a process stands otherwise
pub lines_same : (qs : List Process) (i : ℕ) (d : Process) (s : Standing) → map (λ (q : Process). q.line) (slice_set qs i (record (slice_index_or qs i d) { standing = s })) ≡ map (λ (q : Process). q.line) qs
lines_same [] i d s = refl
lines_same (q ∷ qs) zero d s = refl
lines_same (q ∷ qs) (suc i) d s = ap (λ (ls : List ℕ). q.line ∷ ls) (lines_same qs i d s)

-- each process has one of four lines
pub line_there : (qs : List Process) (i : ℕ) → i < length qs → All (λ l. l < 4) (map (λ (q : Process). q.line) qs) → (slice_index_or qs i no_process).line < 4
line_there qs i within all = subst (λ (n : ℕ). n < 4) (get_or-map (λ (q : Process). q.line) qs i no_process 0 within) (all i 0 (omega (arith, within, length-map qs (λ (q : Process). q.line))))

-- one process
pub woken_by : (b : Bool) (k n : Kept) (p : ℕ) → wakes k.state p ≡ b → n ≡ record k { state = cond b (made_ready k.state p) k.state } → n ≡ kept_after (λ (m : State). woken m p 1) k
woken_by b k n p e is = is ∙ ap (λ (x : Bool). record k { state = cond x (made_ready k.state p) k.state }) (sym e)

-- where no character is there nobody wakes
or_left : (a b : Bool) → a || b ≡ false → a ≡ false
or_left true b is = absurd cc
or_left false b is = refl

or_right : (a b : Bool) → a || b ≡ false → b ≡ false
or_right true b is = absurd cc
or_right false b is = is

and_no : (a b : Bool) → b ≡ false → a && b ≡ false
and_no true b is = is
and_no false b is = refl

none_at : (f : List ℕ → Bool) (qs : List (List ℕ)) (i : ℕ) (d : List ℕ) → list_any f qs ≡ false → f d ≡ false → f (slice_index_or qs i d) ≡ false
none_at f [] i d none default = default
none_at f (q ∷ qs) zero d none default = or_left (f q) (list_any f qs) none
none_at f (q ∷ qs) (suc i) d none default = none_at f qs i d (or_right (f q) (list_any f qs) none) default

no_wake : (m : State) (p : ℕ) → list_any (λ (q : List ℕ). nat_lt 0 (length q)) m.queues ≡ false → wakes m p ≡ false
no_wake m p none = and_no (is_waiting (process_of m p).standing) (nat_lt 0 (length (queue_of m p))) (none_at (λ (q : List ℕ). nat_lt 0 (length q)) m.queues (process_of m p).line [] none refl)

pub none_wakes : (m : State) (p n : ℕ) → list_any (λ (q : List ℕ). nat_lt 0 (length q)) m.queues ≡ false → woken m p n ≡ m
none_wakes m p zero none = refl
none_wakes m p (suc n) none = ap (λ (b : Bool). woken (if b then made_ready m p else m) (p + 1) n) (no_wake m p none) ∙ none_wakes m (p + 1) n none

-- who is not in a list is not missed there
without_none : (xs : List ℕ) (p : ℕ) → ((k : ℕ) → k < length xs → slice_index_or xs k 0 ≢ p) → without xs p ≡ xs
without_none [] p apart = refl
without_none (x ∷ xs) p apart =
    let other : x ≢ p = apart zero (omega arith) in
    let no : (x == p) ≡ false = grind (arith, nat_tests) in
    ap (λ (b : Bool). cond (not b) (x ∷ without xs p) (without xs p)) no
    ∙ ap (λ (rest : List ℕ). x ∷ rest) (without_none xs p (λ k within. apart (suc k) (omega (arith, within))))

without_head : (x : ℕ) (xs : List ℕ) → IsQueue (x ∷ xs) → without (x ∷ xs) x ≡ xs
without_head x xs queue =
    let same : (x == x) ≡ true = grind (arith, nat_tests) in
    ap (λ (b : Bool). cond (not b) (x ∷ without xs x) (without xs x)) same
    ∙ without_none xs x (λ k within e. queue.distinct zero (suc k) 0 (omega arith) (omega (arith, within)) (sym e))

-- the first of a queue goes to its end
pub first_to_end : (xs : List ℕ) (p : ℕ) → IsQueue xs → first xs ≡ Some p → drop 1 xs ++ take 1 xs ≡ without xs p ++ p ∷ []
first_to_end [] p queue is = absurd (cc)
first_to_end (x ∷ xs) p queue is =
    let same : x ≡ p = cc in
    subst (λ (q : ℕ). xs ++ x ∷ [] ≡ without (x ∷ xs) q ++ q ∷ []) same (ap (λ (ys : List ℕ). ys ++ x ∷ []) (sym (without_head x xs queue)))
