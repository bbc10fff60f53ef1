-- How far each process is to go, one after another.
use Rattle.std.proofs.Common.{◌≡◌, ℕ, suc, ◌+◌, ◌-◌, ◌<◌, ◌≤◌, List, [], ◌∷◌, ◌++◌, append_assoc, refl, sym, ap, ◌∙◌, arith, Option}
use Rattle.std.proofs.lemmas.List.{append-nil}
use Rattle.ds_packets.specs.declared.packet.Action.{Action}
use Rattle.ds_packets.specs.declared.packet.Who.{Who}
use Rattle.ds_debug.specs.Resumes.{action_by, actions_from}

one_left : (count i : ℕ) → i < count → count - i ≡ suc (count - (i + 1))
one_left count i within = omega (arith, within)

actions_first : (a : Option Action) (w : Who) (words : List ℕ) (p n : ℕ) → action_by a w words p ∷ actions_from a w words (p + 1) n ≡ actions_from a w words p (suc n)
unfolding actions_from
actions_first a w words p n = refl

actions_none : (a : Option Action) (w : Who) (words : List ℕ) (p : ℕ) → [] ≡ actions_from a w words p 0
unfolding actions_from
actions_none a w words p = refl

-- at first all of them are left
pub actions_start : (a : Option Action) (w : Who) (words : List ℕ) (count : ℕ) → [] ++ actions_from a w words 0 (count - 0) ≡ actions_from a w words 0 count
actions_start a w words count = let all : count - 0 ≡ count = omega arith in ap (actions_from a w words 0) all

-- with one more, so many are left
pub actions_more : (a : Option Action) (w : Who) (words : List ℕ) (p count : ℕ) (before all : List (Option Action)) (next : Option Action) → p < count → next ≡ action_by a w words p
    → before ++ actions_from a w words p (count - p) ≡ all → (before ++ next ∷ []) ++ actions_from a w words (p + 1) (count - (p + 1)) ≡ all
actions_more a w words p count before all next within is left =
    let rest : List (Option Action) = actions_from a w words (p + 1) (count - (p + 1)) in
    append_assoc before (next ∷ []) rest
    ∙ (ap (λ (x : Option Action). before ++ x ∷ rest) is
    ∙ (ap (λ (x : List (Option Action)). before ++ x) (actions_first a w words p (count - (p + 1)))
    ∙ (ap (λ (n : ℕ). before ++ actions_from a w words p n) (sym (one_left count p within)) ∙ left)))

-- and at the end none is
pub actions_end : (a : Option Action) (w : Who) (words : List ℕ) (p count : ℕ) (before all : List (Option Action)) → count ≤ p → before ++ actions_from a w words p (count - p) ≡ all → before ≡ all
actions_end a w words p count before all past left =
    let none : 0 ≡ count - p = omega (arith, past) in
    sym (append-nil before) ∙ (ap (λ (x : List (Option Action)). before ++ x) (actions_none a w words p) ∙ (ap (λ (n : ℕ). before ++ actions_from a w words p n) none ∙ left))
