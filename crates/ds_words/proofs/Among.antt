-- Which processes are in the set of a list of numbers.
use Rattle.std.proofs.Common.{◌≡◌, ◌∙◌, ◌||◌, ◌&&◌, ℕ, Bool, true, false, List, [], ◌∷◌, length, length-set, inl, inr, sym, ap, refl, arith}
use Rattle.std.specs.Prelude.{◌==◌, nat_le, replicate, slice_index_or}
use Rattle.std.specs.List.{fold, list_any}
use Rattle.std.proofs.lemmas.Bool.{cases_eq, cases_lt, eq-eqb, ne_eqb}
use Rattle.std.proofs.lemmas.Bool.Decides.{nat_tests}
use Rattle.std.proofs.lemmas.List.{get_or-set_same, get_or-set_other, get_or-replicate, get_or_past, length-replicate, set_past}
use Rattle.ds_words.specs.declared.processes.Processes.{Processes}
use Rattle.ds_words.specs.Sets.{has_process, no_processes, processes_numbered, joined_process}
use Rattle.ds_words.specs.Inner.Sets.{is_among}

none_within : (n p : ℕ) → slice_index_or (replicate n false) p false ≡ false
none_within n p = elim (cases_lt p n) [
  | inl within ↦ get_or-replicate {A = Bool} n p false false within
  | inr past ↦
      let size = length-replicate {A = Bool} n false in
      get_or_past (replicate n false) p false (omega arith)
]

or_false : (b : Bool) → b ≡ (b || false)
or_false true = refl
or_false false = refl

or_none : (b c : Bool) → b ≡ (b || (c && false))
or_none true c = refl
or_none false true = refl
or_none false false = refl

either : (b l e a : Bool) → ((b || (l && e)) || (l && a)) ≡ (b || (l && (e || a)))
either true l e a = refl
either false true e a = refl
either false false e a = refl

or_true : (b : Bool) → true ≡ (b || true)
or_true true = refl
or_true false = refl

-- what one more number adds
one_more : (s : Processes) (n p : ℕ) → length s.marks ≡ 101
    → has_process (joined_process s n) p ≡ (has_process s p || (nat_le p 100 && n == p))
one_more s n p size = elim (cases_eq p n) [
  | inl same ↦ elim (cases_lt p 101) [
    | inl within ↦
        let low : nat_le p 100 ≡ true = grind (arith, nat_tests) in
        rw (low, eq-eqb n p (sym same)) (rw same (get_or-set_same s.marks n true false (omega (arith, within, size, same))) ∙ or_true (has_process s p))
    | inr past ↦
        let high : nat_le p 100 ≡ false = grind (arith, nat_tests) in
        rw high (ap (λ (xs : List Bool). slice_index_or xs p false) (set_past s.marks n true (omega (arith, past, size, same))) ∙ or_false (has_process s p))
  ]
  | inr other ↦ rw (ne_eqb n p (λ e. other (sym e))) (get_or-set_other s.marks n p true false other ∙ or_none (has_process s p) (nat_le p 100))
]

among : (numbers : List ℕ) (s : Processes) (p : ℕ) → length s.marks ≡ 101
    → has_process (fold joined_process s numbers) p ≡ (has_process s p || is_among numbers p)
among [] s p size = or_none (has_process s p) (nat_le p 100)
among (n ∷ rest) s p size = among rest (joined_process s n) p (length-set s.marks n true ∙ size)
    ∙ (ap (λ b. b || is_among rest p) (one_more s n p size) ∙ either (has_process s p) (nat_le p 100) (n == p) (list_any (λ m. m == p) rest))

-- a process is in the set of these numbers where its own is among them
pub held : (numbers : List ℕ) (p : ℕ) → has_process (processes_numbered numbers) p ≡ is_among numbers p
held numbers p = among numbers no_processes p refl ∙ ap (λ b. b || is_among numbers p) (none_within 101 p)
