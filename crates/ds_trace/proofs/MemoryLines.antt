-- Words of memory, one after another.
use Rattle.std.proofs.Common.{◌≡◌, ℕ, suc, ◌+◌, ◌-◌, ◌<◌, ◌≤◌, List, ◌++◌, append_assoc, sym, ap, ◌∙◌, arith}
use Rattle.std.proofs.lemmas.List.{append-nil}
use Rattle.ds_policy.specs.Grants.{PageState}
use Rattle.ds_trace.specs.Memory.{piece_text, pieces_text}

one_left : (count i : ℕ) → i < count → count - i ≡ suc (count - (i + 1))
one_left count i within = omega (arith, within)

-- with a word more written, so much is left
pub pieces_more : (s : PageState) (p address count i : ℕ) (before between all : List ℕ) → i < count → between ≡ before ++ piece_text s p address count i
    → before ++ pieces_text s p address count i (count - i) ≡ all → between ++ pieces_text s p address count (i + 1) (count - (i + 1)) ≡ all
pieces_more s p address count i before between all within is left =
    let rest : List ℕ = pieces_text s p address count (i + 1) (count - (i + 1)) in
    ap (λ (x : List ℕ). x ++ rest) is
    ∙ (append_assoc before (piece_text s p address count i) rest
    ∙ (ap (λ (n : ℕ). before ++ pieces_text s p address count i n) (sym (one_left count i within))
    ∙ left))

-- at the end nothing is
pub pieces_end : (s : PageState) (p address count i : ℕ) (before all : List ℕ) → count ≤ i → before ++ pieces_text s p address count i (count - i) ≡ all → before ≡ all
pieces_end s p address count i before all past left =
    let none : 0 ≡ count - i = omega (arith, past) in
    sym (append-nil before) ∙ (ap (λ (n : ℕ). before ++ pieces_text s p address count i n) none ∙ left)
