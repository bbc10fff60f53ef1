-- Words of memory, one after another.
use Rattle.std.proofs.Common.{◌≡◌, ℕ, suc, ◌+◌, ◌-◌, ◌<◌, ◌≤◌, List, ◌++◌, append_assoc, sym, ap, ◌∙◌, arith}
use Rattle.std.proofs.lemmas.List.{append-nil}
use Rattle.ds_word.specs.Word.{word}
use Rattle.ds_dev.specs.Bus.{BusState}
use Rattle.ds_bare.specs.Looks.{piece_text, pieces_text}

one_left : (count i : ℕ) → i < count → count - i ≡ suc (count - (i + 1))
one_left count i within = omega (arith, within)

-- with a word more written, so much is left
pub pieces_more : (b : BusState) (place further count i : ℕ) (before between all : List ℕ) → i < count → between ≡ before ++ piece_text b place count i → further ≡ word (place + 4)
    → before ++ pieces_text b place count i (count - i) ≡ all → between ++ pieces_text b further count (i + 1) (count - (i + 1)) ≡ all
pieces_more b place further count i before between all within is next left =
    let rest : List ℕ = pieces_text b (word (place + 4)) count (i + 1) (count - (i + 1)) in
    ap (λ (p : ℕ). between ++ pieces_text b p count (i + 1) (count - (i + 1))) next
    ∙ (ap (λ (x : List ℕ). x ++ rest) is
    ∙ (append_assoc before (piece_text b place count i) rest
    ∙ (ap (λ (n : ℕ). before ++ pieces_text b place count i n) (sym (one_left count i within))
    ∙ left)))

-- at the end nothing is
pub pieces_end : (b : BusState) (place count i : ℕ) (before all : List ℕ) → count ≤ i → before ++ pieces_text b place count i (count - i) ≡ all → before ≡ all
pieces_end b place count i before all past left =
    let none : 0 ≡ count - i = omega (arith, past) in
    sym (append-nil before) ∙ (ap (λ (n : ℕ). before ++ pieces_text b place count i n) none ∙ left)
