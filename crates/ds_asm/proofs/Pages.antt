-- From an image to its pages.
use Rattle.std.proofs.Common.{◌≡◌, inl, inr, ◌∙◌, sym, ap, refl, ℕ, ◌+◌, ◌-◌, ◌*◌, List, ◌++◌, length, take, drop, replicate, min, arith, nat_lt, append-nil}
use Rattle.std.proofs.lemmas.Bool.{cases_Bool, ltb-true, ltb-false}
use Rattle.std.proofs.lemmas.List.{drop_all, take-append-le, take-replicate, drop-replicate, take_all, take_rest}
use Rattle.std.proofs.Math.Seq.{take-append-add}
use Rattle.ds_asm.specs.Images.{page_of_image}

-- past the end there is nothing
drop-min : (a : ℕ) (xs : List ℕ) → drop (min a (length xs)) xs ≡ drop a xs
drop-min a xs = elim (cases_Bool (nat_lt a (length xs))) [
  | inl low ↦ let l = ltb-true a (length xs) low in let e : min a (length xs) ≡ a = omega arith in rw e refl
  | inr high ↦ let l = ltb-false a (length xs) high in let e : min a (length xs) ≡ length xs = omega arith in rw (e, drop_all (length xs) xs (omega arith), drop_all a xs l) refl
]

-- a prefix of a list with zeros after it
front_padded : (n : ℕ) (xs : List ℕ) → take (min (length xs) n) xs ++ drop (min (length xs) n) (replicate n 0) ≡ take n (xs ++ replicate n 0)
front_padded n xs = elim (cases_Bool (nat_lt n (length xs))) [
  | inl long ↦
      let l = ltb-true n (length xs) long in
      let e : min (length xs) n ≡ n = omega arith in
      let z : n - n ≡ 0 = omega arith in
      rw (e, drop-replicate {X = ℕ} n n 0, z, take-append-le n xs (replicate n 0) (omega arith)) (append-nil (take n xs))
  | inr short ↦
      let l = ltb-false n (length xs) short in
      let e : min (length xs) n ≡ length xs = omega arith in
      let s : length xs + (n - length xs) ≡ n = omega arith in
      let r : take n (xs ++ replicate n 0) ≡ xs ++ replicate (n - length xs) 0 =
      ap (λ (k : ℕ). take k (xs ++ replicate n 0)) (sym s)
      ∙ (take-append-add xs (replicate n 0) (n - length xs) ∙ ap (λ ys. xs ++ ys) (take-replicate (n - length xs) n 0 (omega arith))) in
      rw (e, r, drop-replicate {X = ℕ} (length xs) n 0, take_all (length xs) xs (omega arith)) refl
]

-- a page that was filled with zeros, and then with what there is of a part
pub part_of-filled : (image : List ℕ) (k : ℕ) (start count : ℕ) (page front : List ℕ) → start ≡ min (4096 * k) (length image)
    → count ≡ min (length (take (length image - start) (drop start image))) 4096
    → front ≡ take count (take (length image - start) (drop start image))
    → page ≡ replicate 4096 0
    → front ++ drop count page ≡ page_of_image image k
part_of-filled image k start count page front s n f z =
    let r : take (length image - start) (drop start image) ≡ drop (4096 * k) image = take_rest image start ∙ (ap (λ (a : ℕ). drop a image) s ∙ drop-min (4096 * k) image) in
    rw (f, z, n, r) (front_padded 4096 (drop (4096 * k) image))
