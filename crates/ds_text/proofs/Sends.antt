-- Writes one after another: what goes out is the text, or a prefix of it.
use Rattle.std.proofs.Common.{◌≡◌, ℕ, ◌+◌, ◌<◌, List, [], ◌∷◌, ◌++◌, take, drop, length, refl, sym, ◌∙◌, ap, subst, arith, append_assoc, append-nil, get_or, suc, zero, Bool, true, false, ◌||◌}
use Rattle.std.proofs.lemmas.List.{take-append-drop}
use Rattle.std.specs.Prelude.{Option, Some, None, flat_map, Result, Ok, Err, OnOk, OnErr}
use Rattle.std.specs.Io.KnownBytes.{Appends, Keeps}
use Rattle.std.proofs.Math.Seq.{take-add}
use Rattle.ds_text.specs.Sent.{WriterAnswers, AppendsPart, HasAnswered, IsAskedOnce}

-- nothing was written
pub appends_none : (a : Option (List ℕ)) → Appends a a []
appends_none None = tt
appends_none (Some xs) = sym (append-nil xs)

-- one text after another
pub appends_both : (a b d : Option (List ℕ)) (xs ys : List ℕ) → Appends a b xs → Appends b d ys → Appends a d (xs ++ ys)
appends_both None b d xs ys p q = tt
appends_both (Some xs0) None d xs ys p q = absurd p
appends_both (Some xs0) (Some bs) None xs ys p q = q
appends_both (Some xs0) (Some bs) (Some ds) xs ys p q = q ∙ (ap (λ zs. zs ++ ys) p ∙ append_assoc xs0 xs ys)

-- a text, and then nothing
pub appends_kept : (a b d : Option (List ℕ)) (xs : List ℕ) → Appends a b xs → Keeps b d → Appends a d xs
appends_kept None b d xs p q = tt
appends_kept (Some xs0) None d xs p q = absurd p
appends_kept (Some xs0) (Some bs) None xs p q = q
appends_kept (Some xs0) (Some bs) (Some ds) xs p q = q ∙ p

-- a prefix of the text is on its way
pub part_of_text : (old new : Option (List ℕ)) (text : List ℕ) (n : ℕ) → Appends old new (take n text) → AppendsPart old new text
part_of_text old new text n a = record { part = take n text; rest = drop n text; whole = take-append-drop n text; appends = a }

-- what was sent, and a part of what is after it
pub part_after : (a b d : Option (List ℕ)) (before rest : List ℕ) → Appends a b before → AppendsPart b d rest → AppendsPart a d (before ++ rest)
part_after a b d before rest p q = record {
  part = before ++ q.part;
  rest = q.rest;
  whole = append_assoc before q.part q.rest ∙ ap (λ xs. before ++ xs) q.whole;
  appends = appends_both a b d before q.part p q.appends;
}

-- a part of a piece is a part of the text that begins with it
pub part_before : (a d : Option (List ℕ)) (piece afterwards : List ℕ) → AppendsPart a d piece → AppendsPart a d (piece ++ afterwards)
part_before a d piece afterwards q = record {
  part = q.part;
  rest = q.rest ++ afterwards;
  whole = sym (append_assoc q.part q.rest afterwards) ∙ ap (λ xs. xs ++ afterwards) q.whole;
  appends = q.appends;
}

-- the pieces before one, that piece, and those after it
pub flat_map_at : {X : Type 0} (f : X → List ℕ) (xs : List X) (i : ℕ) (d : X) → i < length xs → flat_map f (take i xs) ++ (f (get_or xs i d) ++ flat_map f (drop (suc i) xs)) ≡ flat_map f xs
flat_map_at f [] i d h = absurd (omega arith)
flat_map_at f (x ∷ xs) zero d h = refl
flat_map_at f (x ∷ xs) (suc i) d h = append_assoc (f x) (flat_map f (take i xs)) _ ∙ ap (λ ys. f x ++ ys) (flat_map_at f xs i d (omega arith))

-- a prefix, and a prefix of what is left
pub take_both : (s n : ℕ) (xs : List ℕ) → take s xs ++ take n (drop s xs) ≡ take (s + n) xs
take_both s n xs = sym (take-add s n xs)

-- an empty text changes nothing
pub appends_nothing : (a b : Option (List ℕ)) → Appends a b [] → Keeps a b
appends_nothing None b p = tt
appends_nothing (Some xs) None p = p
appends_nothing (Some xs) (Some ys) p = p ∙ append-nil xs

-- a write that took 0 bytes changed nothing
pub took_nothing : (a b : Option (List ℕ)) (n : ℕ) (xs : List ℕ) → n ≡ 0 → Appends a b (take n xs) → Keeps a b
took_nothing a b n xs e p = appends_nothing a b (subst (λ (m : ℕ). Appends a b (take m xs)) e p)

-- what holds, holds of an error
pub at_err : {T E P : Type 0} (r : Result T E) → P → OnErr r P
at_err (Ok x) p = tt
at_err (Err e) p = p

-- what holds of an Ok, and what follows from it
pub ok_gives : {T E P Q : Type 0} (r : Result T E) → (P → Q) → OnOk r P → OnOk r Q
ok_gives (Ok x) f p = f p
ok_gives (Err e) f p = tt

-- what holds of an Err, and what follows from it
pub err_gives : {T E P Q : Type 0} (r : Result T E) → (P → Q) → OnErr r P → OnErr r Q
err_gives (Ok x) f p = tt
err_gives (Err e) f p = f p

or_false : (b : Bool) → (b || false) ≡ b
or_false true = refl
or_false false = refl

-- a place that had not ended took something
pub asked_more : (a b d : Option WriterAnswers) (nothing : Bool) → IsAskedOnce a b false → nothing ≡ false → HasAnswered b d nothing → IsAskedOnce a d false
asked_more None b d nothing p e q = tt
asked_more (Some x) None d nothing p e q = absurd p
asked_more (Some x) (Some y) None nothing p e q = q
asked_more (Some x) (Some y) (Some z) nothing p e q =
    λ going. (q.0 ∙ rw ((p going).0, e) refl, q.1 ∙ rw ((p going).0) (ap (λ (l : Bool). l || false) (p going).1 ∙ or_false x.asked_later))

-- and at last it took nothing
pub asked_last : (a b d : Option WriterAnswers) (nothing : Bool) → IsAskedOnce a b false → nothing ≡ true → HasAnswered b d nothing → IsAskedOnce a d true
asked_last None b d nothing p e q = tt
asked_last (Some x) None d nothing p e q = absurd p
asked_last (Some x) (Some y) None nothing p e q = q
asked_last (Some x) (Some y) (Some z) nothing p e q =
    λ going. (q.0 ∙ rw ((p going).0, e) refl, q.1 ∙ rw ((p going).0) (ap (λ (l : Bool). l || false) (p going).1 ∙ or_false x.asked_later))

-- it took all of a text, and of another what it took
pub asked_both : (a b d : Option WriterAnswers) (failed : Bool) → IsAskedOnce a b false → IsAskedOnce b d failed → IsAskedOnce a d failed
asked_both None b d failed p q = tt
asked_both (Some x) None d failed p q = absurd p
asked_both (Some x) (Some y) None failed p q = q
asked_both (Some x) (Some y) (Some z) failed p q = λ going. ((q (p going).0).0, (q (p going).0).1 ∙ (p going).1)
