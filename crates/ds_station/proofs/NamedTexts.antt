-- The text of a name among sources, place by place; and the images of names, one by one.
use Rattle.std.proofs.Common.{◌≡◌, ℕ, suc, ◌+◌, ◌<◌, ◌≤◌, true, false, Bool, cond, List, [], ◌∷◌, ◌++◌, length, drop, get_or, refl, sym, ap, subst, ◌∙◌, add-one, Bor, Result, Ok}
use Rattle.std.specs.Prelude.{Some, None, bytes_eq}
use Rattle.std.proofs.Math.Seq.{drop-cons}
use Rattle.std.proofs.Math.ListN.{drop_of_length-le}
use Rattle.ds_word.specs.ResultBinding.{◌>>=◌}
use Rattle.ds_pagemap.specs.Inputs.{Refusal, Sources, text_named, image_read, images_from}
use Rattle.ds_station.specs.Headline.{sources_seen, Refuses}
use Rattle.ds_station.specs.declared.fault.Fault.{Fault}
use Rattle.ds_station.specs.declared.fault.Fault.TheVariants as fault

abbrev Lent : Type 0
Lent = List (Bor (List ℕ) × Bor (List ℕ))

-- the text stands at a place whose name fits
pub named_here : (s : Lent) (i : ℕ) (d : Bor (List ℕ) × Bor (List ℕ)) (name : List ℕ) → i < length s → bytes_eq (get_or s i d).0.now name ≡ true → text_named (sources_seen (drop i s)) name ≡ Some (get_or s i d).1.now
named_here s i d name within is = rw (drop-cons s i d within) (ap (λ (b : Bool). cond b (Some (get_or s i d).1.now) (text_named (sources_seen (drop (suc i) s)) name)) is)

-- and else further on
pub named_past : (s : Lent) (i : ℕ) (d : Bor (List ℕ) × Bor (List ℕ)) (name : List ℕ) → i < length s → bytes_eq (get_or s i d).0.now name ≡ false → text_named (sources_seen (drop i s)) name ≡ text_named (sources_seen (drop (i + 1) s)) name
named_past s i d name within is = rw (add-one, drop-cons s i d within) (ap (λ (b : Bool). cond b (Some (get_or s i d).1.now) (text_named (sources_seen (drop (suc i) s)) name)) is)

pub named_end : (s : Lent) (i : ℕ) (name : List ℕ) → length s ≤ i → text_named (sources_seen (drop i s)) name ≡ None
named_end s i name past = rw (drop_of_length-le s past) refl

-- The images of names, one by one.

-- what refuses a part of the inputs refuses them
pub refuses_then : {A B : Type 0} (f : Fault) (read : Result A Refusal) (next : A → Result B Refusal) → Refuses f read → Refuses f (read >>= next)
refuses_then fault.Memory read next r = tt
refuses_then fault.Stuck read next r = r
refuses_then fault.Failed read next r = r
refuses_then fault.WriteFault read next r = r
refuses_then f read next r = ap (λ x. x >>= next) r

pub images_at : (s : Sources) (done names : List (List ℕ)) (i : ℕ) (name : List ℕ) → name ≡ get_or names i name → i < length names → images_from s done (drop i names) ≡ (image_read name (text_named s name) >>= (λ bytes. images_from s (done ++ bytes ∷ []) (drop (i + 1) names)))
unfolding images_from
images_at s done names i name is within = rw (add-one, drop-cons names i name within, ← is) refl

pub images_past : (s : Sources) (done names : List (List ℕ)) (i : ℕ) (name bytes : List ℕ) → name ≡ get_or names i name → i < length names → image_read name (text_named s name) ≡ Ok bytes → images_from s done (drop i names) ≡ images_from s (done ++ bytes ∷ []) (drop (i + 1) names)
images_past s done names i name bytes at within is = images_at s done names i name at within ∙ ap (λ r. r >>= (λ b. images_from s (done ++ b ∷ []) (drop (i + 1) names))) is

pub images_end : (s : Sources) (done names : List (List ℕ)) (i : ℕ) → length names ≤ i → images_from s done (drop i names) ≡ Ok done
unfolding images_from
images_end s done names i past = rw (drop_of_length-le names past) refl

pub images_refused : (s : Sources) (done names : List (List ℕ)) (i : ℕ) (name : List ℕ) (f : Fault) → name ≡ get_or names i name → i < length names → Refuses f (image_read name (text_named s name)) → Refuses f (images_from s done (drop i names))
images_refused s done names i name f at within r = subst (Refuses f) (sym (images_at s done names i name at within)) (refuses_then f (image_read name (text_named s name)) (λ bytes. images_from s (done ++ bytes ∷ []) (drop (i + 1) names)) r)
