-- The named pages in their frames of memory.
use Rattle.std.proofs.Common.{◌≡◌, ◌∙◌, ◌⊎◌, sym, ap, refl, ℕ, zero, suc, true, false, ◌+◌, ◌-◌, ◌*◌, ◌<◌, ◌≤◌, List, [], ◌∷◌, ◌++◌, length, map, drop, get_or, replicate, Option, Some, None, inl, inr, arith, length-append}
use Rattle.std.specs.Prelude.{nat_lt, slice_index}
use Rattle.std.specs.List.{All}
use Rattle.std.proofs.lemmas.Bool.{cases_lt}
use Rattle.std.proofs.lemmas.Bool.Decides.{nat_tests}
use Rattle.std.proofs.lemmas.List.{length-take, length-drop, same_lists, length-map, length-replicate, get_or-map, get_or_append_left, get_or-append_right, get_or-replicate}
use Rattle.std.proofs.lemmas.List.FromFn.{length-map-range_with_len, get_or-map-range_with_len, get_or-range_with_len}
use Rattle.ds_policy.specs.declared.policy.PolicyPage.{PolicyPage}
use Rattle.ds_policy.specs.Value.{PolicyValue}
use Rattle.ds_policy.specs.PolicyFacts.{IsGoodRule}
use Rattle.ds_policy.specs.PolicyParts.{sources_of}
use Rattle.ds_pagemap.specs.First.{source_bytes, first_pages}
use Rattle.ds_mem.specs.Memory.{frame_of, with_frame}
use Rattle.ds_mem.proofs.Frames.{frame_of-with_frame, frame_of-with_frame_apart}
use Rattle.ds_grants.specs.First.{first_grants}
use Rattle.ds_grants.specs.State.{page_in, pages_in}
use Rattle.ds_grants.proofs.FirstGrants.{unnamed_is_free}

-- the first pages have these bytes in their frames, and no frame but theirs has changed
pub record HaveFilled (contents : List (List ℕ)) (at : ℕ) (old new : List ℕ) : Type 0 where
  pub each : (q : ℕ) → q < at → frame_of new (q + 402) ≡ get_or contents q []
  pub elsewhere : (f : ℕ) → (f < 402) ⊎ (at + 402 ≤ f) → frame_of new f ≡ frame_of old f

-- one page more
pub filled_more : (contents : List (List ℕ)) (at f : ℕ) (old between bytes : List ℕ) → f ≡ at + 402 → length bytes ≡ 4096 → length (frame_of between f) ≡ 4096 → bytes ≡ get_or contents at [] → HaveFilled contents at old between → HaveFilled contents (at + 1) old (with_frame between f bytes)
filled_more contents at f old between bytes frame long size is before =
    let inside : f * 4096 + 4096 ≤ length between = omega (arith, size, length-take 4096 (drop (f * 4096) between), length-drop (f * 4096) between) in
    record {
      each = λ q below. elim (cases_lt q at) [
        | inl earlier ↦
            let apart : ((q + 402) * 4096 + 4096 ≤ f * 4096) ⊎ (f * 4096 + 4096 ≤ (q + 402) * 4096) = inl (omega arith) in
            frame_of-with_frame_apart between bytes f (q + 402) long inside apart ∙ before.each q earlier
        | inr not_earlier ↦
            let same : q ≡ at = omega arith in
            let place : q + 402 ≡ f = omega arith in
            ap (λ g. frame_of (with_frame between f bytes) g) place ∙ frame_of-with_frame between bytes f long inside ∙ is ∙ ap (λ k. get_or contents k []) (sym same)
      ];
      elsewhere = λ g other. elim other [
        | inl below ↦
            let apart : (g * 4096 + 4096 ≤ f * 4096) ⊎ (f * 4096 + 4096 ≤ g * 4096) = inl (omega arith) in
            frame_of-with_frame_apart between bytes f g long inside apart ∙ before.elsewhere g (inl below)
        | inr afterwards ↦
            let apart : (g * 4096 + 4096 ≤ f * 4096) ⊎ (f * 4096 + 4096 ≤ g * 4096) = inr (omega arith) in
            frame_of-with_frame_apart between bytes f g long inside apart ∙ before.elsewhere g (inr (omega arith))
      ];
    }

-- the bytes of a page among those of all
pub page_bytes : (names images : List (List ℕ)) (pages : List PolicyPage) (i : ℕ) (page : PolicyPage) → i < length pages → page ≡ get_or pages i page → source_bytes names images page.source ≡ get_or (map (λ page. source_bytes names images page.source) pages) i []
page_bytes names images pages i page within is =
    ap (λ (p : PolicyPage). source_bytes names images p.source) is ∙ sym (get_or-map (λ (p : PolicyPage). source_bytes names images p.source) pages i page [] within)

-- what a function gives for a page is there, where there is such a page
some_of : (f : PolicyPage → List ℕ) (pages : List PolicyPage) (k : ℕ) (d : Option (List ℕ)) → k < length pages → get_or (map (λ page. Some (f page)) pages) k d ≡ Some (get_or (map f pages) k [])
some_of f [] k d within = absurd (omega arith)
some_of f (page ∷ pages) zero d within = refl
some_of f (page ∷ pages) (suc k) d within = some_of f pages k d (omega arith)

-- the pages of the frames are those that the policy begins with
pub first_pages_hold : (policy : PolicyValue) (images : List (List ℕ)) (memory : List ℕ) → All (IsGoodRule (length policy.processes) (length policy.pages)) policy.rules → length policy.pages ≤ policy.frames
    → ((q : ℕ) → q < length policy.pages → frame_of memory (q + 402) ≡ get_or (map (λ page. source_bytes (sources_of policy.pages) images page.source) policy.pages) q [])
    → pages_in (first_grants policy) memory ≡ first_pages policy images
first_pages_hold policy images memory good few each =
    let named : List (Option (List ℕ)) = map (λ (page : PolicyPage). Some (source_bytes (sources_of policy.pages) images page.source)) policy.pages in
    let others : List (Option (List ℕ)) = replicate (policy.frames - length policy.pages) None in
    let named_long : length named ≡ length policy.pages = length-map policy.pages (λ (page : PolicyPage). Some (source_bytes (sources_of policy.pages) images page.source)) in
    let others_long : length others ≡ policy.frames - length policy.pages = length-replicate (policy.frames - length policy.pages) None in
    let all_long : length (pages_in (first_grants policy) memory) ≡ policy.frames = length-map-range_with_len (page_in (first_grants policy) memory) 0 policy.frames in
    same_lists (pages_in (first_grants policy) memory) (named ++ others) (omega (arith, all_long, named_long, others_long, length-append named others)) (λ k d within.
    let at : k < policy.frames = omega (arith, all_long) in
    let lies : slice_index (first_grants policy).lies k ≡ k = get_or-range_with_len 0 policy.frames k 0 at ∙ (let e : 0 + k ≡ k = omega arith in e) in
    get_or-map-range_with_len (page_in (first_grants policy) memory) 0 policy.frames k k d at (omega arith)
    ∙ elim (cases_lt k (length policy.pages)) [
      | inl low ↦
          let lives : nat_lt k (length policy.pages) ≡ true = grind (arith, nat_tests) in
          let here = each k low in
          rw (lives, lies, here, get_or_append_left named others d k (omega (arith, named_long))) (sym (some_of (λ (page : PolicyPage). source_bytes (sources_of policy.pages) images page.source) policy.pages k d low))
      | inr high ↦
          let past : nat_lt k (length policy.pages) ≡ false = grind (arith, nat_tests) in
          let none = unnamed_is_free policy k good (omega arith) in
          rw (past, none, get_or-append_right named others (length policy.pages) k d named_long (omega arith)) (sym (get_or-replicate (policy.frames - length policy.pages) (k - length policy.pages) None d (omega arith)))
    ])
