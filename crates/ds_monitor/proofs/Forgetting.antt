-- Calls that forget what changed leave no new pair in the buffer.
use Rattle.std.proofs.Common.{◌≡◌, ◌≢◌, ℕ, List, Option, sym, subst, Result, Ok, Err}
use Rattle.std.specs.Prelude.{OnOk, OnErr}
use Rattle.ds_tlb.specs.declared.entry.Entry.{Entry}
use Rattle.ds_policy.specs.declared.grant.EntryPlace.{EntryPlace}
use Rattle.ds_asid.specs.Spaces.{Spaces}
use Rattle.ds_grants.specs.Inner.Changes.{both_forgotten, all_forgotten}
use Rattle.ds_grants.specs.Copies.{AreRewritten}
use Rattle.ds_refinement.specs.Pairs.{HasNoNewPairs}
use Rattle.ds_refinement.proofs.NoNewPairs.{same_pairs, forgotten_pairs, all_forgotten_pairs, joined_pairs, rewritten_pairs}

-- nor does one that is refused, and leaves the buffer as it was
pub answered_pairs : {R F : Type 0} (X Y Z : Type 0) (r : Result R F) (old new : List Entry) (address : ℕ) (number : Option ℕ)
    → OnOk r (new ≡ both_forgotten old address number) → OnErr r (X × Y × Z × (new ≡ old)) → HasNoNewPairs old new
answered_pairs X Y Z (Ok done) old new address number forgot same = subst (HasNoNewPairs old) (sym forgot) (forgotten_pairs old address number)
answered_pairs X Y Z (Err fault) old new address number forgot same = subst (HasNoNewPairs old) (sym same.3) (same_pairs old)

-- the same where a whole family of shares goes
pub family_pairs : {R F : Type 0} (X Y Z : Type 0) (r : Result R F) (old new : List Entry) (s : Spaces) (places : List EntryPlace)
    → OnOk r (new ≡ all_forgotten old s places) → OnErr r (X × Y × Z × (new ≡ old)) → HasNoNewPairs old new
family_pairs X Y Z (Ok done) old new s places forgot same = subst (HasNoNewPairs old) (sym forgot) (all_forgotten_pairs old s places)
family_pairs X Y Z (Err fault) old new s places forgot same = subst (HasNoNewPairs old) (sym same.3) (same_pairs old)

-- and nor does a give, before which a copy's page is rewritten
pub given_pairs : {R F : Type 0} (X Y Z : Type 0) (r : Result R F) (old new : List Entry) (mode address : ℕ) (number : Option ℕ)
    → OnOk r ((between : List Entry) × AreRewritten old between × (mode ≢ 3 → between ≡ old) × (new ≡ both_forgotten between address number))
    → OnErr r (X × Y × Z × (new ≡ old)) → HasNoNewPairs old new
given_pairs X Y Z (Ok done) old new mode address number gives same =
    joined_pairs old gives.0 new (rewritten_pairs old gives.0 gives.1)
    (subst (HasNoNewPairs gives.0) (sym gives.3) (forgotten_pairs gives.0 address number))
given_pairs X Y Z (Err fault) old new mode address number gives same = subst (HasNoNewPairs old) (sym same.3) (same_pairs old)
