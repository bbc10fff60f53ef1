-- What a page says of a place that fits.
use Rattle.std.proofs.Common.{◌≡◌, ◌≢◌, ℕ, ◌+◌, ◌*◌, ◌/◌, ◌%◌, ◌<◌, true, false, ◌&&◌, ◌||◌, nat_lt, arith, ap, ◌∙◌, sym}
use Rattle.std.specs.Prelude.{◌==◌}
use Rattle.std.proofs.lemmas.Grind.{common_steps}
use Rattle.ds_pages.specs.declared.operation.OperationKind.{OperationKind}
use Rattle.ds_pages.specs.declared.operation.OperationKind.TheVariants as kind
use Rattle.ds_pages.specs.declared.places.Places.{Places}
use Rattle.ds_pages.specs.Inner.Does.{single, is_known, is_branch, is_load}
use Rattle.ds_pages.specs.Inner.Places.{Fields, does_at, fields_at, target_at, stays, offset_of, FitsAt}
use Rattle.ds_pages.proofs.Done.{single_known, load_known, branch_known, kind_named, load_free, branch_stays}

apart_first : (a b c : ℕ) → ((a == b) || (a == c)) ≡ false → a ≢ b
apart_first a b c h e = grind (arith, common_steps)

apart_second : (a b c : ℕ) → ((a == b) || (a == c)) ≡ false → a ≢ c
apart_second a b c h e = grind (arith, common_steps)

-- the register of a load that is done is not read next
next_is_free : (p : Places) (i : ℕ) → FitsAt p i → is_load (does_at p i) ≡ true →
    (((fields_at p i).to == (fields_at p (i + 1)).first) || ((fields_at p i).to == (fields_at p (i + 1)).second)) ≡ false
next_is_free p i fits h = load_free _ _ _ (single (fields_at p i).kind) (sym (ap is_load (fits.done (load_known (does_at p i) h))) ∙ h)

pub first_is_free : (p : Places) (i : ℕ) → FitsAt p i → is_load (does_at p i) ≡ true → (fields_at p i).to ≢ (fields_at p (i + 1)).first
first_is_free p i fits h = apart_first (fields_at p i).to (fields_at p (i + 1)).first (fields_at p (i + 1)).second (next_is_free p i fits h)

pub second_is_free : (p : Places) (i : ℕ) → FitsAt p i → is_load (does_at p i) ≡ true → (fields_at p i).to ≢ (fields_at p (i + 1)).second
second_is_free p i fits h = apart_second (fields_at p i).to (fields_at p (i + 1)).first (fields_at p (i + 1)).second (next_is_free p i fits h)

-- the kind of an operation is that of what is done
pub kind_at_place : (p : Places) (i : ℕ) (k : OperationKind) → FitsAt p i → does_at p i ≡ single k → k ≢ kind.Other → (fields_at p i).kind ≡ k
kind_at_place p i k fits e some = kind_named _ k (fields_at p i).kind (sym e ∙ fits.done (ap is_known e ∙ single_known k)) some

-- a branch that is done stays in its page
place_stays : (p : Places) (i : ℕ) → FitsAt p i → is_branch (does_at p i) ≡ true → stays i (fields_at p i).immediate ≡ true
place_stays p i fits b = branch_stays _ _ (single (fields_at p i).kind) (sym (ap is_branch (fits.done (branch_known (does_at p i) b))) ∙ b)

quarter : (t n : ℕ) → ((n % 4 == 0) && nat_lt n 4096) ≡ true → t ≡ n / 4 → (4 * t ≡ n) × (t < 1024)
quarter t n h e = grind (arith, common_steps)

-- where it leads
pub leads : (p : Places) (i : ℕ) → FitsAt p i → is_branch (does_at p i) ≡ true → (4 * target_at p i ≡ offset_of i (fields_at p i).immediate) × (target_at p i < 1024)
leads p i fits b = quarter (target_at p i) (offset_of i (fields_at p i).immediate) (place_stays p i fits b) (fits.target b)

-- what an operation has, with its own kind
pub with_own_kind : (f : Fields) (k : OperationKind) → f.kind ≡ k → record f { kind = k } ≡ f
with_own_kind f k e = ap (λ (x : OperationKind). record f { kind = x }) (sym e)
