-- A page, when something in it changes.
use Rattle.std.proofs.Common.{◌≡◌, ◌≢◌, ℕ, ◌+◌, ◌-◌, ◌<◌, ◌≤◌, List, Bool, true, false, ◌&&◌, not, refl, arith, ap, ◌∙◌, sym, subst, inl, inr}
use Rattle.std.specs.Prelude.{slice_index, slice_set}
use Rattle.std.proofs.lemmas.Bool.{cases_eq}
use Rattle.std.proofs.lemmas.List.{get_or-set_other}
use Rattle.ds_isa.specs.declared.instr.Instr.{Instr}
use Rattle.ds_isa.specs.Instruction.{instruction_of}
use Rattle.ds_pages.specs.declared.operation.Operation.{Operation}
use Rattle.ds_pages.specs.Inner.Operations.{MeansAs}
use Rattle.ds_pages.specs.declared.operation.OperationKind.TheVariants as kind
use Rattle.ds_pages.specs.declared.places.Places.{Places}
use Rattle.ds_pages.specs.Inner.Does.{has_slot}
use Rattle.ds_pages.specs.Inner.Places.{Fields, fields_of, does_at, fields_at, known_at, FitsAt}
use Rattle.ds_pages.specs.Inner.Page.{KnownPageState, knows, Means, IsPage}

-- an operation that is none means anything
pub none_means : (f : Fields) (w : ℕ) → f.kind ≡ kind.Other → Means f (instruction_of w)
none_means f w e = λ some. absurd (some e)

-- the operation of a decoded word means its instruction
pub decoded_means : (o : Operation) (instr : Instr) (w : ℕ) (f : Fields) → MeansAs o instr → instr ≡ instruction_of w → f ≡ fields_of o → Means f (instruction_of w)
decoded_means o instr w f means decoded fields =
    subst (λ (x : Fields). Means x (instruction_of w)) (sym fields) (subst (λ (i : Instr). MeansAs o i) decoded means)

-- what means an instruction does so of the same word
means_along : (f g : Fields) (v w : ℕ) → g ≡ f → w ≡ v → Means f (instruction_of v) → Means g (instruction_of w)
means_along f g v w e h m = subst (λ (x : Fields). Means x (instruction_of w)) (sym e) (subst (λ (n : ℕ). Means f (instruction_of n)) (sym h) m)

-- a place whose operation is not known gets another word
pub page_written : (ws : List ℕ) (p : Places) (i word : ℕ) → IsPage (record { words = ws; places = p }) → known_at p i ≡ false →
    IsPage (record { words = slice_set ws i word; places = p })
page_written ws p i word page unknown = record {
  fits = page.fits;
  means = λ k inside. elim (cases_eq k i) [
    | inl same ↦ none_means (fields_at p k) (slice_index (slice_set ws i word) k) (page.blank k (subst (λ (n : ℕ). known_at p n ≡ false) (sym same) unknown))
    | inr other ↦ means_along (fields_at p k) (fields_at p k) (slice_index ws k) (slice_index (slice_set ws i word) k) refl (get_or-set_other ws i k word 0 other) (page.means k inside)
  ];
  blank = page.blank;
  last = page.last;
}

-- an operation, or nothing, is put at a place
pub page_put : (ws : List ℕ) (p q : Places) (i : ℕ) → i < 1024 → IsPage (record { words = ws; places = p }) →
    ((k : ℕ) → k ≤ 1024 → FitsAt q k) → ((k : ℕ) → k ≢ i → fields_at q k ≡ fields_at p k) → ((k : ℕ) → k ≢ i → known_at q k ≡ known_at p k) →
    Means (fields_at q i) (instruction_of (slice_index ws i)) → (known_at q i ≡ false → (fields_at q i).kind ≡ kind.Other) →
    IsPage (record { words = ws; places = q })
page_put ws p q i inside page fits fields known means blank = record {
  fits = fits;
  means = λ k small. elim (cases_eq k i) [
    | inl same ↦ subst (λ (n : ℕ). Means (fields_at q n) (instruction_of (slice_index ws n))) (sym same) means
    | inr other ↦ means_along (fields_at p k) (fields_at q k) (slice_index ws k) (slice_index ws k) (fields k other) refl (page.means k small)
  ];
  blank = λ k unknown. elim (cases_eq k i) [
    | inl same ↦ subst (λ (n : ℕ). (fields_at q n).kind ≡ kind.Other) (sym same) (blank (subst (λ (n : ℕ). known_at q n ≡ false) same unknown))
    | inr other ↦ ap (λ (f : Fields). f.kind) (fields k other) ∙ page.blank k (sym (known k other) ∙ unknown)
  ];
  last = known 1024 (omega arith) ∙ page.last;
}

unknown_elsewhere : (p : Places) (i k : ℕ) → known_at p i ≡ false → known_at p k ≡ true → k ≢ i
unknown_elsewhere p i k unknown known e = absurd (cc (ap (known_at p) e, known, unknown))

-- what was known has the operation that it had, where one was put at a place that was not known
pub fields_kept : (p q : Places) (i : ℕ) → known_at p i ≡ false → ((k : ℕ) → k ≢ i → fields_at q k ≡ fields_at p k) →
    (k : ℕ) → known_at p k ≡ true → fields_at q k ≡ fields_at p k
fields_kept p q i unknown fields k known = fields k (unknown_elsewhere p i k unknown known)

-- what was known is known after one more is
pub known_kept : (s t : KnownPageState) (i : ℕ) → knows t i ≡ true → ((k : ℕ) → k ≢ i → knows t k ≡ knows s k) → (k : ℕ) → knows s k ≡ true → knows t k ≡ true
known_kept s t i here others k known = elim (cases_eq k i) [
  | inl same ↦ subst (λ (n : ℕ). knows t n ≡ true) (sym same) here
  | inr other ↦ others k other ∙ known
]

and_not_true : (a b : Bool) → b ≡ true → (a && not b) ≡ false
and_not_true false b e = refl
and_not_true true b e = ap not e

and_not_false : (a b : Bool) → b ≡ false → (a && not b) ≡ a
and_not_false false b e = refl
and_not_false true b e = ap not e

-- where the place before has a slot, it is forgotten with that slot
pub branch_forgotten : (s m t : KnownPageState) (i k : ℕ) → k + 1 ≡ i → has_slot (does_at s.places (i - 1)) ≡ true → knows m (i - 1) ≡ false →
    ((k : ℕ) → k ≢ i → knows t k ≡ knows m k) → knows t k ≡ (knows s k && not (has_slot (does_at s.places k)))
branch_forgotten s m t i k next slot gone others =
    let here : i - 1 ≡ k = omega arith in
    others k (λ e. omega arith) ∙ (subst (λ (n : ℕ). knows m n ≡ false) here gone
    ∙ sym (and_not_true (knows s k) (has_slot (does_at s.places k)) (subst (λ (n : ℕ). has_slot (does_at s.places n) ≡ true) here slot)))

-- where it has none, it stays
pub others_stay : (s t : KnownPageState) (i k : ℕ) → k + 1 ≡ i → has_slot (does_at s.places (i - 1)) ≡ false →
    ((k : ℕ) → k ≢ i → knows t k ≡ knows s k) → knows t k ≡ (knows s k && not (has_slot (does_at s.places k)))
others_stay s t i k next none others =
    let here : i - 1 ≡ k = omega arith in
    others k (λ e. omega arith)
    ∙ sym (and_not_false (knows s k) (has_slot (does_at s.places k)) (subst (λ (n : ℕ). has_slot (does_at s.places n) ≡ false) here none))
