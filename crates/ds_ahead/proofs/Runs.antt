-- A run: what the operations of a page in hand do, joined.
use Rattle.std.proofs.Common.{◌≡◌, ℕ, List, length, ◌+◌, ◌-◌, ◌*◌, ◌/◌, ◌%◌, ◌<◌, ◌≤◌, ◌^◌, false, refl, sym, ap, subst, ◌∙◌, arith}
use Rattle.std.specs.Prelude.{◌≢◌, Option, None, slice_index}
use Rattle.ds_word.specs.Bytes.{word_at, with_word}
use Rattle.ds_word.proofs.Bytes.{word_at-with_word_apart}
use Rattle.ds_isa.specs.declared.instr.Late.{Late}
use Rattle.ds_isa.specs.Instruction.{instruction_of}
use Rattle.ds_cp0.specs.System.{is_pending}
use Rattle.ds_pages.specs.declared.operation.Operation.{Operation}
use Rattle.ds_pages.specs.declared.operation.OperationKind.TheVariants.{Other}
use Rattle.ds_pages.specs.Inner.Operations.{does, MeansAs}
use Rattle.ds_pages.specs.declared.does.Does.{Does}
use Rattle.ds_pages.specs.Inner.Does.{single}
use Rattle.ds_pages.specs.Inner.Places.{Fields, fields_of, fields_at}
use Rattle.ds_pages.specs.Inner.Page.{KnownPageState, word_at as page_word, HoldsWords}
use Rattle.ds_amap.specs.Map.{at_physical}
use Rattle.ds_dev.specs.Bus.{BusState, lines}
use Rattle.ds_core.specs.Core.{CoreState, with_tick}
use Rattle.ds_core.specs.Effect.{effect}
use Rattle.ds_core.proofs.Fetches.{instruction_at, in_memory, kept_in_memory}
use Rattle.ds_ahead.specs.declared.operations.Outcome.{Outcome}
use Rattle.ds_ahead.specs.declared.operations.Outcome.TheVariants.{Done, Loaded, Branched, Called, Left}
use Rattle.ds_ahead.specs.Inner.Placed.{Place, placed, registers_at, IsFree}
use Rattle.ds_ahead.specs.Inner.Operations.{ComesTo, IsFetched, HasOutcome}
use Rattle.ds_ahead.specs.Inner.Code.{KnowsPage}
use Rattle.ds_ahead.specs.Inner.Goes.{GoesBy, KeepsFrame}
use Rattle.ds_ahead.specs.Inner.Run.{place_in, Moves, MovesAt}
use Rattle.ds_ahead.proofs.Codes.{reaches_page}
use Rattle.ds_ahead.proofs.Stretches.{is_step, has_outcome, knows_placed}
use Rattle.ds_ahead.proofs.Lates.{does_free, effect_free}

-- the operation of a place of the page is that of the instruction there
pub fetched_in_page : (o : Operation) (n vpn base i : ℕ) (c : CoreState) (at : Place) (b : BusState) (words : List ℕ) → KnowsPage vpn base c → vpn < 2 ^ 32 → base + 4096 ≤ 2 ^ 23 → i < 1024 → at.pc ≡ vpn * 4096 + 4 * i
    → slice_index words i ≡ word_at b.memory (base + 4 * i) → MeansAs o (instruction_of (slice_index words i)) → IsFetched o (placed n c at) b
fetched_in_page o n vpn base i c at b words knows some low inside pc same means =
    let place = base + 4 * i in
    let instr = instruction_of (word_at b.memory place) in
    let here = placed n c at in
    let page : vpn ≡ at.pc / 2 ^ 12 = omega (arith, pc, inside) in
    let aligned : at.pc % 4 ≡ 0 = omega (arith, pc) in
    let is : place ≡ base + at.pc % 2 ^ 12 = omega (arith, pc, inside) in
    record {
      instr = instr;
      means = subst (λ (w : ℕ). MeansAs o (instruction_of w)) same means;
      lies = instruction_at here here b b (at_physical place) instr _
          (reaches_page here vpn base place at.pc (knows_placed n vpn base c at knows) refl some page aligned is)
          refl
          (in_memory b place instr (omega (arith, inside, low)) refl)
          (kept_in_memory b b place (omega (arith, inside, low)) refl)
          refl;
    }

-- the outcome of an operation whatever load is late that it doesn't read
pub moves_by : (out : Outcome) (o : Operation) (c : CoreState) (at : Place) (b : BusState) (c2 : CoreState) (at2 : Place) (b2 : BusState) → is_pending c.system (lines b).0 (lines b).1 ≡ false
    → (o.kind ≡ Other → out ≡ Left) → at.late ≡ None → o.first.number < 32 → o.second.number < 32 → ComesTo out (does o at.pc (registers_at c at)) c at b c2 at2 b2
    → (l : Option Late) → ((n : ℕ) → IsFetched o (placed n c (record at { late = l })) b) → IsFree l o.first.number → IsFree l o.second.number → Moves out c (record at { late = l }) b c2 at2 b2
moves_by Done o c at b c2 at2 b2 calm left none low high comes l fetched first second = λ n.
    comes.1 n (fetched n).instr
    ∙ (ap with_tick (effect_free o (placed n c at) b (fetched n).instr l none low high first second)
    ∙ is_step o (placed n c (record at { late = l })) b calm (fetched n) (λ is. let no : Done ≡ Left = left is in absurd cc))
moves_by Loaded o c at b c2 at2 b2 calm left none low high comes l fetched first second = λ n.
    comes n (fetched n).instr
    ∙ (ap with_tick (effect_free o (placed n c at) b (fetched n).instr l none low high first second)
    ∙ is_step o (placed n c (record at { late = l })) b calm (fetched n) (λ is. let no : Loaded ≡ Left = left is in absurd cc))
moves_by Branched o c at b c2 at2 b2 calm left none low high comes l fetched first second = λ n.
    comes.1 n (fetched n).instr
    ∙ (ap with_tick (effect_free o (placed n c at) b (fetched n).instr l none low high first second)
    ∙ is_step o (placed n c (record at { late = l })) b calm (fetched n) (λ is. let no : Branched ≡ Left = left is in absurd cc))
moves_by Called o c at b c2 at2 b2 calm left none low high comes l fetched first second = (
  comes.0,
  comes.2,
  λ n.
      ap (λ e. with_tick (effect (placed n c (record at { late = l })) b (fetched n).instr e)) (sym comes.3 ∙ does_free o at.pc (registers_at c at) l none low high first second)
      ∙ is_step o (placed n c (record at { late = l })) b calm (fetched n) (λ is. let no : Called ≡ Left = left is in absurd cc),
)
moves_by Left o c at b c2 at2 b2 calm left none low high comes l fetched first second = (comes.0, comes.2)

-- where an operation leaves its position, by what is known of its place
pub goes_at : (out : Outcome) (d : Does) (f : Fields) (o : Operation) (c : CoreState) (at at2 : Place) → d ≡ single f.kind → fields_of o ≡ f → GoesBy (single o.kind) out c o.to.number at at2 → GoesBy d out c f.to at at2
goes_at out d f o c at at2 is fields goes =
    subst (λ (x : Does). GoesBy x out c f.to at at2) (sym is) (subst (λ (g : Fields). GoesBy (single g.kind) out c g.to at at2) fields goes)

-- the words of a page are those of memory still where its frame is kept
pub holds_still : (page : KnownPageState) (memory new : List ℕ) (base : ℕ) → base % 4096 ≡ 0 → KeepsFrame base memory new → HoldsWords page memory base → HoldsWords page new base
holds_still page memory new base whole keeps holds = λ k inside. holds k inside ∙ sym (keeps whole k inside)

apart : (own place k : ℕ) → own % 4096 ≡ 0 → k < 1024 → place - place % 4096 ≢ own → (own + 4 * k) / 4 ≢ place / 4
apart own place k whole inside other = λ same. other (omega (arith, whole, inside, same))

-- a word that is put in another frame keeps this one
pub keeps_apart : (memory : List ℕ) (own place w : ℕ) → length memory ≡ 8388608 → place < 2 ^ 23 → place - place % 4096 ≢ own → KeepsFrame own memory (with_word memory place w)
keeps_apart memory own place w size low other = λ whole k inside.
    word_at-with_word_apart memory place (own + 4 * k) w (omega (arith, size, low)) (apart own place k whole inside other)

-- an operation of the page, at its place, whatever load is late that it doesn't read
pub moves_in_page : (out : Outcome) (o : Operation) (page : KnownPageState) (i vpn base : ℕ) (c : CoreState) (at : Place) (b : BusState) (c2 : CoreState) (at2 : Place) (b2 : BusState)
    → at ≡ place_in (vpn * 4096) i → i < 1024 → KnowsPage vpn base c → vpn < 2 ^ 32 → base + 4096 ≤ 2 ^ 23 → HoldsWords page b.memory base → is_pending c.system (lines b).0 (lines b).1 ≡ false
    → fields_of o ≡ fields_at page.places i → MeansAs o (instruction_of (page_word page i)) → (o.kind ≡ Other → out ≡ Left) → ComesTo out (does o at.pc (registers_at c at)) c at b c2 at2 b2
    → MovesAt page.places i out c at b c2 at2 b2
moves_in_page out o page i vpn base c at b c2 at2 b2 is inside knows some low holds calm fields means left comes = λ l free.
    let first : o.first.number ≡ (fields_at page.places i).first = ap (λ (f : Fields). f.first) fields in
    let second : o.second.number ≡ (fields_at page.places i).second = ap (λ (f : Fields). f.second) fields in
    moves_by out o c at b c2 at2 b2 calm left (ap (λ (a : Place). a.late) is) o.first.small o.second.small comes l
    (λ n. fetched_in_page o n vpn base i c (record at { late = l }) b page.words knows some low inside (ap (λ (a : Place). a.pc) is) (holds i inside) means)
    (subst (λ (n : ℕ). IsFree l n) (sym first) free.0)
    (subst (λ (n : ℕ). IsFree l n) (sym second) free.1)

-- an operation of the page in a slot
pub outcome_in_page : (out : Outcome) (o : Operation) (page : KnownPageState) (i vpn base : ℕ) (c : CoreState) (at : Place) (b : BusState) (c2 : CoreState) (at2 : Place) (b2 : BusState)
    → at.pc ≡ vpn * 4096 + 4 * i → i < 1024 → KnowsPage vpn base c → vpn < 2 ^ 32 → base + 4096 ≤ 2 ^ 23 → HoldsWords page b.memory base → is_pending c.system (lines b).0 (lines b).1 ≡ false
    → MeansAs o (instruction_of (page_word page i)) → (o.kind ≡ Other → out ≡ Left) → ComesTo out (does o at.pc (registers_at c at)) c at b c2 at2 b2
    → HasOutcome out c at b c2 at2 b2
outcome_in_page out o page i vpn base c at b c2 at2 b2 pc inside knows some low holds calm means left comes =
    has_outcome out o c at b b c2 at2 b2 calm (λ n. fetched_in_page o n vpn base i c at b page.words knows some low inside pc (holds i inside) means) left refl comes
