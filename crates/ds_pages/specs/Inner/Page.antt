-- A page of code: its words, and what is known of each.
use Rattle.std.specs.Prelude.{◌≡◌, ◌≢◌, ℕ, ◌+◌, ◌*◌, ◌<◌, ◌≤◌, Bool, false, List, slice_index}
use Rattle.ds_word.specs.Bytes.{word_at as memory_word}
use Rattle.ds_isa.specs.declared.instr.Instr.{Instr}
use Rattle.ds_isa.specs.Registers.{Registers}
use Rattle.ds_isa.specs.Meaning.{meaning}
use Rattle.ds_isa.specs.Instruction.{instruction_of}
use Rattle.ds_pages.specs.declared.operation.OperationKind.TheVariants as kind
use Rattle.ds_pages.specs.Inner.Operations.{does_by}
use Rattle.ds_pages.specs.declared.places.Places.{Places}
use Rattle.ds_pages.specs.Inner.Places.{Fields, fields_at, known_at, FitsAt}

-- a page, as its words and what is known of its places
pub record KnownPageState : Type 0 where
  pub words : List ℕ
  pub places : Places

-- the word at place i
abbrev pub word_at : KnownPageState → ℕ → ℕ
word_at s i = slice_index s.words i

-- whether the word at place i was decoded since it came there
abbrev pub knows : KnownPageState → ℕ → Bool
knows s i = known_at s.places i

-- an operation that has these does what the instruction means, unless it is none
abbrev pub Means : Fields → Instr → Type 0
Means f instr = f.kind ≢ kind.Other → (pc : ℕ) (r : Registers) → does_by f.kind f.to f.first f.second f.immediate pc r ≡ meaning instr pc r

-- what is known goes together, operations are those of their words, a place that is not known has none, and nothing is known after the last word
pub record IsPage (s : KnownPageState) : Type 0 where
  pub fits : (i : ℕ) → i ≤ 1024 → FitsAt s.places i
  pub means : (i : ℕ) → i < 1024 → Means (fields_at s.places i) (instruction_of (word_at s i))
  pub blank : (i : ℕ) → known_at s.places i ≡ false → (fields_at s.places i).kind ≡ kind.Other
  pub last : known_at s.places 1024 ≡ false

-- the words of a page are those of memory from an address on
abbrev pub HoldsWords : KnownPageState → List ℕ → ℕ → Type 0
HoldsWords page memory base = (k : ℕ) → k < 1024 → slice_index page.words k ≡ memory_word memory (base + 4 * k)
