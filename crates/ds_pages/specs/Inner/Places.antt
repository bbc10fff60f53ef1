-- What is known of each place of a page.
use Rattle.std.specs.Prelude.{◌≡◌, ◌≢◌, ℕ, ◌+◌, ◌*◌, ◌/◌, ◌%◌, ◌≤◌, Bool, true, not, ◌==◌, ◌&&◌, ◌||◌, nat_lt, if◌then◌else◌, Option, None, Some, slice_get, slice_index}
use Rattle.ds_word.specs.Word.{word}
use Rattle.ds_pages.specs.declared.operation.Operation.{Operation}
use Rattle.ds_pages.specs.declared.operation.OperationKind.{OperationKind}
use Rattle.ds_pages.specs.declared.operation.OperationKind.TheVariants as kind
use Rattle.ds_pages.specs.declared.does.Does.{Does}
use Rattle.ds_pages.specs.declared.does.Does.TheVariants as does
use Rattle.ds_pages.specs.declared.turn.Stride.{Stride}
use Rattle.ds_pages.specs.declared.turn.Stride.TheVariants as turn
use Rattle.ds_pages.specs.declared.place.Place.{Place}
use Rattle.ds_pages.specs.declared.places.Places.{Places}
use Rattle.ds_pages.specs.Inner.Does.{single, steps, is_known, is_branch, is_load, has_slot}
use Rattle.ds_pages.specs.Inner.Turn.{first_of, second_of}

-- what an operation has, in numbers
pub record Fields : Type 0 where
  pub kind : OperationKind
  pub to : ℕ
  pub first : ℕ
  pub second : ℕ
  pub immediate : ℕ

-- what an operation has
abbrev pub fields_of : Operation → Fields
fields_of o = record { kind = o.kind; to = o.to.number; first = o.first.number; second = o.second.number; immediate = o.immediate }

-- the kind at a place
abbrev pub kind_in : Option OperationKind → OperationKind
kind_in None = kind.Other
kind_in (Some k) = k

-- what is done at a place
abbrev pub does_in : Option Place → Does
does_in None = does.Unknown
does_in (Some place) = place.does

-- what is done at a place in one turn
abbrev pub turn_in : Option Stride → Stride
turn_in None = turn.Unknown
turn_in (Some t) = t

-- the register that is written by the operation at a place
abbrev pub to_in : Option Place → ℕ
to_in None = 1
to_in (Some place) = place.to.number

-- the first register that is read
abbrev pub first_in : Option Place → ℕ
first_in None = 0
first_in (Some place) = place.first.number

-- the second register that is read
abbrev pub second_in : Option Place → ℕ
second_in None = 0
second_in (Some place) = place.second.number

-- the immediate
abbrev pub immediate_in : Option Place → ℕ
immediate_in None = 0
immediate_in (Some place) = place.immediate

-- what the operation of a kind at a place has
abbrev pub fields_in : OperationKind → Option Place → Fields
fields_in k x = record { kind = k; to = to_in x; first = first_in x; second = second_in x; immediate = immediate_in x }

-- what is done at place i
abbrev pub does_at : Places → ℕ → Does
does_at p i = does_in (slice_get p.places i)

-- what the operation at place i has
abbrev pub fields_at : Places → ℕ → Fields
fields_at p i = fields_in (kind_in (slice_get p.kinds i)) (slice_get p.places i)

-- what is done at place i in one turn
abbrev pub turn_at : Places → ℕ → Stride
turn_at p i = turn_in (slice_get p.turns i)

-- the steps from place i to the end of its block
abbrev pub length_at : Places → ℕ → ℕ
length_at p i = slice_index p.lengths i

-- the place that a branch at place i leads to
abbrev pub target_at : Places → ℕ → ℕ
target_at p i = slice_index p.targets i

-- where a branch at place i with this distance leads to, in bytes from the beginning of its page
abbrev pub offset_of : ℕ → ℕ → ℕ
offset_of i distance = word (4 * i + distance)

-- whether that is a word of the page
abbrev pub stays : ℕ → ℕ → Bool
stays i distance = (offset_of i distance % 4 == 0) && nat_lt (offset_of i distance) 4096

-- whether the operation at place i, which is d alone, is left: a load whose register the next operation reads, a branch or jump without its slot, or a branch that leaves the page
abbrev pub is_left : Does → ℕ → Fields → Fields → Bool
is_left d i here next =
    ((is_load d && ((here.to == next.first) || (here.to == next.second))) || (has_slot d && not (nat_lt i 1023)))
    || (is_branch d && not (stays i here.immediate))

-- what is to be done at place i, by what its operation has and the next
abbrev pub done_by : ℕ → Fields → Fields → Does
done_by i here next = if is_left (single here.kind) i here next then does.Left else single here.kind

-- the same, of the operations of a page
abbrev pub done_at : Places → ℕ → Does
done_at p i = done_by i (fields_at p i) (fields_at p (i + 1))

-- the register that the operation at place i writes is none that the next one reads
abbrev pub IsFreeAt : Places → ℕ → Type 0
IsFreeAt p i = ((fields_at p i).to ≢ (fields_at p (i + 1)).first) × ((fields_at p i).to ≢ (fields_at p (i + 1)).second)

-- what is known of place i goes together, and with the next place
pub record FitsAt (p : Places) (i : ℕ) : Type 0 where
  pub done : is_known (does_at p i) ≡ true → does_at p i ≡ done_at p i
  pub length : length_at p i ≡ steps (does_at p i) (length_at p (i + 1))
  pub short : length_at p i + i ≤ 1024
  pub target : is_branch (does_at p i) ≡ true → target_at p i ≡ offset_of i (fields_at p i).immediate / 4
  pub first : first_of (turn_at p i) ≡ does_at p i
  pub second : second_of (turn_at p i) (does_at p (i + 1)) ≡ does_at p (i + 1)

-- whether the word at place i was decoded since it came there
abbrev pub known_at : Places → ℕ → Bool
known_at p i = is_known (does_at p i)

-- what follows from the operations at place i is the same
pub record SameAt (p q : Places) (i : ℕ) : Type 0 where
  pub done : does_at q i ≡ does_at p i
  pub length : length_at q i ≡ length_at p i
  pub target : target_at q i ≡ target_at p i
  pub turn : turn_at q i ≡ turn_at p i
