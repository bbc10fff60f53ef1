-- Pages of known operations, each in the room of its frame of memory.
use Rattle.std.specs.Prelude.{◌≡◌, ℕ, ◌*◌, Bool, true, false, List, Option, Some, None, IfSome, Box, length, slice_index_or, slice_set}
use Rattle.std.specs.Global.{Global}
use Rattle.ds_pages.specs.Inner.Page.{KnownPageState, HoldsWords}

-- the room of a frame's page, with the page or empty
abbrev pub Room : Type 0
Room = Option (Box KnownPageState Global)

-- what lies in the room of a frame, where there are rooms
abbrev pub room_of : Option (List Room) → ℕ → Room
room_of None f = None
room_of (Some rooms) f = slice_index_or rooms f None

-- the rooms with this in that of a frame, where there are rooms
abbrev pub with_room : Option (List Room) → ℕ → Room → Option (List Room)
with_room None f room = None
with_room (Some rooms) f room = Some (slice_set rooms f room)

-- the page in a room, if there is one, holds the words of a frame
abbrev pub HoldsFrame : Room → List ℕ → ℕ → Type 0
HoldsFrame room memory f = IfSome room (λ page. HoldsWords page.value memory (4096 * f))

-- memory is whole, and the page of a frame that is sure holds its words
pub record IsKnown (memory : List ℕ) (rooms : Option (List Room)) (sure : List Bool) : Type 0 where
  pub size : length memory ≡ 8388608
  pub holds : (f : ℕ) → slice_index_or sure f false ≡ true → HoldsFrame (room_of rooms f) memory f
