-- What is granted, the page state that it has in a memory, and what a call answers.
use Rattle.std.specs.Prelude.{ℕ, ◌+◌, Bool, false, ◌||◌, nat_lt, if◌then◌else◌, List, map, slice_index, slice_index_or, Option, Some, None}
use Rattle.std.specs.List.{range_with_len}
use Rattle.ds_mem.specs.Memory.{frame_of}
use Rattle.ds_policy.specs.Pages.{Table, Pages, is_named_by}
use Rattle.ds_policy.specs.Grants.{PageState}

-- the permission table, and what it needs to be a page state
pub record GrantsState : Type 0 where
  pub table : Table
  -- how many pages may live at once
  pub frames : ℕ
  -- how many of the first pages the policy names
  pub named : ℕ
  -- which processes have ended; process p is at p - 1
  pub ended : List Bool
  -- of each page the number, among the frames of pages, of the frame in which it lies
  pub lies : List ℕ
  -- of each page whether another page may lie in its frame
  pub shared : List Bool

-- a page lives where the policy or an entry names it
abbrev pub is_live : GrantsState → ℕ → Bool
is_live g page = nat_lt page g.named || is_named_by g.table page

-- the frame in which a page lies
abbrev pub frame_of_page : GrantsState → ℕ → ℕ
frame_of_page g page = slice_index g.lies page + 402

-- another page may lie in its frame
abbrev pub is_shared : GrantsState → ℕ → Bool
is_shared g page = slice_index_or g.shared page false

-- the bytes of a page in memory, where it lives
abbrev pub page_in : GrantsState → List ℕ → ℕ → Option (List ℕ)
page_in g memory page =
    if is_live g page then Some (frame_of memory (frame_of_page g page)) else None

-- the pages that lie in memory, by their numbers
abbrev pub pages_in : GrantsState → List ℕ → Pages
pages_in g memory = map (page_in g memory) (range_with_len 0 g.frames)

-- the page state that lies in memory
abbrev pub page_state : GrantsState → List ℕ → PageState
page_state g memory = record { pages = pages_in g memory; table = g.table; named = g.named }
