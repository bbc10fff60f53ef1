-- Page-table words as a function of what is granted, and memory that has them.
use Rattle.std.specs.Prelude.{◌≡◌, ℕ, ◌+◌, ◌*◌, ◌^◌, ◌<◌, ◌==◌, ◌&&◌, not, true, if◌then◌else◌, List, [], ◌∷◌, length, Option, Some, None, is_some}
use Rattle.std.specs.List.{list_any}
use Rattle.ds_word.specs.Word.{bit}
use Rattle.ds_policy.specs.declared.grant.Entry as granted
use Rattle.ds_policy.specs.declared.grant.Grant.{Grant}
use Rattle.ds_policy.specs.declared.grant.Right.{Right}
use Rattle.ds_policy.specs.Pages.{entry_at, entries_of}
use Rattle.ds_policy.specs.Grants.{is_some_right, is_write, count_distinct}
use Rattle.ds_grants.specs.State.{GrantsState, frame_of_page, is_shared}
use Rattle.ds_tables.specs.Places.{Places, region_of, places_of, region_place}
use Rattle.ds_tables.specs.Tables.{entry_word}

-- EntryLo of a page for a right: its frame, valid, and dirty where the page may be written and no
-- other page may lie in its frame
abbrev pub page_word : GrantsState → ℕ → Right → ℕ
page_word g page right =
    frame_of_page g page * 2 ^ 12 + bit 10 (is_write right && not (is_shared g page)) + bit 9 true

-- the page-table word of a page, if there is one, for a right: 0 where there is no right
abbrev pub word_of_right : GrantsState → Right → Option ℕ → ℕ
word_of_right g right None = 0
word_of_right g right (Some page) = if is_some_right right then page_word g page right else 0

-- the page-table word of a grant: 0 where there is none
abbrev pub word_of_grant : GrantsState → Option Grant → ℕ
word_of_grant g None = 0
word_of_grant g (Some grant) = word_of_right g grant.right grant.page

-- the page-table word of a process for a user's page
abbrev pub granted_word : GrantsState → ℕ → ℕ → ℕ
granted_word g p vpn = word_of_grant g (entry_at g.table p (vpn * 2 ^ 12))

-- the regions whose tables stand at these places
abbrev pub regions_taken : List (Option ℕ) → List ℕ
regions_taken [] = []
regions_taken (None ∷ places) = regions_taken places
regions_taken (Some region ∷ places) = region ∷ regions_taken places

-- the page tables in memory have the words of what is granted
pub record WordsHold (memory : List ℕ) (t : Places) (g : GrantsState) : Type 0 where
  pub words : (p vpn : ℕ) → 0 < p → vpn < 2 ^ 19
      → entry_word memory t p (vpn * 2 ^ 12) ≡ granted_word g p vpn
  -- a region has a table exactly where an entry of the process lies in it
  pub regions : (p r : ℕ) → 0 < p → is_some (region_place t p r)
      ≡ list_any (λ (e : granted.Entry). region_of e.address == r) (entries_of g.table p)
  -- no region has two tables
  pub distinct : (p : ℕ) → count_distinct (regions_taken (places_of t p))
      ≡ length (regions_taken (places_of t p))
  -- the same processes
  pub same : length t ≡ length g.table
