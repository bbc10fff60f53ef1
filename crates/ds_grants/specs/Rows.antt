-- Page-table words of a few entries, and what changes of them leave: each row is a theorem about the
-- definitions alone.
use Rattle.std.specs.Prelude.{◌≡◌, refl, ℕ, Bool, true, false, List, [], ◌∷◌, map, slice_set, Option, Some, None}
use Rattle.ds_tlb.specs.declared.entry.Entry.{Entry}
use Rattle.ds_tlb.specs.Words.{entry_of}
use Rattle.ds_policy.specs.declared.grant.Entry as granted
use Rattle.ds_policy.specs.declared.grant.Grant.{Grant}
use Rattle.ds_policy.specs.declared.grant.Right.{Right}
use Rattle.ds_policy.specs.declared.grant.Right.TheVariants.{Nothing, Read, Write}
use Rattle.ds_policy.specs.Pages.{Table}
use Rattle.ds_policy.specs.Families.{with_parent}
use Rattle.ds_grants.specs.State.{GrantsState}
use Rattle.ds_grants.specs.Inner.State.{erased_grant, without_grant}
use Rattle.ds_grants.specs.Inner.Parents.{AreAlike}
use Rattle.ds_grants.specs.Inner.First.{no_grants}
use Rattle.ds_grants.specs.Inner.Copies.{with_copy, with_own_frame}
use Rattle.ds_grants.specs.Inner.Frames.{total}
use Rattle.ds_tables.specs.Places.{Places}
use Rattle.ds_tables.specs.Inner.Tables.{with_entry}
use Rattle.ds_grants.specs.Words.{word_of_right, granted_word, regions_taken}
use Rattle.ds_grants.specs.Buffer.{hi_of, lo_of}
use Rattle.ds_grants.specs.Inner.Changes.{is_used, memory_without, places_without, both_forgotten, family_places, all_forgotten}
use Rattle.ds_grants.specs.Inner.Represented.{HasRegion}

-- a grant of a page by rule 1
abbrev pub grant : Right → Option ℕ → Grant
grant right page = record { right = right; page = page; rule = 1; give = false; giver = 0; parent = None; until = None }

abbrev pub entry : ℕ → Right → Option ℕ → granted.Entry
entry address right page = record { address = address; grant = grant right page }

-- process 1 may read page 0 and write page 3, and has had a right taken away; of its pages the
-- last lies in a region of its own. Process 2 may read page 1023, and has had two rights taken away
-- in two more regions.
abbrev pub grants : GrantsState
grants = record (no_grants 2 1024 4) {
  table = (entry 0x00400000 Read (Some 0) ∷ entry 0x00410000 Write (Some 3) ∷ entry 0x00420000 Nothing None
      ∷ entry 0x00800000 Read (Some 1) ∷ [])
      ∷ (entry 0x00400000 Read (Some 1023) ∷ entry 0x00800000 Nothing None ∷ entry 0x00C00000 Nothing None ∷ [])
      ∷ [];
}

-- the tables of its regions 1 and 2 lie in frames 2 and 4, those of process 2 in frames 6 to 8
abbrev pub places : Places
places = (Some 1 ∷ None ∷ Some 2 ∷ None ∷ []) ∷ (Some 1 ∷ Some 2 ∷ Some 3 ∷ None ∷ []) ∷ []

-- Words.

pub a_read_page_is_valid : granted_word grants 1 0x400 ≡ 0x00192200
a_read_page_is_valid = refl

pub a_written_page_is_valid_and_dirty : granted_word grants 1 0x410 ≡ 0x00195600
a_written_page_is_valid_and_dirty = refl

pub a_right_that_was_taken_away_has_word_0 : granted_word grants 1 0x420 ≡ 0
a_right_that_was_taken_away_has_word_0 = refl

pub no_right_to_a_page_has_word_0 : word_of_right grants Nothing (Some 3) ≡ 0
no_right_to_a_page_has_word_0 = refl

pub no_entry_has_word_0 : granted_word grants 1 0x411 ≡ 0
no_entry_has_word_0 = refl

pub the_last_page_lies_in_frame_1425 : granted_word grants 2 0x400 ≡ 0x00591200
the_last_page_lies_in_frame_1425 = refl

pub another_process_has_other_words : granted_word grants 2 0x410 ≡ 0
another_process_has_other_words = refl

pub three_places_of_five_are_taken : regions_taken (Some 1 ∷ None ∷ Some 300 ∷ Some 2 ∷ None ∷ []) ≡ 1 ∷ 300 ∷ 2 ∷ []
three_places_of_five_are_taken = refl

-- Pages that share a frame.

-- page 3 may share its frame
abbrev pub marked : GrantsState
marked = record grants { shared = slice_set grants.shared 3 true }

pub a_shared_page_is_not_dirty : granted_word marked 1 0x410 ≡ 0x00195200
a_shared_page_is_not_dirty = refl

pub a_page_alone_is_dirty : word_of_right marked Write (Some 2) ≡ 0x00194600
a_page_alone_is_dirty = refl

-- page 2 is a copy of page 3
abbrev pub copied : GrantsState
copied = with_copy grants 3 2

pub a_copy_lies_in_the_frame_of_its_page : word_of_right copied Write (Some 2) ≡ 0x00195200
a_copy_lies_in_the_frame_of_its_page = refl

pub neither_of_the_two_is_dirty : granted_word copied 1 0x410 ≡ 0x00195200
neither_of_the_two_is_dirty = refl

pub a_page_in_a_frame_of_its_own_is_dirty : word_of_right (with_own_frame copied 2 9) Write (Some 2) ≡ 0x0019B600
a_page_in_a_frame_of_its_own_is_dirty = refl

pub the_other_stays_marked : word_of_right (with_own_frame copied 2 9) Write (Some 3) ≡ 0x00195200
the_other_stays_marked = refl

-- What the buffer has of them.

pub the_page_has_its_number_and_the_address_spaces : hi_of 0x410 5 ≡ 0x00410140
the_page_has_its_number_and_the_address_spaces = refl

pub a_users_page_has_its_word : lo_of grants places 1 0x410 ≡ 0x00195600
a_users_page_has_its_word = refl

pub the_page_of_a_table_may_be_read : lo_of grants places 1 0xC0001 ≡ 0x00002200
the_page_of_a_table_may_be_read = refl

pub the_table_of_process_2_lies_in_frame_6 : lo_of grants places 2 0xC0001 ≡ 0x00006200
the_table_of_process_2_lies_in_frame_6 = refl

pub an_absent_table_is_the_empty_one : lo_of grants places 1 0xC0003 ≡ 0x00001200
an_absent_table_is_the_empty_one = refl

-- what address space 1 has for 00400000, 00410000 and the page of their table, and 2 for 00410000
abbrev pub entries : List Entry
entries = entry_of 0x00400040 0x00192200 ∷ entry_of 0x00410040 0x00195600 ∷ entry_of 0xC0001040 0x00002200
    ∷ entry_of 0x00410080 0x00192200 ∷ []

pub the_page_and_that_of_its_table_are_forgotten : map {B = ℕ × Bool} (λ (e : Entry). (e.vpn, e.v)) (both_forgotten entries 0x00410000 (Some 1))
    ≡ (0x400, true) ∷ (0x80001, false) ∷ (0x80002, false) ∷ (0x410, true) ∷ []
the_page_and_that_of_its_table_are_forgotten = refl

-- Changes.

pub a_region_with_another_entry_stays_open : places_without places grants 1 0x00410000 ≡ places
a_region_with_another_entry_stays_open = refl

pub a_region_is_closed_with_its_last_entry : places_without places grants 1 0x00800000
    ≡ (Some 1 ∷ None ∷ None ∷ None ∷ []) ∷ (Some 1 ∷ Some 2 ∷ Some 3 ∷ None ∷ []) ∷ []
a_region_is_closed_with_its_last_entry = refl

pub a_removed_entry_has_word_0 : (memory : List ℕ) → memory_without memory places grants 1 0x00410000 ≡ with_entry memory places 1 0x00410000 0
a_removed_entry_has_word_0 memory = refl

pub a_closed_table_keeps_its_words : (memory : List ℕ) → memory_without memory places grants 1 0x00800000 ≡ memory
a_closed_table_keeps_its_words memory = refl

pub a_region_is_used_by_its_own_process : is_used grants 1 3 ≡ false
a_region_is_used_by_its_own_process = refl

pub a_fourth_region_may_be_used : HasRegion grants 2 0x01000000
a_fourth_region_may_be_used = refl

-- Families.

-- process 1 shared its page at 00410000 with process 2, which shared it back
abbrev pub family : Table
family =
    (entry 0x00410000 Write (Some 3) ∷ shared 2 0x00400000 (entry 0x00800000 Read (Some 3))
    ∷ entry 0x00C00000 Read (Some 0) ∷ [])
    ∷ (entry 0x00C00000 Read (Some 3) ∷ shared 1 0x00410000 (entry 0x00400000 Read (Some 3)) ∷ [])
    ∷ []
  where
    shared : ℕ → ℕ → granted.Entry → granted.Entry
    shared p address e = with_parent (Some (record { process = p; address = address })) e

pub a_family_stands_process_by_process_and_then_its_first : family_places family 1 0x00410000
    ≡ record { process = 1; address = 0x00800000 } ∷ record { process = 2; address = 0x00400000 }
    ∷ record { process = 1; address = 0x00410000 } ∷ []
a_family_stands_process_by_process_and_then_its_first = refl

pub a_share_of_a_share_has_no_other_above_it : family_places family 2 0x00400000
    ≡ record { process = 1; address = 0x00800000 } ∷ record { process = 2; address = 0x00400000 } ∷ []
a_share_of_a_share_has_no_other_above_it = refl

-- process 1 has address space 1, and process 2 has 2
pub each_place_is_forgotten_of_its_own_process : map {B = ℕ × Bool} (λ (e : Entry). (e.vpn, e.v)) (all_forgotten entries (record { numbers = 0 ∷ 1 ∷ 2 ∷ []; next = 3 }) (record { process = 1; address = 0x00400000 } ∷ record { process = 2; address = 0x00410000 } ∷ []))
    ≡ (0x80000, false) ∷ (0x410, true) ∷ (0x80002, false) ∷ (0x80003, false) ∷ []
each_place_is_forgotten_of_its_own_process = refl

-- Parents.

-- process 1 shared page 3 with process 2, which shared it with process 3
abbrev pub shared_twice : GrantsState
shared_twice = record (no_grants 3 1024 4) {
  table = (entry 0x00410000 Write (Some 3) ∷ [])
      ∷ (with_parent (Some (record { process = 1; address = 0x00410000 })) (entry 0x00500000 Read (Some 3)) ∷ [])
      ∷ (with_parent (Some (record { process = 2; address = 0x00500000 })) (entry 0x00600000 Read (Some 3)) ∷ []) ∷ [];
}

pub a_share_of_what_is_removed_has_its_parent : (without_grant shared_twice 2 0x00500000).table
    ≡ (entry 0x00410000 Write (Some 3) ∷ []) ∷ []
    ∷ (with_parent (Some (record { process = 1; address = 0x00410000 })) (entry 0x00600000 Read (Some 3)) ∷ []) ∷ []
a_share_of_what_is_removed_has_its_parent = refl

pub a_share_of_what_is_erased_keeps_it : (erased_grant shared_twice 2 0x00500000).table
    ≡ (entry 0x00410000 Write (Some 3) ∷ []) ∷ []
    ∷ (with_parent (Some (record { process = 2; address = 0x00500000 })) (entry 0x00600000 Read (Some 3)) ∷ []) ∷ []
a_share_of_what_is_erased_keeps_it = refl

pub the_two_are_alike : AreAlike (without_grant shared_twice 2 0x00500000).table (erased_grant shared_twice 2 0x00500000).table
the_two_are_alike = refl

-- Frames.

pub two_pages_of_a_frame_are_two : total (2 ∷ 0 ∷ 1 ∷ []) ≡ 3
two_pages_of_a_frame_are_two = refl
