-- Courses of units, and steps that are none: each row is a theorem about the definitions alone.
use Rattle.std.proofs.Common.{◌≡◌, ◌≢◌, ℕ, suc, inl, inr, true, false, List, [], ◌∷◌, refl, ap, sym, ◌∙◌, arith}
use Rattle.std.specs.Prelude.{slice_set, None}
use Rattle.ds_tlb.specs.declared.entry.Entry.{Entry}
use Rattle.ds_tlb.specs.Entries.{empty_entries, find}
use Rattle.ds_refinement.specs.Course.{Ask, Fetch, Slot, Access, UnitPages, asked, UnitPlace, Begun, InItsSlot, AtWord, AtDoubleMiss, AtModification, AtService, Course}
use Rattle.ds_refinement.specs.CourseSteps.{next_wired, table_page}
use Rattle.ds_refinement.specs.Inner.CourseSteps.{counted, wrote, tabled, copied, Next, Branches, Misses, MissesInSlot, Modifies, Traps, Passes, MissesTable, Writes, Returns, Tables, Copies, After}
use Rattle.ds_refinement.specs.Tally.{turns}
use Rattle.ds_refinement.specs.Inner.Tally.{IsShort, steps_ahead}

-- an entry of a page, in address space 5
abbrev entry : ℕ → Entry
entry page = record { vpn = page; asid = 5; pfn = 0; n = false; d = false; v = true; g = false }

-- the instruction stands at the end of page 1023, its slot at the beginning of the next; its data are in page 2048, and in page 3072 once the
-- process is touched: each has a page of the page table of its own
abbrev pages : UnitPages
pages = record { fetch = 1023; slot = 1024; access = 2048; touched = 3072 }

-- a unit of these pages begins over a buffer, where Random is 63; no page may be written
abbrev begun : List Entry → Course
begun entries = record {
  place = Begun;
  page = 0;
  work = record {
    pages = pages;
    dirty = λ page. false;
    entries = entries;
    asid = 5;
    random = 63;
    wired = 0;
    spent = 0;
    written = [];
    since = 0;
    tables = 0;
    services = 0;
  };
}

-- what comes of a step, or of some
abbrev branched : Course → Course
branched c = record { place = InItsSlot; page = c.page; work = counted c.work }

abbrev missed : Ask → Course → Course
missed ask c = record { place = AtWord 0; page = asked c.work.pages ask; work = counted c.work }

abbrev modified : Course → Course
modified c = record { place = AtModification; page = c.work.pages.access; work = counted c.work }

abbrev trapped : Course → Course
trapped c = record { place = AtService; page = c.page; work = counted c.work }

abbrev passed : ℕ → Course → Course
passed word c = record { place = AtWord word; page = c.page; work = counted c.work }

abbrev written : Course → Course
written c = record { place = AtWord 7; page = c.page; work = wrote (entry c.page) c.work }

abbrev returned : Course → Course
returned c = record { place = Begun; page = c.page; work = counted c.work }

abbrev six_words : Course → Course
six_words c = passed 6 (passed 5 (passed 4 (passed 3 (passed 2 (passed 1 c)))))

abbrev refilled : Course → Course
refilled c = returned (passed 8 (written (six_words c)))

abbrev missed_table : Course → Course
missed_table c = record { place = AtDoubleMiss; page = table_page c.page; work = counted c.work }

abbrev entered : Course → Course
entered c = record { place = Begun; page = c.page; work = tabled (entry c.page) c.work }

abbrev doubled : Course → Course
doubled c = entered (missed_table (passed 2 (passed 1 c)))

-- the page may be written from here on
abbrev writable : Course → Course
writable c = record { place = Begun; page = c.page; work = copied c.work.entries (λ page. true) c.work }

-- nine words
whole : (n : ℕ) (b c : Course) → c.place ≡ AtWord 0 → 5 ≡ c.work.asid → After n b c → After (suc (suc (suc (suc (suc (suc (suc (suc (suc n))))))))) b (refilled c)
whole n b c first space path =
    let word_6 = six_words c in (
      passed 8 (written word_6),
      (
        written word_6,
        (
          word_6,
          (
            passed 5 (passed 4 (passed 3 (passed 2 (passed 1 c)))),
            (
              passed 4 (passed 3 (passed 2 (passed 1 c))),
              (
                passed 3 (passed 2 (passed 1 c)),
                (
                  passed 2 (passed 1 c),
                  (passed 1 c, (c, path, Passes 0 first (omega arith) (λ (e : ◌≡◌ {A = ℕ} 0 6). omega arith) refl), Passes 1 refl (omega arith) (λ (e : ◌≡◌ {A = ℕ} 1 6). omega arith) refl),
                  Passes 2 refl (omega arith) (λ (e : ◌≡◌ {A = ℕ} 2 6). omega arith) refl,
                ),
                Passes 3 refl (omega arith) (λ (e : ◌≡◌ {A = ℕ} 3 6). omega arith) refl,
              ),
              Passes 4 refl (omega arith) (λ (e : ◌≡◌ {A = ℕ} 4 6). omega arith) refl,
            ),
            Passes 5 refl (omega arith) (λ (e : ◌≡◌ {A = ℕ} 5 6). omega arith) refl,
          ),
          Writes (entry c.page) refl refl space refl,
        ),
        Passes 7 refl (omega arith) (λ (e : ◌≡◌ {A = ℕ} 7 6). omega arith) refl,
      ),
      Returns refl refl,
    )

-- a double miss and its service
double : (n : ℕ) (b c : Course) → c.place ≡ AtWord 0 → 5 ≡ c.work.asid → find c.work.entries (table_page c.page) c.work.asid ≡ None → After n b c → After (suc (suc (suc (suc n)))) b (doubled c)
double n b c first space none path = (
  missed_table (passed 2 (passed 1 c)),
  (
    passed 2 (passed 1 c),
    (passed 1 c, (c, path, Passes 0 first (omega arith) (λ (e : ◌≡◌ {A = ℕ} 0 6). omega arith) refl), Passes 1 refl (omega arith) (λ (e : ◌≡◌ {A = ℕ} 1 6). omega arith) refl),
    MissesTable refl none refl,
  ),
  Tables (entry (table_page c.page)) refl refl space refl,
)

-- A unit that meets nothing.

-- all its pages have entries
abbrev full : Course
full = begun (slice_set (slice_set (slice_set (empty_entries 64) 8 (entry 1023)) 9 (entry 1024)) 10 (entry 2048))

pub a_unit_that_meets_nothing_takes_two_instructions : After 2 full (trapped (branched full)) × ((trapped (branched full)).work.spent ≡ 2)
a_unit_that_meets_nothing_takes_two_instructions = ((branched full, (full, refl, Branches refl refl), Traps 0 (inr refl) refl), refl)

-- A unit that misses the page of its instruction, and that page's page table.

abbrev empty : Course
empty = begun (empty_entries 64)

abbrev once : Course
once = refilled (missed Fetch (doubled (missed Fetch empty)))

pub a_miss_with_a_double_miss_takes_14 : After 15 empty once × (once.work.spent ≡ 14)
a_miss_with_a_double_miss_takes_14 = (
  whole 6 empty (missed Fetch (doubled (missed Fetch empty))) refl refl
      (doubled (missed Fetch empty), double 1 empty (missed Fetch empty) refl refl refl (empty, refl, Misses Fetch refl refl refl), Misses Fetch refl refl refl),
  refl,
)

pub it_wrote_slots_0_and_52 : (once.work.wired ≡ 1) × (once.work.written ≡ 52 ∷ [])
it_wrote_slots_0_and_52 = (refl, refl)

-- The longest unit: its data are missed before the process is touched, and the refill takes the place of its instruction's entry; then each page is
-- missed with its page table's page, and the data's page may not be written.

abbrev bare : Course
bare = begun (slice_set (slice_set (slice_set (empty_entries 64) 55 (entry 1023)) 41 (entry 1024)) 7 (entry 0xC0002))

abbrev early : Course
early = refilled (missed Access (branched bare))

early_path : After 11 bare early
early_path = whole 2 bare (missed Access (branched bare)) refl refl (branched bare, (bare, refl, Branches refl refl), MissesInSlot Access refl (λ (e : Access ≡ Fetch). cc) refl refl)

abbrev fetching : Course
fetching = doubled (missed Fetch early)

abbrev fetched : Course
fetched = refilled (missed Fetch fetching)

fetched_path : After 26 bare fetched
fetched_path =
    whole 17 bare (missed Fetch fetching) refl refl
    (fetching, double 12 bare (missed Fetch early) refl refl refl (early, early_path, Misses Fetch refl refl refl), Misses Fetch refl refl refl)

-- a branch, and a miss in its slot
slot_misses : (n : ℕ) (b c : Course) (ask : Ask) → c.place ≡ Begun → ask ≢ Fetch → find c.work.entries (asked c.work.pages ask) c.work.asid ≡ None
    → After n b c → After (suc (suc n)) b (missed ask (branched c))
slot_misses n b c ask first apart none path = (branched c, (c, path, Branches first refl), MissesInSlot ask refl apart none refl)

abbrev slotting : Course
slotting = doubled (missed Slot (branched fetched))

abbrev slotted : Course
slotted = refilled (missed Slot (branched slotting))

slotted_path : After 43 bare slotted
slotted_path =
    whole 34 bare (missed Slot (branched slotting)) refl refl (slot_misses 32 bare slotting Slot refl (λ (e : Slot ≡ Fetch). cc) refl
    (double 28 bare (missed Slot (branched fetched)) refl refl refl (slot_misses 26 bare fetched Slot refl (λ (e : Slot ≡ Fetch). cc) refl fetched_path)))

abbrev reaching : Course
reaching = doubled (missed Access (branched slotted))

abbrev reached : Course
reached = refilled (missed Access (branched reaching))

reached_path : After 60 bare reached
reached_path =
    whole 51 bare (missed Access (branched reaching)) refl refl (slot_misses 49 bare reaching Access refl (λ (e : Access ≡ Fetch). cc) refl
    (double 45 bare (missed Access (branched slotted)) refl refl refl (slot_misses 43 bare slotted Access refl (λ (e : Access ≡ Fetch). cc) refl slotted_path)))

abbrev longest : Course
longest = trapped (branched (writable (modified (branched reached))))

pub the_longest_unit_has_65_steps : After 65 bare longest
the_longest_unit_has_65_steps = (
  branched (writable (modified (branched reached))),
  (
    writable (modified (branched reached)),
    (
      modified (branched reached),
      (branched reached, (reached, reached_path, Branches refl refl), Modifies (inr refl) refl refl),
      Copies reached.work.entries (λ page. true) refl refl (λ slot e at. (e, at, refl, refl)) refl refl,
    ),
    Branches refl refl,
  ),
  Traps longest.page (inr refl) refl,
)

pub the_longest_unit_takes_61_instructions : (longest.work.spent ≡ 61) × (longest.work.since ≡ 53) × (longest.work.services ≡ 4)
the_longest_unit_takes_61_instructions = (refl, refl, refl)

pub it_writes_seven_slots : (longest.work.written ≡ 9 ∷ 25 ∷ 41 ∷ 55 ∷ []) × (longest.work.tables ≡ 3) × (longest.work.wired ≡ 3)
it_writes_seven_slots = (refl, refl, refl)

pub the_longest_unit_is_short : IsShort longest.work
the_longest_unit_is_short = record { spent = omega arith; written = omega arith; since = omega arith; tables = omega arith; services = omega arith }

pub so_many_steps_are_left_of_it : (steps_ahead bare ≡ 128) × (steps_ahead longest ≡ 7)
so_many_steps_are_left_of_it = (refl, refl)

-- The turn of the first eight slots.

pub after_slot_0_it_is_slot_1s_turn : next_wired 0 ≡ 1
after_slot_0_it_is_slot_1s_turn = refl

pub after_slot_7_it_is_slot_0s_turn : next_wired 7 ≡ 0
after_slot_7_it_is_slot_0s_turn = refl

pub slot_7_had_its_turn_before_slot_0 : turns 7 0 ≡ 1
slot_7_had_its_turn_before_slot_0 = refl

pub a_slot_has_its_turn_again_after_eight : turns 3 3 ≡ 8
a_slot_has_its_turn_again_after_eight = refl

-- Steps that are none.

-- it comes to another place
elsewhere : (d e : Course) (place : UnitPlace) → d ≡ e → d.place ≡ place → e.place ≡ place
elsewhere d e place is at = sym (ap (λ (x : Course). x.place) is) ∙ at

pub a_page_with_an_entry_is_not_missed : (d : Course) → Next full d → d.place ≡ AtWord 0 → ⊥
a_page_with_an_entry_is_not_missed d (Branches place is) at = let wrong = elsewhere d _ (AtWord 0) is at in cc
a_page_with_an_entry_is_not_missed d (Misses Fetch place none is) at = cc
a_page_with_an_entry_is_not_missed d (Misses Slot place none is) at = cc
a_page_with_an_entry_is_not_missed d (Misses Access place none is) at = cc
a_page_with_an_entry_is_not_missed d (MissesInSlot ask place apart none is) at = cc
a_page_with_an_entry_is_not_missed d (Modifies place clean is) at = let wrong = elsewhere d _ (AtWord 0) is at in cc
a_page_with_an_entry_is_not_missed d (Traps page place is) at = let wrong = elsewhere d _ (AtWord 0) is at in cc
a_page_with_an_entry_is_not_missed d (Passes word place low apart is) at = cc
a_page_with_an_entry_is_not_missed d (MissesTable place none is) at = cc
a_page_with_an_entry_is_not_missed d (Writes e place page space is) at = cc
a_page_with_an_entry_is_not_missed d (Returns place is) at = cc
a_page_with_an_entry_is_not_missed d (Tables e place page space is) at = cc
a_page_with_an_entry_is_not_missed d (Copies entries dirty place writable keys size is) at = cc

-- a branch whose page has lost its entry since
abbrev lost : Course
lost = branched (begun (slice_set (slice_set (empty_entries 64) 9 (entry 1024)) 10 (entry 2048)))

pub a_slot_does_not_miss_the_page_of_its_branch : (d : Course) → Next lost d → d.place ≡ AtWord 0 → ⊥
a_slot_does_not_miss_the_page_of_its_branch d (Branches place is) at = cc
a_slot_does_not_miss_the_page_of_its_branch d (Misses ask place none is) at = cc
a_slot_does_not_miss_the_page_of_its_branch d (MissesInSlot Fetch place apart none is) at = apart refl
a_slot_does_not_miss_the_page_of_its_branch d (MissesInSlot Slot place apart none is) at = cc
a_slot_does_not_miss_the_page_of_its_branch d (MissesInSlot Access place apart none is) at = cc
a_slot_does_not_miss_the_page_of_its_branch d (Modifies place clean is) at = let wrong = elsewhere d _ (AtWord 0) is at in cc
a_slot_does_not_miss_the_page_of_its_branch d (Traps page place is) at = let wrong = elsewhere d _ (AtWord 0) is at in cc
a_slot_does_not_miss_the_page_of_its_branch d (Passes word place low apart is) at = cc
a_slot_does_not_miss_the_page_of_its_branch d (MissesTable place none is) at = cc
a_slot_does_not_miss_the_page_of_its_branch d (Writes e place page space is) at = cc
a_slot_does_not_miss_the_page_of_its_branch d (Returns place is) at = cc
a_slot_does_not_miss_the_page_of_its_branch d (Tables e place page space is) at = cc
a_slot_does_not_miss_the_page_of_its_branch d (Copies entries dirty place writable keys size is) at = cc

-- before the seventh word, for the page of the instruction
abbrev seventh : Course
seventh = six_words (missed Fetch empty)

pub the_seventh_word_does_not_pass_without_a_write : (d : Course) → Next seventh d → d.work.written ≡ [] → ⊥
the_seventh_word_does_not_pass_without_a_write d (Branches place is) none = cc
the_seventh_word_does_not_pass_without_a_write d (Misses ask place missing is) none = cc
the_seventh_word_does_not_pass_without_a_write d (MissesInSlot ask place apart missing is) none = cc
the_seventh_word_does_not_pass_without_a_write d (Modifies place clean is) none = elim place [ inl first ↦ cc | inr second ↦ cc ]
the_seventh_word_does_not_pass_without_a_write d (Traps page place is) none = elim place [ inl first ↦ cc | inr second ↦ cc ]
the_seventh_word_does_not_pass_without_a_write d (Passes word place low apart is) none = let same : ◌≡◌ {A = ℕ} 6 word = cc in apart (sym same)
the_seventh_word_does_not_pass_without_a_write d (MissesTable place missing is) none = cc
the_seventh_word_does_not_pass_without_a_write d (Writes e place page space is) none = let wrong = sym (ap (λ (x : Course). x.work.written) is) ∙ none in cc
the_seventh_word_does_not_pass_without_a_write d (Returns place is) none = cc
the_seventh_word_does_not_pass_without_a_write d (Tables e place page space is) none = cc
the_seventh_word_does_not_pass_without_a_write d (Copies entries dirty place writable keys size is) none = cc

pub nothing_follows_a_service_that_ends_the_unit : (d : Course) → Next longest d → ⊥
nothing_follows_a_service_that_ends_the_unit d (Branches place is) = cc
nothing_follows_a_service_that_ends_the_unit d (Misses ask place none is) = cc
nothing_follows_a_service_that_ends_the_unit d (MissesInSlot ask place apart none is) = cc
nothing_follows_a_service_that_ends_the_unit d (Modifies place clean is) = elim place [ inl first ↦ cc | inr second ↦ cc ]
nothing_follows_a_service_that_ends_the_unit d (Traps page place is) = elim place [ inl first ↦ cc | inr second ↦ cc ]
nothing_follows_a_service_that_ends_the_unit d (Passes word place low apart is) = cc
nothing_follows_a_service_that_ends_the_unit d (MissesTable place none is) = cc
nothing_follows_a_service_that_ends_the_unit d (Writes e place page space is) = cc
nothing_follows_a_service_that_ends_the_unit d (Returns place is) = cc
nothing_follows_a_service_that_ends_the_unit d (Tables e place page space is) = cc
nothing_follows_a_service_that_ends_the_unit d (Copies entries dirty place writable keys size is) = cc
