-- A page comes to live only as a copy of one that its giver was granted.
use Rattle.std.proofs.Common.{◌≡◌, ℕ, zero, suc, ◌+◌, ◌-◌, ◌%◌, ◌<◌, ◌≤◌, Bool, true, false, cond, not, List, [], ◌∷◌, length, Option, Some, None, Result, Ok, Err, ◌⊎◌, inl, inr, refl, sym, ap, ◌∙◌, subst, arith}
use Rattle.std.specs.Prelude.{◌&&◌, nat_lt, is_some, slice_set, slice_index_or}
use Rattle.std.proofs.lemmas.Bool.{cases_eq}
use Rattle.std.proofs.lemmas.Bool.Decides.{nat_tests}
use Rattle.ds_word.specs.Word.{word}
use Rattle.ds_word.specs.Bytes.{word_at}
use Rattle.ds_word.proofs.Bytes.{length-with_word}
use Rattle.ds_isa.specs.declared.instr.Kind.{Kind}
use Rattle.ds_isa.specs.declared.instr.Kind.TheVariants.{Fetch, Load, Store}
use Rattle.ds_isa.specs.declared.instr.Size.{Size}
use Rattle.ds_isa.specs.declared.instr.Size.TheVariants.{Word}
use Rattle.ds_isa.specs.Instruction.{instruction_of}
use Rattle.ds_isa.specs.Meaning.{Effect, Goes, Branches, Loads, Stores, Faults, Calls, Privileged, meaning}
use Rattle.ds_procs.specs.declared.call.Call.{Call}
use Rattle.ds_procs.specs.declared.call.Call.TheVariants as call
use Rattle.ds_procs.specs.Calls.{call_of}
use Rattle.ds_policy.specs.declared.access.Verdict.{Verdict}
use Rattle.ds_policy.specs.declared.access.Verdict.TheVariants.{Allowed, Denied}
use Rattle.ds_policy.specs.declared.grant.Right.TheVariants.{Write}
use Rattle.ds_policy.specs.declared.grant.Grant.{Grant}
use Rattle.ds_policy.specs.declared.grant.Entry.{Entry}
use Rattle.ds_policy.specs.Pages.{Pages, Table, decide, bytes_of, fresh, entries_of, entry_at, with_entry, found, put}
use Rattle.ds_policy.specs.Grants.{PageState, give}
use Rattle.ds_pagemap.specs.declared.turn.Turn.{Turn}
use Rattle.ds_pagemap.specs.Machine.{State, process_of, lives, has_ended, touched}
use Rattle.ds_pagemap.specs.Calls.{served, or_denied}
use Rattle.ds_pagemap.specs.Unit.{Outcome, Went, Branched, Called, Stopped, where_allowed, stored, done, instruction, settle, at_pc, after_slot, after_instruction, unit_of_first, unit}
use Rattle.ds_pagemap.specs.Boundary.{boundary}
use Rattle.ds_pagemap.specs.Run.{half_turn, goes_on, after}
use Rattle.ds_pagemap.proofs.Units.{Leaves, leaves_instruction}
use Rattle.ds_promise.specs.Stores.{live_page, Stored, UnitStores}
use Rattle.ds_promise.specs.Lines.{refused_by}
use Rattle.ds_promise.specs.Whole.{Lives, ArePagesWhole, HasWholePages, OneWordDiffers, HoldsBytes, IsCopied, UnitCopies, ChangesAsGranted, ChangesAsGrantedAlong}
use Rattle.ds_promise.proofs.Granted.{allowed_holds, lets_something}
use Rattle.ds_promise.proofs.Stores.{none_is_not_some, set_cases, fresh_is_free, IsGive, give_or_not, served_shrinks, boundary_pages, touched_memory, touched_owed, half_only_stores}
use Rattle.ds_promise.proofs.Histories.{bytes_outside}
use Rattle.ds_promise.proofs.Lines.{field_stays_after}
use Rattle.ds_promise.proofs.Entries.{found_put_same}
use Rattle.ds_promise.proofs.WholePages.{OfDone, IsCopyOf, IsGiven, set_same, give_whole}
use Rattle.ds_promise.proofs.WholeStates.{touched_whole, along_whole}

-- A copy.

-- the grant that was put is found
put_found : (t : Table) (p a : ℕ) (g : Grant) → 0 < p → p ≤ length t → entry_at (with_entry t p a g) p a ≡ Some g
put_found t p a g above within = row t (p - 1) (put (entries_of t p) a g) (below p (length t) above within) ∙ found_put_same (entries_of t p) a g
  where
    below : (p n : ℕ) → 0 < p → p ≤ n → p - 1 < n
    below p n above within = omega (arith, above, within)

    row : (t : Table) (i : ℕ) (es : List Entry) → i < length t → found (slice_index_or (slice_set t i es) i []) a ≡ found es a
    row [] i es e = absurd (omega (arith, e))
    row (x ∷ t) zero es e = refl
    row (x ∷ t) (suc i) es e = row t i es (omega (arith, e))

-- the processes that live have numbers from 1 on
living : (m : State) (p : ℕ) → lives m p ≡ true → (0 < p) × (p ≤ length m.processes)
living m p e = (above p (length m.processes) (not (has_ended (process_of m p).standing)) e, within p (length m.processes) (not (has_ended (process_of m p).standing)) e)
  where
    above : (p n : ℕ) (rest : Bool) → (nat_lt 0 p && (nat_lt p (n + 1) && rest)) ≡ true → 0 < p
    above p n rest e = grind (arith, nat_tests)

    within : (p n : ℕ) (rest : Bool) → (nat_lt 0 p && (nat_lt p (n + 1) && rest)) ≡ true → p ≤ n
    within p n rest e = grind (arith, nat_tests)

-- what a copy leaves
copied_there : (m : State) (p pc address receiver to : ℕ) (s : PageState) → length m.memory.table ≡ length m.processes → lives m receiver ≡ true → IsCopyOf m.memory s p address receiver to → IsCopied m (or_denied m p pc address (Ok s)) p address receiver to
copied_there m p pc address receiver to s long there c =
    let g : Grant = record c.grant { right = Write; page = Some (fresh m.memory.pages); giver = p; parent = None; until = None } in
    let l = living m receiver there in
    record {
      bytes = c.bytes;
      given = record { grant = c.grant; held = c.held; right = c.right; page = c.page; names = c.names; holds = c.holds };
      copy = fresh m.memory.pages;
      new = fresh_is_free m.memory.pages;
      same = ap (λ (t : PageState). live_page t.pages (fresh m.memory.pages)) c.is ∙ set_same m.memory.pages (fresh m.memory.pages) (Some c.bytes) c.room;
      entry = ap (λ (t : PageState). entry_at t.table receiver to) c.is ∙ put_found m.memory.table receiver to g l.0 (many (length m.memory.table) (length m.processes) receiver long l.1);
    }
  where
    many : (a b p : ℕ) → a ≡ b → p ≤ b → p ≤ a
    many a b p e f = omega (arith, e, f)

copy_by : (m : State) (p pc address receiver to : ℕ) (r : Result PageState ℕ) → length m.memory.table ≡ length m.processes → refused_by r ≡ None → OfDone (λ (s : PageState). IsGiven (lives m) m.memory s p address receiver to 3) r → IsCopied m (or_denied m p pc address r) p address receiver to
copy_by m p pc address receiver to (Ok s) long done g = copied_there m p pc address receiver to s long g.there (g.copies refl)
copy_by m p pc address receiver to (Err number) long done g = absurd (none number done)
  where
    none : (number : ℕ) → ◌≡◌ {A = Option ℕ} (Some number) None → ⊥
    none number e = cc

-- a give by mode 3 that is not refused copies the bytes of the giver's page
pub give_copies : (m : State) (p pc address receiver to : ℕ) → HasWholePages m → length m.memory.table ≡ length m.processes → refused_by (give (lives m) m.memory p address receiver to 3) ≡ None
    → IsCopied m (served m p pc (call.Give address receiver to 3)) p address receiver to
give_copies m p pc address receiver to k long done = copy_by m p pc address receiver to (give (lives m) m.memory p address receiver to 3) long done (give_whole (lives m) m.memory p address receiver to 3 k.memory)

-- What a call brings.

-- the call is a give of a copy of these bytes
record CopyCall (m : State) (p : ℕ) (c : Call) (bytes : List ℕ) : Type 0 where
  address : ℕ
  receiver : ℕ
  to : ℕ
  is : c ≡ call.Give address receiver to 3
  given : HoldsBytes m p address bytes

one_list : (a b : List ℕ) → ◌≡◌ {A = Option (List ℕ)} (Some a) (Some b) → a ≡ b
one_list a b e = cc

comes_by_give : (m : State) (p pc : ℕ) (c : Call) (g : IsGive c) (page : ℕ) (new : List ℕ) (r : Result PageState ℕ) → OfDone (λ (s : PageState). IsGiven (lives m) m.memory s p g.address g.receiver g.to g.mode) r
    → live_page m.memory.pages page ≡ None → live_page (or_denied m p pc g.address r).memory.pages page ≡ Some new → CopyCall m p c new
comes_by_give m p pc c g page new (Err number) given none e = none_is_not_some new (sym none ∙ e)
comes_by_give m p pc c g page new (Ok s) given none e = elim (cases_eq g.mode 3) [
  | inr other ↦ none_is_not_some new (sym none ∙ (ap (λ (ps : Pages). live_page ps page) (sym (given.others other)) ∙ e))
  | inl third ↦ by_copy third (given.copies third)
]
  where
    by_copy : g.mode ≡ 3 → IsCopyOf m.memory s p g.address g.receiver g.to → CopyCall m p c new
    by_copy third k = elim (set_cases m.memory.pages (fresh m.memory.pages) page (Some k.bytes) new (ap (λ (t : PageState). live_page t.pages page) (sym k.is) ∙ e)) [
      | inl before ↦ none_is_not_some new (sym none ∙ before)
      | inr put ↦ record {
        address = g.address;
        receiver = g.receiver;
        to = g.to;
        is = g.is ∙ ap (call.Give g.address g.receiver g.to) third;
        given = record { grant = k.grant; held = k.held; right = k.right; page = k.page; names = k.names; holds = k.holds ∙ put.1 };
      }
    ]

comes_by_call : (m : State) (p pc : ℕ) (c : Call) → HasWholePages m → (page : ℕ) (new : List ℕ) → live_page m.memory.pages page ≡ None → live_page (served m p pc c).memory.pages page ≡ Some new → CopyCall m p c new
comes_by_call m p pc c k page new none e = elim (give_or_not c) [
  | inl nothing ↦ none_is_not_some new (sym none ∙ served_shrinks m p pc c nothing page new e)
  | inr g ↦ comes_by_give m p pc c g page new (give (lives m) m.memory p g.address g.receiver g.to g.mode) (give_whole (lives m) m.memory p g.address g.receiver g.to g.mode k.memory) none
      (ap (λ (x : Call). live_page (served m p pc x).memory.pages page) (sym g.is) ∙ e)
]

-- What an instruction brings.

-- a page that lives after it lived before
abbrev LivedBefore : State → State → Type 0
LivedBefore m t = (page : ℕ) (new : List ℕ) → live_page t.memory.pages page ≡ Some new → Lives m.memory.pages page

abbrev OutcomeLived : State → Outcome → Type 0
OutcomeLived m (Went t) = LivedBefore m t
OutcomeLived m (Branched t target) = Unit {0}
OutcomeLived m Called = Unit {0}
OutcomeLived m (Stopped stop) = Unit {0}

lived_by : (m : State) (table v : Verdict) (kind : Kind) (address : ℕ) (f : ℕ → ℕ → Outcome) → table ≡ v → ((page offset : ℕ) → table ≡ Allowed page offset → OutcomeLived m (f page offset)) → OutcomeLived m (where_allowed v kind address f)
lived_by m table (Allowed page offset) kind address f is h = h page offset is
lived_by m table (Denied rule code) kind address f is h = tt

stored_lived : (m : State) (p : ℕ) (size : Size) (address at offset : ℕ) (value : ℕ → ℕ) → ArePagesWhole m.memory → decide m.memory.table p Store size address ≡ Allowed at offset → LivedBefore m (stored m at offset value)
stored_lived m p size address at offset value k allowed page new e = elim (set_cases m.memory.pages at page _ new e) [
  | inl before ↦ (new, before)
  | inr put ↦
      let h = allowed_holds m.memory.table p Store size address at offset allowed in
      let l = k.granted p _ h.grant h.held (lets_something h.grant.right Store h.right) in
      (l.lives.0, ap (live_page m.memory.pages) (put.0 ∙ one_number at l.page (sym h.names ∙ l.names)) ∙ l.lives.1)
]
  where
    one_number : (a b : ℕ) → ◌≡◌ {A = Option ℕ} (Some a) (Some b) → a ≡ b
    one_number a b e = cc

done_lived : (m : State) (p pc : ℕ) (e : Effect) → ArePagesWhole m.memory → OutcomeLived m (done m p pc e)
done_lived m p pc (Goes r) k = λ page new e. (new, e)
done_lived m p pc (Branches r target) k = tt
done_lived m p pc (Loads size address after) k = lived_by m (decide m.memory.table p Load size address) (decide m.memory.table p Load size address) Load address _ refl (λ page offset _. λ q new e. (new, e))
done_lived m p pc (Stores size address value) k = lived_by m (decide m.memory.table p Store size address) (decide m.memory.table p Store size address) Store address _ refl (λ page offset allowed. stored_lived m p size address page offset value k allowed)
done_lived m p pc (Faults code) k = tt
done_lived m p pc Calls k = tt
done_lived m p pc Privileged k = tt

instruction_lived : (m : State) (p pc : ℕ) → ArePagesWhole m.memory → OutcomeLived m (instruction m p pc)
unfolding instruction
instruction_lived m p pc k = lived_by m (decide m.memory.table p Fetch Word pc) (decide m.memory.table p Fetch Word pc) Fetch pc _ refl (λ page offset _. done_lived m p pc (meaning (instruction_of (word_at (bytes_of m.memory.pages page) offset)) pc (process_of m p).registers) k)

slot_lived : (m : State) (p a pc target : ℕ) (o : Outcome) → OutcomeLived m o → LivedBefore m (after_slot m p a pc target o)
slot_lived m p a pc target (Went t) k = k
slot_lived m p a pc target (Branched t next) k = λ page new e. (new, e)
slot_lived m p a pc target Called k = λ page new e. (new, e)
slot_lived m p a pc target (Stopped stop) k = λ page new e. (new, e)

-- Units.

-- a page that comes to live is copied by a call
comes_by_unit : (m : State) (p pc : ℕ) (o : Outcome) → HasWholePages m → OutcomeLived m o → Leaves m o → (page : ℕ) (new : List ℕ) → live_page m.memory.pages page ≡ None → live_page (after_instruction m p pc o).memory.pages page ≡ Some new
    → (o ≡ Called) × CopyCall m p (call_of (process_of m p).registers.general) new
comes_by_unit m p pc (Went t) k l leaves page new none e = let live = l page new e in none_is_not_some live.0 (sym none ∙ live.1)
comes_by_unit m p pc (Branched t target) k l leaves page new none e =
    let slot = word (pc + 4) in
    let w : ArePagesWhole t.memory = subst ArePagesWhole (sym leaves.1) k.memory in
    let live = slot_lived t p pc slot target (instruction t p slot) (instruction_lived t p slot w) page new e in
    none_is_not_some live.0 (sym none ∙ (ap (λ (s : PageState). live_page s.pages page) (sym leaves.1) ∙ live.1))
comes_by_unit m p pc Called k l leaves page new none e =
    let next = at_pc (settle m p) p (word (pc + 4)) in
    let c = comes_by_call next p pc (call_of (process_of next p).registers.general) (record { memory = k.memory; commands = k.commands }) page new none e in (
      refl,
      record {
        address = c.address;
        receiver = c.receiver;
        to = c.to;
        is = ap call_of (sym (field_stays_after (λ q. q.registers.general) m p pc p (λ q a. refl) (λ q. refl))) ∙ c.is;
        given = record { grant = c.given.grant; held = c.given.held; right = c.given.right; page = c.given.page; names = c.given.names; holds = c.given.holds };
      },
    )
comes_by_unit m p pc (Stopped stop) k l leaves page new none e = none_is_not_some new (sym none ∙ e)

comes_by_first : (m : State) (ready : List ℕ) → m.ready ≡ ready → m.owed ≡ None → HasWholePages m → (page : ℕ) (new : List ℕ) → live_page m.memory.pages page ≡ None → live_page (unit_of_first m ready).memory.pages page ≡ Some new → UnitCopies m new
comes_by_first m [] is owed k page new none e = none_is_not_some new (sym none ∙ e)
comes_by_first m (p ∷ rest) is owed k page new none e =
    let pc = (process_of m p).pc in
    let c = comes_by_unit m p pc (instruction m p pc) k (instruction_lived m p pc k.memory) (leaves_instruction m p pc) page new none e in
    record { process = p; others = rest; no_boundary = owed; runs = is; calls = c.0; address = c.1.address; receiver = c.1.receiver; to = c.1.to; gives = c.1.is; given = c.1.given }

comes_by_half : (owed : Option Turn) (m : State) → m.owed ≡ owed → HasWholePages m → (page : ℕ) (new : List ℕ) → live_page m.memory.pages page ≡ None → live_page (cond (is_some owed) (boundary m) (unit m)).memory.pages page ≡ Some new → UnitCopies m new
unfolding unit
comes_by_half None m is k page new none e = comes_by_first m m.ready refl is k page new none e
comes_by_half (Some turn) m is k page new none e = none_is_not_some new (sym none ∙ boundary_pages m page new e)

pub half_copies : (b : Bool) (m : State) → HasWholePages m → (page : ℕ) (new : List ℕ) → live_page m.memory.pages page ≡ None → live_page (half_turn b m).memory.pages page ≡ Some new → UnitCopies (touched b m) new
unfolding half_turn
half_copies b m k page new none e =
    comes_by_half m.owed (touched b m) (touched_owed b m) (touched_whole b m k) page new (ap (λ (s : PageState). live_page s.pages page) (touched_memory b m) ∙ none) e

-- Stores.

-- a store changes one word of a page
pub one_word : (m : State) (p pc page : ℕ) (old new : List ℕ) → Stored m p pc page old new → length old ≡ 4096 → OneWordDiffers old new
one_word m p pc page old new s size =
    let place : ℕ = s.address % 4096 in
    record {
      place = place - place % 4;
      within = aligned_within s.address;
      aligned = aligned_place place;
      size = ap (λ (bs : List ℕ). length bs) s.word ∙ length-with_word old place (s.value (word_at old place)) (fits place (length old) size (small s.address));
      others = bytes_outside m p pc page old new s size;
    }
  where
    small : (a : ℕ) → a % 4096 < 4096
    small a = omega arith

    aligned_within : (a : ℕ) → a % 4096 - a % 4096 % 4 ≤ 4092
    aligned_within a = omega arith

    aligned_place : (place : ℕ) → (place - place % 4) % 4 ≡ 0
    aligned_place place = omega arith

    fits : (place n : ℕ) → n ≡ 4096 → place < 4096 → place - place % 4 + 4 ≤ n
    fits place n e below = omega (arith, e, below)

pub unit_one_word : (m : State) (page : ℕ) (old new : List ℕ) → UnitStores m page old new → length old ≡ 4096 → OneWordDiffers old new
unit_one_word m page old new u size = elim u.stored [
  | inl s ↦ one_word m u.process (process_of m u.process).pc page old new s size
  | inr s ↦ one_word s.between u.process (word ((process_of m u.process).pc + 4)) page old new s.stored size
]

-- Half turns and runs.

lives_or_not : (o : Option (List ℕ)) → (o ≡ None) ⊎ ((bytes : List ℕ) × (o ≡ Some bytes))
lives_or_not None = inl refl
lives_or_not (Some bytes) = inr (bytes, refl)

pub half_as_granted : (b : Bool) (m : State) → HasWholePages m → ChangesAsGranted (touched b m) (half_turn b m)
half_as_granted b m k page new e =
    let here = ap (λ (s : PageState). live_page s.pages page) (touched_memory b m) in
    elim (lives_or_not (live_page m.memory.pages page)) [
      | inl none ↦ inr (inr (record { before = here ∙ none; copies = half_copies b m k page new none e }))
      | inr live ↦ elim (half_only_stores b m page live.0 new (here ∙ live.1) e) [
        | inl same ↦ inl (here ∙ (live.1 ∙ ap Some (sym same)))
        | inr stores ↦ inr (inl (record { old = live.0; before = here ∙ live.1; stores = stores; word = unit_one_word (touched b m) page live.0 new stores (k.memory.sizes page live.0 live.1) }))
      ]
    ]

go_by : (on b : Bool) (m : State) → HasWholePages m → ChangesAsGranted (touched b m) (cond on (half_turn b m) m)
go_by true b m k = half_as_granted b m k
go_by false b m k = λ page new e. inl (ap (λ (s : PageState). live_page s.pages page) (touched_memory b m) ∙ e)

pub along_as_granted : (n : ℕ) (choices : List Bool) (m : State) → HasWholePages m → ChangesAsGrantedAlong n choices m
unfolding after
along_as_granted n [] m k = tt
along_as_granted n (touch ∷ earlier) m k = (go_by (goes_on n (after n earlier m)) touch (after n earlier m) (along_whole n earlier m k), along_as_granted n earlier m k)
