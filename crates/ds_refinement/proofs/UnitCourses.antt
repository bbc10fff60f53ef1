-- However a unit goes on, it is tallied.
use Rattle.std.proofs.Common.{◌≡◌, ◌≢◌, ◌⊎◌, ℕ, zero, suc, ◌+◌, ◌-◌, ◌*◌, ◌<◌, ◌≤◌, inl, inr, Bool, true, false, List, [], ◌∷◌, length, ap, ◌∙◌, arith, refl, subst, sym}
use Rattle.std.specs.Prelude.{Contains, slice_get, slice_set, None}
use Rattle.std.proofs.lemmas.Bool.{cases_eq}
use Rattle.ds_tlb.proofs.Bits.{read_set_other}
use Rattle.ds_word.specs.Word.{truth}
use Rattle.ds_tlb.specs.declared.entry.Entry.{Entry}
use Rattle.ds_tlb.specs.Entries.{find}
use Rattle.ds_refinement.specs.Cost.{Met, cost}
use Rattle.ds_refinement.proofs.Costs.{costs}
use Rattle.ds_grants.proofs.OwnFrames.{truth_small}
use Rattle.ds_refinement.specs.Course.{Ask, Fetch, Slot, Access, asked, UnitPlace, Begun, InItsSlot, AtWord, AtDoubleMiss, AtModification, AtService, Work, Course}
use Rattle.ds_refinement.specs.CourseSteps.{table_page, next_wired}
use Rattle.ds_refinement.specs.Inner.CourseSteps.{counted, wrote, tabled, copied, Next, Branches, Misses, MissesInSlot, IsUsers, Modifies, Traps, Passes, MissesTable, Writes, Returns, Tables, Copies, After, BeginsUnit}
use Rattle.ds_refinement.specs.Tally.{has_page, wasted, AllStood, IsSince, Tally, IsTabling, IsModified, IsSpentAt, IsTallied, Stood, turns}
use Rattle.ds_refinement.specs.Inner.Tally.{IsShort, WasWritten, is_serving, steps_ahead}
use Rattle.ds_refinement.proofs.Tallying.{doubles_few, refills_few, copies_few, ticks, page_unmet, table_unmet, copy_unmet, wrote_tally, tabled_tally, copied_tally}
use Rattle.ds_refinement.proofs.Slots.{turn_apart, turn_first, turn_on, stood_among, stood_apart}

-- what is not met leaves room for what it costs
room : (met : Met) (ask : Ask) → has_page met ask ≡ false → cost met + wasted ask + 9 ≤ 59
room met ask unmet =
    let a = truth_small met.early in let b = truth_small met.fetch in let c = truth_small met.fetch_table in let d = truth_small met.slot in
    let e = truth_small met.slot_table in let f = truth_small met.access in let g = truth_small met.access_table in let h = truth_small met.copied in
    (elim ask as (λ k. has_page met k ≡ false → cost met + wasted k + 9 ≤ 59) [
      | Fetch ↦ λ u. (let z : truth met.fetch ≡ 0 = ap truth u in omega arith)
      | Slot ↦ λ u. (let z : truth met.slot ≡ 0 = ap truth u in omega arith)
      | Access ↦ λ u. (let z : truth met.access ≡ 0 = ap truth u in omega arith)
    ]) unmet

-- it stands where it is said to stand
there : (c : Course) (met : Met) (place : UnitPlace) → c.place ≡ place → IsSpentAt c.place c.page c.work met → IsSpentAt place c.page c.work met
there c met place is at = subst (λ (s : UnitPlace). IsSpentAt s c.page c.work met) is at

-- a state with its tally
tallied : (place : UnitPlace) (page : ℕ) (w : Work) (met : Met) → Tally w met → IsSpentAt place page w met → IsTallied (record { place = place; page = page; work = w })
tallied place page w met t at = record { met = met; tally = t; at = at }

at_most_2 : (ask : Ask) → wasted ask ≤ 2
at_most_2 Fetch = omega arith
at_most_2 Slot = omega arith
at_most_2 Access = omega arith

at_least_1 : (ask : Ask) → 1 ≤ wasted ask
at_least_1 Fetch = omega arith
at_least_1 Slot = omega arith
at_least_1 Access = omega arith

two : (ask : Ask) → ask ≢ Fetch → 2 ≤ wasted ask
two Fetch apart = absurd (apart refl)
two Slot apart = omega arith
two Access apart = omega arith

-- another word of the handler
passes : (c : Course) (met : Met) (word : ℕ) → Tally c.work met → word < 8 → ◌≢◌ {A = ℕ} word 6 → IsSpentAt (AtWord word) c.page c.work met
    → IsTallied (record { place = AtWord (word + 1); page = c.page; work = counted c.work })
passes c met word t low apart (inl a) =
    let r = a.1 in
    let within = a.0 in
    let free = room met r.ask r.unmet in
    let few = r.few in
    let begun = r.begun in
    let below : word < 6 = omega (arith, within, apart) in
    tallied (AtWord (word + 1)) c.page (counted c.work) met (ticks c.work met (omega arith) t)
    (inl ((omega arith), record { ask = r.ask; unmet = r.unmet; page_is = r.page_is; begun = omega arith; few = omega arith }))
passes c met word t low apart (inr a) =
    let most = costs met in
    let first = a.0 in
    let last = a.1 in
    let few = a.2 in
    tallied (AtWord (word + 1)) c.page (counted c.work) met (ticks c.work met (omega arith) t) (inr ((omega arith), (omega arith), (omega arith)))

-- the miss of a table
misses_table : (c : Course) (met : Met) → Tally c.work met → find c.work.entries (table_page c.page) c.work.asid ≡ None → IsSpentAt (AtWord 2) c.page c.work met
    → IsTallied (record { place = AtDoubleMiss; page = table_page c.page; work = counted c.work })
misses_table c met t none (inl a) =
    let r = a.1 in
    let free = room met r.ask r.unmet in
    let few = r.few in
    let begun = r.begun in
    let no_table = table_unmet c.work met r.ask t (subst (λ (page : ℕ). find c.work.entries (table_page page) c.work.asid ≡ None) r.page_is none) in
    tallied AtDoubleMiss (table_page c.page) (counted c.work) met (ticks c.work met (omega arith) t)
    (record { ask = r.ask; unmet = r.unmet; no_table = no_table; page_is = ap table_page r.page_is; begun = omega arith; few = omega arith })
misses_table c met t none (inr a) = let low : 7 ≤ 2 = a.0 in absurd (omega arith)

-- the seventh word
writes : (c : Course) (met : Met) (e : Entry) → Tally c.work met → e.vpn ≡ c.page → e.asid ≡ c.work.asid → IsSpentAt (AtWord 6) c.page c.work met
    → IsTallied (record { place = AtWord 7; page = c.page; work = wrote e c.work })
writes c met e t page space (inl a) =
    let r = a.1 in
    let free = room met r.ask r.unmet in
    let few = r.few in
    let begun = r.begun in
    let m = wrote_tally c.work met e r.ask (omega arith) (omega arith) space (page ∙ r.page_is) r.unmet t in
    let paid = m.2 in
    tallied (AtWord 7) c.page (wrote e c.work) m.0 m.1 (inr ((omega arith), (omega arith), (omega arith)))
writes c met e t page space (inr a) = let low : 7 ≤ 6 = a.0 in absurd (omega arith)

-- the last
returns : (c : Course) (met : Met) → Tally c.work met → IsSpentAt (AtWord 8) c.page c.work met → IsTallied (record { place = Begun; page = c.page; work = counted c.work })
returns c met t (inl a) = let high : 8 ≤ 6 = a.0 in absurd (omega arith)
returns c met t (inr a) =
    let most = costs met in
    let few = a.2 in
    tallied Begun c.page (counted c.work) met (ticks c.work met (omega arith) t) (omega arith)

-- in user mode
in_user : (c : Course) (met : Met) → IsUsers c.place → IsSpentAt c.place c.page c.work met → c.work.spent ≤ cost met + 1
in_user c met (inl first) at = let few : c.work.spent ≤ cost met = there c met Begun first at in omega arith
in_user c met (inr second) at = there c met InItsSlot second at

by_step : (c d : Course) (met : Met) → Tally c.work met → IsSpentAt c.place c.page c.work met → Next c d → IsTallied d
by_step c d met t at (Branches place is) =
    let few : c.work.spent ≤ cost met = there c met Begun place at in
    let most = costs met in
    subst IsTallied (sym is) (tallied InItsSlot c.page (counted c.work) met (ticks c.work met (omega arith) t) (omega arith))
by_step c d met t at (Misses ask place none is) =
    let few : c.work.spent ≤ cost met = there c met Begun place at in
    let most = costs met in
    let least = at_least_1 ask in
    let unmet = page_unmet c.work met ask t none in
    subst IsTallied (sym is) (tallied (AtWord 0) (asked c.work.pages ask) (counted c.work) met (ticks c.work met (omega arith) t)
    (inl ((omega arith), record { ask = ask; unmet = unmet; page_is = refl; begun = omega arith; few = omega arith })))
by_step c d met t at (MissesInSlot ask place apart none is) =
    let few : c.work.spent ≤ cost met + 1 = there c met InItsSlot place at in
    let most = costs met in
    let least = two ask apart in
    let unmet = page_unmet c.work met ask t none in
    subst IsTallied (sym is) (tallied (AtWord 0) (asked c.work.pages ask) (counted c.work) met (ticks c.work met (omega arith) t)
    (inl ((omega arith), record { ask = ask; unmet = unmet; page_is = refl; begun = omega arith; few = omega arith })))
by_step c d met t at (Modifies place clean is) =
    let few = in_user c met place at in
    let most = costs met in
    subst IsTallied (sym is) (tallied AtModification c.work.pages.access (counted c.work) met (ticks c.work met (omega arith) t)
    (record { unmet = copy_unmet c.work met t clean; page_is = refl; few = omega arith }))
by_step c d met t at (Traps page place is) =
    let few = in_user c met place at in
    let most = costs met in
    subst IsTallied (sym is) (tallied AtService page (counted c.work) met (ticks c.work met (omega arith) t) (omega arith))
by_step c d met t at (Passes word place low apart is) = subst IsTallied (sym is) (passes c met word t low apart (there c met (AtWord word) place at))
by_step c d met t at (MissesTable place none is) = subst IsTallied (sym is) (misses_table c met t none (there c met (AtWord 2) place at))
by_step c d met t at (Writes e place page space is) = subst IsTallied (sym is) (writes c met e t page space (there c met (AtWord 6) place at))
by_step c d met t at (Returns place is) = subst IsTallied (sym is) (returns c met t (there c met (AtWord 8) place at))
by_step c d met t at (Tables e place page space is) =
    let r : IsTabling c.page c.work met = there c met AtDoubleMiss place at in
    let few = r.few in
    let m = tabled_tally c.work met e r.ask space (page ∙ r.page_is) r.no_table t in
    let paid = m.2 in
    subst IsTallied (sym is) (tallied Begun c.page (tabled e c.work) m.0 m.1 (omega arith))
by_step c d met t at (Copies entries dirty place writable keys size is) =
    let r : IsModified c.page c.work met = there c met AtModification place at in
    let few = r.few in
    let m = copied_tally c.work met entries dirty keys size (ap dirty (sym r.page_is) ∙ writable) r.unmet t in
    let paid = m.2 in
    subst IsTallied (sym is) (tallied Begun c.page (copied entries dirty c.work) m.0 m.1 (omega arith))

pub goes_on : (c d : Course) → IsTallied c → Next c d → IsTallied d
goes_on c d i next = by_step c d i.met i.tally i.at next

-- at the unit's beginning nothing was met
nothing : Met
nothing = record { early = false; fetch = false; fetch_table = false; slot = false; slot_table = false; access = false; access_table = false; copied = false }

pub begins : (c : Course) → BeginsUnit c → IsTallied c
unfolding nothing
begins c b =
    let w = c.work in
    let spent = b.spent in
    let services = b.services in
    let tables = b.tables in
    let none : length w.written ≡ 0 = ap length b.written in
    let no : (ask : Ask) (b : Bool) → false ≡ true → ⊥ = λ ask b wrong. cc in
    record {
      met = nothing;
      tally = record {
        pages = elim [ Fetch ↦ λ is. absurd cc | Slot ↦ λ is. absurd cc | Access ↦ λ is. absurd cc ];
        tables = elim [ Fetch ↦ λ is. absurd cc | Slot ↦ λ is. absurd cc | Access ↦ λ is. absurd cc ];
        copied = λ is. absurd cc;
        stood = subst (λ (slots : List ℕ). AllStood slots w.random (w.spent - 7)) (sym b.written) tt;
        since = subst (λ (slots : List ℕ). IsSince slots w.since w.spent) (sym b.written) b.since;
        touched = λ h. absurd (omega arith);
        refilled = omega arith;
        doubled = omega arith;
        served = omega arith;
        size = b.size;
        low = b.low;
        high = b.high;
        turn = b.turn;
      };
      at = subst (λ (s : UnitPlace). IsSpentAt s c.page w nothing) (sym b.place) (omega arith);
    }

at_most_61 : (place : UnitPlace) (page : ℕ) (w : Work) (met : Met) → IsSpentAt place page w met → w.spent ≤ 61
at_most_61 Begun page w met at = let most = costs met in omega arith
at_most_61 InItsSlot page w met at = let most = costs met in omega arith
at_most_61 AtService page w met at = let most = costs met in omega arith
at_most_61 AtModification page w met at = let few = at.few in let most = costs met in omega arith
at_most_61 AtDoubleMiss page w met at = let few = at.few in let free = room met at.ask at.unmet in omega arith
at_most_61 (AtWord word) page w met (inl a) = let few = a.1.few in let within = a.0 in let free = room met a.1.ask a.1.unmet in omega arith
at_most_61 (AtWord word) page w met (inr a) = let most = costs met in let last = a.1 in let few = a.2 in omega arith

since_most : (slots : List ℕ) (since spent : ℕ) → spent ≤ 61 → IsSince slots since spent → since ≤ 54
since_most [] since spent few s = omega arith
since_most (slot ∷ more) since spent few s = omega arith

pub short : (c : Course) → IsTallied c → IsShort c.work
short c i =
    let t = i.tally in
    let w = c.work in
    let most = at_most_61 c.place c.page w i.met i.at in
    let refilled = t.refilled in
    let doubled = t.doubled in
    let served = t.served in
    let r = refills_few i.met in
    let d = doubles_few i.met in
    let k = copies_few i.met in
    record { spent = most; written = omega arith; since = since_most w.written w.since w.spent most t.since; tables = omega arith; services = omega arith }

pub after : (n : ℕ) (c d : Course) → IsTallied c → After n c d → IsTallied d
after zero c d i is = subst IsTallied (sym is) i
after (suc n) c d i more = goes_on more.0 d (after n c more.0 i more.1) more.2

-- What the unit has written stays.

among : (w : Work) (met : Met) (slot : ℕ) → Tally w met → Contains w.written slot → Stood slot w.random (w.spent - 7)
among w met slot t in_it = stood_among w.written w.random (w.spent - 7) slot in_it.0 t.stood in_it.1 in_it.2

-- a refill writes elsewhere
refill_stays : (w : Work) (met : Met) (e : Entry) (slot : ℕ) → Tally w met → WasWritten w slot → slice_get (slice_set w.entries w.random e) slot ≡ slice_get w.entries slot
refill_stays w met e slot t (inl refilled) = read_set_other w.entries w.random slot e (stood_apart slot w.random (w.spent - 7) (among w met slot t refilled))
refill_stays w met e slot t (inr table) =
    let low = t.low in
    let small = table.0 in
    read_set_other w.entries w.random slot e (λ (same : ◌≡◌ {A = ℕ} slot w.random). omega arith)

-- so does the monitor
table_stays : (w : Work) (met : Met) (e : Entry) (slot : ℕ) → Tally w met → WasWritten w slot → slice_get (slice_set w.entries w.wired e) slot ≡ slice_get w.entries slot
table_stays w met e slot t (inl refilled) =
    let s = among w met slot t refilled in
    let low = s.low in
    let small = t.turn in
    read_set_other w.entries w.wired slot e (λ (same : ◌≡◌ {A = ℕ} slot w.wired). omega arith)
table_stays w met e slot t (inr table) =
    let doubled = t.doubled in
    let most = doubles_few met in
    read_set_other w.entries w.wired slot e (turn_apart slot w.wired w.tables (omega arith) table.1)

stays_by : (c d : Course) (met : Met) (slot : ℕ) → Tally c.work met → WasWritten c.work slot → c.place ≢ AtModification → Next c d → slice_get d.work.entries slot ≡ slice_get c.work.entries slot
stays_by c d met slot t was apart (Branches place is) = ap (λ (x : Course). slice_get x.work.entries slot) is
stays_by c d met slot t was apart (Misses ask place none is) = ap (λ (x : Course). slice_get x.work.entries slot) is
stays_by c d met slot t was apart (MissesInSlot ask place other none is) = ap (λ (x : Course). slice_get x.work.entries slot) is
stays_by c d met slot t was apart (Modifies place clean is) = ap (λ (x : Course). slice_get x.work.entries slot) is
stays_by c d met slot t was apart (Traps page place is) = ap (λ (x : Course). slice_get x.work.entries slot) is
stays_by c d met slot t was apart (Passes word place low other is) = ap (λ (x : Course). slice_get x.work.entries slot) is
stays_by c d met slot t was apart (MissesTable place none is) = ap (λ (x : Course). slice_get x.work.entries slot) is
stays_by c d met slot t was apart (Writes e place page space is) = ap (λ (x : Course). slice_get x.work.entries slot) is ∙ refill_stays c.work met e slot t was
stays_by c d met slot t was apart (Returns place is) = ap (λ (x : Course). slice_get x.work.entries slot) is
stays_by c d met slot t was apart (Tables e place page space is) = ap (λ (x : Course). slice_get x.work.entries slot) is ∙ table_stays c.work met e slot t was
stays_by c d met slot t was apart (Copies entries dirty place writable keys size is) = absurd (apart place)

pub stays : (c d : Course) (slot : ℕ) → IsTallied c → Next c d → c.place ≢ AtModification → WasWritten c.work slot → slice_get d.work.entries slot ≡ slice_get c.work.entries slot
stays c d slot i next apart was = stays_by c d i.met slot i.tally was apart next

-- and goes on to count as written
still : (c d : Course) (slot : ℕ) (w : Work) → d.work ≡ w → WasWritten w slot → WasWritten d.work slot
still c d slot w is was = subst (λ (x : Work). WasWritten x slot) (sym is) was

grows_by : (c d : Course) (met : Met) (slot : ℕ) → Tally c.work met → WasWritten c.work slot → Next c d → WasWritten d.work slot
grows_by c d met slot t was (Branches place is) = still c d slot _ (ap (λ (x : Course). x.work) is) was
grows_by c d met slot t was (Misses ask place none is) = still c d slot _ (ap (λ (x : Course). x.work) is) was
grows_by c d met slot t was (MissesInSlot ask place other none is) = still c d slot _ (ap (λ (x : Course). x.work) is) was
grows_by c d met slot t was (Modifies place clean is) = still c d slot _ (ap (λ (x : Course). x.work) is) was
grows_by c d met slot t was (Traps page place is) = still c d slot _ (ap (λ (x : Course). x.work) is) was
grows_by c d met slot t was (Passes word place low other is) = still c d slot _ (ap (λ (x : Course). x.work) is) was
grows_by c d met slot t was (MissesTable place none is) = still c d slot _ (ap (λ (x : Course). x.work) is) was
grows_by c d met slot t was (Writes e place page space is) = still c d slot _ (ap (λ (x : Course). x.work) is) (elim was [
  | inl old ↦ inl (suc old.0, (let within = old.1 in omega arith), old.2)
  | inr table ↦ inr table
])
grows_by c d met slot t was (Returns place is) = still c d slot _ (ap (λ (x : Course). x.work) is) was
grows_by c d met slot t was (Tables e place page space is) =
    let doubled = t.doubled in
    let most = doubles_few met in
    still c d slot _ (ap (λ (x : Course). x.work) is) (elim was [
      | inl old ↦ inl old
      | inr table ↦ inr (table.0, turn_on slot c.work.wired c.work.tables table.0 t.turn (omega arith) table.1)
    ])
grows_by c d met slot t was (Copies entries dirty place writable keys size is) = still c d slot _ (ap (λ (x : Course). x.work) is) was

pub grows : (c d : Course) (slot : ℕ) → IsTallied c → Next c d → WasWritten c.work slot → WasWritten d.work slot
grows c d slot i next was = grows_by c d i.met slot i.tally was next

-- No other slot changes.

abbrev Changes : Course → Course → ℕ → Type 0
Changes c d slot = WasWritten d.work slot ⊎ (slice_get d.work.entries slot ≡ slice_get c.work.entries slot)

-- what a refill writes, it writes at Random
refill_changes : (c d : Course) (e : Entry) (slot : ℕ) → d.work ≡ wrote e c.work → Changes c d slot
refill_changes c d e slot is = elim (cases_eq slot c.work.random) [
  | inl same ↦ inl (still c d slot (wrote e c.work) is (inl (0, (omega arith), sym same)))
  | inr apart ↦ inr (ap (λ (w : Work). slice_get w.entries slot) is ∙ read_set_other c.work.entries c.work.random slot e apart)
]

-- and the monitor at the slot whose turn it is
table_changes : (c d : Course) (e : Entry) (slot : ℕ) → c.work.wired < 8 → d.work ≡ tabled e c.work → Changes c d slot
table_changes c d e slot turn is = elim (cases_eq slot c.work.wired) [
  | inl same ↦ inl (still c d slot (tabled e c.work) is (inr (subst (λ (n : ℕ). (n < 8) × (turns n (next_wired c.work.wired) ≤ c.work.tables + 1)) (sym same) (turn, turn_first c.work.wired c.work.tables turn))))
  | inr apart ↦ inr (ap (λ (w : Work). slice_get w.entries slot) is ∙ read_set_other c.work.entries c.work.wired slot e apart)
]

others_by : (c d : Course) (slot : ℕ) → c.work.wired < 8 → c.place ≢ AtModification → Next c d → Changes c d slot
others_by c d slot turn apart (Branches place is) = inr (ap (λ (x : Course). slice_get x.work.entries slot) is)
others_by c d slot turn apart (Misses ask place none is) = inr (ap (λ (x : Course). slice_get x.work.entries slot) is)
others_by c d slot turn apart (MissesInSlot ask place other none is) = inr (ap (λ (x : Course). slice_get x.work.entries slot) is)
others_by c d slot turn apart (Modifies place clean is) = inr (ap (λ (x : Course). slice_get x.work.entries slot) is)
others_by c d slot turn apart (Traps page place is) = inr (ap (λ (x : Course). slice_get x.work.entries slot) is)
others_by c d slot turn apart (Passes word place low other is) = inr (ap (λ (x : Course). slice_get x.work.entries slot) is)
others_by c d slot turn apart (MissesTable place none is) = inr (ap (λ (x : Course). slice_get x.work.entries slot) is)
others_by c d slot turn apart (Writes e place page space is) = refill_changes c d e slot (ap (λ (x : Course). x.work) is)
others_by c d slot turn apart (Returns place is) = inr (ap (λ (x : Course). slice_get x.work.entries slot) is)
others_by c d slot turn apart (Tables e place page space is) = table_changes c d e slot turn (ap (λ (x : Course). x.work) is)
others_by c d slot turn apart (Copies entries dirty place writable keys size is) = absurd (apart place)

pub others : (c d : Course) (slot : ℕ) → IsTallied c → Next c d → c.place ≢ AtModification → WasWritten d.work slot ⊎ (slice_get d.work.entries slot ≡ slice_get c.work.entries slot)
others c d slot i next apart = others_by c d slot i.tally.turn apart next

-- Each step leaves fewer to take.

fewer : (c : Course) (place : UnitPlace) (n : ℕ) → c.work.spent ≤ 61 → c.place ≡ place → is_serving place ≡ false → n ≤ 1 → 2 * (64 - (c.work.spent + 1)) + n < steps_ahead c
fewer c place n most is user small = rw (is, user) (omega arith)

fewer_of_user : (c : Course) → c.work.spent ≤ 61 → IsUsers c.place → 2 * (64 - (c.work.spent + 1)) + 1 < steps_ahead c
fewer_of_user c most (inl first) = fewer c Begun 1 most first refl (omega arith)
fewer_of_user c most (inr second) = fewer c InItsSlot 1 most second refl (omega arith)

served_fewer : (c : Course) (place : UnitPlace) → c.place ≡ place → is_serving place ≡ true → 2 * (64 - c.work.spent) < steps_ahead c
served_fewer c place is kernel = rw (is, kernel) (omega arith)

falls_by : (c d : Course) → c.work.spent ≤ 61 → Next c d → steps_ahead d < steps_ahead c
falls_by c d most (Branches place is) = subst (λ (x : Course). steps_ahead x < steps_ahead c) (sym is) (fewer c Begun 0 most place refl (omega arith))
falls_by c d most (Misses ask place none is) = subst (λ (x : Course). steps_ahead x < steps_ahead c) (sym is) (fewer c Begun 0 most place refl (omega arith))
falls_by c d most (MissesInSlot ask place other none is) = subst (λ (x : Course). steps_ahead x < steps_ahead c) (sym is) (fewer c InItsSlot 0 most place refl (omega arith))
falls_by c d most (Modifies place clean is) = subst (λ (x : Course). steps_ahead x < steps_ahead c) (sym is) (fewer_of_user c most place)
falls_by c d most (Traps page place is) = subst (λ (x : Course). steps_ahead x < steps_ahead c) (sym is) (fewer_of_user c most place)
falls_by c d most (Passes word place low other is) = subst (λ (x : Course). steps_ahead x < steps_ahead c) (sym is) (fewer c (AtWord word) 0 most place refl (omega arith))
falls_by c d most (MissesTable place none is) = subst (λ (x : Course). steps_ahead x < steps_ahead c) (sym is) (fewer c (AtWord 2) 1 most place refl (omega arith))
falls_by c d most (Writes e place page space is) = subst (λ (x : Course). steps_ahead x < steps_ahead c) (sym is) (fewer c (AtWord 6) 0 most place refl (omega arith))
falls_by c d most (Returns place is) = subst (λ (x : Course). steps_ahead x < steps_ahead c) (sym is) (fewer c (AtWord 8) 0 most place refl (omega arith))
falls_by c d most (Tables e place page space is) = subst (λ (x : Course). steps_ahead x < steps_ahead c) (sym is) (subst (λ (n : ℕ). n < steps_ahead c) (omega arith) (served_fewer c AtDoubleMiss place refl))
falls_by c d most (Copies entries dirty place writable keys size is) = subst (λ (x : Course). steps_ahead x < steps_ahead c) (sym is) (subst (λ (n : ℕ). n < steps_ahead c) (omega arith) (served_fewer c AtModification place refl))

pub falls : (c d : Course) → IsTallied c → Next c d → steps_ahead d < steps_ahead c
falls c d i next = falls_by c d (at_most_61 c.place c.page c.work i.met i.at) next

-- Room for what is still to be counted: a step that could be taken would be short.

any_entry : ℕ → ℕ → Entry
any_entry page asid = record { vpn = page; asid = asid; pfn = 0; n = false; d = false; v = false; g = false }

pub refill_room : (c : Course) → IsTallied c → c.place ≡ AtWord 6 → length c.work.written ≤ 3
unfolding any_entry
refill_room c i place =
    let w = c.work in
    let e : Entry = any_entry c.page w.asid in
    let d : Course = record { place = AtWord 7; page = c.page; work = wrote e w } in
    let few = (short d (goes_on c d i (Writes e place refl refl refl))).written in
    omega arith

-- so is it before any word up to the seventh
pub refill_from : (n : ℕ) (c : Course) (word : ℕ) → word + n ≡ 6 → IsTallied c → c.place ≡ AtWord word → length c.work.written ≤ 3
refill_from zero c word at i place = let is : word ≡ 6 = omega (arith, at) in refill_room c i (place ∙ ap AtWord is)
refill_from (suc n) c word at i place =
    let d : Course = record { place = AtWord (word + 1); page = c.page; work = counted c.work } in
    refill_from n d (word + 1) (omega (arith, at)) (goes_on c d i (Passes word place (omega (arith, at)) (λ (e : ◌≡◌ {A = ℕ} word 6). omega (arith, at, e)) refl)) refl

pub refill_before : (c : Course) (word : ℕ) → IsTallied c → c.place ≡ AtWord word → word ≤ 6 → length c.work.written ≤ 3
refill_before c word i place low = refill_from (6 - word) c word (omega (arith, low)) i place

-- as many words and an instruction were taken
pub refill_begun : (c : Course) (word : ℕ) → IsTallied c → c.place ≡ AtWord word → word ≤ 6 → word + 1 ≤ c.work.spent
refill_begun c word i place low = elim (there c i.met (AtWord word) place i.at) [
  | inl a ↦ a.1.begun
  | inr a ↦ absurd (let high = a.0 in omega (arith, high, low))
]

-- a double miss comes after an instruction and three words
pub table_begun : (c : Course) → IsTallied c → c.place ≡ AtDoubleMiss → 4 ≤ c.work.spent
table_begun c i place = (there c i.met AtDoubleMiss place i.at).begun

pub table_room : (c : Course) → IsTallied c → c.place ≡ AtDoubleMiss → (c.work.tables ≤ 3) × (c.work.services ≤ 5)
unfolding any_entry
table_room c i place =
    let w = c.work in
    let e : Entry = any_entry c.page w.asid in
    let d : Course = record { place = Begun; page = c.page; work = tabled e w } in
    let s = short d (goes_on c d i (Tables e place refl refl refl)) in
    let tables = s.tables in
    let services = s.services in
    ((omega arith), (omega arith))

pub copy_room : (c : Course) → IsTallied c → c.place ≡ AtModification → c.work.services ≤ 5
copy_room c i place =
    let w = c.work in
    let d : Course = record { place = Begun; page = c.page; work = copied w.entries (λ page. true) w } in
    let services = (short d (goes_on c d i (Copies w.entries (λ page. true) place refl (λ slot e at. (e, at, refl, refl)) refl refl))).services in
    omega arith
