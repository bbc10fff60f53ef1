-- The counts of a unit, and its tally.
use Rattle.std.proofs.Common.{◌≡◌, ◌≢◌, ℕ, ◌<◌, ◌≤◌, ◌∙◌, Bool, true, false, List, [], ◌∷◌, length, refl, sym, ap, ap₂, subst, arith}
use Rattle.std.specs.Prelude.{◌==◌}
use Rattle.ds_word.specs.Word.{bits}
use Rattle.ds_cp0.specs.System.{is_user}
use Rattle.ds_core.specs.Core.{CoreState}
use Rattle.ds_refinement.specs.Told.{code_in}
use Rattle.ds_refinement.proofs.Registers.{HasSeat}
use Rattle.ds_pagemap.specs.Machine.{State, touched}
use Rattle.ds_refinement.specs.Course.{UnitPages}
use Rattle.ds_refinement.specs.Inner.Course.{after_touch}
use Rattle.ds_refinement.specs.Inner.CourseSteps.{Next}
use Rattle.ds_refinement.specs.Tally.{IsTallied}
use Rattle.ds_refinement.proofs.UnitCourses as courses
use Rattle.ds_refinement.specs.Needs.{pages_of_unit}
use Rattle.ds_refinement.specs.Inner.Asks.{TellsClean}
use Rattle.ds_cp0.specs.System.{asid_of}
use Rattle.ds_tlb.specs.declared.entry.Entry.{Entry}
use Rattle.ds_grants.specs.Buffer.{lo_of, BufferHolds}
use Rattle.ds_refinement.proofs.Lookups.{found_of}
use Rattle.ds_refinement.specs.Inner.Services.{with_failure}
use Rattle.ds_refinement.proofs.Standing.{own_unseen}
use Rattle.ds_core.specs.declared.event.Event.{Event}
use Rattle.ds_core.specs.declared.event.Event.TheVariants as event
use Rattle.ds_core.specs.Core as core
use Rattle.ds_core.specs.Effect.{step}
use Rattle.ds_refinement.specs.Held.{Held, Kept, Own, space_of}
use Rattle.ds_refinement.specs.Stands.{Agrees, CountedBy, IsUnbegun, RunningBy, Stands}
use Rattle.ds_refinement.proofs.Slots.{ticked_low, ticked_high}
use Rattle.ds_refinement.proofs.AskedFor.{goes_on, retires}
use Rattle.ds_refinement.specs.Counts.{one_more, Counts, HasNone, HasRanges, fresh_counts, place_by, course_of, counts_of, may_write}
use Rattle.ds_refinement.specs.Inner.Counts.{CountedAfter, IsFew}
use Rattle.ds_refinement.proofs.Needed.{pages_touched}

-- a unit begins
pub begins : (c : CoreState) (wired : ℕ) (dirty : ℕ → Bool) (pages : UnitPages) → is_user c.system ≡ true → c.slot ≡ false → HasRanges c (fresh_counts wired) → IsTallied (course_of c (fresh_counts wired) dirty pages)
begins c wired dirty pages user outside r = courses.begins (course_of c (fresh_counts wired) dirty pages) (record {
  place = ap₂ (λ (a b : Bool). place_by a b (c.pc == 0x80000080) (bits c.system.status 3 1 == 1) (code_in c.system == 1) c.pc) user outside;
  size = r.size;
  low = r.low;
  high = r.high;
  turn = r.turn;
  spent = refl;
  written = refl;
  since = refl;
  tables = refl;
  services = refl;
})

-- a step that touches the process
pub touches : (m : State) (p : ℕ) (rest : List ℕ) (c d : CoreState) (n k : Counts) (dirty after : ℕ → Bool) → m.ready ≡ p ∷ rest → HasSeat m p → IsTallied (course_of c n dirty (pages_of_unit m p))
    → Next (course_of c n dirty (pages_of_unit m p)) (course_of d k after (after_touch (pages_of_unit m p))) → IsTallied (course_of d k after (pages_of_unit (touched true m) p))
touches m p rest c d n k dirty after ready seat i next =
    subst (λ (pages : UnitPages). IsTallied (course_of d k after pages)) (sym (pages_touched m p rest ready seat)) (courses.goes_on (course_of c n dirty (pages_of_unit m p)) (course_of d k after (after_touch (pages_of_unit m p))) i next)

-- what is tallied has its ranges
pub ranges : (c : CoreState) (n : Counts) (dirty : ℕ → Bool) (pages : UnitPages) → IsTallied (course_of c n dirty pages) → HasRanges c n
ranges c n dirty pages i = let t = i.tally in record { size = t.size; low = t.low; high = t.high; turn = t.turn }

-- an instruction keeps the counts: inside the unit they go on, and where it ends they begin again
pub instruction_counted : (h : Held) (m : State) (p : ℕ) (rest : List ℕ) (s : core.Step) (n : Counts) (dirty : ℕ → Bool) → Agrees h m → h.kept.state.ready ≡ p ∷ rest → is_user h.core.system ≡ true → s ≡ step h.core h.bus
    → TellsClean h.core.entries (pages_of_unit m p).access (asid_of h.core.system) dirty
    → IsTallied (course_of h.core n dirty (pages_of_unit m p)) → CountedAfter s.event s.core n dirty (pages_of_unit m p)
instruction_counted h m p rest s n dirty k ready user is clean i = by_event s.event refl
  where
    going : s.event ≢ event.Retired → IsTallied (course_of s.core (one_more n) dirty (pages_of_unit m p))
    going more = courses.goes_on (course_of h.core n dirty (pages_of_unit m p)) (course_of s.core (one_more n) dirty (pages_of_unit m p)) i (goes_on h m p rest k ready user s is n dirty more clean)

    by_event : (e : Event) → s.event ≡ e → CountedAfter e s.core n dirty (pages_of_unit m p)
    by_event event.Retired at =
        let r = ranges h.core n dirty (pages_of_unit m p) i in
        let done = retires h m p rest k ready user s is at in
        record {
          size = ap length done.0 ∙ r.size;
          low = subst (λ (x : ℕ). 8 ≤ x) (sym done.1) (ticked_low h.core.random r.low r.high);
          high = subst (λ (x : ℕ). x < 64) (sym done.1) (ticked_high h.core.random r.low r.high);
          turn = r.turn;
        }
    by_event event.Branched at = going (λ (wrong : s.event ≡ event.Retired). let no : event.Branched ≡ event.Retired = sym at ∙ wrong in cc)
    by_event (event.Raised code) at = going (λ (wrong : s.event ≡ event.Retired). let no : event.Raised code ≡ event.Retired = sym at ∙ wrong in cc)

-- By what a station has counted.

counted_of : (h : Held) (m : State) (p : ℕ) (rest : List ℕ) → Stands h m → h.kept.state.ready ≡ p ∷ rest → CountedBy (p ∷ rest) h.core h.own h.kept m
counted_of h m p rest k ready = subst (λ (ps : List ℕ). CountedBy ps h.core h.own h.kept m) ready k.counted

-- the unit of the first ready process is tallied
pub tallied_of : (h : Held) (m : State) (p : ℕ) (rest : List ℕ) → Stands h m → h.kept.state.ready ≡ p ∷ rest → IsTallied (course_of h.core (counts_of h.own) (may_write h.kept p) (pages_of_unit m p))
tallied_of h m p rest k ready = (counted_of h m p rest k ready).0

-- and where none of its instructions is counted it is unbegun
pub unbegun_of : (h : Held) (m : State) (p : ℕ) (rest : List ℕ) → Stands h m → h.kept.state.ready ≡ p ∷ rest → h.own.spent ≡ 0 → IsUnbegun h.core p m
unbegun_of h m p rest k ready = (counted_of h m p rest k ready).1

-- in kernel mode it has begun
pub has_begun : (h : Held) (m : State) (p : ℕ) (rest : List ℕ) → Stands h m → h.kept.state.ready ≡ p ∷ rest → is_user h.core.system ≡ false → h.own.spent ≢ 0
has_begun h m p rest k ready kernel = λ none. (let no : true ≡ false = sym (unbegun_of h m p rest k ready none).mode ∙ kernel in absurd cc)

-- a unit that has not begun is tallied, whatever it asks for
pub none_tallied : (c : CoreState) (own : Own) (dirty : ℕ → Bool) (pages : UnitPages) → is_user c.system ≡ true → c.slot ≡ false → HasNone own → HasRanges c (counts_of own) → IsTallied (course_of c (counts_of own) dirty pages)
none_tallied c own dirty pages user outside none r =
    subst (λ (n : Counts). IsTallied (course_of c n dirty pages)) (sym none) (begins c own.wired dirty pages user outside (record { size = r.size; low = r.low; high = r.high; turn = r.turn }))

-- the unit of the first ready process is unbegun, where somebody is ready
abbrev pub UnbegunBy : List ℕ → CoreState → State → Type 0
UnbegunBy [] c m = Unit {0}
UnbegunBy (p ∷ rest) c m = IsUnbegun c p m

-- so nothing of it is counted
pub none_counted : (queue : List ℕ) (c : CoreState) (own : Own) (k : Kept) (m : State) → UnbegunBy queue c m → HasNone own → HasRanges c (counts_of own) → CountedBy queue c own k m
none_counted [] c own k m u none ranges = (none, ranges)
none_counted (p ∷ rest) c own k m u none ranges = (none_tallied c own (may_write k p) (pages_of_unit m p) u.mode u.first none ranges, λ spent. u)

-- while no instruction is counted, the processor is in user mode, whoever is ready
user_by : (queue : List ℕ) (c : CoreState) (own : Own) (k : Kept) (m : State) → RunningBy queue c k m → CountedBy queue c own k m → own.spent ≡ 0 → is_user c.system ≡ true
user_by [] c own k m a i none = ap (λ (w : ℕ). bits w 1 1 == 1) a
user_by (p ∷ rest) c own k m a i none = (i.1 none).mode

pub user_of : (h : Held) (m : State) → Stands h m → h.own.spent ≡ 0 → is_user h.core.system ≡ true
user_of h m k = user_by h.kept.state.ready h.core h.own h.kept m k.agrees.running k.counted

-- the ranges, whoever is ready
ranges_by : (queue : List ℕ) (c : CoreState) (own : Own) (k : Kept) (m : State) → CountedBy queue c own k m → HasRanges c (counts_of own)
ranges_by [] c own k m i = i.1
ranges_by (p ∷ rest) c own k m i = ranges c (counts_of own) (may_write k p) (pages_of_unit m p) i.0

pub ranges_of : (h : Held) (m : State) → Stands h m → HasRanges h.core (counts_of h.own)
ranges_of h m k = ranges_by h.kept.state.ready h.core h.own h.kept m k.counted

-- the counts are few, whoever is ready
few_by : (queue : List ℕ) (c : CoreState) (own : Own) (k : Kept) (m : State) → CountedBy queue c own k m → IsFew own
few_by [] c own k m i = record {
  spent = subst (λ (n : Counts). n.spent ≤ 61) (sym i.0) (omega arith);
  written = subst (λ (n : Counts). length n.written ≤ 4) (sym i.0) (omega arith);
  since = subst (λ (n : Counts). n.since < 56) (sym i.0) (omega arith);
  tables = subst (λ (n : Counts). n.tables ≤ 4) (sym i.0) (omega arith);
  services = subst (λ (n : Counts). n.services ≤ 8) (sym i.0) (omega arith);
  wired = i.1.turn;
}
few_by (p ∷ rest) c own k m i =
    let s = courses.short (course_of c (counts_of own) (may_write k p) (pages_of_unit m p)) i.0 in
    let steps : own.since ≤ 54 = s.since in
    let services : own.services ≤ 6 = s.services in
    record { spent = s.spent; written = s.written; since = omega (arith, steps); tables = s.tables; services = omega (arith, services); wired = i.0.tally.turn }

pub few_of : (h : Held) (m : State) → Stands h m → IsFew h.own
few_of h m k = few_by h.kept.state.ready h.core h.own h.kept m k.counted

-- what the buffer has without D, the process may not write
pub tells_clean : (entries : List Entry) (k : Kept) (p page asid : ℕ) → BufferHolds entries k.spaces k.grants k.tables → 0 < p → 0 < space_of k p → asid ≡ space_of k p → TellsClean entries page asid (may_write k p)
tells_clean entries k p page asid holds some number space = λ slot e found at clean.
    let of = found_of entries page asid slot e found at (holds.own slot e at) in
    let there : e.asid ≡ space_of k p = of.1 ∙ space in
    let b = holds.backed slot e p at some (subst (λ (n : ℕ). 0 < n) (sym there) number) (sym there) in
    ap (λ (v : ℕ). bits (lo_of k.grants k.tables p v) 10 1 == 1) (sym of.0) ∙ (sym (ap (λ (x : Entry). x.d) b.words) ∙ clean)

-- a failure is not counted
failed_by : (queue : List ℕ) (c : CoreState) (own : Own) (k : Kept) (m : State) → CountedBy queue c own k m → CountedBy queue c (record own { failed = true }) k m
failed_by [] c own k m i = i
failed_by (p ∷ rest) c own k m i = i

pub failure_stands : (h : Held) (m : State) → Stands h m → Stands (with_failure h) m
failure_stands h m k = record { agrees = own_unseen h (with_failure h).own m k.agrees; counted = failed_by h.kept.state.ready h.core h.own h.kept m k.counted }
