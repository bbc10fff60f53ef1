-- A turn of a run: an operation, with its slot where it has one, and where the run stands after it.
use Rattle.std.proofs.Common.{◌≡◌, ℕ, ◌+◌, ◌-◌, ◌*◌, ◌<◌, ◌≤◌, ◌^◌, Bool, true, false, ◌&&◌, refl, sym, ap, subst, ◌∙◌, arith}
use Rattle.std.specs.Prelude.{◌≢◌, ◌==◌, nat_lt, if◌then◌else◌, Option, Some, None, IfSome, IsSome, slice_index}
use Rattle.std.proofs.lemmas.Bool.Decides.{nat_tests}
use Rattle.ds_word.specs.Word.{word}
use Rattle.ds_isa.specs.declared.instr.Late.{Late}
use Rattle.ds_pages.specs.declared.does.Does.{Does}
use Rattle.ds_pages.specs.declared.places.Places.{Places}
use Rattle.ds_pages.specs.declared.does.Does.TheVariants as does
use Rattle.ds_pages.specs.Inner.Does.{single, steps, is_known, is_end, has_slot, is_load}
use Rattle.ds_pages.specs.declared.operation.OperationKind.{OperationKind}
use Rattle.ds_pages.specs.declared.operation.OperationKind.TheVariants.{Other}
use Rattle.ds_pages.specs.Inner.Places.{fields_at, does_at, length_at, IsFreeAt}
use Rattle.ds_dev.specs.Bus.{BusState}
use Rattle.ds_core.specs.declared.event.Event.{Event}
use Rattle.ds_core.specs.declared.event.Event.TheVariants as event
use Rattle.ds_core.specs.Core.{CoreState}
use Rattle.ds_core.specs.Inner.Core.{is_raised}
use Rattle.ds_ahead.specs.declared.operations.Outcome.{Outcome}
use Rattle.ds_ahead.specs.declared.operations.Outcome.TheVariants.{Done, Loaded, Branched, Called, Left}
use Rattle.ds_ahead.specs.declared.here.Here.{Here}
use Rattle.ds_ahead.specs.declared.here.Way.{Way}
use Rattle.ds_ahead.specs.declared.here.Way.TheVariants.{On, Out, Leaves, Calls, Away}
use Rattle.ds_ahead.specs.declared.next.Next.{Next}
use Rattle.ds_ahead.specs.declared.next.Next.TheVariants.{Call, Plain}
use Rattle.ds_ahead.specs.Inner.Ahead.{Hardware, after_steps, Advances}
use Rattle.ds_ahead.specs.Inner.Placed.{Place, placed, at_next, at_slot}
use Rattle.ds_ahead.specs.Inner.Operations.{HasOutcome, StaysCalm, Steps, IsCalled, LeadsOn}
use Rattle.ds_ahead.specs.Inner.Goes.{at_load, GoesAs, GoesBy}
use Rattle.ds_ahead.specs.Inner.Run.{place_in, slot_in, late_here, position_here, IsFreeOf, StandsIn, IsFreeHere, Moves, MovesAt, left_here, Lands, Ran, next_by, ComesOut}
use Rattle.ds_ahead.proofs.Stretches.{leads_nowhere, leads_on, leads_both}

-- Where what was done leaves its position.

pub goes_done : (end slot load : Bool) (c : CoreState) (to : ℕ) (at at2 : Place) → GoesAs end slot load Done c to at at2 → (end ≡ false) × (slot ≡ false) × (at2 ≡ at_next at)
goes_done true slot load c to at at2 goes = absurd goes
goes_done false true load c to at at2 goes = absurd goes
goes_done false false true c to at at2 goes = absurd goes
goes_done false false false c to at at2 goes = (refl, refl, goes)

pub goes_loaded : (end slot load : Bool) (c : CoreState) (to : ℕ) (at at2 : Place) → GoesAs end slot load Loaded c to at at2 → (end ≡ false) × (slot ≡ false) × (load ≡ true) × (at2 ≡ at_load c to at)
goes_loaded true slot load c to at at2 goes = absurd goes
goes_loaded false true load c to at at2 goes = absurd goes
goes_loaded false false true c to at at2 goes = (refl, refl, refl, goes)
goes_loaded false false false c to at at2 goes = absurd goes

pub goes_branched : (end slot load : Bool) (c : CoreState) (to : ℕ) (at at2 : Place) → GoesAs end slot load Branched c to at at2 → (end ≡ false) × (slot ≡ true) × (at.slot ≡ false) × (at2 ≡ at_slot at at2.next)
goes_branched true slot load c to at at2 goes = absurd goes
goes_branched false true load c to at at2 goes = (refl, refl, goes.0, goes.1)
goes_branched false false true c to at at2 goes = absurd goes
goes_branched false false false c to at at2 goes = absurd goes

pub goes_called : (end slot load : Bool) (c : CoreState) (to : ℕ) (at at2 : Place) → GoesAs end slot load Called c to at at2 → end ≡ true
goes_called true slot load c to at at2 goes = refl
goes_called false true load c to at at2 goes = absurd goes
goes_called false false true c to at at2 goes = absurd goes
goes_called false false false c to at at2 goes = absurd goes

-- What is done at a place.

-- what is not unknown is known
pub known_by : (d : Does) → d ≢ does.Unknown → is_known d ≡ true
known_by does.Unknown some = absurd (some refl)
known_by d some = refl

-- what is known and not left is done alone
pub single_by : (left : Bool) (d e : Does) → d ≡ (if left then does.Left else e) → d ≢ does.Left → d ≡ e
single_by true d e is some = absurd (some is)
single_by false d e is some = is

-- so it is an operation
pub some_by : (d : Does) (k : OperationKind) → d ≡ single k → d ≢ does.Left → k ≢ Other
some_by d k is some = λ other. some (is ∙ ap single other)

-- The length of a block, by its first operation.

pub one_more : (d : Does) (n : ℕ) → is_end d ≡ false → has_slot d ≡ false → steps d n ≡ 1 + n
one_more d n end slot = rw (end, slot) refl

pub with_slot : (d : Does) (n : ℕ) → is_end d ≡ false → has_slot d ≡ true → steps d n ≡ 2
with_slot d n end slot = rw (end, slot) refl

pub at_end : (d : Does) (n : ℕ) → is_end d ≡ true → steps d n ≡ 0
at_end d n end = rw end refl

-- Positions.

-- two positions of the same numbers
same_place : (a b c d : ℕ) (s : Bool) (l m : Option Late) → a ≡ c → b ≡ d → l ≡ m → ◌≡◌ {A = Place} (record { pc = a; next = b; slot = s; late = l }) (record { pc = c; next = d; slot = s; late = m })
same_place a b c d s l m e f g = rw (e, f, g) refl

not_equal : (a b : ℕ) → a ≢ b → (a == b) ≡ false
not_equal a b apart = grind (arith, nat_tests)

equal : (a b : ℕ) → a ≡ b → (a == b) ≡ true
equal a b same = grind (arith, nat_tests)

-- no load is late
pub late_none : (h : Here) → h.late_at ≢ h.place → late_here h ≡ None
late_none h apart = rw (not_equal h.late_at h.place apart) refl

-- a load is late
pub late_some : (h : Here) → h.late_at ≡ h.place → late_here h ≡ Some h.late
late_some h same = rw (equal h.late_at h.place same) refl

-- a run stands at the next place
pub next_position : (first : ℕ) (h : Here) (m l : Option Late) → first < 2 ^ 31 → h.place < 1024 → late_here (record h { place = h.place + 1 }) ≡ l → record (at_next (record (place_in first h.place) { late = m })) { late = l } ≡ position_here first (record h { place = h.place + 1 })
next_position first h m l low inside late =
    same_place (first + 4 * h.place + 4) (word (first + 4 * h.place + 4 + 4)) (first + 4 * (h.place + 1)) (first + 4 * (h.place + 1) + 4) false l (late_here (record h { place = h.place + 1 })) (omega arith) (omega (arith, low, inside)) (sym late)

-- Steps.

-- one step alone
pub step_alone : (m : ℕ) (e : Event) (c : CoreState) (at : Place) (b : BusState) (c2 : CoreState) (at2 : Place) (b2 : BusState)
    → Steps e c at b c2 at2 b2 → is_raised e ≡ false → at.pc < 2 ^ 32 → StaysCalm c b c2 b2 → m ≡ 1 → LeadsOn m c at b c2 at2 b2
step_alone m e c at b c2 at2 b2 steps quiet word stays one = leads_on 0 m e c at b c at b c2 at2 b2 (leads_nowhere 0 c at b refl) steps quiet word stays one

-- no step, where nothing has changed
no_step : (m : ℕ) (c : CoreState) (at : Place) (b : BusState) (c2 : CoreState) (b2 : BusState) → c2 ≡ c → b2 ≡ b → m ≡ 0 → LeadsOn m c at b c2 at b2
no_step m c at b c2 b2 core bus none =
    subst (λ (x : CoreState). LeadsOn m c at b x at b2) (sym core) (subst (λ (y : BusState). LeadsOn m c at b c at y) (sym bus) (leads_nowhere m c at b none))

-- a run after a stretch
pub ran_both : (way : Way) (all some : ℕ) (c : CoreState) (at : Place) (b : BusState) (c1 : CoreState) (at1 : Place) (b1 : BusState) (p : Places) (first : ℕ) (h : Here) (rest : ℕ) (c2 : CoreState) (at2 : Place) (b2 : BusState)
    → some ≤ all → LeadsOn (all - some) c at b c1 at1 b1 → Ran way some c1 at1 b1 p first h rest c2 at2 b2 → Ran way all c at b p first h rest c2 at2 b2
ran_both On all some c at b c1 at1 b1 p first h rest c2 at2 b2 within leads ran =
    (omega (arith, within, ran.0), leads_both (all - some) (some - left_here p h rest) (all - left_here p h rest) c at b c1 at1 b1 c2 (position_here first h) b2 leads ran.1 (omega (arith, within, ran.0)))
ran_both Out all some c at b c1 at1 b1 p first h rest c2 at2 b2 within leads ran =
    (omega (arith, within, ran.0), leads_both (all - some) (some - rest) (all - rest) c at b c1 at1 b1 c2 (position_here first h) b2 leads ran.1 (omega (arith, within, ran.0)))
ran_both Leaves all some c at b c1 at1 b1 p first h rest c2 at2 b2 within leads ran =
    (omega (arith, within, ran.0), leads_both (all - some) (some - word (left_here p h rest)) (all - word (left_here p h rest)) c at b c1 at1 b1 c2 (position_here first h) b2 leads ran.1 (omega (arith, within, ran.0)))
ran_both Calls all some c at b c1 at1 b1 p first h rest c2 at2 b2 within leads ran =
    (omega (arith, within, ran.0), leads_both (all - some) (some - rest) (all - rest) c at b c1 at1 b1 c2 (position_here first h) b2 leads ran.1 (omega (arith, within, ran.0)), ran.2)
ran_both Away all some c at b c1 at1 b1 p first h rest c2 at2 b2 within leads ran =
    (omega (arith, within, ran.0), leads_both (all - some) (some - rest) (all - rest) c at b c1 at1 b1 c2 at2 b2 leads ran.1 (omega (arith, within, ran.0)))

-- Turns.

-- the step where a run stands
step_here : (out : Outcome) (p : Places) (first : ℕ) (h : Here) (c : CoreState) (at : Place) (b : BusState) (c2 : CoreState) (at2 : Place) (b2 : BusState)
    → at ≡ place_in first h.place → IsFreeHere p h → h.place < 1024 → MovesAt p h.place out c at b c2 at2 b2 → Moves out c (position_here first h) b c2 at2 b2
step_here out p first h c at b c2 at2 b2 is free inside moves =
    subst (λ (a : Place). Moves out c (record a { late = late_here h }) b c2 at2 b2) is (moves (late_here h) (free inside))

-- an operation that neither loads nor branches
pub turn_done : (p : Places) (first rest : ℕ) (h : Here) (c : CoreState) (to : ℕ) (at : Place) (b : BusState) (c2 : CoreState) (at2 : Place) (b2 : BusState)
    → at ≡ place_in first h.place → StandsIn h → IsFreeHere p h → first < 2 ^ 31
    → length_at p h.place ≡ steps (does_at p h.place) (length_at p (h.place + 1)) → length_at p h.place + h.place ≤ 1024
    → MovesAt p h.place Done c at b c2 at2 b2 → GoesBy (does_at p h.place) Done c to at at2 → StaysCalm c b c2 b2
    → (h.place < 1024) × (length_at p h.place ≡ 1 + length_at p (h.place + 1)) × (late_here (record h { place = h.place + 1 }) ≡ None)
    × Ran On (left_here p h rest) c (position_here first h) b p first (record h { place = h.place + 1 }) rest c2 at2 b2
turn_done p first rest h c to at b c2 at2 b2 is stands free low length short moves goes stays =
    let d = does_at p h.place in
    let went = goes_done (is_end d) (has_slot d) (is_load d) c to at at2 goes in
    let more : length_at p h.place ≡ 1 + length_at p (h.place + 1) = length ∙ one_more d (length_at p (h.place + 1)) went.0 went.1 in
    let inside : h.place < 1024 = omega (arith, more, short) in
    let h2 : Here = record h { place = h.place + 1 } in
    let none : late_here h2 ≡ None = late_none h2 (λ same.
    let far : 1024 < h.late_at = stands.past (omega (arith, same)) in
    omega (arith, same, far, inside)) in
    let where_ : at2 ≡ position_here first h2 = went.2 ∙ (ap at_next is ∙ next_position first h None None low inside none) in
    let step = step_here Done p first h c at b c2 at2 b2 is free inside moves in (
      inside,
      more,
      none,
      (
        omega (arith, more),
        subst (λ (a : Place). LeadsOn (left_here p h rest - left_here p h2 rest) c (position_here first h) b c2 a b2) where_
            (step_alone (left_here p h rest - left_here p h2 rest) event.Retired c (position_here first h) b c2 at2 b2 step refl (omega (arith, low, inside)) stays (omega (arith, more))),
      ),
    )

-- a load that is late
abbrev late_by : ℕ → ℕ → Option Late
late_by register old = Some (record { register = register; old = old })

free_by : (l : Option Late) (p : Places) (i register old : ℕ) → l ≡ late_by register old → register ≢ (fields_at p i).first → register ≢ (fields_at p i).second → IsFreeOf l p i
free_by l p i register old is first second = subst (λ (m : Option Late). IsFreeOf m p i) (sym is) (first, second)

-- the load that a run keeps
late_after : (h : Here) (register old : ℕ) (l : Option Late) → h.late_at ≡ h.place → l ≡ late_by register old → IfSome l (λ x. h.late ≡ x) → late_here h ≡ l
late_after h register old l at is some = late_some h at ∙ (ap Some (subst (λ (m : Option Late). IfSome m (λ x. h.late ≡ x)) is some) ∙ sym is)

-- a load
pub turn_loaded : (p : Places) (first rest : ℕ) (h h2 : Here) (c : CoreState) (at : Place) (b : BusState) (c2 : CoreState) (at2 : Place) (b2 : BusState)
    → at ≡ place_in first h.place → IsFreeHere p h → first < 2 ^ 31
    → length_at p h.place ≡ steps (does_at p h.place) (length_at p (h.place + 1)) → length_at p h.place + h.place ≤ 1024
    → MovesAt p h.place Loaded c at b c2 at2 b2 → GoesBy (does_at p h.place) Loaded c (fields_at p h.place).to at at2 → StaysCalm c b c2 b2
    → h2.place ≡ h.place + 1 → h2.late_at ≡ h.place + 1 → IfSome at2.late (λ l. h2.late ≡ l)
    → (is_load (does_at p h.place) ≡ true → IsFreeAt p h.place)
    → (h.place < 1024) × (length_at p h.place ≡ 1 + length_at p (h.place + 1)) × IsFreeHere p h2
    × Ran On (left_here p h rest) c (position_here first h) b p first h2 rest c2 at2 b2
turn_loaded p first rest h h2 c at b c2 at2 b2 is free low length short moves goes stays place late load reads =
    let d = does_at p h.place in
    let went = goes_loaded (is_end d) (has_slot d) (is_load d) c (fields_at p h.place).to at at2 goes in
    let more : length_at p h.place ≡ 1 + length_at p (h.place + 1) = length ∙ one_more d (length_at p (h.place + 1)) went.0 went.1 in
    let inside : h.place < 1024 = omega (arith, more, short) in
    let held : ℕ = slice_index c.registers.general (fields_at p h.place).to in
    let loads : at2.late ≡ late_by (fields_at p h.place).to held = ap (λ (a : Place). a.late) went.3 in
    let kept : late_here h2 ≡ at2.late = late_after h2 (fields_at p h.place).to held at2.late (late ∙ sym place) loads load in
    let next : at2 ≡ record (at_next (place_in first h.place)) { late = at2.late } = went.3 ∙ (ap (at_load c (fields_at p h.place).to) is ∙ ap (λ (l : Option Late). record (at_next (place_in first h.place)) { late = l }) (sym loads)) in
    let where_ : at2 ≡ position_here first h2 = next
    ∙ same_place (first + 4 * h.place + 4) (word (first + 4 * h.place + 4 + 4)) (first + 4 * h2.place) (first + 4 * h2.place + 4) false at2.late (late_here h2) (omega (arith, place)) (omega (arith, low, inside, place)) (sym kept) in
    let step = step_here Loaded p first h c at b c2 at2 b2 is free inside moves in
    let shorter : length_at p h2.place ≡ length_at p (h.place + 1) = ap (length_at p) place in (
      inside,
      more,
      λ small. subst (λ (n : ℕ). IsFreeOf (late_here h2) p n) (sym place)
          (free_by (late_here h2) p (h.place + 1) (fields_at p h.place).to held (kept ∙ loads) (reads went.2).0 (reads went.2).1),
      (
        omega (arith, more, shorter),
        subst (λ (a : Place). LeadsOn (left_here p h rest - left_here p h2 rest) c (position_here first h) b c2 a b2) where_
            (step_alone (left_here p h rest - left_here p h2 rest) event.Retired c (position_here first h) b c2 at2 b2 step refl (omega (arith, low, inside)) stays (omega (arith, more, shorter))),
      ),
    )

-- a branch or jump: its slot
pub turn_branched : (p : Places) (first rest : ℕ) (h : Here) (c : CoreState) (to : ℕ) (at : Place) (b : BusState) (c2 : CoreState) (at2 : Place) (b2 : BusState)
    → at ≡ place_in first h.place → IsFreeHere p h → first < 2 ^ 31
    → length_at p h.place ≡ steps (does_at p h.place) (length_at p (h.place + 1)) → length_at p h.place + h.place ≤ 1024
    → MovesAt p h.place Branched c at b c2 at2 b2 → GoesBy (does_at p h.place) Branched c to at at2 → StaysCalm c b c2 b2
    → (h.place < 1023) × (length_at p h.place ≡ 2) × (at2 ≡ slot_in (first + 4 * (h.place + 1)) at2.next)
    × LeadsOn (left_here p h rest - (rest + 1)) c (position_here first h) b c2 at2 b2
turn_branched p first rest h c to at b c2 at2 b2 is free low length short moves goes stays =
    let d = does_at p h.place in
    let went = goes_branched (is_end d) (has_slot d) (is_load d) c to at at2 goes in
    let two : length_at p h.place ≡ 2 = length ∙ with_slot d (length_at p (h.place + 1)) went.0 went.1 in
    let inside : h.place < 1023 = omega (arith, two, short) in
    let step = step_here Branched p first h c at b c2 at2 b2 is free (omega (arith, inside)) moves in (
      inside,
      two,
      went.3 ∙ (ap (λ (a : Place). at_slot a at2.next) is ∙ same_pc (first + 4 * h.place + 4) (first + 4 * (h.place + 1)) at2.next (omega arith)),
      step_alone (left_here p h rest - (rest + 1)) event.Branched c (position_here first h) b c2 at2 b2 step refl (omega (arith, low, inside)) stays (omega (arith, two)),
    )
  where
    same_pc : (a b target : ℕ) → a ≡ b → slot_in a target ≡ slot_in b target
    same_pc a b target e = ap (λ (n : ℕ). slot_in n target) e

-- a system call
pub turn_called : (p : Places) (first rest : ℕ) (h : Here) (c : CoreState) (to : ℕ) (at : Place) (b : BusState) (c2 : CoreState) (at2 : Place) (b2 : BusState)
    → at ≡ place_in first h.place → IsFreeHere p h → h.place < 1024
    → length_at p h.place ≡ steps (does_at p h.place) (length_at p (h.place + 1))
    → MovesAt p h.place Called c at b c2 at2 b2 → GoesBy (does_at p h.place) Called c to at at2
    → Ran Calls (left_here p h rest) c (position_here first h) b p first h rest c2 at2 b2
turn_called p first rest h c to at b c2 at2 b2 is free inside length moves goes =
    let d = does_at p h.place in
    let none : length_at p h.place ≡ 0 = length ∙ at_end d (length_at p (h.place + 1)) (goes_called (is_end d) (has_slot d) (is_load d) c to at at2 goes) in
    let step = step_here Called p first h c at b c2 at2 b2 is free inside moves in (
      omega arith,
      no_step (left_here p h rest - rest) c (position_here first h) b c2 b2 step.0 step.1 (omega (arith, none)),
      subst (λ (x : CoreState). IsCalled x (position_here first h) b2) (sym step.0) (subst (λ (y : BusState). IsCalled c (position_here first h) y) (sym step.1) step.2),
    )

-- what is left
pub turn_left : (p : Places) (first rest : ℕ) (h : Here) (c : CoreState) (at : Place) (b : BusState) (c2 : CoreState) (at2 : Place) (b2 : BusState)
    → left_here p h rest < 2 ^ 32 → MovesAt p h.place Left c at b c2 at2 b2
    → Ran Leaves (left_here p h rest) c (position_here first h) b p first h rest c2 at2 b2
turn_left p first rest h c at b c2 at2 b2 fits moves =
    let same = moves None (tt, tt) in
    (omega (arith, fits), no_step (left_here p h rest - word (left_here p h rest)) c (position_here first h) b c2 b2 same.0 same.1 (omega (arith, fits)))

-- an operation without a slot that is not done is left
pub turn_not_done : (out : Outcome) (p : Places) (first rest : ℕ) (h : Here) (c : CoreState) (to : ℕ) (at : Place) (b : BusState) (c2 : CoreState) (at2 : Place) (b2 : BusState)
    → left_here p h rest < 2 ^ 32 → has_slot (does_at p h.place) ≡ false → out ≢ Done → out ≢ Loaded
    → MovesAt p h.place out c at b c2 at2 b2 → GoesBy (does_at p h.place) out c to at at2
    → Ran Leaves (left_here p h rest) c (position_here first h) b p first h rest c2 at2 b2
turn_not_done Done p first rest h c to at b c2 at2 b2 fits straight one two moves goes = absurd (one refl)
turn_not_done Loaded p first rest h c to at b c2 at2 b2 fits straight one two moves goes = absurd (two refl)
turn_not_done Called p first rest h c to at b c2 at2 b2 fits straight one two moves goes =
    let same = moves None (tt, tt) in
    (omega (arith, fits), no_step (left_here p h rest - word (left_here p h rest)) c (position_here first h) b c2 b2 same.0 same.1 (omega (arith, fits)))
turn_not_done Branched p first rest h c to at b c2 at2 b2 fits straight one two moves goes =
    let d = does_at p h.place in
    let went = goes_branched (is_end d) (has_slot d) (is_load d) c to at at2 goes in
    absurd (cc (straight, went.1))
turn_not_done Left p first rest h c to at b c2 at2 b2 fits straight one two moves goes = turn_left p first rest h c at b c2 at2 b2 fits moves

-- Slots.

-- a slot that is done, and where it led to
pub slot_landed : (way : Way) (e : Event) (p : Places) (first rest rest2 : ℕ) (h : Here) (c : CoreState) (at : Place) (b : BusState) (c2 : CoreState) (at2 : Place) (b2 : BusState)
    → Steps e c at b c2 at2 b2 → is_raised e ≡ false → at.pc < 2 ^ 32 → StaysCalm c b c2 b2 → Lands way p first at2 h rest rest2 → Ran way (rest + 1) c at b p first h rest2 c2 at2 b2
slot_landed On e p first rest rest2 h c at b c2 at2 b2 step quiet small stays lands =
    (omega (arith, lands.1), subst (λ (a : Place). LeadsOn (rest + 1 - left_here p h rest2) c at b c2 a b2) lands.0 (step_alone (rest + 1 - left_here p h rest2) e c at b c2 at2 b2 step quiet small stays (omega (arith, lands.1))))
slot_landed Out e p first rest rest2 h c at b c2 at2 b2 step quiet small stays lands =
    (omega (arith, lands.1), subst (λ (a : Place). LeadsOn (rest + 1 - rest2) c at b c2 a b2) lands.0 (step_alone (rest + 1 - rest2) e c at b c2 at2 b2 step quiet small stays (omega (arith, lands.1))))
slot_landed Leaves e p first rest rest2 h c at b c2 at2 b2 step quiet small stays lands = absurd lands
slot_landed Calls e p first rest rest2 h c at b c2 at2 b2 step quiet small stays lands = absurd lands
slot_landed Away e p first rest rest2 h c at b c2 at2 b2 step quiet small stays lands =
    (omega (arith, lands), step_alone (rest + 1 - rest2) e c at b c2 at2 b2 step quiet small stays (omega (arith, lands)))

-- the position after a slot whose load is late, or none
abbrev after_slot : ℕ → Option Late → Place
after_slot pc l = record { pc = pc; next = word (pc + 4); slot = false; late = l }

-- where a slot that is done leads
pub slot_done : (d : Does) (out : Outcome) (c : CoreState) (to : ℕ) (at at2 : Place) → out ≡ Done → GoesBy d out c to at at2
    → (at2 ≡ record { pc = at2.pc; next = word (at2.pc + 4); slot = false; late = None }) × (at2.pc ≡ at.next)
slot_done d out c to at at2 is goes =
    let went = goes_done (is_end d) (has_slot d) (is_load d) c to at at2 (subst (λ (o : Outcome). GoesBy d o c to at at2) is goes) in
    let pc : at2.pc ≡ at.next = ap (λ (a : Place). a.pc) went.2 in
    (went.2 ∙ ap (λ (n : ℕ). after_slot n None) (sym pc), pc)

-- the same with its load
pub slot_loaded : (d : Does) (out : Outcome) (c : CoreState) (to : ℕ) (at at2 : Place) → out ≡ Loaded → GoesBy d out c to at at2
    → (at2 ≡ record { pc = at2.pc; next = word (at2.pc + 4); slot = false; late = at2.late }) × (at2.pc ≡ at.next) × IsSome at2.late × IfSome at2.late (λ l. l.register ≡ to)
slot_loaded d out c to at at2 is goes =
    let went = goes_loaded (is_end d) (has_slot d) (is_load d) c to at at2 (subst (λ (o : Outcome). GoesBy d o c to at at2) is goes) in
    let held : ℕ = slice_index c.registers.general to in
    let pc : at2.pc ≡ at.next = ap (λ (a : Place). a.pc) went.3 in
    let late : at2.late ≡ late_by to held = ap (λ (a : Place). a.late) went.3 in (
      went.3 ∙ (ap (λ (n : ℕ). after_slot n (late_by to held)) (sym pc) ∙ ap (λ (l : Option Late). after_slot at2.pc l) (sym late)),
      pc,
      subst (λ (l : Option Late). IsSome l) (sym late) refl,
      subst (λ (l : Option Late). IfSome l (λ x. x.register ≡ to)) (sym late) refl,
    )

-- a branch or jump in a slot is left
pub no_branch : (d : Does) (out : Outcome) (c : CoreState) (to : ℕ) (at at2 : Place) → at.slot ≡ true → out ≡ Branched → GoesBy d out c to at at2 → ⊥
no_branch d out c to at at2 slot is goes =
    let went = goes_branched (is_end d) (has_slot d) (is_load d) c to at at2 (subst (λ (o : Outcome). GoesBy d o c to at at2) is goes) in
    absurd (cc (slot, went.2))

-- a slot that is not done
pub slot_not_done : (d : Does) (out : Outcome) (c : CoreState) (to : ℕ) (at : Place) (b : BusState) (c2 : CoreState) (at2 : Place) (b2 : BusState) → at.slot ≡ true → out ≢ Done → out ≢ Loaded
    → GoesBy d out c to at at2 → HasOutcome out c at b c2 at2 b2 → (c2 ≡ c) × (at2 ≡ at) × (b2 ≡ b)
slot_not_done d Done c to at b c2 at2 b2 slot one two goes has = absurd (one refl)
slot_not_done d Loaded c to at b c2 at2 b2 slot one two goes has = absurd (two refl)
slot_not_done d Branched c to at b c2 at2 b2 slot one two goes has = absurd (no_branch d Branched c to at at2 slot refl goes)
slot_not_done d Called c to at b c2 at2 b2 slot one two goes has = (has.0, has.1, has.2)
slot_not_done d Left c to at b c2 at2 b2 slot one two goes has = has

-- a slot that is left
pub slot_left : (p : Places) (first rest : ℕ) (h : Here) (c : CoreState) (at : Place) (b : BusState) (c2 : CoreState) (at2 : Place) (b2 : BusState)
    → c2 ≡ c → at2 ≡ at → b2 ≡ b → Ran Away (rest + 1) c at b p first h (rest + 1) c2 at2 b2
slot_left p first rest h c at b c2 at2 b2 core here bus =
    (omega arith, subst (λ (a : Place). LeadsOn (rest + 1 - (rest + 1)) c at b c2 a b2) (sym here) (no_step (rest + 1 - (rest + 1)) c at b c2 b2 core bus (omega arith)))

-- The end.

is_more : (n : ℕ) → nat_lt 0 n ≡ true → 0 < n
is_more n h = grind (arith, nat_tests)

-- a call comes next, or a plain step, where a step is left
by_call : (more : Bool) (next : Next) → next_by next more ≡ Call → more ≡ true
by_call true next is = refl
by_call false next is = absurd (cc is)

by_plain : (more : Bool) (next : Next) → next_by next more ≡ Plain → more ≡ true
by_plain true next is = refl
by_plain false next is = absurd (cc is)

not_both : (more : Bool) → next_by Plain more ≡ Call → ⊥
not_both true is = absurd (cc is)
not_both false is = absurd (cc is)

-- of two that are so the second is
second_too : (a b : Bool) → a && b ≡ true → b ≡ true
second_too true b is = is
second_too false b is = absurd (cc is)

-- a run that comes out
pub ran_out : (way : Way) (all : ℕ) (c : CoreState) (at : Place) (b : BusState) (p : Places) (first : ℕ) (h : Here) (rest : ℕ) (c2 : CoreState) (at2 : Place) (b2 : BusState) (at3 : Place) (left : ℕ) (next : Next)
    → way ≢ On → Ran way all c at b p first h rest c2 at2 b2 → ComesOut way p first h rest at2 at3 left next
    → (left ≤ all) × LeadsOn (all - left) c at b c2 at3 b2 × (next ≡ Call → (0 < left) × IsCalled c2 at3 b2) × (next ≡ Plain → 0 < left)
ran_out On all c at b p first h rest c2 at2 b2 at3 left next off ran out = absurd (off refl)
ran_out Out all c at b p first h rest c2 at2 b2 at3 left next off ran out = rw (out.0, out.1, out.2) (ran.0, ran.1, λ no. absurd cc, λ no. absurd cc)
ran_out Leaves all c at b p first h rest c2 at2 b2 at3 left next off ran out = (
  rw out.1 ran.0,
  rw (out.0, out.1) ran.1,
  λ call. absurd (not_both (is_known (does_at p h.place) && nat_lt 0 left) (sym out.2 ∙ call)),
  λ plain. is_more left (second_too (is_known (does_at p h.place)) (nat_lt 0 left) (by_plain (is_known (does_at p h.place) && nat_lt 0 left) Plain (sym out.2 ∙ plain))),
)
ran_out Calls all c at b p first h rest c2 at2 b2 at3 left next off ran out = (
  rw out.1 ran.0,
  rw (out.0, out.1) ran.1,
  λ call. (rw out.1 (is_more rest (by_call (nat_lt 0 rest) Call (sym out.2 ∙ call))), rw out.0 ran.2),
  λ plain. rw out.1 (is_more rest (by_plain (nat_lt 0 rest) Call (sym out.2 ∙ plain))),
)
ran_out Away all c at b p first h rest c2 at2 b2 at3 left next off ran out = rw (out.0, out.1, out.2) (ran.0, ran.1, λ no. absurd cc, λ no. absurd cc)

-- the steps that a run may take still
abbrev pub steps_left : Way → Places → Here → ℕ → ℕ
steps_left On p h rest = 1 + left_here p h rest
steps_left _ p h rest = 0

-- where a run begins
pub ran_first : (p : Places) (first start left rest : ℕ) (c : CoreState) (at : Place) (b : BusState) (h : Here)
    → start < 1024 → at ≡ place_in first start → h ≡ record { place = start; late_at = 2000; late = record { register = 1; old = 0 } } → rest + length_at p start ≡ left
    → Ran On left c at b p first h rest c at b
ran_first p first start left rest c at b h inside is here whole =
    let begins : Here = record { place = start; late_at = 2000; late = record { register = 1; old = 0 } } in
    let none : late_here begins ≡ None = late_none begins (λ same. omega (arith, same, inside)) in
    let where_ : at ≡ position_here first begins = is ∙ ap (λ (l : Option Late). record (place_in first start) { late = l }) (sym none) in
    let ran : Ran On left c at b p first begins rest c at b = (omega (arith, whole), subst (λ (a : Place). LeadsOn (left - left_here p begins rest) c at b c a b) where_ (leads_nowhere (left - left_here p begins rest) c at b (omega (arith, whole)))) in
    subst (λ (x : Here). Ran On left c at b p first x rest c at b) (sym here) ran

-- what a run that is to go on has
pub ran_on : (way : Way) (all : ℕ) (c : CoreState) (at : Place) (b : BusState) (p : Places) (first : ℕ) (h : Here) (rest : ℕ) (c2 : CoreState) (at2 : Place) (b2 : BusState)
    → way ≡ On → Ran way all c at b p first h rest c2 at2 b2 → Ran On all c at b p first h rest c2 at2 b2
ran_on way all c at b p first h rest c2 at2 b2 on ran = subst (λ (w : Way). Ran w all c at b p first h rest c2 at2 b2) on ran

-- where the processor stands, as a position
abbrev stands_at : CoreState → Place
stands_at c = record { pc = c.pc; next = c.next; slot = c.slot; late = c.registers.late }

same_position : (a b : ℕ) (s : Bool) (l : Option Late) (c d : ℕ) → a ≡ c → b ≡ d → s ≡ false → l ≡ None → ◌≡◌ {A = Place} (record { pc = a; next = b; slot = s; late = l }) (record { pc = c; next = d; slot = false; late = None })
same_position a b s l c d e f g h = rw (e, f, g, h) refl

-- the first position of a run
pub first_position : (c : CoreState) (at : Place) (first i : ℕ) → placed 0 c at ≡ c → c.slot ≡ false → c.next ≡ word (c.pc + 4) → c.registers.late ≡ None → first < 2 ^ 31 → i < 1024 → c.pc ≡ first + 4 * i → at ≡ place_in first i
first_position c at first i begins straight next settled low inside pc =
    ap stands_at begins ∙ same_position c.pc c.next c.slot c.registers.late (first + 4 * i) (first + 4 * i + 4) pc (next ∙ omega (arith, pc, low, inside)) straight settled

-- no step leaves processor and bus as they were
pub no_way : (n : ℕ) (old new : Hardware) → n ≡ 0 → Advances n old new → new ≡ old
no_way n old new none advances = advances.state ∙ ap (λ (k : ℕ). after_steps k old) none
