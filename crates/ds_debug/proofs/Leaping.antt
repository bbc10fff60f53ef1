-- A run that goes forward by blocks, where nothing but a denial and breakpoints can stop it.
use Rattle.std.proofs.Common.{◌≡◌, ℕ, zero, suc, ◌+◌, ◌-◌, ◌<◌, ◌≤◌, Bool, true, false, cond, List, [], ◌∷◌, ◌++◌, length, take, get_or, Option, Some, None, inl, inr, refl, sym, ap, subst, ◌∙◌, arith}
use Rattle.std.specs.Prelude.{◌||◌, ◌&&◌, ◌==◌, ◌≢◌, ◌⊎◌, if◌then◌else◌, is_some, flat_map, slice_index_or}
use Rattle.std.specs.List.{list_all}
use Rattle.std.proofs.lemmas.Bool.Decides.{nat_tests}
use Rattle.std.proofs.lemmas.Grind.{flat_map-append}
use Rattle.std.proofs.lemmas.List.{drop_all, get_or-set_other, get_or-set_same, length-append}
use Rattle.std.proofs.lemmas.List.Folds.{list_all_at, list_any_more}
use Rattle.ds_word.specs.Word.{word}
use Rattle.ds_ahead.specs.Inner.Stops.{mark_of, marked, may_hold}
use Rattle.ds_log.specs.Text.{line_text}
use Rattle.ds_log.specs.declared.line.Line.{Line}
use Rattle.ds_packets.specs.declared.packet.Action.{Action}
use Rattle.ds_packets.specs.declared.packet.Action.TheVariants.{Continue, Step, Range}
use Rattle.ds_pagemap.specs.Machine.{Process, State, first, has_ended, no_process, process_of}
use Rattle.ds_pagemap.specs.Boundary.{is_first}
use Rattle.ds_pagemap.specs.Run.{is_over}
use Rattle.ds_pagemap.proofs.Growth.{reaches_log}
use Rattle.ds_refinement.specs.Held.{Held}
use Rattle.ds_refinement.specs.Stands.{CountedBy}
use Rattle.ds_refinement.specs.Real.{RealPath}
use Rattle.ds_refinement.specs.Runs.{RunsTo, held_goes_on}
use Rattle.ds_refinement.specs.Inner.Clear.{AreMet, ClearPath, IsAtStop, IsClearOf, IsMet}
use Rattle.ds_refinement.specs.Inner.Runs.{RunsWithin}
use Rattle.ds_refinement.specs.Inner.Stands.{IsSound}
use Rattle.ds_refinement.proofs.RunSteps.{within_sound, within_start}
use Rattle.ds_station.specs.Outcome.{first_unended, unended_from}
use Rattle.ds_station.specs.declared.outcome.Unended.{Unended}
use Rattle.ds_station.proofs.InPieces.{over_whole, to_within, within_join}
use Rattle.ds_debug.specs.Forward.{HasPassed, IsTurn, Passes, stop_between}
use Rattle.ds_gdb.specs.Points.{is_break}
use Rattle.ds_gdb.specs.declared.points.Breakpoint.{Breakpoint}
use Rattle.ds_gdb.specs.declared.points.Watchpoint.{Watchpoint}
use Rattle.ds_gdb.specs.declared.stops.Reason.TheVariants.{Break}
use Rattle.ds_station.specs.Reads.{address_held, unit_on}
use Rattle.ds_debug.specs.Exits.{exits_next}
use Rattle.ds_debug.specs.Answers.{is_there}
use Rattle.ds_debug.specs.Sights.{sight_held}
use Rattle.ds_debug.specs.Watches.{all_seen}
use Rattle.ds_debug.specs.Goals.{Aim, Goal, break_stop, or_else, stop_after, unit_stop, unit_stop_by, wanted_action}
use Rattle.ds_debug.specs.Inner.Leaps.{AtRest, Each, HasLeapt, IsFree, IsPassed, IsUnbroken, Leaps, is_calm}
use Rattle.ds_debug.specs.Places.{Turns}
use Rattle.ds_debug.specs.declared.goals.Stop.{Stop}
use Rattle.ds_debug.proofs.Ended.{stays_over}
use Rattle.ds_debug.proofs.Exited.{exit_ends}
use Rattle.ds_debug.proofs.Turning.{by_turns_each, turns_within}

-- so before somebody lives somebody has lived
lived_by : (before now : Bool) → (before ≡ true → now ≡ true) → now ≡ false → before ≡ false
lived_by true now more is = let both : true ≡ false = sym (more refl) ∙ is in absurd (cc)
lived_by false now more is = refl

-- the log of a run grows
grows : (n : ℕ) (old new : Held) → IsSound old → RunsWithin n old new → length old.kept.log ≤ length new.kept.log
grows n old new s w =
    let u = w.runs s.state s.stands in
    let more = reaches_log n s.state u.0 u.1 in
    let text : List ℕ = flat_map line_text more.more in
    let all : new.kept.log ≡ old.kept.log ++ text =
    sym u.2.agrees.kept.log ∙ (ap (λ (l : List Line). flat_map line_text l) more.is ∙ (flat_map-append line_text s.state.log more.more ∙ ap (λ (l : List ℕ). l ++ text) s.stands.agrees.kept.log)) in
    let size : length new.kept.log ≡ length old.kept.log + length text = ap (length {A = ℕ}) all ∙ length-append old.kept.log text in
    omega (arith, size)

-- After a turn nothing stops.

calm_by : (a : Option Action) (p pc : ℕ) → is_calm a ≡ true → unit_stop_by a p pc [] ≡ None
calm_by None p pc calm = refl
calm_by (Some Continue) p pc calm = refl
calm_by (Some Step) p pc calm = absurd (cc)
calm_by (Some (Range from to)) p pc calm = absurd (cc)

calm_there : (there : Bool) (a : Option Action) → is_calm a ≡ true → is_calm (cond there a None) ≡ true
calm_there true a calm = calm
calm_there false a calm = refl

-- what ran is not stopped, where nothing came to the log
ran : (g : Goal) (runner : Option ℕ) (logged : ℕ) (new : Held) → IsFree g → length new.kept.log ≤ logged → unit_stop g.aim runner logged new ≡ None
ran g None logged new free quiet = refl
ran g (Some p) logged new free quiet =
    ap (unit_stop_by (wanted_action g.aim.actions new p) p (address_held new p)) (drop_all logged new.kept.log quiet)
    ∙ calm_by (wanted_action g.aim.actions new p) p (address_held new p) (calm_there (is_there (sight_held new) p) (slice_index_or g.aim.actions p None) (free.calm p))

broken_by : (b : Bool) (stop : Stop) → (if b && false then Some stop else None) ≡ None
broken_by true stop = refl
broken_by false stop = refl

-- nor what runs next, where it is at no breakpoint
unbroken : (a : Aim) (p : ℕ) (new : Held) → is_break a.breakpoints p (address_held new p) ≡ false → break_stop a (Some p) new ≡ None
unbroken a p new is =
    let stop : Stop = record { process = p; reason = Break } in
    let wanted : Bool = is_some (wanted_action a.actions new p) in
    ap (λ (b : Bool). if wanted && b then Some stop else None) is ∙ broken_by wanted stop

-- where there is no breakpoint
none_broken : (a : Aim) (runner : Option ℕ) (new : Held) → a.breakpoints ≡ [] → break_stop a runner new ≡ None
none_broken a None new none = refl
none_broken a (Some p) new none = unbroken a p new (ap (λ (bs : List Breakpoint). is_break bs p (address_held new p)) none)

-- or where its address is not marked, as those of all breakpoints are
first_is : (p : ℕ) → (p == p) ≡ true
first_is p = grind (arith, nat_tests)

outside : (queue : List ℕ) (p : ℕ) (rest : List ℕ) (h : Held) (m : State) → queue ≡ p ∷ rest → CountedBy queue h.core h.own h.kept m → h.own.spent ≡ 0 → h.core.slot ≡ false
outside [] p rest h m is counted spent = absurd cc
outside (q ∷ more) p rest h m is counted spent = (counted.1 spent).first

address_is : (h : Held) (p : ℕ) (rest : List ℕ) → h.kept.state.ready ≡ p ∷ rest → h.core.slot ≡ false → address_held h p ≡ h.core.pc
address_is h p rest is slot =
    ap (λ (q : List ℕ). if is_first (first q) p then unit_on h.core else (process_of h.kept.state p).pc) is
    ∙ (ap (λ (b : Bool). if b then unit_on h.core else (process_of h.kept.state p).pc) (first_is p)
    ∙ ap (λ (b : Bool). if b then word (h.core.pc + 0xFFFFFFFC) else h.core.pc) slot)

unmarked : (b held : Bool) → (b ≡ true → held ≡ true) → held ≡ false → b ≡ false
unmarked true held holds none = let no : true ≡ false = sym (holds refl) ∙ none in absurd (cc)
unmarked false held holds none = refl

clear_by : (a : Aim) (marks : List Bool) (h : Held) (queue : List ℕ) → ((p pc : ℕ) → is_break a.breakpoints p pc ≡ true → may_hold marks pc ≡ true) → IsSound h → IsClearOf marks h → h.kept.state.owed ≡ None → h.own.spent ≡ 0 → h.kept.state.ready ≡ queue
    → IsUnbroken a h
clear_by a marks h [] holds sound clear whole spent is = ap (λ (q : List ℕ). break_stop a (first q) h) is
clear_by a marks h (p ∷ rest) holds sound clear whole spent is =
    let slot : h.core.slot ≡ false = outside h.kept.state.ready p rest h sound.state is sound.stands.counted spent in
    let ready : h.kept.state.ready ≢ [] = λ none. let no : p ∷ rest ≡ [] = sym is ∙ none in absurd (cc) in
    let here : is_break a.breakpoints p (address_held h p) ≡ false =
    ap (is_break a.breakpoints p) (address_is h p rest is slot) ∙ unmarked (is_break a.breakpoints p h.core.pc) (may_hold marks h.core.pc) (holds p h.core.pc) (clear whole spent ready slot) in
    ap (λ (q : List ℕ). break_stop a (first q) h) is ∙ unbroken a p h here

-- so a clear path passes no breakpoint
pub met_passed : (a : Aim) (marks : List Bool) (old : Held) → ((p pc : ℕ) → is_break a.breakpoints p pc ≡ true → may_hold marks pc ≡ true) → (path : List Held) → AreMet marks old path → Each (AtRest (IsPassed a old)) path
met_passed a marks old holds [] met = tt
met_passed a marks old holds (h ∷ rest) met = (λ sound whole spent. by sound whole spent met.0, met_passed a marks old holds rest met.1)
  where
    by : IsSound h → h.kept.state.owed ≡ None → h.own.spent ≡ 0 → IsMet marks old h → IsPassed a old h
    by sound whole spent (inl same) = inl same
    by sound whole spent (inr clear) = inr (clear_by a marks h h.kept.state.ready holds sound clear whole spent refl)

-- and so does any, where there is none
pub none_passed_by : (a : Aim) (old : Held) → a.breakpoints ≡ [] → (path : List Held) → Each (AtRest (IsPassed a old)) path
none_passed_by a old none [] = tt
none_passed_by a old none (h ∷ rest) = (λ sound whole spent. inr (none_broken a (first h.kept.state.ready) h none), none_passed_by a old none rest)

none_stops : (g : Goal) (last new : Held) → IsFree g → length new.kept.log ≤ length last.kept.log → IsUnbroken g.aim new → stop_between g last new ≡ None
none_stops g last new free quiet here =
    let runner : Option ℕ = first last.kept.state.ready in
    let logged : ℕ = length last.kept.log in
    let next : Option ℕ = first new.kept.state.ready in
    ap (λ (ws : List Watchpoint). stop_after g.aim runner logged (all_seen last ws) new) free.watchpoints
    ∙ (ap (λ (s : Option Stop). or_else s (break_stop g.aim next new)) (ran g runner logged new free quiet) ∙ here)

-- A leap by its turns.

turns_grow : (k : ℕ) (old : Held) (path : List Held) (new : Held) → Turns k old path new → old.kept.state.time ≤ new.kept.state.time
turns_grow k old [] new t = (let same : new.kept.state.time ≡ old.kept.state.time = ap (λ (h : Held). h.kept.state.time) t in omega (arith, same))
turns_grow k old (last ∷ before) new t = (let grows = turns_grow k old before last t.1 in omega (arith, grows, t.0.later))

-- what comes after a turn is not where they began
later_unbroken : (a : Aim) (k : ℕ) (old last new : Held) (before : List Held) → Turns k old before last → last.kept.state.time < new.kept.state.time → IsPassed a old new → IsUnbroken a new
later_unbroken a k old last new before t later (inl same) =
    let grows = turns_grow k old before last t in
    let time : new.kept.state.time ≡ old.kept.state.time = ap (λ (h : Held). h.kept.state.time) same in
    absurd (omega (arith, grows, later, time))
later_unbroken a k old last new before t later (inr here) = here

-- it has passed so, between two turns
abbrev HasRested : Aim → Held → Held → Type 0
HasRested a old h = IsPassed a old h × (h.kept.state.owed ≡ None) × (h.own.spent ≡ 0)

each_rested : (a : Aim) (old : Held) (path : List Held) → Each (AtRest (IsPassed a old)) path → Each (AtRest (HasRested a old)) path
each_rested a old [] each = tt
each_rested a old (h ∷ rest) each = (λ sound whole spent. (each.0 sound whole spent, whole, spent), each_rested a old rest each.1)

-- turns that pass no breakpoint, after which nothing came to the log, and somebody lives
passes : (g : Goal) (n k : ℕ) (old : Held) → IsFree g → IsSound old → (path : List Held) (new : Held) → Turns k old path new
    → Each (HasRested g.aim old) (new ∷ path)
    → new.kept.state.time ≤ n → is_over new.kept.state ≡ false → length new.kept.log ≤ length old.kept.log → Passes g n old path new
passes g n k old free s [] new t each early lives quiet = t
passes g n k old free s (last ∷ before) new t each early lives quiet =
    let back : RunsWithin k old last = turns_within k old before last t.1 in
    let sound : IsSound last = within_sound k old last back s in
    let on : RunsWithin (last.kept.state.time + 1) last new = to_within (last.kept.state.time + 1) last new t.0.runs in
    let more : length last.kept.log ≤ length new.kept.log = grows (last.kept.state.time + 1) last new sound on in
    let less : length old.kept.log ≤ length last.kept.log = grows k old last s back in
    let over : Bool = is_over new.kept.state in
    let stays : exits_next last ≡ false = lived_by (exits_next last) over (exit_ends k last new sound each.1.0.1 each.1.0.2 each.0.1 t.0) lives in
    let lived : is_over last.kept.state ≡ false =
    lived_by (is_over last.kept.state) over (stays_over (last.kept.state.time + 1) last new sound each.1.0.1 each.0.1 on) lives in
    let turn : IsTurn n last new = record { early = omega (arith, t.0.later, early); runs = t.0.runs; path = t.0.path; later = t.0.later } in (
      record { turn = turn; stays = stays },
      none_stops g last new free (omega (arith, less, quiet)) (later_unbroken g.aim k old last new before t.1 t.0.later each.0.0),
      passes g n k old free s before last t.1 each.1 (omega (arith, t.0.later, early)) lived (omega (arith, more, quiet)),
    )

pub leap_passes : (g : Goal) (n : ℕ) (old new : Held) → IsFree g → IsSound old → old.kept.state.owed ≡ None → old.own.spent ≡ 0 → Leaps g.aim n old new
    → HasPassed g n old new
leap_passes g n old new free s whole spent l =
    let path : RealPath old new = l.leapt.path in
    let w = by_turns_each (HasRested g.aim old) old new s whole spent path (each_rested g.aim old path.path l.leapt.passed) l.leapt.whole l.leapt.spent in
    let each : Each (HasRested g.aim old) (new ∷ w.0) = ((inr l.unbroken, l.leapt.whole, l.leapt.spent), w.2) in
    record { path = w.0; passes = passes g n new.kept.state.time old free s w.0 new w.1 each l.further.early l.further.lives l.further.quiet }

passes_join : (g : Goal) (n : ℕ) (old : Held) (first : List Held) (between : Held) (second : List Held) (new : Held) → Passes g n old first between → Passes g n between second new → Passes g n old (second ++ first) new
passes_join g n old first between [] new a b = subst (λ (h : Held). Passes g n old first h) (sym b) a
passes_join g n old first between (last ∷ second) new a b = (b.0, b.1, passes_join g n old first between second last a b.2)

-- what has passed, and more
pub passed_join : (g : Goal) (n : ℕ) (old between new : Held) → HasPassed g n old between → HasPassed g n between new → HasPassed g n old new
passed_join g n old between new a b = record { path = b.path ++ a.path; passes = passes_join g n old a.path between b.path new a.passes b.passes }

-- What a leap asks for.

-- all actions are calm
pub all_calm : (actions : List (Option Action)) (p : ℕ) → list_all is_calm actions ≡ true → is_calm (slice_index_or actions p None) ≡ true
all_calm [] p calm = refl
all_calm (a ∷ rest) zero calm = first_calm (is_calm a) (list_all is_calm rest) calm
  where
    first_calm : (x y : Bool) → (x && y) ≡ true → x ≡ true
    first_calm true y both = refl
    first_calm false y both = both
all_calm (a ∷ rest) (suc p) calm = all_calm rest p (rest_calm (is_calm a) (list_all is_calm rest) calm)
  where
    rest_calm : (x y : Bool) → (x && y) ≡ true → y ≡ true
    rest_calm true y both = both
    rest_calm false y both = absurd (cc)

-- where somebody has not ended, not all have
unended_by : (b : Bool) (m : State) (p n : ℕ) (u here : Unended) → has_ended (process_of m p).standing ≡ b → 0 < p → p + suc n ≤ length m.processes + 1 → (Some u ≡ unended_from m (p + 1) n → is_over m ≡ false) → Some u ≡ cond b (unended_from m (p + 1) n) (Some here)
    → is_over m ≡ false
unended_by true m p n u here stands some within later is = later is
unended_by false m p n u here stands some within later is = list_all_at (λ (q : Process). has_ended q.standing) m.processes (p - 1) no_process (omega (arith, some, within)) stands

unended_lives : (m : State) (p n : ℕ) (u : Unended) → 0 < p → p + n ≤ length m.processes + 1 → Some u ≡ unended_from m p n → is_over m ≡ false
unended_lives m p zero u some within is = absurd (cc)
unended_lives m p (suc n) u some within is =
    unended_by (has_ended (process_of m p).standing) m p n u (record { process = p; standing = (process_of m p).standing }) refl some within (unended_lives m (p + 1) n u (omega arith) (omega (arith, within))) is

pub lives_by : (m : State) (o : Option Unended) → o ≡ first_unended m → is_some o ≡ true → is_over m ≡ false
lives_by m None is some = absurd (cc)
lives_by m (Some u) is some = unended_lives m 1 (length m.processes) u (omega arith) (omega arith) is

-- The marks of breakpoints.

equal_by : (a b : ℕ) → (a == b) ≡ true → a ≡ b
equal_by a b is = grind (arith, nat_tests)

marked_here : (marks : List Bool) (a : ℕ) → length marks ≡ 1024 → may_hold (marked marks a) a ≡ true
marked_here marks a size = get_or-set_same marks (mark_of a) true false (omega (arith, size))

marked_still : (marks : List Bool) (a b : ℕ) → length marks ≡ 1024 → may_hold marks b ≡ true → may_hold (marked marks a) b ≡ true
marked_still marks a b size held = by (mark_of b == mark_of a) refl
  where
    by : (same : Bool) → (mark_of b == mark_of a) ≡ same → may_hold (marked marks a) b ≡ true
    by true is = ap (λ (i : ℕ). slice_index_or (marked marks a) i false) (equal_by (mark_of b) (mark_of a) is) ∙ marked_here marks a size
    by false is = get_or-set_other marks (mark_of a) (mark_of b) true false (λ same. let no : true ≡ false = sym (first_is (mark_of b)) ∙ (ap (λ (i : ℕ). mark_of b == i) same ∙ is) in absurd (cc)) ∙ held

-- with one more
pub marks_more : (bs : List Breakpoint) (i : ℕ) (d : Breakpoint) (marks : List Bool) → i < length bs → length marks ≡ 1024 → ((p pc : ℕ) → is_break (take i bs) p pc ≡ true → may_hold marks pc ≡ true)
    → (p pc : ℕ) → is_break (take (i + 1) bs) p pc ≡ true → may_hold (marked marks (get_or bs i d).address) pc ≡ true
marks_more bs i d marks within size before p pc some = by (is_break (take i bs) p pc) ((get_or bs i d).process == p) ((get_or bs i d).address == pc) refl refl (sym (list_any_more (λ (b : Breakpoint). (b.process == p) && (b.address == pc)) bs i d within) ∙ some)
  where
    by : (x y z : Bool) → is_break (take i bs) p pc ≡ x → ((get_or bs i d).address == pc) ≡ z → (x || (y && z)) ≡ true → may_hold (marked marks (get_or bs i d).address) pc ≡ true
    by true y z first here is = marked_still marks (get_or bs i d).address pc size (before p pc first)
    by false true true first here is = subst (λ (a : ℕ). may_hold (marked marks (get_or bs i d).address) a ≡ true) (equal_by (get_or bs i d).address pc here) (marked_here marks (get_or bs i d).address size)
    by false true false first here is = absurd (cc)
    by false false z first here is = absurd (cc)

-- What a run has leapt.

-- a run where there is no breakpoint
pub run_leapt : (a : Aim) (n : ℕ) (old new : Held) → a.breakpoints ≡ [] → RunsTo n old new → held_goes_on n new ≡ false → RealPath old new → new.own.spent ≡ 0 → new.own.failed ≡ false → HasLeapt a n old new
run_leapt a n old new none runs over path spent working = record {
  within = to_within n old new runs;
  path = path;
  passed = none_passed_by a old none path.path;
  whole = over_whole n new over;
  spent = spent;
  working = working;
}

whole_by : (marks : List Bool) (n : ℕ) (new : Held) → (held_goes_on n new ≡ false) ⊎ IsAtStop marks new → new.kept.state.owed ≡ None
whole_by marks n new (inl over) = over_whole n new over
whole_by marks n new (inr stop) = stop.whole

-- and one up to a stop
pub until_leapt : (a : Aim) (marks : List Bool) (n : ℕ) (old new : Held) → ((p pc : ℕ) → is_break a.breakpoints p pc ≡ true → may_hold marks pc ≡ true) → RunsWithin n old new → ClearPath marks old new
    → (held_goes_on n new ≡ false) ⊎ IsAtStop marks new → new.own.spent ≡ 0 → new.own.failed ≡ false → HasLeapt a n old new
until_leapt a marks n old new holds within path ends spent working = record {
  within = within;
  path = record { path = path.path; through = path.through };
  passed = met_passed a marks old holds path.path path.met;
  whole = whole_by marks n new ends;
  spent = spent;
  working = working;
}

pub leapt_later : (a : Aim) (k n : ℕ) → k ≤ n → (old new : Held) → HasLeapt a k old new → HasLeapt a n old new
leapt_later a k n le old new l = record {
  within = within_join k n le old old new (within_start n old) l.within;
  path = l.path;
  passed = l.passed;
  whole = l.whole;
  spent = l.spent;
  working = l.working;
}
