-- What a touch leaves of what a trace shows.
use Rattle.std.proofs.Common.{◌≡◌, ◌≢◌, ℕ, zero, suc, ◌+◌, ◌-◌, ◌*◌, ◌/◌, Bool, true, false, cond, List, [], ◌∷◌, ◌++◌, Option, Some, None, refl, sym, ap, ◌∙◌, arith, set, get_or}
use Rattle.std.specs.Prelude.{is_some, length, map, drop, codes, decimal, slice_index, if◌then◌else◌, ◌||◌, ◌==◌}
use Rattle.std.proofs.lemmas.List.{get_or-set_other}
use Rattle.ds_word.specs.Word.{word, sign_extended}
use Rattle.ds_isa.specs.Uses.{uses}
use Rattle.ds_isa.specs.Instruction.{instruction_of}
use Rattle.ds_listing.specs.declared.names.RegisterNames.{RegisterNames}
use Rattle.ds_listing.specs.NamedTexts.{register_as}
use Rattle.ds_text.specs.Digits.{hex8}
use Rattle.ds_policy.specs.Grants.{PageState}
use Rattle.ds_procs.specs.declared.call.Call.{Call}
use Rattle.ds_procs.specs.declared.process.Standing.{Standing}
use Rattle.ds_procs.specs.Calls.{call_of}
use Rattle.ds_pagemap.specs.Machine.{State, Process, no_process, process_of, with_process, first, touched, touched_process, touch_first}
use Rattle.ds_refinement.specs.Held.{last_boundary}
use Rattle.ds_station.specs.Reads.{fetched}
use Rattle.ds_words.specs.declared.view.View.{View}
use Rattle.ds_words.specs.Views.{shows_denials, shows_turn, shows_unit}
use Rattle.ds_trace.specs.declared.lines.Told.{Told}
use Rattle.ds_trace.specs.declared.start.Start.{Start}
use Rattle.ds_trace.specs.declared.stores.Reach.{Reach}
use Rattle.ds_trace.specs.Looks.{Looked, Found}
use Rattle.ds_trace.specs.Starts.{is_call, call_at, slot_of, page_named_at, start_at, start_of, general_of}
use Rattle.ds_trace.specs.Calls.{call_answer_text, call_told}
use Rattle.ds_trace.specs.Stores.{is_lost, reach_of, stored_at, stored_text}
use Rattle.ds_trace.specs.Loads.{load_reach, loaded_at, slot_loaded_at, unlinked}
use Rattle.ds_trace.specs.Lines.{is_hidden, shown, shown_register, register_text, loaded_text, result_text, front_text, source_place_text, told_line, first_told, slot_told, first_line, slot_line, unit_text, was_done, logged_text}
use Rattle.ds_trace.specs.Boundaries.{due_by}
use Rattle.ds_trace.specs.Changes.{changes_text, standing_text}
use Rattle.ds_trace.specs.Counts.{Counted, is_counted, unit_counted, done_counted, switch_counted, counted_after}
use Rattle.ds_trace.specs.Halves.{log_of, next_boundary, told_table, looked_of, found_of, process_of_start, changed_entries_text, done_text, opening_text, half_after, half_text, half_counts}
use Rattle.ds_trace.specs.Logs.{lines_of}
use Rattle.ds_trace.specs.Summaries.{summary_text}
use Rattle.ds_trace.specs.Ends.{register_left_text, registers_text, parked_text, process_text, processes_text, end_text}

-- Of a list in which one element was changed.

-- what is read of an element is as before, where the change keeps that
pub read_again : {X Y : Type 0} (g : X → Y) (f : X → X) → ((x : X) → g (f x) ≡ g x) → (xs : List X) (i j : ℕ) (d : X) → g (get_or (set xs i (f (get_or xs i d))) j d) ≡ g (get_or xs j d)
read_again g f keeps [] i j d = refl
read_again g f keeps (x ∷ xs) zero zero d = keeps x
read_again g f keeps (x ∷ xs) zero (suc j) d = refl
read_again g f keeps (x ∷ xs) (suc i) zero d = refl
read_again g f keeps (x ∷ xs) (suc i) (suc j) d = read_again g f keeps xs i j d

-- and so is what is read of all
map_again : {X Y : Type 0} (g : X → Y) (f : X → X) → ((x : X) → g (f x) ≡ g x) → (xs : List X) (i : ℕ) (d : X) → map g (set xs i (f (get_or xs i d))) ≡ map g xs
map_again g f keeps [] i d = refl
map_again g f keeps (x ∷ xs) zero d = ap (λ y. y ∷ map g xs) (keeps x)
map_again g f keeps (x ∷ xs) (suc i) d = ap (λ ys. g x ∷ ys) (map_again g f keeps xs i d)

-- The registers.

abbrev touched_general : List ℕ → ℕ → List ℕ
touched_general general pc = set (set general 26 0) 27 pc

-- all but two are as before
other_kept : (general : List ℕ) (pc n : ℕ) → is_lost n ≡ false → slice_index (touched_general general pc) n ≡ slice_index general n
other_kept general pc n is = get_or-set_other (set general 26 0) 27 n pc 0 (not_lost 27 refl) ∙ get_or-set_other general 26 n 0 0 (not_lost 26 refl)
  where
    not_lost : (k : ℕ) → is_lost k ≡ true → n ≢ k
    not_lost k lost e = let no : true ≡ false = sym lost ∙ (sym (ap is_lost e) ∙ is) in absurd (cc)

-- a call asks for the same
call_kept : (general : List ℕ) (pc : ℕ) → call_of (touched_general general pc) ≡ call_of general
call_kept general pc =
    rw (other_kept general pc 2 refl, other_kept general pc 4 refl, other_kept general pc 5 refl, other_kept general pc 6 refl, other_kept general pc 7 refl) refl

call_at_kept : (general : List ℕ) (pc : ℕ) (o : Option ℕ) → call_at (touched_general general pc) o ≡ call_at general o
call_at_kept general pc None = refl
call_at_kept general pc (Some w) = ap (λ (c : Call). cond (is_call (instruction_of w)) (Some c) None) (call_kept general pc)

-- nor is the base of a store or a load whose word is shown
stored_kept : (general : List ℕ) (pc : ℕ) (o : Option Reach) → stored_at (touched_general general pc) o ≡ stored_at general o
stored_kept general pc None = refl
stored_kept general pc (Some r) = by (is_lost r.base) refl
  where
    by : (lost : Bool) → is_lost r.base ≡ lost
        → cond lost None (Some (word (slice_index (touched_general general pc) r.base + sign_extended 16 r.offset) / 4 * 4)) ≡ cond lost None (Some (word (slice_index general r.base + sign_extended 16 r.offset) / 4 * 4))
    by true is = refl
    by false is = ap (λ (v : ℕ). Some (word (v + sign_extended 16 r.offset) / 4 * 4)) (other_kept general pc r.base is)

loaded_kept : (general : List ℕ) (pc : ℕ) (o : Option ℕ) → loaded_at (touched_general general pc) o ≡ loaded_at general o
loaded_kept general pc None = refl
loaded_kept general pc (Some w) = stored_kept general pc (load_reach (instruction_of w))

slot_loaded_kept : (general : List ℕ) (pc : ℕ) (o at : Option ℕ) → slot_loaded_at (touched_general general pc) o at ≡ slot_loaded_at general o at
slot_loaded_kept general pc None at = refl
slot_loaded_kept general pc (Some w) None = refl
slot_loaded_kept general pc (Some w) (Some x) = stored_kept general pc (unlinked (uses (instruction_of w)).links (load_reach (instruction_of x)))

-- the unit at an address, with what of it the registers tell
abbrev start_with : PageState → ℕ → ℕ → ℕ → Option Call → ℕ → Option ℕ → Option ℕ → Start
start_with s time p pc call number loaded slot_loaded = record {
  time = time;
  process = p;
  address = pc;
  word = fetched s p pc;
  slot = slot_of s p pc (fetched s p pc);
  call = call;
  number = number;
  page = page_named_at s p pc;
  slot_page = page_named_at s p (word (pc + 4));
  loaded = loaded;
  slot_loaded = slot_loaded;
}

start_kept : (s : PageState) (general : List ℕ) (time p pc : ℕ) → start_at s (touched_general general pc) time p pc ≡ start_at s general time p pc
start_kept s general time p pc =
    let w : Option ℕ = fetched s p pc in
    let at : Option ℕ = slot_of s p pc w in
    ap (λ (c : Option Call). start_with s time p pc c (slice_index (touched_general general pc) 2) (loaded_at (touched_general general pc) w) (slot_loaded_at (touched_general general pc) w at)) (call_at_kept general pc w)
    ∙ (ap (λ (n : ℕ). start_with s time p pc (call_at general w) n (loaded_at (touched_general general pc) w) (slot_loaded_at (touched_general general pc) w at)) (other_kept general pc 2 refl)
    ∙ (ap (λ (a : Option ℕ). start_with s time p pc (call_at general w) (slice_index general 2) a (slot_loaded_at (touched_general general pc) w at)) (loaded_kept general pc w)
    ∙ ap (start_with s time p pc (call_at general w) (slice_index general 2) (loaded_at general w)) (slot_loaded_kept general pc w at)))

touch_first_ready : (ready : List ℕ) (m : State) → (touch_first m ready).ready ≡ m.ready
touch_first_ready [] m = refl
touch_first_ready (p ∷ rest) m = refl

pub touched_ready : (b : Bool) (m : State) → (touched b m).ready ≡ m.ready
touched_ready true m = touch_first_ready m.ready m
touched_ready false m = refl

-- Before a half turn.

start_first : (q : ℕ) (m : State) (o : Option ℕ) → start_of (with_process m q (touched_process (process_of m q))) o ≡ start_of m o
start_first q m None = refl
start_first q m (Some p) = read_again (λ (x : Process). Some (start_at m.memory x.registers.general m.time p x.pc)) touched_process
    (λ x. ap (λ (s : Start). Some s) (start_kept m.memory x.registers.general m.time p x.pc)) m.processes (q - 1) (p - 1) no_process

-- what is looked at, with this unit and these standings
abbrev looked_with : View → State → Option Start → List Standing → Looked
looked_with v m start standings = record {
  owed = is_some m.owed;
  began = last_boundary m;
  start = cond (is_some m.owed) None start;
  logged = length (log_of m);
  runner = first m.ready;
  due = due_by (next_boundary m) m.commands;
  characters = length m.characters;
  queued = map length m.queues;
  standings = standings;
  table = told_table v m.memory.table;
}

looked_first : (v : View) (ready : List ℕ) (m : State) → looked_of v (touch_first m ready) ≡ looked_of v m
looked_first v [] m = refl
looked_first v (q ∷ rest) m =
    ap (λ (s : Option Start). looked_with v m s (map (λ (x : Process). x.standing) (with_process m q (touched_process (process_of m q))).processes)) (start_first q m (first m.ready))
    ∙ ap (λ (ss : List Standing). looked_with v m (start_of m (first m.ready)) ss) (map_again (λ (x : Process). x.standing) touched_process (λ x. refl) m.processes (q - 1) no_process)

pub looked_touched : (v : View) (b : Bool) (m : State) → looked_of v (touched b m) ≡ looked_of v m
looked_touched v true m = looked_first v m.ready m
looked_touched v false m = refl

-- After it.

-- a register that is shown is neither 26 nor 27
register_kept : (names : RegisterNames) (general : List ℕ) (pc : ℕ) (o : Option ℕ) → register_text names (touched_general general pc) (shown o) ≡ register_text names general (shown o)
register_kept names general pc None = refl
register_kept names general pc (Some n) = by (is_hidden n) refl
  where
    apart : (none lost : Bool) → (none || lost) ≡ false → lost ≡ false
    apart true lost is = absurd (cc)
    apart false lost is = is

    by : (h : Bool) → is_hidden n ≡ h → register_text names (touched_general general pc) (cond h None (Some n)) ≡ register_text names general (cond h None (Some n))
    by true is = refl
    by false is = ap (λ (v : ℕ). codes "  " ++ register_as names n ++ codes "=" ++ hex8 v) (other_kept general pc n (apart (n == 0) (is_lost n) is))

-- what is found, with registers that were touched
abbrev touched_found : Found → ℕ → Found
touched_found f pc = record f { general = touched_general f.general pc }

-- what it leaves, by these registers and this address
abbrev left_by : View → Told → Found → List ℕ → Option ℕ → List ℕ
left_by v t f register a = if t.done then register ++ (stored_text f.memory (length f.standings) t.process a ++ loaded_text v t f) else []

result_kept : (v : View) (t : Told) (f : Found) (pc : ℕ) → result_text v t (touched_found f pc) ≡ result_text v t f
unfolding shown_register
result_kept v t f pc =
    ap (λ (l : List ℕ). left_by v t f l (stored_at (touched_general f.general pc) (reach_of (instruction_of t.word))))
    (register_kept v.names f.general pc (cond (is_call (instruction_of t.word)) (Some 2) (uses (instruction_of t.word)).writes))
    ∙ ap (left_by v t f (register_text v.names f.general (shown_register t.word))) (stored_kept f.general pc (reach_of (instruction_of t.word)))

line_kept : (v : View) (t : Told) (f : Found) (pc : ℕ) → told_line v t (touched_found f pc) ≡ told_line v t f
line_kept v t f pc =
    ap (λ (r : List ℕ). source_place_text v t ++ (front_text v.names t ++ call_told v.source t.number t.call ++ r ++ call_answer_text t.call (slice_index (touched_general f.general pc) 2) ++ codes "\n")) (result_kept v t f pc)
    ∙ ap (λ (n : ℕ). source_place_text v t ++ (front_text v.names t ++ call_told v.source t.number t.call ++ result_text v t f ++ call_answer_text t.call n ++ codes "\n")) (other_kept f.general pc 2 refl)

first_kept : (v : View) (s : Start) (done : Bool) (f : Found) (pc : ℕ) (o : Option ℕ) → first_line v s done (touched_found f pc) o ≡ first_line v s done f o
first_kept v s done f pc None = refl
first_kept v s done f pc (Some w) = line_kept v (first_told s done w) f pc

slot_kept : (v : View) (s : Start) (done : Bool) (f : Found) (pc : ℕ) (o : Option ℕ) → slot_line v s done (touched_found f pc) o ≡ slot_line v s done f o
slot_kept v s done f pc None = refl
slot_kept v s done f pc (Some w) = ap (λ (l : List ℕ). codes "  " ++ l) (line_kept v (slot_told s done w) f pc)

unit_kept : (v : View) (s : Start) (done : Bool) (f : Found) (pc : ℕ) → unit_text v s done (touched_found f pc) ≡ unit_text v s done f
unit_kept v s done f pc =
    ap (λ (l : List ℕ). l ++ slot_line v s done (touched_found f pc) s.slot) (first_kept v s done f pc s.word)
    ∙ ap (λ (l : List ℕ). first_line v s done f s.word ++ l) (slot_kept v s done f pc s.slot)

done_kept : (v : View) (b : Looked) (f : Found) (pc : ℕ) (o : Option Start) → done_text v b (touched_found f pc) o ≡ done_text v b f o
done_kept v b f pc None = refl
done_kept v b f pc (Some s) =
    ap (λ (l : List ℕ). (cond (shows_unit v s.process (is_some s.call)) l [] ++ cond (shows_denials v s.process) (logged_text (drop b.logged f.log)) []) ++ changed_entries_text v b f)
    (unit_kept v s (was_done s (drop b.logged f.log)) f pc)

half_kept : (v : View) (k : Counted) (b : Looked) (f : Found) (pc : ℕ) → half_after v k b (touched_found f pc) ≡ half_after v k b f
half_kept v k b f pc = ap (λ (l : List ℕ). cond (shows_turn v b.began) (opening_text v k b ++ l ++ changes_text v b f) []) (done_kept v b f pc b.start)

-- what is found, with these registers and standings
abbrev found_with : State → List ℕ → List Standing → Found
found_with t general standings = record {
  time = t.time;
  owed = is_some t.owed;
  runner = first t.ready;
  log = log_of t;
  general = general;
  memory = t.memory;
  characters = length t.characters;
  queues = t.queues;
  standings = standings;
}

-- what is made of it is as before, where that is so of such registers
module _ {Y : Type 0} (g : Found → Y) (keeps : (f : Found) (pc : ℕ) → g (touched_found f pc) ≡ g f) where
  found_first : (p : ℕ) (ready : List ℕ) (t : State) → g (found_of p (touch_first t ready)) ≡ g (found_of p t)
  found_first p [] t = refl
  found_first p (q ∷ rest) t =
      ap (λ (ss : List Standing). g (found_with t (general_of (with_process t q (touched_process (process_of t q))) p) ss))
      (map_again (λ (x : Process). x.standing) touched_process (λ x. refl) t.processes (q - 1) no_process)
      ∙ read_again (λ (x : Process). g (found_with t x.registers.general (map (λ (y : Process). y.standing) t.processes))) touched_process
      (λ x. keeps (found_with t x.registers.general (map (λ (y : Process). y.standing) t.processes)) x.pc) t.processes (q - 1) (p - 1) no_process

  found_touched : (p : ℕ) (late : Bool) (t : State) → g (found_of p (touched late t)) ≡ g (found_of p t)
  found_touched p true t = found_first p t.ready t
  found_touched p false t = refl

pub half_touched : (v : View) (k : Counted) (b : Looked) (p : ℕ) (late : Bool) (t : State) → half_after v k b (found_of p (touched late t)) ≡ half_after v k b (found_of p t)
half_touched v k b p late t = found_touched (half_after v k b) (half_kept v k b) p late t

pub lines_touched : (v : View) (k : Counted) (a b : Bool) (m t : State) → half_text v k (touched a m) (touched b t) ≡ half_text v k m t
lines_touched v k a b m t =
    ap (λ (l : Looked). half_after v k l (found_of (process_of_start l.start) (touched b t))) (looked_touched v a m)
    ∙ half_touched v k (looked_of v m) (process_of_start (looked_of v m).start) b t

-- The counts.

done_counts_kept : (k : Counted) (b : Looked) (f : Found) (pc : ℕ) (o : Option Start) → done_counted k b (touched_found f pc) o ≡ done_counted k b f o
done_counts_kept k b f pc None = refl
done_counts_kept k b f pc (Some s) = ap (λ (answer : ℕ). unit_counted k s (drop b.logged f.log) answer) (other_kept f.general pc 2 refl)

counts_kept : (v : View) (k : Counted) (b : Looked) (f : Found) (pc : ℕ) → counted_after v k b (touched_found f pc) ≡ counted_after v k b f
counts_kept v k b f pc = ap (λ (d : Counted). cond (is_counted v b.began) (switch_counted d b.runner f.runner) k) (done_counts_kept k b f pc b.start)

pub counts_touched : (v : View) (k : Counted) (b : Looked) (p : ℕ) (late : Bool) (t : State) → counted_after v k b (found_of p (touched late t)) ≡ counted_after v k b (found_of p t)
counts_touched v k b p late t = found_touched (counted_after v k b) (counts_kept v k b) p late t

pub half_counts_touched : (v : View) (k : Counted) (a b : Bool) (m t : State) → half_counts v k (touched a m) (touched b t) ≡ half_counts v k m t
half_counts_touched v k a b m t =
    ap (λ (l : Looked). counted_after v k l (found_of (process_of_start l.start) (touched b t))) (looked_touched v a m)
    ∙ counts_touched v k (looked_of v m) (process_of_start (looked_of v m).start) b t

-- The end.

left_hidden : (names : RegisterNames) (n value : ℕ) → is_hidden n ≡ true → register_left_text names n value ≡ []
left_hidden names n value is = ap (λ (b : Bool). cond (b || (value == 0)) [] (codes "  " ++ register_as names n ++ codes "=" ++ hex8 value)) is

-- a register that is never shown may be changed
registers_set : (names : RegisterNames) (n : ℕ) (general : List ℕ) (i value : ℕ) → is_hidden (n + i) ≡ true → registers_text names n (set general i value) ≡ registers_text names n general
registers_set names n [] i value is = refl
registers_set names n (x ∷ xs) zero value is =
    let at : n + 0 ≡ n = omega arith in
    let hidden : is_hidden n ≡ true = sym (ap is_hidden at) ∙ is in
    ap (λ (l : List ℕ). l ++ registers_text names (n + 1) xs) (left_hidden names n value hidden ∙ sym (left_hidden names n x hidden))
registers_set names n (x ∷ xs) (suc i) value is =
    let on : n + suc i ≡ n + 1 + i = omega arith in
    ap (λ (l : List ℕ). register_left_text names n x ++ l) (registers_set names (n + 1) xs i value (sym (ap is_hidden on) ∙ is))

registers_kept : (names : RegisterNames) (general : List ℕ) (pc : ℕ) → registers_text names 0 (touched_general general pc) ≡ registers_text names 0 general
registers_kept names general pc = registers_set names 0 (set general 26 0) 27 pc refl ∙ registers_set names 0 general 26 0 refl

processes_kept : (names : RegisterNames) (lines : List (List ℕ)) (p : ℕ) (xs : List Process) (i : ℕ) (d : Process) → processes_text names lines p (set xs i (touched_process (get_or xs i d))) ≡ processes_text names lines p xs
processes_kept names lines p [] i d = refl
processes_kept names lines p (x ∷ xs) zero d =
    ap (λ (l : List ℕ). ((codes "process " ++ decimal p ++ codes " " ++ standing_text x.standing ++ codes " " ++ hex8 x.pc) ++ parked_text lines p x.standing ++ (l ++ codes "\n")) ++ processes_text names lines (p + 1) xs)
    (registers_kept names x.registers.general x.pc)
processes_kept names lines p (x ∷ xs) (suc i) d = ap (λ (l : List ℕ). process_text names lines p x.standing x.pc x.registers.general ++ l) (processes_kept names lines (p + 1) xs i d)

end_first : (v : View) (k : Counted) (ready : List ℕ) (m : State) → end_text v k (touch_first m ready) ≡ end_text v k m
end_first v k [] m = refl
end_first v k (q ∷ rest) m = ap (λ (l : List ℕ). summary_text v k m.time (lines_of (log_of m)) ++ l) (processes_kept v.names (lines_of (log_of m)) 1 m.processes (q - 1) no_process)

pub end_touched : (v : View) (k : Counted) (b : Bool) (m : State) → end_text v k (touched b m) ≡ end_text v k m
end_touched v k true m = end_first v k m.ready m
end_touched v k false m = refl
