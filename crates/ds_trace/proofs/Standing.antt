-- What a trace shows of a station, it shows of each machine state that the station stands for.
use Rattle.std.proofs.Common.{◌≡◌, ℕ, suc, ◌+◌, ◌-◌, ◌<◌, ◌^◌, Bool, true, false, cond, List, [], ◌∷◌, ◌++◌, length, Option, Some, None, refl, sym, ap, ◌∙◌, arith, get_or}
use Rattle.std.specs.Prelude.{◌==◌, is_some, map}
use Rattle.std.proofs.lemmas.Bool.Decides.{nat_tests}
use Rattle.ds_word.specs.Word.{word, bits}
use Rattle.ds_isa.specs.Registers.{Registers}
use Rattle.ds_policy.specs.Grants.{PageState}
use Rattle.ds_policy.specs.Pages.{Table}
use Rattle.ds_cp0.specs.System.{is_user}
use Rattle.ds_core.specs.Core.{CoreState}
use Rattle.ds_listing.specs.declared.names.RegisterNames.{RegisterNames}
use Rattle.ds_procs.specs.declared.process.Standing.{Standing}
use Rattle.ds_pagemap.specs.Machine.{State, Process, no_process, process_of, first}
use Rattle.ds_pagemap.specs.Boundary.{is_first}
use Rattle.ds_pagemap_laws.specs.Settled.{settled_process}
use Rattle.ds_refinement.specs.Held.{Held, Kept, Own, bare, last_boundary}
use Rattle.ds_refinement.specs.Stands.{Stands, CountedBy, RunningBy, OnProcessor}
use Rattle.ds_refinement.proofs.Boundaries.{beside}
use Rattle.ds_refinement.proofs.Tallied.{unbegun_of}
use Rattle.ds_station.specs.Reads.{address_held, general_held, memory_held, unit_on}
use Rattle.ds_station.proofs.Headlines.{time_stands, owed_stands}
use Rattle.ds_station.proofs.Showing.{first_is, seated_by}
use Rattle.ds_station.proofs.Standings.{as_many, running_here, standing_stands}
use Rattle.ds_words.specs.declared.view.View.{View}
use Rattle.ds_words.specs.Views.{shows_turn}
use Rattle.ds_trace.specs.declared.start.Start.{Start}
use Rattle.ds_trace.specs.Starts.{start_at, start_of, general_of}
use Rattle.ds_trace.specs.Looks.{Looked, Found}
use Rattle.ds_trace.specs.Boundaries.{due_by}
use Rattle.ds_trace.specs.Changes.{changes_text}
use Rattle.ds_trace.specs.Counts.{Counted, is_counted, done_counted, switch_counted, counted_after}
use Rattle.ds_trace.specs.Logs.{lines_of}
use Rattle.ds_trace.specs.Summaries.{summary_text}
use Rattle.ds_trace.specs.Halves.{log_of, told_table, looked_of, found_of, next_boundary, process_of_start, done_text, opening_text, half_after}
use Rattle.ds_trace.specs.Ends.{process_text, processes_text, end_text}
use Rattle.ds_trace.specs.Inner.Shows.{start_held, looked_held, found_held, half_held, counts_held, processes_held, end_held}

-- Processes in their seats.

-- the address of a branch, by that of its slot
four_back : (x : ℕ) → x < 2 ^ 32 → word (word (x + 4) + 0xFFFFFFFC) ≡ x
four_back x small = omega (arith, small)

equal_itself : (p : ℕ) → (p == p) ≡ true
equal_itself p = grind (arith, nat_tests)

-- where nothing of a unit is counted, the processor is in user mode
user_by : (queue : List ℕ) (c : CoreState) (own : Own) (k : Kept) (m : State) → CountedBy queue c own k m → RunningBy queue c k m → own.spent ≡ 0 → is_user c.system ≡ true
user_by [] c own k m counted runs none = ap (λ (w : ℕ). bits w 1 1 == 1) runs
user_by (p ∷ rest) c own k m counted runs none = (counted.1 none).mode

-- how each of two lists stands, one by one
standings_alike : (xs ys : List Process) → length xs ≡ length ys → ((i : ℕ) → (get_or xs i no_process).standing ≡ (get_or ys i no_process).standing) → map (λ (q : Process). q.standing) xs ≡ map (λ (q : Process). q.standing) ys
standings_alike [] [] long same = refl
standings_alike [] (y ∷ ys) long same = absurd (cc)
standings_alike (x ∷ xs) [] long same = absurd (cc)
standings_alike (x ∷ xs) (y ∷ ys) long same =
    let shorter : length xs ≡ length ys = omega (arith, long) in
    ap (λ (s : Standing). s ∷ map (λ (q : Process). q.standing) xs) (same 0)
    ∙ ap (λ (ss : List Standing). y.standing ∷ ss) (standings_alike xs ys shorter (λ i. same (suc i)))

-- the lines of processes that a station shows as they are
processes_stand : (names : RegisterNames) (lines : List (List ℕ)) (h : Held) (xs : List Process) (p : ℕ)
    → ((j i : ℕ) → j ≡ p + i → ((process_of h.kept.state j).standing ≡ (get_or xs i no_process).standing) × (address_held h j ≡ (get_or xs i no_process).pc) × (general_held h j ≡ (get_or xs i no_process).registers.general))
    → processes_held names lines h p (length xs) ≡ processes_text names lines p xs
processes_stand names lines h [] p same = refl
processes_stand names lines h (x ∷ xs) p same =
    let here = same p 0 (omega arith) in
    ap (λ (s : Standing). process_text names lines p s (address_held h p) (general_held h p) ++ processes_held names lines h (p + 1) (length xs)) here.0
    ∙ (ap (λ (pc : ℕ). process_text names lines p x.standing pc (general_held h p) ++ processes_held names lines h (p + 1) (length xs)) here.1
    ∙ (ap (λ (general : List ℕ). process_text names lines p x.standing x.pc general ++ processes_held names lines h (p + 1) (length xs)) here.2
    ∙ ap (λ (l : List ℕ). process_text names lines p x.standing x.pc x.registers.general ++ l) (processes_stand names lines h xs (p + 1) (λ j i is. same j (suc i) (omega (arith, is))))))

-- what is looked at of a state, with this unit, log, standings and table
abbrev looked_by : View → State → Option Start → ℕ → List Standing → Table → Looked
looked_by v s start logged standings table = record {
  owed = is_some s.owed;
  began = last_boundary s;
  start = cond (is_some s.owed) None start;
  logged = logged;
  runner = first s.ready;
  due = due_by (next_boundary s) s.commands;
  characters = length s.characters;
  queued = map length s.queues;
  standings = standings;
  table = told_table v table;
}

-- what is found of it
abbrev found_by : State → List ℕ → List ℕ → PageState → List Standing → Found
found_by s log general memory standings = record {
  time = s.time;
  owed = is_some s.owed;
  runner = first s.ready;
  log = log;
  general = general;
  memory = memory;
  characters = length s.characters;
  queues = s.queues;
  standings = standings;
}

-- the lines of a half turn, by its unit
abbrev half_by : View → Counted → Looked → Found → Option Start → List ℕ
half_by v c b f o = cond (shows_turn v b.began) (opening_text v c b ++ done_text v b f o ++ changes_text v b f) []

-- the counts after it, by its unit
abbrev counts_by : View → Counted → Looked → Found → Option Start → Counted
counts_by v c b f o = cond (is_counted v b.began) (switch_counted (done_counted c b f o) b.runner f.runner) c

module _ (h : Held) (m : State) (k : Stands h m) where
  -- all but the processes, the pages and the log
  state_stands : record (bare m) { processes = [] } ≡ record h.kept.state { processes = [] }
  state_stands = beside h.kept.state.ready m h.kept.state k.agrees.kept.state

  ready_stands : m.ready ≡ h.kept.state.ready
  ready_stands = k.agrees.kept.ready

  memory_stands : m.memory ≡ memory_held h
  memory_stands = k.agrees.kept.pages

  log_stands : log_of m ≡ h.kept.log
  log_stands = k.agrees.kept.log

  user_stands : h.own.spent ≡ 0 → is_user h.core.system ≡ true
  user_stands none = user_by h.kept.state.ready h.core h.own h.kept m k.counted k.agrees.running none

  -- in its seat
  seated : (p : ℕ) → 0 < p → is_first (first h.kept.state.ready) p ≡ false → settled_process (process_of m p) ≡ process_of h.kept.state p
  seated p some other = seated_by h.kept.state.ready h.core h.kept m p k.agrees.running k.agrees.kept.state some other

  -- in user mode the processor tells the address of the unit
  address_on : (user slot : Bool) (c : CoreState) (p : ℕ) → user ≡ true → OnProcessor user slot c h.kept p m → cond slot (word (c.pc + 0xFFFFFFFC)) c.pc ≡ (process_of m p).pc
  address_on false slot c p is on = absurd (cc)
  address_on true true c p is on = ap (λ (pc : ℕ). word (pc + 0xFFFFFFFC)) on.pc ∙ four_back (process_of m p).pc on.within
  address_on true false c p is on = on.pc

  address_by : (b : Bool) (p : ℕ) → is_first (first h.kept.state.ready) p ≡ b → 0 < p → is_user h.core.system ≡ true → cond b (unit_on h.core) (process_of h.kept.state p).pc ≡ (process_of m p).pc
  address_by true p is some user = address_on (is_user h.core.system) h.core.slot h.core p user (running_here h m k p is).on
  address_by false p is some user = ap (λ (q : Process). q.pc) (sym (seated p some is))

  address_stands : (p : ℕ) → 0 < p → h.own.spent ≡ 0 → address_held h p ≡ (process_of m p).pc
  address_stands p some none = address_by (is_first (first h.kept.state.ready) p) p refl some (user_stands none)

  -- where nothing of a unit is counted, the station shows each process's registers
  general_by : (b : Bool) (p : ℕ) → is_first (first h.kept.state.ready) p ≡ b → 0 < p → h.own.spent ≡ 0 → cond b h.core.registers.general (process_of h.kept.state p).registers.general ≡ general_of m p
  general_by true p is some none = let ready = first_is h.kept.state.ready p is in ap (λ (r : Registers). r.general) (unbegun_of h m p ready.0 k ready.1 none).registers
  general_by false p is some none = ap (λ (q : Process). q.registers.general) (sym (seated p some is))

  pub general_stands : (p : ℕ) → 0 < p → h.own.spent ≡ 0 → general_held h p ≡ general_of m p
  general_stands p some none = general_by (is_first (first h.kept.state.ready) p) p refl some none

  standings_stand : map (λ (q : Process). q.standing) h.kept.state.processes ≡ map (λ (q : Process). q.standing) m.processes
  standings_stand = standings_alike h.kept.state.processes m.processes (sym (as_many h.kept.state.ready m h.kept.state k.agrees.kept.state)) (λ i.
      let back : i + 1 - 1 ≡ i = omega arith in
      let some : 0 < i + 1 = omega arith in
      sym (ap (λ (j : ℕ). (get_or h.kept.state.processes j no_process).standing) back)
      ∙ (standing_stands h m k (i + 1) some ∙ ap (λ (j : ℕ). (get_or m.processes j no_process).standing) back))

  -- Before a half turn.

  -- who runs has a number
  pub some_first : (p : ℕ) → first h.kept.state.ready ≡ Some p → 0 < p
  some_first p is = (running_here h m k p (ap (λ (o : Option ℕ). is_first o p) is ∙ equal_itself p)).seat.0

  start_by : (o : Option ℕ) → first h.kept.state.ready ≡ o → h.own.spent ≡ 0 → start_held h o ≡ start_of m o
  start_by None is none = refl
  start_by (Some p) is none =
      ap (λ (s : PageState). Some (start_at s (general_held h p) h.kept.state.time p (address_held h p))) (sym memory_stands)
      ∙ (ap (λ (general : List ℕ). Some (start_at m.memory general h.kept.state.time p (address_held h p))) (general_stands p (some_first p is) none)
      ∙ (ap (λ (t : ℕ). Some (start_at m.memory (general_of m p) t p (address_held h p))) (sym (time_stands h m k))
      ∙ ap (λ (pc : ℕ). Some (start_at m.memory (general_of m p) m.time p pc)) (address_stands p (some_first p is) none)))

  pub looked_stands : (v : View) (owed : Bool) → owed ≡ is_some m.owed → h.own.spent ≡ 0 → looked_held v owed h ≡ looked_of v m
  looked_stands v owed is none =
      let s : Option Start = start_held h (first h.kept.state.ready) in
      let standings : List Standing = map (λ (q : Process). q.standing) h.kept.state.processes in
      let table : Table = h.kept.grants.table in
      ap (λ (b : Bool). looked_held v b h) (is ∙ ap is_some (owed_stands h m k))
      ∙ (ap (λ (x : State). looked_by v x s (length h.kept.log) standings table) (sym state_stands)
      ∙ (ap (λ (o : Option Start). looked_by v m o (length h.kept.log) standings table)
      (start_by (first h.kept.state.ready) refl none ∙ ap (λ (ready : List ℕ). start_of m (first ready)) (sym ready_stands))
      ∙ (ap (λ (log : List ℕ). looked_by v m (start_of m (first m.ready)) (length log) standings table) (sym log_stands)
      ∙ (ap (λ (ss : List Standing). looked_by v m (start_of m (first m.ready)) (length (log_of m)) ss table) standings_stand
      ∙ ap (λ (s : PageState). looked_by v m (start_of m (first m.ready)) (length (log_of m)) (map (λ (q : Process). q.standing) m.processes) s.table) (sym memory_stands)))))

  -- After it.

  -- with the same registers
  found_alike : (general : List ℕ) → record (found_held 0 h) { general = general } ≡ record (found_of 0 m) { general = general }
  found_alike general =
      let standings : List Standing = map (λ (q : Process). q.standing) h.kept.state.processes in
      ap (λ (x : State). found_by x h.kept.log general (memory_held h) standings) (sym state_stands)
      ∙ (ap (λ (log : List ℕ). found_by m log general (memory_held h) standings) (sym log_stands)
      ∙ (ap (λ (s : PageState). found_by m (log_of m) general s standings) (sym memory_stands)
      ∙ ap (λ (ss : List Standing). found_by m (log_of m) general m.memory ss) standings_stand))

  -- a boundary tells of no registers
  half_stands_by : (v : View) (c : Counted) (b : Looked) (o : Option Start) → ((s : Start) → o ≡ Some s → general_held h s.process ≡ general_of m s.process)
      → half_by v c b (found_held (process_of_start o) h) o ≡ half_by v c b (found_of (process_of_start o) m) o
  half_stands_by v c b None same = ap (λ (f : Found). half_by v c b f None) (found_alike [])
  half_stands_by v c b (Some s) same =
      ap (λ (f : Found). half_by v c b f (Some s)) (found_alike (general_held h s.process))
      ∙ ap (λ (general : List ℕ). half_by v c b (record (found_of 0 m) { general = general }) (Some s)) (same s refl)

  pub half_stands : (v : View) (c : Counted) (b : Looked) → ((s : Start) → b.start ≡ Some s → general_held h s.process ≡ general_of m s.process) → half_held v c b h ≡ half_after v c b (found_of (process_of_start b.start) m)
  half_stands v c b same = half_stands_by v c b b.start same

  -- and so are the counts
  counts_stand_by : (v : View) (c : Counted) (b : Looked) (o : Option Start) → ((s : Start) → o ≡ Some s → general_held h s.process ≡ general_of m s.process)
      → counts_by v c b (found_held (process_of_start o) h) o ≡ counts_by v c b (found_of (process_of_start o) m) o
  counts_stand_by v c b None same = ap (λ (f : Found). counts_by v c b f None) (found_alike [])
  counts_stand_by v c b (Some s) same =
      ap (λ (f : Found). counts_by v c b f (Some s)) (found_alike (general_held h s.process))
      ∙ ap (λ (general : List ℕ). counts_by v c b (record (found_of 0 m) { general = general }) (Some s)) (same s refl)

  pub counts_stand : (v : View) (c : Counted) (b : Looked) → ((s : Start) → b.start ≡ Some s → general_held h s.process ≡ general_of m s.process) → counts_held v c b h ≡ counted_after v c b (found_of (process_of_start b.start) m)
  counts_stand v c b same = counts_stand_by v c b b.start same

  -- The end.

  -- the lines of all processes
  all_stand : (names : RegisterNames) (lines : List (List ℕ)) → h.own.spent ≡ 0 → processes_held names lines h 1 (length h.kept.state.processes) ≡ processes_text names lines 1 m.processes
  all_stand names lines none =
      ap (λ (n : ℕ). processes_held names lines h 1 n) (sym (as_many h.kept.state.ready m h.kept.state k.agrees.kept.state))
      ∙ processes_stand names lines h m.processes 1 (λ j i is.
      let back : j - 1 ≡ i = omega (arith, is) in
      let some : 0 < j = omega (arith, is) in
      let at : process_of m j ≡ get_or m.processes i no_process = ap (λ (x : ℕ). get_or m.processes x no_process) back in
      (standing_stands h m k j some ∙ ap (λ (q : Process). q.standing) at, address_stands j some none ∙ ap (λ (q : Process). q.pc) at, general_stands j some none ∙ ap (λ (q : Process). q.registers.general) at))

  pub end_stands : (v : View) (c : Counted) → h.own.spent ≡ 0 → end_held v c h ≡ end_text v c m
  end_stands v c none =
      ap (λ (t : ℕ). summary_text v c t (lines_of h.kept.log) ++ processes_held v.names (lines_of h.kept.log) h 1 (length h.kept.state.processes)) (sym (time_stands h m k))
      ∙ (ap (λ (log : List ℕ). summary_text v c m.time (lines_of log) ++ processes_held v.names (lines_of log) h 1 (length h.kept.state.processes)) (sym log_stands)
      ∙ ap (λ (l : List ℕ). summary_text v c m.time (lines_of (log_of m)) ++ l) (all_stand v.names (lines_of (log_of m)) none))
