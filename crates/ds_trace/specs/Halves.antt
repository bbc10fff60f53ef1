-- The lines of a half turn.
use Rattle.std.specs.Prelude.{ℕ, ◌+◌, ◌&&◌, if◌then◌else◌, List, [], ◌++◌, length, drop, flat_map, map, is_some, Option, Some, None}
use Rattle.ds_log.specs.Text as log
use Rattle.ds_policy.specs.Pages.{Table}
use Rattle.ds_pagemap.specs.Machine.{State, first}
use Rattle.ds_refinement.specs.Held.{last_boundary}
use Rattle.ds_words.specs.declared.view.View.{View}
use Rattle.ds_words.specs.Views.{shows_entries, shows_turn}
use Rattle.ds_trace.specs.declared.start.Start.{Start}
use Rattle.ds_trace.specs.Starts.{general_of, next_start}
use Rattle.ds_trace.specs.Looks.{Looked, Found}
use Rattle.ds_trace.specs.Lines.{unit_told}
use Rattle.ds_trace.specs.Boundaries.{due_by, boundary_text}
use Rattle.ds_trace.specs.Changes.{changes_text}
use Rattle.ds_trace.specs.Entries.{tables_text}
use Rattle.ds_trace.specs.Counts.{Counted, counted_after, is_unbegun}

-- the text of a state's log
abbrev pub log_of : State → List ℕ
log_of m = flat_map log.line_text m.log

-- the time of the next boundary, where no unit comes before it
abbrev pub next_boundary : State → ℕ
next_boundary m = if is_some m.owed then m.time else m.time + 1

-- the permission table, where a view wants its entries
abbrev pub told_table : View → Table → Table
told_table v table = if shows_entries v then table else []

-- what of a state the lines of its next half turn tell
abbrev pub looked_of : View → State → Looked
looked_of v m = record {
  owed = is_some m.owed;
  began = last_boundary m;
  start = next_start m;
  logged = length (log_of m);
  runner = first m.ready;
  due = due_by (next_boundary m) m.commands;
  characters = length m.characters;
  queued = map length m.queues;
  standings = map (λ q. q.standing) m.processes;
  table = told_table v m.memory.table;
}

-- what is found in the state after it, with the registers of this process
abbrev pub found_of : ℕ → State → Found
found_of p t = record {
  time = t.time;
  owed = is_some t.owed;
  runner = first t.ready;
  log = log_of t;
  general = general_of t p;
  memory = t.memory;
  characters = length t.characters;
  queues = t.queues;
  standings = map (λ q. q.standing) t.processes;
}

-- the process whose unit is next, if one is
abbrev pub process_of_start : Option Start → ℕ
process_of_start None = 0
process_of_start (Some s) = s.process

-- the lines of the entries that were changed
abbrev pub changed_entries_text : View → Looked → Found → List ℕ
changed_entries_text v b f = if shows_entries v then tables_text v f.time b.table f.memory.table else []

-- what was done: a unit, or a boundary, which leaves none owed; a tick in which nobody runs changes nothing that is told
abbrev pub done_text : View → Looked → Found → Option Start → List ℕ
done_text v b f None = if f.owed then [] else boundary_text v b f ++ changed_entries_text v b f
done_text v b f (Some s) = unit_told v s (drop b.logged f.log) f ++ changed_entries_text v b f

-- before the first half turn that is counted, the lines of all entries: what has changed from a table that has none
abbrev pub opening_text : View → Counted → Looked → List ℕ
opening_text v k b = if shows_entries v && is_unbegun k then tables_text v b.began [] b.table else []

-- the lines of a half turn, by the counts before it, what was before it and what is found after it
abbrev pub half_after : View → Counted → Looked → Found → List ℕ
half_after v k b f = if shows_turn v b.began then opening_text v k b ++ done_text v b f b.start ++ changes_text v b f else []

-- the lines of the half turn that leads from a state, with these counts, to another
abbrev pub half_text : View → Counted → State → State → List ℕ
half_text v k m t = half_after v k (looked_of v m) (found_of (process_of_start (next_start m)) t)

-- the counts after it
abbrev pub half_counts : View → Counted → State → State → Counted
half_counts v k m t = counted_after v k (looked_of v m) (found_of (process_of_start (next_start m)) t)
