-- Services leave what is kept orderly.
use Rattle.std.proofs.Common.{◌≡◌, ◌∙◌, ℕ, ◌+◌, ◌-◌, ◌<◌, ◌≤◌, false, List, [], ◌∷◌, ◌++◌, length, length-set, refl, sym, ap, subst, Option, Result, Ok, Err}
use Rattle.std.specs.Prelude.{slice_set, Some}
use Rattle.std.proofs.lemmas.List.{map-set}
use Rattle.std.proofs.Math.Seq.{map-set_same}
use Rattle.ds_word.specs.Word.{word}
use Rattle.ds_isa.specs.Registers.{Registers}
use Rattle.ds_procs.specs.declared.process.Standing.TheVariants.{Ready, Waiting, Parked}
use Rattle.ds_procs.specs.declared.call.Call.{Call}
use Rattle.ds_procs.specs.declared.call.Call.TheVariants as call
use Rattle.ds_procs.specs.Calls.{call_of}
use Rattle.ds_policy.specs.declared.command.TimedCommand.{TimedCommand}
use Rattle.ds_policy.specs.declared.command.Command.{Command}
use Rattle.ds_policy.specs.InputFacts.{IsGoodCommand, AreGoodCommands}
use Rattle.std.proofs.lemmas.List.Elements.{All-tail}
use Rattle.ds_grants.specs.State.{GrantsState, page_state}
use Rattle.ds_tables.specs.Places.{Places}
use Rattle.ds_policy.specs.Pages.{Table}
use Rattle.ds_policy.specs.Grants.{PageState, give, take, drop_own}
use Rattle.ds_policy.specs.Ends.{NoneEndsBefore}
use Rattle.ds_log.specs.declared.line.Line.{Line}
use Rattle.ds_pagemap.specs.declared.turn.Turn.{Turn}
use Rattle.ds_pagemap.specs.Machine.{State, Process, no_process, process_of, with_process, lives, has_ended, made_unready}
use Rattle.ds_pagemap.specs.Calls.{answered, queue_of, after_get, after_wait, or_number, or_denied, after_command, served}
use Rattle.ds_pagemap.specs.Unit.{Stop, at_pc, settle, parked, after_call}
use Rattle.ds_pagemap.proofs.Processes.{process_of-with_process}
use Rattle.ds_pagemap_laws.specs.Lawful.{AreRegisters, IsLawful}
use Rattle.ds_pagemap_laws.proofs.Formed.{put_formed, formed_with}
use Rattle.ds_pagemap_laws.proofs.Asleep.{put_asleep}
use Rattle.ds_pagemap_laws.proofs.LawfulUnits.{parked_lawful, after_call_lawful}
use Rattle.ds_pagemap_laws.proofs.LawfulCalls.{command_lawful}
use Rattle.ds_pagemap_laws.proofs.Ends.{no_call_makes_an_end, no_command_makes_an_end}
use Rattle.ds_refinement.specs.Held.{Kept}
use Rattle.ds_refinement.specs.Inner.Held.{whole}
use Rattle.ds_refinement.specs.Units.{ends_in_stop, ends_in_call}
use Rattle.ds_refinement.specs.Inner.Services.{Serves}
use Rattle.ds_monitor.specs.Inner.Kept.{kept_after}
use Rattle.ds_monitor.specs.Inner.Ended.{IsAlive, marks_of, ended_after}
use Rattle.ds_monitor.specs.Inner.Orderly.{IsOrderly}

-- Lawful states.

-- of what is kept, neither pages nor log make it lawful
pub lawful_anywhere : (k : Kept) (x y : List ℕ) (l r : List Line) → IsLawful (whole k x l) → IsLawful (whole k y r)
lawful_anywhere k x y l r it = record {
  formed = record {
    ready = it.formed.ready;
    processes = it.formed.processes;
    sizes = record { processes = it.formed.sizes.processes; queues = it.formed.sizes.queues; consoles = it.formed.sizes.consoles; table = it.formed.sizes.table };
  };
  asleep = it.asleep;
}

-- nor do the time and what is owed
pub lawful_whenever : (m : State) (time : ℕ) (owed : Option Turn) → IsLawful m → IsLawful (record m { time = time; owed = owed })
lawful_whenever m time owed it = record {
  formed = record {
    ready = it.formed.ready;
    processes = it.formed.processes;
    sizes = record { processes = it.formed.sizes.processes; queues = it.formed.sizes.queues; consoles = it.formed.sizes.consoles; table = it.formed.sizes.table };
  };
  asleep = it.asleep;
}

-- a service that keeps states lawful keeps lawful what is kept
lawful_after : (f : State → State) (a b : Kept) (x y : List ℕ) → Serves f a x b y → (IsLawful (whole a x []) → IsLawful (f (whole a x []))) → IsLawful (whole a [] []) → IsLawful (whole b [] [])
lawful_after f a b x y s keeps it = lawful_anywhere b y [] ([] ++ s.lines) [] (subst IsLawful (s.state []) (keeps (lawful_anywhere a [] x [] [] it)))

-- Who has ended.

pub marks_same : (m : State) (p : ℕ) (q : Process) → has_ended q.standing ≡ has_ended (process_of m p).standing → marks_of (with_process m p q) ≡ marks_of m
marks_same m p q same = map-set_same (λ (x : Process). has_ended x.standing) m.processes (p - 1) q no_process same

pub marks_put : (m : State) (p : ℕ) (q : Process) → IsAlive m p → has_ended q.standing ≡ false → marks_of (with_process m p q) ≡ marks_of m
marks_put m p q alive same = marks_same m p q (same ∙ sym alive)

alive_put : (m : State) (p : ℕ) (q : Process) → 0 < p → p ≤ length m.processes → has_ended q.standing ≡ false → IsAlive (with_process m p q) p
alive_put m p q above within same = ap (λ (x : Process). has_ended x.standing) (process_of-with_process m p q above within) ∙ same

marks_answered : (m : State) (p v : ℕ) → marks_of (answered m p v) ≡ marks_of m
marks_answered m p v = marks_same m p _ refl

alive_answered : (m : State) (p v : ℕ) → 0 < p → p ≤ length m.processes → IsAlive m p → IsAlive (answered m p v) p
alive_answered m p v above within alive = alive_put m p _ above within alive

marks_got : (m : State) (p : ℕ) (bytes : List ℕ) → marks_of (after_get m p bytes) ≡ marks_of m
marks_got m p [] = marks_answered m p _
marks_got m p (byte ∷ rest) = marks_answered (record m { queues = slice_set m.queues (process_of m p).line rest }) p byte

marks_waited : (m : State) (p : ℕ) (bytes : List ℕ) → IsAlive m p → marks_of (after_wait m p bytes) ≡ marks_of m
marks_waited m p [] alive = marks_put m p (record (process_of m p) { standing = Waiting }) alive refl
marks_waited m p (byte ∷ rest) alive = refl

marks_numbered : (m : State) (p : ℕ) (r : Result PageState ℕ) → marks_of (or_number m p r) ≡ marks_of m
marks_numbered m p (Ok s) = marks_answered m p 0
marks_numbered m p (Err n) = marks_answered m p n

marks_denied : (m : State) (p pc a : ℕ) (r : Result PageState ℕ) → marks_of (or_denied m p pc a r) ≡ marks_of m
marks_denied m p pc a (Ok s) = marks_answered m p 0
marks_denied m p pc a (Err n) = marks_answered m p n

marks_served : (m : State) (p pc : ℕ) (c : Call) → 0 < p → p ≤ length m.processes → IsAlive m p → marks_of (served m p pc c) ≡ ended_after c p (marks_of m)
marks_served m p pc call.Exit above within alive = map-set (λ (x : Process). has_ended x.standing) m.processes (p - 1) _
marks_served m p pc (call.Put byte) above within alive = marks_answered m p 0
marks_served m p pc call.Get above within alive = marks_got m p (queue_of m p)
marks_served m p pc call.Yield above within alive =
    marks_put (answered m p 0) p (record (process_of (answered m p 0) p) { standing = Ready }) (alive_answered m p 0 above within alive) refl ∙ marks_answered m p 0
marks_served m p pc call.Time above within alive = marks_answered m p m.time
marks_served m p pc call.Own above within alive = marks_answered m p p
marks_served m p pc (call.Give a receiver to mode) above within alive = marks_denied m p pc a (give (lives m) m.memory p a receiver to mode)
marks_served m p pc (call.Take q a) above within alive = marks_numbered m p (take (lives m) m.memory p q a)
marks_served m p pc (call.Drop a) above within alive = marks_numbered m p (drop_own m.memory p a)
marks_served m p pc call.Wait above within alive = marks_waited (answered m p 0) p (queue_of m p) (alive_answered m p 0 above within alive) ∙ marks_answered m p 0
marks_served m p pc call.Unknown above within alive = marks_answered m p _

-- the call that ends its unit
abbrev pub asked_at : ℕ → ℕ → State → Call
asked_at p pc m = call_of (process_of (at_pc (settle m p) p (word (pc + 4))) p).registers.general

marks_called : (p pc : ℕ) (m : State) → 0 < p → p ≤ length m.processes → IsAlive m p → marks_of (ends_in_call p pc m) ≡ ended_after (asked_at p pc m) p (marks_of m)
marks_called p pc m above within alive =
    let rested = settle m p in
    let there : p ≤ length rested.processes = still m p _ within in
    let resting : IsAlive rested p = alive_put m p _ above within alive in
    let afterwards = at_pc rested p (word (pc + 4)) in
    marks_served afterwards p pc (asked_at p pc m) above (still rested p _ there) (alive_put rested p _ above there resting)
    ∙ ap (ended_after (asked_at p pc m) p) (marks_same rested p _ refl ∙ marks_same m p _ refl)
  where
    still : (m : State) (p : ℕ) (q : Process) → p ≤ length m.processes → p ≤ length (with_process m p q).processes
    still m p q h = subst (λ (n : ℕ). p ≤ n) (sym (length-set m.processes (p - 1) q)) h

marks_stopped : (p unit pc : ℕ) (stop : Stop) (m : State) → 0 < p → p ≤ length m.processes → IsAlive m p → marks_of (ends_in_stop p unit pc stop m) ≡ marks_of m
marks_stopped p unit pc stop m above within alive =
    let out = made_unready m p Parked in
    marks_same (settle out p) p _ refl ∙ (marks_same out p _ refl ∙ marks_put m p (record (process_of m p) { standing = Parked }) alive refl)

-- What is kept after the ends of units.

-- commands are good while as many pages are named
pub good_as : (n k : ℕ) (cs ds : List TimedCommand) → n ≡ k → cs ≡ ds → AreGoodCommands k ds → AreGoodCommands n cs
good_as n k cs ds named commands good = subst (λ (x : ℕ). AreGoodCommands x cs) (sym named) (subst (λ (xs : List TimedCommand). AreGoodCommands k xs) (sym commands) good)

-- a service that makes no end leaves the time before which there is none
ends_after : (f : State → State) (a b : Kept) (x y : List ℕ) → Serves f a x b y → b.ends ≡ a.ends → (NoneEndsBefore a.ends a.grants.table → NoneEndsBefore a.ends (f (whole a x [])).memory.table)
    → NoneEndsBefore a.ends a.grants.table → NoneEndsBefore b.ends b.grants.table
ends_after f a b x y s ends keeps it =
    subst (λ (n : ℕ). NoneEndsBefore n b.grants.table) (sym ends) (subst (λ (m : State). NoneEndsBefore a.ends m.memory.table) (s.state []) (keeps it))

-- a call leaves it orderly
pub call_orderly : (p pc : ℕ) (a b : Kept) (x y : List ℕ) → 0 < p → p ≤ length a.state.processes → IsAlive a.state p → Serves (ends_in_call p pc) a x b y
    → b.grants.ended ≡ ended_after (asked_at p pc (whole a x [])) p a.grants.ended → b.grants.named ≡ a.grants.named → b.state.commands ≡ a.state.commands → b.ends ≡ a.ends → IsOrderly a → IsOrderly b
call_orderly p pc a b x y above within alive s ended named commands ends it =
    let m = whole a x [] in
    record {
      lawful = lawful_after (ends_in_call p pc) a b x y s (λ l. lawful_whenever (after_call m p pc) (after_call m p pc).time (Some (record { began = m.time; runner = Some p })) (after_call_lawful m p pc above within l)) it.lawful;
      ended = sym (ap (λ (n : State). marks_of n) (s.state [])) ∙ (marks_called p pc m above within alive ∙ (ap (ended_after (asked_at p pc m) p) it.ended ∙ sym ended));
      commands = good_as b.grants.named a.grants.named b.state.commands a.state.commands named commands it.commands;
      ends = ends_after (ends_in_call p pc) a b x y s ends (no_call_makes_an_end a.ends (at_pc (settle m p) p (word (pc + 4))) p pc (asked_at p pc m)) it.ends;
    }

-- a stop leaves it orderly
pub stop_orderly : (p unit pc : ℕ) (stop : Stop) (a b : Kept) (x y : List ℕ) → 0 < p → p ≤ length a.state.processes → IsAlive a.state p → Serves (ends_in_stop p unit pc stop) a x b y
    → b.grants.ended ≡ a.grants.ended → b.grants.named ≡ a.grants.named → b.state.commands ≡ a.state.commands → b.ends ≡ a.ends → IsOrderly a → IsOrderly b
stop_orderly p unit pc stop a b x y above within alive s ended named commands ends it =
    let m = whole a x [] in
    record {
      lawful = lawful_after (ends_in_stop p unit pc stop) a b x y s (λ l. lawful_whenever (parked m p unit pc stop) (parked m p unit pc stop).time (Some (record { began = m.time; runner = Some p })) (parked_lawful m p unit pc stop above l)) it.lawful;
      ended = sym (ap (λ (n : State). marks_of n) (s.state [])) ∙ (marks_stopped p unit pc stop m above within alive ∙ (it.ended ∙ sym ended));
      commands = good_as b.grants.named a.grants.named b.state.commands a.state.commands named commands it.commands;
      ends = ends_after (ends_in_stop p unit pc stop) a b x y s ends (λ before. before) it.ends;
    }

-- a command leaves it orderly
pub command_orderly : (n : ℕ) (c : Command) (a b : Kept) (x y : List ℕ) → Serves (λ (m : State). after_command m n c) a x b y
    → marks_of b.state ≡ b.grants.ended → b.grants.named ≡ a.grants.named → b.state.commands ≡ a.state.commands → b.ends ≡ a.ends → IsOrderly a → IsOrderly b
command_orderly n c a b x y s ended named commands ends it = record {
  lawful = lawful_after (λ (m : State). after_command m n c) a b x y s (λ l. command_lawful (whole a x []) n c l) it.lawful;
  ended = ended;
  commands = good_as b.grants.named a.grants.named b.state.commands a.state.commands named commands it.commands;
  ends = ends_after (λ (m : State). after_command m n c) a b x y s ends (no_command_makes_an_end a.ends (whole a x []) n c) it.ends;
}

-- and so does one that is taken out of those to come
pub taken_orderly : (k : Kept) (c : TimedCommand) (rest : List TimedCommand) → k.state.commands ≡ c ∷ rest → IsOrderly k → IsOrderly (record k { state = record k.state { commands = rest } })
taken_orderly k c rest is it = record {
  lawful = record {
    formed = formed_with (whole k [] []) (page_state k.grants []) k.state.queues k.state.consoles [] k.state.time rest k.state.characters k.state.owed refl refl refl it.lawful.formed;
    asleep = it.lawful.asleep;
  };
  ended = it.ended;
  commands = All-tail (λ (x : TimedCommand). IsGoodCommand k.grants.named x.command) c rest (subst (λ (cs : List TimedCommand). AreGoodCommands k.grants.named cs) is it.commands);
  ends = it.ends;
}

-- What is kept where the processor's registers go to a seat, or a turn ends.

-- a process in its seat, with good registers
pub seat_orderly : (k : Kept) (p pc : ℕ) (r : Registers) → AreRegisters r → IsOrderly k
    → IsOrderly (kept_after (λ (m : State). with_process m p (record (process_of m p) { registers = r; pc = pc })) k)
seat_orderly k p pc r good it =
    let m = whole k [] [] in
    let q : Process = record (process_of m p) { registers = r; pc = pc } in
    record {
      lawful = record {
        formed = put_formed m p q (record { registers = good; line = (it.lawful.formed.processes p).line }) refl it.lawful.formed;
        asleep = put_asleep m p q refl it.lawful.asleep;
      };
      ended = marks_same k.state p q refl ∙ it.ended;
      commands = it.commands;
      ends = it.ends;
    }

-- a turn that is done
pub turn_orderly : (k : Kept) (time : ℕ) (owed : Option Turn) → IsOrderly k → IsOrderly (record k { state = record k.state { time = time; owed = owed } })
turn_orderly k time owed it = record { lawful = lawful_whenever (whole k [] []) time owed it.lawful; ended = it.ended; commands = it.commands; ends = it.ends }

-- Other grants of as many processes and pages, under which no right ends before a time.
pub granted_orderly : (k : Kept) (g : GrantsState) (t : Places) (ends : ℕ) → length g.table ≡ length k.grants.table → g.named ≡ k.grants.named → g.ended ≡ k.grants.ended → NoneEndsBefore ends g.table
    → IsOrderly k → IsOrderly (record k { grants = g; tables = t; ends = ends })
granted_orderly k g t ends table named ended before it = record {
  lawful = record {
    formed = formed_with (whole k [] []) (page_state g []) k.state.queues k.state.consoles [] k.state.time k.state.commands k.state.characters k.state.owed table refl refl it.lawful.formed;
    asleep = it.lawful.asleep;
  };
  ended = it.ended ∙ sym ended;
  commands = subst (λ (n : ℕ). AreGoodCommands n k.state.commands) (sym named) it.commands;
  ends = before;
}

-- Where pages lie otherwise, under the same table.
pub lying_orderly : (k : Kept) (g : GrantsState) → g.table ≡ k.grants.table → g.named ≡ k.grants.named → g.ended ≡ k.grants.ended → IsOrderly k → IsOrderly (record k { grants = g })
lying_orderly k g table named ended it =
    granted_orderly k g k.tables k.ends (ap (λ (t : Table). length t) table) named ended (subst (NoneEndsBefore k.ends) (sym table) it.ends) it
