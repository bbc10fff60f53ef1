-- States that are lawful, and states that are not: each row is a theorem about the definitions alone.
use Rattle.std.proofs.Common.{◌≡◌, ℕ, zero, suc, ◌-◌, ◌<◌, ◌≤◌, ◌||◌, true, false, List, [], ◌∷◌, length, codes, refl, sym, ap, subst, arith}
use Rattle.std.specs.Prelude.{replicate, slice_index_or, Some, None}
use Rattle.std.specs.List.{All}
use Rattle.std.proofs.lemmas.Bool.{lt-leb}
use Rattle.std.proofs.lemmas.List.Elements.{All-nil, All-cons}
use Rattle.ds_isa.specs.Registers.{zero_registers}
use Rattle.ds_procs.specs.declared.process.Standing.{Standing}
use Rattle.ds_procs.specs.declared.process.Standing.TheVariants.{Ready, Waiting, Ended}
use Rattle.ds_policy.specs.declared.command.Command.TheVariants.{Stop}
use Rattle.ds_policy.specs.declared.command.TimedCommand.{TimedCommand}
use Rattle.ds_policy.specs.declared.grant.Right.TheVariants.{Read}
use Rattle.ds_policy.specs.Ends.{NoneEndsBefore}
use Rattle.ds_policy.specs.Value.{PolicyValue}
use Rattle.ds_pagemap.specs.declared.turn.Turn.{Turn}
use Rattle.ds_pagemap.specs.Machine.{State, Process, no_process, process_of}
use Rattle.ds_pagemap.specs.First.{first_state}
use Rattle.ds_pagemap_laws.specs.Due.{HasNothingToDo, IsInOrder}
use Rattle.ds_pagemap_laws.specs.Lawful.{AreRegisters, IsProcess, IsReady, HasSizes, IsLawful}
use Rattle.ds_pagemap_laws.specs.Rows.{resting, loading, state_of}
use Rattle.ds_pagemap_laws.proofs.Asleep.{has_woken}

-- what is true of two processes, and of one that is not there, is true at each place
of_two : (P : Process → Type 0) (q r : Process) → P q → P r → P no_process → (i : ℕ) → P (slice_index_or (q ∷ r ∷ []) i no_process)
of_two P q r first second none zero = first
of_two P q r first second none (suc zero) = second
of_two P q r first second none (suc (suc i)) = none

none_good : IsProcess no_process
none_good = record { registers = record { size = refl; nought = refl; late = tt }; line = omega arith }

-- a process that has nothing late, on whichever line it is and however it stands
rests_well : (q : Process) → q.registers ≡ zero_registers → q.line < 4 → IsProcess q
rests_well q same below = record {
  registers = subst AreRegisters (sym same) (record { size = refl; nought = refl; late = tt });
  line = below;
}

-- one that rests, standing otherwise
abbrev stands : Standing → Process
stands s = record resting { standing = s }

on_line_0 : 0 < 4
on_line_0 = omega arith

one_of_two : 1 ≤ 2
one_of_two = omega arith

two_of_two : 2 ≤ 2
two_of_two = omega arith

-- process 1 alone is ready
first_ready : (m : State) → 1 ≤ length m.processes → (process_of m 1).standing ≡ Ready → All (IsReady m) (1 ∷ [])
first_ready m there is = All-cons (IsReady m) 1 [] (omega arith, there, is) (All-nil (IsReady m))

-- the sizes of a state of two processes
two_sizes : (q r : Process) (ready waiting : List ℕ) → HasSizes (state_of (q ∷ r ∷ []) ready waiting)
two_sizes q r ready waiting = let few : 2 ≤ 100 = omega arith in record { processes = few; queues = refl; consoles = refl; table = refl }

-- each place of two processes, the second of which rests, has a process
two_good : (q : Process) (s : Standing) → IsProcess q → (i : ℕ) → IsProcess (slice_index_or (q ∷ stands s ∷ []) i no_process)
two_good q s good i = of_two IsProcess q (stands s) good (rests_well (stands s) refl on_line_0) none_good i

-- nobody of two processes wakes
asleep_both : (q r : Process) (waiting : List ℕ) → has_woken (waiting ∷ [] ∷ [] ∷ [] ∷ []) q ≡ false → has_woken (waiting ∷ [] ∷ [] ∷ [] ∷ []) r ≡ false
    → (i : ℕ) → has_woken (waiting ∷ [] ∷ [] ∷ [] ∷ []) (slice_index_or (q ∷ r ∷ []) i no_process) ≡ false
asleep_both q r waiting one other i = of_two (λ x. has_woken (waiting ∷ [] ∷ [] ∷ [] ∷ []) x ≡ false) q r one other refl i

-- What is lawful.

-- a policy of two processes, the second on the last line
abbrev small : PolicyValue
small = record {
  frames = 1;
  rate = 0;
  processes = record { start = 0x00400000; line = 0 } ∷ record { start = 0x00400000; line = 3 } ∷ [];
  pages = record { name = codes "data"; source = None } ∷ [];
  rules = [];
}

abbrev start : State
start = first_state small [] (record { commands = []; characters = [] })

pub a_first_state_is_lawful : IsLawful start
a_first_state_is_lawful =
    let few : 2 ≤ 100 = omega arith in
    let last : 3 < 4 = omega arith in
    let other : Process = record resting { line = 3 } in
    record {
      formed = record {
        ready = All-cons (IsReady start) 1 (2 ∷ []) (omega arith, one_of_two, refl) (All-cons (IsReady start) 2 [] (omega arith, two_of_two, refl) (All-nil (IsReady start)));
        processes = λ p. of_two IsProcess resting other (rests_well resting refl on_line_0) (rests_well other refl last) none_good (p - 1);
        sizes = record { processes = few; queues = refl; consoles = refl; table = refl };
      };
      asleep = λ p. asleep_both resting other [] refl refl (p - 1);
    }

abbrev waits : State
waits = state_of (resting ∷ stands Waiting ∷ []) (1 ∷ []) []

pub a_process_may_wait : IsLawful waits
a_process_may_wait = record {
  formed = record {
    ready = first_ready waits one_of_two refl;
    processes = λ p. two_good resting Waiting (rests_well resting refl on_line_0) (p - 1);
    sizes = two_sizes resting (stands Waiting) (1 ∷ []) [];
  };
  asleep = λ p. asleep_both resting (stands Waiting) [] refl refl (p - 1);
}

abbrev has_an_end : State
has_an_end = state_of (resting ∷ stands Ended ∷ []) (1 ∷ []) []

pub a_process_may_have_ended : IsLawful has_an_end
a_process_may_have_ended = record {
  formed = record {
    ready = first_ready has_an_end one_of_two refl;
    processes = λ p. two_good resting Ended (rests_well resting refl on_line_0) (p - 1);
    sizes = two_sizes resting (stands Ended) (1 ∷ []) [];
  };
  asleep = λ p. asleep_both resting (stands Ended) [] refl refl (p - 1);
}

abbrev turned : State
turned = state_of (resting ∷ resting ∷ []) (2 ∷ 1 ∷ []) []

pub process_2_may_run_first : IsLawful turned
process_2_may_run_first = record {
  formed = record {
    ready = All-cons (IsReady turned) 2 (1 ∷ []) (omega arith, two_of_two, refl) (first_ready turned one_of_two refl);
    processes = λ p. two_good resting Ready (rests_well resting refl on_line_0) (p - 1);
    sizes = two_sizes resting resting (2 ∷ 1 ∷ []) [];
  };
  asleep = λ p. asleep_both resting resting [] refl refl (p - 1);
}

abbrev typed : State
typed = state_of (resting ∷ stands Ended ∷ []) (1 ∷ []) (65 ∷ [])

pub a_character_may_wait_for_who_runs : IsLawful typed
a_character_may_wait_for_who_runs = record {
  formed = record {
    ready = first_ready typed one_of_two refl;
    processes = λ p. two_good resting Ended (rests_well resting refl on_line_0) (p - 1);
    sizes = two_sizes resting (stands Ended) (1 ∷ []) (65 ∷ []);
  };
  asleep = λ p. asleep_both resting (stands Ended) (65 ∷ []) refl refl (p - 1);
}

pub these_are_registers_with_a_load_late : AreRegisters loading.registers
these_are_registers_with_a_load_late = let of_these : 8 < 32 = omega arith in record { size = refl; nought = refl; late = of_these }

abbrev loads : State
loads = state_of (loading ∷ stands Ended ∷ []) (1 ∷ []) []

pub a_load_may_be_late : IsLawful loads
a_load_may_be_late = record {
  formed = record {
    ready = first_ready loads one_of_two refl;
    processes = λ p. two_good loading Ended (record { registers = these_are_registers_with_a_load_late; line = on_line_0 }) (p - 1);
    sizes = two_sizes loading (stands Ended) (1 ∷ []) [];
  };
  asleep = λ p. asleep_both loading (stands Ended) [] refl refl (p - 1);
}

-- What is not.

pub no_process_has_31_registers : IsProcess (record resting { registers = record zero_registers { general = replicate 31 0 } }) → ⊥
no_process_has_31_registers h = let size : 31 ≡ 32 = h.registers.size in absurd (omega arith)

pub who_is_ready_is_there : IsLawful (state_of (resting ∷ resting ∷ []) (3 ∷ []) []) → ⊥
who_is_ready_is_there h =
    let one : 0 < 1 = omega arith in
    let there : 3 ≤ 2 = (h.formed.ready 0 0 one).1 in
    absurd (omega arith)

pub who_has_ended_is_not_ready : IsLawful (state_of (stands Ended ∷ resting ∷ []) (1 ∷ []) []) → ⊥
who_has_ended_is_not_ready h =
    let one : 0 < 1 = omega arith in
    let stood : Ended ≡ Ready = (h.formed.ready 0 0 one).2 in
    absurd cc

pub nobody_waits_for_a_character_that_is_there : IsLawful (state_of (resting ∷ stands Waiting ∷ []) (1 ∷ []) (65 ∷ [])) → ⊥
nobody_waits_for_a_character_that_is_there h = let awake : true ≡ false = h.asleep 2 in absurd cc

-- a command at this time
abbrev stop_at : ℕ → TimedCommand
stop_at time = record { time = time; number = 1; command = Stop 1 }

-- at times 1, 5 and 3
pub commands_come_in_order : IsInOrder (record (state_of [] [] []) { commands = stop_at 1 ∷ stop_at 5 ∷ stop_at 3 ∷ [] }) → ⊥
commands_come_in_order h =
    let next : 1 ≤ 2 = omega arith in
    let last : 2 < 3 = omega arith in
    let order : 5 ≤ 3 = h.commands 1 2 (stop_at 0) next last in
    absurd (omega arith)

-- Rights that end.

-- process 1 may read a page until time 5, at this time
abbrev until_5 : ℕ → State
until_5 now = record (state_of [] [] []) {
  time = now;
  memory = record {
    pages = [];
    table = (record { address = 0x00410000; grant = record { right = Read; page = Some 0; rule = 1; give = false; giver = 0; parent = None; until = Some 5 } } ∷ []) ∷ [];
    named = 1;
  };
}

-- nobody ran
abbrev idle : Turn
idle = record { began = 0; runner = None }

pub before_an_end_there_may_be_nothing_to_do : HasNothingToDo idle (until_5 4)
before_an_end_there_may_be_nothing_to_do = record { commands = refl; characters = refl; ends = refl; asleep = λ p. refl; period = refl }

pub at_an_end_there_is_something_to_do : HasNothingToDo idle (until_5 5) → ⊥
at_an_end_there_is_something_to_do h = let over : true ≡ false = h.ends in absurd cc

pub it_does_not_end_before_5 : NoneEndsBefore 5 (until_5 0).memory.table
it_does_not_end_before_5 = λ t early. ap (λ b. (b || false) || false) (lt-leb 5 t (omega (arith, early)))

pub it_ends_before_6 : NoneEndsBefore 6 (until_5 0).memory.table → ⊥
it_ends_before_6 none =
    let before : 5 < 6 = omega arith in
    let over : true ≡ false = none 5 before in
    absurd cc
