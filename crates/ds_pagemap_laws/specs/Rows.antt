-- What finishing a late load leaves, what is due, and what stays a refusal: each row is a theorem about the definitions alone.
use Rattle.std.specs.Prelude.{◌≡◌, refl, ℕ, List, [], ◌∷◌, length, map, take, replicate, slice_set, slice_index, Some, None, Err}
use Rattle.ds_isa.specs.Registers.{zero_registers}
use Rattle.ds_procs.specs.declared.process.Standing.{Standing}
use Rattle.ds_procs.specs.declared.process.Standing.TheVariants.{Ready, Waiting, Parked, Ended}
use Rattle.ds_policy.specs.declared.command.Character.{Character}
use Rattle.ds_policy.specs.InputFacts.{comes_at}
use Rattle.ds_pagemap.specs.Machine.{State, Process}
use Rattle.ds_pagemap.specs.Inputs.{InputFault}
use Rattle.ds_pagemap_laws.specs.Settled.{settled_process, all_settled}
use Rattle.ds_pagemap_laws.specs.Due.{due_count, come}
use Rattle.ds_pagemap_laws.specs.Further.{further}

-- a process with no load late
abbrev pub resting : Process
resting = record { registers = zero_registers; pc = 0x00400000; standing = Ready; line = 0 }

-- a process that has loaded 65 into register 8, where 7 stood
abbrev pub loading : Process
loading = record {
  registers = record { general = slice_set (replicate 32 0) 8 65; hi = 0; lo = 0; late = Some (record { register = 8; old = 7 }) };
  pc = 0x00400008;
  standing = Ready;
  line = 0;
}

pub a_finished_load_leaves_what_was_loaded : slice_index (settled_process loading).registers.general 8 ≡ 65
a_finished_load_leaves_what_was_loaded = refl

pub no_load_is_late_after_it : (settled_process loading).registers.late ≡ None
no_load_is_late_after_it = refl

pub no_load_is_late_however_it_stands : (s : Standing) → (settled_process (record loading { standing = s })).registers.late ≡ None
no_load_is_late_however_it_stands Ready = refl
no_load_is_late_however_it_stands Waiting = refl
no_load_is_late_however_it_stands Parked = refl
no_load_is_late_however_it_stands Ended = refl

pub it_stands_at_the_same_address : (settled_process loading).pc ≡ 0x00400008
it_stands_at_the_same_address = refl

-- a state of these processes, those that are ready in this order, with characters that wait on line 0
abbrev pub state_of : List Process → List ℕ → List ℕ → State
state_of processes ready waiting = record {
  memory = record { pages = []; table = replicate (length processes) []; named = 0 };
  rate = 0;
  processes = processes;
  ready = ready;
  queues = waiting ∷ [] ∷ [] ∷ [] ∷ [];
  consoles = replicate 4 [];
  log = [];
  time = 5;
  commands = [];
  characters = [];
  owed = None;
}

pub no_load_is_late_in_any_process : map (λ (q : Process). q.registers.late) (all_settled (state_of (loading ∷ loading ∷ []) (1 ∷ 2 ∷ []) [])).processes ≡ None ∷ None ∷ []
no_load_is_late_in_any_process = refl

-- A, B and C for line 0, at times 1, 3 and 5
abbrev keys : List Character
keys = record { time = 1; line = 0; byte = 65 } ∷ record { time = 3; line = 0; byte = 66 } ∷ record { time = 5; line = 0; byte = 67 } ∷ []

pub two_keys_are_due_at_3 : due_count comes_at 3 keys ≡ 2
two_keys_are_due_at_3 = refl

-- characters at 3, twice at 5, and at 8
abbrev later_keys : List Character
later_keys = map (λ (time : ℕ). record { time = time; line = 0; byte = 65 }) (3 ∷ 5 ∷ 5 ∷ 8 ∷ [])

pub the_first_three_are_due_at_5 : due_count comes_at 5 later_keys ≡ 3
the_first_three_are_due_at_5 = refl

pub these_come_at_5 : come (record (state_of [] [] []) { characters = later_keys }) ≡ take 3 later_keys
these_come_at_5 = refl

pub a_refusal_stays_the_same : (f : State → State) → further f (Err (InputFault 3)) ≡ Err (InputFault 3)
a_refusal_stays_the_same f = refl
