-- The bare machine: a processor in kernel mode, its bus, the characters that come in and go out, and what is counted.
use Rattle.std.specs.Prelude.{ℕ, zero, suc, ◌+◌, ◌-◌, ◌^◌, false, nat_le, if◌then◌else◌, List, [], ◌∷◌, ◌++◌, length, Option, Some, None}
use Rattle.ds_isa.specs.Registers.{zero_registers}
use Rattle.ds_tlb.specs.Entries.{empty_entries}
use Rattle.ds_mem.specs.Memory.{zeros, with_frame}
use Rattle.ds_asm.specs.Images.{page_of_image}
use Rattle.ds_cp0.specs.System as system
use Rattle.ds_dev.specs.Serial.{received, sent}
use Rattle.ds_dev.specs.Bus.{BusState, with_serial, after_ticks}
use Rattle.ds_dev.specs.Bus as bus
use Rattle.ds_core.specs.declared.event.Event.{Event}
use Rattle.ds_core.specs.Core.{CoreState, Step}
use Rattle.ds_core.specs.Effect.{step}
use Rattle.ds_policy.specs.declared.command.Character.{Character}
use Rattle.ds_bare.specs.declared.counts.Counts.{Counts}
use Rattle.ds_bare.specs.Counts.{came_counted, none_counted, step_counted}

-- the processor, its bus, the characters, and what is counted
pub record Machine : Type 0 where
  pub core : CoreState
  pub bus : BusState
  -- those that are still to come in, each with its time in instructions
  pub coming : List Character
  -- those that were sent, each with its line, the oldest first
  pub sent : List (ℕ × ℕ)
  pub counts : Counts

-- a new processor at the image's first word, in kernel mode, with Random at its start
abbrev pub core_at_start : ℕ → CoreState
core_at_start random = record {
  registers = zero_registers;
  pc = 0x80400000;
  next = 0x80400004;
  slot = false;
  system = system.at_start;
  entries = empty_entries 64;
  random = random;
}

-- memory with the first so many pages of an image, from the frame at 00400000 on
unfoldable pub memory_with : List ℕ → ℕ → List ℕ
memory_with image zero = zeros (2 ^ 23)
memory_with image (suc k) = with_frame (memory_with image k) (1024 + k) (page_of_image image k)

-- a processor with an image in its memory, and nothing sent
abbrev pub machine_with : CoreState → List ℕ → List Character → Machine
machine_with c image keys = record { core = c; bus = bus.at_start (memory_with image 16); coming = keys; sent = []; counts = none_counted }

-- the machine before its first instruction
abbrev pub machine_at_start : List ℕ → ℕ → List Character → Machine
machine_at_start image random keys = machine_with (core_at_start random) image keys

-- the bus after a character has come in
abbrev pub with_character : BusState → Character → BusState
with_character b c = with_serial b (received b.serial c.line c.byte).1

-- the bus after the first of the characters, whose time has come
abbrev pub bus_fed : ℕ → List Character → BusState → BusState
bus_fed time [] b = b
bus_fed time (c ∷ cs) b = if nat_le c.time time then bus_fed time cs (with_character b c) else b

-- the characters from the first on whose time has not come
abbrev pub still_coming : ℕ → List Character → List Character
still_coming time [] = []
still_coming time (c ∷ cs) = if nat_le c.time time then still_coming time cs else c ∷ cs

-- the machine when so many instructions are done, and the characters of that time have come in
unfoldable pub fed : ℕ → Machine → Machine
fed time m = record m {
  bus = bus_fed time m.coming m.bus;
  coming = still_coming time m.coming;
  counts = came_counted m.counts (length m.coming - length (still_coming time m.coming));
}

-- the step of its processor
unfoldable pub next_step : Machine → Step
next_step m = step m.core m.bus

-- what was sent, and a character that leaves now
abbrev pub with_sent : List (ℕ × ℕ) → Option (ℕ × ℕ) → List (ℕ × ℕ)
with_sent before None = before
with_sent before (Some c) = before ++ c ∷ []

-- the machine after the step
unfoldable pub stepped : Machine → Machine
stepped m = record m { core = (next_step m).core; bus = (next_step m).bus }

-- the machine with its last step counted, by the instruction's word and what became of it
unfoldable pub counted : Option ℕ → Event → Machine → Machine
counted w event m = record m { counts = step_counted m.counts w event m.core m.bus }

-- the bus a tick later
abbrev pub bus_ticked : BusState → BusState
bus_ticked b = after_ticks b 1

-- the machine when a tick has passed after its step, and the character that waited has left
unfoldable pub settled_machine : Machine → Machine
settled_machine m = record m {
  bus = with_serial (bus_ticked m.bus) (sent (bus_ticked m.bus).serial).1;
  sent = with_sent m.sent (sent (bus_ticked m.bus).serial).0;
}
