-- A process that comes on the processor.
use Rattle.std.specs.Prelude.{◌≡◌, ℕ, ◌+◌, ◌*◌, ◌^◌, false, slice_index, slice_set}
use Rattle.ds_word.specs.Word.{word}
use Rattle.ds_isa.specs.Registers.{Registers, settled}
use Rattle.ds_core.specs.Core.{CoreState}
use Rattle.ds_pagemap.specs.Machine.{Process}
use Rattle.ds_refinement.specs.Units.{user_status}

-- the processor at the beginning of a unit at an address: no load is late, and registers 26 and 27 have what the refill of a translation leaves there
abbrev pub begun_at : CoreState → ℕ → CoreState
begun_at c pc = record c {
  registers = record (settled c.registers) { general = slice_set (slice_set c.registers.general 26 0) 27 pc };
  pc = pc;
  next = word (pc + 4);
  slot = false;
  system = record c.system { status = user_status };
}

-- the process that runs after its call, with an answer in register 2
abbrev pub past_call : CoreState → ℕ → Process → Process
past_call c answer q = record q {
  registers = record (settled c.registers) { general = slice_set c.registers.general 2 answer };
  pc = word (c.system.epc + 4);
}

-- the processor in an address space: EntryHi is of its page 0
abbrev pub in_space : CoreState → ℕ → CoreState
in_space c number = record c { system = record c.system { entry_hi = number * 2 ^ 6 } }

-- the processor with a process, touched, at the beginning of its unit in the address space where it is
abbrev pub on_processor : CoreState → Process → CoreState
on_processor c q = begun_at (record c { registers = q.registers }) q.pc

-- the same with what Cause and EPC have
abbrev pub back_on : CoreState → Process → ℕ → ℕ → CoreState
back_on c q cause epc = record (on_processor c q) { system = record c.system { status = user_status; cause = cause; epc = epc } }

-- registers as a call leaves them, which answers in register 2: no other differs, and no load is late
abbrev pub AreAnswered : Registers → Registers → Type 0
AreAnswered before afterwards = afterwards ≡ record (settled before) { general = slice_set before.general 2 (slice_index afterwards.general 2) }
