-- The pages that a unit asks for.
use Rattle.std.specs.Prelude.{ℕ, ◌+◌, ◌/◌, ◌^◌, true, Option, Some, None, unwrap_or}
use Rattle.ds_word.specs.Word.{word}
use Rattle.ds_word.specs.Bytes.{word_at}
use Rattle.ds_isa.specs.declared.instr.Size.TheVariants.{Word}
use Rattle.ds_isa.specs.declared.instr.Kind.TheVariants as kind
use Rattle.ds_isa.specs.Instruction.{instruction_of}
use Rattle.ds_isa.specs.Meaning.{Effect, Goes, Branches, Loads, Stores, Faults, Calls, Privileged, meaning}
use Rattle.ds_policy.specs.declared.access.Verdict.{Verdict}
use Rattle.ds_policy.specs.declared.access.Verdict.TheVariants.{Allowed, Denied}
use Rattle.ds_policy.specs.Pages.{decide, bytes_of}
use Rattle.ds_pagemap.specs.Machine.{State, process_of, touched}
use Rattle.ds_pagemap.specs.Unit.{Outcome, Went, Branched, Called, Stopped, instruction}
use Rattle.ds_refinement.specs.Course.{UnitPages}

-- the page of an address
abbrev pub page_of_address : ℕ → ℕ
page_of_address address = address / 2 ^ 12

-- the page of an effect's access
abbrev pub asked_by : Effect → Option ℕ
asked_by (Loads size address after) = Some (page_of_address address)
asked_by (Stores size address after) = Some (page_of_address address)
asked_by (Goes after) = None
asked_by (Branches after target) = None
asked_by (Faults code) = None
asked_by Calls = None
asked_by Privileged = None

-- the page of the data of an instruction, by whether it may be fetched
abbrev pub asked_where : State → ℕ → ℕ → Verdict → Option ℕ
asked_where m p pc (Denied rule code) = None
asked_where m p pc (Allowed page offset) = asked_by (meaning (instruction_of (word_at (bytes_of m.memory.pages page) offset)) pc (process_of m p).registers)

-- the page of the data that the instruction at pc asks for
abbrev pub asked_at : State → ℕ → ℕ → Option ℕ
asked_at m p pc = asked_where m p pc (decide m.memory.table p kind.Fetch Word pc)

-- the same by the instruction's outcome: after a branch it is the slot's
abbrev pub asked_after : State → ℕ → ℕ → Outcome → Option ℕ
asked_after m p pc (Branched after target) = asked_at after p (word (pc + 4))
asked_after m p pc (Went after) = asked_at m p pc
asked_after m p pc Called = asked_at m p pc
asked_after m p pc (Stopped stop) = asked_at m p pc

-- the page of the data of the unit that begins in m: of its instruction, or after a branch of its slot
abbrev pub data_page : State → ℕ → Option ℕ
data_page m p = let pc = (process_of m p).pc in asked_after m p pc (instruction m p pc)

-- the pages of the unit that begins in m; page 0 where it has no data
abbrev pub pages_of_unit : State → ℕ → UnitPages
pages_of_unit m p = record {
  fetch = page_of_address (process_of m p).pc;
  slot = page_of_address (word ((process_of m p).pc + 4));
  access = unwrap_or (data_page m p) 0;
  touched = unwrap_or (data_page (touched true m) p) 0;
}
