-- Where the instruction of a process lies in memory.
use Rattle.std.specs.Prelude.{ℕ, ◌+◌, ◌*◌, Option, Some, None}
use Rattle.ds_isa.specs.declared.instr.Size.TheVariants.{Word}
use Rattle.ds_isa.specs.declared.instr.Kind.TheVariants.{Fetch}
use Rattle.ds_policy.specs.declared.access.Verdict.{Verdict}
use Rattle.ds_policy.specs.declared.access.Verdict.TheVariants.{Allowed, Denied}
use Rattle.ds_policy.specs.Pages.{decide}
use Rattle.ds_grants.specs.State.{GrantsState, frame_of_page}

-- the place of an offset of a page, in the page's frame
abbrev pub place_by : GrantsState → Verdict → Option ℕ
place_by g (Allowed page offset) = Some (frame_of_page g page * 4096 + offset)
place_by g (Denied rule code) = None

-- the place of the instruction of a process at an address, if the table lets the process fetch it
abbrev pub place_in_memory : GrantsState → ℕ → ℕ → Option ℕ
place_in_memory g p address = place_by g (decide g.table p Fetch Word address)
