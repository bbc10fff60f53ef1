-- The page of code that a stretch knows.
use Rattle.std.specs.Prelude.{◌≡◌, ℕ, ◌<◌, ◌^◌, true, false, Some}
use Rattle.ds_tlb.specs.Inner.Frames.{base_of}
use Rattle.ds_cp0.specs.System.{asid_of}
use Rattle.ds_core.specs.Core.{CoreState}
use Rattle.ds_core.specs.Inner.Coprocessor.{only_devices_interrupt}

-- the page's frame begins at base, for fetches in the address space of now, and no instruction can change that
pub record IsPageOf (vpn base : ℕ) (c : CoreState) : Type 0 where
  pub mapped : vpn < 2 ^ 19
  pub frame : base_of c.entries false vpn (asid_of c.system) ≡ Some base
  pub only : only_devices_interrupt c ≡ true

-- that holds where a page is known: none has the number 2^32
abbrev pub KnowsPage : ℕ → ℕ → CoreState → Type 0
KnowsPage vpn base c = vpn < 2 ^ 32 → IsPageOf vpn base c
