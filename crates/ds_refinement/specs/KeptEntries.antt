-- What was written into a buffer of 64 slots, of which 8 are wired, while Random goes round.
use Rattle.std.specs.Prelude.{◌≡◌, ℕ, ◌+◌, ◌-◌, ◌<◌, ◌≤◌, nat_le, if◌then◌else◌, List, slice_get, Some}
use Rattle.ds_tlb.specs.declared.entry.Entry.{Entry}

-- how many steps ago Random stood at a slot
abbrev pub steps_since : ℕ → ℕ → ℕ
steps_since slot random = if nat_le random slot then slot - random else slot + 56 - random

-- a page's entry stands in a slot at which Random stood within the last n steps
pub record IsKept (entries : List Entry) (random n vpn asid : ℕ) : Type 0 where
  pub slot : ℕ
  pub entry : Entry
  pub at : slice_get entries slot ≡ Some entry
  pub page : entry.vpn ≡ vpn
  pub space : entry.asid ≡ asid
  pub low : 8 ≤ slot
  pub high : slot < 64
  pub since : 1 ≤ steps_since slot random
  pub few : steps_since slot random ≤ n
