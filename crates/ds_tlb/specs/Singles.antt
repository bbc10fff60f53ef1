-- Buffers in which no page of an address space has two entries.
use Rattle.std.specs.Prelude.{◌≡◌, ℕ, ◌==◌, ◌&&◌, ◌||◌, Bool, IsTrue, List, slice_get, Some}
use Rattle.ds_tlb.specs.declared.entry.Entry.{Entry}

-- whether some page of some address space has both entries
abbrev pub match_each_other : Entry → Entry → Bool
match_each_other e f = (e.vpn == f.vpn) && ((e.g || f.g) || (e.asid == f.asid))

-- no two different slots match one another
pub record IsSingle (entries : List Entry) : Type 0 where
  pub same_slot : (i j : ℕ) (e f : Entry) → slice_get entries i ≡ Some e → slice_get entries j ≡ Some f → IsTrue (match_each_other e f) → i ≡ j
