-- Pages that lie in one frame, and what the buffer has of a page whose frame or mark changed.
use Rattle.std.specs.Prelude.{◌≡◌, ℕ, List, length, slice_get, Some}
use Rattle.ds_tlb.specs.declared.entry.Entry.{Entry}

-- each slot has an entry of the same page and address space as before
abbrev pub HasKeys : List Entry → List Entry → Type 0
HasKeys old new = (slot : ℕ) (e : Entry) → slice_get old slot ≡ Some e → (f : Entry) × (slice_get new slot ≡ Some f) × (f.vpn ≡ e.vpn) × (f.asid ≡ e.asid)

-- so it is for as many slots: entries are rewritten, and none is forgotten
abbrev pub AreRewritten : List Entry → List Entry → Type 0
AreRewritten old new = HasKeys old new × (length new ≡ length old)
