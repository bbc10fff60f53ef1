-- What the windows of a buffer remember, by their tags and, beside these, how far each frame lies beyond its page, modulo 2^32.
use Rattle.std.specs.Prelude.{◌≡◌, ℕ, ◌+◌, ◌*◌, ◌/◌, ◌%◌, ◌^◌, ◌<◌, ◌≤◌, Bool, true, false, List, slice_index, Some}
use Rattle.ds_word.specs.Word.{word}
use Rattle.ds_isa.specs.declared.instr.Size.{Size}
use Rattle.ds_isa.specs.declared.instr.Size.TheVariants.{Byte, Half, Word, Part}
use Rattle.ds_isa.specs.Access.{is_aligned}
use Rattle.ds_tlb.specs.declared.entry.Entry.{Entry}
use Rattle.ds_tlb.specs.Entries.{matches}
use Rattle.ds_tlb.specs.Inner.Frames.{base_of}

-- the place of the window of a page of an address space
abbrev pub window_place : ℕ → ℕ → ℕ
window_place vpn asid = (vpn + asid) % 64

-- what a page of an address space is known by: in bits 31 to 12 the sum of both, whose low bits are the place of its window, and in bits 9 to 2 the address space
abbrev pub tag_of : ℕ → ℕ → ℕ
tag_of vpn asid = word ((vpn + asid) * 2 ^ 12 + asid * 2 ^ 2)

-- what is left of an address divided by what suits a size
abbrev pub rest_of : Size → ℕ → ℕ
rest_of Byte address = 0
rest_of Half address = address % 2
rest_of Word address = address % 4
rest_of Part address = 0

-- the page of the address space is remembered with this frame, at its place
pub record Remembers (tags distances : List ℕ) (vpn asid base : ℕ) : Type 0 where
  pub tag : slice_index tags (window_place vpn asid) ≡ tag_of vpn asid
  pub frame : word (vpn * 2 ^ 12 + slice_index distances (window_place vpn asid)) ≡ base

-- what is remembered is a page of the lower half of the addresses, with the frame that the entries have for it, which lies in memory
pub record AreRight (tags distances : List ℕ) (store : Bool) (entries : List Entry) : Type 0 where
  pub each : (vpn asid base : ℕ) → vpn < 2 ^ 20 → asid < 2 ^ 8 → Remembers tags distances vpn asid base → (vpn < 2 ^ 19) × (base_of entries store vpn asid ≡ Some base) × (base + 4096 ≤ 2 ^ 23)

-- what is still remembered was so before, and in the lower half of the addresses an entry does not answer for it
pub record Forgets (entry : Entry) (old_tags old_distances tags distances : List ℕ) : Type 0 where
  pub before : (vpn asid base : ℕ) → vpn < 2 ^ 20 → asid < 2 ^ 8 → Remembers tags distances vpn asid base → Remembers old_tags old_distances vpn asid base
  pub gone : (vpn asid base : ℕ) → vpn < 2 ^ 19 → asid < 2 ^ 8 → Remembers tags distances vpn asid base → matches vpn asid entry ≡ false

-- the same for two entries
pub record ForgetsBoth (was now : Entry) (old_tags old_distances tags distances : List ℕ) : Type 0 where
  pub first : Forgets was old_tags old_distances tags distances
  pub second : Forgets now old_tags old_distances tags distances

-- an access of an address of an address space suits its size, and its page is remembered, in whose frame it has this place
pub record IsFound (tags distances : List ℕ) (size : Size) (address asid place : ℕ) : Type 0 where
  pub aligned : is_aligned size address ≡ true
  pub tag : slice_index tags (window_place (address / 2 ^ 12) asid) ≡ tag_of (address / 2 ^ 12) asid
  pub frame : word (address + slice_index distances (window_place (address / 2 ^ 12) asid)) ≡ place
