-- The two words of an entry, as EntryHi and EntryLo have them (Kane and Heinrich, chapter 4).
use Rattle.std.specs.Prelude.{ℕ, ◌+◌, ◌*◌, ◌%◌, ◌^◌, ◌==◌}
use Rattle.ds_word.specs.Word.{bits, bit}
use Rattle.ds_tlb.specs.declared.entry.Entry.{Entry}

-- EntryHi: the virtual page in bits 31 to 12, the address space in bits 11 to 6
abbrev pub hi_word : Entry → ℕ
hi_word e = e.vpn % 2 ^ 20 * 2 ^ 12 + e.asid % 2 ^ 6 * 2 ^ 6

-- EntryLo: the frame in bits 31 to 12, N in bit 11, D in bit 10, V in bit 9, G in bit 8
abbrev pub lo_word : Entry → ℕ
lo_word e = e.pfn % 2 ^ 20 * 2 ^ 12 + bit 11 e.n + bit 10 e.d + bit 9 e.v + bit 8 e.g

-- the entry of two words
abbrev pub entry_of : ℕ → ℕ → Entry
entry_of hi lo = record {
  vpn = bits hi 12 20;
  asid = bits hi 6 6;
  pfn = bits lo 12 20;
  n = bits lo 11 1 == 1;
  d = bits lo 10 1 == 1;
  v = bits lo 9 1 == 1;
  g = bits lo 8 1 == 1;
}
