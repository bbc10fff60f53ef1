-- Where two slots begin to match each other.
use Rattle.std.specs.Prelude.{codes, decimal, ℕ, ◌+◌, Bool, not, ◌==◌, ◌&&◌, nat_lt, if◌then◌else◌, List, [], ◌∷◌, ◌++◌, slice_get, Option, Some, None}
use Rattle.ds_tlb.specs.declared.entry.Entry.{Entry}
use Rattle.ds_tlb.specs.Singles.{match_each_other}

-- whether an entry matches another which the one before it did not match
abbrev pub begins : Entry → Entry → Entry → Bool
begins old new other = match_each_other new other && not (match_each_other old other)

-- that two slots match each other
abbrev pub pair_text : ℕ → ℕ → List ℕ
pair_text low high = codes "slots " ++ decimal low ++ codes " and " ++ decimal high ++ codes " match each other, which the architecture forbids\n"

-- the same of two slots in any order
abbrev pub ordered_text : ℕ → ℕ → List ℕ
ordered_text one other = if nat_lt one other then pair_text one other else pair_text other one

-- the line of a slot with this entry, where another slot was written
abbrev pub begun_line : ℕ → Entry → Entry → ℕ → Entry → List ℕ
begun_line written old new slot e = if not (written == slot) && begins old new e then ordered_text written slot else []

-- the lines of slots, from one on
abbrev pub begun_lines : ℕ → Entry → Entry → ℕ → List Entry → List ℕ
begun_lines written old new slot [] = []
begun_lines written old new slot (e ∷ es) = begun_line written old new slot e ++ begun_lines written old new (slot + 1) es

-- the lines of all slots, by what the slot that was written holds now
abbrev pub begun_with : ℕ → Entry → Option Entry → List Entry → List ℕ
begun_with written old None entries = []
begun_with written old (Some new) entries = begun_lines written old new 0 entries

-- by the slot that an instruction writes and what that held before
abbrev pub begun_text : Option ℕ → Option Entry → List Entry → List ℕ
begun_text (Some written) (Some old) entries = begun_with written old (slice_get entries written) entries
begun_text written old entries = []
