-- The word that a store leaves.
use Rattle.std.specs.Prelude.{ℕ, ◌+◌, ◌*◌, ◌/◌, ◌==◌, ◌||◌, nat_lt, Bool, if◌then◌else◌, codes, List, [], ◌++◌, slice_index, Option, Some, None}
use Rattle.ds_word.specs.Word.{word, sign_extended}
use Rattle.ds_text.specs.Digits.{hex8}
use Rattle.ds_isa.specs.declared.instr.Instr.{Instr}
use Rattle.ds_isa.specs.declared.instr.Instr.TheVariants as instr
use Rattle.ds_policy.specs.Grants.{PageState}
use Rattle.ds_station.specs.Reads.{fetched}
use Rattle.ds_trace.specs.declared.stores.Reach.{Reach}

-- the base and the offset of a store
abbrev pub reach_of : Instr → Option Reach
reach_of (instr.Sb rt rs i) = Some (record { base = rs; offset = i })
reach_of (instr.Sh rt rs i) = Some (record { base = rs; offset = i })
reach_of (instr.Swl rt rs i) = Some (record { base = rs; offset = i })
reach_of (instr.Sw rt rs i) = Some (record { base = rs; offset = i })
reach_of (instr.Swr rt rs i) = Some (record { base = rs; offset = i })
reach_of other = None

-- whether a touch may change a register
abbrev pub is_lost : ℕ → Bool
is_lost n = (n == 26) || (n == 27)

-- the address of the word to which a store goes, by what the registers hold; none where a touch may change its base
abbrev pub stored_at : List ℕ → Option Reach → Option ℕ
stored_at general None = None
stored_at general (Some r) =
    if is_lost r.base then None else Some (word (slice_index general r.base + sign_extended 16 r.offset) / 4 * 4)

-- a word with its address
abbrev pub stored_word_text : ℕ → Option ℕ → List ℕ
stored_word_text address None = []
stored_word_text address (Some w) = codes "  " ++ hex8 address ++ codes "=" ++ hex8 w

-- the word at an address, where there is such a process among so many, and it may fetch it
abbrev pub word_seen : PageState → ℕ → ℕ → ℕ → Option ℕ
word_seen s count p address = if (p == 0) || nat_lt count p then None else fetched s p address

-- that at the address of a store
abbrev pub stored_text : PageState → ℕ → ℕ → Option ℕ → List ℕ
stored_text s count p None = []
stored_text s count p (Some address) = stored_word_text address (word_seen s count p address)
