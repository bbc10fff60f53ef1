-- The bytes of memory that a process may load.
use Rattle.std.specs.Prelude.{ℕ, zero, suc, ◌+◌, ◌*◌, ◌%◌, List, [], ◌∷◌, Option, Some, None}
use Rattle.ds_word.specs.Word.{bits}
use Rattle.ds_word.specs.Bytes.{word_at}
use Rattle.ds_isa.specs.declared.instr.Size.TheVariants.{Byte}
use Rattle.ds_isa.specs.declared.instr.Kind.TheVariants.{Load}
use Rattle.ds_policy.specs.declared.access.Verdict.{Verdict}
use Rattle.ds_policy.specs.declared.access.Verdict.TheVariants.{Allowed, Denied}
use Rattle.ds_policy.specs.Pages.{Pages, decide, bytes_of}
use Rattle.ds_policy.specs.Grants.{PageState}
use Rattle.ds_gdb.specs.Replies.{bytes_text, few}

-- the byte of a word that has this place
abbrev pub byte_of : ℕ → ℕ → ℕ
byte_of w place = bits w (8 * (place % 4)) 8

-- the byte at the place of an access that is allowed
abbrev pub byte_on : Pages → Verdict → Option ℕ
byte_on pages (Allowed page offset) = Some (byte_of (word_at (bytes_of pages page) offset) offset)
byte_on pages (Denied rule code) = None

-- the byte at an address, where the process may load it
abbrev pub byte_read : PageState → ℕ → ℕ → Option ℕ
byte_read s p address = byte_on s.pages (decide s.table p Load Byte address)

-- a byte before others, and nothing where there is none
abbrev pub before_others : Option ℕ → List ℕ → List ℕ
before_others None rest = []
before_others (Some b) rest = b ∷ rest

-- the bytes from an address on, up to the first that the process may not load, and so many at most
unfoldable pub bytes_readable_from : PageState → ℕ → ℕ → ℕ → List ℕ
bytes_readable_from s p address zero = []
bytes_readable_from s p address (suc n) = before_others (byte_read s p address) (bytes_readable_from s p (address + 1) n)

-- memory from an address on
abbrev pub memory_text : PageState → ℕ → ℕ → ℕ → List ℕ
memory_text s p address size = bytes_text (bytes_readable_from s p address (few size))
