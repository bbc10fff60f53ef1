-- The registers of a MIPS R3000 as gdb is told of them: those of the processor, of its system coprocessor, and of a
-- floating-point coprocessor, without which gdb takes no description. All of them have 32 bits.
use Rattle.std.specs.Prelude.{codes, decimal, ℕ, ◌+◌, nat_le, if◌then◌else◌, List, ◌∷◌, ◌++◌, length, take, drop}
use Rattle.ds_gdb.specs.Each.{each}

-- before the name of a register
unfoldable pub before_name : List ℕ
before_name = codes "<reg name=\""

-- after it: its number
unfoldable pub after_name : ℕ → List ℕ
after_name number = codes "\" bitsize=\"32\" regnum=\"" ++ decimal number ++ codes "\"/>"

-- a register, by its name and its number
unfoldable pub register_line : List ℕ → ℕ → List ℕ
register_line name number = before_name ++ name ++ after_name number

-- the register that a letter and a number name, of those that begin with this one
unfoldable pub lettered_line : ℕ → ℕ → ℕ → List ℕ
lettered_line letter first i = before_name ++ (letter ∷ decimal i) ++ after_name (first + i)

-- where a group of registers begins
unfoldable pub group_text : List ℕ → List ℕ
group_text name = codes "<feature name=\"org.gnu.gdb.mips." ++ name ++ codes "\">"

-- where it ends
unfoldable pub end_text : List ℕ
end_text = codes "</feature>"

-- three registers
abbrev pub three_text : List ℕ → ℕ → List ℕ → ℕ → List ℕ → ℕ → List ℕ
three_text a i b j c k = register_line a i ++ register_line b j ++ register_line c k

-- of the processor: r0 to r31, LO, HI and pc
abbrev pub processor_text : List ℕ
processor_text = group_text (codes "cpu") ++ each (lettered_line 114 0) 0 32 ++ three_text (codes "lo") 33 (codes "hi") 34 (codes "pc") 37 ++ end_text

-- of the system coprocessor: Status, BadVAddr and Cause
abbrev pub system_text : List ℕ
system_text = group_text (codes "cp0") ++ three_text (codes "status") 32 (codes "badvaddr") 35 (codes "cause") 36 ++ end_text

-- of a floating-point coprocessor: f0 to f31, and its two of control
abbrev pub floating_text : List ℕ
floating_text = group_text (codes "fpu") ++ each (lettered_line 102 38) 0 32 ++ register_line (codes "fcsr") 70 ++ register_line (codes "fir") 71 ++ end_text

-- what stands before the groups
abbrev pub head_text : List ℕ
head_text = codes "<?xml version=\"1.0\"?><!DOCTYPE target SYSTEM \"gdb-target.dtd\"><target><architecture>mips:3000</architecture><osabi>none</osabi>"

-- the whole
unfoldable pub description_text : List ℕ
description_text = head_text ++ processor_text ++ system_text ++ floating_text ++ codes "</target>"

-- what is left of a text, or so much of it where there is more
abbrev pub rest_text : List ℕ → ℕ → List ℕ
rest_text left size = if nat_le (length left) size then codes "l" ++ left else codes "m" ++ take size left

-- a part of a text, from a place on, of at most so many bytes
abbrev pub text_part : List ℕ → ℕ → ℕ → List ℕ
text_part text offset size = rest_text (drop offset text) size
