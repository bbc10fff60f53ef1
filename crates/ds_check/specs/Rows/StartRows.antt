-- Worked starts.
use Rattle.std.specs.Prelude.{codes, refl, ◌≡◌, ℕ, false, List, [], ◌∷◌, ◌++◌, replicate, Some, None}
use Rattle.std.specs.Fmt.{digits}
use Rattle.ds_asm.specs.Inner.OnLiterals.{asm_on_literals}
use Rattle.ds_policy.specs.declared.grant.Right.TheVariants.{Read}
use Rattle.ds_policy.specs.declared.policy.PolicyProcess.{PolicyProcess}
use Rattle.ds_policy.specs.declared.policy.PolicyRule.{PolicyRule}
use Rattle.ds_policy.specs.Value.{PolicyValue}
use Rattle.ds_text.specs.Digits.{hex4, hex8}
use Rattle.ds_check.specs.Starts.{Assembled, starts_text}

-- a source of two lines, of which the second has a label, over an image of eight bytes
abbrev two_lines : Assembled
two_lines = record {
  sources = (codes "one.s", codes "nop\nmain: nop\n") ∷ [];
  images = replicate 8 0 ∷ [];
}

abbrev rule : ℕ → ℕ → PolicyRule
rule process address = record { process = process; address = address; right = Read; page = Some 0; give = false; until = None }

-- processes with these starts under a page of code, which the first two may read
abbrev processes : List ℕ → List PolicyProcess
processes [] = []
processes (start ∷ rest) = record { start = start; line = 0 } ∷ processes rest

abbrev starting : List ℕ → PolicyValue
starting starts = record {
  frames = 16;
  rate = 0;
  processes = processes starts;
  pages = record { name = codes "code"; source = Some (record { name = codes "one.s"; part = 0 }) } ∷ [];
  rules = rule 1 0x00400000 ∷ rule 2 0x00400000 ∷ [];
}

pub a_line_a_label_and_the_end : starts_text two_lines (starting (0x00400000 ∷ 0x00400004 ∷ 0x00400008 ∷ []))
    ≡ codes "process 1: start 00400000, line 1 of one.s, entries 1\n"
    ++ codes "process 2: start 00400004, line 2 of one.s, label main, entries 1\n"
    ++ codes "process 3: start 00400008, entries 0\n"
unfolding hex4 hex8 digits asm_on_literals
a_line_a_label_and_the_end = refl

-- a byte within a line has its line, and no label
pub within_a_line : starts_text two_lines (starting (0x00400006 ∷ []))
    ≡ codes "process 1: start 00400006, line 2 of one.s, entries 1\n"
unfolding hex4 hex8 digits asm_on_literals
within_a_line = refl

-- where no image is given, no line is told
pub no_image : starts_text (record two_lines { images = [] }) (starting (0x00400000 ∷ []))
    ≡ codes "process 1: start 00400000, entries 1\n"
unfolding hex4 hex8 digits
no_image = refl
