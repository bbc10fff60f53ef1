-- A worked permission table.
use Rattle.std.specs.Prelude.{codes, refl, ◌≡◌, ℕ, Bool, true, false, [], ◌∷◌, ◌++◌, Option, None, Some}
use Rattle.std.specs.Fmt.{digits}
use Rattle.ds_policy.specs.declared.grant.Right.{Right}
use Rattle.ds_policy.specs.declared.grant.Right.TheVariants.{Nothing, Read, Write}
use Rattle.ds_policy.specs.declared.policy.PolicyRule.{PolicyRule}
use Rattle.ds_policy.specs.Value.{PolicyValue}
use Rattle.ds_text.specs.Digits.{hex4, hex8}
use Rattle.ds_check.specs.Permissions.{table_text, right_text}

abbrev rule : ℕ → ℕ → Right → Option ℕ → Bool → Option ℕ → PolicyRule
rule process address right page give until = record { process = process; address = address; right = right; page = page; give = give; until = until }

-- three processes; the third has no entry
abbrev three_processes : PolicyValue
three_processes = record {
  frames = 16;
  rate = 0;
  processes = record { start = 0x00400000; line = 0 } ∷ record { start = 0x00400000; line = 1 } ∷ record { start = 0; line = 2 } ∷ [];
  pages = record { name = codes "code"; source = Some (record { name = codes "one.s"; part = 12 }) } ∷ record { name = codes "data"; source = None } ∷ [];
  rules = rule 1 0x00400000 Read (Some 0) false (Some 500)
      ∷ rule 2 0x7FFFF000 Write (Some 1) true (Some 7)
      ∷ rule 1 0x0041A000 Nothing None false None
      ∷ [];
}

pub entries_by_their_processes : table_text three_processes
    ≡ codes "process 1\n  00400000 read  code, part 12 of one.s, rule 1, until 500\n  0041A000 none  rule 3\n"
    ++ codes "process 2\n  7FFFF000 write data, zero, rule 2, until 7, give (take and revoke reach what is shared on)\nprocess 3\n"
unfolding hex4 hex8 digits right_text
entries_by_their_processes = refl
