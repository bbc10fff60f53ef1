-- Worked limits.
use Rattle.std.specs.Prelude.{codes, refl, ◌≡◌, ℕ, false, [], ◌∷◌, ◌++◌, map, None, Some}
use Rattle.std.specs.Fmt.{digits}
use Rattle.ds_policy.specs.declared.grant.Right.TheVariants.{Read}
use Rattle.ds_policy.specs.declared.policy.PolicyRule.{PolicyRule}
use Rattle.ds_policy.specs.Value.{PolicyValue}
use Rattle.ds_check.specs.Limits.{limits_text, near_limit_text, events_in}

abbrev rule : ℕ → ℕ → PolicyRule
rule process address = record { process = process; address = address; right = Read; page = Some 0; give = false; until = None }

-- two processes, of which the first has rules in four regions
abbrev two_processes : PolicyValue
two_processes = record {
  frames = 1;
  rate = 0;
  processes = record { start = 0x00400000; line = 0 } ∷ record { start = 0x00400000; line = 1 } ∷ [];
  pages = record { name = codes "code"; source = None } ∷ [];
  rules = rule 1 0x00400000 ∷ rule 1 0x00401000 ∷ rule 2 0x00400000 ∷ rule 1 0x7FFFF000 ∷ rule 1 0 ∷ rule 1 0x00800000 ∷ [];
}

pub counts_with_their_limits : limits_text two_processes (codes "# one\n\n5 stop 1\n7 key 0 41\n")
    ≡ codes "processes 2 of 100\nrules 6 of 999\npages 1 of 1024\nframes 1 of 1, near\nevents 2 of 4096\n"
    ++ codes "process 1\n  entries 5 of 256\n  regions 4 of 4, near\nprocess 2\n  entries 1 of 256\n  regions 1 of 4\n"
unfolding digits
counts_with_their_limits = refl

pub nine_tenths_are_near : near_limit_text 899 999 ∷ near_limit_text 900 999 ∷ near_limit_text 3 4 ∷ near_limit_text 89 100 ∷ near_limit_text 90 100 ∷ near_limit_text 100 100 ∷ []
    ≡ codes "\n" ∷ codes ", near\n" ∷ codes "\n" ∷ codes "\n" ∷ codes ", near\n" ∷ codes ", near\n" ∷ []
nine_tenths_are_near = refl

pub lines_that_are_events : map events_in ([] ∷ codes "5 stop 1" ∷ codes "5 stop 1\n" ∷ codes "\n#\n 5\n" ∷ []) ≡ 0 ∷ 1 ∷ 1 ∷ 1 ∷ []
lines_that_are_events = refl
