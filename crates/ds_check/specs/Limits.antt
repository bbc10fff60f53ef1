-- What a policy and an input have how many of, beside the limits.
use Rattle.std.specs.Prelude.{codes, decimal, ℕ, zero, suc, ◌*◌, ◌==◌, not, nat_le, if◌then◌else◌, List, [], ◌++◌, length, count_by}
use Rattle.ds_policy.specs.declared.policy.PolicyRule.{PolicyRule}
use Rattle.ds_policy.specs.Grants.{count_distinct}
use Rattle.ds_policy.specs.InputText.{lines_of, is_skipped}
use Rattle.ds_policy.specs.PolicyParts.{regions_of}
use Rattle.ds_policy.specs.Value.{PolicyValue}

-- a mark where nine tenths of a limit are reached; the end of the line
abbrev pub near_limit_text : ℕ → ℕ → List ℕ
near_limit_text count limit = if nat_le (9 * limit) (10 * count) then codes ", near\n" else codes "\n"

-- a count and its limit
abbrev pub limit_text : List ℕ → ℕ → ℕ → List ℕ
limit_text what count limit = what ++ decimal count ++ codes " of " ++ decimal limit ++ near_limit_text count limit

-- how many rules a process has
abbrev pub entries_in : List PolicyRule → ℕ → ℕ
entries_in rules process = count_by (λ (r : PolicyRule). r.process == process) rules

-- how many lines of an input are neither empty nor a comment
abbrev pub events_in : List ℕ → ℕ
events_in input = count_by (λ line. not (is_skipped line)) (lines_of input)

-- what a policy has, beside so many events; as many frames are taken at the start as there are pages
abbrev pub of_all : PolicyValue → ℕ → List ℕ
of_all p events =
    limit_text (codes "processes ") (length p.processes) 100
    ++ limit_text (codes "rules ") (length p.rules) 999
    ++ limit_text (codes "pages ") (length p.pages) 1024
    ++ limit_text (codes "frames ") (length p.pages) p.frames
    ++ limit_text (codes "events ") events 4096

-- what a process has
abbrev pub limits_of_process : List PolicyRule → ℕ → List ℕ
limits_of_process rules process =
    codes "process " ++ decimal process ++ codes "\n"
    ++ limit_text (codes "  entries ") (entries_in rules process) 256
    ++ limit_text (codes "  regions ") (count_distinct (regions_of process rules)) 4

-- what the processes from 1 to n have
abbrev pub of_processes : List PolicyRule → ℕ → List ℕ
of_processes rules zero = []
of_processes rules (suc n) = of_processes rules n ++ limits_of_process rules (suc n)

-- what is near a limit
abbrev pub limits_text : PolicyValue → List ℕ → List ℕ
limits_text p input = of_all p (events_in input) ++ of_processes p.rules (length p.processes)
