-- Rights that end, worked out: each row is a theorem about the definitions alone.
use Rattle.std.specs.Prelude.{◌≡◌, refl, ℕ, Bool, true, false, List, [], ◌∷◌, Option, Some, None}
use Rattle.ds_policy.specs.declared.grant.Right.TheVariants.{Read, Write}
use Rattle.ds_policy.specs.declared.access.Rule.TheVariants.{Number}
use Rattle.ds_policy.specs.declared.command.Command.TheVariants as command
use Rattle.ds_policy.specs.declared.command.TimedCommand.{TimedCommand}
use Rattle.ds_policy.specs.Value.{PolicyValue}
use Rattle.ds_log.specs.declared.line.Line.{Line}
use Rattle.ds_log.specs.declared.line.Line.TheVariants.{Denial, Refused}
use Rattle.ds_log.specs.declared.line.Denied.TheVariants as denied
use Rattle.ds_pagemap.specs.Rows.{run_on_literals, policy, first, shown, on_line_0, at}
use Rattle.ds_pagemap.specs.Rows.ShareRows.{three, gives_on, sharing, load_denied, store_denied}

-- one process, with the ends of the rules of its page of code and its page of data
abbrev ending : Option ℕ → Option ℕ → PolicyValue
ending code page = record (policy 0x00400000 []) {
  rules = record { process = 1; address = 0x00400000; right = Read; page = Some 0; give = false; until = code } ∷ record { process = 1; address = 0x00410000; right = Write; page = Some 1; give = false; until = page } ∷ [];
}

-- what two stores come to, under the ends and these commands
abbrev two_stores : Bool → Option ℕ → Option ℕ → List TimedCommand → Bool × List (List ℕ) × List Line × ℕ
two_stores touch code page commands = shown 10 20 touch (first (ending code page) ("lui $8,0x41" ∷ "sw $0,0($8)" ∷ "sw $0,0($8)" ∷ []) commands)

-- the operator grants the page of data at a time
abbrev granted_at : ℕ → List TimedCommand
granted_at time = at time 1 (command.Grant 1 0x00410000 1 Write false) ∷ []

-- the second store, denied by the rule of the entry that ended
abbrev second_store : Line
second_store = Denial 2 1 0x00400008 denied.Store 0x00410000 (Number 2) 3

pub an_entry_ends_at_its_time : (touch : Bool) → two_stores touch None (Some 2) [] ≡ (false, on_line_0 [], second_store ∷ [], 10)
unfolding run_on_literals
an_entry_ends_at_its_time true = refl
an_entry_ends_at_its_time false = refl

pub entries_end_before_commands : (touch : Bool) → two_stores touch None (Some 2) (granted_at 2) ≡ (false, on_line_0 [], [], 10)
unfolding run_on_literals
entries_end_before_commands true = refl
entries_end_before_commands false = refl

pub an_entry_stands_up_to_its_end : (touch : Bool) → two_stores touch None (Some 2) (granted_at 1) ≡ (false, on_line_0 [], Refused 1 1 16 ∷ second_store ∷ [], 10)
unfolding run_on_literals
an_entry_stands_up_to_its_end true = refl
an_entry_stands_up_to_its_end false = refl

pub code_may_end : (touch : Bool) → two_stores touch (Some 1) None [] ≡ (false, on_line_0 [], Denial 1 1 0x00400004 denied.Fetch 0x00400004 (Number 1) 2 ∷ [], 10)
unfolding run_on_literals
code_may_end true = refl
code_may_end false = refl

pub what_was_shared_on_ends_too : (touch : Bool) → shown 40 80 touch (sharing (three (Some 22)) (gives_on "addiu $7,$0,2" "addiu $2,$0,3") []) ≡ (false, on_line_0 [], load_denied 4 ∷ store_denied 29 4 ∷ [], 40)
unfolding run_on_literals
what_was_shared_on_ends_too true = refl
what_was_shared_on_ends_too false = refl
