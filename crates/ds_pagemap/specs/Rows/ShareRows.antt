-- A page shared on, then taken or revoked, worked out: each row is a theorem about the definitions alone.
use Rattle.std.specs.Prelude.{◌≡◌, refl, codes, ℕ, Bool, true, false, List, [], ◌∷◌, ◌++◌, ◌-◌, map, replicate, Option, Some, None}
use Prim.Native.String.{String}
use Rattle.ds_policy.specs.declared.grant.Right.TheVariants.{Read, Write}
use Rattle.ds_policy.specs.declared.access.Rule.TheVariants.{Number}
use Rattle.ds_policy.specs.declared.command.Command.TheVariants as command
use Rattle.ds_policy.specs.declared.command.TimedCommand.{TimedCommand}
use Rattle.ds_policy.specs.declared.policy.PolicyPage.{PolicyPage}
use Rattle.ds_policy.specs.declared.policy.PolicyRule.{PolicyRule}
use Rattle.ds_policy.specs.Value.{PolicyValue}
use Rattle.ds_asm.specs.Assembly.{assembled}
use Rattle.ds_log.specs.declared.line.Line.{Line}
use Rattle.ds_log.specs.declared.line.Line.TheVariants.{Denial}
use Rattle.ds_log.specs.declared.line.Denied.TheVariants as denied
use Rattle.ds_pagemap.specs.Machine.{State}
use Rattle.ds_pagemap.specs.First.{first_state}
use Rattle.ds_pagemap.specs.Rows.{run_on_literals, source, image_or_none, shown, on_line_0, at}

-- a page of code
abbrev code : String → PolicyPage
code name = record { name = codes name; source = Some (record { name = codes name; part = 0 }) }

-- a process may read its page of code
abbrev reads : ℕ → PolicyRule
reads p = record { process = p; address = 0x00400000; right = Read; page = Some (p - 1); give = false; until = None }

-- three processes with their code, and a page of data that the first may write and give, until some
-- time
abbrev pub three : Option ℕ → PolicyValue
three until = record {
  frames = 16;
  rate = 0;
  processes = replicate 3 (record { start = 0x00400000; line = 0 });
  pages = code "a" ∷ code "b" ∷ code "c" ∷ record { name = codes "data"; source = None } ∷ [];
  rules = reads 1 ∷ reads 2 ∷ reads 3 ∷ record { process = 1; address = 0x00410000; right = Write; page = Some 3; give = true; until = until } ∷ [];
}

-- gives the page of data at its address, by what these lines say of the receiver and the mode
abbrev gives : String → String → List String
gives receiver mode = "lui $8,0x41" ∷ "addu $4,$8,$0" ∷ receiver ∷ "addu $6,$8,$0" ∷ mode ∷ "addiu $2,$0,6" ∷ "syscall" ∷ []

-- a call without arguments
abbrev calls : String → List String
calls number = number ∷ "syscall" ∷ []

-- shares with process 2, yields, takes that back and ends
abbrev shares_and_takes : List String
shares_and_takes = gives "addiu $5,$0,2" "addiu $7,$0,2" ++ calls "addiu $2,$0,3" ++ "addiu $4,$0,2" ∷ "addu $5,$8,$0" ∷ "addiu $2,$0,7" ∷ "syscall" ∷ calls "addiu $2,$0,0"

-- gives on to process 3 in a mode, then yields or ends, and loads
abbrev pub gives_on : String → String → List String
gives_on mode number = gives "addiu $5,$0,3" mode ++ calls number ++ "lw $9,0($8)" ∷ []

-- stores, yields, stores
abbrev stores_twice : List String
stores_twice = "lui $8,0x41" ∷ "sw $0,0($8)" ∷ calls "addiu $2,$0,3" ++ "sw $0,0($8)" ∷ []

-- the first state of the three, by what process 2 does
abbrev pub sharing : PolicyValue → List String → List TimedCommand → State
sharing policy second commands =
    first_state policy (map (λ lines. image_or_none (assembled (source lines))) (shares_and_takes ∷ second ∷ stores_twice ∷ [])) (record { commands = commands; characters = [] })

-- process 1's page is revoked
abbrev revoked : List TimedCommand
revoked = at 22 1 (command.Revoke 1 0x00410000) ∷ []

-- the load of process 2 and the store of process 3, denied by a rule
abbrev pub load_denied : ℕ → Line
load_denied rule = Denial 28 2 0x00400024 denied.Load 0x00410000 (Number rule) 2

abbrev pub store_denied : ℕ → ℕ → Line
store_denied time rule = Denial time 3 0x00400010 denied.Store 0x00410000 (Number rule) 3

pub what_was_shared_on_is_taken_too : (touch : Bool) → shown 40 80 touch (sharing (three None) (gives_on "addiu $7,$0,2" "addiu $2,$0,3") []) ≡ (false, on_line_0 [], load_denied 0 ∷ store_denied 29 0 ∷ [], 40)
unfolding run_on_literals
what_was_shared_on_is_taken_too true = refl
what_was_shared_on_is_taken_too false = refl

pub what_was_shared_on_is_revoked_too : (touch : Bool) → shown 40 80 touch (sharing (three None) (gives_on "addiu $7,$0,2" "addiu $2,$0,3") revoked) ≡ (false, on_line_0 [], load_denied 1001 ∷ store_denied 29 1001 ∷ [], 40)
unfolding run_on_literals
what_was_shared_on_is_revoked_too true = refl
what_was_shared_on_is_revoked_too false = refl

-- the one between has ended
pub a_share_of_an_ended_process_is_revoked_with_what_was_above : (touch : Bool) → shown 40 80 touch (sharing (three None) (gives_on "addiu $7,$0,2" "addiu $2,$0,0") revoked) ≡ (false, on_line_0 [], store_denied 28 1001 ∷ [], 40)
unfolding run_on_literals
a_share_of_an_ended_process_is_revoked_with_what_was_above true = refl
a_share_of_an_ended_process_is_revoked_with_what_was_above false = refl

-- nothing is left at the address to be taken
pub a_share_of_an_ended_process_stays : (touch : Bool) → shown 40 80 touch (sharing (three None) (gives_on "addiu $7,$0,2" "addiu $2,$0,0") []) ≡ (false, on_line_0 [], [], 40)
unfolding run_on_literals
a_share_of_an_ended_process_stays true = refl
a_share_of_an_ended_process_stays false = refl

pub a_copy_is_not_taken : (touch : Bool) → shown 40 80 touch (sharing (three None) (gives_on "addiu $7,$0,3" "addiu $2,$0,3") []) ≡ (false, on_line_0 [], load_denied 0 ∷ [], 40)
unfolding run_on_literals
a_copy_is_not_taken true = refl
a_copy_is_not_taken false = refl
