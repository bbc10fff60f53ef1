-- Rights that end, worked out: rows about the definitions alone.
use Rattle.std.proofs.Common.{◌≡◌, ℕ, ◌<◌, Bool, true, false, refl, sym, ap, ◌∙◌, arith, List, [], ◌∷◌, Option, Some, None}
use Rattle.std.specs.Prelude.{replicate}
use Rattle.ds_isa.specs.declared.instr.Kind.TheVariants.{Store}
use Rattle.ds_isa.specs.declared.instr.Size.TheVariants.{Word}
use Rattle.ds_policy.specs.declared.access.Rule.TheVariants.{Number}
use Rattle.ds_policy.specs.declared.access.Verdict.TheVariants.{Denied}
use Rattle.ds_policy.specs.declared.command.Command.TheVariants as command
use Rattle.ds_policy.specs.declared.command.TimedCommand.{TimedCommand}
use Rattle.ds_policy.specs.declared.grant.Right.TheVariants.{Read, Write}
use Rattle.ds_policy.specs.declared.grant.Grant.{Grant}
use Rattle.ds_policy.specs.declared.grant.Entry.{Entry}
use Rattle.ds_policy.specs.declared.grant.EntryPlace.{EntryPlace}
use Rattle.ds_policy.specs.Pages.{Table, entry_at, decide}
use Rattle.ds_policy.specs.Grants.{forbidden_by}
use Rattle.ds_policy.specs.Ends.{is_reached}
use Rattle.ds_log.specs.declared.line.Line.TheVariants.{Denial, Refused}
use Rattle.ds_log.specs.declared.line.Denied.TheVariants as denied
use Rattle.ds_pagemap.specs.Machine.{State}
use Rattle.ds_pagemap.specs.Run.{after}
use Rattle.ds_pagemap.specs.Rows.{run_on_literals, policy, data_at, first, at}
use Rattle.ds_promise.specs.Lines.{lines_along}
use Rattle.ds_promise.specs.Ends.{NoneHasEnded, IsInTime, HoldsInTime, EndsWithParents, turn_grants, grants_along}
use Rattle.ds_promise.specs.Rows.{giving}

-- a guest that may write the page of data up to time 2, and stores to it twice
abbrev two_stores : List TimedCommand → State
two_stores commands = first (policy 0x00400000 (record (data_at 0x00410000 Write) { until = Some 2 } ∷ [])) ("lui $8,0x41" ∷ "sw $0,0($8)" ∷ "sw $0,0($8)" ∷ []) commands

-- the operator grants the page at a time
abbrev granted_at : ℕ → List TimedCommand
granted_at time = at time 1 (command.Grant 1 0x00410000 1 Write false) ∷ []

-- its entry
abbrev up_to_2 : Grant
up_to_2 = record { right = Write; page = Some 1; rule = 2; give = false; giver = 0; parent = None; until = Some 2 }

-- at its first store, and at its second
abbrev at_the_first : State
at_the_first = after 10 (replicate 2 false) (two_stores [])

abbrev at_the_second : State
at_the_second = after 10 (replicate 4 false) (two_stores [])

-- In time.

pub it_stands_before_its_end : entry_at at_the_first.memory.table 1 0x00410000 ≡ Some up_to_2
unfolding run_on_literals
it_stands_before_its_end = refl

pub its_rule_is_left_at_its_end : entry_at at_the_second.memory.table 1 0x00410000 ≡ Some (forbidden_by 2)
unfolding run_on_literals
its_rule_is_left_at_its_end = refl

pub its_rule_is_told_at_its_end : decide at_the_second.memory.table 1 Store Word 0x00410000 ≡ Denied (Number 2) 3
unfolding run_on_literals
its_rule_is_told_at_its_end = refl

pub the_first_store_is_in_time : HoldsInTime at_the_first 1 Store 0x00410000 1
unfolding run_on_literals
the_first_store_is_in_time = record { holds = record { grant = up_to_2; held = refl; right = refl; names = refl }; in_time = refl }

-- as if the right stood at its end
abbrev too_late : State
too_late = record at_the_first { time = 2 }

true_is_not_false : true ≡ false → ⊥
true_is_not_false e = cc

pub a_right_that_stands_at_its_end_is_refused : IsInTime too_late → ⊥
unfolding run_on_literals
a_right_that_stands_at_its_end_is_refused in_time = true_is_not_false (in_time refl 1 0x00410000 up_to_2 refl refl)

pub it_has_ended_at_its_end : NoneHasEnded 2 at_the_first.memory.table → ⊥
unfolding run_on_literals
it_has_ended_at_its_end none = true_is_not_false (none 1 0x00410000 up_to_2 refl refl)

pub a_store_at_the_end_is_refused : HoldsInTime too_late 1 Store 0x00410000 1 → ⊥
unfolding run_on_literals
a_store_at_the_end_is_refused h = true_is_not_false (sym (ends h.holds.grant h.holds.held) ∙ h.in_time)
  where
    one_until : (g h : Grant) → ◌≡◌ {A = Option Grant} (Some g) (Some h) → h.until ≡ g.until
    one_until g h e = cc

    ends : (g : Grant) → entry_at too_late.memory.table 1 0x00410000 ≡ Some g → is_reached 2 g.until ≡ true
    ends g held = ap (is_reached 2) (one_until up_to_2 g held)

-- Granted anew.

pub a_grant_at_the_end_is_one : (touch : Bool) → grants_along 10 (replicate 20 touch) (two_stores (granted_at 2)) 1 0x00410000 ≡ true
unfolding run_on_literals
a_grant_at_the_end_is_one true = refl
a_grant_at_the_end_is_one false = refl

pub a_grant_before_the_end_is_refused : (touch : Bool) → grants_along 10 (replicate 20 touch) (two_stores (granted_at 1)) 1 0x00410000 ≡ false
unfolding run_on_literals
a_grant_before_the_end_is_refused true = refl
a_grant_before_the_end_is_refused false = refl

pub nothing_is_granted_by_itself : (touch : Bool) → grants_along 10 (replicate 20 touch) (two_stores []) 1 0x00410000 ≡ false
unfolding run_on_literals
nothing_is_granted_by_itself true = refl
nothing_is_granted_by_itself false = refl

pub a_grant_is_of_its_place : grants_along 10 (replicate 20 false) (two_stores (granted_at 2)) 1 0x00420000 ≡ false
unfolding run_on_literals
a_grant_is_of_its_place = refl

pub the_second_of_two_commands_may_grant : grants_along 10 (replicate 20 false) (two_stores (at 2 1 (command.Resume 1) ∷ at 2 2 (command.Grant 1 0x00410000 1 Write false) ∷ [])) 1 0x00410000 ≡ true
unfolding run_on_literals
the_second_of_two_commands_may_grant = refl

pub a_give_is_one : turn_grants giving 2 0x00500000 ≡ true
unfolding run_on_literals
a_give_is_one = refl

pub a_give_is_of_its_receiver : turn_grants giving 1 0x00500000 ≡ false
unfolding run_on_literals
a_give_is_of_its_receiver = refl

pub a_give_is_of_its_address : turn_grants giving 2 0x00410000 ≡ false
unfolding run_on_literals
a_give_is_of_its_address = refl

-- Lines.

pub commands_find_no_right_that_has_ended : (touch : Bool) → lines_along 10 (replicate 20 touch) (two_stores (granted_at 2)) ≡ []
unfolding run_on_literals
commands_find_no_right_that_has_ended true = refl
commands_find_no_right_that_has_ended false = refl

pub the_end_is_told_by_its_rule : (touch : Bool) → lines_along 10 (replicate 20 touch) (two_stores []) ≡ Denial 2 1 0x00400008 denied.Store 0x00410000 (Number 2) 3 ∷ []
unfolding run_on_literals
the_end_is_told_by_its_rule true = refl
the_end_is_told_by_its_rule false = refl

pub a_grant_before_the_end_leaves_its_line : (touch : Bool) → lines_along 10 (replicate 20 touch) (two_stores (granted_at 1)) ≡ Refused 1 1 16 ∷ Denial 2 1 0x00400008 denied.Store 0x00410000 (Number 2) 3 ∷ []
unfolding run_on_literals
a_grant_before_the_end_leaves_its_line true = refl
a_grant_before_the_end_leaves_its_line false = refl

-- Shares.

-- the right to read page 0, shared from there, with this end
abbrev read_until : Option ℕ → Option EntryPlace → Grant
read_until until parent = record { right = Read; page = Some 0; rule = 1; give = true; giver = 0; parent = parent; until = until }

abbrev of_process_1 : Option EntryPlace
of_process_1 = Some (record { process = 1; address = 0x1000 })

-- process 1 has this entry, and shared it with process 2 up to time 9
abbrev shared_up_to_9 : List Entry → Table
shared_up_to_9 row = row ∷ (record { address = 0x2000; grant = read_until (Some 9) of_process_1 } ∷ []) ∷ []

pub a_share_that_ends_later_is_refused : EndsWithParents (shared_up_to_9 (record { address = 0x1000; grant = read_until (Some 5) None } ∷ [])) → ⊥
a_share_that_ends_later_is_refused k =
    let s = k.parents 2 0x2000 (read_until (Some 9) of_process_1) (record { process = 1; address = 0x1000 }) refl refl refl in
    five_is_not_nine (ap (λ (g : Grant). g.until) (one_grant (read_until (Some 5) None) s.grant s.held) ∙ refl) s.same
  where
    one_grant : (g h : Grant) → ◌≡◌ {A = Option Grant} (Some g) (Some h) → h ≡ g
    one_grant g h e = cc

    five_is_not_nine : {until : Option ℕ} → until ≡ Some 5 → until ≡ Some 9 → ⊥
    five_is_not_nine e f = apart (sym e ∙ f)
      where
        apart : ◌≡◌ {A = Option ℕ} (Some 5) (Some 9) → ⊥
        apart e = cc

pub a_share_of_nothing_is_refused : EndsWithParents (shared_up_to_9 []) → ⊥
a_share_of_nothing_is_refused k =
    let s = k.parents 2 0x2000 (read_until (Some 9) of_process_1) (record { process = 1; address = 0x1000 }) refl refl refl in
    none s.grant s.held
  where
    none : (g : Grant) → ◌≡◌ {A = Option Grant} None (Some g) → ⊥
    none g e = cc

pub an_entry_of_itself_is_refused : EndsWithParents ((record { address = 0x1000; grant = read_until None of_process_1 } ∷ []) ∷ []) → ⊥
an_entry_of_itself_is_refused k =
    never (k.rank 0 0x1000) (k.parents 1 0x1000 (read_until None of_process_1) (record { process = 1; address = 0x1000 }) refl refl refl).lower
  where
    never : (n : ℕ) → n < n → ⊥
    never n e = absurd (omega (arith, e))
