-- What the laws say of a family of shares, worked out: each row is a theorem about the definitions alone.
use Rattle.std.specs.Prelude.{◌≡◌, refl, ℕ, true, false, List, [], ◌∷◌, map, Option, Some, None}
use Rattle.ds_policy.specs.declared.grant.Right.TheVariants.{Read}
use Rattle.ds_policy.specs.declared.grant.Grant.{Grant}
use Rattle.ds_policy.specs.declared.grant.Entry.{Entry}
use Rattle.ds_policy.specs.declared.grant.EntryPlace.{EntryPlace}
use Rattle.ds_policy.specs.declared.command.Command.{Command}
use Rattle.ds_policy.specs.declared.command.Command.TheVariants as command
use Rattle.ds_policy.specs.Pages.{Table}
use Rattle.ds_pagemap.specs.Laws.{KeepsAllButParent, revokes_above, removes_parent}

-- the entry of a process for the page of data
abbrev pub entry_of : ℕ → EntryPlace
entry_of process = record { process = process; address = 0x00410000 }

-- what this process gave, shared from that entry
abbrev pub shared : ℕ → Option EntryPlace → Grant
shared giver parent = record { right = Read; page = Some 3; rule = 4; give = true; giver = giver; parent = parent; until = None }

-- the same as an entry
abbrev pub entry : ℕ → Option EntryPlace → Entry
entry giver parent = record { address = 0x00410000; grant = shared giver parent }

-- Process 2 has its entry from 1 and gave it on to 3, which gave it on to 4; process 5 has its own from 1.
abbrev pub family : Table
family = (entry 0 None ∷ []) ∷ (entry 1 (Some (entry_of 1)) ∷ []) ∷ (entry 2 (Some (entry_of 2)) ∷ []) ∷ (entry 3 (Some (entry_of 3)) ∷ []) ∷ (entry 1 (Some (entry_of 1)) ∷ []) ∷ []

-- what process 3 has, and what process 4 has
abbrev pub third : Entry
third = entry 2 (Some (entry_of 2))

abbrev pub fourth : Entry
fourth = entry 3 (Some (entry_of 3))

-- what the operator may ask of the entry of a process
abbrev commands : ℕ → List Command
commands p =
    command.Grant p 0x00410000 3 Read true
    ∷ command.Narrow p 0x00410000
    ∷ command.Revoke p 0x00410000
    ∷ command.Drop p 0x00410000
    ∷ command.Resume p
    ∷ command.Stop p
    ∷ []

pub a_revoke_above_counts : map (revokes_above family third) (commands 1) ≡ false ∷ false ∷ true ∷ false ∷ false ∷ false ∷ []
a_revoke_above_counts = refl

pub so_does_one_of_the_parent : map (revokes_above family third) (commands 2) ≡ false ∷ false ∷ true ∷ false ∷ false ∷ false ∷ []
so_does_one_of_the_parent = refl

pub a_revoke_beside_does_not_count : map (revokes_above family third) (commands 5) ≡ false ∷ false ∷ false ∷ false ∷ false ∷ false ∷ []
a_revoke_beside_does_not_count = refl

pub a_revoke_below_does_not_count : map (revokes_above family third) (commands 4) ≡ false ∷ false ∷ false ∷ false ∷ false ∷ false ∷ []
a_revoke_below_does_not_count = refl

pub a_revoke_of_another_page_does_not_count : revokes_above family third (command.Revoke 1 0x00411000) ≡ false
a_revoke_of_another_page_does_not_count = refl

pub a_drop_or_a_stop_removes_the_parent : map (removes_parent third.grant.parent) (commands 2) ≡ false ∷ false ∷ false ∷ true ∷ false ∷ true ∷ []
a_drop_or_a_stop_removes_the_parent = refl

pub what_is_above_the_parent_is_not_the_parent : map (removes_parent third.grant.parent) (commands 1) ≡ false ∷ false ∷ false ∷ false ∷ false ∷ false ∷ []
what_is_above_the_parent_is_not_the_parent = refl

pub a_drop_of_another_page_removes_no_parent : removes_parent third.grant.parent (command.Drop 2 0x00411000) ≡ false
a_drop_of_another_page_removes_no_parent = refl

pub what_has_no_parent_loses_none : map (removes_parent None) (commands 1) ≡ false ∷ false ∷ false ∷ false ∷ false ∷ false ∷ []
what_has_no_parent_loses_none = refl

pub an_entry_may_get_another_parent : KeepsAllButParent (Some third.grant) (Some (shared 2 None))
an_entry_may_get_another_parent = refl
