-- Worked rows of rights that end.
use Rattle.std.specs.Prelude.{refl, ◌≡◌, ℕ, zero, suc, true, false, [], ◌∷◌, map, Option, Some, None}
use Rattle.std.proofs.Common.{arith}
use Rattle.ds_policy.specs.declared.grant.Right.{Right}
use Rattle.ds_policy.specs.declared.grant.Right.TheVariants.{Nothing, Read, Write}
use Rattle.ds_policy.specs.declared.grant.Entry.{Entry}
use Rattle.ds_policy.specs.Pages.{Table, Pages}
use Rattle.ds_policy.specs.Grants.{PageState}
use Rattle.ds_policy.specs.Ends.{has_expired, expired_entry, has_some_expired, expired_table, expired, NoneEndsBefore}
use Rattle.ds_policy.specs.Inner.Ends.{first_expired}

-- an entry for page 1 by rule 7, shared by process 2, with its right and its end
abbrev entry : ℕ → Right → Option ℕ → Entry
entry address right until = record {
  address = address;
  grant = record { right = right; page = Some 1; rule = 7; give = true; giver = 2; parent = Some (record { process = 2; address = 0 }); until = until };
}

-- what is left of it
abbrev ended : ℕ → Entry
ended address = record { address = address; grant = record { right = Nothing; page = None; rule = 7; give = false; giver = 0; parent = None; until = None } }

pub the_rule_alone_is_left : map (expired_entry 3) (entry 4096 Read (Some 3) ∷ entry 8192 Write (Some 1) ∷ [])
    ≡ ended 4096 ∷ ended 8192 ∷ []
the_rule_alone_is_left = refl

pub what_has_not_ended_stays : map (expired_entry 3) (entry 0 Read (Some 4) ∷ entry 0 Write None ∷ entry 0 Nothing (Some 1) ∷ [])
    ≡ entry 0 Read (Some 4) ∷ entry 0 Write None ∷ entry 0 Nothing (Some 1) ∷ []
what_has_not_ended_stays = refl

pub a_right_ends_at_its_time_and_stays_ended : map (λ time. has_expired time (entry 0 Read (Some 2))) (0 ∷ 1 ∷ 2 ∷ 3 ∷ [])
    ≡ false ∷ false ∷ true ∷ true ∷ []
a_right_ends_at_its_time_and_stays_ended = refl

-- three processes, of which the second has no entry, and one of the third no right
abbrev table : Table
table =
    (entry 0 Read None ∷ entry 4096 Write (Some 2) ∷ []) ∷
    [] ∷
    (entry 0 Nothing (Some 1) ∷ entry 8192 Read (Some 3) ∷ entry 4096 Read (Some 2) ∷ []) ∷ []

pub each_process_loses_what_ends : expired_table 2 table ≡
    (entry 0 Read None ∷ ended 4096 ∷ []) ∷
    [] ∷
    (entry 0 Nothing (Some 1) ∷ entry 8192 Read (Some 3) ∷ ended 4096 ∷ []) ∷ []
each_process_loses_what_ends = refl

pub the_first_right_ends_at_2 : map (λ time. has_some_expired time table) (0 ∷ 1 ∷ 2 ∷ 3 ∷ [])
    ≡ false ∷ false ∷ true ∷ true ∷ []
the_first_right_ends_at_2 = refl

pub the_first_in_the_order_of_the_entries : map (λ time. first_expired time (entry 0 Nothing (Some 1) ∷ entry 8192 Read (Some 3) ∷ entry 4096 Read (Some 2) ∷ [])) (1 ∷ 2 ∷ 3 ∷ [])
    ≡ None ∷ Some (entry 4096 Read (Some 2)) ∷ Some (entry 8192 Read (Some 3)) ∷ []
the_first_in_the_order_of_the_entries = refl

-- these pages, of which the policy names the first, where one entry of process 1 ends at 2
abbrev state : Pages → Entry → PageState
state pages e = record { pages = pages; table = (e ∷ []) ∷ []; named = 1 }

pub a_copy_goes_with_its_last_right : expired (state (Some [] ∷ Some [] ∷ []) (entry 4096 Write (Some 2))) 2
    ≡ state (Some [] ∷ None ∷ []) (ended 4096)
a_copy_goes_with_its_last_right = refl

pub nothing_changes_before_an_end : expired (state (Some [] ∷ Some [] ∷ Some [] ∷ []) (entry 4096 Write (Some 2))) 1
    ≡ state (Some [] ∷ Some [] ∷ Some [] ∷ []) (entry 4096 Write (Some 2))
nothing_changes_before_an_end = refl

pub no_right_ends_before_2 : NoneEndsBefore 2 table
no_right_ends_before_2 zero early = refl
no_right_ends_before_2 (suc zero) early = refl
no_right_ends_before_2 (suc (suc n)) early = absurd (omega arith)

true_is_not_false : true ≡ false → ⊥
true_is_not_false e = cc

pub a_right_ends_before_3 : NoneEndsBefore 3 table → ⊥
a_right_ends_before_3 none = true_is_not_false (none 2 (omega arith))
