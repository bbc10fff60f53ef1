-- Worked lines of entries.
use Rattle.std.specs.Prelude.{codes, refl, ◌≡◌, ℕ, true, [], ◌∷◌, None, Some}
use Rattle.std.specs.Fmt.{digits}
use Rattle.ds_policy.specs.declared.grant.Entry.{Entry}
use Rattle.ds_policy.specs.declared.grant.Grant.{Grant}
use Rattle.ds_policy.specs.declared.grant.Right.TheVariants.{Read, Write}
use Rattle.ds_policy.specs.Grants.{forbidden_by}
use Rattle.ds_text.specs.Digits.{hex4, hex8}
use Rattle.ds_words.specs.Views.{whole}
use Rattle.ds_trace.specs.Entries.{changed_text, right_text, tables_from}

-- the data page, by a rule of the policy
abbrev own : Grant
own = record { right = Write; page = Some 1; rule = 3; give = true; giver = 0; parent = None; until = Some 40 }

-- its share
abbrev share : Grant
share = record own { right = Read; giver = 1; parent = Some (record { process = 1; address = 0x00410000 }) }

abbrev entry : ℕ → Grant → Entry
entry address g = record { address = address; grant = g }

-- what is in the one and not in the other has gone, what is otherwise is told anew, and what stayed is not told of
pub what_has_gone_what_is_otherwise_and_what_stayed :
    changed_text whole 30 2 (entry 0x00420000 share ∷ entry 0x00430000 share ∷ entry 0x00410000 own ∷ []) (entry 0x00430000 share ∷ entry 0x00410000 (forbidden_by 3) ∷ entry 0x00440000 own ∷ [])
    ≡ codes "30 entry 2 00420000 gone\n30 entry 2 00410000 none rule 3\n30 entry 2 00440000 write page 2 rule 3 until 40 give\n"
unfolding hex4 hex8 digits right_text
what_has_gone_what_is_otherwise_and_what_stayed = refl

-- an entry whose parent has gone is told anew
pub a_share_that_loses_its_parent :
    changed_text whole 34 2 (entry 0x00420000 share ∷ []) (entry 0x00420000 (record share { parent = None }) ∷ [])
    ≡ codes "34 entry 2 00420000 read page 2 rule 3 until 40 give giver 1\n"
unfolding hex4 hex8 digits right_text
a_share_that_loses_its_parent = refl

-- all entries, process by process
pub what_has_changed_from_a_table_without_entries :
    tables_from whole 9 [] ((entry 0x00410000 own ∷ []) ∷ [] ∷ (entry 0x00410000 share ∷ []) ∷ []) 1 3
    ≡ codes "9 entry 1 00410000 write page 2 rule 3 until 40 give\n9 entry 3 00410000 read page 2 rule 3 until 40 give giver 1 parent 1 00410000\n"
unfolding hex4 hex8 digits right_text
what_has_changed_from_a_table_without_entries = refl
