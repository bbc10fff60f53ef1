-- What changes of the permission table do to the page state, and when they are refused.
use Rattle.std.specs.Prelude.{ℕ, ◌+◌, ◌/◌, ◌%◌, ◌^◌, Bool, true, false, not, ◌&&◌, ◌||◌, nat_lt, nat_le, ◌==◌, if◌then◌else◌, List, [], ◌∷◌, length, map, slice_set, Option, Some, None, Result, Ok, Err, is_some, unwrap_or}
use Rattle.std.specs.List.{list_any}
use Rattle.ds_policy.specs.declared.grant.Right.{Right}
use Rattle.ds_policy.specs.declared.grant.Right.TheVariants.{Nothing, Read, Write}
use Rattle.ds_policy.specs.declared.grant.Grant.{Grant}
use Rattle.ds_policy.specs.Pages.{Pages, Table, entries_of, entry_at, with_entry, bytes_of, count_live, fresh, kept}
use Rattle.ds_policy.specs.Families.{without_entry, without_entries, cut_entry, forbid_entry}

-- the pages that live, and the permission table over them
pub record PageState : Type 0 where
  pub pages : Pages
  pub table : Table
  -- how many of the first pages the policy names
  pub named : ℕ

infixr 3 ◌or_else◌
-- a refusal by its number, or what else comes
abbrev pub ◌or_else◌ : Option ℕ → Result PageState ℕ → Result PageState ℕ
None or_else next = next
(Some number) or_else next = Err number

-- refused by this number where it holds
abbrev pub refused : ℕ → Bool → Option ℕ
refused number b = if b then Some number else None

-- it lets a process read or write
abbrev pub is_some_right : Right → Bool
is_some_right Nothing = false
is_some_right Read = true
is_some_right Write = true

-- it lets a process write
abbrev pub is_write : Right → Bool
is_write Write = true
is_write Read = false
is_write Nothing = false

-- there is an entry, and it lets a process read or write
abbrev pub has_right : Option Grant → Bool
has_right None = false
has_right (Some g) = is_some_right g.right

-- what stands for an entry where there is none: no right, no page, rule 0
abbrev pub no_grant : Grant
no_grant = record { right = Nothing; page = None; rule = 0; give = false; giver = 0; parent = None; until = None }

-- The conditions of the refusals, by their names.
abbrev pub not_page : ℕ → Option ℕ
not_page address = refused 13 (not (address % 4096 == 0) || nat_le (2 ^ 31) address)

-- refused where no entry with a right stands at the address
abbrev pub no_right : PageState → ℕ → ℕ → Option ℕ
no_right s p address = refused 14 (not (has_right (entry_at s.table p address)))

-- refused where no entry stands at the address
abbrev pub no_entry : PageState → ℕ → ℕ → Option ℕ
no_entry s p address = refused 14 (not (is_some (entry_at s.table p address)))

-- refused where the process has 256 entries, none of them at the address
abbrev pub table_full : PageState → ℕ → ℕ → Option ℕ
table_full s p address = refused 17 (nat_le 256 (length (entries_of s.table p)) && not (is_some (entry_at s.table p address)))

-- the region of 4 MiB
abbrev pub region : ℕ → ℕ
region address = address / 2 ^ 22

-- how many different numbers are in the list
abbrev pub count_distinct : List ℕ → ℕ
count_distinct [] = 0
count_distinct (a ∷ rest) = if list_any (λ b. b == a) rest then count_distinct rest else count_distinct rest + 1

-- refused where the address would be in a fifth region of the process
abbrev pub fifth_region : PageState → ℕ → ℕ → Option ℕ
fifth_region s p address = refused 11 (nat_lt 4 (count_distinct (region address ∷ map (λ e. region e.address) (entries_of s.table p))))

-- a copy is refused where as many pages live as may
abbrev pub no_frames : PageState → ℕ → Option ℕ
no_frames s mode = refused 18 ((mode == 3) && nat_le (length s.pages) (count_live s.pages))

-- only pages that the policy or an entry names
abbrev pub live_only : PageState → PageState
live_only s = record s { pages = kept s.pages s.table s.named 0 }

-- with this entry at the address
abbrev pub granted : PageState → ℕ → ℕ → Grant → PageState
granted s p address g = record s { table = with_entry s.table p address g }

-- without the entry at the address, and without a copy that no entry names any more
abbrev pub removed : PageState → ℕ → ℕ → PageState
removed s p address = live_only (record s { table = without_entry s.table p address })

-- the same without all that descends from the entry
abbrev pub cut : PageState → ℕ → ℕ → PageState
cut s p address = live_only (record s { table = cut_entry s.table p address })

-- what is left of an entry whose right was taken by a rule: the rule alone
abbrev pub forbidden_by : ℕ → Grant
forbidden_by rule = record no_grant { rule = rule }

-- without a right for the entry and for all that descends from it, by this rule
abbrev pub forbidden : PageState → ℕ → ℕ → ℕ → PageState
forbidden s p address rule =
    live_only (record s { table = forbid_entry s.table p address (forbidden_by rule) })

-- no such mode, no leave to give, or to be shared for writing with the right to read alone
abbrev pub may_not_give : Grant → ℕ → Bool
may_not_give g mode = (not (nat_lt 0 mode && nat_lt mode 4) || not g.give) || ((mode == 2) && not (is_write g.right))

-- what is shared of a grant that the caller has at an address, with this right
abbrev pub shared_from : ℕ → ℕ → Grant → Right → Grant
shared_from caller address g right =
    record g { right = right; giver = caller; parent = Some (record { process = caller; address = address }) }

-- with a new page of the same bytes, under the least number that no live page has
abbrev pub copied : PageState → Option ℕ → PageState
copied s page = record s { pages = slice_set s.pages (fresh s.pages) (Some (bytes_of s.pages (unwrap_or page 0))) }

-- what is given of the entry of the caller at an address: by mode 1 the page for reading, by 2 for
-- writing, by 3 a copy, which comes of no entry
abbrev pub given : PageState → ℕ → ℕ → Grant → ℕ → ℕ → ℕ → PageState
given s caller address g receiver to mode =
    if mode == 1 then granted s receiver to (shared_from caller address g Read)
    else if mode == 2 then granted s receiver to (shared_from caller address g Write)
    else granted (copied s g.page) receiver to
    (record g { right = Write; page = Some (fresh s.pages); giver = caller; parent = None; until = None })

-- Each of these takes first which processes there are that haven't ended.
abbrev pub give : (ℕ → Bool) → PageState → ℕ → ℕ → ℕ → ℕ → ℕ → Result PageState ℕ
give lives s caller address receiver to mode =
    let g = unwrap_or (entry_at s.table caller address) no_grant in
    refused 12 (not (lives receiver)) or_else
    not_page address or_else
    not_page to or_else
    no_right s caller address or_else
    refused 15 (may_not_give g mode) or_else
    refused 16 (is_some (entry_at s.table receiver to)) or_else
    table_full s receiver to or_else
    fifth_region s receiver to or_else
    no_frames s mode or_else
    Ok (given s caller address g receiver to mode)

-- the giver takes back what it gave, with what was shared on
abbrev pub take : (ℕ → Bool) → PageState → ℕ → ℕ → ℕ → Result PageState ℕ
take lives s caller p address =
    refused 12 (not (lives p)) or_else
    not_page address or_else
    no_right s p address or_else
    refused 19 (not ((unwrap_or (entry_at s.table p address) no_grant).giver == caller)) or_else
    Ok (cut s p address)

-- a process drops an entry of its own
abbrev pub drop_own : PageState → ℕ → ℕ → Result PageState ℕ
drop_own s caller address = not_page address or_else no_right s caller address or_else Ok (removed s caller address)

-- the operator grants a named page
abbrev pub grant : (ℕ → Bool) → PageState → ℕ → ℕ → ℕ → Right → Bool → ℕ → Result PageState ℕ
grant lives s p address page right may_give rule =
    refused 12 (not (lives p)) or_else
    not_page address or_else
    refused 16 (has_right (entry_at s.table p address)) or_else
    table_full s p address or_else
    fifth_region s p address or_else
    Ok (granted s p address (record { right = right; page = Some page; rule = rule; give = may_give; giver = 0; parent = None; until = None }))

-- the operator narrows an entry to reading
abbrev pub narrow : (ℕ → Bool) → PageState → ℕ → ℕ → Result PageState ℕ
narrow lives s p address =
    refused 12 (not (lives p)) or_else not_page address or_else no_right s p address or_else
    Ok (granted s p address (record (unwrap_or (entry_at s.table p address) no_grant) { right = Read }))

-- the operator takes the right of an entry and of what was shared on, and leaves them with the
-- command's rule
abbrev pub revoke : (ℕ → Bool) → PageState → ℕ → ℕ → ℕ → Result PageState ℕ
revoke lives s p address rule =
    refused 12 (not (lives p)) or_else not_page address or_else no_right s p address or_else
    Ok (forbidden s p address rule)

-- the operator's drop removes an entry with right none too
abbrev pub drop_by_command : (ℕ → Bool) → PageState → ℕ → ℕ → Result PageState ℕ
drop_by_command lives s p address =
    refused 12 (not (lives p)) or_else not_page address or_else no_entry s p address or_else
    Ok (removed s p address)

-- all entries of a process go, one after the other; what it gave stays, with the parents handed on
abbrev pub end_process : PageState → ℕ → PageState
end_process s p = live_only (record s { table = without_entries s.table p (entries_of s.table p) })
