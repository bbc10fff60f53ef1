-- What changes of pages and table keep: as many processes have entries.
use Rattle.std.proofs.Common.{◌≡◌, ℕ, ◌-◌, ◌==◌, Bool, true, false, not, is_some, unwrap_or, if◌then◌else◌, List, [], ◌∷◌, length, map, filter, length-set, Option, Some, None, Result, Ok, Err, refl, ap, ◌∙◌}
use Rattle.std.proofs.lemmas.List.{length-map}
use Rattle.ds_policy.specs.declared.grant.Grant.{Grant}
use Rattle.ds_policy.specs.declared.grant.Entry.{Entry}
use Rattle.ds_policy.specs.declared.grant.EntryPlace.{EntryPlace}
use Rattle.ds_policy.specs.declared.grant.Right.{Right}
use Rattle.ds_policy.specs.declared.grant.Right.TheVariants.{Read, Write}
use Rattle.ds_policy.specs.Pages.{Table, entries_of, entry_at, put, erased_entry, fresh}
use Rattle.ds_policy.specs.Families.{parent_of, handed_on, all_handed_on, without_entry, without_entries, descends, forbidden_entry}
use Rattle.ds_policy.specs.Grants.{PageState, ◌or_else◌, refused, not_page, no_right, no_entry, has_right, table_full, fifth_region, no_frames, may_not_give, no_grant, granted, removed, cut, forbidden_by, forbidden, shared_from, copied, given, give, take, drop_own, grant, narrow, revoke, drop_by_command, end_process}
use Rattle.ds_policy.specs.Ends.{expired_entry, expired}
use Rattle.ds_pagemap.proofs.Ends.{table_of_expired}

-- as many lists of entries
abbrev pub IsAsLong : PageState → PageState → Type 0
IsAsLong old new = length new.table ≡ length old.table

abbrev pub IsAsLongIfDone : PageState → Result PageState ℕ → Type 0
IsAsLongIfDone old (Ok new) = IsAsLong old new
IsAsLongIfDone old (Err number) = Unit {0}

or_refused : (s : PageState) (o : Option ℕ) (r : Result PageState ℕ) → IsAsLongIfDone s r → IsAsLongIfDone s (o or_else r)
or_refused s None r k = k
or_refused s (Some number) r k = tt

either_way : (b : Bool) (s t u : PageState) → IsAsLong s t → IsAsLong s u → IsAsLong s (if b then t else u)
either_way true s t u k l = k
either_way false s t u k l = l

granted_long : (s : PageState) (p address : ℕ) (g : Grant) → IsAsLong s (granted s p address g)
granted_long s p address g = length-set s.table (p - 1) (put (entries_of s.table p) address g)

-- with parents handed on, with entries cut or forbidden
handed_on_long : (t : Table) (p address : ℕ) (parent : Option EntryPlace) → length (all_handed_on t p address parent) ≡ length t
handed_on_long t p address parent = length-map t (map (handed_on p address parent))

without_long : (t : Table) (p address : ℕ) → length (without_entry t p address) ≡ length t
without_long t p address = handed_on_long (erased_entry t p address) p address (parent_of (entry_at t p address)) ∙ length-set t (p - 1) _

all_without_long : (p : ℕ) (es : List Entry) (t : Table) → length (without_entries t p es) ≡ length t
all_without_long p [] t = refl
all_without_long p (e ∷ rest) t = all_without_long p rest (without_entry t p e.address) ∙ without_long t p e.address

removed_long : (s : PageState) (p address : ℕ) → IsAsLong s (removed s p address)
removed_long s p address = without_long s.table p address

cut_long : (s : PageState) (p address : ℕ) → IsAsLong s (cut s p address)
cut_long s p address =
    without_long (map (filter (λ e. not (descends s.table p address e))) s.table) p address
    ∙ length-map s.table (filter (λ e. not (descends s.table p address e)))

forbidden_long : (s : PageState) (p address rule : ℕ) → IsAsLong s (forbidden s p address rule)
forbidden_long s p address rule =
    length-set (map (map (forbidden_entry s.table p address (forbidden_by rule))) s.table) (p - 1) _
    ∙ length-map s.table (map (forbidden_entry s.table p address (forbidden_by rule)))

given_long : (s : PageState) (caller address : ℕ) (g : Grant) (receiver to mode : ℕ) → IsAsLong s (given s caller address g receiver to mode)
given_long s caller address g receiver to mode =
    let read : Grant = shared_from caller address g Read in
    let write : Grant = shared_from caller address g Write in
    let copy : Grant = record g { right = Write; page = Some (fresh s.pages); giver = caller; parent = None; until = None } in
    either_way (mode == 1) s (granted s receiver to read) (if mode == 2 then granted s receiver to write else granted (copied s g.page) receiver to copy)
    (granted_long s receiver to read)
    (either_way (mode == 2) s (granted s receiver to write) (granted (copied s g.page) receiver to copy) (granted_long s receiver to write) (granted_long (copied s g.page) receiver to copy))

pub give_long : (lives : ℕ → Bool) (s : PageState) (caller address receiver to mode : ℕ) → IsAsLongIfDone s (give lives s caller address receiver to mode)
give_long lives s caller address receiver to mode =
    let g = unwrap_or (entry_at s.table caller address) no_grant in
    or_refused s (refused 12 (not (lives receiver))) _ (
    or_refused s (not_page address) _ (
    or_refused s (not_page to) _ (
    or_refused s (no_right s caller address) _ (
    or_refused s (refused 15 (may_not_give g mode)) _ (
    or_refused s (refused 16 (is_some (entry_at s.table receiver to))) _ (
    or_refused s (table_full s receiver to) _ (
    or_refused s (fifth_region s receiver to) _ (
    or_refused s (no_frames s mode) (Ok (given s caller address g receiver to mode)) (given_long s caller address g receiver to mode)))))))))

pub take_long : (lives : ℕ → Bool) (s : PageState) (caller p address : ℕ) → IsAsLongIfDone s (take lives s caller p address)
take_long lives s caller p address =
    or_refused s (refused 12 (not (lives p))) _ (
    or_refused s (not_page address) _ (
    or_refused s (no_right s p address) _ (
    or_refused s (refused 19 (not ((unwrap_or (entry_at s.table p address) no_grant).giver == caller))) (Ok (cut s p address)) (cut_long s p address))))

pub drop_own_long : (s : PageState) (caller address : ℕ) → IsAsLongIfDone s (drop_own s caller address)
drop_own_long s caller address =
    or_refused s (not_page address) _ (
    or_refused s (no_right s caller address) (Ok (removed s caller address)) (removed_long s caller address))

pub grant_long : (lives : ℕ → Bool) (s : PageState) (p address page : ℕ) (right : Right) (may : Bool) (rule : ℕ) → IsAsLongIfDone s (grant lives s p address page right may rule)
grant_long lives s p address page right may rule =
    let g : Grant = record { right = right; page = Some page; rule = rule; give = may; giver = 0; parent = None; until = None } in
    or_refused s (refused 12 (not (lives p))) _ (
    or_refused s (not_page address) _ (
    or_refused s (refused 16 (has_right (entry_at s.table p address))) _ (
    or_refused s (table_full s p address) _ (
    or_refused s (fifth_region s p address) (Ok (granted s p address g)) (granted_long s p address g)))))

pub narrow_long : (lives : ℕ → Bool) (s : PageState) (p address : ℕ) → IsAsLongIfDone s (narrow lives s p address)
narrow_long lives s p address =
    let g : Grant = record (unwrap_or (entry_at s.table p address) no_grant) { right = Read } in
    or_refused s (refused 12 (not (lives p))) _ (
    or_refused s (not_page address) _ (
    or_refused s (no_right s p address) (Ok (granted s p address g)) (granted_long s p address g)))

pub revoke_long : (lives : ℕ → Bool) (s : PageState) (p address rule : ℕ) → IsAsLongIfDone s (revoke lives s p address rule)
revoke_long lives s p address rule =
    or_refused s (refused 12 (not (lives p))) _ (
    or_refused s (not_page address) _ (
    or_refused s (no_right s p address) (Ok (forbidden s p address rule)) (forbidden_long s p address rule)))

pub drop_long : (lives : ℕ → Bool) (s : PageState) (p address : ℕ) → IsAsLongIfDone s (drop_by_command lives s p address)
drop_long lives s p address =
    or_refused s (refused 12 (not (lives p))) _ (
    or_refused s (not_page address) _ (
    or_refused s (no_entry s p address) (Ok (removed s p address)) (removed_long s p address)))

pub expired_long : (s : PageState) (time : ℕ) → IsAsLong s (expired s time)
expired_long s time = ap length (table_of_expired s time) ∙ length-map s.table (map (expired_entry time))

pub end_long : (s : PageState) (p : ℕ) → IsAsLong s (end_process s p)
end_long s p = all_without_long p (entries_of s.table p) s.table
