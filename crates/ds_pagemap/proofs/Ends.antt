-- What is left of the table where rights end.
use Rattle.std.proofs.Common.{◌≡◌, ℕ, ◌&&◌, Bool, true, false, if◌then◌else◌, List, [], ◌∷◌, map, Some, None, refl, sym, ap, ◌∙◌}
use Rattle.std.specs.List.{list_any}
use Rattle.std.specs.Option.{option_map}
use Rattle.std.proofs.lemmas.Bool.{or_parts}
use Rattle.ds_policy.specs.declared.grant.Grant.{Grant}
use Rattle.ds_policy.specs.declared.grant.Entry.{Entry}
use Rattle.ds_policy.specs.Pages.{Table, entry_at}
use Rattle.ds_policy.specs.Grants.{PageState, is_some_right, forbidden_by, live_only}
use Rattle.ds_policy.specs.Ends.{is_reached, has_expired, expired_entry, has_some_expired, expired_table, expired}
use Rattle.ds_pagemap.proofs.Entries.{entry_at-map}

-- a grant; where its right has ended by a time, its rule alone is left
abbrev pub expired_grant : ℕ → Grant → Grant
expired_grant time g = if is_some_right g.right && is_reached time g.until then forbidden_by g.rule else g

-- what stands at a place of the table without the rights that have ended
pub expired_at : (time : ℕ) (t : Table) (q a : ℕ) → entry_at (expired_table time t) q a ≡ option_map (expired_grant time) (entry_at t q a)
expired_at time t q a =
    entry_at-map (expired_entry time) (expired_grant time)
    (λ e. address e (has_expired time e)) (λ e. grant e (has_expired time e)) t q a
  where
    address : (e : Entry) (over : Bool) → (if over then record e { grant = forbidden_by e.grant.rule } else e).address ≡ e.address
    address e true = refl
    address e false = refl

    grant : (e : Entry) (over : Bool) → (if over then record e { grant = forbidden_by e.grant.rule } else e).grant ≡ (if over then forbidden_by e.grant.rule else e.grant)
    grant e true = refl
    grant e false = refl

-- an entry whose right has ended keeps its rule alone
pub expired_ends : (time : ℕ) (t : Table) (q a : ℕ) (g : Grant) → entry_at t q a ≡ Some g → has_expired time (record { address = a; grant = g }) ≡ true → entry_at (expired_table time t) q a ≡ Some (forbidden_by g.rule)
expired_ends time t q a g has over = expired_at time t q a ∙ (ap (option_map (expired_grant time)) has ∙ ap (λ b. Some (if b then forbidden_by g.rule else g)) over)

-- every other entry stays
pub expired_stays : (time : ℕ) (t : Table) (q a : ℕ) (g : Grant) → entry_at t q a ≡ Some g → has_expired time (record { address = a; grant = g }) ≡ false → entry_at (expired_table time t) q a ≡ Some g
expired_stays time t q a g has on = expired_at time t q a ∙ (ap (option_map (expired_grant time)) has ∙ ap (λ b. Some (if b then forbidden_by g.rule else g)) on)

-- and where there is none, none comes
pub expired_none : (time : ℕ) (t : Table) (q a : ℕ) → entry_at t q a ≡ None → entry_at (expired_table time t) q a ≡ None
expired_none time t q a none = expired_at time t q a ∙ ap (option_map (expired_grant time)) none

-- Where no right has ended, nothing is changed.

row_same : (time : ℕ) (es : List Entry) → list_any (has_expired time) es ≡ false → map (expired_entry time) es ≡ es
row_same time [] none = refl
row_same time (e ∷ rest) none =
    let parts = or_parts (has_expired time e) (list_any (has_expired time) rest) none in
    ap (λ b. (if b then record e { grant = forbidden_by e.grant.rule } else e) ∷ map (expired_entry time) rest) parts.0
    ∙ ap (λ es. e ∷ es) (row_same time rest parts.1)

pub expired_table_same : (time : ℕ) (t : Table) → has_some_expired time t ≡ false → expired_table time t ≡ t
expired_table_same time [] none = refl
expired_table_same time (es ∷ rest) none =
    let parts = or_parts (list_any (has_expired time) es) (has_some_expired time rest) none in
    ap (λ es. es ∷ expired_table time rest) (row_same time es parts.0) ∙ ap (λ t. es ∷ t) (expired_table_same time rest parts.1)

pub expired_same : (s : PageState) (time : ℕ) → has_some_expired time s.table ≡ false → expired s time ≡ s
expired_same s time none = ap (λ b. if b then live_only (record s { table = expired_table time s.table }) else s) none

-- the table that is left is the one without the rights that have ended, in either case
pub table_of_expired : (s : PageState) (time : ℕ) → (expired s time).table ≡ expired_table time s.table
table_of_expired s time = either (has_some_expired time s.table) refl
  where
    either : (some : Bool) → has_some_expired time s.table ≡ some → (if some then live_only (record s { table = expired_table time s.table }) else s).table ≡ expired_table time s.table
    either true is = refl
    either false is = sym (expired_table_same time s.table is)
