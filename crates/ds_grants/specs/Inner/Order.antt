-- The one order in which what is asked of the grants is tested.
use Rattle.std.specs.Prelude.{◌≡◌, ℕ, ◌%◌, ◌^◌, Bool, false, not, ◌&&◌, ◌||◌, nat_lt, nat_le, ◌==◌, ◌∷◌, length, map, Some, None, Result, Ok, is_some, unwrap_or}
use Rattle.ds_policy.specs.declared.grant.Right.{Right}
use Rattle.ds_policy.specs.declared.grant.Right.TheVariants.{Read}
use Rattle.ds_policy.specs.Pages.{entries_of, entry_at, count_live}
use Rattle.ds_policy.specs.Grants.{PageState, ◌or_else◌, refused, has_right, no_grant, region, count_distinct, may_not_give, granted, given, removed, cut, forbidden, give, take, drop_own, grant, narrow, revoke, drop_by_command}

-- the argument checks of a call or a command, as refusals
pub record Tests : Type 0 where
  pub no_process : Bool
  pub not_page : Bool
  pub lacks_grant : Bool
  pub not_allowed : Bool
  pub taken : Bool
  pub table_full : Bool
  pub regions : Bool
  pub no_frames : Bool
  pub not_given : Bool

-- no check refuses it
abbrev pub none : Tests
none = record {
  no_process = false;
  not_page = false;
  lacks_grant = false;
  not_allowed = false;
  taken = false;
  table_full = false;
  regions = false;
  no_frames = false;
  not_given = false;
}

-- the order of the refusals
abbrev pub first_refusal : Tests → Result PageState ℕ → Result PageState ℕ
first_refusal t next =
    refused 12 t.no_process or_else
    refused 13 t.not_page or_else
    refused 14 t.lacks_grant or_else
    refused 15 t.not_allowed or_else
    refused 16 t.taken or_else
    refused 17 t.table_full or_else
    refused 11 t.regions or_else
    refused 18 t.no_frames or_else
    refused 19 t.not_given or_else next

-- it is no address of a page of a user's
abbrev pub is_no_page : ℕ → Bool
is_no_page address = not (address % 4096 == 0) || nat_le (2 ^ 31) address

-- there is no room for one entry more
abbrev pub is_full : PageState → ℕ → ℕ → Bool
is_full s p address =
    nat_le 256 (length (entries_of s.table p)) && not (is_some (entry_at s.table p address))

-- an entry at the address would open a fifth region
abbrev pub is_fifth : PageState → ℕ → ℕ → Bool
is_fifth s p address =
    nat_lt 4 (count_distinct (region address ∷ map (λ e. region e.address) (entries_of s.table p)))

abbrev pub tests_of_give : (ℕ → Bool) → PageState → ℕ → ℕ → ℕ → ℕ → ℕ → Tests
tests_of_give lives s caller address receiver to mode = record none {
  no_process = not (lives receiver);
  not_page = is_no_page address || is_no_page to;
  lacks_grant = not (has_right (entry_at s.table caller address));
  not_allowed = may_not_give (unwrap_or (entry_at s.table caller address) no_grant) mode;
  taken = is_some (entry_at s.table receiver to);
  table_full = is_full s receiver to;
  regions = is_fifth s receiver to;
  no_frames = (mode == 3) && nat_le (length s.pages) (count_live s.pages);
}

abbrev pub tests_of_take : (ℕ → Bool) → PageState → ℕ → ℕ → ℕ → Tests
tests_of_take lives s caller p address = record none {
  no_process = not (lives p);
  not_page = is_no_page address;
  lacks_grant = not (has_right (entry_at s.table p address));
  not_given = not ((unwrap_or (entry_at s.table p address) no_grant).giver == caller);
}

abbrev pub tests_of_drop_own : PageState → ℕ → ℕ → Tests
tests_of_drop_own s caller address = record none {
  not_page = is_no_page address;
  lacks_grant = not (has_right (entry_at s.table caller address));
}

abbrev pub tests_of_grant : (ℕ → Bool) → PageState → ℕ → ℕ → Tests
tests_of_grant lives s p address = record none {
  no_process = not (lives p);
  not_page = is_no_page address;
  taken = has_right (entry_at s.table p address);
  table_full = is_full s p address;
  regions = is_fifth s p address;
}

-- those of narrow and revoke
abbrev pub tests_of_change : (ℕ → Bool) → PageState → ℕ → ℕ → Tests
tests_of_change lives s p address = record none {
  no_process = not (lives p);
  not_page = is_no_page address;
  lacks_grant = not (has_right (entry_at s.table p address));
}

abbrev pub tests_of_drop : (ℕ → Bool) → PageState → ℕ → ℕ → Tests
tests_of_drop lives s p address = record none {
  no_process = not (lives p);
  not_page = is_no_page address;
  lacks_grant = not (is_some (entry_at s.table p address));
}

-- Each call and command is refused by the first of its tests that holds, in the one order.
pub record HaveOneOrder (lives : ℕ → Bool) (s : PageState) : Type 0 where
  pub of_give : (caller address receiver to mode : ℕ)
      → give lives s caller address receiver to mode
      ≡ first_refusal (tests_of_give lives s caller address receiver to mode)
      (Ok (given s caller address (unwrap_or (entry_at s.table caller address) no_grant) receiver to mode))
  pub of_take : (caller p address : ℕ)
      → take lives s caller p address
      ≡ first_refusal (tests_of_take lives s caller p address) (Ok (cut s p address))
  pub of_drop_own : (caller address : ℕ)
      → drop_own s caller address
      ≡ first_refusal (tests_of_drop_own s caller address) (Ok (removed s caller address))
  pub of_grant : (p address page : ℕ) (right : Right) (may_give : Bool) (rule : ℕ)
      → grant lives s p address page right may_give rule
      ≡ first_refusal (tests_of_grant lives s p address)
      (Ok (granted s p address
      (record { right = right; page = Some page; rule = rule; give = may_give; giver = 0; parent = None; until = None })))
  pub of_narrow : (p address : ℕ)
      → narrow lives s p address
      ≡ first_refusal (tests_of_change lives s p address)
      (Ok (granted s p address
      (record (unwrap_or (entry_at s.table p address) no_grant) { right = Read })))
  pub of_revoke : (p address rule : ℕ)
      → revoke lives s p address rule
      ≡ first_refusal (tests_of_change lives s p address)
      (Ok (forbidden s p address rule))
  pub of_drop_by_command : (p address : ℕ)
      → drop_by_command lives s p address
      ≡ first_refusal (tests_of_drop lives s p address) (Ok (removed s p address))
