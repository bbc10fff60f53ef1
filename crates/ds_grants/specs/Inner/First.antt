-- The grants that a policy begins with.
use Rattle.std.specs.Prelude.{◌≡◌, ℕ, false, [], replicate, Option, Some, None}
use Rattle.std.specs.List.{range_with_len}
use Rattle.ds_policy.specs.declared.grant.Grant.{Grant}
use Rattle.ds_policy.specs.Pages.{entry_at}
use Rattle.ds_grants.specs.declared.layout.Place.{Place}
use Rattle.ds_grants.specs.State.{GrantsState}
use Rattle.ds_grants.specs.Inner.State.{place_of_page}

-- the grants of so many processes that have none, each page in the frame of its number
abbrev pub no_grants : ℕ → ℕ → ℕ → GrantsState
no_grants processes frames named = record {
  table = replicate processes [];
  frames = frames;
  named = named;
  ended = replicate processes false;
  lies = range_with_len 0 frames;
  shared = replicate frames false;
}

-- the frame of a page's number, in which no other page may lie, if there is a page
abbrev pub first_place : Option ℕ → Option Place
first_place None = None
first_place (Some page) = Some (record { frame = page; shared = false })

-- each page that an entry names lies in the frame of its number, alone
abbrev pub AreInOrder : GrantsState → Type 0
AreInOrder g = (process address : ℕ) (grant : Grant) → entry_at g.table process address ≡ Some grant
    → place_of_page g grant.page ≡ first_place grant.page
