-- Which pages live, and which number is the first that is free.
use Rattle.std.specs.Prelude.{◌≡◌, ℕ, ◌<◌, true, false, Some}
use Rattle.ds_policy.specs.declared.grant.Grant.{Grant}
use Rattle.ds_grants.specs.State.{GrantsState, is_live}
use Rattle.ds_grants.specs.Inner.Copies.{IsMarked}

-- the least number that no live page has
pub record IsFirstFree (g : GrantsState) (page : ℕ) : Type 0 where
  pub within : page < g.frames
  pub free : is_live g page ≡ false
  pub below : (q : ℕ) → q < page → is_live g q ≡ true

-- what is granted has a page, which lives, and shares its frame with none but such as are marked
pub record HasPage (g : GrantsState) (grant : Grant) : Type 0 where
  pub page : ℕ
  pub named : grant.page ≡ Some page
  pub within : page < g.frames
  pub lives : is_live g page ≡ true
  pub marked : IsMarked g page
