-- What is true of the grants whenever a call begins or ends.
use Rattle.std.specs.Prelude.{◌≡◌, ◌≢◌, ℕ, ◌<◌, ◌≤◌, true, length, slice_index, Some}
use Rattle.ds_policy.specs.declared.grant.Grant.{Grant}
use Rattle.ds_policy.specs.Pages.{entry_at}
use Rattle.ds_grants.specs.State.{GrantsState, is_live, is_shared}

-- each page lies in a frame of those for pages, and no two pages that live lie in one frame but such as are marked
pub record AreLaidOut (g : GrantsState) : Type 0 where
  pub frames : length g.lies ≡ g.frames
  pub marks : length g.shared ≡ g.frames
  pub within : (page : ℕ) → page < g.frames → slice_index g.lies page < g.frames
  pub alone : (j k : ℕ) → j < g.frames → k < g.frames → is_live g j ≡ true → is_live g k ≡ true
      → j ≢ k → slice_index g.lies j ≡ slice_index g.lies k → is_shared g k ≡ true

-- each page that an entry names has a number below that of the pages that may live, all of which lie in frames of memory
pub record NamesPages (g : GrantsState) : Type 0 where
  pub frames : g.frames ≤ 1024
  pub named : (process address page : ℕ) (grant : Grant) → entry_at g.table process address ≡ Some grant
      → grant.page ≡ Some page → page < g.frames
  pub layout : AreLaidOut g
