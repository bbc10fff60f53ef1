-- Boundaries with nothing to do.
use Rattle.std.specs.Prelude.{◌≡◌, false, []}
use Rattle.ds_policy.specs.Ends.{has_some_expired}
use Rattle.ds_pagemap.specs.Boundary.{has_passed}
use Rattle.ds_pagemap.specs.Laws.{due}
use Rattle.ds_pagemap_laws.specs.Due.{come, NobodyWakes}
use Rattle.ds_refinement.specs.Held.{Kept}

-- nothing is due at the time, nobody waits whose queue has a character, no period has ended since the clock was ticked, and no right has ended
pub record IsUndisturbed (k : Kept) : Type 0 where
  pub commands : due k.state ≡ []
  pub characters : come k.state ≡ []
  pub asleep : NobodyWakes k.state
  pub period : has_passed k.state.rate k.ticked k.state.time ≡ false
  pub ends : has_some_expired k.state.time k.grants.table ≡ false
