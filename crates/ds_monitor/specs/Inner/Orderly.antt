-- What is true of what is kept, at any time.
use Rattle.std.specs.Prelude.{◌≡◌, []}
use Rattle.ds_policy.specs.Ends.{NoneEndsBefore}
use Rattle.ds_policy.specs.InputFacts.{AreGoodCommands}
use Rattle.ds_pagemap_laws.specs.Lawful.{IsLawful}
use Rattle.ds_refinement.specs.Held.{Kept}
use Rattle.ds_refinement.specs.Inner.Held.{whole}
use Rattle.ds_monitor.specs.Inner.Ended.{marks_of}

-- The state is one that runs have, whatever lies in memory and in the log; who has ended stands so; what is still to be granted are pages that the policy names; and before a time that is kept no right ends.
pub record IsOrderly (k : Kept) : Type 0 where
  pub lawful : IsLawful (whole k [] [])
  pub ended : marks_of k.state ≡ k.grants.ended
  pub commands : AreGoodCommands k.grants.named k.state.commands
  pub ends : NoneEndsBefore k.ends k.grants.table
