use Rattle.std.proofs.Common.{[]}
use Rattle.ds_refinement.specs.Inner.Held.{whole}
use Rattle.ds_monitor.specs.Inner.Kept.{kept_of}
use Rattle.ds_kernel.proofs.Sharing.{rotated_orderly, first_within}
use Rattle.ds_kernel.proofs.parts.Parts.share.Goals as goal

pub rotate-requires-clause-there : goal.rotate-requires-clause-there
rotate-requires-clause-there g c = first_within (whole (kept_of c.hear.new.self.monitor) [] []) c.hear.ensures.orderly.lawful.formed

pub rotate-requires-clause-few : goal.rotate-requires-clause-few
rotate-requires-clause-few g c = c.hear.ensures.orderly.lawful.formed.sizes.processes

pub returns-then-passed-clause-orderly : goal.returns-then-passed-clause-orderly
returns-then-passed-clause-orderly g c =
    rotated_orderly c.args.runner (kept_of c.hear.new.self.monitor) (kept_of c.rotate.new.self) c.rotate.ensures.kept c.hear.ensures.orderly
