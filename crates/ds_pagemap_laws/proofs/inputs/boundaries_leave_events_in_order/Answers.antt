use Rattle.ds_pagemap_laws.proofs.Ordered.{boundary_ordered}
use Rattle.ds_pagemap_laws.proofs.inputs.boundaries_leave_events_in_order.Goals as goal

pub returns : goal.returns
returns c = boundary_ordered
