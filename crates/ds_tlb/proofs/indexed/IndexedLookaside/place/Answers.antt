use Rattle.std.proofs.Common.{ap, false}
use Rattle.ds_isa.specs.Access.{is_store}
use Rattle.ds_tlb.proofs.Frames.{found_for}
use Rattle.ds_tlb.proofs.indexed.IndexedLookaside.place.Goals as goal

pub returns-in-Fetch-clause-base : goal.returns-in-Fetch-clause-base
returns-in-Fetch-clause-base g c =
    let buffer = c.args.self.now in
    found_for buffer.entries c.args.kind false buffer.code.tags buffer.code.distances c.args.size c.args.address c.args.asid c.place.result
    (ap is_store c.in-Fetch.is) c.ranges.address.fits c.ranges.asid.fits buffer.code_right c.place.ensures

pub returns-in-Load-clause-base : goal.returns-in-Load-clause-base
returns-in-Load-clause-base g c =
    let buffer = c.args.self.now in
    found_for buffer.entries c.args.kind false buffer.loads.tags buffer.loads.distances c.args.size c.args.address c.args.asid c.place-in-Load.result
    (ap is_store c.in-Load.is) c.ranges.address.fits c.ranges.asid.fits buffer.loads_right c.place-in-Load.ensures
