use Rattle.std.proofs.Common.{arith, refl, true, false}
use Rattle.ds_tlb.proofs.Bits.{moved}
use Rattle.ds_tlb.proofs.Frames.{right_after}
use Rattle.ds_tlb.proofs.indexed.IndexedLookaside.write.Goals as goal

pub invariant_of-self-clause-indexed : goal.invariant_of-self-clause-indexed
invariant_of-self-clause-indexed g c =
    let buffer = c.args.self.now in
    moved buffer.buckets buffer.entries c.args.slot c.bucket_of.result c.bucket_of-2.result c.args.entry (omega arith) (omega arith) (omega arith) c.bucket_of.ensures.value c.bucket_of-2.ensures.value buffer.indexed

pub invariant_of-self-clause-code_right : goal.invariant_of-self-clause-code_right
invariant_of-self-clause-code_right g c =
    let buffer = c.args.self.now in
    right_after buffer.entries false c.args.slot _ c.args.entry buffer.code.tags buffer.code.distances _ _ refl c.forget.ensures buffer.code_right

pub invariant_of-self-clause-loads_right : goal.invariant_of-self-clause-loads_right
invariant_of-self-clause-loads_right g c =
    let buffer = c.args.self.now in
    right_after buffer.entries false c.args.slot _ c.args.entry buffer.loads.tags buffer.loads.distances _ _ refl c.forget-2.ensures buffer.loads_right

pub invariant_of-self-clause-stores_right : goal.invariant_of-self-clause-stores_right
invariant_of-self-clause-stores_right g c =
    let buffer = c.args.self.now in
    right_after buffer.entries true c.args.slot _ c.args.entry buffer.stores.tags buffer.stores.distances _ _ refl c.forget-3.ensures buffer.stores_right
