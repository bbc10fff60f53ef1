use Rattle.std.proofs.Common.{refl, arith}
use Rattle.std.proofs.lemmas.List.{get_or-replicate}
use Rattle.ds_tlb.proofs.Bits.{first_index}
use Rattle.ds_tlb.proofs.indexed.empty_buckets.Goals as goal

pub loop-slot-init : goal.loop-slot-init
loop-slot-init c = record { size = refl; set = λ h below. absurd (omega arith); clear = λ h above small. get_or-replicate 128 h 0 0 small }

pub returns : goal.returns
returns c = first_index c.loop-slot.buckets c.args.slots c.requires c.loop-slot.invariant.size (λ h below. c.loop-slot.invariant.set h (omega arith)) (λ h above small. c.loop-slot.invariant.clear h (omega arith) small)
