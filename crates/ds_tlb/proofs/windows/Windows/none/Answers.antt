use Rattle.std.proofs.Common.{arith, refl}
use Rattle.std.proofs.lemmas.List.{get_or-replicate}
use Rattle.ds_tlb.proofs.Frames.{blank_is_right}
use Rattle.ds_tlb.proofs.windows.Windows.none.Goals as goal

pub invariant_of-result : goal.invariant_of-result
invariant_of-result c = record { whole = λ k d low. rw (get_or-replicate 64 k 0x400 d low) (omega arith) }

pub returns : goal.returns
returns c = λ store entries. blank_is_right _ _ store entries refl
