use Rattle.std.proofs.Common.{arith, refl}
use Rattle.std.proofs.lemmas.List.{get_or-replicate}
use Rattle.ds_tlb.proofs.Frames.{blank_forgets}
use Rattle.ds_tlb.proofs.windows.Windows.forget_all.Goals as goal

pub returns : goal.returns
returns c = λ entry. blank_forgets entry _ _ _ _ refl

pub way_repeat-self : goal.way_repeat-self
way_repeat-self c = (λ k d low. rw (get_or-replicate 64 k 0x400 d low) (omega arith), tt)
