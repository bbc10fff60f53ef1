use Rattle.std.proofs.Common.{refl}
use Rattle.std.proofs.lemmas.Option.{none-some}
use Rattle.ds_bare.proofs.machine.core_at_start.Goals as goal

pub invariant_of-result : goal.invariant_of-result
invariant_of-result c = (refl, λ x e. absurd (none-some x e))
