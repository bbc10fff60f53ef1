-- Memory in which no frame of a page changes.
use Rattle.std.proofs.Common.{ℕ, List, ◌∙◌, refl}
use Rattle.ds_grants.specs.Inner.Represented.{IsLow}

pub low_same : (x : List ℕ) → IsLow x x
low_same x = (refl, λ f high. refl)

-- one change after another
pub low_then : (x y z : List ℕ) → IsLow x y → IsLow y z → IsLow x z
low_then x y z one two = (two.0 ∙ one.0, λ f high. two.1 f high ∙ one.1 f high)
