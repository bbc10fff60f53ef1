-- Why a step is not done.
use Rattle.std.specs.Prelude.{◌≡◌, true, false}
use Rattle.ds_pagemap.specs.Run.{is_over}
use Rattle.ds_refinement.specs.Held.{Held}
use Rattle.ds_kernel.specs.declared.halt.Halt.{Halt}
use Rattle.ds_kernel.specs.declared.halt.Halt.TheVariants.{Memory, Failed}

-- What is held where the next step is not done: memory runs out only where no unit is begun.
abbrev pub Halts : Halt → Held → Type 0
Halts Memory h = (h.own.failed ≡ false) × (h.own.spent ≡ 0) × (is_over h.kept.state ≡ false)
Halts Failed h = h.own.failed ≡ true
