-- What the machine does where the processor leaves a program.
use Rattle.std.specs.Prelude.{◌≡◌, ◌⊎◌, ℕ, Bool, true, false}
use Rattle.ds_policy.specs.declared.access.Rule.{Rule}
use Rattle.ds_policy.specs.declared.access.Verdict.TheVariants.{Denied}
use Rattle.ds_policy.specs.Pages.{decide}
use Rattle.ds_policy.specs.Grants.{PageState}
use Rattle.ds_pagemap.specs.Machine.{State}
use Rattle.ds_pagemap.specs.Unit.{Outcome, Branched, Called, Stopped, denied_as, fault}
use Rattle.ds_refinement.specs.declared.cause.Cause.{Cause}
use Rattle.ds_refinement.specs.declared.cause.Cause.TheVariants as cause

-- The outcome of a process's instruction at pc, by what was told: a stop, if the table denies the access; a fault, or in a slot another branch, which is reserved; a call.
abbrev pub Leaves : Cause → ℕ → Bool → ℕ → ℕ → PageState → Outcome → Type 0
Leaves (cause.Access access) bad slot pc p s o =
    (rule : Rule) (code : ℕ) → decide s.table p access.kind access.size bad ≡ Denied rule code
    → o ≡ Stopped (record { kind = denied_as access.kind; address = bad; rule = rule; code = code })
Leaves (cause.Fault code) bad false pc p s o = o ≡ Stopped (fault pc code)
Leaves (cause.Fault code) bad true pc p s o = (o ≡ Stopped (fault pc code)) ⊎ ((code ≡ 10) × ((after : State) × (target : ℕ) × (o ≡ Branched after target)))
Leaves cause.Call bad slot pc p s o = o ≡ Called
