use Rattle.std.proofs.Common.{◌≡◌, sym, subst}
use Rattle.ds_text.proofs.Sends.{at_err}
use Rattle.ds_refinement.specs.declared.step.Step.TheVariants.{Inside}
use Rattle.ds_refinement.specs.Held.{Held}
use Rattle.ds_refinement.specs.Inner.Steps.{Stays}
use Rattle.ds_refinement.specs.Inner.Written.{KeepsWritten}
use Rattle.ds_kernel.specs.Inner.Parts.{held}
use Rattle.ds_station.specs.Inner.Station.{StationValue}
use Rattle.ds_station.proofs.Runs.{does_keep, sound_few, stands_still}
use Rattle.ds_station.proofs.station.Station.step.Goals as goal

pub returns-clause-few : goal.returns-clause-few
returns-clause-few g c = sound_few (held c.step.new.self) c.step.ensures.good.sound

pub returns-in_err-step-clause-few : goal.returns-in_err-step-clause-few
returns-in_err-step-clause-few g c = sound_few (held c.step.new.self) c.step.ensures.good.sound

pub returns-in_err-step-clause-err : goal.returns-in_err-step-clause-err
returns-in_err-step-clause-err g c =
    at_err c.from_residual.result
    (subst (λ (s : StationValue). Stays s.held (held c.step.new.self)) c.self.view_is
    (subst (λ (h : Held). Stays (held c.self.inside.parts) h) (sym c.in_err-step.ensures.marked) (stands_still (held c.self.inside.parts))))

-- What a unit has written stays.

pub returns-clause-keeps : goal.returns-clause-keeps
returns-clause-keeps g c =
    subst (λ (s : StationValue). c.in_ok-step.field-0 ≡ Inside → KeepsWritten s.held (held c.step.new.self)) c.self.view_is
    (does_keep c.in_ok-step.field-0 (held c.self.inside.parts) (held c.step.new.self) c.self.invariant.good.sound c.in_ok-step.ensures.does)
