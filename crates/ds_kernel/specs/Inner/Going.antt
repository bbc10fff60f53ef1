-- How a run of a station goes on.
use Rattle.std.specs.Prelude.{◌≡◌, ℕ, ◌+◌, ◌-◌, ◌*◌, ◌<◌, if◌then◌else◌, is_some}
use Rattle.ds_refinement.specs.Held.{Held}
use Rattle.ds_refinement.specs.Steps.{steps_left}
use Rattle.ds_kernel.specs.Inner.Ran.{HasRun}

-- how far a run for n is from its end, in steps at most
abbrev pub rank : ℕ → Held → ℕ
rank n h = 131 * (n - h.kept.state.time) + (if is_some h.kept.state.owed then 130 else steps_left h)

-- What followed the one by a run for n follows the other by it, which is nearer to its end, and a unit is begun there only before that.
pub record GoesOn (n : ℕ) (old new : Held) : Type 0 where
  pub runs : (start : Held) → HasRun n start old → HasRun n start new
  pub nearer : rank n new < rank n old
  pub working : new.own.failed ≡ old.own.failed
  pub begun : 0 < new.own.spent → new.kept.state.time < n
