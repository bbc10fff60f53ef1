-- Steps and runs that are not done.
use Rattle.std.proofs.Common.{◌≡◌, ◌≢◌, ℕ, ◌<◌, ◌^◌, None, true, false, Bool, List, [], ◌∷◌, refl, sym, ap, subst, ◌∙◌}
use Rattle.ds_pagemap.proofs.Turns.{reaches_in_time}
use Rattle.ds_refinement.specs.declared.step.Step.{Step}
use Rattle.ds_refinement.specs.declared.step.Step.TheVariants.{Inside, Unit, Boundary, Over}
use Rattle.ds_tlb.specs.Singles.{IsSingle}
use Rattle.ds_cp0.specs.System.{is_user}
use Rattle.ds_core.specs.Effect.{step}
use Rattle.ds_refinement.specs.Held.{Held}
use Rattle.ds_refinement.specs.Inner.Stands.{IsSound}
use Rattle.ds_refinement.specs.Steps.{Moves}
use Rattle.ds_refinement.specs.Inner.Steps.{Stays}
use Rattle.ds_refinement.specs.Inner.Services.{with_failure}
use Rattle.ds_refinement.specs.Real.{Through}
use Rattle.ds_refinement.specs.Inner.Real.{IsNoBusError}
use Rattle.ds_refinement.specs.Runs.{RunsTo, held_goes_on}
use Rattle.ds_refinement.specs.Inner.Runs.{RunsWithin, RunsInTime}
use Rattle.ds_refinement.proofs.Stages.{no_bus_error}
use Rattle.ds_refinement.specs.Inner.Counts.{IsFew}
use Rattle.ds_refinement.specs.Inner.Written.{KeepsWritten}
use Rattle.ds_refinement.proofs.Staying.{inside_keeps}
use Rattle.ds_refinement.proofs.Tallied.{failure_stands, few_of}
use Rattle.ds_refinement.proofs.RunSteps.{within_stays, to_end}
use Rattle.ds_kernel.specs.declared.halt.Halt.{Halt}
use Rattle.ds_kernel.specs.declared.halt.Halt.TheVariants as halt
use Rattle.ds_kernel.specs.Inner.Ended.{DoesStep}
use Rattle.ds_kernel.specs.Inner.Halts.{Halts}
use Rattle.ds_kernel.specs.Inner.Ran.{HasRun, WasCut}
use Rattle.ds_station.specs.Inner.Faults.{IsFaultAfter, of_halt}

-- a station that is sound has a buffer in which no two entries match
pub sound_single : (h : Held) → IsSound h → IsSingle h.core.entries
sound_single h s = s.stands.agrees.represented.buffer.single

-- and the counts of its unit are few
pub sound_few : (h : Held) → IsSound h → IsFew h.own
sound_few h s = few_of h s.state s.stands

-- a step inside a unit keeps what the unit has written
pub does_keep : (kind : Step) (old new : Held) → IsSound old → DoesStep kind old new → kind ≡ Inside → KeepsWritten old new
does_keep kind old new sound does inside =
    let same : DoesStep Inside old new = subst (λ (k : Step). DoesStep k old new) inside does in
    inside_keeps old new sound same.follows same.moves same.real

-- no instruction of a user of a station that is sound meets a bus error
pub no_error : (h : Held) → IsSound h → h.kept.state.owed ≡ None → h.kept.state.ready ≢ [] → is_user h.core.system ≡ true → h.core.pc < 2 ^ 32 → IsNoBusError (step h.core h.bus).event
no_error = no_bus_error

-- where none stands, the fault of a step that is not done is a new one
pub comes_after : (h : Halt) (s : Held) → Halts h s → IsFaultAfter s.own.failed (of_halt h)
comes_after halt.Memory s k = subst (λ (b : Bool). IsFaultAfter b (of_halt halt.Memory)) (sym (k.0)) tt
comes_after halt.Failed s k = subst (λ (b : Bool). IsFaultAfter b (of_halt halt.Failed)) (sym k) refl

-- No step of a path fails.

step_keeps : (kind : Step) (old new : Held) → Moves kind old new → new.own.failed ≡ old.own.failed
step_keeps Inside old new m = m.6
step_keeps Unit old new m = m.4
step_keeps Boundary old new m = m.3
step_keeps Over old new m = ap (λ (h : Held). h.own.failed) m

pub path_keeps : (old new : Held) (path : List Held) → Through old path new → new.own.failed ≡ old.own.failed
path_keeps old new [] t = ap (λ (h : Held). h.own.failed) t
path_keeps old new (last ∷ before) t = step_keeps t.0.0 last new t.0.2 ∙ path_keeps old last before t.1

-- a run that doesn't go on has ended
pub ran_to : (n : ℕ) (old new : Held) → HasRun n old new → held_goes_on n new ≡ false → RunsTo n old new
ran_to n old new r over = to_end n old new r.within over

-- and takes a turn a tick at most
in_time : (n : ℕ) (old new : Held) → RunsWithin n old new → RunsInTime n old new
in_time n old new within = record {
  runs = λ m stood.
      let reached = within.runs m stood in
      (reached.0, reaches_in_time n m reached.0 reached.1, reached.2);
}

pub ran_in_time : (n : ℕ) (old new : Held) → HasRun n old new → RunsInTime n old new
ran_in_time n old new r = in_time n old new r.within

-- A run that was cut short.

-- each state that the station stood for, it stands for as one that has failed
pub stands_still : (h : Held) → Stays h (with_failure h)
stands_still h = record { stays = failure_stands h }

module _ (n : ℕ) (h : Halt) (old new : Held) (w : WasCut n h old new) where
  pub cut_after : IsFaultAfter old.own.failed (of_halt h)
  cut_after = subst (λ (b : Bool). IsFaultAfter b (of_halt h)) (path_keeps old w.last w.ran.path.path w.ran.path.through) (comes_after h w.last w.halts)

  pub cut_within : RunsWithin n old new
  cut_within = subst (RunsWithin n old) (sym w.marked) (within_stays n old w.last (with_failure w.last) w.ran.within (stands_still w.last))

  pub cut_in_time : RunsInTime n old new
  cut_in_time = in_time n old new cut_within
