-- What one step of a station that is followed does.
use Rattle.std.specs.Prelude.{◌≡◌, ℕ, Bool, true, false, List, ◌++◌, None, Result, Ok, Err}
use Rattle.ds_refinement.specs.declared.step.Step.{Step}
use Rattle.ds_refinement.specs.declared.step.Step.TheVariants.{Inside, Unit, Boundary, Over}
use Rattle.ds_pagemap.specs.Run.{is_over}
use Rattle.ds_refinement.specs.Held.{Held}
use Rattle.ds_refinement.specs.Inner.Services.{with_failure}
use Rattle.ds_refinement.specs.Inner.Stands.{IsSound}
use Rattle.ds_refinement.specs.Inner.Steps.{Stays}
use Rattle.ds_kernel.specs.Inner.Ended.{DoesStep}
use Rattle.ds_station.specs.declared.fault.Fault.{Fault}
use Rattle.ds_station.specs.declared.fault.Fault.TheVariants as fault
use Rattle.ds_words.specs.declared.view.View.{View}
use Rattle.ds_trace.specs.declared.progress.Progress.{Progress}
use Rattle.ds_trace.specs.Inner.Shows.{half_held, progress_held}

-- whether a step found all processes ended
abbrev pub is_last : Step → Bool
is_last Over = true
is_last other = false

-- what a step adds to a text and to what is kept of a run: where it ends a half turn, the lines and the counts of that
abbrev pub Adds : Step → View → Held → List ℕ → Progress → List ℕ → Progress → Type 0
Adds Inside v h text b more c = (more ≡ text) × (c ≡ b)
Adds Unit v h text b more c = (more ≡ text ++ half_held v b.counts b.before h) × (c ≡ progress_held true v b h)
Adds Boundary v h text b more c = (more ≡ text ++ half_held v b.counts b.before h) × (c ≡ progress_held false v b h)
Adds Over v h text b more c = (more ≡ text) × (c ≡ b)

-- a step of a kind was done, and told of
pub record HasStepped (last : Bool) (v : View) (h new : Held) (text : List ℕ) (b : Progress) (more : List ℕ) (c : Progress) : Type 0 where
  pub step : Step
  pub is : is_last step ≡ last
  pub does : DoesStep step h new
  pub adds : Adds step v new text b more c
  pub sound : IsSound new

-- none was done, since memory ran out between two turns where not all have ended
pub record HasHalted (f : Fault) (h new : Held) (text : List ℕ) (b : Progress) (more : List ℕ) (c : Progress) : Type 0 where
  pub memory : f ≡ fault.Memory
  pub stays : Stays h new
  pub still : new ≡ with_failure h
  pub whole : new.kept.state.owed ≡ None
  pub over : is_over h.kept.state ≡ false
  pub spent : new.own.spent ≡ 0
  pub same : more ≡ text
  pub looked : c ≡ b

-- by whether there was a step, and whether it found all processes ended
abbrev pub Advances : Result Bool Fault → View → Held → Held → List ℕ → Progress → List ℕ → Progress → Type 0
Advances (Ok last) v h new text b more c = HasStepped last v h new text b more c
Advances (Err f) v h new text b more c = HasHalted f h new text b more c
