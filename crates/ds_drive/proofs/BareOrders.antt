-- What is good where a run on the bare machine is refused.
use Rattle.std.proofs.Common.{◌≡◌, ℕ, List, Bor}
use Rattle.std.specs.Prelude.{Option, Some, None, Ok}
use Rattle.ds_asm.specs.Assembly.{assembled}
use Rattle.ds_policy.specs.declared.command.Character.{Character}
use Rattle.ds_policy.specs.declared.events.fault.EventsFault.{EventsFault}
use Rattle.ds_policy.specs.declared.events.fault.EventsFault.TheVariants as events
use Rattle.ds_bare.specs.declared.fault.BareFault.{BareFault}
use Rattle.ds_bare.specs.declared.fault.BareFault.TheVariants as bare
use Rattle.ds_station.specs.Inner.Faults.{of_events}
use Rattle.ds_station.specs.declared.fault.Fault.TheVariants as fault
use Rattle.ds_drive.specs.declared.failure.Failure.{Failure}
use Rattle.ds_drive.specs.declared.failure.Failure.TheVariants as failure
use Rattle.ds_drive.specs.BareRuns.{HoldsBare}
use Rattle.ds_drive.specs.Inner.BareRuns.{of_bare}
use Rattle.ds_drive.specs.Inner.BareOrder.{IsRefusedAfter}
use Rattle.ds_drive.specs.Inner.Checked.{IsUnreadInput}
use Rattle.ds_drive.specs.Inner.Failures.{IsUnread}
use Rattle.ds_words.specs.declared.words.BareStart.{BareStart}

module _ (holds : List ℕ → List ℕ → Type 0) (start : BareStart) where
  -- a file that was not read is no refusal
  pub unread_after : (lacks : List ℕ → Type 0) (name : List ℕ) (f : Failure) → IsUnread lacks name f → IsRefusedAfter f holds start
  unread_after lacks name (failure.UnreadableFile told) unread = tt
  unread_after lacks name (failure.Fault fault.Memory) unread = tt
  unread_after lacks name f none = absurd none

  unread_after_by : (lacks : List ℕ → Type 0) (input : Option (Bor (List ℕ))) (f : Failure) → IsUnreadInput lacks input f → IsRefusedAfter f holds start
  unread_after_by lacks None f none = absurd none
  unread_after_by lacks (Some name) f unread = unread_after lacks name.now f unread

  -- nor is that of the input
  pub input_unread_after : (lacks : List ℕ → Type 0) (f : Failure) → IsUnreadInput lacks start.keys f → IsRefusedAfter f holds start
  input_unread_after lacks f unread = unread_after_by lacks start.keys f unread

  -- a line of the input is wrong, and the source has an image
  pub line_after : (e : EventsFault) (source image : List ℕ) → holds start.source.now source → assembled source ≡ Ok image
      → IsRefusedAfter (failure.Fault (of_events e)) holds start
  line_after (events.InputFault line) source image held assembles = record { source = source; held = held; image = image; assembles = assembles }
  line_after events.Memory source image held assembles = tt

  -- the run is refused, and the source and the input are good
  pub start_after : (e : BareFault) (image : List ℕ) (keys : List Character) → HoldsBare holds start image keys → IsRefusedAfter (failure.Fault (of_bare e)) holds start
  start_after bare.BadRandom image keys h =
      (record { source = h.source; held = h.source_held; image = image; assembles = h.assembles }, record { input = h.input; held = h.input_held; keys = keys; says = h.says })
  start_after bare.WriteFault image keys h = tt
  start_after bare.Memory image keys h = tt
