-- A session: what a debugger has asked for so far, and what each packet changes.
use Rattle.std.specs.Prelude.{◌≡◌, ◌<◌, ◌≤◌, false, None}
use Rattle.ds_debug.specs.Inner.Inputs.{IsReached}
use Rattle.ds_debug.specs.Sessions.{SessionState, named_or}

-- it stands between two turns of a run of its inputs, as long as that was not cut short
pub record IsSession (s : SessionState) : Type 0 where
  pub limit : s.limit ≤ 1000000000
  pub process : s.process < 256
  pub going : named_or s.going 0 < 256
  pub whole : s.held.kept.state.owed ≡ None
  pub spent : s.cut ≡ false → s.held.own.spent ≡ 0
  pub working : s.cut ≡ false → s.held.own.failed ≡ false
  pub reached : s.cut ≡ false → IsReached s.inputs s.limit s.held

-- the run has not gone on, and its inputs and its bound are the same; nor was it cut short
pub record IsStill (old new : SessionState) : Type 0 where
  pub inputs : new.inputs ≡ old.inputs
  pub held : new.held ≡ old.held
  pub limit : new.limit ≡ old.limit
  pub cut : new.cut ≡ old.cut
