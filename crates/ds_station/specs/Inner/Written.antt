-- What is written of a run, in the words of its user.
use Rattle.std.specs.Prelude.{◌≡◌, ℕ, false, length, flat_map, replicate}
use Rattle.ds_log.specs.Text.{line_text}
use Rattle.ds_pagemap.specs.Machine.{State}
use Rattle.ds_pagemap.specs.Run.{goes_on, after}
use Rattle.ds_refinement.specs.Held.{Held}
use Rattle.ds_refinement.specs.Stands.{Stands}
use Rattle.ds_station.specs.Written.{IsGuarded}

-- from each machine state that the station stood for, a guarded way leads to one that it stands for now
pub record RunsGuarded (n : ℕ) (old new : Held) : Type 0 where
  pub runs : (m : State) → Stands old m → (t : State) × IsGuarded n m t × Stands new t

-- a station shows the consoles, the log and the time at which the run for n from m that never touches is over
pub record ShowsUntouched (n : ℕ) (m : State) (h : Held) : Type 0 where
  pub halves : ℕ
  pub over : goes_on n (after n (replicate halves false) m) ≡ false
  pub consoles : h.kept.state.consoles ≡ (after n (replicate halves false) m).consoles
  pub lines : h.kept.lines ≡ length (after n (replicate halves false) m).log
  pub log : h.kept.log ≡ flat_map line_text (after n (replicate halves false) m).log
  pub time : h.kept.state.time ≡ (after n (replicate halves false) m).time
