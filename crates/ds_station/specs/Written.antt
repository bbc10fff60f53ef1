-- What is written of a run, in the words of its user.
use Rattle.std.specs.Prelude.{◌≡◌, ◌⊎◌, ◌++◌, ℕ, true, false, List, replicate, Option, Result, None}
use Rattle.std.specs.Io.KnownBytes.{Appends, Keeps}
use Rattle.ds_text.specs.Sent.{AppendsPart}
use Rattle.ds_pagemap.specs.Machine.{State}
use Rattle.ds_pagemap.specs.Run.{goes_on, after, Reaches}
use Rattle.ds_pagemap.specs.Text.{state_text}
use Rattle.ds_pagemap.specs.Inputs.{Refusal}
use Rattle.ds_promise.specs.Stores.{OnlyStoresAlong}
use Rattle.ds_promise.specs.Whole.{HasWholePages, ChangesAsGrantedAlong}
use Rattle.ds_promise.specs.Lines.{lines_along}
use Rattle.ds_station.specs.Headline.{Begins}
use Rattle.ds_station.specs.declared.fault.Fault.{Fault}
use Rattle.ds_station.specs.declared.fault.Fault.TheVariants as fault

-- a way of a run for n from m to t: only granted stores change pages, and where pages are whole they change only as granted;
-- the log grows by a line for each denial and by no other
pub record IsGuarded (n : ℕ) (m t : State) : Type 0 where
  pub reached : Reaches n m t
  pub stores : OnlyStoresAlong n reached.choices m
  pub changes : HasWholePages m → ChangesAsGrantedAlong n reached.choices m
  pub lines : t.log ≡ m.log ++ lines_along n reached.choices m

-- the same from the first state of a run, whose log is empty: the log is these lines
pub record IsGuardedFromFirst (n : ℕ) (first last : State) : Type 0 where
  pub guarded : IsGuarded n first last
  pub log : last.log ≡ lines_along n guarded.reached.choices first

-- a guarded run for n from the first state has ended, and its text is written
pub record WritesGuarded (old new : Option (List ℕ)) (n : ℕ) (first : State) : Type 0 where
  pub last : State
  pub way : IsGuardedFromFirst n first last
  pub over : goes_on n last ≡ false
  pub written : Appends old new (state_text last)

-- a guarded run from a first state with whole pages has ended, and its text is written
abbrev pub WritesWholeGuarded : Option (List ℕ) → Option (List ℕ) → ℕ → State → Type 0
WritesWholeGuarded old new n first = HasWholePages first × WritesGuarded old new n first

-- a guarded run was cut short between two turns, where a turn was still to come, and the text so far is written
pub record WritesGuardedPrefix (old new : Option (List ℕ)) (n : ℕ) (first : State) : Type 0 where
  pub last : State
  pub way : IsGuardedFromFirst n first last
  pub whole : last.owed ≡ None
  pub going : goes_on n last ≡ true
  pub written : Appends old new (state_text last)

-- a guarded run has ended or was cut short between two turns, and a prefix of its text is written
pub record WritesGuardedPart (old new : Option (List ℕ)) (n : ℕ) (first : State) : Type 0 where
  pub last : State
  pub way : IsGuardedFromFirst n first last
  pub whole : last.owed ≡ None
  pub written : AppendsPart old new (state_text last)

-- where a run was cut short, or its text was, what is written is that of a guarded run
abbrev pub EndsGuarded : Fault → Result State Refusal → Option (List ℕ) → Option (List ℕ) → ℕ → Type 0
EndsGuarded fault.Memory read old new n = Keeps old new ⊎ Begins read (WritesGuardedPrefix old new n)
EndsGuarded fault.WriteFault read old new n = Begins read (WritesGuardedPart old new n)
EndsGuarded f read old new n = Keeps old new

-- the run for n that never touches is over after so many half turns, and its text is written
pub record WritesUntouched (old new : Option (List ℕ)) (n : ℕ) (first : State) : Type 0 where
  pub halves : ℕ
  pub over : goes_on n (after n (replicate halves false) first) ≡ false
  pub written : Appends old new (state_text (after n (replicate halves false) first))
