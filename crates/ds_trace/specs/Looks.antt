-- What the lines of a half turn look at: of the state before it, and of the state after it.
use Rattle.std.specs.Prelude.{ℕ, Bool, List, Option}
use Rattle.ds_policy.specs.Grants.{PageState}
use Rattle.ds_policy.specs.Pages.{Table}
use Rattle.ds_policy.specs.declared.command.TimedCommand.{TimedCommand}
use Rattle.ds_procs.specs.declared.process.Standing.{Standing}
use Rattle.ds_trace.specs.declared.start.Start.{Start}

-- what is looked at before a half turn
pub record Looked : Type 0 where
  -- whether it is a boundary that is owed
  pub owed : Bool
  -- when its turn began
  pub began : ℕ
  -- the unit, if that is next
  pub start : Option Start
  -- how many bytes the log has
  pub logged : ℕ
  pub runner : Option ℕ
  -- the commands that a boundary carries out next
  pub due : List TimedCommand
  -- how many characters have not come in yet, and how many wait on each line
  pub characters : ℕ
  pub queued : List ℕ
  pub standings : List Standing
  -- the permission table, where entries are told of
  pub table : Table

-- what is found after it, with the registers of the process whose unit it was
pub record Found : Type 0 where
  pub time : ℕ
  pub owed : Bool
  pub runner : Option ℕ
  pub log : List ℕ
  pub general : List ℕ
  pub memory : PageState
  pub characters : ℕ
  pub queues : List (List ℕ)
  pub standings : List Standing
