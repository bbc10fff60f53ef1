-- What is written where a log is explained.
use Rattle.std.specs.Prelude.{◌≡◌, ℕ, List, ◌++◌, Option, flat_map}
use Rattle.std.specs.Io.KnownBytes.{Appends}
use Rattle.ds_asm.specs.Assembly.{lines_of}
use Rattle.ds_text.specs.Sent.{AppendsPart}
use Rattle.ds_log.specs.Text.{line_text}
use Rattle.ds_pagemap.specs.Machine.{State}
use Rattle.ds_pagemap.specs.Run.{Ends}
use Rattle.ds_refinement.specs.Held.{Held}
use Rattle.ds_refinement.specs.Stands.{Stands}
use Rattle.ds_explain.specs.declared.chosen.Chosen.{Chosen}
use Rattle.ds_explain.specs.Chosen.{chosen_of, chosen_end_text}
use Rattle.ds_explain.specs.Moments.{AreTold}
use Rattle.ds_log_reasons.specs.Sentences.{Context, Placed, placed}

-- a run for n from the first state ends with this log
pub record HasLog (n : ℕ) (log : List ℕ) (first : State) : Type 0 where
  pub last : State
  pub ends : Ends n first last
  pub logged : log ≡ flat_map line_text last.log

-- a station that stands for the first state tells these lines, one after the other
pub record Tells (x : Placed) (n : ℕ) (lines : List (List ℕ)) (text : List ℕ) (first : State) : Type 0 where
  pub start : Held
  pub stands : Stands start first
  pub told : AreTold x n start lines text

-- those of these lines that are chosen, and what is said of the others
pub record Explains (x : Context) (c : Chosen) (n : ℕ) (lines : List (List ℕ)) (text : List ℕ) (first : State) : Type 0 where
  pub lines_told : List ℕ
  pub tells : Tells (placed x) n (chosen_of c lines) lines_told first
  pub all : text ≡ lines_told ++ chosen_end_text c lines

-- of the log of a run for n
pub record ExplainsLog (x : Context) (c : Chosen) (n : ℕ) (text : List ℕ) (first : State) : Type 0 where
  pub log : List ℕ
  pub logged : HasLog n log first
  pub explains : Explains x c n (lines_of log) text first

-- that is written
pub record WritesExplained (x : Context) (c : Chosen) (old new : Option (List ℕ)) (n : ℕ) (first : State) : Type 0 where
  pub text : List ℕ
  pub explains : ExplainsLog x c n text first
  pub written : Appends old new text

-- a prefix of it is written
pub record WritesExplainedPart (x : Context) (c : Chosen) (old new : Option (List ℕ)) (n : ℕ) (first : State) : Type 0 where
  pub text : List ℕ
  pub explains : ExplainsLog x c n text first
  pub written : AppendsPart old new text
