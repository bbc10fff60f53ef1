-- A run in pieces, and a bound of what it may write.
use Rattle.std.specs.Prelude.{◌≡◌, ◌<◌, ◌≤◌, ◌⊎◌, ℕ, ◌+◌, ◌*◌, false, List, [], length, slice_index_or, flat_map, None}
use Rattle.ds_log.specs.Text.{line_text}
use Rattle.ds_pagemap.specs.Machine.{State}
use Rattle.ds_refinement.specs.Held.{Held}
use Rattle.ds_refinement.specs.Real.{RealPath}
use Rattle.ds_refinement.specs.Runs.{RunsTo, held_goes_on}
use Rattle.ds_station.specs.Headline.{BeginsWith, Loaded}
use Rattle.ds_station.specs.declared.pieces.Extent.{Extent}
use Rattle.ds_station.specs.declared.pieces.Extent.TheVariants.{Whole, TooMuch}

-- how many bytes a console has, by its line
abbrev pub console_size : List (List ℕ) → ℕ → ℕ
console_size consoles l = length (slice_index_or consoles l [])

-- how many the four consoles and the log have together
abbrev pub size_by : List (List ℕ) → List ℕ → ℕ
size_by consoles log = console_size consoles 0 + console_size consoles 1 + console_size consoles 2 + console_size consoles 3 + length log

-- how many those of a state have
abbrev pub size_of_state : State → ℕ
size_of_state m = size_by m.consoles (flat_map line_text m.log)

-- and those that a station holds
abbrev pub size_held : Held → ℕ
size_held h = size_by h.kept.state.consoles h.kept.log

-- so many ticks are run before the bytes are looked at again
abbrev pub piece : ℕ
piece = 65536

-- no piece has been run; or so many, and there are no more bytes than these
abbrev pub IsFewAfter : ℕ → ℕ → Held → Held → Type 0
IsFewAfter most pieces old h = ((pieces ≡ 0) × (h ≡ old)) ⊎ ((held_goes_on (pieces * piece) h ≡ false) × (size_held h ≤ most))

-- a run for n passed so many bytes in one piece, after which it was left between two turns
pub record PassesIn (n most : ℕ) (old new : Held) : Type 0 where
  pub before : Held
  pub path : RealPath old before
  pub pieces : ℕ
  pub few : IsFewAfter most pieces old before
  pub until : ℕ
  pub early : until ≤ n
  pub within : until ≤ pieces * piece + piece
  pub runs : RunsTo until before new
  pub whole : new.kept.state.owed ≡ None
  pub much : most < size_held new

-- a run for n is over with no more bytes than these
pub record IsOverWithin (n most : ℕ) (old new : Held) : Type 0 where
  pub over : held_goes_on n new ≡ false
  pub few : size_held new ≤ most

-- one of the two, by how far it went
abbrev pub PieceComesTo : Extent → ℕ → ℕ → Held → Held → Type 0
PieceComesTo Whole = IsOverWithin
PieceComesTo TooMuch = PassesIn

-- a station that began with these, Random at the start, came so far by real steps
pub record ComesReally (extent : Extent) (n most start : ℕ) (h : Held) (l : Loaded) : Type 0 where
  pub first : Held
  pub begins : BeginsWith start first l
  pub path : RealPath first h
  pub comes : PieceComesTo extent n most first h
