-- What laws about units and boundaries say.
use Rattle.std.specs.Prelude.{◌≡◌, ◌≢◌, ◌⊎◌, ℕ, ◌+◌, ◌-◌, ◌%◌, ◌<◌, ◌≤◌, nat_le, ◌==◌, Bool, false, filter, List, [], ◌∷◌, ◌++◌, length, slice_index, slice_index_or, Option, Some, None}
use Rattle.std.specs.List.{list_any}
use Rattle.ds_log.specs.declared.line.Line.{Line}
use Rattle.ds_policy.specs.declared.command.Command.{Command}
use Rattle.ds_policy.specs.declared.command.Command.TheVariants as command
use Rattle.ds_policy.specs.declared.command.TimedCommand.{TimedCommand}
use Rattle.ds_word.specs.Bytes.{word_at}
use Rattle.ds_policy.specs.declared.grant.Grant.{Grant}
use Rattle.ds_policy.specs.declared.grant.Entry.{Entry}
use Rattle.ds_policy.specs.declared.grant.EntryPlace.{EntryPlace}
use Rattle.ds_policy.specs.Pages.{Pages, Table, bytes_of, entry_at}
use Rattle.ds_policy.specs.Families.{is_place, descends}
use Rattle.ds_pagemap.specs.Machine.{State}

-- the log is as it was, or has one line more
abbrev pub GrowsByALineAtMost : List Line → List Line → Type 0
GrowsByALineAtMost old new = (new ≡ old) ⊎ ((line : Line) × (new ≡ old ++ line ∷ []))

-- the list with more after it
pub record Extends (old new : List Line) : Type 0 where
  pub more : List Line
  pub is : new ≡ old ++ more

-- the time is one or two ticks later
abbrev pub IsOneOrTwoLater : ℕ → ℕ → Type 0
IsOneOrTwoLater old new = (new ≡ old + 1) ⊎ (new ≡ old + 2)

-- the page has the word at the aligned place of the offset, and nothing else is changed
pub record StoresOnly (old new : Pages) (page offset w : ℕ) : Type 0 where
  pub word : word_at (bytes_of new page) offset ≡ w
  pub before : (k : ℕ) → k < offset - offset % 4 → slice_index (bytes_of new page) k ≡ slice_index (bytes_of old page) k
  pub afterwards : (k : ℕ) → offset - offset % 4 + 4 ≤ k → slice_index (bytes_of new page) k ≡ slice_index (bytes_of old page) k
  pub size : length (bytes_of new page) ≡ length (bytes_of old page)
  pub others : (q : ℕ) → q ≢ page → slice_index_or new q None ≡ slice_index_or old q None

-- what an entry grants, if it is there, but for its parent
abbrev pub but_parent : Option Grant → Option Grant
but_parent None = None
but_parent (Some g) = Some (record g { parent = None })

-- the entry is as it was, but that it may have another parent
abbrev pub KeepsAllButParent : Option Grant → Option Grant → Type 0
KeepsAllButParent old new = but_parent new ≡ but_parent old

-- the process has the entry that is this parent
abbrev pub is_held_by : ℕ → Option EntryPlace → Bool
is_held_by process None = false
is_held_by process (Some place) = place.process == process

-- a process gave neither the entry nor any of those from which it descends
pub record IsOfOthers (table : Table) (process : ℕ) (e : Entry) : Type 0 where
  pub itself : e.grant.giver ≢ process
  pub above : (holder address : ℕ) (g : Grant) → 0 < holder → entry_at table holder address ≡ Some g → g.giver ≡ process
      → descends table holder address e ≡ false

-- the process that a command is about
abbrev pub process_named : Command → ℕ
process_named (command.Grant process address page right give) = process
process_named (command.Narrow process address) = process
process_named (command.Revoke process address) = process
process_named (command.Drop process address) = process
process_named (command.Resume process) = process
process_named (command.Stop process) = process

-- the commands that the boundary at a state's time does
abbrev pub due : State → List TimedCommand
due m = filter (λ c. nat_le c.time m.time) m.commands

-- none of the commands is about the process
abbrev pub NoneNames : ℕ → List TimedCommand → Type 0
NoneNames process [] = Unit {0}
NoneNames process (c ∷ rest) = (process ≢ process_named c.command) × NoneNames process rest

-- a command takes away the right of an entry from which this one descends
abbrev pub revokes_above : Table → Entry → Command → Bool
revokes_above table e (command.Grant process address page right give) = false
revokes_above table e (command.Narrow process address) = false
revokes_above table e (command.Revoke process address) = descends table process address e
revokes_above table e (command.Drop process address) = false
revokes_above table e (command.Resume process) = false
revokes_above table e (command.Stop process) = false

-- a command removes the entry that is this parent
abbrev pub removes_parent : Option EntryPlace → Command → Bool
removes_parent parent (command.Grant process address page right give) = false
removes_parent parent (command.Narrow process address) = false
removes_parent parent (command.Revoke process address) = false
removes_parent parent (command.Drop process address) = is_place process address parent
removes_parent parent (command.Resume process) = false
removes_parent parent (command.Stop process) = is_held_by process parent

-- none of the commands takes away the right of an entry from which this one descends
abbrev pub NoneRevokesAbove : Table → Entry → List TimedCommand → Type 0
NoneRevokesAbove table e commands = list_any (λ c. revokes_above table e c.command) commands ≡ false

-- none of the commands removes the entry that is this parent
abbrev pub NoneRemovesParent : Option EntryPlace → List TimedCommand → Type 0
NoneRemovesParent parent commands = list_any (λ c. removes_parent parent c.command) commands ≡ false
