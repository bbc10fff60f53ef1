-- What is true of the grants whenever a call begins or ends.
use Rattle.std.specs.Prelude.{◌≡◌, ℕ, ◌%◌, ◌^◌, ◌<◌, ◌≤◌, ◌==◌, Bool, List, length, is_some, slice_index}
use Rattle.std.specs.List.{All, IsDistinct}
use Rattle.ds_policy.specs.declared.grant.Entry.{Entry}
use Rattle.ds_policy.specs.Pages.{Table}
use Rattle.ds_policy.specs.Grants.{is_some_right}
use Rattle.ds_grants.specs.Inner.Counts.{holders_of}
use Rattle.ds_grants.specs.State.{GrantsState}

-- the list has of each page how many entries name it, and no entry names a page beyond it
abbrev pub AreCounted : Table → List ℕ → Type 0
AreCounted table holders = (page : ℕ) → slice_index holders page ≡ holders_of table page

-- an entry has a page exactly where it has a right
abbrev pub IsWhole : Entry → Type 0
IsWhole e = is_some e.grant.page ≡ is_some_right e.grant.right

-- an entry is at the address of a page of a user's
pub record IsAtPage (e : Entry) : Type 0 where
  pub whole : e.address % 4096 ≡ 0
  pub user : e.address < 2 ^ 31

-- two entries of a process are at one address
abbrev pub has_same_address : Entry → Entry → Bool
has_same_address e f = e.address == f.address

-- the entries of a process: no more than 256, each of which is whole and at a page's address of its own
pub record IsGoodRow (entries : List Entry) : Type 0 where
  pub few : length entries ≤ 256
  pub whole : All IsWhole entries
  pub pages : All IsAtPage entries
  pub places : IsDistinct has_same_address entries

-- all is within its bounds
pub record IsSound (g : GrantsState) : Type 0 where
  pub rows : All IsGoodRow g.table
  pub processes : length g.table ≤ 100
  pub ended : length g.ended ≡ length g.table
  pub named : g.named ≤ g.frames
  pub frames : g.frames ≤ 1024
