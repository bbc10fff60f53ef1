-- What page tables and the buffer have of what is granted.
use Rattle.std.specs.Prelude.{ℕ, List}
use Rattle.ds_tlb.specs.declared.entry.Entry.{Entry}
use Rattle.ds_grants.specs.State.{GrantsState}
use Rattle.ds_tables.specs.Places.{Places, ArePlaces}
use Rattle.ds_tables.specs.Tables.{HasEmptyTable}
use Rattle.ds_grants.specs.Words.{WordsHold}
use Rattle.ds_asid.specs.Spaces.{Spaces, AreApart}
use Rattle.ds_grants.specs.Buffer.{BufferHolds}

-- the page tables in memory have the words of what is granted, each table at a place of its own
pub record TablesHaveWords (memory : List ℕ) (t : Places) (g : GrantsState) : Type 0 where
  pub words : WordsHold memory t g
  pub places : ArePlaces t
  pub empty : HasEmptyTable memory

-- what is granted stands in the page tables in memory, and the buffer has nothing else in the address
-- spaces of processes, which are apart
pub record IsRepresented (entries : List Entry) (memory : List ℕ) (t : Places) (s : Spaces)
    (g : GrantsState) : Type 0 where
  pub buffer : BufferHolds entries s g t
  pub words : WordsHold memory t g
  pub places : ArePlaces t
  pub empty : HasEmptyTable memory
  pub spaces : AreApart s
