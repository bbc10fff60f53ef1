-- Where the processor stands while its page tables are read by the nine words of the refill handler: at a word of the
-- handler, or after a double miss.
use Rattle.std.specs.Prelude.{◌≡◌, ℕ, ◌/◌, ◌^◌, ◌<◌, true, Some, None}
use Rattle.ds_tlb.specs.Entries.{find}
use Rattle.ds_cp0.specs.declared.exception.Exception.{Exception}
use Rattle.ds_cp0.specs.Codes.{is_translation}
use Rattle.ds_cp0.specs.System.{asid_of}
use Rattle.ds_core.specs.Core.{CoreState}

-- the exception is the miss of a user's page, for which nothing in the TLB answers
pub record IsMiss (c : CoreState) (e : Exception) : Type 0 where
  pub address : ℕ
  pub user : address < 2 ^ 31
  pub is : e.addr ≡ Some address
  pub code : is_translation e.code ≡ true
  pub miss : e.miss ≡ true
  pub missed : find c.entries (address / 2 ^ 12) (asid_of c.system) ≡ None
