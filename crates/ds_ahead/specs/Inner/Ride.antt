-- A ride through a page in hand.
use Rattle.std.specs.Prelude.{◌≡◌, ℕ, ◌+◌, ◌-◌, ◌*◌, ◌%◌, ◌<◌, ◌≤◌, ◌^◌, false, slice_set}
use Rattle.ds_word.specs.Word.{word}
use Rattle.ds_isa.specs.Registers.{settled}
use Rattle.ds_tlb.specs.Entries.{random_after}
use Rattle.ds_cp0.specs.System.{asid_of, is_pending}
use Rattle.ds_dev.specs.Bus.{BusState, lines}
use Rattle.ds_pages.specs.Inner.Page.{HoldsWords}
use Rattle.ds_core.specs.Core.{CoreState}
use Rattle.ds_ahead.specs.declared.ride.Ride.{Ride}
use Rattle.ds_ahead.specs.Inner.Code.{KnowsPage}
use Rattle.ds_ahead.specs.Inner.Placed.{placed}
use Rattle.ds_ahead.specs.Inner.Run.{place_in}

-- the processor as it stands where a ride came to
abbrev pub ridden : Ride → CoreState → CoreState
ridden r c = placed (r.all - r.left) c r.at

-- the page in hand is that of the program, its operations are memory's, and no interrupt is to be taken
pub record Rides (r : Ride) (c : CoreState) (b : BusState) : Type 0 where
  pub knows : KnowsPage r.code.vpn r.code.base c
  pub space : r.code.asid ≡ asid_of c.system
  pub some : r.code.vpn < 2 ^ 32
  pub begins : r.first ≡ r.code.vpn * 4096
  pub low : r.first < 2 ^ 31
  pub within : r.left ≤ r.all
  pub calm : is_pending c.system (lines b).0 (lines b).1 ≡ false
  pub holds : HoldsWords r.page.value b.memory r.code.base

-- a ride stands at a place of its page, where it may go on
pub record IsPlaced (r : Ride) : Type 0 where
  pub inside : r.place < 1024
  pub here : r.at ≡ place_in r.first r.place

-- it stands at a word of its page that is not the last, and in no slot
pub record MayGoOn (r : Ride) : Type 0 where
  pub outside : r.at.slot ≡ false
  pub above : r.first ≤ r.at.pc
  pub whole : (r.at.pc - r.first) % 4 ≡ 0
  pub inside : r.at.pc - r.first < 4092

-- the processor behind a call that was answered in register 2, with what a refill leaves in registers 26 and 27
abbrev pub after_answer : CoreState → ℕ → CoreState
after_answer c answer = record c {
  registers = record (settled c.registers) { general = slice_set (slice_set (slice_set c.registers.general 2 answer) 26 0) 27 (word (c.pc + 4)) };
  pc = word (c.pc + 4);
  next = word (word (c.pc + 4) + 4);
  slot = false;
  random = random_after 64 8 c.random;
}
