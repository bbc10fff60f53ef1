-- A whole refill at once, and the nine steps of the processor that it stands for.
use Rattle.std.specs.Prelude.{◌≡◌, ℕ, suc, ◌+◌, ◌%◌, ◌^◌, ◌<◌, ◌==◌, Bool, true, false, List, [], ◌∷◌, slice_set, None, Ok}
use Rattle.ds_word.specs.Word.{word}
use Rattle.ds_word.specs.Bytes.{word_at}
use Rattle.ds_isa.specs.declared.instr.Kind.TheVariants.{Load}
use Rattle.ds_tlb.specs.Entries.{random_after}
use Rattle.ds_tlb.specs.Inner.Entries.{passed}
use Rattle.ds_tlb.specs.Words.{entry_of}
use Rattle.ds_cp0.specs.System.{asid_of, is_user, returned}
use Rattle.ds_amap.specs.declared.map.Mode.TheVariants.{Kernel}
use Rattle.ds_amap.specs.Map.{translate, at_physical}
use Rattle.ds_dev.specs.Bus.{BusState, is_memory}
use Rattle.ds_refill.specs.Handler.{handler_address}
use Rattle.ds_core.specs.declared.event.Event.{Event}
use Rattle.ds_core.specs.Core.{CoreState}
use Rattle.ds_core.specs.Effect.{step}

-- the processor with the entry of EntryHi and a word where Random stands six steps later, back at the unit's address
abbrev pub after_refill : CoreState → ℕ → CoreState
after_refill c w = record {
  registers = record c.registers { general = slice_set (slice_set c.registers.general 26 0) 27 c.system.epc; late = None };
  pc = c.system.epc;
  next = word (c.system.epc + 4);
  slot = false;
  system = returned (record c.system { entry_lo = w });
  entries = slice_set c.entries (passed 64 8 6 c.random) (entry_of c.system.entry_hi w);
  random = passed 64 8 3 (passed 64 8 6 c.random);
}

-- the handler can load a word where Context says, and the word has no low bits
pub record CanLoad (c : CoreState) (b : BusState) (w : ℕ) : Type 0 where
  pub place : ℕ
  pub small : c.system.context < 2 ^ 32
  pub whole : c.system.context % 4 ≡ 0
  pub reached : translate c.entries (asid_of c.system) Kernel Load c.system.context ≡ Ok (at_physical place)
  pub memory : is_memory place ≡ true
  pub read : word_at b.memory place ≡ w
  pub word : w < 2 ^ 32
  pub low : w % 256 ≡ 0

-- the processor is at the general vector
abbrev pub is_general : CoreState → Bool
is_general c = c.pc == 0x80000080

-- steps with these events lead from one processor to the other and leave the bus as it is; each begins in kernel mode at the next
-- word of the handler, from word n on, away from the general vector, and Random goes down by one with it
abbrev pub RunsInside : ℕ → List Event → CoreState → BusState → CoreState → Type 0
RunsInside n [] c b t = t ≡ c
RunsInside n (e ∷ es) c b t =
    (is_user c.system ≡ false) × (is_general c ≡ false) × (c.pc ≡ handler_address n)
    × ((s : CoreState) × (step c b ≡ record { event = e; core = s; bus = b }) × (s.random ≡ random_after 64 8 c.random) × RunsInside (suc n) es s b t)
