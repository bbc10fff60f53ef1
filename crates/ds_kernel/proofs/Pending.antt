-- In user mode an interrupt is pending where a device asks, and is taken.
use Rattle.std.proofs.Common.{◌≡◌, ℕ, zero, suc, ◌+◌, ◌<◌, Bool, true, false, cond, refl, ap, ◌∙◌, arith}
use Rattle.std.specs.Prelude.{◌==◌, ◌||◌, not, bit_and}
use Rattle.ds_word.specs.Word.{bits, bit}
use Rattle.ds_cp0.specs.System.{System, is_pending}
use Rattle.ds_cp0.specs.declared.exception.ExceptionCode.TheVariants.{Interrupt}
use Rattle.ds_dev.specs.Bus.{BusState, lines}
use Rattle.ds_dev.specs.Inner.Bus.{asks}
use Rattle.ds_core.specs.Core.{CoreState, trapped, with_tick}
use Rattle.ds_core.specs.Effect.{instruction_step, step}

masked : (r : ℕ) → r < 4 → (ip2 ip3 : Bool) → not (bit_and 12 (r + bit 2 ip2 + bit 3 ip3) == 0) ≡ (ip2 || ip3)
masked zero k true true = refl
masked zero k true false = refl
masked zero k false true = refl
masked zero k false false = refl
masked (suc zero) k true true = refl
masked (suc zero) k true false = refl
masked (suc zero) k false true = refl
masked (suc zero) k false false = refl
masked (suc (suc zero)) k true true = refl
masked (suc (suc zero)) k true false = refl
masked (suc (suc zero)) k false true = refl
masked (suc (suc zero)) k false false = refl
masked (suc (suc (suc zero))) k true true = refl
masked (suc (suc (suc zero))) k true false = refl
masked (suc (suc (suc zero))) k false true = refl
masked (suc (suc (suc zero))) k false false = refl
masked (suc (suc (suc (suc n)))) k ip2 ip3 = absurd (omega (arith, k))

two_bits : (cause : ℕ) → bits cause 8 2 < 4
two_bits cause = omega arith

pub pending_is : (s : System) (ip2 ip3 : Bool) → s.status ≡ 0xC03 → is_pending s ip2 ip3 ≡ (ip2 || ip3)
pending_is s ip2 ip3 mode = rw mode (masked (bits s.cause 8 2) (two_bits s.cause) ip2 ip3)

pub taken : (c : CoreState) (b : BusState) → c.system.status ≡ 0xC03 → asks b ≡ true → step c b ≡ trapped c b Interrupt
taken c b mode asked = ap (λ (now : Bool). cond now (trapped c b Interrupt) (with_tick (instruction_step c b))) (pending_is c.system (lines b).0 (lines b).1 mode ∙ asked)
