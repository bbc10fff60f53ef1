-- While the devices rest no interrupt is pending.
use Rattle.std.proofs.Common.{◌≡◌, ℕ, zero, suc, ◌+◌, ◌<◌, Bool, false, refl, ap, arith}
use Rattle.std.specs.Prelude.{◌==◌, ◌&&◌, not, bit_and}
use Rattle.ds_word.specs.Word.{bits, bit}
use Rattle.ds_cp0.specs.System.{System, is_pending}
use Rattle.ds_dev.specs.Serial.{SerialState, serial_requests}
use Rattle.ds_dev.specs.Clock.{clock_requests}
use Rattle.ds_dev.specs.Bus.{BusState, lines, is_enabled}
use Rattle.ds_refinement.specs.Held.{Kept}
use Rattle.ds_refinement.specs.Units.{user_status}
use Rattle.ds_refinement.specs.Stands.{AreResting}

-- the software's requests are not let through
no_request : (r : ℕ) → r < 4 → not (bit_and (bits user_status 8 8) (r + bit 2 false + bit 3 false) == 0) ≡ false
no_request zero small = refl
no_request (suc zero) small = refl
no_request (suc (suc zero)) small = refl
no_request (suc (suc (suc zero))) small = refl
no_request (suc (suc (suc (suc n)))) small = absurd (omega (arith, small))

two_bits : (cause : ℕ) → bits cause 8 2 < 4
two_bits cause = omega arith

-- in user mode nothing is pending where no device asks
no_interrupt : (s : System) (ip2 ip3 : Bool) → s.status ≡ user_status → ip2 ≡ false → ip3 ≡ false → is_pending s ip2 ip3 ≡ false
no_interrupt s ip2 ip3 mode serial clock = rw (mode, serial, clock) (no_request (bits s.cause 8 2) (two_bits s.cause))

-- devices that rest ask for nothing
pub rests : (b : BusState) (k : Kept) (s : System) → AreResting b k → s.status ≡ user_status → is_pending s (lines b).0 (lines b).1 ≡ false
rests b k s a mode =
    no_interrupt s (lines b).0 (lines b).1 mode
    (ap (λ (d : SerialState). serial_requests d && is_enabled b.system) a.serial)
    (ap clock_requests a.clock)
