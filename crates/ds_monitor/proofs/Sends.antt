-- A character leaves by the serial lines.
use Rattle.std.proofs.Common.{◌≡◌, ◌∙◌, ℕ, zero, suc, ◌*◌, ◌%◌, ◌<◌, ◌^◌, ◌&&◌, Bool, true, cond, refl, ap, arith}
use Rattle.std.specs.Prelude.{Option, Some, None}
use Rattle.ds_word.specs.Word.{bits}
use Rattle.ds_dev.specs.Serial.{SerialState, can_send, lowest_line, with_enables, transmitted, sent}
use Rattle.ds_dev.specs.Bus.{BusState, with_serial}
use Rattle.ds_monitor.specs.Inner.Sending.{written, with_sent}

-- the state of the lines with a line enabled
abbrev enabled : SerialState → ℕ → SerialState
enabled d enables = record d { enables = enables }

-- a character that can be sent leaves on the lowest line that is enabled
leaves : (d : SerialState) (byte : ℕ) → can_send d ≡ true → sent (transmitted d byte) ≡ (Some (lowest_line d.enables, byte), record d { waiting = None })
leaves d byte ready = ap (λ (r : Bool). sent (cond r (record d { waiting = Some (record { line = lowest_line d.enables; byte = byte }) }) d)) ready

-- it leaves on the one line that is enabled
pub sends : (d : SerialState) (line byte : ℕ) → line < 4 → d.master_scan ≡ true
    → sent (transmitted (with_enables d (2 ^ line)) byte) ≡ (Some (line, byte), record d { enables = 2 ^ line; waiting = None })
sends d zero byte low on = leaves (enabled d 1) byte (ap (λ (x : Bool). x && true) on)
sends d (suc zero) byte low on = leaves (enabled d 2) byte (ap (λ (x : Bool). x && true) on)
sends d (suc (suc zero)) byte low on = leaves (enabled d 4) byte (ap (λ (x : Bool). x && true) on)
sends d (suc (suc (suc zero))) byte low on = leaves (enabled d 8) byte (ap (λ (x : Bool). x && true) on)
sends d (suc (suc (suc (suc n)))) byte low on = absurd (omega (arith, low))

-- the bit of a line
pub line_bit : (line : ℕ) → line < 4 → 1 * 2 ^ line % 2 ^ 32 ≡ 2 ^ line
line_bit zero low = refl
line_bit (suc zero) low = refl
line_bit (suc (suc zero)) low = refl
line_bit (suc (suc (suc zero))) low = refl
line_bit (suc (suc (suc (suc n)))) low = absurd (omega (arith, low))

-- what leaves, and the bus after it
pub record Sends (b : BusState) (line byte : ℕ) : Type 0 where
  pub value : (sent (written b line byte).serial).0 ≡ Some (line, byte)
  pub state : with_serial (written b line byte) (sent (written b line byte).serial).1 ≡ with_sent b line

low_byte : (byte : ℕ) → byte < 2 ^ 8 → bits byte 0 8 ≡ byte
low_byte byte fits = omega (arith, fits)

-- what the two registers are written is sent
pub sent_on : (b : BusState) (line byte : ℕ) → line < 4 → b.serial.master_scan ≡ true → byte < 2 ^ 8 → Sends b line byte
sent_on b line byte low on fits =
    let out : sent (written b line byte).serial ≡ (Some (line, byte), record b.serial { enables = 2 ^ line; waiting = None }) =
    ap (λ (v : ℕ). sent (transmitted (with_enables b.serial (2 ^ line)) v)) (low_byte byte fits) ∙ sends b.serial line byte low on in
    record {
      value = ap (λ (r : Option (ℕ × ℕ) × SerialState). r.0) out;
      state = ap (λ (r : Option (ℕ × ℕ) × SerialState). with_serial b r.1) out;
    }
