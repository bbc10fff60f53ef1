-- What a character is read as.
use Rattle.std.proofs.Common.{◌≡◌, ℕ, ◌+◌, ◌*◌, ◌/◌, ◌%◌, ◌<◌, ◌^◌, Bool, true, false, List, [], ◌∷◌, ap₂, arith}
use Rattle.std.specs.Prelude.{slice_get, Some}
use Rattle.std.specs.List.{All}
use Rattle.std.proofs.lemmas.List.Elements.{All-head}
use Rattle.ds_word.specs.Word.{bit}
use Rattle.ds_dev.specs.declared.serial.Character.{Character as Received}
use Rattle.ds_dev.specs.Serial.{SerialState, taken, read_silo}
use Rattle.ds_kernel.specs.declared.devices.Typed.{Typed}
use Rattle.ds_kernel.specs.Inner.Devices.{IsOfLine, oldest}

abbrev told : ℕ → Typed
told word = record { line = word / 256 % 4; byte = word % 256 }

line_told : (lost : Bool) (line byte : ℕ) → line < 4 → byte < 2 ^ 8 → (2 ^ 15 + bit 14 lost + line * 2 ^ 8 + byte) / 256 % 4 ≡ line
line_told true line byte l b = omega (arith, l, b)
line_told false line byte l b = omega (arith, l, b)

byte_told : (lost : Bool) (line byte : ℕ) → line < 4 → byte < 2 ^ 8 → (2 ^ 15 + bit 14 lost + line * 2 ^ 8 + byte) % 256 ≡ byte
byte_told true line byte l b = omega (arith, l, b)
byte_told false line byte l b = omega (arith, l, b)

-- the word tells the character
pub word_tells : (d : SerialState) (word : ℕ) → All IsOfLine d.silo → word ≡ (read_silo d).0 → (word / 2 ^ 15 ≡ 0 → ⊥) → Some (told word) ≡ oldest d.silo
word_tells d word lines is some = by d.silo lines is
  where
    nothing : word ≡ 0 → ⊥
    nothing none = some (omega (arith, none))

    by : (silo : List Received) → All IsOfLine silo → word ≡ (taken d (slice_get silo 0)).0 → Some (told word) ≡ oldest silo
    by [] lines is = absurd (nothing is)
    by (c ∷ rest) lines is =
        let of : IsOfLine c = All-head IsOfLine c rest lines in
        rw is (ap₂ (λ (x y : ℕ). Some (record { line = x; byte = y })) (line_told d.overrun c.line c.byte of.line of.byte) (byte_told d.overrun c.line c.byte of.line of.byte))
