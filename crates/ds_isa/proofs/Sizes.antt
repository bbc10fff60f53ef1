-- The size of an access and the shape of an effect, by the instruction and by what it means.
use Rattle.std.proofs.Common.{◌≡◌, ◌≢◌, ℕ, refl, Option, Some, None}
use Rattle.ds_word.specs.Arithmetic.{signed_sum, signed_difference}
use Rattle.ds_word.specs.Word.{sign_extended}
use Rattle.ds_isa.specs.declared.instr.Instr.{Instr}
use Rattle.ds_isa.specs.declared.instr.Instr.TheVariants as instr
use Rattle.ds_isa.specs.Registers.{Registers, read}
use Rattle.ds_isa.specs.declared.uses.Shape.TheVariants.{Straight}
use Rattle.ds_isa.specs.Uses.{uses}
use Rattle.ds_isa.specs.Meaning.{Faults, meaning, overflow, written_or_trap}
use Rattle.ds_isa.specs.Inner.Shapes.{effect_shape}
use Rattle.ds_isa.specs.Access.{access_size}
use Rattle.ds_isa.specs.Inner.Access.{size_asked}

-- a trap asks for no access
trap_asks : (r : Registers) (n : ℕ) (v : Option ℕ) → size_asked (written_or_trap r n v) ≡ None
trap_asks r n None = refl
trap_asks r n (Some v) = refl

-- the size of the access that an instruction's meaning asks for is the instruction's
pub sizes_alike : (i : Instr) (pc : ℕ) (r : Registers) → size_asked (meaning i pc r) ≡ access_size i
sizes_alike (instr.Add rd rs rt) pc r = trap_asks r rd (signed_sum (read r rs) (read r rt))
sizes_alike (instr.Sub rd rs rt) pc r = trap_asks r rd (signed_difference (read r rs) (read r rt))
sizes_alike (instr.Addi rt rs i) pc r = trap_asks r rt (signed_sum (read r rs) (sign_extended 16 i))
sizes_alike other pc r = refl

-- what does not overflow goes straight on
trap_shape : (r : Registers) (n : ℕ) (v : Option ℕ) → written_or_trap r n v ≢ Faults overflow → effect_shape (written_or_trap r n v) ≡ Straight
trap_shape r n None apart = absurd (apart refl)
trap_shape r n (Some v) apart = refl

-- the shape of an instruction's meaning is the instruction's
pub shapes_alike : (i : Instr) (pc : ℕ) (r : Registers) → meaning i pc r ≢ Faults overflow → effect_shape (meaning i pc r) ≡ (uses i).shape
shapes_alike (instr.Add rd rs rt) pc r apart = trap_shape r rd (signed_sum (read r rs) (read r rt)) apart
shapes_alike (instr.Sub rd rs rt) pc r apart = trap_shape r rd (signed_difference (read r rs) (read r rt)) apart
shapes_alike (instr.Addi rt rs i) pc r apart = trap_shape r rt (signed_sum (read r rs) (sign_extended 16 i)) apart
shapes_alike other pc r apart = refl
