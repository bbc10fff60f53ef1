-- A quiet instruction does alike over registers that are alike.
use Rattle.std.proofs.Common.{◌≡◌, ◌≢◌, ℕ, ◌+◌, ◌*◌, ◌/◌, ◌%◌, ◌^◌, ◌<◌, ◌⊎◌, Bool, true, false, cond, List, refl, sym, ap, ap₂, ◌∙◌, arith, inl, inr, set, length-set}
use Rattle.std.specs.Prelude.{◌==◌, ◌&&◌, ◌||◌, not, nat_lt, slice_index, length, Option, Some, None, bit_and, bit_or, bit_xor, ◌-◌}
use Rattle.std.proofs.lemmas.Bool.Decides.{nat_tests}
use Rattle.std.proofs.lemmas.List.{get_or-set_same, get_or-set_other}
use Rattle.ds_word.specs.Word.{word, bits, sign_extended, is_negative, minus, signed_lt, truth}
use Rattle.ds_word.specs.Arithmetic.{shifted_arithmetic, signed_sum, signed_difference}
use Rattle.ds_word.specs.Merge.{merged_left, merged_right, with_bits, stored_left, stored_right}
use Rattle.ds_word.specs.Product.{halves, product_signed, quotient_signed, quotient_unsigned}
use Rattle.ds_isa.specs.declared.instr.Instr.{Instr}
use Rattle.ds_isa.specs.declared.instr.Instr.TheVariants as instr
use Rattle.ds_isa.specs.declared.instr.Late.{Late}
use Rattle.ds_isa.specs.Uses.{uses}
use Rattle.ds_isa.specs.Registers.{Registers, late_or, read, settled, written, loaded}
use Rattle.ds_isa.specs.Meaning.{meaning, written_or_trap, with_hi_lo, branch_target, newest}
use Rattle.ds_promise.specs.Alike.{is_kernel_register, is_late, is_quiet_operand, is_quiet_merge, merges, is_quiet, AreLateAlike, AreAlike, DoAlike}

both : (a b : Bool) → (a && b) ≡ true → (a ≡ true) × (b ≡ true)
both true b e = (refl, e)
both false b e = absurd cc

is_false : (a : Bool) → not a ≡ true → a ≡ false
is_false true e = absurd cc
is_false false e = refl

-- what the two source registers owe
parts : (r : Registers) (i : Instr) → is_quiet r i ≡ true → (is_quiet_operand r.late (uses i).reads.rs ≡ true) × (cond (merges i) (is_quiet_merge (uses i).reads.rt) (is_quiet_operand r.late (uses i).reads.rt) ≡ true)
parts r i q = both (is_quiet_operand r.late (uses i).reads.rs) _ q

-- what a register that is not late reads
read_now : (late : Option Late) (n now : ℕ) → is_late late n ≡ false → late_or late n now ≡ now
read_now None n now e = refl
read_now (Some l) n now e = ap (λ (b : Bool). cond b l.old now) e

not_late : (k l : Option Late) (n : ℕ) → AreLateAlike k l → is_late k n ≡ false → is_late l n ≡ false
not_late k None n a e = refl
not_late None (Some l) n a e = absurd a
not_late (Some k) (Some l) n a e = ap (λ (x : ℕ). x == n) (sym a) ∙ e

-- a quiet operand reads alike
same_read : (r s : Registers) (n : ℕ) → AreAlike r s → is_quiet_operand r.late (Some n) ≡ true → read r n ≡ read s n
same_read r s n k q =
    let e = both (not (is_kernel_register (n % 32))) _ q in
    let apart = is_false (is_late r.late (n % 32)) e.1 in
    read_now r.late (n % 32) _ apart
    ∙ (k.general (n % 32) (is_false _ e.0) ∙ sym (read_now s.late (n % 32) _ (not_late r.late s.late (n % 32) k.late apart)))

same_newest : (r s : Registers) (n : ℕ) → AreAlike r s → is_quiet_merge (Some n) ≡ true → newest r n ≡ newest s n
same_newest r s n k q = k.general (n % 32) (is_false _ q)

pub nat_cases : (j i : ℕ) → (j ≡ i) ⊎ (j ≢ i)
nat_cases j i = elim (j == i) as (λ b. (j == i) ≡ b → (j ≡ i) ⊎ (j ≢ i)) [ true ↦ λ e. inl (grind (arith, nat_tests)) | false ↦ λ e. inr (grind (arith, nat_tests)) ] refl

-- lists alike, with the same put at the same place
pub sets_alike : (g h : List ℕ) (i v n : ℕ) → i < length g → i < length h → slice_index g n ≡ slice_index h n → slice_index (set g i v) n ≡ slice_index (set h i v) n
sets_alike g h i v n p q e = elim (nat_cases n i) [
  | inl same ↦ rw same (get_or-set_same g i v 0 p ∙ sym (get_or-set_same h i v 0 q))
  | inr other ↦ get_or-set_other g i n v 0 other ∙ (e ∙ sym (get_or-set_other h i n v 0 other))
]

put_alike : (b : Bool) (g h : List ℕ) (i v n : ℕ) → i < length g → i < length h → slice_index g n ≡ slice_index h n → slice_index (cond b g (set g i v)) n ≡ slice_index (cond b h (set h i v)) n
put_alike true g h i v n p q e = e
put_alike false g h i v n p q e = sets_alike g h i v n p q e

put_size : (b : Bool) (g : List ℕ) (i v : ℕ) → length (cond b g (set g i v)) ≡ length g
put_size true g i v = refl
put_size false g i v = length-set g i v

pub settled_alike : (r s : Registers) → AreAlike r s → AreAlike (settled r) (settled s)
settled_alike r s k = record { general = k.general; hi = k.hi; lo = k.lo; late = tt; size = k.size; same_size = k.same_size }

pub written_alike : (r s : Registers) (n v w : ℕ) → AreAlike r s → v ≡ w → AreAlike (written r n v) (written s n w)
written_alike r s n v w k e =
    let size = k.size in let same_size = k.same_size in
    rw e (record {
      general = λ m not_kernels. put_alike (n % 32 == 0) r.general s.general (n % 32) w m (omega arith) (omega arith) (k.general m not_kernels);
      hi = k.hi;
      lo = k.lo;
      late = tt;
      size = put_size (n % 32 == 0) r.general (n % 32) w ∙ size;
      same_size = put_size (n % 32 == 0) s.general (n % 32) w ∙ same_size;
    })

loaded_by : (b : Bool) (r s : Registers) (i v x y : ℕ) → i < 32 → AreAlike r s
    → AreAlike (cond b (settled r) (record r { general = set r.general i v; late = Some (record { register = i; old = x }) })) (cond b (settled s) (record s { general = set s.general i v; late = Some (record { register = i; old = y }) }))
loaded_by true r s i v x y p k = settled_alike r s k
loaded_by false r s i v x y p k =
    let size = k.size in let same_size = k.same_size in
    record {
      general = λ m not_kernels. sets_alike r.general s.general i v m (omega arith) (omega arith) (k.general m not_kernels);
      hi = k.hi;
      lo = k.lo;
      late = refl;
      size = length-set r.general i v ∙ size;
      same_size = length-set s.general i v ∙ same_size;
    }

loaded_alike : (r s : Registers) (n v w : ℕ) → AreAlike r s → v ≡ w → AreAlike (loaded r n v) (loaded s n w)
loaded_alike r s n v w k e = rw e (loaded_by (n % 32 == 0) r s (n % 32) w (slice_index r.general (n % 32)) (slice_index s.general (n % 32)) (omega arith) k)

hi_lo_alike : (r s : Registers) (v w : ℕ × ℕ) → AreAlike r s → v ≡ w → DoAlike (with_hi_lo r v) (with_hi_lo s w)
hi_lo_alike r s v w k e = record { general = k.general; hi = ap (λ (x : ℕ × ℕ). x.0) e; lo = ap (λ (x : ℕ × ℕ). x.1) e; late = tt; size = k.size; same_size = k.same_size }

trap_by : (r s : Registers) (n : ℕ) (v : Option ℕ) → AreAlike r s → DoAlike (written_or_trap r n v) (written_or_trap s n v)
trap_by r s n None k = refl
trap_by r s n (Some v) k = written_alike r s n v v k refl

trap_alike : (r s : Registers) (n : ℕ) (v w : Option ℕ) → AreAlike r s → v ≡ w → DoAlike (written_or_trap r n v) (written_or_trap s n w)
trap_alike r s n v w k e = rw e (trap_by r s n w k)

-- a quiet instruction does alike
pub quiet : (i : Instr) (pc : ℕ) (r s : Registers) → AreAlike r s → is_quiet r i ≡ true → DoAlike (meaning i pc r) (meaning i pc s)
quiet (instr.Sll rd rt shamt) pc r s k q = written_alike r s rd _ _ k (ap (λ (x : ℕ). (word (x * 2 ^ (shamt % 32)))) (same_read r s rt k (parts r (instr.Sll rd rt shamt) q).1))
quiet (instr.Srl rd rt shamt) pc r s k q = written_alike r s rd _ _ k (ap (λ (x : ℕ). (x / 2 ^ (shamt % 32))) (same_read r s rt k (parts r (instr.Srl rd rt shamt) q).1))
quiet (instr.Sra rd rt shamt) pc r s k q = written_alike r s rd _ _ k (ap (λ (x : ℕ). (shifted_arithmetic (x) (shamt % 32))) (same_read r s rt k (parts r (instr.Sra rd rt shamt) q).1))
quiet (instr.Sllv rd rt rs) pc r s k q = written_alike r s rd _ _ k (ap₂ (λ (x y : ℕ). (word (y * 2 ^ (x % 32)))) (same_read r s rs k (parts r (instr.Sllv rd rt rs) q).0) (same_read r s rt k (parts r (instr.Sllv rd rt rs) q).1))
quiet (instr.Srlv rd rt rs) pc r s k q = written_alike r s rd _ _ k (ap₂ (λ (x y : ℕ). (y / 2 ^ (x % 32))) (same_read r s rs k (parts r (instr.Srlv rd rt rs) q).0) (same_read r s rt k (parts r (instr.Srlv rd rt rs) q).1))
quiet (instr.Srav rd rt rs) pc r s k q = written_alike r s rd _ _ k (ap₂ (λ (x y : ℕ). (shifted_arithmetic (y) (x % 32))) (same_read r s rs k (parts r (instr.Srav rd rt rs) q).0) (same_read r s rt k (parts r (instr.Srav rd rt rs) q).1))
quiet (instr.Jr rs) pc r s k q = (settled_alike r s k, (ap (λ (x : ℕ). x) (same_read r s rs k (parts r (instr.Jr rs) q).0)))
quiet (instr.Jalr rd rs) pc r s k q = (written_alike r s rd _ _ k refl, (ap (λ (x : ℕ). x) (same_read r s rs k (parts r (instr.Jalr rd rs) q).0)))
quiet (instr.Syscall code) pc r s k q = tt
quiet (instr.Break code) pc r s k q = refl
quiet (instr.Mfhi rd) pc r s k q = written_alike r s rd _ _ k k.hi
quiet (instr.Mthi rs) pc r s k q = hi_lo_alike r s _ _ k (ap₂ (λ (x y : ℕ). (x, y)) (same_read r s rs k (parts r (instr.Mthi rs) q).0) k.lo)
quiet (instr.Mflo rd) pc r s k q = written_alike r s rd _ _ k k.lo
quiet (instr.Mtlo rs) pc r s k q = hi_lo_alike r s _ _ k (ap₂ (λ (x y : ℕ). (x, y)) k.hi (same_read r s rs k (parts r (instr.Mtlo rs) q).0))
quiet (instr.Mult rs rt) pc r s k q = hi_lo_alike r s _ _ k (ap₂ (λ (x y : ℕ). (halves (product_signed (x) (y)))) (same_read r s rs k (parts r (instr.Mult rs rt) q).0) (same_read r s rt k (parts r (instr.Mult rs rt) q).1))
quiet (instr.Multu rs rt) pc r s k q = hi_lo_alike r s _ _ k (ap₂ (λ (x y : ℕ). (halves (x * y))) (same_read r s rs k (parts r (instr.Multu rs rt) q).0) (same_read r s rt k (parts r (instr.Multu rs rt) q).1))
quiet (instr.Div rs rt) pc r s k q = hi_lo_alike r s _ _ k (ap₂ (λ (x y : ℕ). (quotient_signed (x) (y))) (same_read r s rs k (parts r (instr.Div rs rt) q).0) (same_read r s rt k (parts r (instr.Div rs rt) q).1))
quiet (instr.Divu rs rt) pc r s k q = hi_lo_alike r s _ _ k (ap₂ (λ (x y : ℕ). (quotient_unsigned (x) (y))) (same_read r s rs k (parts r (instr.Divu rs rt) q).0) (same_read r s rt k (parts r (instr.Divu rs rt) q).1))
quiet (instr.Add rd rs rt) pc r s k q = trap_alike r s rd _ _ k (ap₂ (λ (x y : ℕ). (signed_sum (x) (y))) (same_read r s rs k (parts r (instr.Add rd rs rt) q).0) (same_read r s rt k (parts r (instr.Add rd rs rt) q).1))
quiet (instr.Addu rd rs rt) pc r s k q = written_alike r s rd _ _ k (ap₂ (λ (x y : ℕ). (word (x + y))) (same_read r s rs k (parts r (instr.Addu rd rs rt) q).0) (same_read r s rt k (parts r (instr.Addu rd rs rt) q).1))
quiet (instr.Sub rd rs rt) pc r s k q = trap_alike r s rd _ _ k (ap₂ (λ (x y : ℕ). (signed_difference (x) (y))) (same_read r s rs k (parts r (instr.Sub rd rs rt) q).0) (same_read r s rt k (parts r (instr.Sub rd rs rt) q).1))
quiet (instr.Subu rd rs rt) pc r s k q = written_alike r s rd _ _ k (ap₂ (λ (x y : ℕ). (minus (x) (y))) (same_read r s rs k (parts r (instr.Subu rd rs rt) q).0) (same_read r s rt k (parts r (instr.Subu rd rs rt) q).1))
quiet (instr.And rd rs rt) pc r s k q = written_alike r s rd _ _ k (ap₂ (λ (x y : ℕ). (bit_and (x) (y))) (same_read r s rs k (parts r (instr.And rd rs rt) q).0) (same_read r s rt k (parts r (instr.And rd rs rt) q).1))
quiet (instr.Or rd rs rt) pc r s k q = written_alike r s rd _ _ k (ap₂ (λ (x y : ℕ). (bit_or (x) (y))) (same_read r s rs k (parts r (instr.Or rd rs rt) q).0) (same_read r s rt k (parts r (instr.Or rd rs rt) q).1))
quiet (instr.Xor rd rs rt) pc r s k q = written_alike r s rd _ _ k (ap₂ (λ (x y : ℕ). (bit_xor (x) (y))) (same_read r s rs k (parts r (instr.Xor rd rs rt) q).0) (same_read r s rt k (parts r (instr.Xor rd rs rt) q).1))
quiet (instr.Nor rd rs rt) pc r s k q = written_alike r s rd _ _ k (ap₂ (λ (x y : ℕ). (2 ^ 32 - 1 - bit_or (x) (y))) (same_read r s rs k (parts r (instr.Nor rd rs rt) q).0) (same_read r s rt k (parts r (instr.Nor rd rs rt) q).1))
quiet (instr.Slt rd rs rt) pc r s k q = written_alike r s rd _ _ k (ap₂ (λ (x y : ℕ). (truth (signed_lt (x) (y)))) (same_read r s rs k (parts r (instr.Slt rd rs rt) q).0) (same_read r s rt k (parts r (instr.Slt rd rs rt) q).1))
quiet (instr.Sltu rd rs rt) pc r s k q = written_alike r s rd _ _ k (ap₂ (λ (x y : ℕ). (truth (nat_lt (x) (y)))) (same_read r s rs k (parts r (instr.Sltu rd rs rt) q).0) (same_read r s rt k (parts r (instr.Sltu rd rs rt) q).1))
quiet (instr.Bltz rs i) pc r s k q = (settled_alike r s k, (ap (λ (x : ℕ). branch_target ((is_negative (x))) pc i) (same_read r s rs k (parts r (instr.Bltz rs i) q).0)))
quiet (instr.Bgez rs i) pc r s k q = (settled_alike r s k, (ap (λ (x : ℕ). branch_target ((not (is_negative (x)))) pc i) (same_read r s rs k (parts r (instr.Bgez rs i) q).0)))
quiet (instr.Bltzal rs i) pc r s k q = (written_alike r s 31 _ _ k refl, (ap (λ (x : ℕ). branch_target ((is_negative (x))) pc i) (same_read r s rs k (parts r (instr.Bltzal rs i) q).0)))
quiet (instr.Bgezal rs i) pc r s k q = (written_alike r s 31 _ _ k refl, (ap (λ (x : ℕ). branch_target ((not (is_negative (x)))) pc i) (same_read r s rs k (parts r (instr.Bgezal rs i) q).0)))
quiet (instr.J target) pc r s k q = (settled_alike r s k, refl)
quiet (instr.Jal target) pc r s k q = (written_alike r s 31 _ _ k refl, refl)
quiet (instr.Beq rs rt i) pc r s k q = (settled_alike r s k, (ap₂ (λ (x y : ℕ). branch_target ((x == y)) pc i) (same_read r s rs k (parts r (instr.Beq rs rt i) q).0) (same_read r s rt k (parts r (instr.Beq rs rt i) q).1)))
quiet (instr.Bne rs rt i) pc r s k q = (settled_alike r s k, (ap₂ (λ (x y : ℕ). branch_target ((not (x == y))) pc i) (same_read r s rs k (parts r (instr.Bne rs rt i) q).0) (same_read r s rt k (parts r (instr.Bne rs rt i) q).1)))
quiet (instr.Blez rs i) pc r s k q = (settled_alike r s k, (ap (λ (x : ℕ). branch_target ((is_negative (x) || (x == 0))) pc i) (same_read r s rs k (parts r (instr.Blez rs i) q).0)))
quiet (instr.Bgtz rs i) pc r s k q = (settled_alike r s k, (ap (λ (x : ℕ). branch_target ((not (is_negative (x) || (x == 0)))) pc i) (same_read r s rs k (parts r (instr.Bgtz rs i) q).0)))
quiet (instr.Addi rt rs i) pc r s k q = trap_alike r s rt _ _ k (ap (λ (x : ℕ). (signed_sum (x) (sign_extended 16 i))) (same_read r s rs k (parts r (instr.Addi rt rs i) q).0))
quiet (instr.Addiu rt rs i) pc r s k q = written_alike r s rt _ _ k (ap (λ (x : ℕ). (word (x + sign_extended 16 i))) (same_read r s rs k (parts r (instr.Addiu rt rs i) q).0))
quiet (instr.Slti rt rs i) pc r s k q = written_alike r s rt _ _ k (ap (λ (x : ℕ). (truth (signed_lt (x) (sign_extended 16 i)))) (same_read r s rs k (parts r (instr.Slti rt rs i) q).0))
quiet (instr.Sltiu rt rs i) pc r s k q = written_alike r s rt _ _ k (ap (λ (x : ℕ). (truth (nat_lt (x) (sign_extended 16 i)))) (same_read r s rs k (parts r (instr.Sltiu rt rs i) q).0))
quiet (instr.Andi rt rs i) pc r s k q = written_alike r s rt _ _ k (ap (λ (x : ℕ). (bit_and (x) i)) (same_read r s rs k (parts r (instr.Andi rt rs i) q).0))
quiet (instr.Ori rt rs i) pc r s k q = written_alike r s rt _ _ k (ap (λ (x : ℕ). (bit_or (x) i)) (same_read r s rs k (parts r (instr.Ori rt rs i) q).0))
quiet (instr.Xori rt rs i) pc r s k q = written_alike r s rt _ _ k (ap (λ (x : ℕ). (bit_xor (x) i)) (same_read r s rs k (parts r (instr.Xori rt rs i) q).0))
quiet (instr.Lui rt i) pc r s k q = written_alike r s rt _ _ k refl
quiet (instr.Lb rt rs i) pc r s k q = (refl, (ap (λ (x : ℕ). word (x + sign_extended 16 i)) (same_read r s rs k (parts r (instr.Lb rt rs i) q).0)), λ w. loaded_alike r s rt _ _ k (ap (λ (x : ℕ). sign_extended 8 (bits w (8 * (x % 4)) 8)) (ap (λ (x : ℕ). word (x + sign_extended 16 i)) (same_read r s rs k (parts r (instr.Lb rt rs i) q).0))))
quiet (instr.Lh rt rs i) pc r s k q = (refl, (ap (λ (x : ℕ). word (x + sign_extended 16 i)) (same_read r s rs k (parts r (instr.Lh rt rs i) q).0)), λ w. loaded_alike r s rt _ _ k (ap (λ (x : ℕ). sign_extended 16 (bits w (8 * (x % 4)) 16)) (ap (λ (x : ℕ). word (x + sign_extended 16 i)) (same_read r s rs k (parts r (instr.Lh rt rs i) q).0))))
quiet (instr.Lwl rt rs i) pc r s k q = (refl, (ap (λ (x : ℕ). word (x + sign_extended 16 i)) (same_read r s rs k (parts r (instr.Lwl rt rs i) q).0)), λ w. loaded_alike r s rt _ _ k (ap₂ (λ (x y : ℕ). merged_left w (x % 4) (y)) (ap (λ (x : ℕ). word (x + sign_extended 16 i)) (same_read r s rs k (parts r (instr.Lwl rt rs i) q).0)) (same_newest r s rt k (parts r (instr.Lwl rt rs i) q).1)))
quiet (instr.Lw rt rs i) pc r s k q = (refl, (ap (λ (x : ℕ). word (x + sign_extended 16 i)) (same_read r s rs k (parts r (instr.Lw rt rs i) q).0)), λ w. loaded_alike r s rt _ _ k (refl))
quiet (instr.Lbu rt rs i) pc r s k q = (refl, (ap (λ (x : ℕ). word (x + sign_extended 16 i)) (same_read r s rs k (parts r (instr.Lbu rt rs i) q).0)), λ w. loaded_alike r s rt _ _ k (ap (λ (x : ℕ). bits w (8 * (x % 4)) 8) (ap (λ (x : ℕ). word (x + sign_extended 16 i)) (same_read r s rs k (parts r (instr.Lbu rt rs i) q).0))))
quiet (instr.Lhu rt rs i) pc r s k q = (refl, (ap (λ (x : ℕ). word (x + sign_extended 16 i)) (same_read r s rs k (parts r (instr.Lhu rt rs i) q).0)), λ w. loaded_alike r s rt _ _ k (ap (λ (x : ℕ). bits w (8 * (x % 4)) 16) (ap (λ (x : ℕ). word (x + sign_extended 16 i)) (same_read r s rs k (parts r (instr.Lhu rt rs i) q).0))))
quiet (instr.Lwr rt rs i) pc r s k q = (refl, (ap (λ (x : ℕ). word (x + sign_extended 16 i)) (same_read r s rs k (parts r (instr.Lwr rt rs i) q).0)), λ w. loaded_alike r s rt _ _ k (ap₂ (λ (x y : ℕ). merged_right w (x % 4) (y)) (ap (λ (x : ℕ). word (x + sign_extended 16 i)) (same_read r s rs k (parts r (instr.Lwr rt rs i) q).0)) (same_newest r s rt k (parts r (instr.Lwr rt rs i) q).1)))
quiet (instr.Sb rt rs i) pc r s k q = (refl, (ap (λ (x : ℕ). word (x + sign_extended 16 i)) (same_read r s rs k (parts r (instr.Sb rt rs i) q).0)), λ w. ap₂ (λ (x y : ℕ). with_bits w (8 * (x % 4)) 8 (y)) (ap (λ (x : ℕ). word (x + sign_extended 16 i)) (same_read r s rs k (parts r (instr.Sb rt rs i) q).0)) (same_read r s rt k (parts r (instr.Sb rt rs i) q).1))
quiet (instr.Sh rt rs i) pc r s k q = (refl, (ap (λ (x : ℕ). word (x + sign_extended 16 i)) (same_read r s rs k (parts r (instr.Sh rt rs i) q).0)), λ w. ap₂ (λ (x y : ℕ). with_bits w (8 * (x % 4)) 16 (y)) (ap (λ (x : ℕ). word (x + sign_extended 16 i)) (same_read r s rs k (parts r (instr.Sh rt rs i) q).0)) (same_read r s rt k (parts r (instr.Sh rt rs i) q).1))
quiet (instr.Swl rt rs i) pc r s k q = (refl, (ap (λ (x : ℕ). word (x + sign_extended 16 i)) (same_read r s rs k (parts r (instr.Swl rt rs i) q).0)), λ w. ap₂ (λ (x y : ℕ). stored_left w (x % 4) (y)) (ap (λ (x : ℕ). word (x + sign_extended 16 i)) (same_read r s rs k (parts r (instr.Swl rt rs i) q).0)) (same_read r s rt k (parts r (instr.Swl rt rs i) q).1))
quiet (instr.Sw rt rs i) pc r s k q = (refl, (ap (λ (x : ℕ). word (x + sign_extended 16 i)) (same_read r s rs k (parts r (instr.Sw rt rs i) q).0)), λ w. ap₂ (λ (x y : ℕ). y) (ap (λ (x : ℕ). word (x + sign_extended 16 i)) (same_read r s rs k (parts r (instr.Sw rt rs i) q).0)) (same_read r s rt k (parts r (instr.Sw rt rs i) q).1))
quiet (instr.Swr rt rs i) pc r s k q = (refl, (ap (λ (x : ℕ). word (x + sign_extended 16 i)) (same_read r s rs k (parts r (instr.Swr rt rs i) q).0)), λ w. ap₂ (λ (x y : ℕ). stored_right w (x % 4) (y)) (ap (λ (x : ℕ). word (x + sign_extended 16 i)) (same_read r s rs k (parts r (instr.Swr rt rs i) q).0)) (same_read r s rt k (parts r (instr.Swr rt rs i) q).1))
quiet (instr.Mfc0 rt rd) pc r s k q = tt
quiet (instr.Mtc0 rt rd) pc r s k q = tt
quiet instr.Tlbr pc r s k q = tt
quiet instr.Tlbwi pc r s k q = tt
quiet instr.Tlbwr pc r s k q = tt
quiet instr.Tlbp pc r s k q = tt
quiet instr.Rfe pc r s k q = tt
quiet (instr.Cop unit w) pc r s k q = tt
quiet (instr.Reserved w) pc r s k q = refl
