-- That shifts and masks make the merged register, the stored word and the arithmetic shift.
use Rattle.std.proofs.Common.{◌≡◌, ◌+◌, ◌-◌, ◌*◌, ◌/◌, ◌%◌, ◌^◌, ◌<◌, ◌≤◌, ℕ, zero, suc, bit_and, bit_or, arith, ◌∙◌}
use Rattle.std.proofs.lemmas.Nat.{and_mask, or_shifted, one_shl, mod_below, pow_pos, shr_below, mod-pow-add, shl-shr, or_disjoint, shr_le}
use Rattle.std.proofs.lemmas.Nat.Bits.{and_high_mask, ones_shr}
use Rattle.std.proofs.Math.Nat.{add_comm, mul-mod_left, add-zero, mod-one, mod-eq_of_lt, div-eq_of_lt, zero-mul}
use Rattle.ds_word.specs.Word.{word}
use Rattle.ds_word.specs.Merge.{stored_left, stored_right, with_bits}

-- the low part of a shifted number
pub up_parts : (w k x : ℕ) → k ≤ w → x * 2 ^ k % 2 ^ w ≡ (x % 2 ^ (w - k)) * 2 ^ k
up_parts w k x h =
    let e : (w - k) + k ≡ w = omega arith in
    let split = mod-pow-add (x * 2 ^ k) (w - k) k in
    let whole : x * 2 ^ k / 2 ^ k ≡ x = shl-shr x k in
    let none : x * 2 ^ k % 2 ^ k ≡ 0 = mul-mod_left x (2 ^ k) in
    rw (whole, none, add-zero) at (rw e at split)

-- x moved up by k bits, with the low bits of y below it
pub up_is : (k x y : ℕ) → k ≤ 24 → bit_or (x * 2 ^ k % 2 ^ 32) (bit_and y (1 * 2 ^ k % 2 ^ 32 - 1)) ≡ x * 2 ^ k % 2 ^ 32 + y % 2 ^ k
up_is k x y h =
    let le : k ≤ 32 = omega arith in
    let lt : k < 32 = omega arith in
    rw (one_shl k 32 lt, and_mask y k, up_parts 32 k x le) (or_shifted (x % 2 ^ (32 - k)) k (y % 2 ^ k) (mod_below y (2 ^ k) (pow_pos k)))

-- x moved down by k bits, with the high bits of y above it
pub down_is : (k x y : ℕ) → k ≤ 24 → x < 2 ^ 32 → y < 2 ^ 32 →
    bit_or (bit_and y (4294967295 - 4294967295 / 2 ^ k)) (x / 2 ^ k) ≡ x / 2 ^ k + y / 2 ^ (32 - k) * 2 ^ (32 - k)
down_is k x y h p q =
    let le : 32 - k ≤ 32 = omega arith in
    let kle : k ≤ 32 = omega arith in
    let small : x / 2 ^ k < 2 ^ (32 - k) = shr_below x (32 - k) k (let e : (32 - k) + k ≡ 32 = omega arith in rw e p) in
    let mask : 4294967295 - 4294967295 / 2 ^ k ≡ 2 ^ 32 - 2 ^ (32 - k) =
    omega (arith, ones_shr 32 k kle, pow_pos (32 - k)) in
    rw (mask, and_high_mask 32 (32 - k) le y q) (or_shifted (y / 2 ^ (32 - k)) (32 - k) (x / 2 ^ k) small ∙ add_comm _ _)

-- the low bits of a word replaced by the high bits of a register
pub stored_left_is : (b w reg : ℕ) → b ≤ 3 → reg < 2 ^ 32 →
    reg / 2 ^ (24 - 8 * b) + w / 2 ^ (32 - (24 - 8 * b)) * 2 ^ (32 - (24 - 8 * b)) ≡ stored_left w b reg
stored_left_is b w reg h p =
    let width : 32 - (24 - 8 * b) ≡ 8 * b + 8 = omega arith in
    let whole : (8 * b + 8) + (24 - 8 * b) ≡ 32 = omega arith in
    let small : reg / 2 ^ (24 - 8 * b) < 2 ^ (8 * b + 8) = shr_below reg (8 * b + 8) (24 - 8 * b) (rw whole p) in
    let part : reg / 2 ^ (24 - 8 * b) % 2 ^ (8 * b + 8) ≡ reg / 2 ^ (24 - 8 * b) = mod-eq_of_lt small in
    let none : w % 1 ≡ 0 = mod-one w in
    rw width (grind arith)

-- the high bits of a word replaced by the low bits of a register
pub stored_right_is : (b w reg : ℕ) → b ≤ 3 → w < 2 ^ 32 →
    reg * 2 ^ (8 * b) % 2 ^ 32 + w % 2 ^ (8 * b) ≡ stored_right w b reg
stored_right_is b w reg h p =
    let le : 8 * b ≤ 32 = omega arith in
    let whole : 8 * b + (32 - 8 * b) ≡ 32 = omega arith in
    let none : w / 2 ^ 32 ≡ 0 = div-eq_of_lt p in
    rw (up_parts 32 (8 * b) reg le, whole, none) (omega arith)

-- the bits beyond a part of w, with that part filled, above the low bits of w
abbrev filled_above : ℕ → ℕ → ℕ → ℕ → ℕ
filled_above w lo width v = word ((word (w / 2 ^ lo / 2 ^ width * 2 ^ width) + v % 2 ^ width) * 2 ^ lo) + w % 2 ^ lo

-- one byte of a word replaced
pub stored_byte_is : (b w reg : ℕ) → b ≤ 3 → w < 2 ^ 32 → filled_above w (8 * b) 8 reg ≡ with_bits w (8 * b) 8 reg
stored_byte_is zero w reg h p = omega arith
stored_byte_is (suc zero) w reg h p = omega arith
stored_byte_is (suc (suc zero)) w reg h p = omega arith
stored_byte_is (suc (suc (suc zero))) w reg h p = omega arith
stored_byte_is (suc (suc (suc (suc b)))) w reg h p = omega arith

-- one half of a word replaced
pub stored_half_is : (b w reg : ℕ) → b ≤ 2 → w < 2 ^ 32 → filled_above w (8 * b) 16 reg ≡ with_bits w (8 * b) 16 reg
stored_half_is zero w reg h p = omega arith
stored_half_is (suc zero) w reg h p = omega arith
stored_half_is (suc (suc zero)) w reg h p = omega arith
stored_half_is (suc (suc (suc b))) w reg h p = omega arith

-- x moved down by k bits, with ones above it
pub below_ones_is : (k x : ℕ) → k < 32 → x < 2 ^ 32 → bit_or (x / 2 ^ k) (4294967295 - 4294967295 / 2 ^ k) ≡ x / 2 ^ k + (2 ^ 32 - 2 ^ (32 - k))
below_ones_is k x h p =
    let le : k ≤ 32 = omega arith in
    let rest : 32 - k ≤ 32 = omega arith in
    let whole : (32 - k) + k ≡ 32 = omega arith in
    let small : x / 2 ^ k < 2 ^ (32 - k) = shr_below x (32 - k) k (rw whole p) in
    let mask : 4294967295 - 4294967295 / 2 ^ k ≡ 2 ^ 32 - 2 ^ (32 - k) = omega (arith, ones_shr 32 k le, pow_pos (32 - k)) in
    let none : x / 2 ^ k / 2 ^ (32 - k) ≡ 0 = div-eq_of_lt small in
    let apart : bit_and (x / 2 ^ k) (2 ^ 32 - 2 ^ (32 - k)) ≡ 0 = rw (and_high_mask 32 (32 - k) rest (x / 2 ^ k) (omega (arith, shr_le x k)), none) (zero-mul _) in
    rw mask (or_disjoint (x / 2 ^ k) (2 ^ 32 - 2 ^ (32 - k)) apart)
