-- Registers 26 and 27 while the handler has them, and Random as it passes.
use Rattle.std.proofs.Common.{◌≡◌, ◌≢◌, ℕ, ◌-◌, ◌<◌, ◌≤◌, ◌==◌, Bool, true, false, cond, List, length, set, Option, None, sym, ap, ap₂, ◌∙◌, arith, inl, inr, length-set}
use Rattle.std.proofs.lemmas.Bool.{cases_eq}
use Rattle.std.proofs.lemmas.Bool.Decides.{nat_tests}
use Rattle.std.proofs.lemmas.List.{get_or-set_same, get_or-set_other, set-set, set_comm, set-get_or}
use Rattle.std.specs.Prelude.{slice_index}
use Rattle.ds_isa.specs.declared.instr.Late.{Late}
use Rattle.ds_isa.specs.Registers.{Registers, settled}
use Rattle.ds_tlb.specs.Entries.{random_after}
use Rattle.ds_core.specs.Core.{CoreState}
use Rattle.ds_refill.specs.Refill.{lent}
use Rattle.ds_refill.specs.Inner.Refill.{at_word}

pub apart : ◌≢◌ {A = ℕ} 27 26
apart = λ (e : ◌≡◌ {A = ℕ} 27 26). omega arith

-- the last value of register 26 stays
pub lend_26 : (g : List ℕ) (x y v : ℕ) → set (set (set g 26 x) 27 y) 26 v ≡ set (set g 26 v) 27 y
lend_26 g x y v = set_comm (set g 26 x) 27 26 y v apart ∙ ap (λ (l : List ℕ). set l 27 y) (set-set g 26 x v)

-- what was lent may be lent again
pub lent_again : (g : List ℕ) (a b x y : ℕ) → set (set (set (set g 26 a) 27 b) 26 x) 27 y ≡ set (set g 26 x) 27 y
lent_again g a b x y = ap (λ (l : List ℕ). set l 27 y) (lend_26 g a b x) ∙ set-set (set g 26 x) 27 b y

pub in_27 : (g : List ℕ) (x y : ℕ) → length g ≡ 32 → slice_index (set (set g 26 x) 27 y) 27 ≡ y
in_27 g x y size = let same = length-set g 26 x in get_or-set_same (set g 26 x) 27 y 0 (omega arith)

pub in_0 : (g : List ℕ) (x y : ℕ) → slice_index (set (set g 26 x) 27 y) 0 ≡ slice_index g 0
in_0 g x y = get_or-set_other (set g 26 x) 27 0 y 0 (λ (e : ◌≡◌ {A = ℕ} 0 27). omega arith) ∙ get_or-set_other g 26 0 x 0 (λ (e : ◌≡◌ {A = ℕ} 0 26). omega arith)

-- the registers of which some are lent are as many, and the first is 0
pub base_size : (r base : Registers) (x y : ℕ) (late : Option Late) → r ≡ lent base x y late → length r.general ≡ 32 → length base.general ≡ 32
base_size r base x y late is size = sym (length-set (set base.general 26 x) 27 y ∙ length-set base.general 26 x) ∙ (ap (λ (s : Registers). length s.general) (sym is) ∙ size)

pub base_nought : (r base : Registers) (x y : ℕ) (late : Option Late) → r ≡ lent base x y late → slice_index r.general 0 ≡ 0 → slice_index base.general 0 ≡ 0
base_nought r base x y late is nought = sym (in_0 base.general x y) ∙ (ap (λ (s : Registers). slice_index s.general 0) (sym is) ∙ nought)

-- registers are their own where nothing is lent
pub lent_itself : (r : Registers) → settled r ≡ lent (settled r) (slice_index r.general 26) (slice_index r.general 27) None
lent_itself r =
    ap (λ (g : List ℕ). record r { general = g; late = None })
    (sym (ap (λ (l : List ℕ). set l 27 (slice_index r.general 27)) (set-get_or r.general 26 0) ∙ set-get_or r.general 27 0))

-- Random stays among the slots from 8 to 63.

pub ticked_low : (r : ℕ) → 8 ≤ r → r < 64 → 8 ≤ random_after 64 8 r
ticked_low r low high = elim (cases_eq r 8) [
  | inl at ↦ (let e : random_after 64 8 r ≡ 63 = ap (λ (b : Bool). cond b 63 (r - 1)) (let t : (r == 8) ≡ true = grind (arith, nat_tests) in t) in omega arith)
  | inr above ↦ (let e : random_after 64 8 r ≡ r - 1 = ap (λ (b : Bool). cond b 63 (r - 1)) (let t : (r == 8) ≡ false = grind (arith, nat_tests) in t) in omega arith)
]

pub ticked_high : (r : ℕ) → 8 ≤ r → r < 64 → random_after 64 8 r < 64
ticked_high r low high = elim (cases_eq r 8) [
  | inl at ↦ (let e : random_after 64 8 r ≡ 63 = ap (λ (b : Bool). cond b 63 (r - 1)) (let t : (r == 8) ≡ true = grind (arith, nat_tests) in t) in omega arith)
  | inr above ↦ (let e : random_after 64 8 r ≡ r - 1 = ap (λ (b : Bool). cond b 63 (r - 1)) (let t : (r == 8) ≡ false = grind (arith, nat_tests) in t) in omega arith)
]

-- The processor by its seven values.

pub is_at_word : (c : CoreState) (pc next : ℕ) (slot : Bool) (r : Registers) → c.pc ≡ pc → c.next ≡ next → c.slot ≡ slot → c.registers ≡ r → c ≡ at_word pc next slot r c.system c.entries c.random
is_at_word c pc next slot r e f g h =
    ap (λ (x : ℕ). at_word x c.next c.slot c.registers c.system c.entries c.random) e
    ∙ ap (λ (x : ℕ). at_word pc x c.slot c.registers c.system c.entries c.random) f
    ∙ ap₂ (λ (x : Bool) (y : Registers). at_word pc next x y c.system c.entries c.random) g h
