-- A run up to a stop: what holds at each of its steps.
use Rattle.std.proofs.Common.{◌≡◌, ℕ, ◌+◌, ◌-◌, ◌<◌, ◌≤◌, ◌^◌, Bool, false, List, ap, subst, ◌∙◌, arith, inl, inr}
use Rattle.std.proofs.lemmas.Bool.{cases_lt}
use Rattle.ds_dev.specs.Bus.{BusState}
use Rattle.ds_core.specs.declared.event.Event.{Event}
use Rattle.ds_core.specs.Core.{CoreState}
use Rattle.ds_core.specs.Inner.Core.{is_raised}
use Rattle.ds_ahead.specs.Inner.Ahead.{Hardware, hardware_of, after_steps, step_of, Advances}
use Rattle.ds_ahead.specs.Inner.Operations.{LeadsOn}
use Rattle.ds_ahead.specs.Inner.Placed.{Place, placed}
use Rattle.ds_ahead.specs.Inner.Stops.{ComesClear, IsClear, may_hold}
use Rattle.ds_ahead.proofs.Advances.{advances_join, advances_on, comes_on}
use Rattle.ds_ahead.proofs.Stretches.{at_sum, words_join}

-- what holds at each of so many steps, and after the last, holds at each of one more
pub each_on : (C : Hardware → Type 0) (n : ℕ) (old h : Hardware) → ((k : ℕ) → k < n → C (after_steps k old)) → Advances n old h → C h → (k : ℕ) → k ≤ n → C (after_steps k old)
each_on C n old h before advances here = λ k within. elim (cases_lt k n) [
  | inl below ↦ before k below
  | inr past ↦
      let last : n ≡ k = omega arith in
      subst C (advances.state ∙ ap (λ (j : ℕ). after_steps j old) last) here
]

-- and at each of so many more
pub each_join : (C : Hardware → Type 0) (a b : ℕ) (x y : Hardware) → Advances a x y → ((k : ℕ) → k < a → C (after_steps k x)) → ((k : ℕ) → k < b → C (after_steps k y)) → (k : ℕ) → k < a + b → C (after_steps k x)
each_join C a b x y first before after k below = elim (cases_lt k a) [
  | inl low ↦ before k low
  | inr past ↦
      let split : a + (k - a) ≡ k = omega arith in
      subst (λ (n : ℕ). C (after_steps n x)) split (subst C (at_sum a (k - a) x y first) (after (k - a) (omega arith)))
]

-- a step more is clear, too
pub leads_clear : (marks : List Bool) (k m : ℕ) (c : CoreState) (at : Place) (b : BusState) (c1 : CoreState) (at1 : Place) (b1 : BusState) → LeadsOn k c at b c1 at1 b1
    → ((n j : ℕ) → j < k → IsClear marks (after_steps j (hardware_of (placed n c at) b)).core) → (at1.slot ≡ false → may_hold marks at1.pc ≡ false) → m ≡ k + 1
    → (n j : ℕ) → j < m → IsClear marks (after_steps j (hardware_of (placed n c at) b)).core
leads_clear marks k m c at b c1 at1 b1 leads before here more = λ n j below.
    each_on (λ h. IsClear marks h.core) k (hardware_of (placed n c at) b) (hardware_of (placed (n + k) c1 at1) b1) (before n) (leads.advances n) here j (omega (arith, below, more))

-- so it is where the processor stood
pub clear_placed : (marks : List Bool) (k : ℕ) (c : CoreState) (at : Place) (b : BusState) → ((n j : ℕ) → j < k → IsClear marks (after_steps j (hardware_of (placed n c at) b)).core) → placed 0 c at ≡ c
    → (j : ℕ) → j < k → IsClear marks (after_steps j (hardware_of c b)).core
clear_placed marks k c at b each begins = subst (λ (t : CoreState). (j : ℕ) → j < k → IsClear marks (after_steps j (hardware_of t b)).core) begins (each 0)

-- a step more from where it is clear, or at the beginning
pub clear_on : (marks : List Bool) (n : ℕ) (old h : Hardware) → ComesClear marks n old → Advances n old h → (0 < n → IsClear marks h.core) → ComesClear marks (n + 1) old
clear_on marks n old h before advances here = λ k some below. elim (cases_lt k n) [
  | inl low ↦ before k some low
  | inr past ↦
      let last : n ≡ k = omega arith in
      subst (λ (t : Hardware). IsClear marks t.core) (advances.state ∙ ap (λ (j : ℕ). after_steps j old) last) (here (omega arith))
]

-- and so many more, each from where it is clear
pub clear_join : (marks : List Bool) (a b : ℕ) (x y : Hardware) → Advances a x y → ComesClear marks a x → ((k : ℕ) → k < b → IsClear marks (after_steps k y).core) → ComesClear marks (a + b) x
clear_join marks a b x y first before after = λ k some below. elim (cases_lt k a) [
  | inl low ↦ before k some low
  | inr past ↦
      let split : a + (k - a) ≡ k = omega arith in
      subst (λ (n : ℕ). IsClear marks (after_steps n x).core) split (subst (λ (h : Hardware). IsClear marks h.core) (at_sum a (k - a) x y first) (after (k - a) (omega arith)))
]

-- so many calm steps, each from an address of 32 bits, and from where it is clear but for the first
pub record GoesClear (marks : List Bool) (n : ℕ) (old new : Hardware) : Type 0 where
  pub advances : Advances n old new
  pub words : (k : ℕ) → k < n → (after_steps k old).core.pc < 2 ^ 32
  pub clear : ComesClear marks n old

-- a calm step more, and so many more
pub goes_clear : (marks : List Bool) (a b : ℕ) (old mid stepped new : Hardware) (e : Event) → Advances a old mid → ((k : ℕ) → k < a → (after_steps k old).core.pc < 2 ^ 32) → ComesClear marks a old → (0 < a → IsClear marks mid.core)
    → record { event = e; core = stepped.core; bus = stepped.bus } ≡ step_of mid → is_raised e ≡ false → mid.core.pc < 2 ^ 32
    → Advances b stepped new → ((k : ℕ) → k < b → (after_steps k stepped).core.pc < 2 ^ 32) → ((k : ℕ) → k < b → IsClear marks (after_steps k stepped).core) → GoesClear marks (a + 1 + b) old new
goes_clear marks a b old mid stepped new e before words clear here step calm word after words_after clear_after =
    let first : Advances (a + 1) old stepped = advances_on a old mid stepped e before step calm in
    record {
      advances = advances_join (a + 1) b old stepped new first after;
      words = words_join (a + 1) b old stepped first (λ k below. comes_on a old mid words before word k (omega (arith, below))) words_after;
      clear = clear_join marks (a + 1) b old stepped first (clear_on marks a old mid clear before here) clear_after;
    }
