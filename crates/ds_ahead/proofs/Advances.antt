-- Steps that enter no exception, one after the other: a step more, so many more, and one step alone.
use Rattle.std.proofs.Common.{◌≡◌, ℕ, zero, suc, ◌+◌, ◌-◌, ◌<◌, ◌^◌, Bool, false, cond, refl, sym, ap, subst, ◌∙◌, arith, inl, inr, add-one}
use Rattle.std.specs.Prelude.{◌≢◌, Option, Some, None, IsNone, IfSome}
use Rattle.std.proofs.lemmas.Bool.{cases_lt}
use Rattle.ds_cp0.specs.declared.exception.ExceptionCode.{ExceptionCode}
use Rattle.ds_core.specs.declared.event.Event.{Event}
use Rattle.ds_core.specs.declared.event.Event.TheVariants.{Retired, Branched, Raised}
use Rattle.ds_core.specs.Core.{Step}
use Rattle.ds_core.specs.Inner.Core.{is_raised}
use Rattle.ds_ahead.specs.Inner.Ahead.{Hardware, step_of, left_by, after_steps, Advances, AdvancesTo, ComesByWords}
use Rattle.ds_ahead.proofs.Slots.{Slots, step_slots}

pub calm_event : (e : Event) → ((code : ExceptionCode) → e ≢ Raised code) → is_raised e ≡ false
calm_event Retired none = refl
calm_event Branched none = refl
calm_event (Raised code) none = absurd (none code refl)

-- no step leads nowhere else
pub advances_none : (h : Hardware) → Advances 0 h h
advances_none h = record { state = refl; calm = λ k below. absurd (omega (arith, below)) }

-- a calm step more
pub advances_on : (n : ℕ) (old h t : Hardware) (e : Event) → Advances n old h → record { event = e; core = t.core; bus = t.bus } ≡ step_of h → is_raised e ≡ false → Advances (n + 1) old t
advances_on n old h t e advances done calm =
    let here : step_of h ≡ step_of (after_steps n old) = ap step_of advances.state in
    record {
      state = rw add-one (ap left_by (done ∙ here));
      calm = λ k below. elim (cases_lt k n) [
        | inl before ↦ advances.calm k before
        | inr past ↦
            let last : k ≡ n = omega arith in
            let event : (step_of (after_steps n old)).event ≡ e = ap (λ (s : Step). s.event) (sym here ∙ sym done) in
            ap (λ (j : ℕ). is_raised (step_of (after_steps j old)).event) last ∙ (ap is_raised event ∙ calm)
      ];
    }

-- an address more
pub comes_on : (n : ℕ) (old h : Hardware) → ((k : ℕ) → k < n → (after_steps k old).core.pc < 2 ^ 32) → Advances n old h → h.core.pc < 2 ^ 32 → ComesByWords n old
comes_on n old h before advances here = λ k within. elim (cases_lt k n) [
  | inl below ↦ before k below
  | inr past ↦
      let last : n ≡ k = omega arith in
      subst (λ (t : Hardware). t.core.pc < 2 ^ 32) (advances.state ∙ ap (λ (j : ℕ). after_steps j old) last) here
]

-- so many steps, and so many more after them
pub after_both : (a b : ℕ) (h : Hardware) → after_steps (a + b) h ≡ after_steps b (after_steps a h)
after_both a zero h =
    let e : a + zero ≡ a = omega arith in
    ap (λ (n : ℕ). after_steps n h) e
after_both a (suc b) h =
    let e : a + suc b ≡ suc (a + b) = omega arith in
    ap (λ (n : ℕ). after_steps n h) e ∙ ap (λ (k : Hardware). left_by (step_of k)) (after_both a b h)

-- so many calm steps, and so many more, are calm steps
pub advances_join : (a b : ℕ) (x y z : Hardware) → Advances a x y → Advances b y z → Advances (a + b) x z
advances_join a b x y z first second = record {
  state = second.state ∙ (ap (after_steps b) first.state ∙ sym (after_both a b x));
  calm = λ k below. elim (cases_lt k a) [
    | inl before ↦ first.calm k before
    | inr past ↦
        let split : k ≡ a + (k - a) = omega arith in
        let here : after_steps k x ≡ after_steps (k - a) y = ap (λ (n : ℕ). after_steps n x) split ∙ (after_both a (k - a) x ∙ ap (after_steps (k - a)) (sym first.state)) in
        ap (λ (h : Hardware). is_raised (step_of h).event) here ∙ second.calm (k - a) (omega arith)
  ];
}

-- the event of a calm step, by where it leaves the slot
event_by_slot : (e : Event) (before after : Bool) → is_raised e ≡ false → Slots e before after → cond after Branched Retired ≡ e
event_by_slot Retired before after calm left = rw left refl
event_by_slot Branched before after calm left = rw (left.1) refl
event_by_slot (Raised code) before after calm left = absurd cc

with_event : (s : Step) (e : Event) (t : Hardware) → t ≡ left_by s → e ≡ s.event → record { event = e; core = t.core; bus = t.bus } ≡ s
with_event s e t left is = rw (left, is) refl

calm_step : (n : ℕ) (old new : Hardware) → n ≡ 1 → Advances n old new → record { event = cond new.core.slot Branched Retired; core = new.core; bus = new.bus } ≡ step_of old
calm_step n old new one advances =
    let left : new ≡ left_by (step_of old) = advances.state ∙ ap (λ (k : ℕ). after_steps k old) one in
    let calm : is_raised (step_of old).event ≡ false = advances.calm 0 (omega arith) in
    let slot : new.core.slot ≡ (step_of old).core.slot = ap (λ (h : Hardware). h.core.slot) left in
    with_event (step_of old) (cond new.core.slot Branched Retired) new left
    (ap (λ (b : Bool). cond b Branched Retired) slot ∙ event_by_slot (step_of old).event old.core.slot (step_of old).core.slot calm (step_slots old.core old.bus))

-- where one step was taken and entered no exception, what it left is what that step leaves
pub one_calm_step : (n : ℕ) (raised : Option ExceptionCode) (old new : Hardware) → raised ≡ None → (IsNone raised → n ≡ 1) → AdvancesTo n raised old new
    → record { event = cond new.core.slot Branched Retired; core = new.core; bus = new.bus } ≡ step_of old
one_calm_step n None old new is one leads = calm_step n old new (one refl) leads
one_calm_step n (Some code) old new is one leads = absurd cc

raised_step : (n : ℕ) (code : ExceptionCode) (old new : Hardware) → n < 1 → AdvancesTo n (Some code) old new → record { event = Raised code; core = new.core; bus = new.bus } ≡ step_of old
raised_step n code old new few leads =
    let none : n ≡ 0 = omega arith in
    let before : leads.0 ≡ old = leads.1.state ∙ ap (λ (k : ℕ). after_steps k old) none in
    leads.2 ∙ ap step_of before

-- and where the first entered an exception, what it left is what that step leaves
pub one_raised_step : (n : ℕ) (raised : Option ExceptionCode) (code : ExceptionCode) (old new : Hardware) → raised ≡ Some code → IfSome raised (λ _. n < 1) → AdvancesTo n raised old new
    → record { event = Raised code; core = new.core; bus = new.bus } ≡ step_of old
one_raised_step n None code old new is few leads = absurd cc
one_raised_step n (Some other) code old new is few leads =
    let same : other ≡ code = cc in
    let here : record { event = Raised other; core = new.core; bus = new.bus } ≡ step_of old = raised_step n other old new few leads in
    rw (sym same) here
