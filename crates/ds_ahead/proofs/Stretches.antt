-- A stretch: steps that are done by their operations, joined with what comes after them.
use Rattle.std.proofs.Common.{◌≡◌, ℕ, suc, List, ◌+◌, ◌-◌, ◌<◌, ◌≤◌, ◌^◌, Bool, false, refl, sym, ap, subst, ◌∙◌, arith, inl, inr}
use Rattle.std.specs.Prelude.{◌≢◌, Option, Some, None}
use Rattle.std.proofs.lemmas.Bool.{cases_lt}
use Rattle.ds_cp0.specs.declared.exception.ExceptionCode.{ExceptionCode}
use Rattle.ds_cp0.specs.declared.exception.ExceptionCode.TheVariants.{SystemCall}
use Rattle.ds_cp0.specs.System.{System, asid_of, is_pending}
use Rattle.ds_tlb.specs.declared.entry.Entry.{Entry}
use Rattle.ds_tlb.specs.Inner.Frames.{base_of}
use Rattle.ds_isa.specs.Meaning.{Effect, meaning}
use Rattle.ds_pages.specs.declared.operation.Operation.{Operation}
use Rattle.ds_pages.specs.declared.operation.OperationKind.TheVariants.{Other}
use Rattle.ds_pages.specs.Inner.Operations.{does}
use Rattle.ds_dev.specs.Bus.{BusState, lines}
use Rattle.ds_core.specs.declared.event.Event.{Event}
use Rattle.ds_ahead.specs.declared.operations.Outcome.{Outcome}
use Rattle.ds_ahead.specs.declared.operations.Outcome.TheVariants.{Done, Loaded, Branched, Called, Left}
use Rattle.ds_core.specs.Core.{CoreState, with_tick, trapped}
use Rattle.ds_core.specs.Effect.{effect, instruction_step, step}
use Rattle.ds_ahead.specs.Inner.Operations.{ComesTo, IsFetched, IsCalled, HasOutcome, StaysCalm, Steps, LeadsOn}
use Rattle.ds_ahead.specs.Inner.Placed.{Place, placed, registers_at}
use Rattle.ds_ahead.specs.Inner.Code.{IsPageOf, KnowsPage}
use Rattle.ds_core.specs.Inner.Coprocessor.{only_devices_interrupt}
use Rattle.ds_core.specs.Inner.Core.{is_raised}
use Rattle.ds_ahead.specs.Inner.Ahead.{Hardware, hardware_of, after_steps, Advances, AdvancesTo}
use Rattle.ds_ahead.proofs.Advances.{advances_on, comes_on, advances_join, after_both}

-- where no interrupt is to be taken the effect of an operation that does what the instruction means is the step
pub is_step : (o : Operation) (c : CoreState) (b : BusState) → is_pending c.system (lines b).0 (lines b).1 ≡ false → (fetched : IsFetched o c b) → o.kind ≢ Other
    → with_tick (effect c b fetched.instr (does o c.pc c.registers)) ≡ step c b
is_step o c b calm fetched some =
    let means : does o c.pc c.registers ≡ meaning fetched.instr c.pc c.registers = fetched.means some c.pc c.registers in
    let whole : with_tick (instruction_step c b) ≡ step c b = rw calm refl in
    ap (λ (e : Effect). with_tick (effect c b fetched.instr e)) means ∙ (ap with_tick fetched.lies ∙ whole)

-- the outcome of an operation is how the step goes
pub has_outcome : (out : Outcome) (o : Operation) (c : CoreState) (at : Place) (b b1 : BusState) (c2 : CoreState) (at2 : Place) (b2 : BusState) → is_pending c.system (lines b).0 (lines b).1 ≡ false → ((n : ℕ) → IsFetched o (placed n c at) b) → (o.kind ≡ Other → out ≡ Left) → b1 ≡ b
    → ComesTo out (does o at.pc (registers_at c at)) c at b1 c2 at2 b2 → HasOutcome out c at b c2 at2 b2
has_outcome Done o c at b b1 c2 at2 b2 calm fetched left same comes =
    let here : ComesTo Done (does o at.pc (registers_at c at)) c at b c2 at2 b2 = subst (λ (k : BusState). ComesTo Done (does o at.pc (registers_at c at)) c at k c2 at2 b2) same comes in
    (here.0, λ n. here.1 n (fetched n).instr ∙ is_step o (placed n c at) b calm (fetched n) (λ is. let no : Done ≡ Left = left is in absurd cc))
has_outcome Loaded o c at b b1 c2 at2 b2 calm fetched left same comes =
    let here : ComesTo Loaded (does o at.pc (registers_at c at)) c at b c2 at2 b2 = subst (λ (k : BusState). ComesTo Loaded (does o at.pc (registers_at c at)) c at k c2 at2 b2) same comes in
    λ n. here n (fetched n).instr ∙ is_step o (placed n c at) b calm (fetched n) (λ is. let no : Loaded ≡ Left = left is in absurd cc)
has_outcome Branched o c at b b1 c2 at2 b2 calm fetched left same comes =
    let here : ComesTo Branched (does o at.pc (registers_at c at)) c at b c2 at2 b2 = subst (λ (k : BusState). ComesTo Branched (does o at.pc (registers_at c at)) c at k c2 at2 b2) same comes in
    (here.0, λ n. here.1 n (fetched n).instr ∙ is_step o (placed n c at) b calm (fetched n) (λ is. let no : Branched ≡ Left = left is in absurd cc))
has_outcome Called o c at b b1 c2 at2 b2 calm fetched left same comes = (
  comes.0,
  comes.1,
  comes.2 ∙ same,
  λ n.
      let calls : with_tick (trapped (placed n c at) b SystemCall) ≡ with_tick (effect (placed n c at) b (fetched n).instr (does o at.pc (registers_at c at))) =
      ap (λ (e : Effect). with_tick (effect (placed n c at) b (fetched n).instr e)) (sym comes.3) in
      calls ∙ is_step o (placed n c at) b calm (fetched n) (λ is. let no : Called ≡ Left = left is in absurd cc),
)
has_outcome Left o c at b b1 c2 at2 b2 calm fetched left same comes = (comes.0, comes.1, comes.2 ∙ same)

-- so no interrupt is to be taken still
pub stays_calm : (c : CoreState) (b : BusState) (c2 : CoreState) (b2 : BusState) → StaysCalm c b c2 b2 → is_pending c.system (lines b).0 (lines b).1 ≡ false → is_pending c2.system (lines b2).0 (lines b2).1 ≡ false
stays_calm c b c2 b2 stays calm =
    ap (λ (y : System). is_pending y (lines b2).0 (lines b2).1) stays.system ∙ (ap (λ (l : Bool × Bool). is_pending c.system l.0 l.1) stays.lines ∙ calm)

-- and the page is known still
pub stays_known : (vpn base : ℕ) (c : CoreState) (b : BusState) (c2 : CoreState) (b2 : BusState) → StaysCalm c b c2 b2 → KnowsPage vpn base c → KnowsPage vpn base c2
stays_known vpn base c b c2 b2 stays knows = λ some.
    let before : IsPageOf vpn base c = knows some in
    record {
      mapped = before.mapped;
      frame = ap (λ (es : List Entry). base_of es false vpn (asid_of c2.system)) stays.entries ∙ (ap (λ (y : System). base_of c.entries false vpn (asid_of y)) stays.system ∙ before.frame);
      only = ap (λ (y : System). only_devices_interrupt (record c { system = y })) stays.system ∙ before.only;
    }

-- so many calm steps, and what comes after them, with an exception or without
pub join_to : (a b : ℕ) (raised : Option ExceptionCode) (x y z : Hardware) → Advances a x y → AdvancesTo b raised y z → AdvancesTo (a + b) raised x z
join_to a b None x y z first leads = advances_join a b x y z first leads
join_to a b (Some code) x y z first leads = (leads.0, advances_join a b x y leads.0 first leads.1, leads.2)

pub at_sum : (a b : ℕ) (x y : Hardware) → Advances a x y → after_steps b y ≡ after_steps (a + b) x
at_sum a b x y first = ap (after_steps b) first.state ∙ sym (after_both a b x)

-- a + b steps on, the program stands at an address of 32 bits if it does so b steps after a calm steps
pub word_after : (a b : ℕ) (x y : Hardware) → Advances a x y → (after_steps b y).core.pc < 2 ^ 32 → (after_steps (a + b) x).core.pc < 2 ^ 32
word_after a b x y first here = subst (λ (h : Hardware). h.core.pc < 2 ^ 32) (at_sum a b x y first) here

-- the same for each of a + b steps
pub words_join : (a b : ℕ) (x y : Hardware) → Advances a x y → ((k : ℕ) → k < a → (after_steps k x).core.pc < 2 ^ 32) → ((k : ℕ) → k < b → (after_steps k y).core.pc < 2 ^ 32)
    → (k : ℕ) → k < a + b → (after_steps k x).core.pc < 2 ^ 32
words_join a b x y first before after k below = elim (cases_lt k a) [
  | inl low ↦ before k low
  | inr past ↦
      let split : a + (k - a) ≡ k = omega arith in
      subst (λ (n : ℕ). (after_steps n x).core.pc < 2 ^ 32) split (word_after a (k - a) x y first (after (k - a) (omega arith)))
]

-- and after the last of them
pub words_to : (a b : ℕ) (x y : Hardware) → Advances a x y → ((k : ℕ) → k < a → (after_steps k x).core.pc < 2 ^ 32) → ((k : ℕ) → k < b → (after_steps k y).core.pc < 2 ^ 32) → (after_steps b y).core.pc < 2 ^ 32
    → (k : ℕ) → k ≤ a + b → (after_steps k x).core.pc < 2 ^ 32
words_to a b x y first before after last k within = elim (cases_lt k (a + b)) [
  | inl low ↦ words_join a b x y first before after k low
  | inr past ↦
      let same : a + b ≡ k = omega arith in
      subst (λ (n : ℕ). (after_steps n x).core.pc < 2 ^ 32) same (word_after a b x y first last)
]

-- at a position the page is known that the processor knows beside it
pub knows_placed : (n vpn base : ℕ) (c : CoreState) (at : Place) → KnowsPage vpn base c → KnowsPage vpn base (placed n c at)
knows_placed n vpn base c at knows = λ some.
    let whole : IsPageOf vpn base c = knows some in
    record { mapped = whole.mapped; frame = whole.frame; only = whole.only }

-- no step leads from a position to itself
pub leads_nowhere : (k : ℕ) (c : CoreState) (at : Place) (b : BusState) → k ≡ 0 → LeadsOn k c at b c at b
leads_nowhere k c at b none = subst (λ (j : ℕ). LeadsOn j c at b c at b) (sym none) (record {
  advances = λ n.
      let here : n + 0 ≡ n = omega arith in
      record {
        state = ap (λ (m : ℕ). hardware_of (placed m c at) b) here;
        calm = λ j below. absurd (omega (arith, below));
      };
  words = λ n j below. absurd (omega (arith, below));
  calm = record { system = refl; entries = refl; lines = refl };
})

calm_on : (c : CoreState) (b : BusState) (c1 : CoreState) (b1 : BusState) (c2 : CoreState) (b2 : BusState) → StaysCalm c b c1 b1 → StaysCalm c1 b1 c2 b2 → StaysCalm c b c2 b2
calm_on c b c1 b1 c2 b2 first second = record {
  system = second.system ∙ first.system;
  entries = second.entries ∙ first.entries;
  lines = second.lines ∙ first.lines;
}

-- a step more leads on
pub leads_on : (k m : ℕ) (e : Event) (c : CoreState) (at : Place) (b : BusState) (c1 : CoreState) (at1 : Place) (b1 : BusState) (c2 : CoreState) (at2 : Place) (b2 : BusState)
    → LeadsOn k c at b c1 at1 b1 → Steps e c1 at1 b1 c2 at2 b2 → is_raised e ≡ false → at1.pc < 2 ^ 32 → StaysCalm c1 b1 c2 b2 → m ≡ k + 1 → LeadsOn m c at b c2 at2 b2
leads_on k m e c at b c1 at1 b1 c2 at2 b2 leads steps quiet word stays more = subst (λ (j : ℕ). LeadsOn j c at b c2 at2 b2) (sym more) (record {
  advances = λ n.
      let same : suc (n + k) ≡ n + (k + 1) = omega arith in
      let after : Advances (k + 1) (hardware_of (placed n c at) b) (hardware_of (placed (suc (n + k)) c2 at2) b2) =
      advances_on k (hardware_of (placed n c at) b) (hardware_of (placed (n + k) c1 at1) b1) (hardware_of (placed (suc (n + k)) c2 at2) b2) e (leads.advances n) (steps (n + k)) quiet in
      subst (λ (j : ℕ). Advances (k + 1) (hardware_of (placed n c at) b) (hardware_of (placed j c2 at2) b2)) same after;
  words = λ n j below. comes_on k (hardware_of (placed n c at) b) (hardware_of (placed (n + k) c1 at1) b1) (leads.words n) (leads.advances n) word j (omega (arith, below));
  calm = calm_on c b c1 b1 c2 b2 leads.calm stays;
})

-- two stretches, one after the other, are one
pub leads_both : (k d m : ℕ) (c : CoreState) (at : Place) (b : BusState) (c1 : CoreState) (at1 : Place) (b1 : BusState) (c2 : CoreState) (at2 : Place) (b2 : BusState)
    → LeadsOn k c at b c1 at1 b1 → LeadsOn d c1 at1 b1 c2 at2 b2 → m ≡ k + d → LeadsOn m c at b c2 at2 b2
leads_both k d m c at b c1 at1 b1 c2 at2 b2 first second both = subst (λ (j : ℕ). LeadsOn j c at b c2 at2 b2) (sym both) (record {
  advances = λ n.
      let same : n + k + d ≡ n + (k + d) = omega arith in
      let after : Advances (k + d) (hardware_of (placed n c at) b) (hardware_of (placed (n + k + d) c2 at2) b2) =
      advances_join k d (hardware_of (placed n c at) b) (hardware_of (placed (n + k) c1 at1) b1) (hardware_of (placed (n + k + d) c2 at2) b2) (first.advances n) (second.advances (n + k)) in
      subst (λ (j : ℕ). Advances (k + d) (hardware_of (placed n c at) b) (hardware_of (placed j c2 at2) b2)) same after;
  words = λ n. words_join k d (hardware_of (placed n c at) b) (hardware_of (placed (n + k) c1 at1) b1) (first.advances n) (first.words n) (second.words (n + k));
  calm = calm_on c b c1 b1 c2 b2 first.calm second.calm;
})

-- a stretch from where the processor stood to where it is put, as steps of the whole processor
pub advances_placed : (k : ℕ) (c : CoreState) (at : Place) (b : BusState) (c2 : CoreState) (at2 : Place) (b2 : BusState) (c3 : CoreState)
    → LeadsOn k c at b c2 at2 b2 → placed 0 c at ≡ c → c3 ≡ placed k c2 at2 → Advances k (hardware_of c b) (hardware_of c3 b2)
advances_placed k c at b c2 at2 b2 c3 leads begins ends =
    let same : 0 + k ≡ k = omega arith in
    let whole : Advances k (hardware_of (placed 0 c at) b) (hardware_of (placed k c2 at2) b2) =
    subst (λ (j : ℕ). Advances k (hardware_of (placed 0 c at) b) (hardware_of (placed j c2 at2) b2)) same (leads.advances 0) in
    subst (λ (t : CoreState). Advances k (hardware_of t b) (hardware_of c3 b2)) begins
    (subst (λ (t : CoreState). Advances k (hardware_of (placed 0 c at) b) (hardware_of t b2)) (sym ends) whole)

-- and each of them from an address of 32 bits
pub words_placed : (k : ℕ) (c : CoreState) (at : Place) (b : BusState) (c2 : CoreState) (at2 : Place) (b2 : BusState)
    → LeadsOn k c at b c2 at2 b2 → placed 0 c at ≡ c → (j : ℕ) → j < k → (after_steps j (hardware_of c b)).core.pc < 2 ^ 32
words_placed k c at b c2 at2 b2 leads begins j below =
    subst (λ (t : CoreState). (after_steps j (hardware_of t b)).core.pc < 2 ^ 32) begins (leads.words 0 j below)

-- the system call that comes next is that of the whole processor
pub called_placed : (k : ℕ) (c2 : CoreState) (at2 : Place) (b2 : BusState) (c3 : CoreState) → IsCalled c2 at2 b2 → c3 ≡ placed k c2 at2 → with_tick (trapped c3 b2 SystemCall) ≡ step c3 b2
called_placed k c2 at2 b2 c3 called ends = subst (λ (t : CoreState). with_tick (trapped t b2 SystemCall) ≡ step t b2) (sym ends) (called k)

-- a step more leads on, and what stands after it
pub leads_after : (k d m : ℕ) (e : Event) (c : CoreState) (at : Place) (b : BusState) (c1 : CoreState) (at1 : Place) (b1 : BusState) (c2 : CoreState) (at2 : Place) (b2 : BusState) (c3 : CoreState) (at3 : Place) (b3 : BusState)
    → LeadsOn k c at b c1 at1 b1 → Steps e c1 at1 b1 c2 at2 b2 → is_raised e ≡ false → at1.pc < 2 ^ 32 → StaysCalm c1 b1 c2 b2 → LeadsOn d c2 at2 b2 c3 at3 b3 → m ≡ k + 1 + d → LeadsOn m c at b c3 at3 b3
leads_after k d m e c at b c1 at1 b1 c2 at2 b2 c3 at3 b3 leads steps quiet word stays after whole =
    leads_both (k + 1) d m c at b c2 at2 b2 c3 at3 b3 (leads_on k (k + 1) e c at b c1 at1 b1 c2 at2 b2 leads steps quiet word stays refl) after whole
