-- A quiet run makes twins of twins, and so the same text.
use Rattle.std.proofs.Common.{◌≡◌, ◌≢◌, ℕ, zero, suc, ◌+◌, ◌-◌, Bool, true, false, cond, List, [], ◌∷◌, refl, sym, ap, ap₂, ◌∙◌, subst, length, length-set, set, arith, inl, inr}
use Rattle.std.specs.Prelude.{◌&&◌, ◌||◌, not, nat_lt, is_some, replicate, slice_index_or, Some, None, Option}
use Rattle.std.specs.List.{list_all}
use Rattle.std.proofs.lemmas.Bool.{cases_lt}
use Rattle.std.proofs.lemmas.Bool.Decides.{nat_tests}
use Rattle.std.proofs.lemmas.List.{set-get_or, get_or-set_other}
use Rattle.ds_isa.specs.declared.instr.Late.{Late}
use Rattle.ds_isa.specs.Registers.{Registers}
use Rattle.ds_pagemap.specs.Machine.{State, Process, no_process, has_ended, touched_process, touch_first, touched}
use Rattle.ds_pagemap.specs.Unit.{unit}
use Rattle.ds_pagemap.specs.Boundary.{boundary}
use Rattle.ds_pagemap.specs.Run.{half_turn, goes_on, go, after, Ends}
use Rattle.ds_pagemap.specs.Text.{state_text}
use Rattle.ds_promise.specs.Alike.{is_kernel_register, AreLateAlike, AreAlike}
use Rattle.ds_promise.specs.Twins.{HaveRegisters}
use Rattle.ds_promise.specs.Inner.Twins.{IsTwinProcess, AreTwins, IsTwin}
use Rattle.ds_promise.specs.Quiet.{quiet_first, is_quiet_half_turn, IsQuiet}
use Rattle.ds_promise.proofs.Twins.{twin, same, twins_set}
use Rattle.ds_promise.proofs.Units.{unit_alike}
use Rattle.ds_promise.proofs.Boundaries.{boundary_alike}

-- A touch.

not_26 : (n : ℕ) → is_kernel_register n ≡ false → n ≢ 26
not_26 n e = λ (f : ◌≡◌ {A = ℕ} n 26). grind (arith, nat_tests)

not_27 : (n : ℕ) → is_kernel_register n ≡ false → n ≢ 27
not_27 n e = λ (f : ◌≡◌ {A = ℕ} n 27). grind (arith, nat_tests)

touched_twin : (q r : Process) → IsTwinProcess q r → IsTwinProcess q (touched_process r)
touched_twin q r k = let a = k.registers in let g = r.registers.general in record {
  registers = record {
    general = λ n e. a.general n e ∙ sym (get_or-set_other (set g 26 0) 27 n r.pc 0 (not_27 n e) ∙ get_or-set_other g 26 n 0 0 (not_26 n e));
    hi = a.hi;
    lo = a.lo;
    late = tt;
    size = a.size;
    same_size = length-set (set g 26 0) 27 r.pc ∙ (length-set g 26 0 ∙ a.same_size);
  };
  pc = k.pc;
  standing = k.standing;
  line = k.line;
}

touch_by : (m : State) (qs : List Process) (ready : List ℕ) → AreTwins m.processes qs → IsTwin m (touch_first (twin m qs) ready)
touch_by m qs [] k = same m qs k
touch_by m qs (p ∷ rest) k =
    let i = p - 1 in
    let q = slice_index_or m.processes i no_process in
    let r = touched_process (slice_index_or qs i no_process) in
    record {
      processes = set qs i r;
      is = refl;
      twins = subst (λ (ps : List Process). AreTwins ps (set qs i r)) (set-get_or m.processes i no_process) (twins_set m.processes qs i q r k (touched_twin _ _ (k.each i)));
    }

touched_by : (m : State) (qs : List Process) (b : Bool) → AreTwins m.processes qs → IsTwin m (touched b (twin m qs))
touched_by m qs true k = touch_by m qs m.ready k
touched_by m qs false k = same m qs k

touched_alike : (m t : State) (b : Bool) → IsTwin m t → IsTwin m (touched b t)
touched_alike m t b k = subst (λ (s : State). IsTwin m (touched b s)) (sym k.is) (touched_by m k.processes b k.twins)

-- Half a turn.

half_by : (m : State) (qs : List Process) (owed : Bool) → AreTwins m.processes qs → (owed || quiet_first m m.ready) ≡ true → IsTwin (cond owed (boundary m) (unit m)) (cond owed (boundary (twin m qs)) (unit (twin m qs)))
half_by m qs true k q = boundary_alike m qs k
half_by m qs false k q = unit_alike m qs k q

turn_by : (m t : State) → IsTwin m t → is_quiet_half_turn m ≡ true → IsTwin (cond (is_some m.owed) (boundary m) (unit m)) (cond (is_some t.owed) (boundary t) (unit t))
turn_by m t k q = subst (λ (s : State). IsTwin (cond (is_some m.owed) (boundary m) (unit m)) (cond (is_some s.owed) (boundary s) (unit s))) (sym k.is) (half_by m k.processes (is_some m.owed) k.twins q)

same_owed : (t : State) (b : Bool) → is_some (touched b t).owed ≡ is_some t.owed
same_owed t true = touch_owed t t.ready
  where
    touch_owed : (s : State) (ready : List ℕ) → is_some (touch_first s ready).owed ≡ is_some s.owed
    touch_owed s [] = refl
    touch_owed s (p ∷ rest) = refl
same_owed t false = refl

pub half_alike : (m t : State) (b : Bool) → IsTwin m t → is_quiet_half_turn m ≡ true → IsTwin (half_turn false m) (half_turn b t)
unfolding half_turn
half_alike m t b k q =
    subst (λ (o : Bool). IsTwin (cond (is_some m.owed) (boundary m) (unit m)) (cond o (boundary (touched b t)) (unit (touched b t)))) (same_owed t b)
    (turn_by m (touched b t) (touched_alike m t b k) q)

-- How far a run goes.

over_by : (ps qs : List Process) → length ps ≡ length qs → ((i : ℕ) → has_ended (slice_index_or ps i no_process).standing ≡ has_ended (slice_index_or qs i no_process).standing)
    → list_all (λ (q : Process). has_ended q.standing) ps ≡ list_all (λ (q : Process). has_ended q.standing) qs
over_by [] [] size e = refl
over_by [] (q ∷ qs) size e = absurd (omega arith)
over_by (p ∷ ps) [] size e = absurd (omega arith)
over_by (p ∷ ps) (q ∷ qs) size e = ap₂ (λ (a b : Bool). a && b) (e 0) (over_by ps qs (omega arith) (λ i. e (suc i)))

goes_on_by : (n : ℕ) (m : State) (qs : List Process) → AreTwins m.processes qs → goes_on n m ≡ goes_on n (twin m qs)
goes_on_by n m qs k = ap (λ (b : Bool). is_some m.owed || (nat_lt m.time n && not b)) (over_by m.processes qs k.size (λ i. ap has_ended (k.each i).standing))

pub goes_on_alike : (n : ℕ) (m t : State) → IsTwin m t → goes_on n m ≡ goes_on n t
goes_on_alike n m t k = goes_on_by n m k.processes k.twins ∙ ap (goes_on n) (sym k.is)

go_by : (m t : State) (b on : Bool) → IsTwin m t → (on ≡ true → is_quiet_half_turn m ≡ true) → IsTwin (cond on (half_turn false m) m) (cond on (half_turn b t) t)
go_by m t b true k q = half_alike m t b k (q refl)
go_by m t b false k q = k

go_alike : (n : ℕ) (m t : State) (b : Bool) → IsTwin m t → (goes_on n m ≡ true → is_quiet_half_turn m ≡ true) → IsTwin (go n false m) (go n b t)
go_alike n m t b k q = subst (λ (on : Bool). IsTwin (go n false m) (cond on (half_turn b t) t)) (goes_on_alike n m t k) (go_by m t b (goes_on n m) k q)

-- Runs.

same_registers : (r : Registers) → length r.general ≡ 32 → AreAlike r r
same_registers r e = record { general = λ n h. refl; hi = refl; lo = refl; late = same_late r.late; size = e; same_size = e }
  where
    same_late : (l : Option Late) → AreLateAlike l l
    same_late None = tt
    same_late (Some l) = refl

itself : (m : State) → HaveRegisters m → IsTwin m m
itself m h = record { processes = m.processes; is = refl; twins = record { size = refl; each = λ i. record { registers = same_registers _ (h.whole i); pc = refl; standing = refl; line = refl } } }

pub run_alike : (n : ℕ) (m : State) → HaveRegisters m → IsQuiet n m → (choices : List Bool) → IsTwin (after n (replicate (length choices) false) m) (after n choices m)
unfolding after
run_alike n m h q [] = itself m h
run_alike n m h q (touch ∷ earlier) =
    go_alike n (after n (replicate (length earlier) false) m) (after n earlier m) touch (run_alike n m h q earlier) (q.halves (length earlier))

same_text : (m t : State) → IsTwin m t → state_text t ≡ state_text m
same_text m t k = ap state_text k.is

pub quiet_text : (n : ℕ) (m t : State) → HaveRegisters m → IsQuiet n m → Ends n m t → (k : ℕ) × (state_text t ≡ state_text (after n (replicate k false) m)) × (goes_on n (after n (replicate k false) m) ≡ false)
quiet_text n m t h q e =
    let choices = e.reached.choices in
    let u = after n (replicate (length choices) false) m in
    let twins : IsTwin u t = subst (IsTwin u) (sym e.reached.comes_to) (touched_alike u (after n choices m) e.reached.early (run_alike n m h q choices)) in
    (length choices, same_text u t twins, goes_on_alike n u t twins ∙ e.over)

-- after its end a run stays where it is
pub stays : (n : ℕ) (m : State) (k d : ℕ) → goes_on n (after n (replicate k false) m) ≡ false → (e : ℕ) → e ≡ d + k → after n (replicate e false) m ≡ after n (replicate k false) m
unfolding after
stays n m k zero h e is = ap (λ (i : ℕ). after n (replicate i false) m) (is ∙ nothing_more k)
  where
    nothing_more : (i : ℕ) → 0 + i ≡ i
    nothing_more i = omega arith
stays n m k (suc d) h zero is = absurd (omega arith)
stays n m k (suc d) h (suc e) is =
    ap (go n false) (stays n m k d h e (omega arith)) ∙ ap (λ (b : Bool). cond b (half_turn false (after n (replicate k false) m)) (after n (replicate k false) m)) h

one_end : (n : ℕ) (m : State) (j k : ℕ) → goes_on n (after n (replicate j false) m) ≡ false → goes_on n (after n (replicate k false) m) ≡ false → after n (replicate j false) m ≡ after n (replicate k false) m
one_end n m j k a b = elim (cases_lt j k) [
  | inl before ↦ sym (stays n m j (k - j) a k (omega arith))
  | inr afterwards ↦ stays n m k (j - k) b j (omega arith)
]

pub one_text : (n : ℕ) (m t u : State) → HaveRegisters m → IsQuiet n m → Ends n m t → Ends n m u → state_text t ≡ state_text u
one_text n m t u h q e f =
    let a = quiet_text n m t h q e in
    let b = quiet_text n m u h q f in
    a.1 ∙ (ap state_text (one_end n m a.0 b.0 a.2 b.2) ∙ sym b.1)
