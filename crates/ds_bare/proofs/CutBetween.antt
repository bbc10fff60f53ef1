-- A run that is cut between two instructions.
use Rattle.std.proofs.Common.{◌≡◌, ◌≢◌, ◌∙◌, ap, refl, sym, subst, ℕ, zero, suc, add-one, ◌+◌, ◌-◌, ◌<◌, ◌≤◌, false, List, [], ◌∷◌, ◌++◌, append_assoc, arith}
use Rattle.std.specs.Prelude.{Option, Some, None, Result, Err, IfErr}
use Rattle.std.specs.Io.KnownBytes.{Appends, Keeps}
use Rattle.ds_text.specs.Sent.{WriterAnswers, IsAskedOnce}
use Rattle.ds_text.proofs.Sends.{appends_both, appends_kept, appends_none}
use Rattle.ds_words.specs.declared.bare_view.BareView.{BareView}
use Rattle.ds_bare.specs.declared.ending.Ending.{Ending}
use Rattle.ds_bare.specs.declared.fault.BareFault.{BareFault}
use Rattle.ds_bare.specs.declared.fault.BareFault.TheVariants as fault
use Rattle.ds_bare.specs.Machine.{Machine}
use Rattle.ds_bare.specs.Ends.{end_text, headline}
use Rattle.ds_bare.specs.Runs.{IsCutBetween, end_or, ending_at, machine_after, run_from, step_told, steps_told, turned}
use Rattle.ds_bare.proofs.UnderWay.{run_first}

-- what the first k instructions tell is written, they have come to this machine, and its text is the rest
pub record HasTold (old now : Option (List ℕ)) (q : BareView) (n k : ℕ) (first m : Machine) : Type 0 where
  pub machine : m ≡ machine_after k first
  pub written : Appends old now (steps_told q k first)
  pub goes_on : steps_told q k first ++ run_from q (n - k) k m ≡ run_from q n 0 first

-- nothing is told yet
pub told_first : (a : Option (List ℕ)) (q : BareView) (n : ℕ) (m : Machine) → HasTold a a q n 0 m m
told_first a q n m =
    let all : n - 0 ≡ n = omega arith in
    record { machine = refl; written = appends_none a; goes_on = ap (λ (left : ℕ). run_from q left 0 m) all }

-- what one instruction more tells
told_next : (q : BareView) (k : ℕ) (first m : Machine) → m ≡ machine_after k first → steps_told q (k + 1) first ≡ steps_told q k first ++ step_told q k m
told_next q k first m same = ap (λ (j : ℕ). steps_told q j first) (add-one k) ∙ ap (λ (x : Machine). steps_told q k first ++ step_told q k x) (sym same)

-- with it the text is the same
goes_further : (a b : Option (List ℕ)) (q : BareView) (n k : ℕ) (first m : Machine) → k < n → HasTold a b q n k first m → steps_told q (k + 1) first ++ end_or q (ending_at k m) (k + 1) (turned k m) (run_from q (n - (k + 1)) (k + 1) (turned k m)) ≡ run_from q n 0 first
goes_further a b q n k first m l h =
    ap (λ (text : List ℕ). text ++ end_or q (ending_at k m) (k + 1) (turned k m) (run_from q (n - (k + 1)) (k + 1) (turned k m))) (told_next q k first m h.machine)
    ∙ (append_assoc (steps_told q k first) (step_told q k m) _
    ∙ (ap (λ (text : List ℕ). steps_told q k first ++ text) (sym (run_first q n k m l))
    ∙ h.goes_on))

-- an instruction more is written
written_more : (a b d : Option (List ℕ)) (q : BareView) (n k : ℕ) (first m : Machine) → HasTold a b q n k first m → Appends b d (step_told q k m) → Appends a d (steps_told q (k + 1) first)
written_more a b d q n k first m h p = subst (Appends a d) (sym (told_next q k first m h.machine)) (appends_both a b d (steps_told q k first) (step_told q k m) h.written p)

-- after which it goes on
pub told_more : (a b d : Option (List ℕ)) (q : BareView) (n k : ℕ) (first m m2 : Machine) (e : Option Ending) → k < n → HasTold a b q n k first m → Appends b d (step_told q k m) → e ≡ ending_at k m → m2 ≡ turned k m → e ≡ None → HasTold a d q n (k + 1) first m2
told_more a b d q n k first m m2 e l h p ends same none = record {
  machine = same ∙ (ap (turned k) h.machine ∙ ap (λ (j : ℕ). machine_after j first) (sym (add-one k)));
  written = written_more a b d q n k first m h p;
  goes_on = ap (λ (x : Machine). steps_told q (k + 1) first ++ run_from q (n - (k + 1)) (k + 1) x) same
      ∙ (ap (λ (x : Option Ending). steps_told q (k + 1) first ++ end_or q x (k + 1) (turned k m) (run_from q (n - (k + 1)) (k + 1) (turned k m))) (sym none ∙ ends)
      ∙ goes_further a b q n k first m l h);
}

some_front : (x : ℕ) (xs : List ℕ) → x ∷ xs ≢ []
some_front x xs none = absurd cc

some_after : (xs ys : List ℕ) → ys ≢ [] → xs ++ ys ≢ []
some_after [] ys some = some
some_after (x ∷ xs) ys some = some_front x (xs ++ ys)

-- the end is told
end_some : (q : BareView) (e : Ending) (k : ℕ) (m : Machine) → end_text q e k m ≢ []
unfolding end_text headline
end_some q e k m = some_front 101 _

-- so is what comes after an instruction
later_some : (q : BareView) (e : Option Ending) (k : ℕ) (m : Machine) (rest : List ℕ) → rest ≢ [] → end_or q e k m rest ≢ []
later_some q None k m rest some = some
later_some q (Some e) k m rest some = end_some q e k m

-- a run is told
run_some : (q : BareView) (n k : ℕ) (m : Machine) → run_from q n k m ≢ []
run_some q zero k m = end_some q _ k m
run_some q (suc n) k m = some_after (step_told q k m) _ (later_some q (ending_at k m) (k + 1) (turned k m) _ (run_some q n (k + 1) (turned k m)))

-- it is cut before an instruction, or before the end that comes when all are done
pub cut_before : (a b d : Option (List ℕ)) (q : BareView) (n k : ℕ) (first m : Machine) → k ≤ n → HasTold a b q n k first m → Keeps b d → IsCutBetween a d q n first
cut_before a b d q n k first m l h p = record {
  done = k;
  within = l;
  written = appends_kept a b d _ h.written p;
  rest = run_from q (n - k) k m;
  goes_on = h.goes_on;
  unwritten = run_some q (n - k) k m;
}

-- it is cut before the end that comes by an instruction
pub cut_at_end : (a b d f : Option (List ℕ)) (q : BareView) (n k : ℕ) (first m m2 : Machine) (o : Option Ending) (e : Ending) → k < n → HasTold a b q n k first m → Appends b d (step_told q k m) → o ≡ ending_at k m → m2 ≡ turned k m → o ≡ Some e → Keeps d f → IsCutBetween a f q n first
cut_at_end a b d f q n k first m m2 o e l h p ends same some r = record {
  done = k + 1;
  within = omega (arith, l);
  written = appends_kept a d f _ (written_more a b d q n k first m h p) r;
  rest = end_text q e (k + 1) (turned k m);
  goes_on = ap (λ (x : Option Ending). steps_told q (k + 1) first ++ end_or q x (k + 1) (turned k m) (run_from q (n - (k + 1)) (k + 1) (turned k m))) (sym some ∙ ends)
      ∙ goes_further a b q n k first m l h;
  unwritten = end_some q e (k + 1) (turned k m);
}

-- nothing at all was written
pub cut_first : (a : Option (List ℕ)) (q : BareView) (n : ℕ) (m : Machine) → IsCutBetween a a q n m
cut_first a q n m = cut_before a a a q n 0 m m (omega arith) (told_first a q n m) (keeps_same a)
  where
    keeps_same : (x : Option (List ℕ)) → Keeps x x
    keeps_same None = tt
    keeps_same (Some xs) = refl

-- what holds where memory ran out, if this was answered
pub when_short : {T : Type 0} (r : Result T BareFault) (e : BareFault) (P : Type 0) → r ≡ Err e → (e ≡ fault.Memory → P) → IfErr r (λ f. f ≡ fault.Memory → P)
when_short {T} r e P is p = subst (λ (x : Result T BareFault). IfErr x (λ f. f ≡ fault.Memory → P)) (sym is) p

-- a place was not asked
pub asked_none : (a : Option WriterAnswers) → IsAskedOnce a a false
asked_none None = tt
asked_none (Some x) = λ going. (going, refl)
