-- A unit that goes on to its end, a step at a time.
use Rattle.std.proofs.Common.{◌≡◌, ℕ, suc, ◌<◌, List, [], ◌∷◌, refl, sym, ap, subst, ◌∙◌, arith, Bool, true, false, Option, Some, None, append_assoc}
use Rattle.std.proofs.lemmas.Bool.{true≢false}
use Rattle.ds_refinement.specs.declared.step.Step.{Step}
use Rattle.ds_refinement.specs.declared.step.Step.TheVariants as step
use Rattle.ds_refinement.specs.Held.{Held}
use Rattle.ds_log.specs.declared.line.Line.{Line}
use Rattle.ds_log.specs.declared.line.Line.TheVariants.{Refused}
use Rattle.ds_log_reasons.specs.Lines.{log_line_of}
use Rattle.ds_refinement.specs.Real.{RealPath}
use Rattle.ds_refinement.specs.Runs.{RunsTo}
use Rattle.ds_refinement.specs.Steps.{steps_left}
use Rattle.std.proofs.lemmas.List.{append-nil}
use Rattle.std.specs.Prelude.{◌++◌, if◌then◌else◌, min, slice_index}
use Rattle.ds_policy.specs.Pages.{entries_of}
use Rattle.ds_station.specs.Reads.{address_held, fetched, general_held, memory_held}
use Rattle.ds_log_reasons.specs.Sentences.{Placed, Sighted, denial_text, refused_text}
use Rattle.ds_log_reasons.specs.declared.sentences.Denial as denial
use Rattle.ds_explain.specs.Moments.{Inside, Moments, RunsFor, Steps, UnitWhere, is_inside, is_there, known_text, newest_state, said_text, sighted_held, still, line_time}
use Rattle.ds_explain.specs.Inner.Moments.{IsKnown, IsShown, IsStopped, IsTold, found_held, moments}
use Rattle.ds_explain.specs.declared.moments.Found.{Found}

-- the steps so far, with the registers before the last of them but one, and before the last
pub record Walk (first : Held) (p : ℕ) (found now : Found) (kind : Step) (h : Held) : Type 0 where
  pub before : List Held
  pub served : Held
  pub inside : Inside first before served
  pub found_is : found ≡ found_held (newest_state first before) p
  pub now_is : now ≡ found_held served p
  pub steps : Steps kind served h
  pub within : served.kept.state.time < 1000000000

-- what the steps that are left decrease by
abbrev pub left : Step → Held → ℕ
left step.Inside h = suc (steps_left h)
left other h = 0

module _ (first : Held) (p : ℕ) where
  -- the first step
  pub begins : (found : Found) (kind : Step) (h : Held) → found ≡ found_held first p → Steps kind first h → first.kept.state.time < 1000000000
      → Walk first p found found kind h
  begins found kind h is steps within = record { before = []; served = first; inside = refl; found_is = is; now_is = is; steps = steps; within = within }

  -- after a step inside of the unit it is the same time
  pub same_time : (found now : Found) (kind : Step) (h : Held) → is_inside kind ≡ true → Walk first p found now kind h → h.kept.state.time < 1000000000
  same_time found now step.Inside h is w = subst (λ (t : ℕ). t < 1000000000) (sym w.steps.1.2) w.within
  same_time found now step.Unit h is w = absurd (true≢false (sym is))
  same_time found now step.Boundary h is w = absurd (true≢false (sym is))
  same_time found now step.Over h is w = absurd (true≢false (sym is))

  -- a step more
  pub goes_on : (found now next : Found) (kind more : Step) (h new : Held) → is_inside kind ≡ true → Walk first p found now kind h
      → next ≡ found_held h p → Steps more h new → Walk first p now next more new
  goes_on found now next step.Inside more h new is w next_is steps = record {
    before = w.served ∷ w.before;
    served = h;
    inside = (w.steps, w.inside);
    found_is = w.now_is;
    now_is = next_is;
    steps = steps;
    within = same_time found now step.Inside h is w;
  }
  goes_on found now next step.Unit more h new is w next_is steps = absurd (true≢false (sym is))
  goes_on found now next step.Boundary more h new is w next_is steps = absurd (true≢false (sym is))
  goes_on found now next step.Over more h new is w next_is steps = absurd (true≢false (sym is))

  -- the unit is over
  pub is_stopped : (found now : Found) (kind : Step) (h : Held) → is_inside kind ≡ false → Walk first p found now kind h → IsStopped p found first h
  is_stopped found now kind h over w = (
    newest_state first w.before,
    record { before = w.before; served = w.served; inside = w.inside; last = refl; kind = kind; over = over; ends = w.steps },
    w.found_is,
  )

-- fewer steps are left after one
pub fewer : (kind more : Step) (h new : Held) → is_inside kind ≡ true → Steps more h new → left more new < left kind h
fewer step.Inside step.Inside h new is steps = omega (arith, steps.1.5)
fewer step.Inside step.Unit h new is steps = omega arith
fewer step.Inside step.Boundary h new is steps = omega arith
fewer step.Inside step.Over h new is steps = omega arith
fewer step.Unit more h new is steps = absurd (true≢false (sym is))
fewer step.Boundary more h new is steps = absurd (true≢false (sym is))
fewer step.Over more h new is steps = absurd (true≢false (sym is))

-- What is seen of a process whose unit is over.

module _ (x : Placed) (d : denial.Denial) (h new : Held) (found : Found) (old text : List ℕ) where
  -- where there is such a process
  pub shown : (s : Sighted) → is_there h d.process ≡ true → (stopped : IsStopped d.process found h new)
      → s ≡ record { unit = address_held h d.process; word = fetched (memory_held h) d.process d.pc; general = found.general; late = found.late; entries = entries_of h.kept.grants.table d.process; answer = slice_index (general_held new d.process) 2 }
      → text ≡ old ++ denial_text x d s → IsShown x d h new old text
  shown s is (last, unit, found_is) seen adds =
      let m : Moments = moments h last new in
      let sight : s ≡ sighted_held m d.process d.pc =
      seen ∙ ap (λ (f : Found). record { unit = address_held h d.process; word = fetched (memory_held h) d.process d.pc; general = f.general; late = f.late; entries = entries_of h.kept.grants.table d.process; answer = slice_index (general_held new d.process) 2 }) found_is in (
        last,
        subst (λ (b : Bool). UnitWhere b m) (sym is) unit,
        adds ∙ (ap (λ (t : Sighted). old ++ denial_text x d t) sight ∙ ap (λ (b : Bool). old ++ (if b then denial_text x d (sighted_held m d.process d.pc) else [])) (sym is)),
      )

-- where there is none
pub not_shown : (x : Placed) (d : denial.Denial) (h : Held) (text : List ℕ) → is_there h d.process ≡ false → IsShown x d h h text text
not_shown x d h text is = (
  h,
  subst (λ (b : Bool). UnitWhere b (still h)) (sym is) refl,
  sym (append-nil text) ∙ ap (λ (b : Bool). text ++ (if b then denial_text x d (sighted_held (still h) d.process d.pc) else [])) (sym is),
)

-- A refused command.

-- what it means
pub known_refused : (x : Placed) (h : Held) (text more : List ℕ) (time command number : ℕ) (l : Line) → l ≡ Refused time command number → more ≡ text ++ refused_text command number → IsKnown x l h h text more
known_refused x h text more time command number l is adds = subst (λ (k : Line). IsKnown x k h h text more) (sym is) (h, refl, adds)

-- A line that is told.

module _ (x : Placed) (n : ℕ) (line : List ℕ) (h first new : Held) (old some text : List ℕ) (written : some ≡ (old ++ line) ++ 10 ∷ []) where
  itself : some ≡ old ++ (line ++ 10 ∷ [])
  itself = written ∙ append_assoc old line (10 ∷ [])

  -- one of a log
  pub line_told : (l : Line) → log_line_of line ≡ Some l → RunsTo (min (line_time l) n) h first → RealPath h first → IsKnown x l first new some text → IsTold x n line h new old text
  line_told l is runs path (last, goes, adds) =
      let m : Moments = moments first last new in (
        first,
        last,
        subst (λ (o : Option Line). RunsFor n o h m) (sym is) (runs, path, goes),
        adds
            ∙ (ap (λ (t : List ℕ). t ++ known_text x l m) itself
            ∙ (append_assoc old (line ++ 10 ∷ []) (known_text x l m)
            ∙ ap (λ (o : Option Line). old ++ ((line ++ 10 ∷ []) ++ said_text x o m)) (sym is))),
      )

  -- any other
  pub no_line_told : log_line_of line ≡ None → IsTold x n line h h old some
  no_line_told is = (
    h,
    h,
    subst (λ (o : Option Line). RunsFor n o h (still h)) (sym is) refl,
    itself
        ∙ (ap (λ (t : List ℕ). old ++ t) (sym (append-nil (line ++ 10 ∷ [])))
        ∙ ap (λ (o : Option Line). old ++ ((line ++ 10 ∷ []) ++ said_text x o (still h))) (sym is)),
  )
