-- A run of which nothing is told, because all of it comes before the first turn that is told, or because the end alone is.
use Rattle.std.proofs.Common.{◌≡◌, ℕ, ◌<◌, ◌≤◌, Bool, true, false, cond, not, min, List, [], ◌∷◌, ◌++◌, Option, Some, None, ◌⊎◌, inl, inr, refl, sym, ap, subst, ◌∙◌, arith}
use Rattle.std.specs.Prelude.{◌||◌, ◌&&◌, nat_lt, nat_le, is_some}
use Rattle.std.proofs.lemmas.Bool.Decides.{nat_tests}
use Rattle.ds_pagemap.specs.declared.turn.Turn.{Turn}
use Rattle.ds_pagemap.specs.Machine.{State, first, touched}
use Rattle.ds_pagemap.specs.Unit.{unit}
use Rattle.ds_pagemap.specs.Boundary.{boundary}
use Rattle.ds_pagemap.specs.Run.{half_turn, goes_on, is_over, go, after}
use Rattle.ds_pagemap.proofs.Boundaries.{boundary_owed}
use Rattle.ds_pagemap.proofs.Touches.{touched-time}
use Rattle.ds_refinement.specs.Held.{began_or}
use Rattle.ds_words.specs.declared.view.Only.{Only}
use Rattle.ds_words.specs.declared.view.Only.TheVariants.{End, Calls, Denials, Switches, Units}
use Rattle.ds_words.specs.declared.view.View.{View}
use Rattle.ds_words.specs.Views.{is_end, has_lines, is_before, shows_turn}
use Rattle.ds_trace.specs.declared.start.Start.{Start}
use Rattle.ds_trace.specs.Looks.{Looked, Found}
use Rattle.ds_trace.specs.Changes.{changes_text}
use Rattle.ds_trace.specs.Counts.{Counted, none_counted, done_counted, switch_counted, counted_after}
use Rattle.ds_trace.specs.Halves.{looked_of, found_of, process_of_start, done_text, opening_text, half_after, half_text, half_counts}
use Rattle.ds_trace.specs.Traces.{next_counts, next_text, counts_along, trace_along}

-- Half turns that are not told.

both_none : (b : Bool) (l : List ℕ) → l ≡ [] → cond b l [] ≡ []
both_none true l none = none
both_none false l none = refl

or_none : (b : Bool) (l : List ℕ) → l ≡ [] → cond b [] l ≡ []
or_none true l none = refl
or_none false l none = none

only_end : (o : Option Only) → not (is_end o) ≡ false → o ≡ Some End
only_end None is = absurd (cc)
only_end (Some End) is = refl
only_end (Some Calls) is = absurd (cc)
only_end (Some Denials) is = absurd (cc)
only_end (Some Switches) is = absurd (cc)
only_end (Some Units) is = absurd (cc)

-- where the end alone is told
done_none : (v : View) (b : Looked) (f : Found) (o : Option Start) → done_text (record v { only = Some End }) b f o ≡ []
done_none v b f None = or_none f.owed [] refl
done_none v b f (Some s) = refl

end_silent : (v : View) (c : Counted) (b : Looked) (f : Found) → v.only ≡ Some End → half_after v c b f ≡ []
end_silent v c b f is =
    ap (λ (o : Option Only). half_after (record v { only = o }) c b f) is
    ∙ both_none (shows_turn v b.began) (done_text (record v { only = Some End }) b f b.start ++ []) (ap (λ (l : List ℕ). l ++ []) (done_none v b f b.start))

-- nothing of turns that begin before a time is told
abbrev pub IsSilent : View → ℕ → Type 0
IsSilent v k = (v.only ≡ Some End) ⊎ (k ≤ v.from)

not_yet : (from began k : ℕ) → began < k → k ≤ from → nat_le from began ≡ false
not_yet from began k early late = grind (arith, nat_tests)

half_silent : (v : View) (k : ℕ) (c : Counted) (b : Looked) (f : Found) → IsSilent v k → b.began < k → half_after v c b f ≡ []
half_silent v k c b f (inl end) early = end_silent v c b f end
half_silent v k c b f (inr late) early = ap (λ (x : Bool). cond (x && is_before v.to b.began) (opening_text v c b ++ done_text v b f b.start ++ changes_text v b f) []) (not_yet v.from b.began k early late)

-- nor counted
none_counts : (b : Bool) (more k : Counted) → cond (b && false) more k ≡ k
none_counts true more k = refl
none_counts false more k = refl

counts_silent : (v : View) (k : ℕ) (c : Counted) (b : Looked) (f : Found) → IsSilent v k → b.began < k → counted_after v c b f ≡ c
counts_silent v k c b f (inl end) early = ap (λ (o : Option Only). counted_after (record v { only = o }) c b f) end
counts_silent v k c b f (inr late) early =
    let more : Counted = switch_counted (done_counted c b f b.start) b.runner f.runner in
    ap (λ (x : Bool). cond (has_lines v && (x && is_before v.to b.began)) more c) (not_yet v.from b.began k early late)
    ∙ none_counts (has_lines v) more c

-- When the turn began whose boundary is owed.

abbrev BegunBefore : ℕ → Option Turn → Type 0
BegunBefore k None = Unit {0}
BegunBefore k (Some turn) = turn.began < k

lt_is : (t k : ℕ) (b : Bool) → (nat_lt t k && b) ≡ true → t < k
lt_is t k true is = grind (arith, nat_tests)
lt_is t k false is = grind (arith, nat_tests)

began_early : (k : ℕ) (o : Option Turn) (time : ℕ) (b : Bool) → BegunBefore k o → (is_some o || (nat_lt time k && b)) ≡ true → began_or o time < k
began_early k None time b begun on = lt_is time k b on
began_early k (Some turn) time b begun on = begun

half_begun : (k : ℕ) (d : Bool) (x : State) → BegunBefore k x.owed → goes_on k x ≡ true → BegunBefore k (half_turn d x).owed
unfolding half_turn unit
half_begun k d x begun on = by x.owed refl
  where
    by : (o : Option Turn) → x.owed ≡ o → BegunBefore k (half_turn d x).owed
    by None is =
        let owes : (half_turn d x).owed ≡ Some (record { began = (touched d x).time; runner = first (touched d x).ready }) =
        ap (λ (o : Option Turn). (cond (is_some o) (boundary (touched d x)) (unit (touched d x))).owed) is in
        let early : x.time < k = lt_is x.time k (not (is_over x)) (sym (ap (λ (o : Option Turn). is_some o || (nat_lt x.time k && not (is_over x))) is) ∙ on) in
        subst (BegunBefore k) (sym owes) (subst (λ (t : ℕ). t < k) (sym (touched-time d x)) early)
    by (Some turn) is =
        let none : (half_turn d x).owed ≡ None =
        ap (λ (o : Option Turn). (cond (is_some o) (boundary (touched d x)) (unit (touched d x))).owed) is ∙ boundary_owed (touched d x) in
        subst (BegunBefore k) (sym none) tt

-- A run for less.

longer : (owed over : Bool) (t k n : ℕ) → k ≤ n → (owed || (nat_lt t k && over)) ≡ true → (owed || (nat_lt t n && over)) ≡ true
longer true over t k n within on = refl
longer false true t k n within on = grind (arith, nat_tests)
longer false false t k n within on = grind (arith, nat_tests)

-- there is a way of a run for n to a state, and nothing of it is told or counted
pub record IsUntold (v : View) (n : ℕ) (m x : State) : Type 0 where
  pub choices : List Bool
  pub comes : after n choices m ≡ x
  pub untold : trace_along v n choices m ≡ []
  pub uncounted : counts_along v n choices m ≡ none_counted

module _ (v : View) (k n : ℕ) (within : k ≤ n) (silent : IsSilent v k) where
  untold_half : (m x : State) (d : Bool) → BegunBefore k x.owed → goes_on k x ≡ true → IsUntold v n m x → IsUntold v n m (half_turn d x)
  unfolding after trace_along counts_along
  untold_half m x d begun on before =
      let goes : goes_on n x ≡ true = longer (is_some x.owed) (not (is_over x)) x.time k n within on in
      let none : half_text v none_counted x (half_turn d x) ≡ [] =
      half_silent v k none_counted (looked_of v x) (found_of (process_of_start (looked_of v x).start) (half_turn d x)) silent (began_early k x.owed x.time (not (is_over x)) begun on) in
      let uncounts : half_counts v none_counted x (half_turn d x) ≡ none_counted =
      counts_silent v k none_counted (looked_of v x) (found_of (process_of_start (looked_of v x).start) (half_turn d x)) silent (began_early k x.owed x.time (not (is_over x)) begun on) in record {
        choices = d ∷ before.choices;
        comes = ap (go n d) before.comes ∙ ap (λ (b : Bool). cond b (half_turn d x) x) goes;
        untold = ap (λ (l : List ℕ). l ++ next_text v n d (after n before.choices m) (counts_along v n before.choices m)) before.untold
            ∙ (ap (next_text v n d (after n before.choices m)) before.uncounted
            ∙ (ap (λ (s : State). next_text v n d s none_counted) before.comes
            ∙ (ap (λ (b : Bool). cond b (half_text v none_counted x (half_turn d x)) []) goes ∙ none)));
        uncounted = ap (next_counts v n d (after n before.choices m)) before.uncounted
            ∙ (ap (λ (s : State). next_counts v n d s none_counted) before.comes
            ∙ (ap (λ (b : Bool). cond b (half_counts v none_counted x (half_turn d x)) none_counted) goes ∙ uncounts));
      }

  untold_if : (b : Bool) (m x : State) (d : Bool) → goes_on k x ≡ b → BegunBefore k x.owed → IsUntold v n m x → IsUntold v n m (cond b (half_turn d x) x) × BegunBefore k (cond b (half_turn d x) x).owed
  untold_if true m x d on begun before = (untold_half m x d begun on before, half_begun k d x begun on)
  untold_if false m x d on begun before = (before, begun)

  untold_way : (choices : List Bool) (m : State) → m.owed ≡ None → IsUntold v n m (after k choices m) × BegunBefore k (after k choices m).owed
  unfolding after trace_along counts_along
  untold_way [] m owed = (record { choices = []; comes = refl; untold = refl; uncounted = refl }, subst (BegunBefore k) (sym owed) tt)
  untold_way (d ∷ earlier) m owed =
      let before = untold_way earlier m owed in
      untold_if (goes_on k (after k earlier m)) m (after k earlier m) d refl before.1 before.0

  -- of a run for k nothing is told
  pub untold : (choices : List Bool) (m : State) → m.owed ≡ None → IsUntold v n m (after k choices m)
  untold choices m owed = (untold_way choices m owed).0

-- The time to which nothing is told.

abbrev pub untold_until : View → ℕ → ℕ
untold_until v n = cond (has_lines v) (min v.from n) n

pub until_within : (v : View) (n : ℕ) → untold_until v n ≤ n
until_within v n = by (has_lines v)
  where
    by : (b : Bool) → cond b (min v.from n) n ≤ n
    by true = omega arith
    by false = omega arith

pub until_silent : (v : View) (n : ℕ) → IsSilent v (untold_until v n)
until_silent v n = by (has_lines v) refl
  where
    by : (b : Bool) → has_lines v ≡ b → IsSilent v (cond b (min v.from n) n)
    by true is = inr (omega arith)
    by false is = inl (only_end v.only is)
