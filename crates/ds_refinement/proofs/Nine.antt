-- A refill at once is a path of nine steps.
use Rattle.std.proofs.Common.{◌≡◌, ◌≢◌, ℕ, suc, ◌+◌, ◌≤◌, Bool, true, false, List, [], ◌∷◌, None, refl, sym, ap, ap₂, subst, ◌∙◌, arith}
use Rattle.std.specs.Prelude.{not, ◌&&◌, ◌==◌}
use Rattle.ds_tlb.specs.Entries.{random_after}
use Rattle.ds_tlb.specs.Inner.Entries.{passed}
use Rattle.ds_cp0.specs.System.{is_user}
use Rattle.ds_core.specs.declared.event.Event.{Event}
use Rattle.ds_core.specs.Core.{CoreState}
use Rattle.ds_core.specs.Effect.{step}
use Rattle.ds_refill.specs.Handler.{handler_address}
use Rattle.ds_refill.specs.Inner.Refill.{handler_events}
use Rattle.ds_refill.specs.Inner.Refills.{RunsInside}
use Rattle.ds_refinement.specs.declared.step.Step.TheVariants.{Inside}
use Rattle.ds_refinement.specs.Held.{Held}
use Rattle.ds_refinement.specs.Counts.{Counts, counts_of, one_word}
use Rattle.ds_refinement.specs.Inner.Counts.{with_counts, one_refilled}
use Rattle.ds_refinement.specs.Units.{is_general, is_served}
use Rattle.ds_refinement.specs.Inner.Stands.{IsSound}
use Rattle.ds_refinement.specs.Steps.{Follows, Moves}
use Rattle.ds_refinement.specs.Inner.Services.{after_word, with_refill}
use Rattle.ds_refinement.specs.Real.{IsReal, RealPath}
use Rattle.ds_refinement.specs.Runs.{held_goes_on}
use Rattle.ds_refinement.specs.Inner.Runs.{RunsWithin}
use Rattle.ds_refinement.proofs.Tallied.{few_of}
use Rattle.ds_refinement.proofs.Words.{word_follows}
use Rattle.ds_refinement.proofs.Counting.{word_moves}
use Rattle.ds_refinement.proofs.Joined.{one_step, path_join, word_real, after}
use Rattle.ds_refinement.proofs.RunSteps.{within_step}

-- what is counted after these words, the first of which is word n, before which Random names a slot
abbrev counted : ℕ → List Event → ℕ → Counts → Counts
counted n [] random k = k
counted n (e ∷ es) random k = counted (suc n) es (random_after 64 8 random) (one_word (handler_address n == handler_address 6) random k)

-- and what is held
abbrev reached : ℕ → List Event → Held → CoreState → Held
reached n es h c = record h { core = c; own = with_counts h.own (counted n es h.core.random (counts_of h.own)) }

-- One word, which counts.
module _ (n : ℕ) (e : Event) (h : Held) (s : CoreState) (some : h.kept.state.ready ≢ []) (user : is_user h.core.system ≡ false) (general : is_general h.core ≡ false) (at : h.core.pc ≡ handler_address n)
    (is : step h.core h.bus ≡ record { event = e; core = s; bus = h.bus }) where
  abbrev next : Held
  next = record h { core = s; own = with_counts h.own (one_word (handler_address n == handler_address 6) h.core.random (counts_of h.own)) }

  unserved : is_served h.core ≡ false
  unserved = ap₂ (λ (u g : Bool). not u && g) user general

  next_is : after_word h (step h.core h.bus) ≡ next
  next_is =
      ap (after_word h) is
      ∙ ap (λ (pc : ℕ). record h { core = s; own = with_counts h.own (one_word (pc == handler_address 6) h.core.random (counts_of h.own)) }) at

  pub next_follows : Follows Inside h next
  next_follows = subst (Follows Inside h) next_is (word_follows h some user unserved)

  pub next_moves : IsSound h → h.kept.state.owed ≡ None → Moves Inside h next
  next_moves sound owed =
      let few = few_of h sound.state sound.stands in
      let spent : h.own.spent ≤ 61 = few.spent in
      subst (Moves Inside h) next_is (word_moves h (step h.core h.bus) owed user unserved (omega (arith, spent)))

  pub next_real : h.kept.state.owed ≡ None → IsReal h next
  next_real owed = subst (IsReal h) next_is (word_real h (owed, some) unserved)

-- the words after the first, from where it leads
rest_reached : (n : ℕ) (e : Event) (es : List Event) (h : Held) (s c : CoreState) → s.random ≡ random_after 64 8 h.core.random
    → reached (suc n) es (record h { core = s; own = with_counts h.own (one_word (handler_address n == handler_address 6) h.core.random (counts_of h.own)) }) c ≡ reached n (e ∷ es) h c
rest_reached n e es h s c tick =
    ap (λ (r : ℕ). record h { core = c; own = with_counts h.own (counted (suc n) es r (one_word (handler_address n == handler_address 6) h.core.random (counts_of h.own))) }) tick

none_reached : (n : ℕ) (h : Held) (c : CoreState) → c ≡ h.core → reached n [] h c ≡ h
none_reached n h c is = ap (λ (d : CoreState). record h { core = d }) is

pub words_path : (n : ℕ) (es : List Event) (h : Held) (c : CoreState) → IsSound h → h.kept.state.ready ≢ [] → h.kept.state.owed ≡ None → RunsInside n es h.core h.bus c → RealPath h (reached n es h c)
words_path n [] h c sound some owed run = record { path = []; through = none_reached n h c run }
words_path n (e ∷ es) h c sound some owed run =
    let s : CoreState = run.3.0 in
    let then : Held = next n e h s some run.0 run.1 run.2 run.3.1 in
    let goes : Follows Inside h then = next_follows n e h s some run.0 run.1 run.2 run.3.1 in
    let one : RealPath h then = one_step Inside h then goes (next_moves n e h s some run.0 run.1 run.2 run.3.1 sound owed) (next_real n e h s some run.0 run.1 run.2 run.3.1 owed) in
    subst (RealPath h) (rest_reached n e es h s c run.3.2)
    (path_join h then (reached (suc n) es then c) one (words_path (suc n) es then c (after Inside h then sound goes) some owed run.3.3))

pub words_within : (i : ℕ) (es : List Event) (n : ℕ) (old h : Held) (c : CoreState) → h.kept.state.ready ≢ [] → held_goes_on n h ≡ true → RunsInside i es h.core h.bus c → RunsWithin n old h → RunsWithin n old (reached i es h c)
words_within i [] n old h c some goes run within = subst (RunsWithin n old) (sym (none_reached i h c run)) within
words_within i (e ∷ es) n old h c some goes run within =
    let s : CoreState = run.3.0 in
    let then : Held = next i e h s some run.0 run.1 run.2 run.3.1 in
    subst (RunsWithin n old) (rest_reached i e es h s c run.3.2)
    (words_within (suc i) es n old then c some goes run.3.3 (within_step Inside n old h then within goes (next_follows i e h s some run.0 run.1 run.2 run.3.1)))

-- The nine words.

-- what they count
nine_counted : (k : Counts) (random : ℕ) → counted 0 handler_events random k ≡ one_refilled (passed 64 8 6 random) k
nine_counted k random = by k.written refl
  where
    nine : k.spent + 1 + 1 + 1 + 1 + 1 + 1 + 1 + 1 + 1 ≡ k.spent + 9
    nine = omega arith

    three : (since : ℕ) → since + 1 + 1 + 1 ≡ since + 3
    three since = omega arith

    ninth : (since : ℕ) → since + 1 + 1 + 1 + 1 + 1 + 1 + 1 + 1 + 1 ≡ since + 9
    ninth since = omega arith

    with_both : ℕ → ℕ → List ℕ → Counts
    with_both spent since written = record k { spent = spent; since = since; written = written }

    by : (w : List ℕ) → k.written ≡ w → counted 0 handler_events random k ≡ one_refilled (passed 64 8 6 random) k
    by [] is =
        ap (λ (w : List ℕ). counted 0 handler_events random (record k { written = w })) is
        ∙ (ap₂ (λ (x y : ℕ). with_both x y (passed 64 8 6 random ∷ [])) nine (three k.since)
        ∙ ap (λ (w : List ℕ). one_refilled (passed 64 8 6 random) (record k { written = w })) (sym is))
    by (slot ∷ more) is =
        ap (λ (w : List ℕ). counted 0 handler_events random (record k { written = w })) is
        ∙ (ap₂ (λ (x y : ℕ). with_both x y (passed 64 8 6 random ∷ slot ∷ more)) nine (ninth k.since)
        ∙ ap (λ (w : List ℕ). one_refilled (passed 64 8 6 random) (record k { written = w })) (sym is))

refilled_is : (h : Held) (c : CoreState) → reached 0 handler_events h c ≡ with_refill h c
refilled_is h c = ap (λ (n : Counts). record h { core = c; own = with_counts h.own n }) (nine_counted (counts_of h.own) h.core.random)

pub refill_path : (h : Held) (c : CoreState) → IsSound h → h.kept.state.ready ≢ [] → h.kept.state.owed ≡ None → RunsInside 0 handler_events h.core h.bus c → RealPath h (with_refill h c)
refill_path h c sound some owed run = subst (RealPath h) (refilled_is h c) (words_path 0 handler_events h c sound some owed run)

pub refill_within : (n : ℕ) (old h : Held) (c : CoreState) → h.kept.state.ready ≢ [] → held_goes_on n h ≡ true → RunsInside 0 handler_events h.core h.bus c → RunsWithin n old h → RunsWithin n old (with_refill h c)
refill_within n old h c some goes run within = subst (RunsWithin n old) (refilled_is h c) (words_within 0 handler_events n old h c some goes run within)
