-- A whole refill at once goes on in a run.
use Rattle.std.proofs.Common.{◌≡◌, ◌≢◌, ℕ, ◌+◌, ◌-◌, ◌*◌, ◌<◌, ◌≤◌, Bool, true, false, [], None, refl, sym, ap, subst, ◌∙◌, arith, inr}
use Rattle.std.specs.Prelude.{◌==◌, ◌&&◌, not}
use Rattle.std.proofs.lemmas.Bool.Decides.{nat_tests}
use Rattle.ds_word.specs.Word.{truth}
use Rattle.ds_cp0.specs.System.{is_user}
use Rattle.ds_core.specs.Core.{CoreState}
use Rattle.ds_refill.specs.Inner.Refill.{handler_events}
use Rattle.ds_refill.specs.Inner.Refills.{RunsInside}
use Rattle.ds_refinement.specs.Held.{Held, Own}
use Rattle.ds_refinement.specs.Units.{is_served}
use Rattle.ds_refinement.specs.Real.{RealPath}
use Rattle.ds_refinement.specs.Inner.Services.{with_refill}
use Rattle.ds_refinement.specs.Inner.Stands.{IsSound}
use Rattle.ds_refinement.specs.Runs.{held_goes_on}
use Rattle.ds_refinement.proofs.Joined.{path_join, path_sound}
use Rattle.ds_refinement.proofs.RunSteps.{begins_goes}
use Rattle.ds_refinement.proofs.Nine.{refill_path, refill_within}
use Rattle.ds_refinement.proofs.Tallied.{few_of}
use Rattle.ds_kernel.specs.declared.parts.Parts.{Parts}
use Rattle.ds_kernel.specs.Inner.Parts.{held, own_of, with_counts_of}
use Rattle.ds_tlb.specs.Inner.Entries.{passed}
use Rattle.ds_refinement.specs.Counts.{counts_of}
use Rattle.ds_refinement.specs.Inner.Counts.{with_counts, one_refilled}
use Rattle.ds_kernel.specs.Inner.Good.{IsGood, IsOrderly}
use Rattle.ds_monitor.specs.declared.monitor.Monitor.{Monitor}
use Rattle.ds_monitor.specs.Inner.Coming.{next_due}
use Rattle.ds_monitor.specs.Inner.Kept.{kept_of}
use Rattle.ds_monitor.specs.Inner.Room.{HasTurnRoom}
use Rattle.ds_kernel.proofs.Doing.{owed_small}
use Rattle.ds_kernel.proofs.Stepping.{none_is_not_some}
use Rattle.ds_kernel.specs.Inner.Going.{GoesOn}
use Rattle.ds_kernel.specs.Inner.Refilled.{has_missed}
use Rattle.ds_grants.proofs.OwnFrames.{truth_small}
use Rattle.ds_kernel.proofs.Blocking.{rank_of}
use Rattle.ds_kernel.proofs.Running.{goes_join}

-- where a page was missed the processor is in kernel mode
pub missed_kernel : (c : CoreState) → has_missed c ≡ true → is_user c.system ≡ false
missed_kernel c is = by (is_user c.system) (c.pc == 0x80000000) is
  where
    by : (user at : Bool) → (not user && at) ≡ true → user ≡ false
    by true at is = absurd (cc)
    by false at is = refl

-- at the vector of misses
pub missed_at : (c : CoreState) → has_missed c ≡ true → c.pc ≡ 0x80000000
missed_at c is = by (is_user c.system) c.pc is
  where
    by : (user : Bool) (pc : ℕ) → (not user && (pc == 0x80000000)) ≡ true → pc ≡ 0x80000000
    by true pc is = absurd (cc)
    by false pc is = grind (arith, nat_tests)

-- nine instructions more are fewer left
nine_fewer : (a s k l : ℕ) → s + 9 ≤ 64 → l ≤ 1 → a + (2 * (64 - (s + 9)) + l) < a + (2 * (64 - s) + k)
nine_fewer a s k l few small = omega (arith, few, small)

-- what is held once a refill at once is done and counted
pub refilled_is : {L : Type 0} (old new : Parts L) (c : CoreState) (slot : ℕ) → slot ≡ passed 64 8 6 old.core.random → own_of new ≡ with_counts (own_of old) (one_refilled slot (counts_of (own_of old)))
    → new ≡ with_counts_of new (record old { core = c }) → held new ≡ with_refill (held old) new.core
refilled_is {L = L} old new c slot at own rest =
    ap (λ (x : Parts L). record { core = x.core; bus = x.bus; kept = kept_of x.monitor; own = own_of new }) rest
    ∙ (ap (λ (o : Own). record { core = c; bus = old.bus; kept = kept_of old.monitor; own = o }) own
    ∙ (ap (λ (i : ℕ). record { core = c; bus = old.bus; kept = kept_of old.monitor; own = with_counts (own_of old) (one_refilled i (counts_of (own_of old))) }) at
    ∙ ap (with_refill (held old)) (sym (ap (λ (x : Parts L). x.core) rest))))

-- Nine instructions of the unit of old parts lead to other parts, with another processor and other counts.
module _ {L : Type 0} (old new : Parts L) (good : IsGood old) (ready : old.monitor.ready ≢ []) (kernel : is_user old.core.system ≡ false) (is : held new ≡ with_refill (held old) new.core)
    (same : new.monitor ≡ old.monitor) (runs : RunsInside 0 handler_events old.core old.bus new.core) where
  begun : 0 < old.spent
  begun = good.orderly.raised kernel

  unowed : old.monitor.owed ≡ None
  unowed = good.orderly.begun begun

  path : RealPath (held old) (held new)
  path = subst (RealPath (held old)) (sym is) (refill_path (held old) new.core good.sound ready unowed runs)

  sound : IsSound (held new)
  sound = path_sound (held old) (held new) good.sound path

  count : new.spent ≡ old.spent + 9
  count = ap (λ (x : Held). x.own.spent) is

  refill_few : new.spent ≤ 61
  refill_few = (few_of (held new) sound.state sound.stands).spent

  pub refill_good : IsGood new
  refill_good =
      let nine = count in
      let few = refill_few in
      let marks : IsOrderly (with_refill (held old) new.core) = record {
        begun = λ some. unowed;
        failed = λ is. unowed;
        raised = λ is. omega arith;
        running = λ some. ready;
        spent = omega (arith, nine, few);
        fresh = λ first. absurd (let small = owed_small new.core.slot in omega (arith, first, small));
        lines = good.orderly.lines;
        ticked = good.orderly.ticked;
        early = good.orderly.early;
        rate = good.orderly.rate;
        kept = good.orderly.kept;
      } in record {
        sound = sound;
        orderly = subst IsOrderly (sym is) marks;
        room = λ some. subst HasTurnRoom (sym same) (good.room begun);
        owed = λ some. absurd (none_is_not_some new.monitor.owed (ap (λ (m : Monitor). m.owed) same ∙ unowed) some);
        next = ap (λ (m : Monitor). m.quiet_until) same ∙ (good.next ∙ sym (ap (λ (m : Monitor). next_due (kept_of m)) same));
      }

  pub refill_goes : (n : ℕ) → old.monitor.time < n → GoesOn n (held old) (held new)
  refill_goes n soon =
      let going : held_goes_on n (held old) ≡ true = begins_goes n (held old) good.sound.state good.sound.stands (inr (ready, soon)) in
      let nine = count in
      let few = refill_few in
      let fewer = nine_fewer (131 * (n - old.monitor.time)) old.spent (truth (is_served old.core)) (truth (is_served new.core)) (omega (arith, nine, few)) (truth_small (is_served new.core)) in
      let refilled : Held = with_refill (held old) new.core in
      subst (GoesOn n (held old)) (sym is) (record {
        runs = λ start h. record {
          path = path_join start (held old) refilled h.path (refill_path (held old) new.core good.sound ready unowed runs);
          within = refill_within n start (held old) new.core ready going runs h.within;
        };
        nearer = rw (rank_of n (held old) unowed, rank_of n refilled unowed) fewer;
        working = refl;
        begun = λ some. soon;
      })

-- A refill that was done or not goes on from where a run began.
pub refilled_goes : {L : Type 0} (n : ℕ) (start : Held) (old later : Parts L) (done : Bool) → IsGood old → has_missed old.core ≡ true → (done ≡ true → (n : ℕ) → old.monitor.time < n → GoesOn n (held old) (held later))
    → (done ≡ false → later ≡ old) → (0 < old.spent → old.monitor.time < n) → GoesOn n start (held old) → GoesOn n start (held later)
refilled_goes n start old later true good missed nearer still before begun =
    goes_join n start (held old) (held later) begun (nearer refl n (before (good.orderly.raised (missed_kernel old.core missed))))
refilled_goes {L} n start old later false good missed nearer still before begun = subst (λ (p : Parts L). GoesOn n start (held p)) (sym (still refl)) begun
