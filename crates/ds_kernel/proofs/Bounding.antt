-- Boundaries with nothing to do and boundaries that are served, as steps of a station.
use Rattle.std.proofs.Common.{◌≡◌, ◌≢◌, inl, inr, ℕ, zero, suc, ◌+◌, ◌-◌, ◌<◌, ◌≤◌, true, false, [], length, Option, None, refl, sym, ap, subst, ◌∙◌, arith}
use Rattle.std.specs.Prelude.{IsSome, ◌==◌, min}
use Rattle.std.specs.List.Sorted.{IsNonDecreasingBy}
use Rattle.std.proofs.Math.Nat.{min-le_left, min-le_right}
use Rattle.ds_word.specs.Word.{bits}
use Rattle.ds_policy.specs.InputFacts.{has_time, comes_at}
use Rattle.ds_pagemap.specs.declared.turn.Turn.{Turn}
use Rattle.ds_pagemap.specs.Run.{is_over}
use Rattle.ds_refinement.specs.declared.step.Step.TheVariants.{Boundary}
use Rattle.ds_refinement.specs.Held.{Held}
use Rattle.ds_refinement.specs.Inner.Stands.{IsSound}
use Rattle.ds_refinement.specs.Inner.Services.{with_boundary, with_idle_turn}
use Rattle.ds_refinement.specs.Steps.{Moves}
use Rattle.ds_cp0.specs.System.{is_user}
use Rattle.ds_refinement.specs.Pairs.{HasNoNewPairs}
use Rattle.ds_refinement.specs.Inner.Quiet.{IsUndisturbed}
use Rattle.ds_refinement.specs.Real.{IsReal}
use Rattle.ds_refinement.proofs.Boundaries.{quiet, idle, waited_stands}
use Rattle.ds_refinement.proofs.NoNewPairs.{same_pairs}
use Rattle.ds_refinement.specs.Counts.{HasNone}
use Rattle.ds_refinement.proofs.Counting.{boundary_moves, idle_moves}
use Rattle.ds_refinement.proofs.Attended.{boundary_served, idle_served, served_moves, idle_served_moves}
use Rattle.ds_monitor.specs.Inner.Coming.{first_time, first_due, period_end, next_due}
use Rattle.ds_monitor.specs.Inner.Kept.{kept_of}
use Rattle.ds_monitor.specs.Inner.Orderly as monitor
use Rattle.ds_monitor.specs.Inner.Room.{HasBoundaryRoom, HasTurnRoom}
use Rattle.ds_monitor.specs.declared.monitor.Monitor.{Monitor}
use Rattle.ds_kernel.specs.declared.parts.Parts.{Parts}
use Rattle.ds_kernel.specs.Inner.Parts.{held, own_of}
use Rattle.ds_kernel.specs.Inner.Good.{IsRate, IsOrderly, IsGood}
use Rattle.ds_kernel.specs.Inner.Ended.{DoesStep}
use Rattle.ds_kernel.specs.Inner.Attended.{HasAttended, IsBounded}
use Rattle.ds_monitor.proofs.Coming.{none_due}
use Rattle.ds_monitor.proofs.Lawful.{turn_orderly}
use Rattle.ds_kernel.proofs.Waiting.{none_passed}
use Rattle.ds_kernel.proofs.Doing.{enters_user, fresh_of_none, none_of_fresh}
use Rattle.ds_kernel.proofs.Rooms.{turn_room_still, boundary_room}
use Rattle.ds_kernel.proofs.Stepping.{none_is_not_some, sound_after}

-- before the time at which something next comes, a boundary has nothing to do
pub nothing_due : (m : Monitor) (time : ℕ) (owed : Option Turn) → IsNonDecreasingBy has_time m.due.commands → IsNonDecreasingBy comes_at m.due.characters → m.quiet_until ≡ next_due (kept_of m) → time < m.quiet_until → monitor.IsOrderly (kept_of m)
    → IsUndisturbed (record (kept_of m) { state = record (kept_of m).state { time = time; owed = owed } })
nothing_due m time owed commands order next early kept =
    let before : time < next_due (kept_of m) = subst (λ (n : ℕ). time < n) next early in
    let comes : ℕ = min (first_due m.due) (period_end m.rate m.ticked) in
    let soonest : next_due (kept_of m) ≤ comes = min-le_left comes m.ends in
    let ends : next_due (kept_of m) ≤ m.ends = min-le_right comes m.ends in
    let first : comes ≤ first_due m.due = min-le_left (first_due m.due) (period_end m.rate m.ticked) in
    let last : comes ≤ period_end m.rate m.ticked = min-le_right (first_due m.due) (period_end m.rate m.ticked) in
    let command : first_due m.due ≤ first_time has_time m.due.commands - 1 = min-le_left (first_time has_time m.due.commands - 1) (first_time comes_at m.due.characters) in
    let character : first_due m.due ≤ first_time comes_at m.due.characters = min-le_right (first_time has_time m.due.commands - 1) (first_time comes_at m.due.characters) in
    record {
      commands = none_due has_time time m.due.commands commands (omega (arith, before, soonest, first, command));
      characters = none_due comes_at time m.due.characters order (omega (arith, before, soonest, first, character));
      asleep = kept.lawful.asleep;
      period = none_passed m.rate m.ticked time (omega (arith, before, soonest, last));
      ends = kept.ends time (omega (arith, before, ends));
    }

-- A boundary that is owed.
module _ {L : Type 0} (old : Parts L) (good : IsGood old) (owed : IsSome old.monitor.owed) where
  abbrev h : Held
  h = held old

  none_spent : (n : ℕ) → (0 < n → old.monitor.owed ≡ None) → n ≡ 0
  none_spent zero begun = refl
  none_spent (suc n) begun = absurd (none_is_not_some old.monitor.owed (begun (omega arith)) owed)

  real : (new : Held) → new.core.random ≡ h.core.random → HasNoNewPairs h.core.entries new.core.entries → IsReal h new
  real new random pairs = record {
    instruction = λ unit other. absurd (none_is_not_some old.monitor.owed unit.0 owed);
    service = λ unit served. absurd (none_is_not_some old.monitor.owed unit.0 owed);
    random = λ all. random;
    pairs = λ all. pairs;
  }

  none_counted : HasNone (own_of old)
  none_counted = none_of_fresh (own_of old) old.core.slot (none_spent old.spent good.orderly.begun) good.orderly.fresh

  quiet_does : IsUndisturbed h.kept → DoesStep Boundary h (with_boundary h)
  quiet_does q =
      record {
        follows = quiet h owed none_counted good.orderly.ticked q;
        moves = boundary_moves h owed none_counted;
        real = real (with_boundary h) refl (same_pairs h.core.entries);
      }

  pub bounded_does : (new : Held) → IsBounded h new → DoesStep Boundary h new
  bounded_does new by = elim by [
    | inl none ↦ subst (DoesStep Boundary h) (sym none.1) (quiet_does none.0)
    | inr ends ↦ record { follows = boundary_served h new owed ends.0; moves = served_moves h new owed ends.1 ends.0; real = real new ends.2 ends.3 }
  ]

  pub quiet_good : IsUndisturbed h.kept → IsGood (record old { monitor = record old.monitor { owed = None } })
  quiet_good q =
      let o = good.orderly in record {
        sound = sound_after Boundary h (with_boundary h) good.sound (quiet_does q).follows;
        orderly = record {
          begun = λ some. refl;
          failed = λ failed. refl;
          raised = o.raised;
          running = o.running;
          spent = o.spent;
          fresh = o.fresh;
          lines = o.lines;
          ticked = o.ticked;
          early = o.early;
          rate = o.rate;
          kept = turn_orderly h.kept h.kept.state.time None o.kept;
        };
        room = λ some. turn_room_still old.monitor old.monitor.time None refl (good.room some);
        owed = λ some. absurd (none_is_not_some None refl some);
        next = good.next;
      }

  pub attended_good : (new : Parts L) → HasAttended old new → IsGood new
  attended_good new a =
      let o = good.orderly in
      let moves : Moves Boundary h (held new) = served_moves h (held new) owed a.own a.ends in
      let none : new.spent ≡ 0 = moves.1 in
      let user : is_user new.core.system ≡ true = ap (λ (n : ℕ). bits n 1 1 == 1) (enters_user new.monitor.ready new.core (held new).kept a.ends.enters) in
      let few : old.monitor.lines + length old.monitor.due.commands ≤ old.monitor.time + 4096 = o.lines in
      let lines : new.monitor.lines + length new.monitor.due.commands ≤ old.monitor.lines + length old.monitor.due.commands = a.lines in
      let time : new.monitor.time ≡ old.monitor.time = a.time in
      let ticked : new.monitor.ticked ≡ old.monitor.time = a.ticked in
      let early : old.monitor.time ≤ 1000000001 = o.early in record {
        sound = sound_after Boundary h (held new) good.sound (boundary_served h (held new) owed a.ends);
        orderly = record {
          begun = λ some. moves.0;
          failed = λ failed. moves.0;
          raised = λ is. (let no : true ≡ false = sym user ∙ is in absurd (cc));
          running = λ some. absurd (omega (arith, none, some));
          spent = omega (arith, none);
          fresh = λ few. fresh_of_none (own_of new) a.ends.none;
          lines = omega (arith, lines, time, few);
          ticked = omega (arith, ticked, time);
          early = omega (arith, time, early);
          rate = subst IsRate (sym a.rate) o.rate;
          kept = a.kept;
        };
        room = λ some. absurd (omega (arith, none, some));
        owed = λ some. absurd (none_is_not_some new.monitor.owed moves.0 some);
        next = a.next;
      }

-- A turn in which no process runs.
module _ {L : Type 0} (old between waiting : Parts L) (good : IsGood old) (unowed : old.monitor.owed ≡ None) (nobody : old.monitor.ready ≡ []) (going : is_over (kept_of old.monitor).state ≡ false)
    (working : old.failed ≡ false) (soon : old.monitor.time < 1000000000) (is : held between ≡ held old) (until : between.monitor.quiet_until ≡ old.monitor.quiet_until) (room : HasTurnRoom between.monitor)
    (waits : held waiting ≡ with_idle_turn (held between)) (rest : waiting ≡ record between { monitor = record between.monitor { time = waiting.monitor.time; owed = waiting.monitor.owed } }) where
  nobody_spent : (n : ℕ) → (0 < n → old.monitor.ready ≢ []) → n ≡ 0
  nobody_spent zero running = refl
  nobody_spent (suc n) running = absurd (running (omega arith) nobody)

  none_begun : old.spent ≡ 0
  none_begun = nobody_spent old.spent good.orderly.running

  waiting_is : held waiting ≡ with_idle_turn (held old)
  waiting_is = waits ∙ ap with_idle_turn is

  real_idle : (new : Held) → new.core.random ≡ old.core.random → HasNoNewPairs old.core.entries new.core.entries → IsReal (held old) new
  real_idle new random pairs = record {
    instruction = λ unit other. absurd (unit.1 nobody);
    service = λ unit served. absurd (unit.1 nobody);
    random = λ all. random;
    pairs = λ all. pairs;
  }

  quiet_idle : IsUndisturbed (with_idle_turn (held old)).kept → DoesStep Boundary (held old) (with_boundary (with_idle_turn (held old)))
  quiet_idle q =
      record {
        follows = idle (held old) unowed nobody going q;
        moves = idle_moves (held old) unowed (none_of_fresh (own_of old) old.core.slot none_begun good.orderly.fresh);
        real = real_idle (with_boundary (with_idle_turn (held old))) refl (same_pairs old.core.entries);
      }

  by_bounded : (new : Held) → IsBounded (with_idle_turn (held old)) new → DoesStep Boundary (held old) new
  by_bounded new by = elim by [
    | inl none ↦ subst (DoesStep Boundary (held old)) (sym none.1) (quiet_idle none.0)
    | inr ends ↦ record { follows = idle_served (held old) new unowed nobody going ends.0; moves = idle_served_moves (held old) new unowed ends.1 ends.0; real = real_idle new ends.2 ends.3 }
  ]

  pub idle_bounded : (new : Held) → IsBounded (held waiting) new → DoesStep Boundary (held old) new
  idle_bounded new by = by_bounded new (subst (λ (x : Held). IsBounded x new) waiting_is by)

  pub waiting_good : IsGood waiting
  waiting_good =
      let o = good.orderly in
      let lines : old.monitor.lines + length old.monitor.due.commands ≤ old.monitor.time + 4096 = o.lines in
      let time : between.monitor.time ≡ old.monitor.time = ap (λ (x : Held). x.kept.state.time) is in
      let later : waiting.monitor.time ≡ old.monitor.time + 1 = ap (λ (x : Held). x.kept.state.time) waiting_is in
      let spent : waiting.spent ≡ old.spent = ap (λ (x : Held). x.own.spent) waiting_is in
      let begun : old.spent ≡ 0 = none_begun in
      let ticked : old.monitor.ticked ≤ old.monitor.time = o.ticked in
      let marks : IsOrderly (with_idle_turn (held old)) = record {
        begun = λ some. absurd (let none = none_begun in omega (arith, none, some));
        failed = λ is. (let no : false ≡ true = sym working ∙ is in absurd (cc));
        raised = o.raised;
        running = o.running;
        spent = o.spent;
        fresh = o.fresh;
        lines = omega (arith, lines);
        ticked = omega (arith, ticked);
        early = omega (arith, soon);
        rate = o.rate;
        kept = turn_orderly (held old).kept (old.monitor.time + 1) (with_idle_turn (held old)).kept.state.owed o.kept;
      } in record {
        sound = subst IsSound (sym waiting_is) (record { state = _; stands = waited_stands (held old) good.sound.state good.sound.stands unowed nobody });
        orderly = subst IsOrderly (sym waiting_is) marks;
        room = λ some. absurd (omega (arith, spent, begun, some));
        owed = λ some. subst (λ (x : Parts L). HasBoundaryRoom x.monitor) (sym rest) (boundary_room between.monitor waiting.monitor.time waiting.monitor.owed (omega (arith, time, later)) room);
        next = ap (λ (x : Parts L). x.monitor.quiet_until) rest ∙ (until ∙ (good.next ∙ sym (ap (λ (x : Held). next_due x.kept) waiting_is)));
      }
