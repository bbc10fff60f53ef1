use Rattle.std.proofs.Common.{◌≡◌, true, false, Bool, ℕ, Result, Ok, sym, ap, subst, ◌∙◌, arith, inl, rules}
use Rattle.std.specs.Prelude.{OnErr, is_some, nat_lt, ◌||◌}
use Rattle.ds_text.proofs.Sends.{asked_both, at_err}
use Rattle.ds_refinement.specs.Held.{Held}
use Rattle.ds_refinement.specs.Runs.{held_goes_on}
use Rattle.ds_refinement.specs.Inner.Runs.{RunsWithin}
use Rattle.ds_station.specs.Inner.Faults.{IsFaultAfter, IsNewFault}
use Rattle.ds_station.proofs.Headlines.{keeps_same}
use Rattle.ds_station.specs.declared.fault.Fault.{Fault}
use Rattle.ds_trace.specs.Looks.{Looked}
use Rattle.ds_trace.specs.Inner.Advanced.{Advances, HasStepped, HasHalted}
use Rattle.ds_trace.proofs.Following.{cut_counted, cut_early, cut_lines, cut_part, cut_spent, end_told, first_told, first_within, halted_cut, halted_told, handed_told, last_counting, last_told, never_short, nothing_lines, nothing_part, part_none, ran_whole, ran_within, short_err, short_is, step_counting, step_on, step_owed, step_told}
use Rattle.ds_trace.specs.Inner.Counted.{CountsStep, WatchesAfter}
use Rattle.ds_trace.specs.Processors.{window_end}
use Rattle.ds_trace.proofs.Processing.{counting_cut, counting_done, counting_few, counting_first, counting_path, watched_first}
use Rattle.ds_trace.proofs.Asking.{asked_none}
use Rattle.ds_trace.proofs.trace.follow.Goals as goal

-- a fault cut short what comes before the first turn that is told
pub returns-in-Err-clause-ok : goal.returns-in-Err-clause-ok
returns-in-Err-clause-ok g c =
    let v = c.args.view.now in
    let new : Held = c.run-ran.new.self.held in
    let is : IsNewFault c.in-Err.fault = subst (λ (failed : Bool). IsFaultAfter failed c.in-Err.fault) c.requires.working c.in-Err.ensures.faults in
    let within : RunsWithin _ c.args.station.now.held new = subst (λ (k : ℕ). RunsWithin k c.args.station.now.held new) c.silent_until.ensures c.in-Err.ensures.err in
    cut_early v c.args.n c.args.station.now.held new (g.O.Output.contents c.args.out.now) c.requires.unowed within
    c.in-Err.ensures.whole (cut_spent c.in-Err.fault c.args.station.now.held new c.in-Err.ensures.cut is) c.in-Err.fault c.args.sheet.now.text.items c.args.progress.now.counts c.requires.empty c.requires.none is
    (subst (λ (k : ℕ). held_goes_on k new ≡ true) c.silent_until.ensures (subst (λ (r : Result (Unit {0}) Fault). OnErr r (held_goes_on c.silent_until.result new ≡ true)) c.in-Err.is (c.run-ran.ensures.going c.requires.working)))

pub returns-in-Err-2-clause-cut : goal.returns-in-Err-2-clause-cut
returns-in-Err-2-clause-cut g c =
    let v = c.args.view.now in
    let b = c.loop-station in
    let new = c.advance.new in
    let s : HasHalted c.in-Err-2.fault b.station.held new.station.held b.sheet.text.items b.progress new.sheet.text.items new.progress = subst (λ (r : Result Bool Fault). Advances r v b.station.held new.station.held b.sheet.text.items b.progress new.sheet.text.items new.progress) c.in-Err-2.is c.in_ok-advance.ensures.tells in
    halted_cut c.in-Err-2.fault c.args.station.now.held b.station.held new.station.held b.sheet.text.items new.sheet.text.items b.progress new.progress s b.invariant.working
    (counting_path (window_end v) _ c.args.n c.args.station.now.held b.station.held b.counts b.window b.invariant.counting)

pub returns-in_err-watch-clause-err : goal.returns-in_err-watch-clause-err
returns-in_err-watch-clause-err g c = at_err c.from_residual.result (nothing_part c.args.view.now c.args.n c.args.station.now.held (g.O.Output.contents c.args.out.now) c.requires.spent)

pub returns-in_err-look-clause-err : goal.returns-in_err-look-clause-err
returns-in_err-look-clause-err g c = at_err c.from_residual-in_err-look.result (nothing_part c.args.view.now c.args.n c.args.station.now.held (g.O.Output.contents c.args.out.now) c.requires.spent)

pub returns-in-Err-clause-counted : goal.returns-in-Err-clause-counted
returns-in-Err-clause-counted g c =
    let new : Held = c.run-ran.new.self.held in
    let is : IsNewFault c.in-Err.fault = subst (λ (failed : Bool). IsFaultAfter failed c.in-Err.fault) c.requires.working c.in-Err.ensures.faults in
    cut_counted c.args.view.now c.args.n c.in-Err.fault c.args.station.now.held new c.args.counts.now c.args.window.now c.watch.new.self c.requires.unowed c.in-Err.ensures.cut is
    (subst (λ (k : ℕ). RunsWithin k c.args.station.now.held new) c.silent_until.ensures c.in-Err.ensures.err) c.in-Err.ensures.whole c.requires.uncounted c.requires.awaited c.requires.unleft c.in_ok-watch.ensures

pub loop-station-init : goal.loop-station-init
loop-station-init g c =
    let v = c.args.view.now in
    let new : Held = c.run-ran.new.self.held in
    let none : new.own.spent ≡ 0 = c.in-Ok.ensures.unit (inl c.requires.spent) in
    let owes = ran_whole _ new c.in-Ok.ensures.over in
    let within : RunsWithin _ c.args.station.now.held new = subst (λ (k : ℕ). RunsWithin k c.args.station.now.held new) c.silent_until.ensures (ran_within _ c.args.station.now.held new c.in-Ok.ensures.ok) in
    record {
      tells = first_told v c.args.n c.args.station.now.held new (g.O.Output.contents c.args.out.now) c.requires.unowed within owes none c.args.sheet.now.text.items (record c.args.progress.now { before = c.look.new.self }) c.requires.empty c.in_ok-look.ensures c.requires.none;
      sound = c.in-Ok.ensures.sound;
      working = c.in-Ok.ensures.good;
      owed = ap (λ (x : Looked). x.owed) c.in_ok-look.ensures ∙ sym (ap is_some owes);
      begun = λ some. absurd (omega (arith, none, some));
      counting = counting_first (window_end v) _ c.args.n c.args.station.now.held new c.args.counts.now c.watch.new.self (record { path = c.in-Ok.ensures.real; within = within })
          (subst (λ (k : ℕ). held_goes_on k new ≡ false) c.silent_until.ensures c.in-Ok.ensures.over) none c.requires.uncounted c.requires.few
          (watched_first (window_end v) c.args.n c.args.station.now.held new c.args.window.now c.watch.new.self c.requires.awaited c.requires.unleft c.in_ok-watch.ensures owes none
          (first_within v c.args.n c.args.station.now.held new (g.O.Output.contents c.args.out.now) c.requires.unowed within owes none));
      asked = asked_none _;
    }

pub returns-in_err-advance-clause-err : goal.returns-in_err-advance-clause-err
returns-in_err-advance-clause-err g c =
    let b = c.loop-station in
    at_err c.from_residual-in_err-advance.result
    (cut_part c.args.view.now c.args.n c.args.station.now.held b.station.held _ _ _ b.sheet.text.items b.counts _ (counting_done (window_end c.args.view.now) _ c.args.n c.args.station.now.held b.station.held b.counts b.window b.invariant.counting) b.progress b.invariant.tells (part_none _ b.sheet.text.items))

pub returns-in-Ok-true-clause-ok : goal.returns-in-Ok-true-clause-ok
returns-in-Ok-true-clause-ok g c =
    let v = c.args.view.now in
    let b = c.loop-station in
    let new = c.advance.new in
    let is : c.in_ok-advance.field-0 ≡ Ok true = c.in-Ok-true.is ∙ ap (λ (x : Bool). Ok x) c.in-Ok-true.field-0-test in
    let s : HasStepped true v b.station.held new.station.held b.sheet.text.items b.progress new.sheet.text.items new.progress = subst (λ (r : Result Bool Fault). Advances r v b.station.held new.station.held b.sheet.text.items b.progress new.sheet.text.items new.progress) is c.in_ok-advance.ensures.tells in
    last_told v c.args.n b.station.held new.station.held b.sheet.text.items new.sheet.text.items b.progress new.progress s b.invariant.sound c.args.station.now.held _ _ b.invariant.tells

pub returns-in-Err-2-clause-ok : goal.returns-in-Err-2-clause-ok
returns-in-Err-2-clause-ok g c =
    let v = c.args.view.now in
    let b = c.loop-station in
    let new = c.advance.new in
    let s : HasHalted c.in-Err-2.fault b.station.held new.station.held b.sheet.text.items b.progress new.sheet.text.items new.progress = subst (λ (r : Result Bool Fault). Advances r v b.station.held new.station.held b.sheet.text.items b.progress new.sheet.text.items new.progress) c.in-Err-2.is c.in_ok-advance.ensures.tells in
    halted_told v c.args.n c.in-Err-2.fault b.station.held new.station.held b.sheet.text.items new.sheet.text.items b.progress new.progress s b.invariant.owed (sym c.is_before.ensures ∙ c.loop-station-test.true) c.args.station.now.held _ _ b.invariant.tells

pub loop-station-smaller : goal.loop-station-smaller
loop-station-smaller g c =
    let v = c.args.view.now in
    let b = c.loop-station in
    let new = c.advance.new in
    let is : c.in_ok-advance.field-0 ≡ Ok false = c.in-Ok-false.is ∙ ap (λ (x : Bool). Ok x) c.in-Ok-false.field-0-test in
    let s : HasStepped false v b.station.held new.station.held b.sheet.text.items b.progress new.sheet.text.items new.progress = subst (λ (r : Result Bool Fault). Advances r v b.station.held new.station.held b.sheet.text.items b.progress new.sheet.text.items new.progress) is c.in_ok-advance.ensures.tells in
    (step_on v c.args.n b.station.held new.station.held b.sheet.text.items new.sheet.text.items b.progress new.progress s b.invariant.sound b.invariant.owed (sym c.is_before.ensures ∙ c.loop-station-test.true)).nearer

pub loop-station-preserved : goal.loop-station-preserved
loop-station-preserved g c =
    let v = c.args.view.now in
    let b = c.loop-station in
    let new = c.advance.new in
    let is : c.in_ok-advance.field-0 ≡ Ok false = c.in-Ok-false.is ∙ ap (λ (x : Bool). Ok x) c.in-Ok-false.field-0-test in
    let s : HasStepped false v b.station.held new.station.held b.sheet.text.items b.progress new.sheet.text.items new.progress = subst (λ (r : Result Bool Fault). Advances r v b.station.held new.station.held b.sheet.text.items b.progress new.sheet.text.items new.progress) is c.in_ok-advance.ensures.tells in
    let test = sym c.is_before.ensures ∙ c.loop-station-test.true in
    let on = step_on v c.args.n b.station.held new.station.held b.sheet.text.items new.sheet.text.items b.progress new.progress s b.invariant.sound b.invariant.owed test in record {
      tells = handed_told v c.args.n c.args.station.now.held new.station.held _ _ _ new.sheet.text.items _ new.progress c.in_ok-hand_on.ensures.ok
          (step_told v c.args.n b.station.held new.station.held b.sheet.text.items new.sheet.text.items b.progress new.progress s b.invariant.sound b.invariant.owed test c.args.station.now.held _ _ b.invariant.tells);
      sound = s.sound;
      working = on.working ∙ b.invariant.working;
      owed = step_owed v c.args.n b.station.held new.station.held b.sheet.text.items new.sheet.text.items b.progress new.progress s b.invariant.sound b.invariant.owed test;
      begun = on.begun;
      counting = step_counting v c.args.n b.station.held new.station.held b.sheet.text.items new.sheet.text.items b.progress new.progress s b.invariant.sound b.invariant.owed test (window_end v) _ c.args.station.now.held _ _
          b.counts new.counts b.window new.window _ is c.in_ok-advance.ensures.counted c.in_ok-advance.ensures.watches b.invariant.tells b.invariant.counting;
      asked = asked_both _ _ _ false b.invariant.asked c.in_ok-hand_on.ensures.once;
    }

pub returns-in_err-hand_on-clause-err : goal.returns-in_err-hand_on-clause-err
returns-in_err-hand_on-clause-err g c =
    let v = c.args.view.now in
    let b = c.loop-station in
    let new = c.advance.new in
    let is : c.in_ok-advance.field-0 ≡ Ok false = c.in-Ok-false.is ∙ ap (λ (x : Bool). Ok x) c.in-Ok-false.field-0-test in
    let s : HasStepped false v b.station.held new.station.held b.sheet.text.items b.progress new.sheet.text.items new.progress = subst (λ (r : Result Bool Fault). Advances r v b.station.held new.station.held b.sheet.text.items b.progress new.sheet.text.items new.progress) is c.in_ok-advance.ensures.tells in
    let test = sym c.is_before.ensures ∙ c.loop-station-test.true in
    let counting = step_counting v c.args.n b.station.held new.station.held b.sheet.text.items new.sheet.text.items b.progress new.progress s b.invariant.sound b.invariant.owed test (window_end v) _ c.args.station.now.held _ _
    b.counts new.counts b.window new.window _ is c.in_ok-advance.ensures.counted c.in_ok-advance.ensures.watches b.invariant.tells b.invariant.counting in
    at_err c.from_residual-in_err-hand_on.result
    (cut_part v c.args.n c.args.station.now.held new.station.held _ _ _ new.sheet.text.items new.counts _
    (counting_done (window_end v) _ c.args.n c.args.station.now.held new.station.held new.counts new.window counting) new.progress
    (step_told v c.args.n b.station.held new.station.held b.sheet.text.items new.sheet.text.items b.progress new.progress s b.invariant.sound b.invariant.owed test c.args.station.now.held _ _ b.invariant.tells) c.in_err-hand_on.ensures.err)

pub returns-clause-ok : goal.returns-clause-ok
returns-clause-ok g c =
    let b = c.loop-station in
    end_told c.args.view.now c.args.n c.args.station.now.held b.station.held _ _ b.sheet.text.items b.progress b.invariant.tells b.invariant.owed (sym c.is_before.ensures ∙ c.loop-station-test.false) b.invariant.begun

-- What is counted.

pub returns-in-Ok-true-clause-counted : goal.returns-in-Ok-true-clause-counted
returns-in-Ok-true-clause-counted g c =
    let v = c.args.view.now in
    let b = c.loop-station in
    let new = c.advance.new in
    let is : c.in_ok-advance.field-0 ≡ Ok true = c.in-Ok-true.is ∙ ap (λ (x : Bool). Ok x) c.in-Ok-true.field-0-test in
    let s : HasStepped true v b.station.held new.station.held b.sheet.text.items b.progress new.sheet.text.items new.progress = subst (λ (r : Result Bool Fault). Advances r v b.station.held new.station.held b.sheet.text.items b.progress new.sheet.text.items new.progress) is c.in_ok-advance.ensures.tells in
    let test = sym c.is_before.ensures ∙ c.loop-station-test.true in
    last_counting v c.args.n b.station.held new.station.held b.sheet.text.items new.sheet.text.items b.progress new.progress s b.invariant.sound (window_end v) _ c.args.station.now.held b.counts new.counts b.window new.window _ is
    c.in_ok-advance.ensures.counted c.in_ok-advance.ensures.watches (sym (ap (λ (owes : Bool). owes || nat_lt b.station.held.kept.state.time c.args.n) b.invariant.owed) ∙ test) b.invariant.owed b.invariant.counting

pub returns-in-Err-2-clause-counted : goal.returns-in-Err-2-clause-counted
returns-in-Err-2-clause-counted g c =
    let b = c.loop-station in
    let new = c.advance.new in
    counting_cut (window_end c.args.view.now) _ c.args.n c.args.station.now.held b.station.held new.station.held b.counts new.counts b.window new.window
    (subst (λ (r : Result Bool Fault). CountsStep r b.station.held new.station.held b.counts new.counts) c.in-Err-2.is c.in_ok-advance.ensures.counted)
    (subst (λ (r : Result Bool Fault). WatchesAfter r new.progress.before.owed new.station.held b.window new.window) c.in-Err-2.is c.in_ok-advance.ensures.watches) b.invariant.counting

pub returns-clause-counted : goal.returns-clause-counted
returns-clause-counted g c =
    let b = c.loop-station in
    counting_done (window_end c.args.view.now) _ c.args.n c.args.station.now.held b.station.held b.counts b.window b.invariant.counting

pub advance-requires-clause-few : goal.advance-requires-clause-few
advance-requires-clause-few g c =
    let b = c.loop-station in
    counting_few (window_end c.args.view.now) _ c.args.n c.args.station.now.held b.station.held b.counts b.window b.invariant.counting

-- What is written where memory runs out.

pub returns-in_err-watch-clause-short : goal.returns-in_err-watch-clause-short
returns-in_err-watch-clause-short g c = short_err c.from_residual.result _ (nothing_lines c.args.view.now c.args.n c.args.station.now.held (g.O.Output.contents c.args.out.now) c.requires.spent)

pub returns-in_err-look-clause-short : goal.returns-in_err-look-clause-short
returns-in_err-look-clause-short g c = short_err c.from_residual-in_err-look.result _ (nothing_lines c.args.view.now c.args.n c.args.station.now.held (g.O.Output.contents c.args.out.now) c.requires.spent)

pub returns-in_err-advance-clause-short : goal.returns-in_err-advance-clause-short
returns-in_err-advance-clause-short g c =
    let b = c.loop-station in
    short_err c.from_residual-in_err-advance.result _
    (cut_lines c.args.view.now c.args.n c.args.station.now.held b.station.held _ _ _ b.sheet.text.items b.counts _ (counting_done (window_end c.args.view.now) _ c.args.n c.args.station.now.held b.station.held b.counts b.window b.invariant.counting) b.progress b.invariant.tells (keeps_same _))

pub returns-in_err-hand_on-clause-short : goal.returns-in_err-hand_on-clause-short
returns-in_err-hand_on-clause-short g c = short_is c.from_residual-in_err-hand_on.result c.in_err-hand_on.field-0.0 _ (search rules) (never_short _ _ c.in_err-hand_on.ensures.unwritten)
