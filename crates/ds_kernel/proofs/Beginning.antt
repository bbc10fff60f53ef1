-- The beginning of a run leaves the station as it should be.
use Rattle.std.proofs.Common.{◌≡◌, ℕ, ◌≤◌, List, length, true, false, None, refl, sym, ap, subst, ◌∙◌, arith}
use Rattle.ds_cp0.specs.System.{is_user}
use Rattle.ds_core.specs.Core.{CoreState}
use Rattle.ds_policy.specs.Value.{PolicyValue, InputValue}
use Rattle.ds_pagemap.specs.First.{first_state}
use Rattle.ds_refinement.specs.Held.{Kept, Own}
use Rattle.ds_refinement.specs.Stands.{Stands}
use Rattle.ds_refinement.specs.First.{IsFirst}
use Rattle.ds_refinement.specs.Counts.{HasNone}
use Rattle.ds_monitor.specs.Inner.Kept.{kept_of}
use Rattle.ds_monitor.specs.Inner.Orderly as monitor
use Rattle.ds_kernel.specs.declared.parts.Parts.{Parts}
use Rattle.ds_kernel.specs.Inner.Parts.{held, own_of}
use Rattle.ds_kernel.proofs.Doing.{fresh_of_none}
use Rattle.ds_monitor.specs.Inner.Coming.{next_due}
use Rattle.ds_kernel.specs.Inner.Good.{IsRate, IsGood}
use Rattle.ds_kernel.proofs.Stepping.{none_is_not_some}

pub first_good : {L : Type 0} (p : Parts L) (policy : PolicyValue) (images : List (List ℕ)) (input : InputValue) (start : ℕ) → IsFirst policy images input start (held p)
    → Stands (held p) (first_state policy images input) → monitor.IsOrderly (kept_of p.monitor) → IsRate policy.rate → p.monitor.quiet_until ≡ next_due (kept_of p.monitor) → length p.monitor.due.commands ≤ 4096 → IsGood p
first_good p policy images input start first stands orderly is_rate next few =
    let spent : p.spent ≡ 0 = ap (λ (o : Own). o.spent) first.own in
    let unowed : p.monitor.owed ≡ None = ap (λ (k : Kept). k.state.owed) first.kept in
    let lines : p.monitor.lines ≡ 0 = ap (λ (k : Kept). k.lines) first.kept in
    let ticked : p.monitor.ticked ≡ 0 = ap (λ (k : Kept). k.ticked) first.kept in
    let time : p.monitor.time ≡ 0 = ap (λ (k : Kept). k.state.time) first.kept in
    let rate : p.monitor.rate ≡ policy.rate = ap (λ (k : Kept). k.state.rate) first.kept in
    let user : is_user p.core.system ≡ true = ap (λ (c : CoreState). is_user c.system) first.core in
    record {
      sound = record { state = first_state policy images input; stands = stands };
      orderly = record {
        begun = λ some. unowed;
        failed = λ failed. unowed;
        raised = λ kernel. (let no : true ≡ false = sym user ∙ kernel in absurd (cc));
        running = λ some. absurd (omega (arith, spent, some));
        spent = omega (arith, spent);
        fresh = λ few. fresh_of_none (own_of p) (subst HasNone (sym first.own) refl);
        lines = omega (arith, lines, few);
        ticked = omega (arith, ticked);
        kept = orderly;
        early = omega (arith, time);
        rate = subst IsRate (sym rate) is_rate;
      };
      room = λ some. absurd (omega (arith, spent, some));
      owed = λ some. absurd (none_is_not_some p.monitor.owed unowed some);
      next = next;
    }
