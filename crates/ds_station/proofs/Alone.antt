-- What is written, and shown, of a process that is alone.
use Rattle.std.proofs.Common.{◌≡◌, ℕ, Bool, true, List, Option, Result, Ok, Err, subst}
use Rattle.std.specs.Prelude.{OnOk}
use Rattle.ds_policy.specs.PolicyFacts.{IsGoodPolicy}
use Rattle.ds_policy.specs.Value.{PolicyValue}
use Rattle.ds_pagemap.specs.Inputs.{Sources, inputs, inputs_under}
use Rattle.ds_pagemap.specs.Machine.{State}
use Rattle.ds_promise.proofs.Inputs.{one_first}
use Rattle.ds_refinement.specs.Held.{Held}
use Rattle.ds_alone.specs.Deeds.{AsksNothing}
use Rattle.ds_alone.specs.Tests.{is_alone, nobody_may_give}
use Rattle.ds_alone.specs.Touched.{IsQuietAlone}
use Rattle.ds_alone.proofs.Inputs.{shown_more, shown_alone, shown_under}
use Rattle.ds_kernel.specs.declared.halt.Halt.{Halt}
use Rattle.ds_kernel.specs.Inner.Ran.{HasRun, WasCut}
use Rattle.ds_station.specs.Alone.{WritesAlone, WritesEachAlone}
use Rattle.ds_station.specs.Inner.Alone.{RunsAlone}
use Rattle.ds_station.specs.Headline.{Begins, Writes}
use Rattle.ds_station.specs.Inner.Written.{RunsGuarded}
use Rattle.ds_station.proofs.Guarded.{run_guarded, cut_guarded}
use Rattle.ds_station.proofs.Quiet.{one_first_under}

-- what is written of a run shows of a process that is alone what it does alone
files_alone : (listens : Bool) (text : List ℕ) (sources : Sources) (input : List ℕ) (n r s p : ℕ) (old new : Option (List ℕ)) (first : State)
    → Begins (inputs text sources input n r) (Writes old new n) → inputs text sources input n s ≡ Ok first
    → is_alone listens p first ≡ true → nobody_may_give first ≡ true → AsksNothing listens p first → IsQuietAlone p first → WritesAlone old new p first
files_alone listens text sources input n r s p old new first b is here stingy asks quiet =
    let w : Writes old new n first = subst (Writes old new n) (one_first text sources input n r s b.0 first b.1 is) b.2 in
    record { last = w.last; shows = shown_alone listens p n s text sources input first w.last is here asks quiet stingy w.ends.reached; written = w.written }

pub files_alone_if : {T E : Type 0} (result : Result T E) (listens : Bool) (text : List ℕ) (sources : Sources) (input : List ℕ) (n r s p : ℕ) (old new : Option (List ℕ)) (first : State)
    → OnOk result (Begins (inputs text sources input n r) (Writes old new n)) → inputs text sources input n s ≡ Ok first
    → is_alone listens p first ≡ true → nobody_may_give first ≡ true → AsksNothing listens p first → IsQuietAlone p first → OnOk result (WritesAlone old new p first)
files_alone_if (Ok x) listens text sources input n r s p old new first b is here stingy asks quiet = files_alone listens text sources input n r s p old new first b is here stingy asks quiet
files_alone_if (Err e) listens text sources input n r s p old new first b is here stingy asks quiet = tt

-- so it is of each process
pub each_alone_if : {T E : Type 0} (result : Result T E) (text : List ℕ) (sources : Sources) (input : List ℕ) (n r : ℕ) (old new : Option (List ℕ))
    → OnOk result (Begins (inputs text sources input n r) (Writes old new n)) → OnOk result (WritesEachAlone old new (inputs text sources input n r))
each_alone_if (Ok x) text sources input n r old new b = λ listens p first is here stingy asks quiet. files_alone listens text sources input n r r p old new first b is here stingy asks quiet
each_alone_if (Err e) text sources input n r old new b = tt

-- under a policy that was read before
policy_alone : (listens : Bool) (policy : PolicyValue) (sources : Sources) (input : List ℕ) (n r s p : ℕ) (old new : Option (List ℕ)) (first : State) → IsGoodPolicy policy
    → Begins (inputs_under policy sources input n r) (Writes old new n) → inputs_under policy sources input n s ≡ Ok first
    → is_alone listens p first ≡ true → nobody_may_give first ≡ true → AsksNothing listens p first → IsQuietAlone p first → WritesAlone old new p first
policy_alone listens policy sources input n r s p old new first good b is here stingy asks quiet =
    let w : Writes old new n first = subst (Writes old new n) (one_first_under policy sources input n r s b.0 first b.1 is) b.2 in
    record { last = w.last; shows = shown_under listens p n s policy sources input first w.last good is here asks quiet stingy w.ends.reached; written = w.written }

pub policy_alone_if : {T E : Type 0} (result : Result T E) (listens : Bool) (policy : PolicyValue) (sources : Sources) (input : List ℕ) (n r s p : ℕ) (old new : Option (List ℕ)) (first : State) → IsGoodPolicy policy
    → OnOk result (Begins (inputs_under policy sources input n r) (Writes old new n)) → inputs_under policy sources input n s ≡ Ok first
    → is_alone listens p first ≡ true → nobody_may_give first ≡ true → AsksNothing listens p first → IsQuietAlone p first → OnOk result (WritesAlone old new p first)
policy_alone_if (Ok x) listens policy sources input n r s p old new first good b is here stingy asks quiet = policy_alone listens policy sources input n r s p old new first good b is here stingy asks quiet
policy_alone_if (Err e) listens policy sources input n r s p old new first good b is here stingy asks quiet = tt

-- Stations.

within_alone : (n : ℕ) (old new : Held) → RunsGuarded n old new → RunsAlone n old new
within_alone n old new r = record {
  runs = λ listens p m k stands stingy asks quiet. let u = r.runs m k in record { state = u.0; reached = u.1.reached; stands = u.2; shows = shown_more listens p n m u.0 stands asks quiet stingy u.1.reached };
}

-- a run that came to its end
pub run_alone : (n : ℕ) (old new : Held) → HasRun n old new → RunsAlone n old new
run_alone n old new r = within_alone n old new (run_guarded n old new r)

-- a run that was cut short
pub cut_alone : (n : ℕ) (h : Halt) (old new : Held) → WasCut n h old new → RunsAlone n old new
cut_alone n h old new w = within_alone n old new (cut_guarded n h old new w)
