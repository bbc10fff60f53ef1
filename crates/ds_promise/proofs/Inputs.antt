-- Two starts of Random make one first state.
use Rattle.std.proofs.Common.{◌≡◌, ℕ, ◌+◌, ◌-◌, List, [], length, Result, Ok, sym, ap, ◌∙◌, subst, arith}
use Rattle.std.specs.Prelude.{slice_index_or}
use Rattle.ds_policy.specs.Value.{PolicyValue, InputValue}
use Rattle.ds_policy.specs.PolicyParts.{sources_of}
use Rattle.ds_policy.specs.InputText.{input_of}
use Rattle.ds_pagemap.specs.Machine.{State, no_process}
use Rattle.ds_pagemap.specs.First.{first_state}
use Rattle.ds_pagemap.specs.Inputs.{Sources, images_from, inputs}
use Rattle.ds_pagemap.specs.Run.{Ends}
use Rattle.ds_pagemap.specs.Text.{state_text}
use Rattle.ds_pagemap_laws.specs.Lawful.{IsLawful}
use Rattle.ds_pagemap_laws.proofs.FirstStates.{made, inputs_lawful}
use Rattle.ds_promise.specs.Twins.{HaveRegisters}
use Rattle.ds_promise.specs.Quiet.{IsQuiet}
use Rattle.ds_promise.proofs.Runs.{one_text}

-- a lawful state's processes have 32 registers
pub have_registers : (m : State) → IsLawful m → HaveRegisters m
have_registers m k = record { whole = λ i. subst (λ (j : ℕ). length (slice_index_or m.processes j no_process).registers.general ≡ 32) (same i) (k.formed.processes (i + 1)).registers.size }
  where
    same : (i : ℕ) → i + 1 - 1 ≡ i
    same i = omega arith

pub first_registers : (text : List ℕ) (sources : Sources) (input : List ℕ) (n r : ℕ) (m : State) → inputs text sources input n r ≡ Ok m → HaveRegisters m
first_registers text sources input n r m h = have_registers m (inputs_lawful text sources input n r m h)

one_value : {A E : Type 0} (x y : A) → ◌≡◌ {A = Result A E} (Ok x) (Ok y) → x ≡ y
one_value x y e = cc

-- where Random starts makes no difference to the first state
pub one_first : (text : List ℕ) (sources : Sources) (input : List ℕ) (n r s : ℕ) (m t : State) → inputs text sources input n r ≡ Ok m → inputs text sources input n s ≡ Ok t → m ≡ t
unfolding inputs
one_first text sources input n r s m t h g =
    let a = made first_state text sources input n r m h in
    let b = made first_state text sources input n s t g in
    let policies : a.policy ≡ b.policy = one_value _ _ (sym a.policy_is ∙ b.policy_is) in
    let images : a.images ≡ b.images = one_value _ _ (sym a.images_are ∙ (ap (λ (p : PolicyValue). images_from sources [] (sources_of p.pages)) policies ∙ b.images_are)) in
    let events : a.events ≡ b.events = one_value _ _ (sym a.events_are ∙ (ap (λ (p : PolicyValue). input_of p.pages input) policies ∙ b.events_are)) in
    sym a.is
    ∙ (ap (λ (p : PolicyValue). first_state p a.images a.events) policies
    ∙ (ap (λ (is : List (List ℕ)). first_state b.policy is a.events) images
    ∙ (ap (λ (e : InputValue). first_state b.policy b.images e) events ∙ b.is)))

pub one_text_of_inputs : (text : List ℕ) (sources : Sources) (input : List ℕ) (n r s : ℕ) (m o t u : State) → inputs text sources input n r ≡ Ok m → inputs text sources input n s ≡ Ok o → IsQuiet n m → Ends n m t → Ends n o u → state_text t ≡ state_text u
one_text_of_inputs text sources input n r s m o t u h g q e f =
    one_text n m t u (first_registers text sources input n r m h) q e (subst (λ (x : State). Ends n x u) (sym (one_first text sources input n r s m o h g)) f)
