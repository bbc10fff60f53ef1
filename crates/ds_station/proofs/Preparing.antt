-- Which refusal of the inputs each stage of reading them finds.
use Rattle.std.proofs.Common.{◌≡◌, ℕ, ◌<◌, ◌≤◌, true, false, List, [], refl, ap, ◌∙◌, arith, inl, inr, ◌⊎◌, Result, Ok, Err}
use Rattle.std.proofs.lemmas.Bool.{cases_lt}
use Rattle.std.proofs.lemmas.Bool.Decides.{nat_tests}
use Rattle.std.specs.Prelude.{IsErrOf, nat_le, nat_lt, ◌&&◌, codes}
use Rattle.ds_word.specs.ResultBinding.{◌>>=◌}
use Rattle.ds_policy.specs.Value.{PolicyValue, InputValue}
use Rattle.ds_policy.specs.Refusal.{PolicyRefusal, bad_toml, limit, bad_rule}
use Rattle.ds_policy.specs.Inner.Refusal as policies
use Rattle.ds_policy.specs.Inner.InputText as events
use Rattle.ds_policy.specs.InputText.{input_of}
use Rattle.ds_policy.specs.PolicyText.{policy_of}
use Rattle.ds_policy.specs.PolicyParts.{sources_of}
use Rattle.ds_policy.specs.declared.fault.PolicyFault.{PolicyFault}
use Rattle.ds_policy.specs.declared.fault.PolicyFault.TheVariants as policy_fault
use Rattle.ds_policy.specs.declared.events.fault.EventsFault.{EventsFault}
use Rattle.ds_policy.specs.declared.events.fault.EventsFault.TheVariants as events_fault
use Rattle.ds_pagemap.specs.First.{first_state}
use Rattle.ds_pagemap.specs.Inputs.{Refusal, Sources, policy_read, input_read, check, images_from, inputs_under_by, inputs_by, inputs_under, inputs}
use Rattle.ds_pagemap.specs.Inputs as refusal
use Rattle.ds_station.specs.Inner.Faults.{of_policy, of_events, IsStartFault}
use Rattle.ds_station.specs.Headline.{Refuses, Begins, Loaded, loaded_with}
use Rattle.ds_station.specs.declared.fault.Fault.{Fault}
use Rattle.ds_station.specs.declared.fault.Fault.TheVariants as fault
use Rattle.ds_station.proofs.NamedTexts.{refuses_then}

policy_refused : (e : PolicyFault) (read : Result PolicyValue PolicyRefusal) → policies.Fails e read → Refuses (of_policy e) (policy_read read)
policy_refused policy_fault.Memory read r = tt
policy_refused policy_fault.BadToml read r = ap policy_read r
policy_refused (policy_fault.Limit key) read r = ap policy_read r
policy_refused (policy_fault.BadRule number) read r = ap policy_read r

-- the policy refuses them
pub refused_by_policy : (e : PolicyFault) (text : List ℕ) (s : Sources) (input : List ℕ) (n random : ℕ) → policies.Fails e (policy_of text) → Refuses (of_policy e) (inputs text s input n random)
unfolding inputs
refused_by_policy e text s input n random r = refuses_then (of_policy e) (policy_read (policy_of text)) (λ policy. inputs_under policy s input n random) (policy_refused e (policy_of text) r)

-- the policy is read
pub under_policy : (policy : PolicyValue) (text : List ℕ) (s : Sources) (input : List ℕ) (n random : ℕ) → policy_of text ≡ Ok policy → inputs text s input n random ≡ inputs_under policy s input n random
unfolding inputs
under_policy policy text s input n random is = ap (λ r. policy_read r >>= (λ p. inputs_under p s input n random)) is

-- Random may start there or not
start_cases : (random : ℕ) → ((random < 8) ⊎ (64 ≤ random)) ⊎ ((nat_le 8 random && nat_lt random 64) ≡ true)
start_cases random = elim (cases_lt random 8) [
  | inl low ↦ inl (inl low)
  | inr high ↦ elim (cases_lt random 64) [
    | inl below ↦ inr (grind (arith, nat_tests))
    | inr above ↦ inl (inr above)
  ]
]

-- what was made was not refused
pub ok_is_no_err : {T E : Type 0} (x : T) (e : E) → IsErrOf (Ok x) e → ⊥
ok_is_no_err x e is = cc

-- What is made of the inputs once they are read.
module _ {A : Type 0} (make : PolicyValue → List (List ℕ) → InputValue → A) where
  -- what is left after the count of ticks
  abbrev pub with_ticks : PolicyValue → List (List ℕ) → InputValue → ℕ → Result A Refusal
  with_ticks policy images e random = check (nat_le 8 random && nat_lt random 64) refusal.BadRandom >>= (λ good. Ok (make policy images e))

  -- what is left after the input
  abbrev pub with_input : PolicyValue → List (List ℕ) → InputValue → ℕ → ℕ → Result A Refusal
  with_input policy images e n random = check (nat_le n 1000000000) (refusal.Limit (codes "n")) >>= (λ few. with_ticks policy images e random)

  -- what is left after the images
  abbrev pub with_images : PolicyValue → List (List ℕ) → List ℕ → ℕ → ℕ → Result A Refusal
  with_images policy images input n random = input_read (input_of policy.pages input) >>= (λ e. with_input policy images e n random)

  -- the policy is read
  pub under_policy_by : (policy : PolicyValue) (text : List ℕ) (s : Sources) (input : List ℕ) (n random : ℕ) → policy_of text ≡ Ok policy → inputs_by make text s input n random ≡ inputs_under_by make policy s input n random
  unfolding inputs_by
  under_policy_by policy text s input n random is = ap (λ r. policy_read r >>= (λ p. inputs_under_by make p s input n random)) is

  -- the images are read
  pub under_images : (policy : PolicyValue) (images : List (List ℕ)) (s : Sources) (input : List ℕ) (n random : ℕ) → images_from s [] (sources_of policy.pages) ≡ Ok images → inputs_under_by make policy s input n random ≡ with_images policy images input n random
  unfolding inputs_under_by
  under_images policy images s input n random is = ap (λ r. r >>= (λ i. with_images policy i input n random)) is

  -- the input is read
  pub under_input : (policy : PolicyValue) (images : List (List ℕ)) (e : InputValue) (input : List ℕ) (n random : ℕ) → input_of policy.pages input ≡ Ok e → with_images policy images input n random ≡ with_input policy images e n random
  under_input policy images e input n random is = ap (λ r. input_read r >>= (λ x. with_input policy images x n random)) is

  -- too many ticks
  pub refused_by_ticks : (policy : PolicyValue) (images : List (List ℕ)) (e : InputValue) (n random : ℕ) → 1000000000 < n → with_input policy images e n random ≡ Err (refusal.Limit (codes "n"))
  refused_by_ticks policy images e n random many =
      let b : nat_le n 1000000000 ≡ false = grind (arith, nat_tests) in
      ap (λ x. check x (refusal.Limit (codes "n")) >>= (λ few. with_ticks policy images e random)) b

  -- few enough
  pub under_ticks : (policy : PolicyValue) (images : List (List ℕ)) (e : InputValue) (n random : ℕ) → n ≤ 1000000000 → with_input policy images e n random ≡ with_ticks policy images e random
  under_ticks policy images e n random few =
      let b : nat_le n 1000000000 ≡ true = grind (arith, nat_tests) in
      ap (λ x. check x (refusal.Limit (codes "n")) >>= (λ few. with_ticks policy images e random)) b

  -- all is read but the start of Random
  pub under_all : (policy : PolicyValue) (images : List (List ℕ)) (e : InputValue) (s : Sources) (input : List ℕ) (n random : ℕ) → images_from s [] (sources_of policy.pages) ≡ Ok images → input_of policy.pages input ≡ Ok e → n ≤ 1000000000 → inputs_under_by make policy s input n random ≡ with_ticks policy images e random
  under_all policy images e s input n random i j few =
      under_images policy images s input n random i ∙ (under_input policy images e input n random j ∙ under_ticks policy images e n random few)

  bad_start : (policy : PolicyValue) (images : List (List ℕ)) (e : InputValue) (random : ℕ) → (random < 8) ⊎ (64 ≤ random) → with_ticks policy images e random ≡ Err refusal.BadRandom
  bad_start policy images e random bad =
      let b : (nat_le 8 random && nat_lt random 64) ≡ false = elim bad [ inl low ↦ grind (arith, nat_tests) | inr high ↦ grind (arith, nat_tests) ] in
      ap (λ x. check x refusal.BadRandom >>= (λ good. Ok (make policy images e))) b

  -- what was made is of these inputs
  pub prepared : (P : A → Type 0) (read : Result A Refusal) (policy : PolicyValue) (images : List (List ℕ)) (e : InputValue) (random : ℕ) → read ≡ with_ticks policy images e random → P (make policy images e) → (((random < 8) ⊎ (64 ≤ random)) → ⊥) → Begins read P
  prepared P read policy images e random is holds bad = elim (start_cases random) [
    | inl b ↦ absurd (bad b)
    | inr good ↦ (make policy images e, is ∙ ap (λ x. check x refusal.BadRandom >>= (λ good. Ok (make policy images e))) good, holds)
  ]

  pub unprepared_by : (f : Fault) (read : Result A Refusal) (policy : PolicyValue) (images : List (List ℕ)) (e : InputValue) (random : ℕ) → read ≡ with_ticks policy images e random → IsStartFault random f → Refuses f read
  unprepared_by fault.BadRandom read policy images e random is bad = is ∙ bad_start policy images e random bad
  unprepared_by fault.Memory read policy images e random is bad = tt
  unprepared_by f read policy images e random is bad = absurd bad

-- Which of them refuses a run.

-- what is made of them for a run is its first state
pub of_first_state : (policy : PolicyValue) (s : Sources) (input : List ℕ) (n random : ℕ) → inputs_under policy s input n random ≡ inputs_under_by first_state policy s input n random
unfolding inputs_under
of_first_state policy s input n random = refl

-- and it is made of what is loaded for it
chain_alike : {X A B : Type 0} (r : Result X Refusal) (g : X → Result A Refusal) (h : X → Result B Refusal) (a : A) (b : B) → ((x : X) → g x ≡ Ok a → h x ≡ Ok b) → (r >>= g) ≡ Ok a → (r >>= h) ≡ Ok b
chain_alike (Ok x) g h a b alike is = alike x is
chain_alike (Err refusal) g h a b alike is = absurd (cc)

pub both_made : (policy : PolicyValue) (s : Sources) (input : List ℕ) (n random : ℕ) (l : Loaded) → inputs_under_by loaded_with policy s input n random ≡ Ok l → inputs_under policy s input n random ≡ Ok (first_state l.policy l.images l.input)
unfolding inputs_under inputs_under_by
both_made policy s input n random l is =
    chain_alike (images_from s [] (sources_of policy.pages)) _ _ l _ (λ images.
    chain_alike (input_read (input_of policy.pages input)) _ _ l _ (λ events.
    chain_alike (check (nat_le n 1000000000) (refusal.Limit (codes "n"))) _ _ l _ (λ few.
    chain_alike (check (nat_le 8 random && nat_lt random 64) refusal.BadRandom) _ _ l _ (λ good made. let it : loaded_with policy images events ≡ l = cc in ap (λ (x : Loaded). Ok (first_state x.policy x.images x.input)) it)))) is

pub refused_by_image : (f : Fault) (policy : PolicyValue) (s : Sources) (input : List ℕ) (n random : ℕ) → Refuses f (images_from s [] (sources_of policy.pages)) → Refuses f (inputs_under policy s input n random)
unfolding inputs_under
refused_by_image f policy s input n random r = refuses_then f (images_from s [] (sources_of policy.pages)) (λ images. with_images first_state policy images input n random) r

input_refused : (e : EventsFault) (read : Result InputValue ℕ) → events.Gives (Err e) read → Refuses (of_events e) (input_read read)
input_refused events_fault.Memory read r = tt
input_refused (events_fault.InputFault line) read r = ap input_read r

pub refused_by_input : (e : EventsFault) (policy : PolicyValue) (images : List (List ℕ)) (input : List ℕ) (n random : ℕ) → events.Gives (Err e) (input_of policy.pages input) → Refuses (of_events e) (with_images first_state policy images input n random)
refused_by_input e policy images input n random r = refuses_then (of_events e) (input_read (input_of policy.pages input)) _ (input_refused e (input_of policy.pages input) r)
