-- What good inputs make, and that the first state of a run is lawful.
use Rattle.std.proofs.Common.{◌≡◌, ℕ, zero, suc, ◌+◌, ◌-◌, ◌<◌, ◌≤◌, false, nat_le, nat_lt, ◌&&◌, List, [], ◌∷◌, length, length-set, map, Result, Ok, Err, refl, sym, ap, ◌∙◌, subst, arith, get_or, codes}
use Rattle.std.specs.List.{All}
use Rattle.std.proofs.lemmas.List.{length-map, length-replicate}
use Rattle.std.proofs.lemmas.List.Elements.{All-nil, All-cons, All-head, All-tail}
use Rattle.ds_word.proofs.ResultBinding.{bind_ok}
use Rattle.ds_word.specs.ResultBinding.{◌>>=◌}
use Rattle.ds_procs.specs.declared.process.Standing.TheVariants.{Ready}
use Rattle.ds_policy.specs.declared.policy.PolicyProcess.{PolicyProcess}
use Rattle.ds_policy.specs.declared.policy.PolicyRule.{PolicyRule}
use Rattle.ds_policy.specs.Value.{PolicyValue, InputValue}
use Rattle.ds_policy.specs.Refusal.{PolicyRefusal, bad_toml, limit, bad_rule}
use Rattle.ds_policy.specs.Pages.{Table, entries_of, put}
use Rattle.ds_policy.specs.FirstTable.{with_rule, with_rules, granted_by}
use Rattle.ds_policy.specs.PolicyFacts.{IsGoodProcess}
use Rattle.ds_policy.specs.PolicyParts.{sources_of}
use Rattle.ds_policy.specs.PolicyText.{policy_of}
use Rattle.ds_policy.specs.InputText.{input_of}
use Rattle.ds_policy.proofs.PolicyRead.{policy_good}
use Rattle.ds_policy.proofs.GoodInput.{input_good}
use Rattle.ds_pagemap.specs.Machine.{State, no_process}
use Rattle.ds_pagemap.specs.First.{first_process, first_state, numbers}
use Rattle.ds_pagemap.specs.Inputs.{Refusal, Sources, Limit, BadRandom, check, policy_read, input_read, images_from, inputs, inputs_by, inputs_under_by}
use Rattle.ds_pagemap_laws.specs.Further.{further}
use Rattle.ds_pagemap_laws.specs.Due.{IsInOrder}
use Rattle.ds_pagemap_laws.specs.Lawful.{IsProcess, IsReady, IsLawful}
use Rattle.ds_pagemap_laws.proofs.Asleep.{has_woken}

-- Processes.

first_good : (ps : List PolicyProcess) (i : ℕ) → All IsGoodProcess ps → IsProcess (get_or (map first_process ps) i no_process)
first_good [] i good = record { registers = record { size = refl; nought = refl; late = tt }; line = omega arith }
first_good (p ∷ ps) zero good = let line = (All-head IsGoodProcess p ps good).line in record { registers = record { size = refl; nought = refl; late = tt }; line = omega (arith, line) }
first_good (p ∷ ps) (suc i) good = first_good ps i (All-tail IsGoodProcess p ps good)

first_ready : (ps : List PolicyProcess) (i : ℕ) → i < length ps → (get_or (map first_process ps) i no_process).standing ≡ Ready
first_ready [] i h = absurd (omega (arith, h))
first_ready (p ∷ ps) zero h = refl
first_ready (p ∷ ps) (suc i) h = first_ready ps i (omega (arith, h))

first_asleep : (ps : List PolicyProcess) (qs : List (List ℕ)) (i : ℕ) → has_woken qs (get_or (map first_process ps) i no_process) ≡ false
first_asleep [] qs i = refl
first_asleep (p ∷ ps) qs zero = refl
first_asleep (p ∷ ps) qs (suc i) = first_asleep ps qs i

rules_long : (t : Table) (n : ℕ) (rules : List PolicyRule) → length (with_rules t n rules) ≡ length t
rules_long t n [] = refl
rules_long t n (r ∷ rest) = rules_long (with_rule t n r) (n + 1) rest ∙ length-set t (r.process - 1) (put (entries_of t r.process) r.address (granted_by n r))

all_ready : (policy : PolicyValue) (images : List (List ℕ)) (input : InputValue) (n k : ℕ) → 0 < k → k + n ≤ length policy.processes + 1 → All (IsReady (first_state policy images input)) (numbers n k)
all_ready policy images input zero k above within = All-nil (IsReady (first_state policy images input))
all_ready policy images input (suc n) k above within =
    let long : length (map first_process policy.processes) ≡ length policy.processes = length-map policy.processes first_process in
    All-cons (IsReady (first_state policy images input)) k (numbers n (k + 1))
    (above, omega (arith, long, within), first_ready policy.processes (k - 1) (omega (arith, above, within)))
    (all_ready policy images input n (k + 1) (omega arith) (omega (arith, within)))

pub first_lawful : (policy : PolicyValue) (images : List (List ℕ)) (input : InputValue) → length policy.processes ≤ 100 → All IsGoodProcess policy.processes → IsLawful (first_state policy images input)
first_lawful policy images input few good =
    let long : length (map first_process policy.processes) ≡ length policy.processes = length-map policy.processes first_process in
    record {
      formed = record {
        ready = all_ready policy images input (length policy.processes) 1 (omega arith) (omega arith);
        processes = λ p. first_good policy.processes (p - 1) good;
        sizes = record {
          processes = omega (arith, long, few);
          queues = refl;
          consoles = refl;
          table = rules_long _ 1 policy.rules ∙ (length-replicate (length policy.processes) [] ∙ sym long);
        };
      };
      asleep = λ p. first_asleep policy.processes (first_state policy images input).queues (p - 1);
    }

-- Inputs.

policy_said : (r : Result PolicyValue PolicyRefusal) (p : PolicyValue) → policy_read r ≡ Ok p → r ≡ Ok p
policy_said (Ok q) p h = let same : q ≡ p = cc in ap Ok same
policy_said (Err bad_toml) p h = cc
policy_said (Err (limit name)) p h = cc
policy_said (Err (bad_rule number)) p h = cc

input_said : (r : Result InputValue ℕ) (e : InputValue) → input_read r ≡ Ok e → r ≡ Ok e
input_said (Ok i) e h = let same : i ≡ e = cc in ap Ok same
input_said (Err line) e h = cc

-- what was made was made of a policy, images and an input that were read
pub record IsMade {A : Type 0} (make : PolicyValue → List (List ℕ) → InputValue → A) (text : List ℕ) (sources : Sources) (input : List ℕ) (x : A) : Type 0 where
  pub policy : PolicyValue
  pub images : List (List ℕ)
  pub events : InputValue
  pub policy_is : policy_of text ≡ Ok policy
  pub images_are : images_from sources [] (sources_of policy.pages) ≡ Ok images
  pub events_are : input_of policy.pages input ≡ Ok events
  pub is : make policy images events ≡ x

pub made : {A : Type 0} (make : PolicyValue → List (List ℕ) → InputValue → A) (text : List ℕ) (sources : Sources) (input : List ℕ) (n random : ℕ) (x : A) → inputs_by make text sources input n random ≡ Ok x → IsMade make text sources input x
unfolding inputs_by inputs_under_by
made make text sources input n random x h =
    let (policy, h1, a) = bind_ok (policy_read (policy_of text)) _ x h in
    let (images, h2, b) = bind_ok (images_from sources [] (sources_of policy.pages)) _ x a in
    let (events, h3, c) = bind_ok (input_read (input_of policy.pages input)) _ x b in
    let (few, h4, d) = bind_ok (check (nat_le n 1000000000) (Limit (codes "n"))) _ x c in
    let (good, h5, e) = bind_ok (check (nat_le 8 random && nat_lt random 64) BadRandom) _ x d in
    record { policy = policy; images = images; events = events; policy_is = policy_said (policy_of text) policy h1; images_are = h2; events_are = input_said (input_of policy.pages input) events h3; is = (let same : make policy images events ≡ x = cc in same) }

-- Of two things made of the same inputs.

bind_alike : {X A B : Type 0} (r : Result X Refusal) (g : X → Result A Refusal) (h : X → Result B Refusal) (f : A → B) → ((x : X) → h x ≡ further f (g x)) → (r >>= h) ≡ further f (r >>= g)
bind_alike (Ok x) g h f e = e x
bind_alike (Err refusal) g h f e = refl

-- what is made further of it may be made at the end of the chain, or after it
pub made_alike : (A B : Type 0) (f : A → B) (make : PolicyValue → List (List ℕ) → InputValue → A) (text : List ℕ) (sources : Sources) (input : List ℕ) (n random : ℕ)
    → inputs_by (λ policy images events. f (make policy images events)) text sources input n random ≡ further f (inputs_by make text sources input n random)
unfolding inputs_by inputs_under_by
made_alike A B f make text sources input n random =
    bind_alike (policy_read (policy_of text)) _ _ f (λ policy.
    bind_alike (images_from sources [] (sources_of policy.pages)) _ _ f (λ images.
    bind_alike (input_read (input_of policy.pages input)) _ _ f (λ events.
    bind_alike (check (nat_le n 1000000000) (Limit (codes "n"))) _ _ f (λ few.
    bind_alike (check (nat_le 8 random && nat_lt random 64) BadRandom) _ _ f (λ good. refl)))))

pub inputs_made : (text : List ℕ) (sources : Sources) (input : List ℕ) (n random : ℕ) → inputs text sources input n random ≡ inputs_by first_state text sources input n random
unfolding inputs
inputs_made text sources input n random = refl

pub made_further : (f : State → State) (text : List ℕ) (sources : Sources) (input : List ℕ) (n random : ℕ)
    → inputs_by (λ policy images events. f (first_state policy images events)) text sources input n random ≡ further f (inputs text sources input n random)
unfolding inputs
made_further f text sources input n random = made_alike State State f first_state text sources input n random

pub inputs_lawful : (text : List ℕ) (sources : Sources) (input : List ℕ) (n random : ℕ) (m : State) → inputs text sources input n random ≡ Ok m → IsLawful m
unfolding inputs
inputs_lawful text sources input n random m h =
    let it = made first_state text sources input n random m h in
    let good = policy_good text it.policy it.policy_is in
    subst IsLawful it.is (first_lawful it.policy it.images it.events good.process_count.1 good.processes)

pub inputs_ordered : (text : List ℕ) (sources : Sources) (input : List ℕ) (n random : ℕ) (m : State) → inputs text sources input n random ≡ Ok m → IsInOrder m
unfolding inputs
inputs_ordered text sources input n random m h =
    let it = made first_state text sources input n random m h in
    let good = (input_good it.policy.pages input it.events it.events_are).0 in
    subst IsInOrder it.is (record { commands = good.order; characters = good.character_order })
