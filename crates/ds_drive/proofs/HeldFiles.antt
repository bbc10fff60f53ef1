-- What was read of the files is what they hold.
use Rattle.std.proofs.Common.{◌≡◌, ◌∙◌, ◌⊎◌, inl, inr, ℕ, Bool, List, [], ◌∷◌, map, refl, sym, ap, subst}
use Rattle.std.specs.Prelude.{Result, Ok, Err, All}
use Rattle.std.proofs.lemmas.List.Elements.{All-map, All-weaker}
use Rattle.ds_policy.specs.PolicyText.{policy_of}
use Rattle.ds_policy.specs.PolicyParts.{sources_of}
use Rattle.ds_policy.specs.Value.{PolicyValue}
use Rattle.ds_policy.specs.Refusal.{PolicyRefusal}
use Rattle.ds_pagemap.specs.Machine.{State}
use Rattle.ds_pagemap.specs.Inputs.{Refusal, Sources, inputs, inputs_under}
use Rattle.ds_station.proofs.Preparing.{under_policy, under_policy_by}
use Rattle.ds_station.proofs.Alone.{each_alone_if}
use Rattle.ds_station.proofs.Guarded.{files_guarded_if}
use Rattle.std.specs.Prelude.{Option, Some, None}
use Rattle.std.specs.Borrow.{Bor}
use Rattle.ds_station.specs.Headline.{Begins, Loaded, Writes, loaded_with}
use Rattle.ds_drive.specs.Checked.{IsInput}
use Rattle.ds_words.specs.declared.words.Request.{Request}
use Rattle.ds_words.specs.declared.words.RunRequest.{RunRequest}
use Rattle.ds_drive.specs.declared.outcome.Outcome.{Outcome}
use Rattle.ds_drive.specs.declared.run.SourceText.{SourceText}
use Rattle.ds_drive.specs.Inside.{outside_of}
use Rattle.ds_drive.specs.Failures.{AreHeld, HoldsInputs, OfHeld}
use Rattle.ds_drive.specs.Ran.{EndsThen, HasLeftFiles, HasRunFiles, IsLeft, OfHeldBoth, Writing, first_by, writing}
use Rattle.ds_drive.specs.Inner.Ran.{IsEnded, begun_by}

names_of : (texts : List SourceText) → map (λ (s : List ℕ × List ℕ). s.0) (map (λ s. (s.name, s.text.items)) texts) ≡ map (λ s. s.name) texts
names_of [] = refl
names_of (s ∷ more) = ap (λ (names : List (List ℕ)). s.name ∷ names) (names_of more)

abbrev value_or : PolicyValue → Result PolicyValue PolicyRefusal → PolicyValue
value_or other (Ok value) = value
value_or other (Err e) = other

-- a text has one value
pub same_value : (read : Result PolicyValue PolicyRefusal) (a b : PolicyValue) → read ≡ Ok a → read ≡ Ok b → a ≡ b
same_value read a b x y = ap (value_or a) (sym x ∙ y)

-- the sources as they were read
pub all_held : (holds later : List ℕ → List ℕ → Type 0) (texts : List SourceText) (sources : Sources)
    → ((file bytes : List ℕ) → later file bytes → holds file bytes)
    → All (λ s. later s.name s.text.items) texts
    → sources ≡ map (λ s. (s.name, s.text.items)) texts
    → All (λ s. holds s.0 s.1) sources
all_held holds later texts sources kept found lent =
    subst (All (λ (s : List ℕ × List ℕ). holds s.0 s.1)) (sym lent)
    (All-map (λ (s : List ℕ × List ℕ). holds s.0 s.1) (λ (s : SourceText). (s.name, s.text.items)) texts
    (All-weaker (λ (s : SourceText). later s.name s.text.items) (λ (s : SourceText). holds s.name s.text.items) (λ s h. kept s.name s.text.items h) texts found))

-- and their names
pub names_held : (texts : List SourceText) (sources : Sources) (names : List (List ℕ))
    → sources ≡ map (λ s. (s.name, s.text.items)) texts
    → map (λ s. s.name) texts ≡ names
    → map (λ s. s.0) sources ≡ names
names_held texts sources names lent are = ap (map (λ (s : List ℕ × List ℕ). s.0)) lent ∙ (names_of texts ∙ are)

-- an input that was read, or that nobody named
pub input_kept : (holds later : List ℕ → List ℕ → Type 0) (name : Option (Bor (List ℕ))) (input : List ℕ)
    → ((file bytes : List ℕ) → later file bytes → holds file bytes)
    → IsInput later name input → IsInput holds name input
input_kept holds later None input kept none = none
input_kept holds later (Some name) input kept found = kept name.now input found

-- no source of the policy's value is outside the folder in which they have to be
pub inside_held : (inside : Bool) (policy : List ℕ) (a b : PolicyValue) → policy_of policy ≡ Ok a → policy_of policy ≡ Ok b
    → outside_of inside (sources_of a.pages) ≡ None → outside_of inside (sources_of b.pages) ≡ None
inside_held inside policy a b x y none = subst (λ (v : PolicyValue). outside_of inside (sources_of v.pages) ≡ None) (same_value (policy_of policy) a b x y) none

-- the policy, its sources and the input as they were read, one after the other
pub are_held : (holds later : List ℕ → List ℕ → Type 0) (request : Request) (policy input : List ℕ) (texts : List SourceText) (sources : Sources) (value : PolicyValue)
    → holds request.policy.now policy → holds request.input.now input
    → ((file bytes : List ℕ) → later file bytes → holds file bytes)
    → All (λ s. later s.name s.text.items) texts
    → map (λ s. s.name) texts ≡ sources_of value.pages
    → outside_of request.inside (sources_of value.pages) ≡ None
    → policy_of policy ≡ Ok value
    → sources ≡ map (λ s. (s.name, s.text.items)) texts
    → AreHeld holds request policy sources input
are_held holds later request policy input texts sources value first second kept found names inside read lent = record {
  policy_held = first;
  input_held = second;
  sources_held = all_held holds later texts sources kept found lent;
  sources_named = λ v is. names_held texts sources (sources_of v.pages) lent (names ∙ ap (λ (x : PolicyValue). sources_of x.pages) (same_value (policy_of policy) value v read is));
  sources_inside = λ v is. inside_held request.inside policy value v read is inside;
}

-- what holds of the inputs under the policy's value holds of those of the texts
pub of_texts : (P : Result State Refusal → Type 0) (value : PolicyValue) (text : List ℕ) (s t : Sources) (i j : List ℕ) (n random : ℕ)
    → policy_of text ≡ Ok value → s ≡ t → i ≡ j → P (inputs_under value s i n random) → P (inputs text t j n random)
of_texts P value text s t i j n random read e f h =
    subst P (sym (under_policy value text t j n random read))
    (subst (λ (x : List ℕ). P (inputs_under value t x n random)) f
    (subst (λ (x : Sources). P (inputs_under value x i n random)) e h))

-- and so a run begins
pub begins_over : {Q : State → Type 0} (value : PolicyValue) (text : List ℕ) (s t : Sources) (i j : List ℕ)
    → policy_of text ≡ Ok value → s ≡ t → i ≡ j → Begins (inputs_under value s i 0 63) Q → Begins (inputs text t j 0 63) Q
begins_over {Q} value text s t i j read e f h = of_texts (λ made. Begins made Q) value text s t i j 0 63 read e f h

-- what holds of the inputs of a run as they were read, holds of those that the files hold
pub of_held : (holds : List ℕ → List ℕ → Type 0) (request : Request) (P : Result State Refusal → Type 0) (value : PolicyValue) (s t : Sources) (i j : List ℕ)
    → HoldsInputs holds request value t j → s ≡ t → i ≡ j → P (inputs_under value s i request.most_time request.random) → OfHeld holds request P
of_held holds request P value s t i j inputs e f so = record {
  policy = inputs.policy;
  sources = t;
  input = j;
  held = inputs.held;
  so = of_texts P value inputs.policy s t i j request.most_time request.random inputs.read e f so;
}

-- so of what they are read as, as a first state and as what a run begins with
pub of_held_both : (holds : List ℕ → List ℕ → Type 0) (request : Request) (P : Result State Refusal → Result Loaded Refusal → Type 0) (value : PolicyValue) (s t : Sources) (i j : List ℕ)
    → HoldsInputs holds request value t j → s ≡ t → i ≡ j → P (first_by value s i request) (begun_by value s i request) → OfHeldBoth holds request P
of_held_both holds request P value s t i j texts e f so = record {
  policy = texts.policy;
  sources = t;
  input = j;
  held = texts.held;
  so = subst (λ (begun : Result Loaded Refusal). P (inputs texts.policy t j request.most_time request.random) begun) (sym (under_policy_by loaded_with value texts.policy t j request.most_time request.random texts.read))
      (subst (λ (read : Result State Refusal). P read (begun_by value t j request)) (sym (under_policy value texts.policy t j request.most_time request.random texts.read))
      (subst (λ (x : List ℕ). P (first_by value t x request) (begun_by value t x request)) f
      (subst (λ (x : Sources). P (first_by value x i request) (begun_by value x i request)) e so)));
}

-- what is written of a run that has ended is its text
text_written : (request : RunRequest) (o : Outcome) (w : Writing) (read : Result State Refusal) → Begins read (EndsThen request o w) → Begins read (Writes w.old w.between request.run.most_time)
text_written request o w read b = (b.0, b.1, record { last = b.2.last; ends = b.2.ends; written = b.2.written })

-- a run of files is guarded, and shows of who is alone what it does alone
pub ended_files : (holds : List ℕ → List ℕ → Type 0) (request : RunRequest) (o : Outcome) (old new : Option (List ℕ)) → OfHeldBoth holds request.run (λ read begun. IsEnded request o old new read begun)
    → HasRunFiles holds request o old new
ended_files holds request o old new r =
    let w = writing old r.so.0 new in
    let read = inputs r.policy r.sources r.input request.run.most_time request.run.random in
    let text = text_written request o w read r.so.1.ends in
    record {
      policy = r.policy;
      sources = r.sources;
      input = r.input;
      held = r.held;
      so = record {
        between = r.so.0;
        ended = r.so.1;
        guarded = files_guarded_if {T = Unit {0}} {E = Unit {0}} (Ok tt) r.policy r.sources r.input request.run.most_time request.run.random old r.so.0 text;
        alone = each_alone_if {T = Unit {0}} {E = Unit {0}} (Ok tt) r.policy r.sources r.input request.run.most_time request.run.random old r.so.0 text;
      };
    }

module _ (holds : List ℕ → List ℕ → Type 0) (request : RunRequest) (o : Outcome) (old new : Option (List ℕ)) (value : PolicyValue) (s t : Sources) (i j : List ℕ)
    (read : HoldsInputs holds request.run value t j) (e : s ≡ t) (f : i ≡ j) where
  -- what a run of what was read came to, a run of the files did
  pub come_files : IsEnded request o old new (first_by value s i request.run) (begun_by value s i request.run) ⊎ IsLeft request o old new (first_by value s i request.run) (begun_by value s i request.run)
      → HasRunFiles holds request o old new ⊎ HasLeftFiles holds request o old new
  come_files (inl ended) = inl (ended_files holds request o old new (of_held_both holds request.run (λ read begun. IsEnded request o old new read begun) value s t i j read e f ended))
  come_files (inr left) = inr (of_held_both holds request.run (λ read begun. IsLeft request o old new read begun) value s t i j read e f left)
