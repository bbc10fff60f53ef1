-- What is at fault where a check is refused.
use Rattle.std.proofs.Common.{◌≡◌, ◌∙◌, ℕ, suc, zero, ◌<◌, List, [], ◌∷◌, Bool, true, false, Option, None, Some, Ok, refl, sym, ap, subst, length, get_or, arith}
use Rattle.std.specs.Prelude.{bytes_eq, option_map, position, slice_index_or, is_some, IfSome, not}
use Rattle.std.specs.List.{find}
use Rattle.clap.proofs.RemoveLemmas.{find-none}
use Rattle.ds_asm.specs.Faults.{all_faults}
use Rattle.std.proofs.lemmas.Bool.{true≢false}
use Rattle.std.proofs.lemmas.List.Quantifiers.{position-Some}
use Rattle.ds_asm.specs.declared.fault.SourceFault.{SourceFault}
use Rattle.ds_policy.specs.Value.{PolicyValue}
use Rattle.std.specs.Result.{result_err}
use Rattle.ds_policy.specs.PolicyText.{read_policy, policy_of}
use Rattle.ds_policy.specs.Refusal.{refusal_of}
use Rattle.ds_policy.specs.declared.policy.PolicyPage.{PolicyPage}
use Rattle.ds_policy_reasons.specs.Reasons.{policy_reason}
use Rattle.ds_policy.specs.declared.events.cause.InputCause.{InputCause}
use Rattle.ds_policy.specs.declared.cause.PolicyReason.{PolicyReason}
use Rattle.ds_policy.proofs.Binds.{told_ok}
use Rattle.ds_policy.proofs.PolicyRead.{policy_document}
use Rattle.ds_policy.specs.declared.fault.PolicyFault.{PolicyFault}
use Rattle.ds_policy.specs.declared.fault.PolicyFault.TheVariants as policy_fault
use Rattle.ds_pagemap.specs.Inputs.{Sources, text_named}
use Rattle.ds_station.specs.Inner.Faults.{of_policy}
use Rattle.ds_station.specs.declared.fault.Fault.{Fault}
use Rattle.ds_station.specs.declared.fault.Fault.TheVariants as fault
use Rattle.ds_drive.specs.declared.refused.Refused.{Refused}
use Rattle.ds_drive.specs.declared.refused.FaultyInput.{FaultyInput}
use Rattle.ds_drive.specs.declared.refused.FaultyPolicy.{FaultyPolicy}
use Rattle.ds_drive.specs.declared.refused.FaultySource.{FaultySource}
use Rattle.ds_drive.specs.declared.run.SourceText.{SourceText}
use Rattle.ds_drive.specs.AtFault.{IsAtFault, IsCauseAt, IsInputAt, IsPlaceAt, IsReasonAt, IsSourceAt, cause_of, place_told, plain}
use Rattle.ds_drive.specs.Inner.AtFault.{IsCauseOf, texts_seen}
use Rattle.ds_drive.specs.PolicyPlaces.{place_of_reason}
use Rattle.ds_drive.proofs.HeldFiles.{same_value}

-- a refusal of which nothing is told besides
pub plain_is : (r : Refused) → r.source ≡ None → r.input ≡ None → r.reason ≡ None → r.policy ≡ None → r ≡ plain r.failure
plain_is r a b c d =
    ap (λ (s : Option FaultySource). record { failure = r.failure; source = s; input = r.input; reason = r.reason; policy = r.policy }) a
    ∙ (ap (λ (i : Option FaultyInput). record { failure = r.failure; source = None; input = i; reason = r.reason; policy = r.policy }) b
    ∙ (ap (λ (w : Option PolicyReason). record { failure = r.failure; source = None; input = None; reason = w; policy = r.policy }) c
    ∙ ap (λ (p : Option FaultyPolicy). record { failure = r.failure; source = None; input = None; reason = None; policy = p }) d))

-- a refusal of the policy is none of the input
no_input_at : (e : PolicyFault) (input : List ℕ) → IsInputAt (of_policy e) input None
no_input_at policy_fault.BadToml input = tt
no_input_at (policy_fault.BadRule number) input = tt
no_input_at (policy_fault.Limit key) input = tt
no_input_at policy_fault.Memory input = tt

-- nor of a source
no_source_at : (e : PolicyFault) (sources : Sources) → IsSourceAt (of_policy e) sources None
no_source_at policy_fault.BadToml sources = refl
no_source_at (policy_fault.BadRule number) sources = refl
no_source_at (policy_fault.Limit key) sources = refl
no_source_at policy_fault.Memory sources = refl

-- what is at fault where the policy is refused
pub policy_at : (e : PolicyFault) (policy input : List ℕ) (r : Refused) → IfSome r.policy (λ p. p.text.items ≡ policy) → IsPlaceAt (of_policy e) policy (place_told r.policy) → IsReasonAt (of_policy e) policy r.reason
    → r.source ≡ None → r.input ≡ None → IsAtFault (of_policy e) r policy [] input
policy_at e policy input r own place why no_source no_input = record {
  source_at = subst (IsSourceAt (of_policy e) []) (sym no_source) (no_source_at e []);
  input_at = subst (IsInputAt (of_policy e) input) (sym no_input) (no_input_at e input);
  policy_at = own;
  place_at = place;
  reason_at = why;
  cause_at = λ value is. subst (IsCauseAt value.pages) (sym no_input) tt;
}

-- what is mapped to nothing is nothing
pub nothing_mapped : {A B : Type 0} (f : A → B) (o : Option A) → option_map f o ≡ None → o ≡ None
nothing_mapped f None is = refl
nothing_mapped f (Some x) is = absurd (true≢false (ap is_some is))

-- a good policy has no reason
no_reason : (policy : List ℕ) (value : PolicyValue) → policy_of policy ≡ Ok value → None ≡ policy_reason policy
unfolding policy_of
no_reason policy value read = sym (ap result_err (told_ok refusal_of (read_policy policy) value read))

-- so none is told where the policy is good
no_reason_at : (f : Fault) (policy : List ℕ) (value : PolicyValue) → policy_of policy ≡ Ok value → IsReasonAt f policy None
no_reason_at fault.BadToml policy value read = no_reason policy value read
no_reason_at (fault.BadRule number) policy value read = no_reason policy value read
no_reason_at (fault.Limit key) policy value read = no_reason policy value read
no_reason_at fault.BadRandom policy value read = refl
no_reason_at (fault.InSource name f) policy value read = refl
no_reason_at (fault.InputFault line) policy value read = refl
no_reason_at fault.Stuck policy value read = refl
no_reason_at fault.Failed policy value read = refl
no_reason_at fault.WriteFault policy value read = refl
no_reason_at (fault.NoSource name) policy value read = refl
no_reason_at fault.Memory policy value read = refl

-- what is wrong with the line of the input that is told
cause_told : (f : Fault) (pages : List PolicyPage) (input : List ℕ) (told : Option FaultyInput) (cause : Option InputCause)
    → IsInputAt f input told → IfSome told (λ i. i.cause ≡ cause) → IsCauseOf f pages input cause → IsCauseAt pages told
cause_told f pages input None cause at is so = tt
cause_told (fault.InputFault line) pages input (Some i) cause at is so = is ∙ (so ∙ ap (cause_of pages) (sym at.0))
cause_told f pages input (Some i) cause none is so = absurd none

-- nor a place
no_place_at : (f : Fault) (policy : List ℕ) (value : PolicyValue) → policy_of policy ≡ Ok value → IsPlaceAt f policy None
no_place_at fault.BadToml policy value read = (ap not (sym (policy_document policy value read)), tt)
no_place_at (fault.BadRule number) policy value read = ap (place_of_reason policy) (no_reason policy value read)
no_place_at (fault.Limit key) policy value read = ap (place_of_reason policy) (no_reason policy value read)
no_place_at fault.BadRandom policy value read = refl
no_place_at (fault.InSource name f) policy value read = refl
no_place_at (fault.InputFault line) policy value read = refl
no_place_at fault.Stuck policy value read = refl
no_place_at fault.Failed policy value read = refl
no_place_at fault.WriteFault policy value read = refl
no_place_at (fault.NoSource name) policy value read = refl
no_place_at fault.Memory policy value read = refl

-- what is at fault where the run is refused
pub texts_at : (f : Fault) (r : Refused) (policy input : List ℕ) (value : PolicyValue) (sources seen : Sources) (cause : Option InputCause)
    → policy_of policy ≡ Ok value → sources ≡ seen
    → IsSourceAt f seen r.source → IsInputAt f input r.input → IfSome r.input (λ i. i.cause ≡ cause) → IsCauseOf f value.pages input cause
    → r.reason ≡ None → r.policy ≡ None → IsAtFault f r policy sources input
texts_at f r policy input value sources seen cause read same source_at input_at told so no_why no_policy = record {
  source_at = subst (λ (x : Sources). IsSourceAt f x r.source) (sym same) source_at;
  input_at = input_at;
  policy_at = subst (λ (p : Option FaultyPolicy). IfSome p (λ q. q.text.items ≡ policy)) (sym no_policy) tt;
  place_at = subst (λ (p : Option FaultyPolicy). IsPlaceAt f policy (place_told p)) (sym no_policy) (no_place_at f policy value read);
  reason_at = subst (IsReasonAt f policy) (sym no_why) (no_reason_at f policy value read);
  cause_at = λ v is. subst (λ (x : PolicyValue). IsCauseAt x.pages r.input) (same_value (policy_of policy) value v read is) (cause_told f value.pages input r.input cause input_at told so);
}

-- the text at the place of the first source of a name is the one of that name
named_at : (texts : List SourceText) (name : List ℕ) (i : ℕ) (d : SourceText) → i < length texts → bytes_eq (get_or texts i d).name name ≡ true
    → ((k : ℕ) → k < i → bytes_eq (get_or texts k d).name name ≡ false) → text_named (texts_seen texts) name ≡ Some (get_or texts i d).text.items
named_at [] name i d within here before = absurd (omega (arith, within))
named_at (s ∷ texts) name zero d within here before = rw here refl
named_at (s ∷ texts) name (suc i) d within here before =
    rw (before 0 (omega arith)) (named_at texts name i d (omega (arith, within)) here (λ k h. before (suc k) (omega (arith, h))))

named_first : (texts : List SourceText) (name : List ℕ) (i : ℕ) (d : SourceText) → position (λ s. bytes_eq s.name name) texts ≡ Some i
    → text_named (texts_seen texts) name ≡ Some (get_or texts i d).text.items
named_first texts name i d is =
    let first = position-Some (λ s. bytes_eq s.name name) texts i d is in
    named_at texts name i d first.0 first.1 first.2

-- what was found by that name is the source
pub source_found : (name : List ℕ) (texts held : List SourceText) (i : ℕ) (s : SourceText) (faults : List SourceFault)
    → held ≡ texts → position (λ s. bytes_eq s.name name) held ≡ Some i → s ≡ slice_index_or texts i s → faults ≡ all_faults s.text.items
    → (text_named (texts_seen texts) name ≡ Some s.text.items) × (faults ≡ all_faults s.text.items)
source_found name texts held i s faults same at found are =
    let there = named_first texts name i s (subst (λ (l : List SourceText). position (λ t. bytes_eq t.name name) l ≡ Some i) same at) in
    (there ∙ ap (λ (x : SourceText). Some x.text.items) (sym found), are)

nowhere_by : (texts : List SourceText) (name : List ℕ) → find (λ s. bytes_eq s.name name) texts ≡ None → text_named (texts_seen texts) name ≡ None
nowhere_by [] name none = refl
nowhere_by (s ∷ texts) name none = at (bytes_eq s.name name) refl (λ rest. nowhere_by texts name rest)
  where
    at : (b : Bool) → bytes_eq s.name name ≡ b → (find (λ t. bytes_eq t.name name) texts ≡ None → text_named (texts_seen texts) name ≡ None) → text_named (texts_seen (s ∷ texts)) name ≡ None
    at true same later =
        let found : find (λ t. bytes_eq t.name name) (s ∷ texts) ≡ Some s = rw same refl in
        let bad : ◌≡◌ {A = Option SourceText} (Some s) None = sym found ∙ none in
        absurd (true≢false (ap is_some bad))
    at false same later =
        let passed : find (λ t. bytes_eq t.name name) (s ∷ texts) ≡ find (λ t. bytes_eq t.name name) texts = rw same refl in
        rw same (later (sym passed ∙ none))

-- where none was found, no source has that name
pub source_nowhere : (name : List ℕ) (texts held : List SourceText) → held ≡ texts → position (λ s. bytes_eq s.name name) held ≡ None → text_named (texts_seen texts) name ≡ None
source_nowhere name texts held same none =
    nowhere_by texts name (find-none (λ s. bytes_eq s.name name) texts (subst (λ (l : List SourceText). position (λ t. bytes_eq t.name name) l ≡ None) same none))
