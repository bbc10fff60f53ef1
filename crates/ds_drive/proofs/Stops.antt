-- Why a run or a check is stopped, and what the program says of it.
use Rattle.std.proofs.Common.{◌≡◌, ◌∙◌, ◌⊎◌, inl, inr, ℕ, ◌<◌, Bool, true, false, List, [], refl, sym, ap, map, subst, Bor, length, get_or, take}
use Rattle.std.specs.Prelude.{Option, Some, None, Result, Ok, Err, All, Contains, IfErr, IfSome, is_ok, if◌then◌else◌}
use Rattle.std.specs.Io.KnownBytes.{Keeps}
use Rattle.std.proofs.lemmas.Bool.{true≢false}
use Rattle.std.proofs.lemmas.List.{get_or_default}
use Rattle.std.proofs.lemmas.List.Elements.{All-map, All-nil, All-weaker}
use Rattle.clap.specs.Words.{Text}
use Rattle.ds_asm.specs.declared.fault.SourceFault.{SourceFault}
use Rattle.ds_policy.specs.PolicyText.{policy_of}
use Rattle.ds_policy.specs.PolicyParts.{sources_of}
use Rattle.ds_policy.specs.Value.{PolicyValue}
use Rattle.ds_policy.specs.Refusal.{PolicyRefusal}
use Rattle.ds_policy.specs.Inner.Refusal.{Fails}
use Rattle.ds_policy.specs.declared.fault.PolicyFault.{PolicyFault}
use Rattle.ds_policy.specs.declared.events.cause.InputCause.{InputCause}
use Rattle.ds_policy.specs.declared.fault.PolicyFault.TheVariants as policy_fault
use Rattle.ds_pagemap.specs.Machine.{State}
use Rattle.ds_pagemap.specs.Inputs.{Refusal, Sources, inputs, inputs_under}
use Rattle.ds_station.specs.Faults.{fault_number}
use Rattle.ds_station.specs.Inner.Faults.{of_policy}
use Rattle.ds_station.specs.Headline.{EndsBy, Refuses}
use Rattle.ds_station.specs.declared.fault.Fault.{Fault}
use Rattle.ds_station.specs.declared.fault.Fault.TheVariants as fault
use Rattle.ds_station.proofs.Headlines.{keeps_same, refused_unwritten}
use Rattle.ds_station.proofs.Preparing.{refused_by_policy}
use Rattle.ds_drive.specs.declared.failure.Failure.{Failure}
use Rattle.ds_drive.specs.declared.failure.Failure.TheVariants as failure
use Rattle.ds_words.specs.declared.words.CheckRequest.{CheckRequest}
use Rattle.ds_words.specs.declared.words.ListRequest.{ListRequest}
use Rattle.ds_words.specs.declared.words.Request.{Request}
use Rattle.ds_words.specs.declared.words.RunRequest.{RunRequest}
use Rattle.ds_words.specs.Windows.{windows_in}
use Rattle.ds_words.specs.Words.{AsksForDemo, AsksForRun, AsksForList, AsksForCheck}
use Rattle.ds_drive.specs.declared.run.SourceText.{SourceText}
use Rattle.ds_drive.proofs.HeldFiles.{all_held, inside_held, names_held, of_texts, same_value}
use Rattle.ds_drive.specs.Checked.{ChecksBy, IsInput, IsNotRead, RefusesCheck}
use Rattle.ds_drive.specs.Inner.Checked.{IsUnreadInput}
use Rattle.ds_drive.specs.Demo.{demo_inputs}
use Rattle.ds_drive.specs.Done.{IsStopped, WantsMemory, stream}
use Rattle.ds_drive.specs.Listening.{Listener, IsToldText, TellsSome}
use Rattle.ds_drive.specs.AtFault.{IsInputAt, IsPlaceAt, IsReasonAt, IsSourceAt, place_told, plain}
use Rattle.ds_drive.specs.Inner.AtFault.{IsCauseOf, texts_seen}
use Rattle.ds_drive.specs.declared.refused.FaultyPolicy.{FaultyPolicy}
use Rattle.ds_drive.specs.Told.{below_text, failure_line, listed_faults}
use Rattle.ds_drive.specs.declared.refused.Refused.{Refused}
use Rattle.ds_drive.proofs.Faulty.{nothing_mapped, plain_is, policy_at, texts_at}
use Rattle.ds_drive.specs.Failures.{EndsThenBy, FilesStop, HoldsInputs, IsNext, LacksProcess, MayBeRead, StopsBy, failure_number}
use Rattle.ds_drive.specs.Inner.Failures.{AreUnread, AreUntaken, IsUnread, IsUnreadRun}
use Rattle.ds_drive.specs.Windows.{lacking_of}
use Rattle.ds_drive.proofs.Ending.{ends_then_by}
use Rattle.ds_drive.specs.Inside.{outside_of}
use Rattle.ds_drive.specs.Listed.{FailsBy, HasFaults}
use Rattle.ds_drive.specs.Statuses.{fault_status, refuses_input}

by_status : (refuses : Bool) → ◌≡◌ {A = ℕ} (if refuses then 2 else 3) 0 → ⊥
by_status true is = absurd cc
by_status false is = absurd cc

-- what fails has another status than what is done
pub no_fault_is_done : (number : ℕ) → fault_status number ≡ 0 → ⊥
no_fault_is_done number is = by_status (refuses_input number) is

by_four : (refuses : Bool) → ◌≡◌ {A = ℕ} (if refuses then 2 else 3) 4 → ⊥
by_four true is = absurd cc
by_four false is = absurd cc

-- and than what has not ended
pub no_fault_is_unended : (number : ℕ) → fault_status number ≡ 4 → ⊥
no_fault_is_unended number is = by_four (refuses_input number) is

-- what holds of an error
pub if_err_is : {T E : Type 0} (r : Result T E) (e : E) (P : E → Type 0) → r ≡ Err e → P e → IfErr r P
if_err_is {T} {E} r e P is holds = subst (λ (x : Result T E). IfErr x P) (sym is) holds

-- the name at a place is one of them
pub named : (names : List (List ℕ)) (k : ℕ) (d told : List ℕ) → k < length names → told ≡ get_or names k d → Contains names told
named names k d told within is = (k, within, get_or_default names k told d within ∙ sym is)

-- all before it were read
read_before : (holds : List ℕ → List ℕ → Type 0) (texts : List SourceText) (names : List (List ℕ)) → map (λ s. s.name) texts ≡ names → All (λ s. holds s.name s.text.items) texts → All (MayBeRead holds) names
read_before holds texts names are found =
    subst (All (MayBeRead holds)) are
    (All-map (MayBeRead holds) (λ (s : SourceText). s.name) texts
    (All-weaker (λ (s : SourceText). holds s.name s.text.items) (λ (s : SourceText). MayBeRead holds s.name) (λ s h. (s.text.items, h)) texts found))

-- so it is the next that is lacking
pub next_lacking : (holds : List ℕ → List ℕ → Type 0) (lacks : List ℕ → Type 0) (names : List (List ℕ)) (k : ℕ) (d told : List ℕ) (texts : List SourceText) → k < length names → told ≡ get_or names k d
    → map (λ s. s.name) texts ≡ take k names → All (λ s. holds s.name s.text.items) texts → lacks told → AreUnread holds lacks names (failure.UnreadableSource told)
unfolding named
next_lacking holds lacks names k d told texts within is are found lacking = ((named names k d told within is, read_before holds texts (take k names) are found), lacking)

-- what might be read after it might be read before
next_of : (holds after : List ℕ → List ℕ → Type 0) (names sources : List (List ℕ)) (told : List ℕ) → ((file bytes : List ℕ) → after file bytes → holds file bytes) → names ≡ sources → IsNext after names told → IsNext holds sources told
next_of holds after names sources told kept are next =
    subst (λ (l : List (List ℕ)). IsNext holds l told) are
    (next.0, All-weaker (MayBeRead after) (MayBeRead holds) (λ file read. (read.0, kept file read.0 read.1)) (take next.0.0 names) next.1)

-- the policy's file was not read
pub policy_unread : (holds : List ℕ → List ℕ → Type 0) (lacks : List ℕ → Type 0) (request : Request) (f : Failure)
    → IsUnread lacks request.policy.now f → IsUnreadRun f holds lacks request
policy_unread holds lacks request (failure.UnreadableFile told) unread = (inl unread.0, subst lacks (sym unread.0) unread.1)
policy_unread holds lacks request (failure.Fault fault.Memory) unread = inl refl
policy_unread holds lacks request f none = absurd none

-- the policy's was, and the input's file was not
pub input_unread : (holds : List ℕ → List ℕ → Type 0) (lacks later : List ℕ → Type 0) (request : Request) (policy : List ℕ) (f : Failure)
    → ((file : List ℕ) → later file → lacks file) → holds request.policy.now policy → IsUnread later request.input.now f → IsUnreadRun f holds lacks request
input_unread holds lacks later request policy (failure.UnreadableFile told) lacked held unread = (inr (unread.0, (policy, held)), lacked told.now (subst later (sym unread.0) unread.1))
input_unread holds lacks later request policy (failure.Fault fault.Memory) lacked held unread = inl refl
input_unread holds lacks later request policy f lacked held none = absurd none

-- why a source was not taken, of the policy's sources
left_of : (inside : Bool) (holds after : List ℕ → List ℕ → Type 0) (lacks later : List ℕ → Type 0) (names sources : List (List ℕ)) (told : List ℕ)
    → ((file : List ℕ) → later file → lacks file) → ((file bytes : List ℕ) → after file bytes → holds file bytes) → names ≡ sources
    → AreUntaken inside after later names (failure.UnreadableSource told)
    → (outside_of inside sources ≡ Some told) ⊎ ((outside_of inside sources ≡ None) × IsNext holds sources told × lacks told)
left_of inside holds after lacks later names sources told lacked kept are (inl out) = inl (subst (λ (l : List (List ℕ)). outside_of inside l ≡ Some told) are out)
left_of inside holds after lacks later names sources told lacked kept are (inr left) =
    inr (subst (λ (l : List (List ℕ)). outside_of inside l ≡ None) are left.0, next_of holds after names sources told kept are left.1.0, lacked told left.1.1)

-- both were, and a source was not taken
pub source_unread : (holds between after : List ℕ → List ℕ → Type 0) (lacks later : List ℕ → Type 0) (request : Request) (policy input : List ℕ) (value : PolicyValue) (names : List (List ℕ)) (f : Failure)
    → ((file : List ℕ) → later file → lacks file) → ((file bytes : List ℕ) → between file bytes → holds file bytes) → ((file bytes : List ℕ) → after file bytes → between file bytes)
    → holds request.policy.now policy → between request.input.now input → policy_of policy ≡ Ok value → names ≡ sources_of value.pages
    → AreUntaken request.inside after later names f → IsUnreadRun f holds lacks request
source_unread holds between after lacks later request policy input value names (failure.UnreadableSource told) lacked kept still held second read are unread = (
  (input, kept request.input.now input second),
  record { policy = policy; value = value; held = held; read = read; why = left_of request.inside holds after lacks later names (sources_of value.pages) told lacked (λ file bytes h. kept file bytes (still file bytes h)) are unread },
)
source_unread holds between after lacks later request policy input value names (failure.Fault fault.Memory) lacked kept still held second read are unread = inl refl
source_unread holds between after lacks later request policy input value names f lacked kept still held second read are (inl none) = absurd none
source_unread holds between after lacks later request policy input value names f lacked kept still held second read are (inr none) = absurd none.1

-- where not all is read, nothing is written, and what refuses the inputs ends what was to be done with them
pub unread_stops : (holds : List ℕ → List ℕ → Type 0) (lacks : List ℕ → Type 0) (ends : Fault → Result State Refusal → Type 0) (wanting : ℕ → Type 0) (request : Request) (f : Failure) (known : Option (List ℕ))
    → ((refused : Fault) (read : Result State Refusal) → Refuses refused read → ends refused read) → IsUnreadRun f holds lacks request → FilesStop ends wanting f holds lacks request known known
unread_stops holds lacks ends wanting request (failure.UnreadableFile name) known so unread = (unread, keeps_same known)
unread_stops holds lacks ends wanting request (failure.UnreadableSource name) known so unread = (unread, keeps_same known)
unread_stops holds lacks ends wanting request (failure.NoProcess process) known so none = absurd none
unread_stops holds lacks ends wanting request (failure.Fault f) known so (inl memory) = inl (memory, keeps_same known)
unread_stops holds lacks ends wanting request (failure.Fault f) known so (inr o) = inr (record { policy = o.policy; sources = o.sources; input = o.input; held = o.held; so = so f _ o.so })

module _ (holds : List ℕ → List ℕ → Type 0) (lacks : List ℕ → Type 0) (request : RunRequest) where
  -- so of a run
  pub run_unread : (f : Failure) (known : Option (List ℕ)) → IsUnreadRun f holds lacks request.run → StopsBy f holds lacks request known known
  run_unread f known unread =
      unread_stops holds lacks (λ refused read. EndsThenBy refused request read known known) (LacksProcess holds request.run (windows_in request.extras.memory)) request.run f known
      (λ refused read r. ends_then_by request refused read known known (refused_unwritten refused read known known request.run.most_time r (keeps_same known))) unread

  -- want of memory
  pub memory_stops : (known : Option (List ℕ)) → StopsBy (failure.Fault fault.Memory) holds lacks request known known
  memory_stops known = inl (refl, keeps_same known)

  -- a process that the policy lacks
  pub process_stops : (process : ℕ) (value : PolicyValue) (sources : Sources) (input : List ℕ) (known : Option (List ℕ)) → HoldsInputs holds request.run value sources input
      → lacking_of (length value.processes) (windows_in request.extras.memory) ≡ Some process → StopsBy (failure.NoProcess process) holds lacks request known known
  process_stops process value sources input known read first = (record { value = value; sources = sources; input = input; read = read; first = first }, keeps_same known)

-- a policy is not both good and refused
not_both : (read : Result PolicyValue PolicyRefusal) (value : PolicyValue) (e : PolicyRefusal) → read ≡ Err e → read ≡ Ok value → ⊥
not_both read value e bad good = true≢false (ap is_ok (sym good ∙ bad))

-- the policy is refused: then a run over it, without any source, is refused so
pub policy_ends : (e : PolicyFault) (text input : List ℕ) (known : Option (List ℕ)) (n random : ℕ) → Fails e (policy_of text) → EndsBy (of_policy e) (inputs text [] input n random) known known n
policy_ends policy_fault.Memory text input known n random r = inl (keeps_same known)
policy_ends policy_fault.BadToml text input known n random r = (refused_by_policy policy_fault.BadToml text [] input n random r, keeps_same known)
policy_ends (policy_fault.Limit key) text input known n random r = (refused_by_policy (policy_fault.Limit key) text [] input n random r, keeps_same known)
policy_ends (policy_fault.BadRule number) text input known n random r = (refused_by_policy (policy_fault.BadRule number) text [] input n random r, keeps_same known)

-- whatever the writer, the run ended by that fault
pub ends_anyhow : (f : Fault) (read : Result State Refusal) (old new : Option (List ℕ)) (n : ℕ) → EndsBy f read old new n → EndsBy f read None None n
ends_anyhow fault.Memory read old new n ends = inl tt
ends_anyhow fault.Stuck read old new n none = absurd none
ends_anyhow fault.WriteFault read old new n ends = (ends.0, ends.1, record { last = ends.2.last; prefix = ends.2.prefix; written = record { part = ends.2.written.part; rest = ends.2.written.rest; whole = ends.2.written.whole; appends = tt } })
ends_anyhow fault.Failed read old new n none = absurd none
ends_anyhow fault.BadRandom read old new n ends = (ends.0, tt)
ends_anyhow (fault.InSource name f) read old new n ends = (ends.0, tt)
ends_anyhow fault.BadToml read old new n ends = (ends.0, tt)
ends_anyhow (fault.BadRule number) read old new n ends = (ends.0, tt)
ends_anyhow (fault.Limit key) read old new n ends = (ends.0, tt)
ends_anyhow (fault.InputFault line) read old new n ends = (ends.0, tt)
ends_anyhow (fault.NoSource name) read old new n ends = (ends.0, tt)

module _ (holds : List ℕ → List ℕ → Type 0) (lacks : List ℕ → Type 0) where
  policy_unsound_by : (e : PolicyFault) (request : Request) (policy input : List ℕ) → ((e ≡ policy_fault.Memory) ⊎ ((value : PolicyValue) → policy_of policy ≡ Ok value → ⊥))
      → holds request.policy.now policy → holds request.input.now input → Fails e (policy_of policy)
      → IsUnreadRun (failure.Fault (of_policy e)) holds lacks request
  policy_unsound_by e request policy input (inl memory) first second r = inl (ap of_policy memory)
  policy_unsound_by e request policy input (inr none) first second r = inr (record {
    policy = policy;
    sources = [];
    input = input;
    held = record { policy_held = first; input_held = second; sources_held = All-nil _; sources_named = λ value is. absurd (none value is); sources_inside = λ value is. absurd (none value is) };
    so = refused_by_policy e policy [] input request.most_time request.random r;
  })

  bad_or_memory : (e : PolicyFault) (policy : List ℕ) → Fails e (policy_of policy) → (e ≡ policy_fault.Memory) ⊎ ((value : PolicyValue) → policy_of policy ≡ Ok value → ⊥)
  bad_or_memory policy_fault.Memory policy r = inl refl
  bad_or_memory policy_fault.BadToml policy r = inr (λ value is. not_both (policy_of policy) value _ r is)
  bad_or_memory (policy_fault.Limit key) policy r = inr (λ value is. not_both (policy_of policy) value _ r is)
  bad_or_memory (policy_fault.BadRule number) policy r = inr (λ value is. not_both (policy_of policy) value _ r is)

  -- the policy is refused
  pub policy_unsound : (e : PolicyFault) (request : Request) (policy input : List ℕ)
      → holds request.policy.now policy → holds request.input.now input → Fails e (policy_of policy)
      → IsUnreadRun (failure.Fault (of_policy e)) holds lacks request
  policy_unsound e request policy input first second r = policy_unsound_by e request policy input (bad_or_memory e policy r) first second r

  refuses_policy_by : (e : PolicyFault) (r : Refused) (request : CheckRequest) (policy input : List ℕ) → ((e ≡ policy_fault.Memory) ⊎ ((value : PolicyValue) → policy_of policy ≡ Ok value → ⊥))
      → holds request.policy.now policy → IsInput holds request.input input → Fails e (policy_of policy)
      → r.failure ≡ failure.Fault (of_policy e) → IfSome r.policy (λ p. p.text.items ≡ policy) → IsPlaceAt (of_policy e) policy (place_told r.policy) → IsReasonAt (of_policy e) policy r.reason → r.source ≡ None → r.input ≡ None
      → RefusesCheck r holds lacks request
  refuses_policy_by e r request policy input (inl memory) first second fails is own place why no_source no_input =
      let f = ap of_policy memory in
      let nowhere = subst (λ (x : Fault). IsPlaceAt x policy (place_told r.policy)) f place in
      let no_why = subst (λ (x : Fault). IsReasonAt x policy r.reason) f why in
      inl (
        plain_is r no_source no_input no_why (nothing_mapped (λ (p : FaultyPolicy). p.place) r.policy nowhere),
        subst (λ (x : Failure). IsNotRead x holds lacks request) (sym (is ∙ ap failure.Fault f)) tt,
      )
  refuses_policy_by e r request policy input (inr none) first second fails is own place why no_source no_input = inr (record {
    fault = of_policy e;
    is = is;
    so = record {
      policy = policy;
      sources = [];
      input = input;
      policy_held = first;
      input_held = second;
      sources_held = All-nil _;
      sources_named = λ value is. absurd (none value is);
      sources_inside = λ value is. absurd (none value is);
      so = (policy_ends e policy input None 0 63 fails, policy_at e policy input r own place why no_source no_input);
    };
  })

  -- the policy is refused by a check
  pub refuses_policy : (e : PolicyFault) (r : Refused) (request : CheckRequest) (policy input : List ℕ)
      → holds request.policy.now policy → IsInput holds request.input input → Fails e (policy_of policy)
      → r.failure ≡ failure.Fault (of_policy e) → IfSome r.policy (λ p. p.text.items ≡ policy) → IsPlaceAt (of_policy e) policy (place_told r.policy) → IsReasonAt (of_policy e) policy r.reason → r.source ≡ None → r.input ≡ None
      → RefusesCheck r holds lacks request
  refuses_policy e r request policy input first second fails is own place why no_source no_input =
      refuses_policy_by e r request policy input (bad_or_memory e policy fails) first second fails is own place why no_source no_input

  -- want of memory
  pub memory_refuses : (request : CheckRequest) → RefusesCheck (plain (failure.Fault fault.Memory)) holds lacks request
  memory_refuses request = inl (refl, tt)

  -- the policy's file was not read for a check
  pub check_unread : (request : CheckRequest) (f : Failure) → IsUnread lacks request.policy.now f → RefusesCheck (plain f) holds lacks request
  check_unread request (failure.UnreadableFile told) unread = inl (refl, (inl unread.0, subst lacks (sym unread.0) unread.1))
  check_unread request (failure.Fault fault.Memory) unread = inl (refl, tt)
  check_unread request f none = absurd none

  input_named_unread : (later : List ℕ → Type 0) (request : CheckRequest) (name : Bor (List ℕ)) (f : Failure) → ((file : List ℕ) → later file → lacks file)
      → request.input ≡ Some name → IsUnread later name.now f → RefusesCheck (plain f) holds lacks request
  input_named_unread later request name (failure.UnreadableFile told) lacked is unread = inl (refl, (inr (name, is, unread.0), lacked told.now (subst later (sym unread.0) unread.1)))
  input_named_unread later request name (failure.Fault fault.Memory) lacked is unread = inl (refl, tt)
  input_named_unread later request name f lacked is none = absurd none

  check_input_by : (later : List ℕ → Type 0) (request : CheckRequest) (input : Option (Bor (List ℕ))) (f : Failure) → ((file : List ℕ) → later file → lacks file)
      → request.input ≡ input → IsUnreadInput later input f → RefusesCheck (plain f) holds lacks request
  check_input_by later request None f lacked is none = absurd none
  check_input_by later request (Some name) f lacked is unread = input_named_unread later request name f lacked is unread

  -- nor the input's
  pub check_input_unread : (later : List ℕ → Type 0) (request : CheckRequest) (f : Failure) → ((file : List ℕ) → later file → lacks file)
      → IsUnreadInput later request.input f → RefusesCheck (plain f) holds lacks request
  check_input_unread later request f lacked unread = check_input_by later request request.input f lacked refl unread

  -- nor a source's
  pub check_source_unread : (after : List ℕ → List ℕ → Type 0) (later : List ℕ → Type 0) (request : CheckRequest) (policy : List ℕ) (value : PolicyValue) (names : List (List ℕ)) (f : Failure)
      → ((file : List ℕ) → later file → lacks file) → ((file bytes : List ℕ) → after file bytes → holds file bytes) → holds request.policy.now policy → policy_of policy ≡ Ok value → names ≡ sources_of value.pages
      → AreUntaken request.inside after later names f → RefusesCheck (plain f) holds lacks request
  check_source_unread after later request policy value names (failure.UnreadableSource told) lacked kept held read are unread = inl (
    refl,
    record { policy = policy; value = value; held = held; read = read; why = left_of request.inside holds after lacks later names (sources_of value.pages) told lacked kept are unread },
  )
  check_source_unread after later request policy value names (failure.Fault fault.Memory) lacked kept held read are unread = inl (refl, tt)
  check_source_unread after later request policy value names f lacked kept held read are (inl none) = absurd none
  check_source_unread after later request policy value names f lacked kept held read are (inr none) = absurd none.1

  -- the run of what the files hold ended by that fault
  pub run_refuses : (later : List ℕ → List ℕ → Type 0) (r : Refused) (request : CheckRequest) (policy input : List ℕ) (texts : List SourceText) (s t : Sources) (i : List ℕ) (value : PolicyValue) (f : Fault) (cause : Option InputCause) (old new : Option (List ℕ))
      → holds request.policy.now policy → IsInput holds request.input input
      → ((file bytes : List ℕ) → later file bytes → holds file bytes)
      → All (λ s. later s.name s.text.items) texts
      → map (λ s. s.name) texts ≡ sources_of value.pages
      → outside_of request.inside (sources_of value.pages) ≡ None
      → policy_of policy ≡ Ok value
      → t ≡ texts_seen texts
      → s ≡ t → i ≡ input
      → EndsBy f (inputs_under value s i 0 63) old new 0
      → r.failure ≡ failure.Fault f → IsSourceAt f (texts_seen texts) r.source → IsInputAt f input r.input
      → IfSome r.input (λ i. i.cause ≡ cause) → IsCauseOf f value.pages input cause → r.reason ≡ None → r.policy ≡ None
      → RefusesCheck r holds lacks request
  run_refuses later r request policy input texts s t i value f cause old new first second kept found names inside read lent e e2 ends is source_at input_at told so no_why no_policy = inr (record {
    fault = f;
    is = is;
    so = record {
      policy = policy;
      sources = t;
      input = input;
      policy_held = first;
      input_held = second;
      sources_held = all_held holds later texts t kept found lent;
      sources_named = λ v is. names_held texts t (sources_of v.pages) lent (names ∙ ap (λ (x : PolicyValue). sources_of x.pages) (same_value (policy_of policy) value v read is));
      sources_inside = λ v is. inside_held request.inside policy value v read is inside;
      so = (
        ends_anyhow f (inputs policy t input 0 63) old new 0 (of_texts (λ made. EndsBy f made old new 0) value policy s t i input 0 63 read e e2 ends),
        texts_at f r policy input value t (texts_seen texts) cause read lent source_at input_at told so no_why no_policy,
      );
    };
  })

-- What the program says of it.
module _ (words : List Text) (holds : List ℕ → List ℕ → Type 0) (lacks : List ℕ → Type 0) (status : ℕ) (old new : Option (List ℕ)) (err : Listener) where
  pub demo_stopped : (f : Fault) → fault_status (fault_number f) ≡ status → AsksForDemo words → EndsBy f demo_inputs old new 100
      → IsToldText err (failure_line (failure.Fault f)) → IsStopped status words holds lacks (stream old new) err
  demo_stopped f has asks ends told = inl (asks, record { fault = f; has = has; stops = ends; told = told })

  pub run_stopped : (request : RunRequest) (f : Failure) → fault_status (failure_number f) ≡ status → AsksForRun words request → StopsBy f holds lacks request old new
      → IsToldText err (failure_line f) → IsStopped status words holds lacks (stream old new) err
  run_stopped request f has asks stops told = inr (inl (request, asks, record { failure = f; has = has; so = stops; told = told }))

  pub list_stopped : (request : ListRequest) (f : Failure) → fault_status (failure_number f) ≡ status → AsksForList words request → FailsBy f holds lacks request old new
      → IsToldText err (failure_line f) → IsStopped status words holds lacks (stream old new) err
  list_stopped request f has asks fails told = inr (inr (inl (request, asks, inl (record { failure = f; has = has; so = fails; told = told }))))

  pub list_faulty : (request : ListRequest) (text : List ℕ) (faults : List SourceFault) → status ≡ 2 → AsksForList words request → HasFaults holds request text faults → Keeps old new
      → TellsSome err [] (listed_faults request.file.now text faults) → IsStopped status words holds lacks (stream old new) err
  list_faulty request text faults has asks are kept told = inr (inr (inl (request, asks, inr (record { has = has; text = text; faults = faults; are = are; kept = kept; told = told }))))

  pub check_stopped : (request : CheckRequest) (r : Refused) → fault_status (failure_number r.failure) ≡ status → AsksForCheck words request → ChecksBy r holds lacks request old new
      → TellsSome err (failure_line r.failure) (below_text r) → IsStopped status words holds lacks (stream old new) err
  check_stopped request r has asks refused told = inr (inr (inr (inl (request, asks, inl (record { refused = r; has = has; so = refused; told = told })))))

-- memory was wanting for the words
pub wants_memory : (known : Option (List ℕ)) (err : Listener) → IsToldText err (failure_line (failure.Fault fault.Memory)) → WantsMemory (stream known known) err
wants_memory known err told = (keeps_same known, told)
