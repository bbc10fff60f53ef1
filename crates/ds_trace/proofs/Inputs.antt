-- From the inputs of a trace to what is written.
use Rattle.std.proofs.Common.{◌≡◌, ℕ, List, [], ◌++◌, append-nil, Option, Result, Ok, Err, refl, sym, ap, ◌∙◌, subst, inl, inr}
use Rattle.std.specs.Prelude.{OnOk, OnErr, IfErr, ◌&&◌, codes, nat_le, nat_lt}
use Rattle.std.specs.Io.KnownBytes.{Keeps}
use Rattle.ds_word.specs.ResultBinding.{◌>>=◌}
use Rattle.ds_policy.specs.Value.{PolicyValue}
use Rattle.ds_policy.specs.PolicyParts.{sources_of}
use Rattle.ds_policy.specs.InputText.{input_of}
use Rattle.ds_pagemap.specs.Machine.{State}
use Rattle.ds_pagemap.specs.First.{first_state}
use Rattle.ds_pagemap.specs.Text.{state_text}
use Rattle.ds_text.proofs.Sends.{appends_both, part_before}
use Rattle.ds_pagemap.specs.Inputs.{Refusal, Sources, check, images_from, input_read, inputs_under, inputs_under_by}
use Rattle.ds_pagemap.specs.Inputs as refusal
use Rattle.ds_refinement.specs.Held.{Held}
use Rattle.ds_refinement.specs.Stands.{Stands}
use Rattle.ds_station.specs.Headline.{Begins, BeginsWith, IsRefused, Loaded, Refuses, loaded_with}
use Rattle.ds_station.specs.declared.fault.Fault.{Fault}
use Rattle.ds_station.specs.declared.fault.Fault.TheVariants as fault
use Rattle.ds_words.specs.declared.view.View.{View}
use Rattle.ds_trace.specs.Counts.{Counted}
use Rattle.ds_trace.specs.Ends.{end_text}
use Rattle.ds_trace.specs.Traces.{counts_along, told_to, trace_along, TraceEndsBy, TraceEndsReally, WritesShort, WritesTold, WritesToldPart, WritesTrace, WritesTraceBy, WritesTracePart, WritesTracePartReally, WritesTraceReally, WritesTraceShort, WritesTraceShortReally}
use Rattle.ds_trace.specs.Inner.Shows.{Traces, TracesPart, TracesShort}
use Rattle.ds_trace.specs.Inner.Handed.{IsLate}
use Rattle.ds_trace.specs.Processors.{TellsFrom, TellsProcessor}
use Rattle.ds_trace.proofs.Processing.{processor_of_some}

-- refused inputs
pub refused_untold : (f : Fault) (v : View) (read : Result State Refusal) (old new : Option (List ℕ)) (n : ℕ) → Refuses f read → Keeps old new → TraceEndsBy f v read old new n
refused_untold fault.Memory v read old new n i k = inl k
refused_untold fault.Stuck v read old new n i k = absurd i
refused_untold fault.WriteFault v read old new n i k = absurd i
refused_untold fault.Failed v read old new n i k = absurd i
refused_untold f v read old new n i k = (i, k)

late_by : (f : Fault) (v : View) (read : Result State Refusal) (old new : Option (List ℕ)) (n : ℕ) → IsLate f → (f ≡ fault.Memory → Begins read (WritesTraceShort v old new n)) → Begins read (WritesTracePart v old new n) → TraceEndsBy f v read old new n
late_by fault.Memory v read old new n late short b = inr (short refl)
late_by fault.WriteFault v read old new n late short b = b
late_by f v read old new n late short b = absurd late

-- what is told of a run with more is told of it
told_weaker : (v : View) (old new : Option (List ℕ)) (n : ℕ) (m : State) (P Q : State → List ℕ → Type 0) → ((last : State) (lines : List ℕ) → P last lines → Q last lines) → WritesTold v old new n m P → WritesTold v old new n m Q
told_weaker v old new n m P Q gives t = record {
  last = t.last;
  ends = t.ends;
  processor = t.processor;
  processed = gives t.last t.processor t.processed;
  between = t.between;
  trace = t.trace;
  written = t.written;
}

-- what is told of a station's run is told of a run, to a state that it stands for
of_some : (v : View) (old new : Option (List ℕ)) (n : ℕ) (s h : Held) (m : State) → WritesTold v old new n m (λ last lines. TellsFrom v n s m last lines × Stands h last) → WritesTraceBy v h old new n m
of_some v old new n s h m = told_weaker v old new n m (λ last lines. TellsFrom v n s m last lines × Stands h last) (λ last lines. TellsProcessor v n m last lines × Stands h last) (λ last lines t. (processor_of_some v n s m last lines t.0, t.1))

-- wherever the station is then
pub by_any : (v : View) (h : Held) (read : Result State Refusal) (old new : Option (List ℕ)) (n : ℕ) → Begins read (WritesTraceBy v h old new n) → Begins read (WritesTrace v old new n)
by_any v h read old new n b = (b.0, b.1, told_weaker v old new n b.0 (λ last lines. TellsProcessor v n b.0 last lines × Stands h last) (TellsProcessor v n b.0) (λ last lines t. t.0) b.2)

part_of_some : (v : View) (old new : Option (List ℕ)) (n : ℕ) (s : Held) (m : State) → WritesToldPart v old new n m (TellsFrom v n s m) → WritesTracePart v old new n m
part_of_some v old new n s m t = record {
  last = t.last;
  reached = t.reached;
  processor = t.processor;
  processed = processor_of_some v n s m t.last t.processor t.processed;
  written = t.written;
}

short_of_some : (v : View) (old new : Option (List ℕ)) (n : ℕ) (s : Held) (m : State) → WritesShort v old new n m (TellsFrom v n s m) → WritesTraceShort v old new n m
short_of_some v old new n s m (inl t) = inl (record {
  last = t.last;
  prefix = t.prefix;
  going = t.going;
  processor = t.processor;
  processed = processor_of_some v n s m t.last t.processor t.processed;
  between = t.between;
  trace = t.trace;
  written = t.written;
})
short_of_some v old new n s m (inr t) = inr (record {
  last = t.last;
  reached = t.reached;
  processor = t.processor;
  processed = processor_of_some v n s m t.last t.processor t.processed;
  written = t.written;
})

-- what is written where memory runs out is a prefix of the trace and the text
pub short_part : (v : View) (old new : Option (List ℕ)) (n : ℕ) (m : State) (Tells : State → List ℕ → Type 0) → WritesShort v old new n m Tells → WritesToldPart v old new n m Tells
short_part v old new n m Tells (inl t) = record {
  last = t.last;
  reached = t.prefix.reached;
  processor = t.processor;
  processed = t.processed;
  written = record {
    part = told_to v n m t.last t.prefix.reached t.processor ++ state_text t.last;
    rest = [];
    whole = append-nil (told_to v n m t.last t.prefix.reached t.processor ++ state_text t.last);
    appends = appends_both old t.between new (told_to v n m t.last t.prefix.reached t.processor) (state_text t.last) t.trace t.written;
  };
}
short_part v old new n m Tells (inr t) =
    let lines : List ℕ = trace_along v n t.reached.choices m in
    let end : List ℕ = end_text v (counts_along v n t.reached.choices m) t.last in record {
      last = t.last;
      reached = t.reached;
      processor = t.processor;
      processed = t.processed;
      written = part_before old new (lines ++ t.processor ++ end) (state_text t.last) (part_before old new (lines ++ t.processor) end (part_before old new lines t.processor t.written));
    }

-- a run that was told to its end
pub told_ok : (v : View) (read : Result State Refusal) (s h : Held) (old new : Option (List ℕ)) (n : ℕ) (k : Counted) → Begins read (Stands s) → Traces v n s h old new k → Begins read (WritesTraceBy v h old new n)
told_ok v read s h old new n k b t = (b.0, b.1, of_some v old new n s h b.0 (t.traces b.0 b.2).told)

-- or not
pub told_err : {T : Type 0} (r : Result T Fault) (v : View) (read : Result State Refusal) (s : Held) (old new : Option (List ℕ)) (n : ℕ) → Begins read (Stands s) → OnErr r (TracesPart v n s old new) → IfErr r IsLate → IfErr r (λ f. f ≡ fault.Memory → TracesShort v n s old new) → IfErr r (λ f. TraceEndsBy f v read old new n)
told_err (Ok x) v read s old new n b t late short = tt
told_err (Err f) v read s old new n b t late short =
    late_by f v read old new n late (λ is. (b.0, b.1, short_of_some v old new n s b.0 ((short is).traces b.0 b.2))) (b.0, b.1, part_of_some v old new n s b.0 (t.traces b.0 b.2))

begun_not : (read : Result State Refusal) (P : State → Type 0) (r : Refusal) → Begins read P → read ≡ Err r → ⊥
begun_not read P r b e = let no : Ok b.0 ≡ Err r = sym b.1 ∙ e in cc

ends_refused : (f : Fault) (v : View) (read : Result State Refusal) (old new : Option (List ℕ)) (n : ℕ) (r : Refusal) → read ≡ Err r → TraceEndsBy f v read old new n → Refuses f read × Keeps old new
ends_refused fault.Memory v read old new n r e (inl k) = (tt, k)
ends_refused fault.Memory v read old new n r e (inr w) = absurd (begun_not read _ r w e)
ends_refused fault.Stuck v read old new n r e w = absurd w
ends_refused fault.WriteFault v read old new n r e w = absurd (begun_not read _ r w e)
ends_refused fault.Failed v read old new n r e w = absurd w
ends_refused f v read old new n r e w = w

-- an answer that is good for any inputs refuses those that are refused
pub refused_only : {T : Type 0} (result : Result T Fault) (v : View) (read : Result State Refusal) (old new : Option (List ℕ)) (n : ℕ) → OnOk result (Begins read (WritesTrace v old new n)) → IfErr result (λ f. TraceEndsBy f v read old new n) → (r : Refusal) → read ≡ Err r → IsRefused result r old new
refused_only (Ok x) v read old new n ok err r e = absurd (begun_not read (WritesTrace v old new n) r ok e)
refused_only (Err f) v read old new n ok err r e = let w = ends_refused f v read old new n r e err in (subst (Refuses f) e w.0, w.1)

-- What the processor did.

-- the first state of what a run begins with
abbrev first_in : Result Loaded Refusal → Result State Refusal
first_in (Ok l) = Ok (first_state l.policy l.images l.input)
first_in (Err r) = Err r

first_then : {X : Type 0} (x : Result X Refusal) (f : X → Result Loaded Refusal) (g : X → Result State Refusal) → ((y : X) → g y ≡ first_in (f y)) → (x >>= g) ≡ first_in (x >>= f)
first_then (Ok y) f g same = same y
first_then (Err r) f g same = refl

-- so it is made of the inputs
first_of : (policy : PolicyValue) (sources : Sources) (input : List ℕ) (n random : ℕ) → inputs_under policy sources input n random ≡ first_in (inputs_under_by loaded_with policy sources input n random)
unfolding inputs_under inputs_under_by
first_of policy sources input n random =
    first_then (images_from sources [] (sources_of policy.pages)) _ _ (λ images.
    first_then (input_read (input_of policy.pages input)) _ _ (λ events.
    first_then (check (nat_le n 1000000000) (refusal.Limit (codes "n"))) _ _ (λ few.
    first_then (check (nat_le 8 random && nat_lt random 64) refusal.BadRandom) _ _ (λ good. refl))))

-- a station began with these, and stands for their first state
abbrev pub BeginsAt : ℕ → Held → Loaded → Type 0
BeginsAt start h l = BeginsWith start h l × Stands h (first_state l.policy l.images l.input)

abbrev state_or : State → Result State Refusal → State
state_or other (Ok m) = m
state_or other (Err r) = other

-- a station that was prepared of the inputs does
pub begins_at : (h : Held) (policy : PolicyValue) (sources : Sources) (input : List ℕ) (n random start : ℕ) → Begins (inputs_under policy sources input n random) (Stands h) → Begins (inputs_under_by loaded_with policy sources input n random) (BeginsWith start h)
    → Begins (inputs_under_by loaded_with policy sources input n random) (BeginsAt start h)
begins_at h policy sources input n random start b l =
    let same : Ok b.0 ≡ Ok (first_state l.0.policy l.0.images l.0.input) = sym b.1 ∙ (first_of policy sources input n random ∙ ap first_in l.1) in
    (l.0, l.1, (l.2, subst (Stands h) (ap (state_or b.0) same) b.2))

-- a run that was told to its end
pub told_really : (v : View) (read : Result Loaded Refusal) (s h : Held) (old new : Option (List ℕ)) (n start : ℕ) (k : Counted) → Begins read (BeginsAt start s) → Traces v n s h old new k → Begins read (WritesTraceReally v old new n start)
told_really v read s h old new n start k b t =
    let m : State = first_state b.0.policy b.0.images b.0.input in
    (b.0, b.1, record { first = s; begins = b.2.0; written = told_weaker v old new n m (λ last lines. TellsFrom v n s m last lines × Stands h last) (TellsFrom v n s m) (λ last lines told. told.0) (t.traces m b.2.1).told })

late_really : (f : Fault) (v : View) (read : Result Loaded Refusal) (old new : Option (List ℕ)) (n start : ℕ) → IsLate f → (f ≡ fault.Memory → Begins read (WritesTraceShortReally v old new n start)) → Begins read (WritesTracePartReally v old new n start) → TraceEndsReally f v read old new n start
late_really fault.Memory v read old new n start late short b = inr (short refl)
late_really fault.WriteFault v read old new n start late short b = b
late_really f v read old new n start late short b = tt

-- or not
pub cut_really : {T : Type 0} (r : Result T Fault) (v : View) (read : Result Loaded Refusal) (s : Held) (old new : Option (List ℕ)) (n start : ℕ) → Begins read (BeginsAt start s) → OnErr r (TracesPart v n s old new) → IfErr r IsLate → IfErr r (λ f. f ≡ fault.Memory → TracesShort v n s old new) → IfErr r (λ f. TraceEndsReally f v read old new n start)
cut_really (Ok x) v read s old new n start b t late short = tt
cut_really (Err f) v read s old new n start b t late short =
    late_really f v read old new n start late
    (λ is. (b.0, b.1, record { first = s; begins = b.2.0; written = (short is).traces (first_state b.0.policy b.0.images b.0.input) b.2.1 }))
    (b.0, b.1, record { first = s; begins = b.2.0; written = t.traces (first_state b.0.policy b.0.images b.0.input) b.2.1 })

-- where the inputs are refused, it did nothing
pub refused_really : {Y : Type 0} (f : Fault) (v : View) (any : Result Y Refusal) (read : Result Loaded Refusal) (old new : Option (List ℕ)) (n start : ℕ) → Refuses f any → Keeps old new → TraceEndsReally f v read old new n start
refused_really fault.Memory v any read old new n start i k = inl k
refused_really fault.WriteFault v any read old new n start i k = absurd i
refused_really f v any read old new n start i k = tt
