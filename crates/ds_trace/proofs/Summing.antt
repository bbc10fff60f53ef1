-- A run that is counted to its end, and what is told of it.
use Rattle.std.proofs.Common.{◌≡◌, Bor, ℕ, Bool, true, List, [], ◌∷◌, Option, Some, None, Result, Ok, Err, refl, sym, ap, subst, ◌∙◌, inl, inr}
use Rattle.std.specs.Prelude.{◌&&◌, codes, nat_le, nat_lt}
use Rattle.std.specs.Io.KnownBytes.{Appends}
use Rattle.ds_word.specs.ResultBinding.{◌>>=◌}
use Rattle.ds_text.specs.Sent.{AppendsPart}
use Rattle.ds_policy.specs.Value.{InputValue, PolicyValue}
use Rattle.ds_policy.specs.InputText.{input_of}
use Rattle.ds_policy.specs.PolicyParts.{sources_of}
use Rattle.ds_policy.specs.declared.command.Character.{Character}
use Rattle.ds_pagemap.specs.First.{first_state}
use Rattle.ds_pagemap.specs.Inputs.{Refusal, Sources, check, images_from, input_read, inputs_under, inputs_under_by}
use Rattle.ds_pagemap.specs.Inputs as refusal
use Rattle.ds_pagemap.specs.Machine.{State, touched}
use Rattle.ds_pagemap.specs.Run.{after}
use Rattle.ds_refinement.specs.Held.{Held}
use Rattle.ds_refinement.specs.Real.{RealPath}
use Rattle.ds_refinement.specs.Runs.{RunsTo, held_goes_on}
use Rattle.ds_refinement.specs.Inner.Runs.{RunsWithin}
use Rattle.ds_refinement.specs.Stands.{Stands}
use Rattle.ds_refinement.proofs.RunSteps.{goes_alike}
use Rattle.ds_station.specs.Headline.{Along, Begins, EndsBy, EndsReally, Loaded, Writes, WritesReally, held_text}
use Rattle.ds_station.specs.Faults.{RefusesStep}
use Rattle.ds_station.specs.declared.fault.Fault.{Fault}
use Rattle.ds_station.specs.declared.fault.Fault.TheVariants as fault
use Rattle.ds_station.proofs.Along.{runs_along}
use Rattle.ds_station.proofs.Headlines.{part_prefix, text_alike, writes_prefix}
use Rattle.ds_words.specs.declared.view.View.{View}
use Rattle.ds_listing.specs.declared.pages.PageLines.{PageLines}
use Rattle.ds_words.specs.Views.{whole}
use Rattle.ds_trace.specs.declared.processor.ProcessorCounts.{ProcessorCounts}
use Rattle.ds_trace.specs.Inner.Counted.{HasCounted}
use Rattle.ds_trace.specs.Counts.{Counted}
use Rattle.ds_trace.specs.Processors.{told_from, window_end}
use Rattle.ds_trace.specs.Inner.Shows.{IsCutIf, IsStopped, TellsAll}
use Rattle.ds_trace.specs.Summed.{summed_text}
use Rattle.ds_trace.specs.Inner.Summed.{CountsAll, SumsUpShort, TellsOf, TracesSummed, WritesSummed, WritesTraceSummed, counting}
use Rattle.ds_trace.specs.Traces.{counts_along, next_counts}
use Rattle.ds_trace.proofs.Following.{ran_whole}
use Rattle.ds_trace.proofs.Inputs.{BeginsAt}
use Rattle.ds_trace.proofs.Processing.{processor_of_some, processor_told}

-- the view that tells nothing, with any lines of pages
abbrev counting_by : Bor (List (Option PageLines)) → View
counting_by pages = record counting { pages = pages }

-- What is counted by the view that tells nothing is what is counted of all turns.
pub counted_whole : (pages : Bor (List (Option PageLines))) (n : ℕ) (choices : List Bool) (m : State) → counts_along (counting_by pages) n choices m ≡ counts_along whole n choices m
unfolding counts_along
counted_whole pages n [] m = refl
counted_whole pages n (touch ∷ earlier) m = ap (next_counts whole n touch (after n earlier m)) (counted_whole pages n earlier m)

-- a run that was followed so is counted
pub counts_all : (pages : Bor (List (Option PageLines))) (cut : Option Fault) (n : ℕ) (from h : Held) (a d : Option (List ℕ)) (text : List ℕ) (k : Counted) (c : ProcessorCounts) (lines : List ℕ) → TellsAll cut (counting_by pages) n from h a d text k
    → HasCounted (window_end (counting_by pages)) (told_from (counting_by pages) n) n from h c lines → IsCutIf cut from h → CountsAll cut n from h k
counts_all pages cut n from h a d text k c lines all counted refused = record {
  runs = λ m begin.
      let told = all.tells.tells m begin in
      let last : State = touched told.early (after n told.choices m) in record {
        last = last;
        reached = record { choices = told.choices; early = told.early; comes_to = refl };
        stands = told.stands;
        counted = sym all.counts ∙ (told.counted ∙ counted_whole pages n told.choices m);
        came = (processor_told (counting_by pages) n from h c lines m last counted begin told.stands).0;
      };
  stopped = all.stopped;
  refused = refused;
}

-- by such a view
pub counts_of : (v : View) (cut : Option Fault) (n : ℕ) (from h : Held) (a d : Option (List ℕ)) (text : List ℕ) (k : Counted) (c : ProcessorCounts) (lines : List ℕ) → v ≡ counting_by v.pages → TellsAll cut v n from h a d text k
    → HasCounted (window_end v) (told_from v n) n from h c lines → IsCutIf cut from h → CountsAll cut n from h k
counts_of v cut n from h a d text k c lines is all counted refused =
    counts_all v.pages cut n from h a d text k c lines (subst (λ (x : View). TellsAll cut x n from h a d text k) is all)
    (subst (λ (x : View). HasCounted (window_end x) (told_from x n) n from h c lines) is counted) refused

-- What the station has done then.

pub stopped_whole : (cut : Option Fault) (n : ℕ) (h : Held) → IsStopped cut n h → h.kept.state.owed ≡ None
stopped_whole None n h is = ran_whole n h is
stopped_whole (Some f) n h is = is.1

pub counted_to : (n : ℕ) (from h : Held) (k : Counted) → CountsAll None n from h k → RunsTo n from h
counted_to n from h k all = record {
  runs = λ m begin.
      let r = all.runs m begin in
      (r.last, record { reached = r.reached; over = goes_alike n h r.last r.stands ∙ all.stopped }, r.stands);
}

pub counted_within : (cut : Option Fault) (n : ℕ) (from h : Held) (k : Counted) → CountsAll cut n from h k → RunsWithin n from h
counted_within cut n from h k all = record { runs = λ m begin. let r = all.runs m begin in (r.last, r.reached, r.stands) }

-- What its input says.

-- what was made of what came before
made_of : {X A : Type 0} (r : Result X Refusal) (g : X → Result A Refusal) (a : A) → (r >>= g) ≡ Ok a → (x : X) × (r ≡ Ok x) × (g x ≡ Ok a)
made_of (Ok x) g a is = (x, refl, is)
made_of (Err e) g a is = absurd (cc)

input_is : (r : Result InputValue ℕ) (said : InputValue) → input_read r ≡ Ok said → r ≡ Ok said
input_is (Ok x) said is = let same : x ≡ said = cc in ap (λ (y : InputValue). Ok y) same
input_is (Err line) said is = absurd (cc)

-- a first state has the characters of its input
pub first_input : (policy : PolicyValue) (s : Sources) (input : List ℕ) (n random : ℕ) (first : State) → inputs_under policy s input n random ≡ Ok first → (said : InputValue) × (input_of policy.pages input ≡ Ok said) × (said.characters ≡ first.characters)
unfolding inputs_under inputs_under_by
first_input policy s input n random first is =
    let images = made_of (images_from s [] (sources_of policy.pages)) _ first is in
    let said = made_of (input_read (input_of policy.pages input)) _ first images.2 in
    let few = made_of (check (nat_le n 1000000000) (refusal.Limit (codes "n"))) _ first said.2 in
    let good = made_of (check (nat_le 8 random && nat_lt random 64) refusal.BadRandom) _ first few.2 in
    let same : first_state policy images.0 said.0 ≡ first = (let it : ◌≡◌ {A = Result State Refusal} (Ok (first_state policy images.0 said.0)) (Ok first) = good.2 in cc) in
    (said.0, input_is (input_of policy.pages input) said.0 said.1, ap (λ (m : State). m.characters) same)

-- so what is told by that input is told by them
module _ (policy : PolicyValue) (s : Sources) (input : List ℕ) (n random : ℕ) (first : State) (is : inputs_under policy s input n random ≡ Ok first) where
  pub told_by : (k : Counted) (h : Held) (text : List ℕ) → TellsOf policy.pages input n k h text → text ≡ summed_text n first.characters k h
  told_by k h text tells =
      let i = first_input policy s input n random first is in
      tells i.0 i.1 ∙ ap (λ (all : List Character). summed_text n all k h) i.2

-- What is written and told of it.

-- of a run that came to its end
pub summed_ok : (policy : PolicyValue) (s : Sources) (input : List ℕ) (n random : ℕ) (from h : Held) (k : Counted) (text : List ℕ) (old new : Option (List ℕ)) → Begins (inputs_under policy s input n random) (Stands from)
    → CountsAll None n from h k → TellsOf policy.pages input n k h text → Appends old new (held_text h) → Begins (inputs_under policy s input n random) (WritesSummed text h old new n)
summed_ok policy s input n random from h k text old new b all tells a =
    let r = all.runs b.0 b.2 in (
      b.0,
      b.1,
      record {
        last = r.last;
        ends = record { reached = r.reached; over = goes_alike n h r.last r.stands ∙ all.stopped };
        stands = r.stands;
        written = subst (Appends old new) (text_alike h r.last r.stands) a;
        told = told_by policy s input n random b.0 b.1 k h text tells ∙ ap (λ (c : Counted). summed_text n b.0.characters c h) r.counted;
      },
    )

pub summed_writes : (text : List ℕ) (h : Held) (old new : Option (List ℕ)) (n : ℕ) (read : Result State Refusal) → Begins read (WritesSummed text h old new n) → Begins read (Writes old new n)
summed_writes text h old new n read b = (b.0, b.1, record { last = b.2.last; ends = b.2.ends; written = b.2.written })

-- by real steps
module _ (Path : Loaded → Held → Held → Type 0) (n start : ℕ) (read : Result Loaded Refusal) (from h : Held) (k : Counted) (old new : Option (List ℕ)) (b : Begins read (BeginsAt start from)) (leads : (x : Held) → RealPath from x → Path b.0 from x) where
  pub summed_really : CountsAll None n from h k → Appends old new (held_text h) → Begins read (WritesReally Path old new n start)
  summed_really all a =
      let m : State = first_state b.0.policy b.0.images b.0.input in
      let r = all.runs m b.2.1 in (
        b.0,
        b.1,
        record {
          first = from;
          begins = b.2.0;
          last = r.came.to;
          path = leads r.came.to r.came.path;
          over = sym (goes_alike n r.came.to r.last r.came.comes) ∙ (goes_alike n h r.last r.stands ∙ all.stopped);
          written = subst (Appends old new) (text_alike h r.last r.stands ∙ sym (text_alike r.came.to r.last r.came.comes)) a;
        },
      )

  -- or to where it was cut short
  pub summed_short : (f : Fault) → CountsAll (Some f) n from h k → Appends old new (held_text h) → EndsReally Path f read old new n start
  summed_short f all a = subst (λ (x : Fault). EndsReally Path x read old new n start) (sym all.stopped.0)
      (inr (
        b.0,
        b.1,
        record {
          first = from;
          begins = b.2.0;
          last = all.refused.last;
          path = leads all.refused.last all.refused.path;
          going = subst (λ (x : Held). held_goes_on n x ≡ true) all.refused.marked all.stopped.2;
          refused = subst (λ (x : Fault). RefusesStep x all.refused.last) all.stopped.0 all.refused.refused;
          written = subst (λ (x : Held). Appends old new (held_text x)) all.refused.marked a;
        },
      ))

  -- where its text was
  pub summed_some : (cut : Option Fault) → CountsAll cut n from h k → AppendsPart old new (held_text h) → EndsReally Path fault.WriteFault read old new n start
  summed_some None all a =
      let m : State = first_state b.0.policy b.0.images b.0.input in
      let r = all.runs m b.2.1 in (
        b.0,
        b.1,
        record {
          first = from;
          begins = b.2.0;
          last = r.came.to;
          path = leads r.came.to r.came.path;
          stopped = inl (sym (goes_alike n r.came.to r.last r.came.comes) ∙ (goes_alike n h r.last r.stands ∙ all.stopped));
          written = subst (AppendsPart old new) (text_alike h r.last r.stands ∙ sym (text_alike r.came.to r.last r.came.comes)) a;
        },
      )
  summed_some (Some f) all a = (
    b.0,
    b.1,
    record {
      first = from;
      begins = b.2.0;
      last = all.refused.last;
      path = leads all.refused.last all.refused.path;
      stopped = inr (subst (λ (x : Held). held_goes_on n x ≡ true) all.refused.marked all.stopped.2, f, all.refused.refused);
      written = subst (λ (x : Held). AppendsPart old new (held_text x)) all.refused.marked a;
    },
  )

pub leads_along : (start : ℕ) (read : Result Loaded Refusal) (from : Held) (b : Begins read (BeginsAt start from)) (x : Held) → RealPath from x → Along b.0 from x
leads_along start read from b x path = runs_along (first_state b.0.policy b.0.images b.0.input) from x b.2.1 path

-- of one that was cut short
pub summed_cut : (f : Fault) (n : ℕ) (read : Result State Refusal) (from h : Held) (k : Counted) (old new : Option (List ℕ)) → Begins read (Stands from) → CountsAll (Some f) n from h k → Appends old new (held_text h) → EndsBy f read old new n
summed_cut f n read from h k old new b all a = subst (λ (x : Fault). EndsBy x read old new n) (sym all.stopped.0)
    (inr (b.0, b.1, writes_prefix old new n b.0 from h b.2 (counted_within (Some f) n from h k all) all.stopped.1 all.stopped.2 a))

-- of one whose text was cut short
pub summed_part : (cut : Option Fault) (n : ℕ) (read : Result State Refusal) (from h : Held) (k : Counted) (old new : Option (List ℕ)) → Begins read (Stands from) → CountsAll cut n from h k → AppendsPart old new (held_text h)
    → EndsBy fault.WriteFault read old new n
summed_part cut n read from h k old new b all a = (b.0, b.1, part_prefix old new n b.0 from h b.2 (counted_within cut n from h k all) (stopped_whole cut n h all.stopped) a)

-- of one whose text is not all written
pub sums_up_short : (f : Fault) (n : ℕ) (read : Result State Refusal) (from h : Held) (old new : Option (List ℕ)) → Begins read (Stands from) → SumsUpShort f n from h old new → EndsBy f read old new n
sums_up_short fault.Memory n read from h old new b (inl kept) = inl kept
sums_up_short fault.Memory n read from h old new b (inr s) = summed_cut fault.Memory n read from h s.counts old new b s.all s.written
sums_up_short fault.WriteFault n read from h old new b s = summed_part s.cut n read from h s.counts old new b s.all s.written
sums_up_short f n read from h old new b s = absurd s

-- by real steps
module _ (Path : Loaded → Held → Held → Type 0) (n start : ℕ) (read : Result Loaded Refusal) (from h : Held) (old new : Option (List ℕ)) (b : Begins read (BeginsAt start from)) (leads : (x : Held) → RealPath from x → Path b.0 from x) where
  pub sums_up_really : (f : Fault) → SumsUpShort f n from h old new → EndsReally Path f read old new n start
  sums_up_really fault.Memory (inl kept) = inl kept
  sums_up_really fault.Memory (inr s) = summed_short Path n start read from h s.counts old new b leads fault.Memory s.all s.written
  sums_up_really fault.WriteFault s = summed_some Path n start read from h s.counts old new b leads s.cut s.all s.written
  sums_up_really f s = absurd s

-- a run that a fault cut short falls short by it
pub falls_short : (f : Fault) (n : ℕ) (from h : Held) (k : Counted) (old new : Option (List ℕ)) → CountsAll (Some f) n from h k → Appends old new (held_text h) → SumsUpShort f n from h old new
falls_short f n from h k old new all a = subst (λ (x : Fault). SumsUpShort x n from h old new) (sym all.stopped.0)
    (inr (record { counts = k; all = subst (λ (x : Fault). CountsAll (Some x) n from h k) all.stopped.0 all; written = a }))

-- of a trace
pub traced_ok : (v : View) (policy : PolicyValue) (s : Sources) (input : List ℕ) (n random : ℕ) (from h : Held) (text : List ℕ) (old new : Option (List ℕ)) → Begins (inputs_under policy s input n random) (Stands from)
    → TracesSummed v policy.pages input text n from h old new → Begins (inputs_under policy s input n random) (WritesTraceSummed v text h old new n)
traced_ok v policy s input n random from h text old new b t =
    let by = t.traces.traces b.0 b.2 in
    let told = by.told in (
      b.0,
      b.1,
      record {
        trace = record {
          last = told.last;
          ends = told.ends;
          processor = told.processor;
          processed = (processor_of_some v n from b.0 told.last told.processor told.processed.0, told.processed.1);
          between = told.between;
          trace = told.trace;
          written = told.written;
        };
        told = told_by policy s input n random b.0 b.1 t.counts h text t.told ∙ ap (λ (c : Counted). summed_text n b.0.characters c h) by.counts;
      },
    )
