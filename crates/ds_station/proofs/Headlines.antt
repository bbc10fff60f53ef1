-- From a station's run to the text that is written.
use Rattle.std.proofs.Common.{◌≡◌, ℕ, refl, sym, ◌∙◌, ap, subst, inl, inr, true, false, Bool, List, [], ◌∷◌, length, Option, Result, Ok, Err}
use Rattle.std.specs.Prelude.{Some, OnOk, OnErr, IfErr, None, is_some, ◌||◌, ◌&&◌, nat_lt, not, flat_map, slice_index_or}
use Rattle.std.specs.Io.KnownBytes.{Appends, Keeps}
use Rattle.ds_log.specs.Text.{line_text}
use Rattle.ds_log.specs.Report.{report_text}
use Rattle.ds_text.specs.Sent.{WriterAnswers, AppendsPart, IsAskedOnce}
use Rattle.ds_pagemap.specs.declared.turn.Turn.{Turn}
use Rattle.ds_pagemap.specs.Machine.{State}
use Rattle.ds_pagemap.specs.Run.{Ends, IsPrefix, is_over}
use Rattle.ds_pagemap.specs.Text.{state_text}
use Rattle.ds_pagemap.specs.Inputs.{Refusal}
use Rattle.ds_refinement.specs.Held.{Held, bare}
use Rattle.ds_refinement.specs.Stands.{Stands}
use Rattle.ds_refinement.specs.Real.{RealPath}
use Rattle.ds_refinement.specs.Runs.{RunsTo, held_goes_on}
use Rattle.ds_refinement.specs.Inner.Runs.{RunsWithin}
use Rattle.ds_refinement.proofs.Boundaries.{beside}
use Rattle.ds_refinement.proofs.RunSteps.{goes_alike}
use Rattle.ds_station.specs.Headline.{held_text, Loaded, BeginsWith, Writes, WritesPrefix, WritesPart, WritesReally, WritesCut, WritesPartReally, Refuses, EndsBy, EndsReally, Begins, IsRefused}
use Rattle.ds_station.specs.Faults.{is_unwritten}
use Rattle.ds_station.specs.Inner.Faults.{IsNewFault, IsFaultAfter}
use Rattle.ds_station.specs.Inner.Runs.{IsCut}
use Rattle.ds_station.specs.declared.fault.Fault.{Fault}
use Rattle.ds_station.specs.declared.fault.Fault.TheVariants as fault

-- what a station holds of a state that it stands for
module _ (h : Held) (m : State) (k : Stands h m) where
  kept : record (bare m) { processes = [] } ≡ record h.kept.state { processes = [] }
  kept = beside h.kept.state.ready m h.kept.state k.agrees.kept.state

  pub consoles_stand : m.consoles ≡ h.kept.state.consoles
  consoles_stand = ap (λ (s : State). s.consoles) kept

  pub time_stands : m.time ≡ h.kept.state.time
  time_stands = ap (λ (s : State). s.time) kept

  pub owed_stands : m.owed ≡ h.kept.state.owed
  owed_stands = ap (λ (s : State). s.owed) kept

  -- the text of what is held is that of the state
  pub text_alike : held_text h ≡ state_text m
  text_alike =
      ap (λ (cs : List (List ℕ)). report_text cs h.kept.lines h.kept.log h.kept.state.time) (sym consoles_stand)
      ∙ (ap (λ (n : ℕ). report_text m.consoles n h.kept.log h.kept.state.time) (sym k.agrees.kept.lines)
      ∙ (ap (λ (l : List ℕ). report_text m.consoles (length m.log) l h.kept.state.time) (sym k.agrees.kept.log)
      ∙ ap (λ (t : ℕ). report_text m.consoles (length m.log) (flat_map line_text m.log) t) (sym time_stands)))

-- the report of the four consoles, each read by itself
pub report_of_consoles : (cs : List (List ℕ)) (a b d e : List ℕ) (lines lines' : ℕ) (log log' : List ℕ) (time time' : ℕ) → a ≡ slice_index_or cs 0 [] → b ≡ slice_index_or cs 1 [] → d ≡ slice_index_or cs 2 [] → e ≡ slice_index_or cs 3 [] → lines ≡ lines' → log ≡ log' → time ≡ time' → report_text (a ∷ b ∷ d ∷ e ∷ []) lines log time ≡ report_text cs lines' log' time'
unfolding report_text
report_of_consoles cs a b d e lines lines' log log' time time' p q r s t u v = rw (p, q, r, s, t, u, v) refl

pub never_owed : (o : Option Turn) (rest : Bool) → (is_some o || rest) ≡ false → o ≡ None
never_owed None rest e = refl
never_owed (Some turn) rest e = absurd (cc)

-- a run that has ended owes no boundary
pub ended_whole : (n : ℕ) (m t : State) → Ends n m t → IsPrefix n m t
ended_whole n m t e = record { reached = e.reached; whole = never_owed t.owed (nat_lt t.time n && not (is_over t)) e.over }

module _ (old new : Option (List ℕ)) (n : ℕ) (first : State) (s t : Held) (begins : Stands s first) where
  pub writes_whole : RunsTo n s t → Appends old new (held_text t) → Writes old new n first
  writes_whole r a = let u = r.runs first begins in record { last = u.0; ends = u.1; written = subst (Appends old new) (text_alike t u.0 u.2) a }

  pub writes_prefix : RunsWithin n s t → t.kept.state.owed ≡ None → held_goes_on n t ≡ true → Appends old new (held_text t) → WritesPrefix old new n first
  writes_prefix r o g a = let u = r.runs first begins in record { last = u.0; prefix = record { reached = u.1; whole = owed_stands t u.0 u.2 ∙ o }; going = goes_alike n t u.0 u.2 ∙ g; written = subst (Appends old new) (text_alike t u.0 u.2) a }

  pub part_whole : RunsTo n s t → AppendsPart old new (held_text t) → WritesPart old new n first
  part_whole r a = let u = r.runs first begins in record { last = u.0; prefix = ended_whole n first u.0 u.1; written = subst (AppendsPart old new) (text_alike t u.0 u.2) a }

  pub part_prefix : RunsWithin n s t → t.kept.state.owed ≡ None → AppendsPart old new (held_text t) → WritesPart old new n first
  part_prefix r o a = let u = r.runs first begins in record { last = u.0; prefix = record { reached = u.1; whole = owed_stands t u.0 u.2 ∙ o }; written = subst (AppendsPart old new) (text_alike t u.0 u.2) a }

  -- whatever the run answered
  pub part_written : (ran : Result (Unit {0}) Fault) → OnOk ran (RunsTo n s t) → OnErr ran (RunsWithin n s t) → OnErr ran (t.kept.state.owed ≡ None) → AppendsPart old new (held_text t) → WritesPart old new n first
  part_written (Ok x) r w o a = part_whole r a
  part_written (Err f) r w o a = part_prefix w o a

-- what the processor did in a run that ended, where real steps are a path
pub really_if : (Path : Loaded → Held → Held → Type 0) (ran : Result (Unit {0}) Fault) (old new : Option (List ℕ)) (n start : ℕ) (read : Result Loaded Refusal) (s t : Held) (b : Begins read (BeginsWith start s)) → (RealPath s t → Path b.0 s t)
    → OnOk ran (RealPath s t) → OnOk ran (held_goes_on n t ≡ false) → Appends old new (held_text t) → OnOk ran (Begins read (WritesReally Path old new n start))
really_if Path (Ok x) old new n start read s t b leads path over a = (b.0, b.1, record { first = s; begins = b.2; last = t; path = leads path; over = over; written = a })
really_if Path (Err f) old new n start read s t b leads path over a = tt

-- what a new fault of the run ends by
pub fault_written : (f : Fault) (read : Result State Refusal) (old new : Option (List ℕ)) (n : ℕ) → IsNewFault f → Begins read (WritesPrefix old new n) → EndsBy f read old new n
fault_written fault.Memory read old new n i b = inr b
fault_written f read old new n i b = absurd i

-- a writer that is not asked has no new answer
unasked : (asked : Option WriterAnswers) → IsAskedOnce asked asked false
unasked None = tt
unasked (Some a) = λ going. (going, refl)

new_asked : (f : Fault) (old new : Option WriterAnswers) → IsNewFault f → IsAskedOnce old new false → IsAskedOnce old new (is_unwritten {T = Unit {0}} (Err f))
new_asked fault.Memory old new i asked = asked
new_asked f old new i asked = absurd i

-- what refused inputs end by
pub refused_unwritten : (f : Fault) (read : Result State Refusal) (old new : Option (List ℕ)) (n : ℕ) → Refuses f read → Keeps old new → EndsBy f read old new n
refused_unwritten fault.Memory read old new n i k = inl k
refused_unwritten fault.Stuck read old new n i k = absurd i
refused_unwritten fault.WriteFault read old new n i k = absurd i
refused_unwritten fault.Failed read old new n i k = absurd i
refused_unwritten f read old new n i k = (i, k)

-- where the inputs are refused the writer is not asked
pub refused_unasked : {Y : Type 0} (f : Fault) (read : Result Y Refusal) (asked : Option WriterAnswers) → Refuses f read → IsAskedOnce asked asked (is_unwritten {T = Unit {0}} (Err f))
refused_unasked fault.WriteFault read asked i = absurd i
refused_unasked f read asked i = unasked asked

-- a text that went out, of a run that failed for no write
pub ran_asked : (ran : Result (Unit {0}) Fault) (failed : Bool) (old new : Option WriterAnswers) → failed ≡ false → IfErr ran (IsFaultAfter failed) → IsAskedOnce old new false → IsAskedOnce old new (is_unwritten ran)
ran_asked (Ok x) failed old new working faults asked = asked
ran_asked (Err f) failed old new working faults asked = new_asked f old new (subst (λ (b : Bool). IsFaultAfter b f) working faults) asked

-- how a run that fell short ends
pub ran_short : {T : Type 0} (r : Result T Fault) (failed : Bool) (n : ℕ) (s t : Held) (read : Result State Refusal) (old new : Option (List ℕ)) → failed ≡ false → IfErr r (IsFaultAfter failed) → OnErr r (RunsWithin n s t) → OnErr r (t.kept.state.owed ≡ None) → OnErr r (held_goes_on n t ≡ true) → Begins read (Stands s) → Appends old new (held_text t) → IfErr r (λ f. EndsBy f read old new n)
ran_short (Ok x) failed n s t read old new working faults within whole going b a = tt
ran_short (Err f) failed n s t read old new working faults within whole going b a =
    fault_written f read old new n (subst (λ (x : Bool). IsFaultAfter x f) working faults) (b.0, b.1, writes_prefix old new n b.0 s t b.2 within whole going a)

-- what the processor did in a run from a station that began with the inputs, where real steps are a path
module _ (Path : Loaded → Held → Held → Type 0) (n start : ℕ) (read : Result Loaded Refusal) (s t : Held) (old new : Option (List ℕ)) (b : Begins read (BeginsWith start s)) (leads : (x : Held) → RealPath s x → Path b.0 s x) where
  cut_text : (f : Fault) → IsCut f s t → held_goes_on n t ≡ true → Appends old new (held_text t) → WritesCut Path f old new n start b.0
  cut_text f cut going a = record {
    first = s;
    begins = b.2;
    last = cut.last;
    path = leads cut.last cut.path;
    going = subst (λ (h : Held). held_goes_on n h ≡ true) cut.marked going;
    refused = cut.refused;
    written = subst (λ (h : Held). Appends old new (held_text h)) cut.marked a;
  }

  new_cut : (f : Fault) → IsNewFault f → IsCut f s t → held_goes_on n t ≡ true → Appends old new (held_text t) → EndsReally Path f read old new n start
  new_cut fault.Memory i cut going a = inr (b.0, b.1, cut_text fault.Memory cut going a)
  new_cut f i cut going a = absurd i

  -- where it was cut short
  pub cut_really : (ran : Result (Unit {0}) Fault) → s.own.failed ≡ false → IfErr ran (IsFaultAfter s.own.failed) → IfErr ran (λ f. IsCut f s t) → OnErr ran (held_goes_on n t ≡ true)
      → Appends old new (held_text t) → IfErr ran (λ f. EndsReally Path f read old new n start)
  cut_really (Ok x) working faults cut going a = tt
  cut_really (Err f) working faults cut going a = new_cut f (subst (λ (failed : Bool). IsFaultAfter failed f) working faults) cut going a

  -- where a part of its text is written
  pub part_really : (ran : Result (Unit {0}) Fault) → OnOk ran (RealPath s t) → OnOk ran (held_goes_on n t ≡ false) → IfErr ran (λ f. IsCut f s t) → OnErr ran (held_goes_on n t ≡ true)
      → AppendsPart old new (held_text t) → WritesPartReally Path old new n start b.0
  part_really (Ok x) path over cut going a = record { first = s; begins = b.2; last = t; path = leads t path; stopped = inl over; written = a }
  part_really (Err f) path over cut going a = record {
    first = s;
    begins = b.2;
    last = cut.last;
    path = leads cut.last cut.path;
    stopped = inr (subst (λ (h : Held). held_goes_on n h ≡ true) cut.marked going, f, cut.refused);
    written = subst (λ (h : Held). AppendsPart old new (held_text h)) cut.marked a;
  }

-- where the inputs are refused, it did nothing
pub refused_really : {Y : Type 0} (Path : Loaded → Held → Held → Type 0) (f : Fault) (any : Result Y Refusal) (read : Result Loaded Refusal) (old new : Option (List ℕ)) (n start : ℕ) → Refuses f any → Keeps old new → EndsReally Path f read old new n start
refused_really Path fault.Memory any read old new n start i k = inl k
refused_really Path fault.WriteFault any read old new n start i k = absurd i
refused_really Path f any read old new n start i k = tt

-- what was begun was not refused
begun_not : (read : Result State Refusal) (P : State → Type 0) (r : Refusal) → Begins read P → read ≡ Err r → ⊥
begun_not read P r b e = let no : Ok b.0 ≡ Err r = sym b.1 ∙ e in cc

ends_refused : (f : Fault) (read : Result State Refusal) (old new : Option (List ℕ)) (n : ℕ) (r : Refusal) → read ≡ Err r → EndsBy f read old new n → Refuses f read × Keeps old new
ends_refused fault.Memory read old new n r e (inl k) = (tt, k)
ends_refused fault.Memory read old new n r e (inr w) = absurd (begun_not read _ r w e)
ends_refused fault.Stuck read old new n r e w = absurd w
ends_refused fault.WriteFault read old new n r e w = absurd (begun_not read _ r w e)
ends_refused fault.Failed read old new n r e w = absurd w
ends_refused f read old new n r e w = w

-- an answer that is good for any inputs refuses those that are refused
pub refused_only : {T : Type 0} (result : Result T Fault) (read : Result State Refusal) (old new : Option (List ℕ)) (n : ℕ) → OnOk result (Begins read (Writes old new n)) → IfErr result (λ f. EndsBy f read old new n) → (r : Refusal) → read ≡ Err r → IsRefused result r old new
refused_only (Ok x) read old new n ok err r e = absurd (begun_not read (Writes old new n) r ok e)
refused_only (Err f) read old new n ok err r e = let w = ends_refused f read old new n r e err in (subst (Refuses f) e w.0, w.1)

pub keeps_same : (known : Option (List ℕ)) → Keeps known known
keeps_same None = tt
keeps_same (Some bytes) = refl
