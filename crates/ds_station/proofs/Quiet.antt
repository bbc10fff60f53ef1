-- What is written, and shown, of a quiet run.
use Rattle.std.proofs.Common.{◌≡◌, ℕ, zero, suc, Bool, true, false, List, [], ◌∷◌, length, map, Option, Result, Ok, Err, refl, sym, ap, ◌∙◌, subst}
use Rattle.std.specs.Prelude.{slice_index_or, flat_map, replicate, OnOk}
use Rattle.std.specs.Io.KnownBytes.{Appends}
use Rattle.ds_log.specs.declared.line.Line.{Line}
use Rattle.ds_log.specs.Text.{line_text}
use Rattle.ds_policy.specs.declared.policy.PolicyProcess.{PolicyProcess}
use Rattle.ds_policy.specs.Value.{PolicyValue, InputValue}
use Rattle.ds_pagemap.specs.Machine.{State, no_process, touch_first, touched}
use Rattle.ds_pagemap.specs.First.{first_process, first_state}
use Rattle.ds_pagemap.specs.Inputs.{Sources, inputs, inputs_under}
use Rattle.ds_pagemap.specs.Run.{goes_on, after, Ends}
use Rattle.ds_pagemap.proofs.Touches.{touched-log, touched-time, goes_on_touched}
use Rattle.ds_refinement.specs.Held.{Held}
use Rattle.ds_refinement.specs.Stands.{Stands}
use Rattle.ds_refinement.specs.Runs.{held_goes_on}
use Rattle.ds_kernel.specs.Inner.Ran.{HasRun}
use Rattle.ds_station.proofs.Runs.{ran_to}
use Rattle.ds_promise.specs.Quiet.{IsQuiet}
use Rattle.ds_promise.specs.Twins.{HaveRegisters}
use Rattle.ds_promise.specs.Inner.Twins.{IsTwin}
use Rattle.ds_promise.proofs.Runs.{quiet_text, run_alike, goes_on_alike}
use Rattle.ds_promise.proofs.Inputs.{first_registers, one_first}
use Rattle.ds_promise.proofs.FirstPages.{made_under}
use Rattle.ds_station.specs.Headline.{Begins, Writes}
use Rattle.ds_station.specs.Written.{WritesUntouched}
use Rattle.ds_station.specs.Inner.Written.{ShowsUntouched}
use Rattle.ds_station.proofs.Headlines.{consoles_stand, time_stands}

-- Texts.

-- what is written of a quiet run is the text of the run that never touches
untouched : (old new : Option (List ℕ)) (n : ℕ) (first : State) → HaveRegisters first → IsQuiet n first → Writes old new n first → WritesUntouched old new n first
untouched old new n first h q w =
    let u = quiet_text n first w.last h q w.ends in
    record { halves = u.0; over = u.2; written = subst (Appends old new) u.1 w.written }

files_quiet : (text : List ℕ) (sources : Sources) (input : List ℕ) (n r s : ℕ) (old new : Option (List ℕ)) (first : State)
    → Begins (inputs text sources input n r) (Writes old new n) → inputs text sources input n s ≡ Ok first → IsQuiet n first → WritesUntouched old new n first
files_quiet text sources input n r s old new first b is q =
    let same : b.0 ≡ first = one_first text sources input n r s b.0 first b.1 is in
    untouched old new n first (first_registers text sources input n s first is) q (subst (Writes old new n) same b.2)

pub files_quiet_if : {T E : Type 0} (result : Result T E) (text : List ℕ) (sources : Sources) (input : List ℕ) (n r s : ℕ) (old new : Option (List ℕ)) (first : State)
    → OnOk result (Begins (inputs text sources input n r) (Writes old new n)) → inputs text sources input n s ≡ Ok first → IsQuiet n first → OnOk result (WritesUntouched old new n first)
files_quiet_if (Ok x) text sources input n r s old new first b is q = files_quiet text sources input n r s old new first b is q
files_quiet_if (Err e) text sources input n r s old new first b is q = tt

-- Under a policy that was read before.

one_value : {A E : Type 0} (x y : A) → ◌≡◌ {A = Result A E} (Ok x) (Ok y) → x ≡ y
one_value x y e = cc

-- where Random starts makes no difference to the first state
pub one_first_under : (policy : PolicyValue) (sources : Sources) (input : List ℕ) (n r s : ℕ) (m t : State) → inputs_under policy sources input n r ≡ Ok m → inputs_under policy sources input n s ≡ Ok t → m ≡ t
one_first_under policy sources input n r s m t h g =
    let a = made_under policy sources input n r m h in
    let b = made_under policy sources input n s t g in
    let images : a.images ≡ b.images = one_value _ _ (sym a.images_are ∙ b.images_are) in
    let events : a.events ≡ b.events = one_value _ _ (sym a.events_are ∙ b.events_are) in
    sym a.is ∙ (ap (λ (is : List (List ℕ)). first_state policy is a.events) images ∙ (ap (λ (e : InputValue). first_state policy b.images e) events ∙ b.is))

first_registers_whole : (ps : List PolicyProcess) (i : ℕ) → length (slice_index_or (map first_process ps) i no_process).registers.general ≡ 32
first_registers_whole [] i = refl
first_registers_whole (p ∷ ps) zero = refl
first_registers_whole (p ∷ ps) (suc i) = first_registers_whole ps i

registers_under : (policy : PolicyValue) (sources : Sources) (input : List ℕ) (n r : ℕ) (m : State) → inputs_under policy sources input n r ≡ Ok m → HaveRegisters m
registers_under policy sources input n r m h = subst HaveRegisters (made_under policy sources input n r m h).is (record { whole = first_registers_whole policy.processes })

policy_quiet : (policy : PolicyValue) (sources : Sources) (input : List ℕ) (n r s : ℕ) (old new : Option (List ℕ)) (first : State)
    → Begins (inputs_under policy sources input n r) (Writes old new n) → inputs_under policy sources input n s ≡ Ok first → IsQuiet n first → WritesUntouched old new n first
policy_quiet policy sources input n r s old new first b is q =
    let same : b.0 ≡ first = one_first_under policy sources input n r s b.0 first b.1 is in
    untouched old new n first (registers_under policy sources input n s first is) q (subst (Writes old new n) same b.2)

pub policy_quiet_if : {T E : Type 0} (result : Result T E) (policy : PolicyValue) (sources : Sources) (input : List ℕ) (n r s : ℕ) (old new : Option (List ℕ)) (first : State)
    → OnOk result (Begins (inputs_under policy sources input n r) (Writes old new n)) → inputs_under policy sources input n s ≡ Ok first → IsQuiet n first → OnOk result (WritesUntouched old new n first)
policy_quiet_if (Ok x) policy sources input n r s old new first b is q = policy_quiet policy sources input n r s old new first b is q
policy_quiet_if (Err e) policy sources input n r s old new first b is q = tt

-- Stations.

touched_consoles : (b : Bool) (m : State) → (touched b m).consoles ≡ m.consoles
touched_consoles true m = of_first m m.ready
  where
    of_first : (m : State) (ready : List ℕ) → (touch_first m ready).consoles ≡ m.consoles
    of_first m [] = refl
    of_first m (p ∷ rest) = refl
touched_consoles false m = refl

-- the run that never touches, as long as another
abbrev untouched_run : ℕ → State → List Bool → State
untouched_run n m choices = after n (replicate (length choices) false) m

shows : (n : ℕ) (m t : State) (h : Held) → HaveRegisters m → IsQuiet n m → Ends n m t → Stands h t → ShowsUntouched n m h
shows n m t h r q e k =
    let choices = e.reached.choices in
    let a = after n choices m in
    let twin : IsTwin (untouched_run n m choices) a = run_alike n m r q choices in
    let to = e.reached.comes_to in
    let logs : t.log ≡ (untouched_run n m choices).log = ap (λ (s : State). s.log) to ∙ (touched-log e.reached.early a ∙ ap (λ (s : State). s.log) twin.is) in
    record {
      halves = length choices;
      over = goes_on_alike n (untouched_run n m choices) a twin ∙ (sym (goes_on_touched n e.reached.early a) ∙ (ap (goes_on n) (sym to) ∙ e.over));
      consoles = sym (consoles_stand h t k) ∙ (ap (λ (s : State). s.consoles) to ∙ (touched_consoles e.reached.early a ∙ ap (λ (s : State). s.consoles) twin.is));
      lines = sym k.agrees.kept.lines ∙ ap (λ (ls : List Line). length ls) logs;
      log = sym k.agrees.kept.log ∙ ap (λ (ls : List Line). flat_map line_text ls) logs;
      time = sym (time_stands h t k) ∙ (ap (λ (s : State). s.time) to ∙ (touched-time e.reached.early a ∙ ap (λ (s : State). s.time) twin.is));
    }

-- what a station shows once a quiet run has come to its end
pub run_shows : (n : ℕ) (m : State) (old new : Held) → HasRun n old new → held_goes_on n new ≡ false → Stands old m → HaveRegisters m → IsQuiet n m → ShowsUntouched n m new
run_shows n m old new ran over k r q = let u = (ran_to n old new ran over).runs m k in shows n m u.0 new r q u.1 u.2
