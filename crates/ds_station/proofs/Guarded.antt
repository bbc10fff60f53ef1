-- Along what is run pages change only as granted, and the log has a line for each denial.
use Rattle.std.proofs.Common.{◌≡◌, ℕ, List, [], ◌++◌, Option, Result, Ok, Err, inl, inr, sym, ap, ◌∙◌}
use Rattle.std.specs.Prelude.{OnOk, IfErr}
use Rattle.ds_log.specs.declared.line.Line.{Line}
use Rattle.ds_policy.specs.Value.{PolicyValue}
use Rattle.ds_pagemap.specs.Machine.{State}
use Rattle.ds_pagemap.specs.First.{first_state}
use Rattle.ds_pagemap.specs.Inputs.{Refusal, Sources, inputs, inputs_under}
use Rattle.ds_pagemap.specs.Run.{Reaches}
use Rattle.ds_pagemap_laws.proofs.FirstStates.{made}
use Rattle.ds_refinement.specs.Held.{Held}
use Rattle.ds_refinement.specs.Inner.Runs.{RunsWithin}
use Rattle.ds_kernel.specs.declared.halt.Halt.{Halt}
use Rattle.ds_kernel.specs.Inner.Ran.{HasRun, WasCut}
use Rattle.ds_station.proofs.Runs.{cut_within}
use Rattle.ds_promise.specs.Lines.{lines_along}
use Rattle.ds_promise.proofs.Stores.{along_only_stores}
use Rattle.ds_promise.proofs.Lines.{reaches_lines}
use Rattle.ds_promise.proofs.Copies.{along_as_granted}
use Rattle.ds_promise.proofs.FirstPages.{inputs_whole, made_under}
use Rattle.ds_station.specs.Headline.{Begins, Writes, WritesPrefix, WritesPart, EndsBy}
use Rattle.ds_station.specs.Written.{IsGuarded, IsGuardedFromFirst, WritesGuarded, WritesWholeGuarded, WritesGuardedPrefix, WritesGuardedPart, EndsGuarded}
use Rattle.ds_station.specs.Inner.Written.{RunsGuarded}
use Rattle.ds_station.specs.declared.fault.Fault.{Fault}
use Rattle.ds_station.specs.declared.fault.Fault.TheVariants as fault

-- Between two states.

abbrev is_guarded : (n : ℕ) (m t : State) → Reaches n m t → IsGuarded n m t
is_guarded n m t r = record { reached = r; stores = along_only_stores n r.choices m; changes = λ whole. along_as_granted n r.choices m whole; lines = reaches_lines n m t r }

runs_within_guarded : (n : ℕ) (old new : Held) → RunsWithin n old new → RunsGuarded n old new
runs_within_guarded n old new r = record { runs = λ m k. let u = r.runs m k in (u.0, is_guarded n m u.0 u.1, u.2) }

-- a run that came to its end
pub run_guarded : (n : ℕ) (old new : Held) → HasRun n old new → RunsGuarded n old new
run_guarded n old new r = runs_within_guarded n old new r.within

-- a run that was cut short
pub cut_guarded : (n : ℕ) (h : Halt) (old new : Held) → WasCut n h old new → RunsGuarded n old new
cut_guarded n h old new w = runs_within_guarded n old new (cut_within n h old new w)

-- From a first state.

from_first : (n : ℕ) (m t : State) → m.log ≡ [] → Reaches n m t → IsGuardedFromFirst n m t
from_first n m t none r = record {
  guarded = is_guarded n m t r;
  log = reaches_lines n m t r ∙ ap (λ (ls : List Line). ls ++ lines_along n r.choices m) none;
}

-- nothing is logged in a first state
inputs_log : (text : List ℕ) (sources : Sources) (input : List ℕ) (n r : ℕ) (m : State) → inputs text sources input n r ≡ Ok m → m.log ≡ []
unfolding inputs
inputs_log text sources input n r m h = ap (λ (s : State). s.log) (sym (made first_state text sources input n r m h).is)

under_log : (policy : PolicyValue) (sources : Sources) (input : List ℕ) (n r : ℕ) (m : State) → inputs_under policy sources input n r ≡ Ok m → m.log ≡ []
under_log policy sources input n r m h = ap (λ (s : State). s.log) (sym (made_under policy sources input n r m h).is)

module _ (old new : Option (List ℕ)) (n : ℕ) (read : Result State Refusal) (none : (m : State) → read ≡ Ok m → m.log ≡ []) where
  whole_guarded : Begins read (Writes old new n) → Begins read (WritesGuarded old new n)
  whole_guarded b = let w = b.2 in (b.0, b.1, record { last = w.last; way = from_first n b.0 w.last (none b.0 b.1) w.ends.reached; over = w.ends.over; written = w.written })

  prefix_guarded : Begins read (WritesPrefix old new n) → Begins read (WritesGuardedPrefix old new n)
  prefix_guarded b = let w = b.2 in (b.0, b.1, record { last = w.last; way = from_first n b.0 w.last (none b.0 b.1) w.prefix.reached; whole = w.prefix.whole; going = w.going; written = w.written })

  part_guarded : Begins read (WritesPart old new n) → Begins read (WritesGuardedPart old new n)
  part_guarded b = let w = b.2 in (b.0, b.1, record { last = w.last; way = from_first n b.0 w.last (none b.0 b.1) w.prefix.reached; whole = w.prefix.whole; written = w.written })

  ends_guarded : (f : Fault) → EndsBy f read old new n → EndsGuarded f read old new n
  ends_guarded fault.Memory (inl k) = inl k
  ends_guarded fault.Memory (inr b) = inr (prefix_guarded b)
  ends_guarded fault.Stuck b = absurd b
  ends_guarded fault.WriteFault b = part_guarded b
  ends_guarded fault.Failed b = absurd b
  ends_guarded f b = b.1

  ok_guarded : {T E : Type 0} (result : Result T E) → OnOk result (Begins read (Writes old new n)) → OnOk result (Begins read (WritesGuarded old new n))
  ok_guarded (Ok x) b = whole_guarded b
  ok_guarded (Err e) b = tt

  err_guarded : {T : Type 0} (result : Result T Fault) → IfErr result (λ f. EndsBy f read old new n) → IfErr result (λ f. EndsGuarded f read old new n)
  err_guarded (Ok x) b = tt
  err_guarded (Err f) b = ends_guarded f b

pub files_guarded_if : {T E : Type 0} (result : Result T E) (text : List ℕ) (sources : Sources) (input : List ℕ) (n r : ℕ) (old new : Option (List ℕ))
    → OnOk result (Begins (inputs text sources input n r) (Writes old new n)) → OnOk result (Begins (inputs text sources input n r) (WritesWholeGuarded old new n))
files_guarded_if (Ok x) text sources input n r old new b =
    let g = whole_guarded old new n (inputs text sources input n r) (λ m h. inputs_log text sources input n r m h) b in
    (g.0, g.1, (inputs_whole text sources input n r g.0 g.1, g.2))
files_guarded_if (Err e) text sources input n r old new b = tt

pub files_cut_if : {T : Type 0} (result : Result T Fault) (text : List ℕ) (sources : Sources) (input : List ℕ) (n r : ℕ) (old new : Option (List ℕ))
    → IfErr result (λ f. EndsBy f (inputs text sources input n r) old new n) → IfErr result (λ f. EndsGuarded f (inputs text sources input n r) old new n)
files_cut_if result text sources input n r old new b = err_guarded old new n (inputs text sources input n r) (λ m h. inputs_log text sources input n r m h) result b

pub policy_guarded_if : {T E : Type 0} (result : Result T E) (policy : PolicyValue) (sources : Sources) (input : List ℕ) (n r : ℕ) (old new : Option (List ℕ))
    → OnOk result (Begins (inputs_under policy sources input n r) (Writes old new n)) → OnOk result (Begins (inputs_under policy sources input n r) (WritesGuarded old new n))
policy_guarded_if result policy sources input n r old new b = ok_guarded old new n (inputs_under policy sources input n r) (λ m h. under_log policy sources input n r m h) result b

pub policy_cut_if : {T : Type 0} (result : Result T Fault) (policy : PolicyValue) (sources : Sources) (input : List ℕ) (n r : ℕ) (old new : Option (List ℕ))
    → IfErr result (λ f. EndsBy f (inputs_under policy sources input n r) old new n) → IfErr result (λ f. EndsGuarded f (inputs_under policy sources input n r) old new n)
policy_cut_if result policy sources input n r old new b = err_guarded old new n (inputs_under policy sources input n r) (λ m h. under_log policy sources input n r m h) result b
