-- Along a path of real steps goes one run of the machine.
use Rattle.std.proofs.Common.{◌≡◌, ℕ, List, [], ◌∷◌, Result, Ok, Err, refl, sym, ap, ◌∙◌, subst}
use Rattle.ds_policy.specs.Value.{PolicyValue}
use Rattle.ds_pagemap.specs.Machine.{State}
use Rattle.ds_pagemap.specs.First.{first_state}
use Rattle.ds_pagemap.specs.Inputs.{Refusal, Sources, inputs_under, inputs_under_by}
use Rattle.ds_refinement.specs.Held.{Held, Kept, Own}
use Rattle.ds_core.specs.Core.{CoreState}
use Rattle.ds_refinement.specs.Real.{Through, RealPath}
use Rattle.ds_refinement.specs.Stands.{CountedBy, Stands}
use Rattle.ds_station.specs.Along.{Both, ShowsRunner, ShowsState, StepsAlong, ThroughBoth, RunsAlong}
use Rattle.ds_station.specs.Headline.{Begins, BeginsWith, Loaded, loaded_with}
use Rattle.ds_station.proofs.Preparing.{both_made}

-- A station shows each state that it stands for.

runner_by : (queue : List ℕ) (h : Held) (m : State) → CountedBy queue h.core h.own h.kept m → ShowsRunner queue h m
runner_by [] h m counted = tt
runner_by (p ∷ rest) h m counted = counted.1

shows : (h : Held) (m : State) → Stands h m → ShowsState h m
shows h m k = record { kept = k.agrees.kept; runner = runner_by h.kept.state.ready h m k.counted }

-- A run along a path.

abbrev both : Held → State → Both
both h m = record { held = h; state = m }

-- a state that the station stands for at the end of a path, and the steps to it
record Comes (first : State) (old new : Held) : Type 0 where
  pub path : List Both
  pub last : State
  pub through : ThroughBoth (both old first) path (both new last)
  pub stands : Stands new last

comes : (first : State) (old new : Held) (path : List Held) → Stands old first → Through old path new → Comes first old new
comes first old new [] k t = record { path = []; last = first; through = ap (λ (h : Held). both h first) t; stands = subst (λ (h : Held). Stands h first) (sym t) k }
comes first old new (last ∷ before) k t =
    let done = comes first old last before k t.1 in
    let next = t.0.1.follows done.last done.stands in
    record {
      path = both last done.last ∷ done.path;
      last = next.0;
      through = (record { real = t.0.3; kind = t.0.0; machine = next.1; shows = shows new next.0 next.2 }, done.through);
      stands = next.2;
    }

pub runs_along : (first : State) (old new : Held) → Stands old first → RealPath old new → RunsAlong first old new
runs_along first old new k path =
    let done = comes first old new path.path k path.through in
    record { shows = shows old first k; path = done.path; last = done.last; through = done.through }

-- a station that stands for the first state, and began with the inputs, stands for the first state of these
pub begun_stands : (policy : PolicyValue) (s : Sources) (input : List ℕ) (n r : ℕ) (h : Held) → Begins (inputs_under policy s input n r) (Stands h) → (b : Begins (inputs_under_by loaded_with policy s input n r) (BeginsWith r h))
    → Stands h (first_state b.0.policy b.0.images b.0.input)
begun_stands policy s input n r h a b =
    let read = both_made policy s input n r b.0 b.1 in
    let same : a.0 ≡ first_state b.0.policy b.0.images b.0.input = (let it : ◌≡◌ {A = Result State Refusal} (Ok a.0) (Ok (first_state b.0.policy b.0.images b.0.input)) = sym a.1 ∙ read in cc) in
    subst (Stands h) same a.2
