-- At the beginning of a run the station stands for the first state.
use Rattle.std.proofs.Common.{◌≡◌, ℕ, ◌+◌, ◌-◌, ◌/◌, ◌<◌, ◌≤◌, ◌^◌, Bool, true, false, List, [], ◌∷◌, length, refl, sym, ap, subst, arith, inl}
use Rattle.std.specs.Prelude.{nat_lt, ◌==◌, ◌&&◌, not}
use Rattle.std.proofs.lemmas.Bool.Decides.{nat_tests}
use Rattle.std.proofs.lemmas.List.{map-set}
use Rattle.ds_tlb.specs.Entries.{empty_entries}
use Rattle.ds_dev.specs.Bus.{BusState}
use Rattle.ds_core.specs.Core.{CoreState}
use Rattle.ds_policy.specs.declared.policy.PolicyProcess.{PolicyProcess}
use Rattle.ds_policy.specs.Value.{PolicyValue, InputValue}
use Rattle.ds_grants.specs.State.{page_state}
use Rattle.ds_tables.specs.Places.{Places}
use Rattle.ds_grants.specs.Words.{WordsHold}
use Rattle.ds_asid.specs.Spaces.{AreApart, at_start}
use Rattle.ds_asid.proofs.Apart.{start_apart, taken_apart}
use Rattle.ds_grants.specs.Buffer.{BufferHolds}
use Rattle.ds_grants.specs.Sound.{NamesPages}
use Rattle.ds_grants.specs.First.{first_grants}
use Rattle.ds_grants.proofs.Fills.{empty_buffer}
use Rattle.ds_pagemap.specs.Machine.{State, Process, no_process, process_of}
use Rattle.ds_pagemap.specs.Boundary.{has_passed}
use Rattle.ds_pagemap.specs.First.{first_state}
use Rattle.ds_pagemap_laws.specs.Settled.{settled_process}
use Rattle.ds_refinement.specs.Held.{Held, Kept, Own, bare, vacated}
use Rattle.ds_refinement.specs.Handling.{HasBase}
use Rattle.ds_refinement.specs.Stands.{Stands, KeptIs, RunningBy, AreResting}
use Rattle.ds_refinement.specs.Counts.{counts_of, fresh_counts, HasNone, HasRanges}
use Rattle.ds_refinement.proofs.Tallied.{UnbegunBy, none_counted}
use Rattle.ds_refinement.specs.First.{IsFirst, first_core, first_bus, first_kept}

-- a state without who runs is kept as the bare state without it
pub vacated_bare : (queue : List ℕ) (m : State) → bare (vacated queue m) ≡ vacated queue (bare m)
vacated_bare [] m = refl
vacated_bare (p ∷ rest) m = ap (λ (qs : List Process). record (bare m) { processes = qs }) (map-set settled_process m.processes (p - 1) no_process)

-- no period has passed in no time
none_passed : (rate now : ℕ) → has_passed rate now now ≡ false
none_passed rate now = by (not (rate == 0))
  where
    same : (n : ℕ) → nat_lt n n ≡ false
    same n = grind (arith, nat_tests)

    by : (b : Bool) → (b && nat_lt (now / 2 ^ (rate + 2)) (now / 2 ^ (rate + 2))) ≡ false
    by true = same (now / 2 ^ (rate + 2))
    by false = refl

module _ (policy : PolicyValue) (images : List (List ℕ)) (input : InputValue) (start : ℕ) (memory : List ℕ) (tables : Places) (ends : ℕ) where
  abbrev m : State
  m = first_state policy images input

  abbrev k : Kept
  k = first_kept policy images input tables ends

  kept : m.memory ≡ page_state (first_grants policy) memory → KeptIs k.state.ready k memory m
  kept pages = record { ready = refl; state = vacated_bare m.ready m; pages = pages; log = refl; lines = refl }

  -- process 1 runs
  running : (ps : List PolicyProcess) → 0 < length ps → policy.processes ≡ ps → RunningBy k.state.ready (first_core (empty_entries 64) start (process_of m 1).pc) k m
  running [] some is = absurd (omega (arith, some))
  running (p ∷ rest) some is = rw is (record {
    seat = (omega arith, omega arith);
    standing = refl;
    kept = refl;
    line = refl;
    number = (let one : 0 < 1 = omega arith in one);
    set = (let small : 2 ^ 6 < 2 ^ 32 = omega arith in record { space = refl; small = small });
    on = record { mode = refl; first = refl; pc = refl; next = refl; registers = inl refl };
  })

  -- its unit is unbegun
  unbegun : (ps : List PolicyProcess) → 0 < length ps → policy.processes ≡ ps → UnbegunBy k.state.ready (first_core (empty_entries 64) start (process_of m 1).pc) m
  unbegun [] some is = absurd (omega (arith, some))
  unbegun (p ∷ rest) some is = rw is (record { mode = refl; first = refl; registers = refl })

  resting : AreResting (first_bus memory policy.rate) k
  resting = record { serial = refl; clock = refl; system = refl; ticked = omega arith; period = none_passed policy.rate 0 }

pub first_stands : (policy : PolicyValue) (images : List (List ℕ)) (input : InputValue) (start : ℕ) (h : Held) → 0 < length policy.processes → NamesPages (first_grants policy) → 8 ≤ start → start < 64 → IsFirst policy images input start h → Stands h (first_state policy images input)
first_stands policy images input start h some named low high f =
    let memory : List ℕ = h.bus.memory in
    let t : Places = h.kept.tables in
    let core : CoreState = first_core (empty_entries 64) start (process_of (first_state policy images input) 1).pc in
    let ends : ℕ = h.kept.ends in
    let k : Kept = first_kept policy images input t ends in
    record {
      agrees = record {
        represented = record {
          buffer = subst (λ (c : CoreState). BufferHolds c.entries h.kept.spaces h.kept.grants t) (sym f.core) (empty_buffer 64 h.kept.spaces h.kept.grants t (omega arith));
          words = subst (λ (x : Kept). WordsHold memory t x.grants) (sym f.kept) f.tables.words;
          places = f.tables.places;
          empty = f.tables.empty;
          spaces = subst (λ (x : Kept). AreApart x.spaces) (sym f.kept) (taken_apart at_start 1 start_apart (omega arith) (omega arith));
        };
        vectors = f.vectors;
        base = subst (λ (c : CoreState). HasBase c.system) (sym f.core) (record { tables = refl; whole = refl });
        grants = subst (λ (x : Kept). NamesPages x.grants) (sym f.kept) named;
        size = f.size;
        kept = subst (λ (x : Kept). KeptIs x.state.ready x memory (first_state policy images input)) (sym f.kept) (kept policy images input start memory t ends f.pages);
        running = subst (λ (x : Kept). RunningBy x.state.ready h.core x (first_state policy images input)) (sym f.kept)
            (subst (λ (c : CoreState). RunningBy k.state.ready c k (first_state policy images input)) (sym f.core) (running policy images input start memory t ends policy.processes some refl));
        devices = subst (λ (x : Kept). AreResting h.bus x) (sym f.kept) (subst (λ (b : BusState). AreResting b k) (sym f.bus) (resting policy images input start memory t ends));
      };
      counted = none_counted h.kept.state.ready h.core h.own h.kept (first_state policy images input)
          (subst (λ (x : Kept). UnbegunBy x.state.ready h.core (first_state policy images input)) (sym f.kept)
          (subst (λ (c : CoreState). UnbegunBy k.state.ready c (first_state policy images input)) (sym f.core) (unbegun policy images input start memory t ends policy.processes some refl)))
          (subst HasNone (sym f.own) refl)
          (subst (λ (o : Own). HasRanges h.core (counts_of o)) (sym f.own)
          (subst (λ (c : CoreState). HasRanges c (fresh_counts 0)) (sym f.core) (record { size = refl; low = low; high = high; turn = omega arith })));
    }
