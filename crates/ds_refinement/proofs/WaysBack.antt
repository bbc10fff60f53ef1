-- The service of a double miss goes back to the unit.
use Rattle.std.proofs.Common.{◌≡◌, ◌≢◌, ℕ, ◌-◌, ◌<◌, ◌≤◌, Bool, true, false, cond, List, [], ◌∷◌, refl, sym, ap, subst, ◌∙◌, arith}
use Rattle.std.specs.Prelude.{slice_index}
use Rattle.ds_word.specs.Word.{bits}
use Rattle.ds_tables.specs.Places.{page_of_table}
use Rattle.ds_grants.specs.Buffer.{read_only}
use Rattle.ds_pagemap.specs.Machine.{State, touched}
use Rattle.ds_refinement.specs.declared.step.Step.TheVariants.{Inside}
use Rattle.ds_refinement.specs.Held.{Held}
use Rattle.ds_refinement.specs.Units.{is_served, has_left_user}
use Rattle.ds_refinement.specs.Handling.{InDouble}
use Rattle.ds_refinement.specs.Stands.{Stands, CountedBy}
use Rattle.ds_refinement.specs.Inner.Stands.{IsSound}
use Rattle.ds_refinement.specs.Steps.{Follows}
use Rattle.ds_refinement.specs.Inner.Services.{with_table_page}
use Rattle.ds_refinement.specs.Real.{GoesBack}
use Rattle.ds_refinement.proofs.Standing.{first_ready, served_is, waits}
use Rattle.ds_refinement.proofs.Tallied.{has_begun, tallied_of, ranges_of}
use Rattle.ds_refinement.proofs.WordTallies.{double_tallied}
use Rattle.ds_refinement.proofs.Doubles.{names_kernel, names_few, page_answers, double_returns}

-- somebody is ready in the machine where somebody is in the station
pub still_ready : (h : Held) (m : State) → Stands h m → h.kept.state.ready ≢ [] → m.ready ≢ []
still_ready h m k some = λ none. some (sym k.agrees.kept.ready ∙ none)

pub double_follows : (h : Held) (p : ℕ) (rest : List ℕ) → h.kept.state.ready ≡ p ∷ rest → is_served h.core ≡ true → has_left_user h.core ≡ false → Follows Inside h (with_table_page h p)
double_follows h p rest ready served nested = record {
  follows = λ m k. (
    touched true m,
    (still_ready h m k (λ none. (let no : [] ≡ p ∷ rest = sym none ∙ ready in absurd cc)), true, refl),
    record {
      agrees = double_returns h m p rest k.agrees ready h.own.wired (with_table_page h p).own (waits h m p rest k.agrees ready false served nested);
      counted = subst (λ (ps : List ℕ). CountedBy ps (with_table_page h p).core (with_table_page h p).own h.kept (touched true m)) (sym ready)
          (double_tallied h m p rest k.agrees ready (tallied_of h m p rest k ready) served nested, λ none. absurd (has_begun h m p rest k ready (served_is h.core served).0 none));
    },
  );
}

module _ (h : Held) (p : ℕ) (rest : List ℕ) (sound : IsSound h) (ready : h.kept.state.ready ≡ p ∷ rest) (served : is_served h.core ≡ true) (nested : has_left_user h.core ≡ false) where
  abbrev m : State
  m = sound.state

  doubled : InDouble h.core h.kept p sound.state
  doubled = waits h m p rest sound.stands.agrees ready false served nested

  pub double_goes : GoesBack h (with_table_page h p)
  double_goes = record {
    mode = refl;
    address = ap (λ (b : Bool). cond b h.core.system.epc (slice_index h.core.registers.general 27)) (sym nested);
    pages = refl;
    devices = refl;
    answered = λ again. (h.own.wired, page_answers h m p rest sound.stands.agrees ready h.own.wired (let few = (ranges_of h m sound.stands).turn in omega (arith, few)) doubled);
    written = λ again. (read_only (page_of_table h.kept.tables p (bits h.core.system.entry_hi 12 20 - 0xC0000)), refl);
    rewritten = λ left. (let no : false ≡ true = sym nested ∙ left in absurd cc);
  }

  first_page : 0xC0000 ≤ bits h.core.system.entry_hi 12 20
  first_page = names_kernel h m p rest sound.stands.agrees ready doubled

  few_pages : bits h.core.system.entry_hi 12 20 - 0xC0000 < 512
  few_pages = names_few h m p rest sound.stands.agrees ready doubled

pub double_page : (h : Held) → IsSound h → h.kept.state.ready ≢ [] → is_served h.core ≡ true → has_left_user h.core ≡ false → 0xC0000 ≤ bits h.core.system.entry_hi 12 20
double_page h sound some served nested = let first = first_ready h.kept.state.ready some in first_page h first.0 first.1 sound first.2 served nested

pub double_few : (h : Held) → IsSound h → h.kept.state.ready ≢ [] → is_served h.core ≡ true → has_left_user h.core ≡ false → bits h.core.system.entry_hi 12 20 - 0xC0000 < 512
double_few h sound some served nested = let first = first_ready h.kept.state.ready some in few_pages h first.0 first.1 sound first.2 served nested
