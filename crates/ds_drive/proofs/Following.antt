-- What is written after the text of a run, and what it came to.
use Rattle.std.proofs.Common.{◌≡◌, ◌∙◌, ℕ, Bool, true, false, ◌||◌, List, [], ◌∷◌, ◌++◌, length, append-nil, refl, sym, ap, subst}
use Rattle.std.specs.Prelude.{Option}
use Rattle.std.specs.Io.KnownBytes.{Appends}
use Rattle.std.proofs.lemmas.Bool.{true≢false}
use Rattle.ds_text.specs.Sent.{AppendsPart}
use Rattle.ds_text.proofs.Sends.{appends_none}
use Rattle.ds_pagemap.specs.Machine.{State}
use Rattle.ds_policy.specs.Grants.{PageState}
use Rattle.ds_refinement.specs.Held.{Held}
use Rattle.ds_refinement.specs.Stands.{Stands}
use Rattle.ds_station.specs.Outcome.{first_unended}
use Rattle.ds_station.specs.Reads.{memory_held}
use Rattle.ds_station.specs.declared.outcome.Unended.{Unended}
use Rattle.ds_station.specs.declared.pieces.Extent.{Extent}
use Rattle.ds_station.specs.declared.pieces.Extent.TheVariants as extent
use Rattle.ds_station.proofs.Standings.{as_many, unended_stands}
use Rattle.ds_words.specs.Windows.{windows_in}
use Rattle.ds_words.specs.declared.windows.Window.{Window}
use Rattle.ds_words.specs.declared.words.Extras.{Extras}
use Rattle.ds_drive.specs.Outcomes.{IsFollowed, came_of, end_told, has_window, left, where_wanted}
use Rattle.ds_drive.specs.Inner.Outcomes.{is_more}
use Rattle.ds_drive.specs.Windows.{window_lines_in, windows_text}
use Rattle.ds_drive.specs.declared.outcome.Came.TheVariants as came
use Rattle.ds_drive.specs.declared.outcome.Outcome.{Outcome}
use Rattle.ds_drive.proofs.Heard.{whole_part}

-- what is kept shows what a state has
pub windows_stand : (h : Held) (m : State) (ws : List Window) → Stands h m → window_lines_in (length h.kept.state.processes) (memory_held h) ws ≡ windows_text m ws
windows_stand h m ws k =
    ap (λ (n : ℕ). window_lines_in n (memory_held h) ws) (sym (as_many h.kept.state.ready m h.kept.state k.agrees.kept.state))
    ∙ ap (λ (s : PageState). window_lines_in (length m.processes) s ws) (sym k.agrees.kept.pages)

-- a front of its lines is one of theirs
pub windows_part : (h : Held) (ws : List Window) (old new : Option (List ℕ)) → AppendsPart old new (window_lines_in (length h.kept.state.processes) (memory_held h) ws)
    → (m : State) → Stands h m → AppendsPart old new (windows_text m ws)
windows_part h ws old new part m k = subst (AppendsPart old new) (windows_stand h m ws k) part

-- and all of them are
pub windows_whole : (h : Held) (ws : List Window) (old new : Option (List ℕ)) → Appends old new (window_lines_in (length h.kept.state.processes) (memory_held h) ws)
    → (m : State) → Stands h m → AppendsPart old new (windows_text m ws)
windows_whole h ws old new all m k = whole_part old new (windows_text m ws) (subst (Appends old new) (windows_stand h m ws k) all)

-- neither of two
neither : (a b : Bool) → (a || b) ≡ false → (a ≡ false) × (b ≡ false)
neither true b is = absurd (true≢false is)
neither false b is = (refl, is)

no_window : (ws : List Window) → has_window ws ≡ false → ws ≡ []
no_window [] none = refl
no_window (w ∷ ws) none = absurd (true≢false none)

nothing_by : (extras : Extras) (summary : List ℕ) (o : Outcome) (known : Option (List ℕ)) (h : Held) (m : State) → extras.must_end ≡ false → windows_in extras.memory ≡ []
    → o.came ≡ came.Done → o.told.items ≡ summary → IsFollowed extras summary o known known (left extent.Whole h m)
nothing_by extras summary o known h m free none done told = record {
  memory = subst (λ (ws : List Window). Appends known known (windows_text m ws)) (sym none) (appends_none known);
  came = done ∙ ap (λ (b : Bool). came_of extent.Whole (where_wanted b (first_unended m))) (sym free);
  told = told ∙ (sym (append-nil summary) ∙ ap (λ (b : Bool). summary ++ end_told extent.Whole h (where_wanted b (first_unended m))) (sym free));
}

-- where nothing is wanted but the text, nothing follows
pub nothing_follows : (extras : Extras) (how : Extent) (summary : List ℕ) (o : Outcome) (known : Option (List ℕ)) (h : Held) (m : State) → is_more extras how ≡ false
    → o.came ≡ came.Done → o.told.items ≡ summary → IsFollowed extras summary o known known (left how h m)
nothing_follows extras extent.TooMuch summary o known h m none done told = absurd (true≢false none)
nothing_follows extras extent.Whole summary o known h m none done told =
    let parts = neither extras.must_end (extras.summary || has_window (windows_in extras.memory)) none in
    let others = neither extras.summary (has_window (windows_in extras.memory)) parts.1 in
    nothing_by extras summary o known h m parts.0 (no_window (windows_in extras.memory) others.1) done told

-- what follows by what is kept follows by a state
pub all_follows : (extras : Extras) (how : Extent) (summary : List ℕ) (o : Outcome) (between new : Option (List ℕ)) (h : Held)
    → Appends between new (window_lines_in (length h.kept.state.processes) (memory_held h) (windows_in extras.memory))
    → o.came ≡ came_of how (where_wanted extras.must_end (first_unended h.kept.state))
    → o.told.items ≡ summary ++ end_told how h (where_wanted extras.must_end (first_unended h.kept.state))
    → (m : State) → Stands h m → IsFollowed extras summary o between new (left how h m)
all_follows extras how summary o between new h memory came told m k = record {
  memory = subst (Appends between new) (windows_stand h m (windows_in extras.memory) k) memory;
  came = came ∙ ap (λ (u : Option Unended). came_of how (where_wanted extras.must_end u)) (unended_stands h m k);
  told = told ∙ ap (λ (u : Option Unended). summary ++ end_told how h (where_wanted extras.must_end u)) (unended_stands h m k);
}
