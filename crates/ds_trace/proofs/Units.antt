-- The lines of a unit, by what a station holds.
use Rattle.std.proofs.Common.{◌≡◌, ◌∙◌, ℕ, List, ◌++◌, sym, ap, drop, Option, Some}
use Rattle.ds_refinement.specs.Held.{Held}
use Rattle.ds_words.specs.declared.view.View.{View}
use Rattle.ds_trace.specs.declared.start.Start.{Start}
use Rattle.ds_trace.specs.Looks.{Looked}
use Rattle.ds_trace.specs.Lines.{unit_told}
use Rattle.ds_trace.specs.Halves.{done_text, changed_entries_text, process_of_start}
use Rattle.ds_trace.specs.Inner.Shows.{found_held}
use Rattle.ds_trace.proofs.Adding.{joined}

-- with the entries that it changed
pub unit_done : (v : View) (b : Looked) (h : Held) (s : Start) (logged old between new : List ℕ) → b.start ≡ Some s → logged ≡ drop b.logged h.kept.log
    → between ≡ old ++ unit_told v s logged (found_held s.process h) → new ≡ between ++ changed_entries_text v b (found_held (process_of_start b.start) h)
    → new ≡ old ++ done_text v b (found_held (process_of_start b.start) h) b.start
unit_done v b h s logged old between new is since told adds =
    joined old (unit_told v s logged (found_held s.process h)) (changed_entries_text v b (found_held (process_of_start b.start) h)) between new told adds
    ∙ (ap (λ (l : List ℕ). old ++ (unit_told v s l (found_held s.process h) ++ changed_entries_text v b (found_held (process_of_start b.start) h))) since
    ∙ (ap (λ (o : Option Start). old ++ (unit_told v s (drop b.logged h.kept.log) (found_held s.process h) ++ changed_entries_text v b (found_held (process_of_start o) h))) is
    ∙ sym (ap (λ (o : Option Start). old ++ done_text v b (found_held (process_of_start o) h) o) is)))
