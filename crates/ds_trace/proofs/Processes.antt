-- Processes, one after another.
use Rattle.std.proofs.Common.{◌≡◌, ◌∙◌, ℕ, ◌+◌, ◌-◌, ◌<◌, ◌≤◌, suc, List, [], ◌∷◌, ◌++◌, append_assoc, length, drop, get_or, map, option_map, sym, ap, arith, Some, None}
use Rattle.std.specs.Prelude.{Option, slice_get}
use Rattle.std.proofs.lemmas.List.{drop_all, drop_more, drop-map}
use Rattle.std.proofs.lemmas.Option.{slice_get-get_or, slice_get-map, slice_get_past}
use Rattle.ds_listing.specs.declared.names.RegisterNames.{RegisterNames}
use Rattle.ds_procs.specs.declared.process.Standing.{Standing}
use Rattle.ds_pagemap.specs.Machine.{State, Process, process_of, no_process}
use Rattle.ds_refinement.specs.Held.{Held}
use Rattle.ds_station.specs.Reads.{address_held, general_held}
use Rattle.ds_words.specs.declared.view.View.{View}
use Rattle.ds_trace.specs.Changes.{standing_line, standings_text}
use Rattle.ds_trace.specs.Ends.{process_text}
use Rattle.ds_trace.specs.Inner.Shows.{processes_held}

-- how each of them stands
abbrev pub standings_of : List Process → List Standing
standings_of ps = map (λ q. q.standing) ps

-- a process, and those after it
pub processes_from : (m : State) (p : ℕ) → 0 < p → p < length m.processes + 1 → drop (p - 1) m.processes ≡ process_of m p ∷ drop (p + 1 - 1) m.processes
processes_from m p above within =
    drop_more m.processes (p - 1) no_process (omega (arith, above, within))
    ∙ ap (λ (n : ℕ). process_of m p ∷ drop n m.processes) (omega (arith, above))

-- how the process at a place stands, where there is one
pub standing_at : (m : State) (i : ℕ) (s : Standing) → i < length m.processes → s ≡ (process_of m (i + 1)).standing → slice_get (standings_of m.processes) i ≡ Some s
standing_at m i s within is =
    let here : i + 1 - 1 ≡ i = omega arith in
    slice_get-map (λ (q : Process). q.standing) m.processes i
    ∙ (ap (option_map (λ (q : Process). q.standing)) (slice_get-get_or m.processes i no_process within)
    ∙ ap Some (sym (is ∙ ap (λ (n : ℕ). (get_or m.processes n no_process).standing) here)))

-- and else nothing
pub standing_past : (m : State) (i : ℕ) → length m.processes ≤ i → slice_get (standings_of m.processes) i ≡ None
standing_past m i past =
    slice_get-map (λ (q : Process). q.standing) m.processes i
    ∙ ap (option_map (λ (q : Process). q.standing)) (slice_get_past m.processes i past)

-- how a process stands, and those after it
pub standings_from : (m : State) (p : ℕ) → 0 < p → p < length m.processes + 1
    → drop (p - 1) (standings_of m.processes) ≡ (process_of m p).standing ∷ drop (p + 1 - 1) (standings_of m.processes)
standings_from m p above within =
    drop-map (λ (q : Process). q.standing) (p - 1) m.processes
    ∙ (ap standings_of (processes_from m p above within)
    ∙ ap (λ (rest : List Standing). (process_of m p).standing ∷ rest) (sym (drop-map (λ (q : Process). q.standing) (p + 1 - 1) m.processes)))

-- after the last there is none
pub standings_none : (m : State) (p : ℕ) → length m.processes + 1 ≤ p → drop (p - 1) (standings_of m.processes) ≡ []
standings_none m p past =
    drop-map (λ (q : Process). q.standing) (p - 1) m.processes
    ∙ ap standings_of (drop_all (p - 1) m.processes (omega (arith, past)))

-- one more of them
pub standings_more : (m : State) (p : ℕ) (old new whole : List Standing) (s : Standing) → 0 < p → p < length m.processes + 1 → s ≡ (process_of m p).standing → new ≡ old ++ s ∷ []
    → old ++ drop (p - 1) (standings_of m.processes) ≡ whole → new ++ drop (p + 1 - 1) (standings_of m.processes) ≡ whole
standings_more m p old new whole s above within is adds before =
    let rest : List Standing = drop (p + 1 - 1) (standings_of m.processes) in
    ap (λ (l : List Standing). l ++ rest) (adds ∙ ap (λ (x : Standing). old ++ x ∷ []) is)
    ∙ (append_assoc old ((process_of m p).standing ∷ []) rest
    ∙ (sym (ap (λ (l : List Standing). old ++ l) (standings_from m p above within)) ∙ before))

-- the line of one more of them that may stand otherwise
pub changes_more : (v : View) (m : State) (time t : ℕ) (olds : List Standing) (p : ℕ) (line new whole : List ℕ) (old : Option Standing) (s : Standing) → 0 < p → p < length m.processes + 1 → t ≡ time → old ≡ slice_get olds (p - 1) → s ≡ (process_of m p).standing
    → new ≡ line ++ standing_line v t p old s → line ++ standings_text v time olds p (drop (p - 1) (standings_of m.processes)) ≡ whole
    → new ++ standings_text v time olds (p + 1) (drop (p + 1 - 1) (standings_of m.processes)) ≡ whole
changes_more v m time t olds p line new whole old s above within now was is adds before =
    let rest : List ℕ = standings_text v time olds (p + 1) (drop (p + 1 - 1) (standings_of m.processes)) in
    let text : standing_line v t p old s ≡ standing_line v time p (slice_get olds (p - 1)) (process_of m p).standing =
    ap (λ (n : ℕ). standing_line v n p old s) now
    ∙ (ap (λ (o : Option Standing). standing_line v time p o s) was ∙ ap (standing_line v time p (slice_get olds (p - 1))) is) in
    ap (λ (l : List ℕ). l ++ rest) (adds ∙ ap (λ (l : List ℕ). line ++ l) text)
    ∙ (append_assoc line (standing_line v time p (slice_get olds (p - 1)) (process_of m p).standing) rest
    ∙ (sym (ap (λ (l : List Standing). line ++ standings_text v time olds p l) (standings_from m p above within)) ∙ before))

-- the line of one more of them at the end
pub process_more : (names : RegisterNames) (lines : List (List ℕ)) (h : Held) (p count : ℕ) (line new : List ℕ) (s : Standing) (pc : ℕ) (general whole : List ℕ) → p < count + 1 → line ++ processes_held names lines h p (count + 1 - p) ≡ whole → new ≡ line ++ process_text names lines p s pc general
    → s ≡ (process_of h.kept.state p).standing → pc ≡ address_held h p → general ≡ general_held h p → new ++ processes_held names lines h (p + 1) (count + 1 - (p + 1)) ≡ whole
process_more names lines h p count line new s pc general whole within before adds is at has =
    let rest : List ℕ = processes_held names lines h (p + 1) (count + 1 - (p + 1)) in
    let left : count + 1 - p ≡ suc (count + 1 - (p + 1)) = omega (arith, within) in
    let text : process_text names lines p s pc general ≡ process_text names lines p (process_of h.kept.state p).standing (address_held h p) (general_held h p) =
    ap (λ (x : Standing). process_text names lines p x pc general) is
    ∙ (ap (λ (y : ℕ). process_text names lines p (process_of h.kept.state p).standing y general) at ∙ ap (process_text names lines p (process_of h.kept.state p).standing (address_held h p)) has) in
    ap (λ (l : List ℕ). l ++ rest) (adds ∙ ap (λ (l : List ℕ). line ++ l) text)
    ∙ (append_assoc line (process_text names lines p (process_of h.kept.state p).standing (address_held h p) (general_held h p)) rest
    ∙ (sym (ap (λ (n : ℕ). line ++ processes_held names lines h p n) left) ∙ before))
