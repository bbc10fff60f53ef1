-- What an instruction leaves, by what a station holds.
use Rattle.std.proofs.Common.{◌≡◌, ◌∙◌, ℕ, Bool, true, List, [], ◌++◌, length, sym, ap}
use Rattle.std.specs.Prelude.{if◌then◌else◌}
use Rattle.std.proofs.lemmas.List.{length-map}
use Rattle.ds_isa.specs.Instruction.{instruction_of}
use Rattle.ds_pagemap.specs.Machine.{Process}
use Rattle.ds_refinement.specs.Held.{Held}
use Rattle.ds_station.specs.Reads.{general_held, memory_held}
use Rattle.ds_words.specs.declared.view.View.{View}
use Rattle.ds_trace.specs.declared.lines.Told.{Told}
use Rattle.ds_trace.specs.Lines.{shown_register, register_text, result_text}
use Rattle.ds_trace.specs.Inner.Shows.{found_held}
use Rattle.ds_trace.specs.Stores.{reach_of, stored_at, stored_text}

-- by these registers, among so many processes
abbrev pub effect : View → Held → Told → List ℕ → ℕ → List ℕ
effect v h t general count =
    register_text v.names general (shown_register t.word)
    ++ (stored_text (memory_held h) count t.process (stored_at general (reach_of (instruction_of t.word)))
    ++ (if v.source then stored_text (memory_held h) count t.process t.loaded else []))

pub effect_is : (v : View) (h : Held) (t : Told) (general : List ℕ) → general ≡ general_held h t.process → t.done ≡ true
    → effect v h t general (length h.kept.state.processes) ≡ result_text v t (found_held t.process h)
effect_is v h t general has done =
    ap (λ (l : List ℕ). effect v h t l (length h.kept.state.processes)) has
    ∙ (ap (effect v h t (general_held h t.process)) (sym (length-map h.kept.state.processes (λ (q : Process). q.standing)))
    ∙ ap (λ (b : Bool). if b then effect v h t (general_held h t.process) (length (found_held t.process h).standings) else []) (sym done))
