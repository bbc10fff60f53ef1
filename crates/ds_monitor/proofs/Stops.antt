-- Units that end in a stop.
use Rattle.std.proofs.Common.{◌≡◌, ◌∙◌, ℕ, ◌+◌, ◌<◌, ◌≤◌, List, [], ◌∷◌, ◌++◌, length, refl, sym, ap}
use Rattle.std.specs.Prelude.{Option, None, Some}
use Rattle.std.proofs.lemmas.List.{append-nil}
use Rattle.ds_isa.specs.declared.instr.Late.{Late}
use Rattle.ds_procs.specs.declared.process.Standing.TheVariants.{Parked}
use Rattle.ds_log.specs.declared.line.Line.TheVariants.{Denial}
use Rattle.ds_log.specs.Text.{line_text}
use Rattle.ds_pagemap.specs.Machine.{State, Process, process_of, made_unready}
use Rattle.ds_pagemap.specs.Unit.{Stop, with_registers, at_pc, settle}
use Rattle.ds_pagemap.proofs.Processes.{process_of-with_process, with_process-process_of}
use Rattle.ds_refinement.specs.Held.{Kept}
use Rattle.ds_refinement.specs.Inner.Held.{whole}
use Rattle.ds_refinement.specs.Units.{ends_in_stop, owes_boundary}
use Rattle.ds_refinement.specs.Inner.Services.{IsBare, Serves}
use Rattle.ds_monitor.specs.Inner.Kept.{kept_after}

-- where no load is late, none is finished
pub settle_same : (m : State) (p : ℕ) → (process_of m p).registers.late ≡ None → settle m p ≡ m
settle_same m p none =
    ap (λ (late : Option Late). with_registers m p (record (process_of m p).registers { late = late })) (sym none)
    ∙ with_process-process_of m p

-- what is kept after a stop
abbrev pub stopped : ℕ → ℕ → ℕ → Stop → Kept → Kept
stopped p unit pc stop k =
    let out = kept_after (λ (m : State). at_pc (made_unready m p Parked) p unit) k in
    let line = Denial k.state.time p pc stop.kind stop.address stop.rule stop.code in
    record out {
      state = record out.state { time = k.state.time + 1; owed = Some (record { began = k.state.time; runner = Some p }) };
      log = k.log ++ line_text line;
      lines = k.lines + 1;
    }

late_out : (m : State) (p : ℕ) → 0 < p → p ≤ length m.processes → (process_of m p).registers.late ≡ None → (process_of (made_unready m p Parked) p).registers.late ≡ None
late_out m p above within none = ap (λ (q : Process). q.registers.late) (process_of-with_process m p (record (process_of m p) { standing = Parked }) above within) ∙ none

-- the unit ends in the stop, with its line in the log
pub stops : (p unit pc : ℕ) (stop : Stop) (k : Kept) (memory : List ℕ) → 0 < p → p ≤ length k.state.processes → (process_of k.state p).registers.late ≡ None → IsBare k.state
    → Serves (ends_in_stop p unit pc stop) k memory (stopped p unit pc stop k) memory
stops p unit pc stop k memory above within none b =
    let line = Denial k.state.time p pc stop.kind stop.address stop.rule stop.code in
    record {
      lines = line ∷ [];
      state = λ log.
          let m = whole k memory log in
          ap (λ (s : State). owes_boundary m.time p (record (at_pc s p unit) { log = log ++ line ∷ []; time = m.time + 1 })) (settle_same (made_unready m p Parked) p (late_out m p above within none));
      bare = record { memory = b.memory; log = b.log };
      text = ap (λ (t : List ℕ). k.log ++ t) (sym (append-nil (line_text line)));
      count = refl;
    }
