use Rattle.std.proofs.Common.{◌≡◌, ◌≤◌, ◌<◌, ◌^◌, List, [], ◌∷◌, ℕ, length, map, get_or, refl, sym, ◌∙◌, ap, ap₂, subst, arith}
use Rattle.std.specs.Prelude.{slice_index_or}
use Rattle.ds_tlb.specs.declared.entry.Entry.{Entry}
use Rattle.ds_tlb.specs.Entries.{empty_entries}
use Rattle.ds_dev.specs.Bus.{BusState}
use Rattle.ds_core.specs.Core.{CoreState}
use Rattle.ds_policy.specs.declared.policy.PolicyProcess.{PolicyProcess}
use Rattle.ds_mem.proofs.Zeros.{frame_of-zeros}
use Rattle.ds_refill.specs.Handler as handler
use Rattle.ds_tables.specs.Tables.{HasEmptyTable}
use Rattle.ds_grants.specs.State.{GrantsState, page_state}
use Rattle.ds_grants.specs.Represented.{TablesHaveWords}
use Rattle.ds_grants.specs.First.{first_grants}
use Rattle.ds_grants.specs.Sound.{NamesPages}
use Rattle.ds_pagemap.specs.Machine.{no_process}
use Rattle.ds_pagemap.specs.First.{first_process}
use Rattle.ds_refinement.specs.Held.{Kept}
use Rattle.ds_refinement.specs.First.{first_core, first_bus}
use Rattle.ds_refinement.proofs.FirstStands.{first_stands}
use Rattle.ds_refinement.proofs.Vectors.{vectors_first}
use Rattle.ds_kernel.proofs.Beginning.{first_good}
use Rattle.ds_kernel.proofs.parts.Parts.new.Goals as goal

-- the first process starts where the policy lets it
first_place : (ps : List PolicyProcess) (d : PolicyProcess) → 1 ≤ length ps → (get_or ps 0 d).start ≡ (slice_index_or (map first_process ps) 0 no_process).pc
first_place [] d some = absurd (omega (arith, some))
first_place (p ∷ rest) d some = refl

pub returns-clause-first : goal.returns-clause-first
returns-clause-first g c =
    let none : PolicyProcess = record { start = 0; line = 0 } in
    let policy = c.args.policy.now in
    let random = g.L.Lookaside.random_place c.new-3.new.tlb in
    let all : c.processes.result.now ≡ policy.processes = c.processes.ensures.all in
    let pc : (get_or c.processes.result.now 0 none).start ≡ (slice_index_or (map first_process policy.processes) 0 no_process).pc = ap (λ (ps : List PolicyProcess). (get_or ps 0 none).start) all ∙ first_place policy.processes none c.processes.ensures.some in
    let entries = c.in_ok-monitor.ensures.entries ∙ ap empty_entries c.requires.slots in
    let memory = ap (λ (b : BusState). b.memory) c.first_bus.ensures in
    let grants = ap (λ (k : Kept). k.grants) c.in_ok-monitor.ensures.first in
    let zero : HasEmptyTable c.in_ok-memory.memory = subst (λ (m : List ℕ). HasEmptyTable m) (sym c.in_ok-memory.ensures) (frame_of-zeros (2 ^ 23) 1 (omega arith)) in
    let empty : HasEmptyTable c.install.new.memory = c.install.ensures.frames 1 (omega arith) ∙ zero in
    let represented = c.in_ok-monitor.ensures.represented (omega (arith, c.requires.slots)) empty in
    record {
      core =
          c.first_core.ensures
          ∙ (ap₂ (λ (es : List Entry) (n : ℕ). first_core es random n) entries pc
          ∙ ap (λ (r : ℕ). first_core (empty_entries 64) r (slice_index_or (map first_process policy.processes) 0 no_process).pc) c.in_ok-monitor.ensures.random);
      bus = c.first_bus.ensures ∙ ap₂ first_bus (sym memory) c.rate.ensures.all;
      pages = c.in_ok-monitor.ensures.kept.pages ∙ ap₂ page_state grants (sym memory);
      size = ap length memory ∙ c.word.ensures.size;
      kept = c.in_ok-monitor.ensures.first;
      tables = subst (λ (m : List ℕ). TablesHaveWords m c.in_ok-monitor.monitor.tables (first_grants policy)) (sym memory)
          (subst (λ (x : GrantsState). TablesHaveWords c.new-3.new.memory c.in_ok-monitor.monitor.tables x) grants
          (record { words = represented.words; places = represented.places; empty = represented.empty }));
      vectors = subst (λ (m : List ℕ). handler.HasWords m) (sym memory)
          (vectors_first c.install.new.memory c.new-3.new.memory (c.in_ok-monitor.ensures.elsewhere 0 (omega arith)) c.install.ensures.words);
      own = refl;
    }

pub returns-clause-stands : goal.returns-clause-stands
returns-clause-stands g c =
    let some : 0 < length c.args.policy.now.processes = omega (arith, c.processes.ensures.some) in
    let whole = c.show_whole_processor.ensures.whole in
    let first = returns-clause-first g c in
    let random = ap (λ (x : CoreState). x.random) first.core in
    let low = subst (λ (n : ℕ). 8 ≤ n) random whole.low in
    let high = subst (λ (n : ℕ). n < 64) random whole.high in
    let named = subst NamesPages (ap (λ (k : Kept). k.grants) c.in_ok-monitor.ensures.first) c.table.ensures.pages in
    first_stands c.args.policy.now c.args.images.now c.args.events _ _ some named low high first

pub returns-clause-good : goal.returns-clause-good
returns-clause-good g c = first_good _ c.args.policy.now c.args.images.now c.args.events _ (returns-clause-first g c) (returns-clause-stands g c) c.in_ok-monitor.ensures.orderly (record { high = c.rate.ensures.high; low = c.rate.ensures.low }) c.in_ok-monitor.ensures.next c.in_ok-monitor.ensures.few
