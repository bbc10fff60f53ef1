use Rattle.std.proofs.Common.{◌≡◌, ◌<◌, ◌≤◌, ℕ, length, arith, sym, ap, subst, ◌∙◌}
use Rattle.ds_isa.specs.Registers.{Registers, settled}
use Rattle.ds_procs.specs.Calls.{call_of}
use Rattle.ds_pagemap.specs.Machine.{Process, process_of}
use Rattle.ds_refinement.specs.Inner.Services.{with_none_spent}
use Rattle.ds_kernel.specs.Inner.Parts.{own_of}
use Rattle.ds_kernel.specs.declared.parts.Parts.{Parts}
use Rattle.ds_kernel.proofs.Keeping.{left_alive, first_left}
use Rattle.ds_kernel.proofs.Answering.{caller_answered}
use Rattle.ds_kernel.proofs.Finishing.{has_ended, rest_alike, memory_rests, call_rests, comes_in, call_served}
use Rattle.ds_kernel.specs.Inner.Seats.{AreAnswered}
use Rattle.ds_refinement.specs.Inner.Services.{seated_process}
use Rattle.ds_refinement.specs.Held.{Kept}
use Rattle.ds_refinement.specs.Units.{ends_in_call}
use Rattle.ds_refinement.specs.Stands.{AreResting}
use Rattle.ds_monitor.specs.Inner.Kept.{kept_of}
use Rattle.ds_monitor.specs.Inner.Sending.{bus_after}
use Rattle.ds_kernel.proofs.parts.Parts.call.Goals as goal

pub serve_call-requires-clause-alive : goal.serve_call-requires-clause-alive
serve_call-requires-clause-alive g c =
    left_alive c.args.self.now.core (kept_of c.args.self.now.monitor) (kept_of c.leave.new.self.monitor) c.args.process c.leave.ensures.kept c.show_busy_unit.ensures.first c.show_busy_unit.ensures.above c.show_busy_unit.ensures.within c.show_busy_unit.ensures.alive

-- The caller's seat has what the processor has, but for the answer.
pub end_unit-requires : goal.end_unit-requires
end_unit-requires g c =
    let p = c.args.process in
    let old = c.args.self.now in
    let left = kept_of c.leave.new.self.monitor in
    let within = subst (λ (n : ℕ). p ≤ n) (sym c.leave.ensures.as_many) c.show_busy_unit.ensures.within in
    let seat : process_of left.state p ≡ seated_process old.core (process_of (kept_of old.monitor).state p) =
    first_left old.core (kept_of old.monitor) left p c.leave.ensures.kept c.show_busy_unit.ensures.first c.show_busy_unit.ensures.above c.show_busy_unit.ensures.within in
    let same : (process_of left.state p).registers ≡ settled old.core.registers = ap (λ (q : Process). q.registers) seat in
    let size : length old.core.registers.general ≡ 32 = c.show_register_zero.ensures.size in
    let as_long : length (process_of left.state p).registers.general ≡ length old.core.registers.general = ap (λ (r : Registers). length r.general) same in
    let long : 2 < length (process_of left.state p).registers.general = omega (arith, size, as_long) in
    record {
      slots = c.requires.slots;
      wired = c.requires.wired;
      lawful = c.serve_call.ensures.orderly.lawful;
      answered = λ q is.
          let e : p ≡ q = cc in
          let core : c.serve_call.new.self.core.registers ≡ old.core.registers =
          ap (λ (x : Parts g.row.L.Denot). x.core.registers) c.serve_call.ensures.rest ∙ ap (λ (x : Parts g.row.L.Denot). x.core.registers) c.leave.ensures.rest in
          subst (λ (n : ℕ). AreAnswered c.serve_call.new.self.core.registers (process_of (kept_of c.serve_call.new.self.monitor).state n).registers) e
          (subst (λ (r : Registers). AreAnswered r (process_of (kept_of c.serve_call.new.self.monitor).state p).registers) (sym core)
          (subst (λ (r : Registers). AreAnswered r (process_of (kept_of c.serve_call.new.self.monitor).state p).registers) same
          (caller_answered left (kept_of c.serve_call.new.self.monitor) _ _ p c.unit_address-unit.result (c.show_busy_unit.ensures.above, within) long c.serve_call.ensures.serves)));
    }

pub returns-clause-ends : goal.returns-clause-ends
returns-clause-ends g c =
    let p = c.args.process in
    let unit = c.unit_address-unit.result in
    let old = c.args.self.now in
    let left = c.leave.new.self in
    let mid = c.serve_call.new.self in
    let new = c.end_unit.new.self in
    let memory = mid.bus.memory in
    let f = ends_in_call p old.core.system.epc in
    let served = c.serve_call.ensures.rest in
    let rest = c.end_unit.ensures.rest in
    let caller = process_of (kept_of left.monitor).state p in
    let afterwards = bus_after (call_of caller.registers.general) caller.line left.bus in
    let rests : (k : Kept) → AreResting left.bus k → AreResting new.bus k = λ k resting.
    rest_alike (record afterwards { memory = memory }) new.bus (ap (λ (x : Parts g.row.L.Denot). x.bus) rest ∙ c.serve_call.ensures.bus) k
    (memory_rests afterwards memory k (call_rests (call_of caller.registers.general) left.bus caller.line k resting)) in
    has_ended f old new mid.monitor mid.core.entries memory p c.requires.busy.good.sound c.show_busy_unit.ensures.unowed
    (call_served old left new mid.monitor mid.core.entries memory p unit c.unit_address-unit.ensures
    c.show_busy_unit.ensures.above (subst (λ (n : ℕ). p ≤ n) (sym c.leave.ensures.as_many) c.show_busy_unit.ensures.within) c.leave.ensures.kept c.leave.ensures.rest
    c.serve_call.ensures.orderly c.serve_call.ensures.lines c.serve_call.ensures.log c.serve_call.ensures.serves c.serve_call.ensures.size c.serve_call.ensures.elsewhere
    c.serve_call.ensures.keeps c.serve_call.ensures.pairs (ap (λ (x : Parts g.row.L.Denot). x.monitor) served))
    (comes_in f old left new mid.monitor mid.core.entries memory p c.leave.ensures.rest c.end_unit.ensures.enters c.end_unit.ensures.represented c.end_unit.ensures.pages (c.end_unit.ensures.random ∙ c.serve_call.ensures.random)
    (ap (λ (x : Parts g.row.L.Denot). x.bus.memory) rest) rests (ap (λ (x : Parts g.row.L.Denot). x.monitor) rest) (c.end_unit.ensures.own ∙ ap (λ (x : Parts g.row.L.Denot). with_none_spent (own_of x)) served) c.end_unit.ensures.whole
    (c.end_unit.ensures.context ∙ ap (λ (x : Parts g.row.L.Denot). x.core.system.context) served) c.end_unit.ensures.pairs)
