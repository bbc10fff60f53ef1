use Rattle.std.proofs.Common.{[], sym, ◌≡◌, ◌∙◌, ◌+◌, ℕ, ap, subst, refl}
use Rattle.ds_word.specs.Word.{word}
use Rattle.ds_dev.specs.Bus.{BusState}
use Rattle.ds_procs.specs.Calls.{call_of}
use Rattle.ds_grants.specs.Inner.Represented.{Keeps}
use Rattle.ds_pagemap.specs.Machine.{State, Process, process_of}
use Rattle.ds_pagemap.proofs.Processes.{process_of-with_process}
use Rattle.ds_monitor.specs.Inner.Sending.{bus_after}
use Rattle.ds_monitor.specs.Inner.Room.{HasLogRoom}
use Rattle.ds_pagemap.specs.Unit.{at_pc}
use Rattle.ds_pagemap.specs.Calls.{served}
use Rattle.ds_refinement.specs.Held.{Kept}
use Rattle.ds_refinement.specs.Inner.Held.{whole}
use Rattle.ds_refinement.specs.Units.{ends_in_call}
use Rattle.ds_monitor.specs.Inner.Kept.{kept_of, kept_after}
use Rattle.ds_monitor.specs.declared.monitor.Monitor.{Monitor}
use Rattle.ds_monitor.proofs.Serving.{serves_then, serves_as}
use Rattle.ds_procs.specs.declared.call.Call.{Call}
use Rattle.ds_monitor.specs.Inner.Ended.{marks_of, ended_after}
use Rattle.ds_monitor.proofs.Stops.{settle_same}
use Rattle.ds_monitor.proofs.Lawful.{marks_same, asked_at, call_orderly}
use Rattle.ds_monitor.proofs.Called.{by_kept, with_end, called, call_ends}
use Rattle.ds_monitor.proofs.monitor.Monitor.call.Goals as goal

pub serve-requires-clause-marks : goal.serve-requires-clause-marks
serve-requires-clause-marks g c =
    let p = c.args.process in
    let k = kept_of c.args.self.now in
    let afterwards : Process = record (process_of k.state p) { pc = c.wrapping_sum.result } in
    ap (λ (z : Kept). marks_of z.state) c.go_to.ensures.kept
    ∙ (marks_same k.state p afterwards refl ∙ (c.requires.marks ∙ sym (ap (λ (z : Kept). z.grants.ended) c.go_to.ensures.kept)))

pub returns-clause-room : goal.returns-clause-room
returns-clause-room g c = λ n h.
    subst (HasLogRoom n) (sym c.end_turn.ensures.rest) (c.serve.ensures.room n (subst (HasLogRoom (n + 1)) (sym c.go_to.ensures.rest) h))

pub returns-clause-serves : goal.returns-clause-serves
returns-clause-serves g c =
    let p = c.args.process in
    let pc = c.args.pc in
    let call = c.asked-call.result in
    let k = kept_of c.args.self.now in
    let x = c.args.bus.now.memory in
    let y = c.serve.new.bus.memory in
    let afterwards = kept_of c.go_to.new.self in
    let done = kept_of c.serve.new.self in
    let last = kept_of c.end_turn.new.self in
    let step = λ (m : State). at_pc m p (word (pc + 4)) in
    let serve = λ (m : State). served m p pc call in
    let there : afterwards ≡ kept_after step k = c.go_to.ensures.kept ∙ ap (λ (t : ℕ). kept_after (λ (m : State). at_pc m p t) k) c.wrapping_sum.ensures in
    let asked : call ≡ call_of (process_of (step k.state) p).registers.general = c.asked-call.ensures.value ∙ ap (λ (z : Kept). call_of (process_of z.state p).registers.general) there in
    serves_as (called p pc call) (ends_in_call p pc) k last x y
    (λ log. call_ends p pc call (whole k x log) c.has_no_late_load.ensures asked)
    (serves_then (λ (m : State). serve (step m)) (with_end p) k done last x y y
    (serves_then step serve k afterwards done x x y
    (by_kept step k afterwards x (λ m memory log. refl) (record { memory = refl; log = refl }) there)
    c.serve.ensures.serves)
    (by_kept (with_end p) done last y (λ m memory log. refl) (record { memory = refl; log = refl }) c.end_turn.ensures.kept))

pub returns-clause-orderly : goal.returns-clause-orderly
returns-clause-orderly g c = λ it alive.
    let p = c.args.process in
    let pc = c.args.pc in
    let k = kept_of c.args.self.now in
    let x = c.args.bus.now.memory in
    let old = k.grants.ended in
    let step = λ (m : State). at_pc m p (word (pc + 4)) in
    let there : kept_of c.go_to.new.self ≡ kept_after step k = c.go_to.ensures.kept ∙ ap (λ (t : ℕ). kept_after (λ (m : State). at_pc m p t) k) c.wrapping_sum.ensures in
    let asked : c.asked-call.result ≡ call_of (process_of (step k.state) p).registers.general = c.asked-call.ensures.value ∙ ap (λ (z : Kept). call_of (process_of z.state p).registers.general) there in
    let settled : call_of (process_of (step k.state) p).registers.general ≡ asked_at p pc (whole k x []) = ap (λ (m : State). call_of (process_of (at_pc m p (word (pc + 4))) p).registers.general) (sym (settle_same (whole k x []) p c.has_no_late_load.ensures)) in
    let ended : (kept_of c.end_turn.new.self).grants.ended ≡ ended_after (asked_at p pc (whole k x [])) p old =
    ap (λ (z : Kept). z.grants.ended) c.end_turn.ensures.kept
    ∙ (c.serve.ensures.ended
    ∙ (ap (λ (z : Kept). ended_after c.asked-call.result p z.grants.ended) c.go_to.ensures.kept
    ∙ ap (λ (z : Call). ended_after z p old) (asked ∙ settled))) in
    let named : (kept_of c.end_turn.new.self).grants.named ≡ k.grants.named =
    ap (λ (z : Kept). z.grants.named) c.end_turn.ensures.kept ∙ (c.serve.ensures.same.named ∙ ap (λ (z : Kept). z.grants.named) c.go_to.ensures.kept) in
    let commands : (kept_of c.end_turn.new.self).state.commands ≡ k.state.commands =
    ap (λ (z : Kept). z.state.commands) c.end_turn.ensures.kept ∙ (ap (λ (z : Monitor). z.due.commands) c.serve.ensures.rest ∙ ap (λ (z : Kept). z.state.commands) c.go_to.ensures.kept) in
    let ends : (kept_of c.end_turn.new.self).ends ≡ k.ends =
    ap (λ (z : Kept). z.ends) c.end_turn.ensures.kept ∙ (ap (λ (z : Monitor). z.ends) c.serve.ensures.rest ∙ ap (λ (z : Kept). z.ends) c.go_to.ensures.kept) in
    call_orderly p pc k (kept_of c.end_turn.new.self) x c.serve.new.bus.memory c.requires.above c.requires.within alive (returns-clause-serves g c) ended named commands ends it

pub returns-clause-bus : goal.returns-clause-bus
returns-clause-bus g c =
    let p = c.args.process in
    let k = kept_of c.args.self.now in
    let pc = word (c.args.pc + 4) in
    let there : kept_of c.go_to.new.self ≡ kept_after (λ (m : State). at_pc m p pc) k = c.go_to.ensures.kept ∙ ap (λ (t : ℕ). kept_after (λ (m : State). at_pc m p t) k) c.wrapping_sum.ensures in
    let moved : process_of (kept_of c.go_to.new.self).state p ≡ record (process_of k.state p) { pc = pc } = ap (λ (z : Kept). process_of z.state p) there ∙ process_of-with_process k.state p (record (process_of k.state p) { pc = pc }) c.requires.above c.requires.within in
    c.serve.ensures.bus
    ∙ ap (λ (b : BusState). record b { memory = c.serve.new.bus.memory })
    (ap (λ (x : Call). bus_after x (process_of (kept_of c.go_to.new.self).state p).line c.args.bus.now) c.asked-call.ensures.value
    ∙ ap (λ (q : Process). bus_after (call_of q.registers.general) q.line c.args.bus.now) moved)

pub returns-clause-keeps : goal.returns-clause-keeps
returns-clause-keeps g c =
    let old = g.L.Lookaside.entries c.args.tlb.now in
    let new = g.L.Lookaside.entries c.serve.new.tlb in
    let x = c.args.bus.now.memory in
    let y = c.serve.new.bus.memory in
    let last = c.serve.new.self in
    subst (λ (m : Monitor). Keeps old x c.args.self.now.tables c.args.self.now.spaces c.args.self.now.grants new y m.tables m.spaces m.grants) (sym c.end_turn.ensures.rest)
    (subst (λ (m : Monitor). Keeps old x m.tables m.spaces m.grants new y last.tables last.spaces last.grants) c.go_to.ensures.rest c.serve.ensures.keeps)
