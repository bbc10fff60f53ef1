use Rattle.std.proofs.Common.{◌≡◌, ◌∙◌, ℕ, List, map, refl, sym, ap, subst}
use Rattle.ds_tlb.specs.declared.entry.Entry.{Entry}
use Rattle.ds_dev.specs.Bus.{BusState, is_enabled}
use Rattle.ds_grants.specs.Represented.{IsRepresented}
use Rattle.ds_grants.specs.Inner.Represented.{IsLow}
use Rattle.ds_refinement.specs.Held.{Kept}
use Rattle.ds_refinement.specs.Pairs.{HasNoNewPairs}
use Rattle.ds_refinement.specs.Inner.Services.{Serves, seated}
use Rattle.ds_monitor.specs.Inner.Kept.{kept_of}
use Rattle.ds_monitor.specs.Inner.Commands.{with_ends, commanded}
use Rattle.ds_monitor.specs.declared.monitor.Monitor.{Monitor}
use Rattle.ds_monitor.proofs.Low.{low_then}
use Rattle.ds_refinement.proofs.NoNewPairs.{joined_pairs}
use Rattle.ds_kernel.specs.declared.parts.Parts.{Parts}
use Rattle.ds_kernel.specs.Inner.Devices.{typed}
use Rattle.ds_kernel.specs.Inner.Attended.{runner_of, unowed, ruled}
use Rattle.ds_kernel.proofs.Sharing.{rules}
use Rattle.ds_kernel.proofs.parts.Parts.serve_turn.Goals as goal

pub returns-clause-serves : goal.returns-clause-serves
returns-clause-serves g c =
    let old = c.args.self.now in
    let left = c.leave_first.ensures.rest in
    let ended = c.expire.ensures.rest in
    let done = c.command.ensures.rest in
    let read = c.read_clock-passed.ensures.state in
    let start : Kept = unowed (seated old.core (kept_of old.monitor)) in
    let time : c.take_owed.new.self.time ≡ old.monitor.time = ap (λ (m : Monitor). m.time) c.take_owed.ensures.rest ∙ ap (λ (p : Parts g.row.L.Denot). p.monitor.time) left in
    let later : c.expire.new.self.monitor.time ≡ old.monitor.time = ap (λ (p : Parts g.row.L.Denot). p.monitor.time) ended ∙ time in
    let kept : kept_of c.take_owed.new.self ≡ start = c.take_owed.ensures.kept ∙ ap unowed c.leave_first.ensures.kept in
    let memory : c.leave_first.new.self.bus.memory ≡ old.bus.memory = ap (λ (p : Parts g.row.L.Denot). p.bus.memory) left in
    let last : c.share.new.self.bus.memory ≡ c.command.new.self.bus.memory = ap (λ (b : BusState). b.memory) c.share.ensures.bus ∙ ap (λ (b : BusState). b.memory) read in
    subst (λ (y : List ℕ). Serves (ruled old.monitor.time (map typed old.bus.serial.silo) old.bus.clock.flagged (runner_of old.monitor.owed)) start old.bus.memory (kept_of c.share.new.self.monitor) y) (sym last)
    (rules old.monitor.time old.bus.serial.silo c.read_clock-passed.new.bus.serial.silo old.bus.clock.flagged c.read_clock-passed.result (runner_of old.monitor.owed) c.runner_of-runner.result
    start (kept_of c.expire.new.self.monitor) (kept_of c.command.new.self.monitor) (kept_of c.share.new.self.monitor) old.bus.memory c.expire.new.self.bus.memory c.command.new.self.bus.memory
    (ap (λ (b : BusState). b.serial.silo) read ∙ (ap (λ (p : Parts g.row.L.Denot). p.bus.serial.silo) done ∙ (ap (λ (p : Parts g.row.L.Denot). p.bus.serial.silo) ended ∙ ap (λ (p : Parts g.row.L.Denot). p.bus.serial.silo) left)))
    (c.read_clock-passed.ensures.value
    ∙ (ap (λ (p : Parts g.row.L.Denot). p.bus.clock.flagged) done ∙ (ap (λ (p : Parts g.row.L.Denot). p.bus.clock.flagged) ended ∙ ap (λ (p : Parts g.row.L.Denot). p.bus.clock.flagged) left)))
    (c.runner_of-runner.ensures ∙ ap runner_of (c.take_owed.ensures.taken ∙ ap (λ (p : Parts g.row.L.Denot). p.monitor.owed) left))
    (subst (λ (x : List ℕ). Serves (with_ends old.monitor.time) start x (kept_of c.expire.new.self.monitor) c.expire.new.self.bus.memory) memory
    (subst (λ (k : Kept). Serves (with_ends old.monitor.time) k c.leave_first.new.self.bus.memory (kept_of c.expire.new.self.monitor) c.expire.new.self.bus.memory) kept
    (subst (λ (t : ℕ). Serves (with_ends t) (kept_of c.take_owed.new.self) c.leave_first.new.self.bus.memory (kept_of c.expire.new.self.monitor) c.expire.new.self.bus.memory) time c.expire.ensures.serves)))
    (subst (λ (t : ℕ). Serves (commanded t) (kept_of c.expire.new.self.monitor) c.expire.new.self.bus.memory (kept_of c.command.new.self.monitor) c.command.new.self.bus.memory) later c.command.ensures.serves)
    (record { memory = refl; log = refl }) c.share.ensures.kept)

pub returns-clause-low : goal.returns-clause-low
returns-clause-low g c =
    let old = c.args.self.now in
    let memory : c.leave_first.new.self.bus.memory ≡ old.bus.memory = ap (λ (p : Parts g.row.L.Denot). p.bus.memory) c.leave_first.ensures.rest in
    let last : c.share.new.self.bus.memory ≡ c.command.new.self.bus.memory = ap (λ (b : BusState). b.memory) c.share.ensures.bus ∙ ap (λ (b : BusState). b.memory) c.read_clock-passed.ensures.state in
    subst (λ (y : List ℕ). IsLow old.bus.memory y) (sym last)
    (subst (λ (x : List ℕ). IsLow x c.command.new.self.bus.memory) memory
    (low_then c.leave_first.new.self.bus.memory c.expire.new.self.bus.memory c.command.new.self.bus.memory c.expire.ensures.low c.command.ensures.low))

pub returns-clause-pairs : goal.returns-clause-pairs
returns-clause-pairs g c =
    let old = c.args.self.now in
    let first : c.leave_first.new.self.core.entries ≡ old.core.entries = ap (λ (p : Parts g.row.L.Denot). p.core.entries) c.leave_first.ensures.rest in
    let last : c.share.new.self.core.entries ≡ c.command.new.self.core.entries = ap (λ (p : Parts g.row.L.Denot). p.core.entries) c.share.ensures.rest in
    subst (λ (es : List Entry). HasNoNewPairs old.core.entries es) (sym last)
    (subst (λ (es : List Entry). HasNoNewPairs es c.command.new.self.core.entries) first
    (joined_pairs c.leave_first.new.self.core.entries c.expire.new.self.core.entries c.command.new.self.core.entries c.expire.ensures.pairs c.command.ensures.pairs))

pub returns-clause-keeps : goal.returns-clause-keeps
returns-clause-keeps g c = λ it.
    let left = c.leave_first.new.self in
    let done = c.command.new.self in
    let last : c.share.new.self.bus.memory ≡ done.bus.memory = ap (λ (b : BusState). b.memory) c.share.ensures.bus ∙ ap (λ (b : BusState). b.memory) c.read_clock-passed.ensures.state in
    subst (λ (p : Parts g.row.L.Denot). IsRepresented p.core.entries c.share.new.self.bus.memory p.monitor.tables p.monitor.spaces p.monitor.grants) (sym c.share.ensures.rest)
    (subst (λ (y : List ℕ). IsRepresented done.core.entries y done.monitor.tables done.monitor.spaces done.monitor.grants) (sym last)
    (c.command.ensures.keeps (c.expire.ensures.keeps
    (subst (λ (m : Monitor). IsRepresented left.core.entries left.bus.memory m.tables m.spaces m.grants) (sym c.take_owed.ensures.rest)
    (subst (λ (p : Parts g.row.L.Denot). IsRepresented p.core.entries p.bus.memory p.monitor.tables p.monitor.spaces p.monitor.grants) (sym c.leave_first.ensures.rest) it)))))

pub share-requires-clause-tells : goal.share-requires-clause-tells
share-requires-clause-tells g c =
    let left = c.leave_first.ensures.rest in
    let ended = c.expire.ensures.rest in
    let done = c.command.ensures.rest in
    let read = c.read_clock-passed.ensures.state in record {
      serial = ap (λ (b : BusState). b.serial.receiver_interrupts) read ∙ (ap (λ (p : Parts g.row.L.Denot). p.bus.serial.receiver_interrupts) done ∙ (ap (λ (p : Parts g.row.L.Denot). p.bus.serial.receiver_interrupts) ended ∙ (ap (λ (p : Parts g.row.L.Denot). p.bus.serial.receiver_interrupts) left ∙ c.requires.tells.serial)));
      system = ap (λ (b : BusState). is_enabled b.system) read ∙ (ap (λ (p : Parts g.row.L.Denot). is_enabled p.bus.system) done ∙ (ap (λ (p : Parts g.row.L.Denot). is_enabled p.bus.system) ended ∙ (ap (λ (p : Parts g.row.L.Denot). is_enabled p.bus.system) left ∙ c.requires.tells.system)));
    }
