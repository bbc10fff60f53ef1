use Rattle.std.proofs.Common.{None, sym, subst}
use Rattle.ds_pagemap.specs.Machine.{State, process_of, with_process}
use Rattle.ds_monitor.specs.Inner.Kept.{kept_of, kept_after}
use Rattle.ds_monitor.specs.Inner.Orderly.{IsOrderly}
use Rattle.ds_monitor.proofs.Lawful.{seat_orderly}
use Rattle.ds_kernel.specs.declared.parts.Parts.{Parts}
use Rattle.ds_kernel.proofs.parts.Parts.leave.Goals as goal

pub returns-clause-orderly : goal.returns-clause-orderly
returns-clause-orderly g c = λ it.
    let core = c.args.self.now.core in
    let p = c.args.process in
    let pc = c.args.pc in
    subst IsOrderly (sym c.keep.ensures.kept)
    (subst (λ (old : Parts g.row.L.Denot). IsOrderly (kept_after (λ (m : State). with_process m p (record (process_of m p) {
      registers = record { general = old.core.registers.general; hi = old.core.registers.hi; lo = old.core.registers.lo; late = None };
      pc = pc;
    })) (kept_of old.monitor))) (sym c.self.view_is)
    (seat_orderly (kept_of c.args.self.now.monitor) p pc
    (record { general = core.registers.general; hi = core.registers.hi; lo = core.registers.lo; late = None })
    (record { size = c.show_register_zero.ensures.size; nought = c.show_register_zero.ensures.nought; late = tt }) it))
