use Rattle.std.proofs.Common.{refl}
use Rattle.ds_pagemap.specs.Machine.{Process}
use Rattle.ds_trace.proofs.LeftAlone.{boundary_read}
use Rattle.ds_trace.proofs.laws.a_boundary_leaves_registers.Goals as goal

pub returns-clause-registers : goal.returns-clause-registers
returns-clause-registers c = boundary_read (λ (q : Process). q.registers) (λ q s. refl)

pub returns-clause-address : goal.returns-clause-address
returns-clause-address c = boundary_read (λ (q : Process). q.pc) (λ q s. refl)
