use Rattle.std.proofs.Common.{◌+◌, ap, refl, arith}
use Rattle.ds_word.specs.Bytes.{word_at}
use Rattle.ds_isa.specs.Instruction.{instruction_of}
use Rattle.ds_amap.specs.Map.{at_physical}
use Rattle.ds_ahead.specs.Inner.Placed.{Place, placed}
use Rattle.ds_ahead.proofs.Codes.{reaches_page}
use Rattle.ds_ahead.proofs.Stretches.{knows_placed}
use Rattle.ds_core.proofs.Fetches.{instruction_at, in_memory, kept_in_memory}
use Rattle.ds_ahead.proofs.stretch.operation_at.Goals as goal

pub returns-in-Some-clause-fetched : goal.returns-in-Some-clause-fetched
returns-in-Some-clause-fetched g c = λ n.
    let place = c.args.code.now.base + c.in-Some.offset in
    let instr = instruction_of (word_at c.args.bus.now.memory place) in
    let here = placed n c.args.core.now c.args.at.now in
    record {
      instr = instr;
      means = c.operation.ensures.value;
      lies = instruction_at here here c.args.bus.now c.args.bus.now (at_physical place) instr _
          (reaches_page here _ _ place _ (knows_placed n _ _ c.args.core.now c.args.at.now c.requires.known) (ap (λ (k : Place). k.pc) c.at.view_is)
          c.in-Some.ensures.known c.in-Some.ensures.page c.in-Some.ensures.aligned (ap (λ n. c.args.code.now.base + n) c.in-Some.ensures.value))
          refl
          (in_memory c.args.bus.now place instr (omega arith) refl)
          (kept_in_memory c.args.bus.now _ place (omega arith) refl)
          refl;
    }
