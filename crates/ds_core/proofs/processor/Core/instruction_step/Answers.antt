use Rattle.std.proofs.Common.{sym, ap, ◌∙◌}
use Rattle.ds_isa.specs.declared.instr.Kind.TheVariants.{Fetch}
use Rattle.ds_isa.specs.declared.instr.Size.TheVariants.{Word}
use Rattle.ds_core.specs.Access.{reached}
use Rattle.ds_core.proofs.Fetches.{instruction_at}
use Rattle.ds_core.proofs.processor.Core.instruction_step.Goals as goal

pub returns-in-Ok-fetch : goal.returns-in-Ok-fetch
returns-in-Ok-fetch g c = instruction_at _ _ c.args.bus.now _ c.in-Ok.field-0 _ _
    (ap (λ k. reached c.args.self.now Fetch Word k.pc) (sym c.reach.view_is) ∙ (sym c.reach-2.ensures.value ∙ c.in-Ok.is))
    c.reach-2.ensures.same
    (sym c.in-Ok-fetch.is ∙ c.fetch.ensures.value) c.fetch.ensures.state c.execute.ensures
