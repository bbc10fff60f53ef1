use Rattle.std.proofs.Common.{sym, ap, ◌∙◌}
use Rattle.ds_isa.specs.declared.instr.Kind.TheVariants.{Fetch}
use Rattle.ds_isa.specs.declared.instr.Size.TheVariants.{Word}
use Rattle.ds_policy.specs.Pages.{Table, decide}
use Rattle.ds_kernel.proofs.Fetching.{fetched_low}
use Rattle.ds_kernel.proofs.parts.Parts.place_in_memory.Goals as goal

pub frame_of-requires : goal.frame_of-requires
frame_of-requires g c =
    let a = c.args in
    fetched_low a.self.now.monitor.grants a.process Fetch Word a.address c.in-Allowed.page c.in-Allowed.offset c.table.ensures.pages
    (ap (λ (t : Table). decide t a.process Fetch Word a.address) (sym c.table.ensures.value) ∙ (sym c.decide.ensures.exact ∙ c.in-Allowed.is))
