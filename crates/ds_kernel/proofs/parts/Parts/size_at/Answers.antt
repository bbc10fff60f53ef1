use Rattle.std.proofs.Common.{sym, ◌∙◌}
use Rattle.ds_kernel.proofs.Fetching.{size_found}
use Rattle.ds_kernel.proofs.parts.Parts.size_at.Goals as goal

pub returns-in-Some-clause-value : goal.returns-in-Some-clause-value
returns-in-Some-clause-value g c =
    size_found _ _ c.args.process c.args.address _ _ _ _ c.place_in_memory.ensures.pages c.requires.memory (sym c.place_in_memory.ensures.value ∙ c.in-Some.is) c.fetch-instr.ensures.value c.access_size.ensures c.unwrap_or.ensures
