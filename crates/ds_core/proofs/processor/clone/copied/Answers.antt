use Rattle.std.proofs.Common.{sym, ◌∙◌, arith}
use Rattle.std.proofs.lemmas.List.{same_lists}
use Rattle.ds_core.proofs.processor.clone.copied.Goals as goal

pub returns-clause-entries : goal.returns-clause-entries
returns-clause-entries g c =
    let size = g.met.L.Lookaside.size c.loop-slot.copy in
    same_lists (g.L.Lookaside.entries c.loop-slot.copy) (g.L.Lookaside.entries c.args.tlb.now)
    (size ∙ sym (g.met.L.Lookaside.size c.args.tlb.now))
    (λ k d inside. c.loop-slot.invariant.same k d (omega (arith, size)))
