use Rattle.std.proofs.Common.{◌∙◌, sym, subst, arith}
use Rattle.ds_grants.specs.Copies.{AreRewritten}
use Rattle.ds_grants.proofs.PageAnew.{rows_keys, page_reworded_as}
use Rattle.ds_grants.proofs.rewords.reword_page.Goals as goal

pub returns-clause-rewritten : goal.returns-clause-rewritten
returns-clause-rewritten g c = subst (AreRewritten (g.L.Lookaside.entries c.args.tlb.now)) (sym c.reword_rows.ensures.entries) (rows_keys (g.L.Lookaside.entries c.args.tlb.now) c.args.spaces.now c.args.page c.args.place 1 c.args.table.now)

pub returns-clause-keeps : goal.returns-clause-keeps
returns-clause-keeps g c = λ old new table moved lies shared k.
    page_reworded_as c.args.tables.now old new c.args.page c.args.place c.requires.frame moved lies shared (g.L.Lookaside.entries c.args.tlb.now) (g.L.Lookaside.entries c.reword_rows.new.tlb) c.args.memory.now c.reword_rows.new.memory c.args.spaces.now c.args.table.now
    (moved.table ∙ table) c.requires.rows (omega (arith, c.word-first.ensures.size)) c.reword_rows.ensures.low c.reword_rows.ensures.memory c.reword_rows.ensures.entries k
