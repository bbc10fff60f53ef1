use Rattle.ds_grants.proofs.Copies.{none_free, none_told}
use Rattle.ds_grants.proofs.grants.Grants.lacks_frame.Goals as goal

pub returns-then-mode-eq3-clause-value : goal.returns-then-mode-eq3-clause-value
returns-then-mode-eq3-clause-value c = λ memory.
    rw (c.if-mode-eq3.true, ← none_free c.args.self.now c.free_page.result memory c.free_page.ensures.some c.free_page.ensures.none) (none_told c.free_page.result c.is_none.result c.is_none.ensures)
