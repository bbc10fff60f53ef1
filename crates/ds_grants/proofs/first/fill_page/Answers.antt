use Rattle.std.proofs.Common.{◌∙◌, ap, ℕ, replicate}
use Rattle.ds_grants.proofs.first.fill_page.Goals as goal

pub returns-in-None : goal.returns-in-None
returns-in-None c = rw c.in-None.is (c.fill.ensures.after (λ y e. e) ∙ ap (λ (n : ℕ). replicate n 0) c.requires.whole)
