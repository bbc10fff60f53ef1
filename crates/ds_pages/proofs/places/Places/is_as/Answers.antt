use Rattle.std.proofs.Common.{sym, ◌∙◌}
use denote.Enum.Bare.{same_true}
use Rattle.ds_pages.specs.contracts.does.Does.{the_type}
use Rattle.ds_pages.proofs.places.Places.is_as.Goals as goal

pub returns-then-eq-clause-done : goal.returns-then-eq-clause-done
returns-then-eq-clause-done c = λ same. sym (same_true the_type tt c.does.result c.args.does (sym c.if-eq.ensures)) ∙ c.does.ensures
