use Rattle.std.proofs.Common.{refl, ap}
use Rattle.ds_pages.specs.Inner.Does.{is_known}
use Rattle.ds_pages.proofs.Blank.{does_of_all, turn_of_all, kind_of_all, length_of_all, all_blank}
use Rattle.ds_pages.proofs.places.Places.new.Goals as goal

pub returns-clause-unknown : goal.returns-clause-unknown
returns-clause-unknown c k = ap is_known (does_of_all 1025 k _ refl)

pub returns-clause-other : goal.returns-clause-other
returns-clause-other c k = kind_of_all 1025 k

pub returns-clause-fits : goal.returns-clause-fits
returns-clause-fits c = all_blank _ (λ k. does_of_all 1025 k _ refl) (λ k. turn_of_all 1025 k) (λ k. length_of_all 1025 k)
