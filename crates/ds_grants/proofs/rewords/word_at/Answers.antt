use Rattle.std.proofs.Common.{Some, [], ◌∷◌, refl}
use Rattle.ds_grants.specs.declared.layout.Place.{Place}
use Rattle.ds_grants.specs.State.{GrantsState}
use Rattle.ds_grants.proofs.rewords.word_at.Goals as goal

-- one page, which lies there
abbrev one_page : Place → GrantsState
one_page place = record { table = []; frames = 1; named = 0; ended = []; lies = place.frame ∷ []; shared = place.shared ∷ [] }

pub returns : goal.returns
returns c = c.word_of_right.ensures (one_page c.args.place) (Some 0) refl
