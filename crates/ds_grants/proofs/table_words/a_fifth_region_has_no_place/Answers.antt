use Rattle.ds_grants.proofs.FifthRegion.{fifth_by_places}
use Rattle.ds_grants.proofs.table_words.a_fifth_region_has_no_place.Goals as goal

pub returns : goal.returns
returns c = fifth_by_places
