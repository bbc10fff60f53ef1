use Rattle.std.proofs.Common.{◌∙◌}
use Rattle.ds_policy.specs.Inner.Marks.{no_entry_there}
use Rattle.ds_policy.proofs.Entries.{found_place}
use Rattle.ds_policy.proofs.row.Row.find.Goals as goal

pub returns : goal.returns
returns c =
    rw (c.as_slice.ensures.value ∙ c.self.view_is) at
    (found_place c.as_slice.result.now c.args.address no_entry_there c.place.result c.as_slice.ensures.fits c.place.ensures)
