use Rattle.std.proofs.Common.{rules}
use Rattle.ds_listing.proofs.LabelValues.{ends_with_labels}
use Rattle.ds_listing.proofs.Listings.{image_shown}
use Rattle.ds_listing.proofs.annotated.listing.Goals as goal

pub returns-in_err-image-clause-image : goal.returns-in_err-image-clause-image
returns-in_err-image-clause-image c = image_shown c.args.text.now

pub returns-in_err-sheet-clause-image : goal.returns-in_err-sheet-clause-image
returns-in_err-sheet-clause-image c = image_shown c.args.text.now

pub returns-clause-image : goal.returns-clause-image
returns-clause-image c = image_shown c.args.text.now

pub returns-clause-labels : goal.returns-clause-labels
returns-clause-labels c layout laid = ends_with_labels c.args.text.now c.bytes.result.now c.in_ok-sheet.sheet.items layout laid (search rules) c.in_ok-sheet.ensures
