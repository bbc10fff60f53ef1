use Rattle.std.proofs.Common.{rules}
use Rattle.ds_listing.proofs.LabelValues.{ends_with_labels}
use Rattle.ds_listing.proofs.Listings.{image_shown}
use Rattle.ds_listing.proofs.annotated.listing_or_faults.Goals as goal

pub returns-in_err-image-clause-image : goal.returns-in_err-image-clause-image
returns-in_err-image-clause-image c = image_shown c.args.text.now

pub returns-in_err-sheet-in-Image-clause-image : goal.returns-in_err-sheet-in-Image-clause-image
returns-in_err-sheet-in-Image-clause-image c = image_shown c.args.text.now

pub returns-in_ok-sheet-in-Image-clause-image : goal.returns-in_ok-sheet-in-Image-clause-image
returns-in_ok-sheet-in-Image-clause-image c = image_shown c.args.text.now

pub returns-in_ok-sheet-in-Image-clause-labels : goal.returns-in_ok-sheet-in-Image-clause-labels
returns-in_ok-sheet-in-Image-clause-labels c = λ layout laid. ends_with_labels c.args.text.now c.bytes.result.now c.in_ok-sheet-in-Image.sheet.items layout laid (search rules) c.in_ok-sheet-in-Image.ensures
