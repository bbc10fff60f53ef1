-- What comes of a source that is to be listed.
use Rattle.std.specs.Prelude.{◌≡◌, ℕ, List, Ok, Err, ⊤}
use Rattle.ds_asm.specs.declared.fault.SourceFault.{SourceFault}
use Rattle.ds_asm.specs.Assembly.{Labels}
use Rattle.ds_asm.specs.Faults.{all_faults}
use Rattle.ds_listing.specs.declared.annotated.Listed.{Listed}
use Rattle.ds_listing.specs.declared.annotated.Listed.TheVariants as came
use Rattle.ds_listing.specs.Listing.{listing_of}
use Rattle.ds_listing.specs.Inner.Listing.{EndsWithLabels}

-- its listing, or all its faults, of which it has one at least
abbrev pub ComesOf : List ℕ → Listed → Type 0
ComesOf text (came.Sheet sheet) = listing_of text ≡ Ok sheet.items
ComesOf text (came.Faults faults) = (fault : SourceFault) × (listing_of text ≡ Err fault) × (faults.items ≡ all_faults text)

-- where it is a listing, it ends with these labels
abbrev pub EndsSo : Labels → Listed → Type 0
EndsSo labels (came.Sheet sheet) = EndsWithLabels labels sheet.items
EndsSo labels (came.Faults faults) = ⊤
