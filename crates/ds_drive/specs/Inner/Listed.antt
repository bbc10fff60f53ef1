-- What a listing of a file is, and what is left where there is none.
use Rattle.std.specs.Prelude.{◌≡◌, ℕ, List, Bool, false, Option, Ok, Err}
use Rattle.std.specs.Io.KnownBytes.{Keeps}
use Rattle.ds_asm.specs.declared.fault.SourceFault.{SourceFault}
use Rattle.ds_asm.specs.Faults.{all_faults}
use Rattle.ds_listing.specs.declared.annotated.Listed.{Listed}
use Rattle.ds_listing.specs.declared.annotated.Listed.TheVariants as came
use Rattle.ds_listing.specs.declared.names.RegisterNames.{RegisterNames}
use Rattle.ds_drive.specs.declared.list.Listing.{Listing}
use Rattle.ds_drive.specs.declared.list.Listing.TheVariants as listing
use Rattle.ds_words.specs.declared.words.ListRequest.{ListRequest}
use Rattle.ds_drive.specs.Listed.{listed, ListsFile, HasFaults}

-- what comes of it: the text, or all faults of the source, of which it has one at least
abbrev pub IsListed : RegisterNames → Bool → List ℕ → Listed → Type 0
IsListed names words bytes (came.Sheet sheet) = listed names words bytes ≡ Ok sheet.items
IsListed names words bytes (came.Faults faults) = (fault : SourceFault) × (words ≡ false) × (listed names words bytes ≡ Err fault) × (faults.items ≡ all_faults bytes)

-- what comes of a listing: it is written, or the faults are all that the source has, and nothing is
abbrev pub Lists : Listing → (List ℕ → List ℕ → Type 0) → ListRequest → Option (List ℕ) → Option (List ℕ) → Type 0
Lists listing.Written holds request old new = ListsFile holds request old new
Lists (listing.Faults source) holds request old new = HasFaults holds request source.text.items source.faults.items × Keeps old new
