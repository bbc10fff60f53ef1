-- What a listing of a file is, and what is left where there is none.
use Rattle.std.specs.Prelude.{◌≡◌, ℕ, List, Bool, true, false, Option, Result, Ok, Err}
use Rattle.std.specs.Io.KnownBytes.{Keeps, Appends}
use Rattle.ds_asm.specs.declared.fault.SourceFault.{SourceFault}
use Rattle.ds_asm.specs.Faults.{all_faults}
use Rattle.ds_listing.specs.Listing.{listing_of}
use Rattle.ds_listing.specs.NamedTexts.{file_as}
use Rattle.ds_listing.specs.declared.names.RegisterNames.{RegisterNames}
use Rattle.ds_text.specs.Sent.{AppendsPart}
use Rattle.ds_station.specs.declared.fault.Fault.TheVariants as fault
use Rattle.ds_drive.specs.declared.failure.Failure.{Failure}
use Rattle.ds_drive.specs.declared.failure.Failure.TheVariants as failure
use Rattle.ds_words.specs.declared.words.ListRequest.{ListRequest}

-- the source of a file, with registers called by these names; or the listing of a source, or its first fault
abbrev pub listed : RegisterNames → Bool → List ℕ → Result (List ℕ) SourceFault
listed names true bytes = Ok (file_as names bytes)
listed names false text = listing_of text

-- the named file holds bytes that are listed so, and of their listing this holds
pub record OfListing (holds : List ℕ → List ℕ → Type 0) (request : ListRequest) (P : List ℕ → Type 0) : Type 0 where
  pub bytes : List ℕ
  pub text : List ℕ
  pub held : holds request.file.now bytes
  pub is : listed request.names request.words bytes ≡ Ok text
  pub so : P text

-- its listing is written
abbrev pub ListsFile : (List ℕ → List ℕ → Type 0) → ListRequest → Option (List ℕ) → Option (List ℕ) → Type 0
ListsFile holds request old new = OfListing holds request (λ text. Appends old new text)

-- a front of its listing is written
abbrev pub CutsListing : (List ℕ → List ℕ → Type 0) → ListRequest → Option (List ℕ) → Option (List ℕ) → Type 0
CutsListing holds request old new = OfListing holds request (λ text. AppendsPart old new text)

-- the named file holds this source, and these are its faults
pub record HasFaults (holds : List ℕ → List ℕ → Type 0) (request : ListRequest) (text : List ℕ) (faults : List SourceFault) : Type 0 where
  pub held : holds request.file.now text
  pub source : request.words ≡ false
  pub first : SourceFault
  pub refused : listed request.names request.words text ≡ Err first
  pub all : faults ≡ all_faults text

-- why each failure comes, and what it leaves
abbrev pub FailsBy : Failure → (List ℕ → List ℕ → Type 0) → (List ℕ → Type 0) → ListRequest → Option (List ℕ) → Option (List ℕ) → Type 0
FailsBy (failure.Fault fault.WriteFault) holds lacks request old new = CutsListing holds request old new
FailsBy (failure.Fault fault.Memory) holds lacks request old new = Keeps old new
FailsBy (failure.UnreadableFile name) holds lacks request old new = (name.now ≡ request.file.now) × lacks request.file.now × Keeps old new
FailsBy f holds lacks request old new = ⊥
