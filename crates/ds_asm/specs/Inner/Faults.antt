-- All faults of a source.
use Rattle.std.specs.Prelude.{◌≡◌, ℕ, List, ◌∷◌, Ok, Err}
use Rattle.ds_asm.specs.declared.fault.SourceFault.{SourceFault}
use Rattle.ds_asm.specs.declared.faults.Assembled.{Assembled}
use Rattle.ds_asm.specs.declared.faults.Assembled.TheVariants as came
use Rattle.ds_asm.specs.Assembly.{assembled}
use Rattle.ds_asm.specs.Faults.{all_faults}

-- this is the first of the faults
abbrev pub BeginsWith : SourceFault → List SourceFault → Type 0
BeginsWith fault faults = (others : List SourceFault) × (faults ≡ fault ∷ others)

-- what comes of a source is its image, or all its faults, of which it has one at least
abbrev pub ComesOf : List ℕ → Assembled → Type 0
ComesOf text (came.Image image) = assembled text ≡ Ok image
ComesOf text (came.Faults faults) = (fault : SourceFault) × (assembled text ≡ Err fault) × (faults.items ≡ all_faults text)
