-- What the calls of the assembler return, beside what a source says.
use Rattle.std.specs.Prelude.{◌≡◌, ℕ, List, Option, Result, Ok, Err}
use Rattle.std.specs.Ordering.{nat_cmp}
use Rattle.std.specs.Cmp.Lexicographic.{slice_cmp}
use Rattle.std.specs.BTreeMap.{get_by}
use Rattle.ds_asm.specs.declared.fault.AsmFault.{AsmFault}
use Rattle.ds_asm.specs.declared.fault.AsmFault.TheVariants as asm
use Rattle.ds_asm.specs.declared.cause.Cause.{Cause}
use Rattle.ds_asm.specs.declared.cause.Stop.{Stop}
use Rattle.ds_asm.specs.declared.cause.Stop.TheVariants as stop
use Rattle.ds_asm.specs.declared.fault.SourceFault.{SourceFault}
use Rattle.ds_asm.specs.declared.labels.Labels as code
use Rattle.ds_asm.specs.declared.layout.Layout as held
use Rattle.ds_asm.specs.Assembly.{fault_at, Labels, label_address, Layout}
use Rattle.ds_asm.specs.Assembling.{source_fault_number}

-- the text has this fault; want of memory says nothing of the text
abbrev pub Fails : {A : Type 0} → AsmFault → Result A SourceFault → Type 0
Fails (asm.Source fault) said = said ≡ Err fault
Fails asm.Memory said = Unit {0}

-- what was returned, seen by view, is what the text says, unless memory ran out
abbrev pub Assembles : {X A : Type 0} → (X → A) → Result X AsmFault → Result A SourceFault → Type 0
Assembles seen (Ok x) said = said ≡ Ok (seen x)
Assembles seen (Err e) said = Fails e said

-- as Assembles, by a relation between what was returned and what the text says
abbrev pub Comes : {X A : Type 0} → (X → A → Type 0) → Result X AsmFault → Result A SourceFault → Type 0
Comes {A = A} Is (Ok x) said = (a : A) × (said ≡ Ok a) × Is x a
Comes Is (Err e) said = Fails e said

-- the line has this cause; want of memory says nothing of the line
abbrev pub Refuses : {A : Type 0} → Stop → Result A Cause → Type 0
Refuses (stop.Refused cause) said = said ≡ Err cause
Refuses stop.Memory said = Unit {0}

-- as Comes, of what a line says
abbrev pub Takes : {X A : Type 0} → (X → A → Type 0) → Result X Stop → Result A Cause → Type 0
Takes {A = A} Is (Ok x) said = (a : A) × (said ≡ Ok a) × Is x a
Takes Is (Err e) said = Refuses e said

-- why line n stops a pass, as the refusal of the source
abbrev pub stopped_at : ℕ → Stop → AsmFault
stopped_at n (stop.Refused cause) = asm.Source (fault_at n cause)
stopped_at n stop.Memory = asm.Memory

-- the numbers of the refusals
abbrev pub fault_number : AsmFault → ℕ
fault_number (asm.Source fault) = source_fault_number fault
fault_number asm.Memory = 25

-- the address that is held for a name
abbrev pub held_address : code.Labels → List ℕ → Option ℕ
held_address m name = get_by (λ k. slice_cmp nat_cmp name k.now) m.addresses

-- the labels are held, each with its address
abbrev pub Holds : code.Labels → Labels → Type 0
Holds m labels = (name : List ℕ) → held_address m name ≡ label_address labels name

-- what was laid out is held
pub record IsLaid (m : held.Layout) (l : Layout) : Type 0 where
  pub labels : Holds m.labels l.labels
  pub size : m.size ≡ l.size

-- the text says a layout, and that is held
abbrev pub Lays : held.Layout → Result Layout SourceFault → Type 0
Lays m said = (l : Layout) × (said ≡ Ok l) × IsLaid m l
