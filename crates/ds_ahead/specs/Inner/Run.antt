-- A run through a page in hand.
use Rattle.std.specs.Prelude.{◌≡◌, ◌≢◌, ℕ, ◌+◌, ◌-◌, ◌*◌, ◌^◌, ◌<◌, ◌≤◌, ◌==◌, if◌then◌else◌, Bool, ◌&&◌, true, false, nat_lt, Option, None, Some}
use Rattle.ds_word.specs.Word.{word}
use Rattle.ds_isa.specs.declared.instr.Late.{Late}
use Rattle.ds_pages.specs.declared.places.Places.{Places}
use Rattle.ds_pages.specs.declared.operation.OperationKind.{OperationKind}
use Rattle.ds_pages.specs.declared.operation.OperationKind.TheVariants as kind
use Rattle.ds_pages.specs.declared.does.Does.{Does}
use Rattle.ds_pages.specs.Inner.Does.{single, is_known}
use Rattle.ds_pages.specs.Inner.Places.{does_at, fields_at, length_at}
use Rattle.ds_pages.specs.Inner.Page.{KnownPageState, HoldsWords}
use Rattle.ds_cp0.specs.System.{asid_of, is_pending}
use Rattle.ds_dev.specs.Bus.{BusState, lines}
use Rattle.ds_core.specs.declared.event.Event.TheVariants as event
use Rattle.ds_core.specs.Core.{CoreState}
use Rattle.ds_ahead.specs.declared.operations.Outcome.{Outcome}
use Rattle.ds_ahead.specs.declared.operations.Outcome.TheVariants.{Done, Loaded, Branched, Called, Left}
use Rattle.ds_ahead.specs.Inner.Code.{KnowsPage}
use Rattle.ds_ahead.specs.declared.code.CodePage.{CodePage}
use Rattle.ds_ahead.specs.declared.here.Here.{Here}
use Rattle.ds_ahead.specs.declared.here.Way.{Way}
use Rattle.ds_ahead.specs.declared.here.Way.TheVariants.{On, Out, Leaves, Calls, Away}
use Rattle.ds_ahead.specs.declared.next.Next.{Next}
use Rattle.ds_ahead.specs.declared.next.Next.TheVariants.{Any, Call, Plain}
use Rattle.ds_ahead.specs.Inner.Placed.{Place, IsFree}
use Rattle.ds_ahead.specs.Inner.Operations.{Steps, IsCalled, LeadsOn}

-- the position at place i of the page that begins at first, where no load is late
abbrev pub place_in : ℕ → ℕ → Place
place_in first i = record { pc = first + 4 * i; next = first + 4 * i + 4; slot = false; late = None }

-- the load that is late where a run stands
abbrev pub late_here : Here → Option Late
late_here h = if h.late_at == h.place then Some h.late else None

-- the position where a run stands
abbrev pub position_here : ℕ → Here → Place
position_here first h = record (place_in first h.place) { late = late_here h }

-- the operation at place i reads no register whose load is late
abbrev pub IsFreeOf : Option Late → Places → ℕ → Type 0
IsFreeOf late p i = IsFree late (fields_at p i).first × IsFree late (fields_at p i).second

-- a run stands at a place of its page, or after the last; its last load was of a register from 1 to 31, and was late at no place of the page that comes after it
pub record StandsIn (h : Here) : Type 0 where
  pub inside : h.place ≤ 1024
  pub some : 0 < h.late.register
  pub few : h.late.register < 32
  pub past : h.place < h.late_at → 1024 < h.late_at

-- its next operation reads no register whose load is late
abbrev pub IsFreeHere : Places → Here → Type 0
IsFreeHere p h = h.place < 1024 → IsFreeOf (late_here h) p h.place

-- the steps that are left where a run stands, when those after its block are rest
abbrev pub left_here : Places → Here → ℕ → ℕ
left_here p h rest = rest + length_at p h.place

-- a run may go on where it stands: it goes through a page in hand that has the words of the code, with so many steps left after its block, and no interrupt is to be taken
pub record MayGo (page : KnownPageState) (code : CodePage) (h : Here) (rest : ℕ) (c : CoreState) (b : BusState) : Type 0 where
  pub stands : StandsIn h
  pub free : IsFreeHere page.places h
  pub fits : left_here page.places h rest < 2 ^ 32
  pub known : KnowsPage code.vpn code.base c
  pub space : code.asid ≡ asid_of c.system
  pub calm : is_pending c.system (lines b).0 (lines b).1 ≡ false
  pub holds : HoldsWords page b.memory code.base

-- in the slot at pc, after which the program goes on at the target
abbrev pub slot_in : ℕ → ℕ → Place
slot_in pc target = record { pc = pc; next = target; slot = true; late = None }

-- the step at a position was done by an operation; or it is a system call, or is left, and neither processor nor bus has changed
abbrev pub Moves : Outcome → CoreState → Place → BusState → CoreState → Place → BusState → Type 0
Moves Done c at b c2 at2 b2 = Steps event.Retired c at b c2 at2 b2
Moves Loaded c at b c2 at2 b2 = Steps event.Retired c at b c2 at2 b2
Moves Branched c at b c2 at2 b2 = Steps event.Branched c at b c2 at2 b2
Moves Called c at b c2 at2 b2 = (c2 ≡ c) × (b2 ≡ b) × IsCalled c at b
Moves Left c at b c2 at2 b2 = (c2 ≡ c) × (b2 ≡ b)

-- the same whatever load is late that the operation at place i doesn't read
abbrev pub MovesAt : Places → ℕ → Outcome → CoreState → Place → BusState → CoreState → Place → BusState → Type 0
MovesAt p i out c at b c2 at2 b2 = (late : Option Late) → IsFreeOf late p i → Moves out c (record at { late = late }) b c2 at2 b2

-- an operation of a kind is done
abbrev pub IsAlone : Does → OperationKind → Type 0
IsAlone d k = (d ≡ single k) × (k ≢ kind.Other)

-- a run that had so many steps left came from a position to where it stands, and is to go on, or out from there, where the block may not fit, or is left or calls there, or has left the page
abbrev pub Ran : Way → ℕ → CoreState → Place → BusState → Places → ℕ → Here → ℕ → CoreState → Place → BusState → Type 0
Ran On all c at b p first h rest c2 at2 b2 = (left_here p h rest ≤ all) × LeadsOn (all - left_here p h rest) c at b c2 (position_here first h) b2
Ran Out all c at b p first h rest c2 at2 b2 = (rest ≤ all) × LeadsOn (all - rest) c at b c2 (position_here first h) b2
Ran Leaves all c at b p first h rest c2 at2 b2 = (word (left_here p h rest) ≤ all) × LeadsOn (all - word (left_here p h rest)) c at b c2 (position_here first h) b2
Ran Calls all c at b p first h rest c2 at2 b2 = (rest ≤ all) × LeadsOn (all - rest) c at b c2 (position_here first h) b2 × IsCalled c2 (position_here first h) b2
Ran Away all c at b p first h rest c2 at2 b2 = (rest ≤ all) × LeadsOn (all - rest) c at b c2 at2 b2

-- what comes next, if that is so
abbrev pub next_by : Next → Bool → Next
next_by next true = next
next_by next false = Any

-- how a run comes out: where it stands or went away to, with what is left, and what comes next
abbrev pub ComesOut : Way → Places → ℕ → Here → ℕ → Place → Place → ℕ → Next → Type 0
ComesOut On p first h rest at at2 left next = (at2 ≡ position_here first h) × (left ≡ word (left_here p h rest)) × (next ≡ Any)
ComesOut Out p first h rest at at2 left next = (at2 ≡ position_here first h) × (left ≡ rest) × (next ≡ Any)
ComesOut Leaves p first h rest at at2 left next = (at2 ≡ position_here first h) × (left ≡ word (left_here p h rest)) × (next ≡ next_by Plain (is_known (does_at p h.place) && nat_lt 0 left))
ComesOut Calls p first h rest at at2 left next = (at2 ≡ position_here first h) × (left ≡ rest) × (next ≡ next_by Call (nat_lt 0 rest))
ComesOut Away p first h rest at at2 left next = (at2 ≡ at) × (left ≡ rest) × (next ≡ Any)

-- a block of so many steps is begun, or not where it doesn't fit
abbrev pub BeginsBlock : Way → ℕ → ℕ → ℕ → Type 0
BeginsBlock On length rest rest2 = rest2 + length ≡ rest
BeginsBlock Out length rest rest2 = rest2 ≡ rest
BeginsBlock _ length rest rest2 = ⊥

-- a run goes on where a slot led to, or not where the block doesn't fit; or that is in no place of its page
abbrev pub Lands : Way → Places → ℕ → Place → Here → ℕ → ℕ → Type 0
Lands On p first at h rest rest2 = (at ≡ position_here first h) × (left_here p h rest2 ≡ rest) × IsFreeHere p h
Lands Out p first at h rest rest2 = (at ≡ position_here first h) × (rest2 ≡ rest)
Lands Leaves p first at h rest rest2 = ⊥
Lands Calls p first at h rest rest2 = ⊥
Lands Away p first at h rest rest2 = rest2 ≡ rest
