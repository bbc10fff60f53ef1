-- Where an operation that was done leaves its position, and what it leaves of memory.
use Rattle.std.specs.Prelude.{◌≡◌, ℕ, ◌+◌, ◌*◌, ◌%◌, ◌<◌, Bool, true, false, List, Some, slice_index}
use Rattle.ds_word.specs.Bytes.{word_at}
use Rattle.ds_pages.specs.declared.does.Does.{Does}
use Rattle.ds_pages.specs.Inner.Does.{is_load, has_slot, is_end}
use Rattle.ds_core.specs.Core.{CoreState}
use Rattle.ds_ahead.specs.declared.operations.Outcome.{Outcome}
use Rattle.ds_ahead.specs.declared.operations.Outcome.TheVariants.{Done, Loaded, Branched, Called, Left}
use Rattle.ds_ahead.specs.Inner.Placed.{Place, at_next, at_slot}

-- the position after a load into a register, whose old value is read by the next operation
abbrev pub at_load : CoreState → ℕ → Place → Place
at_load c to at = record (at_next at) { late = Some (record { register = to; old = slice_index c.registers.general to }) }

-- an operation that neither loads nor branches is done or left
abbrev pub GoesOn : Outcome → Place → Place → Type 0
GoesOn Done at at2 = at2 ≡ at_next at
GoesOn Left at at2 = Unit {0}
GoesOn _ at at2 = ⊥

-- a load is done or left
abbrev pub GoesLate : Outcome → CoreState → ℕ → Place → Place → Type 0
GoesLate Loaded c to at at2 = at2 ≡ at_load c to at
GoesLate Left c to at at2 = Unit {0}
GoesLate _ c to at at2 = ⊥

-- a branch or jump is done where it stands in no slot, or left
abbrev pub GoesAway : Outcome → Place → Place → Type 0
GoesAway Branched at at2 = (at.slot ≡ false) × (at2 ≡ at_slot at at2.next)
GoesAway Left at at2 = Unit {0}
GoesAway _ at at2 = ⊥

-- what ends a block is called or left
abbrev pub GoesNowhere : Outcome → Type 0
GoesNowhere Called = Unit {0}
GoesNowhere Left = Unit {0}
GoesNowhere _ = ⊥

-- one of these, by whether it ends a block, has a slot or loads
abbrev pub GoesAs : Bool → Bool → Bool → Outcome → CoreState → ℕ → Place → Place → Type 0
GoesAs true slot load out c to at at2 = GoesNowhere out
GoesAs false true load out c to at at2 = GoesAway out at at2
GoesAs false false true out c to at at2 = GoesLate out c to at at2
GoesAs false false false out c to at at2 = GoesOn out at at2

-- where what is done leaves its position
abbrev pub GoesBy : Does → Outcome → CoreState → ℕ → Place → Place → Type 0
GoesBy d out c to at at2 = GoesAs (is_end d) (has_slot d) (is_load d) out c to at at2

-- the words of the frame that begins at an address are as they were
abbrev pub KeepsFrame : ℕ → List ℕ → List ℕ → Type 0
KeepsFrame base memory new = base % 4096 ≡ 0 → (k : ℕ) → k < 1024 → word_at new (base + 4 * k) ≡ word_at memory (base + 4 * k)
