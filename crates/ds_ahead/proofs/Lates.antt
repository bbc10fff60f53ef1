-- An operation does what it does whatever load is late whose register it doesn't read.
use Rattle.std.proofs.Common.{◌≡◌, ℕ, ◌%◌, ◌<◌, Bool, true, false, refl, ap, ◌∙◌, arith}
use Rattle.std.specs.Prelude.{◌≢◌, ◌==◌, Option, Some, None, Result, Ok, Err}
use Rattle.std.proofs.lemmas.Bool.Decides.{nat_tests}
use Rattle.ds_isa.specs.declared.instr.Late.{Late}
use Rattle.ds_isa.specs.declared.instr.Instr.{Instr}
use Rattle.ds_isa.specs.declared.instr.Size.{Size}
use Rattle.ds_isa.specs.declared.instr.Kind.TheVariants.{Load, Store}
use Rattle.ds_isa.specs.Registers.{Registers, read}
use Rattle.ds_isa.specs.Meaning.{Effect, Branches, Loads, Stores, Faults, Calls, Privileged, written_or_trap}
use Rattle.ds_isa.specs.Meaning as effects
use Rattle.ds_pages.specs.declared.operation.Operation.{Operation}
use Rattle.ds_pages.specs.declared.operation.OperationKind.{OperationKind}
use Rattle.ds_pages.specs.declared.operation.OperationKind.TheVariants as kind
use Rattle.ds_pages.specs.Inner.Operations.{does, does_by}
use Rattle.ds_amap.specs.declared.map.Physical.{Physical}
use Rattle.ds_amap.specs.declared.map.Fault.{Fault}
use Rattle.ds_dev.specs.declared.fault.BusError.{BusError}
use Rattle.ds_dev.specs.Bus.{BusState}
use Rattle.ds_core.specs.Core.{CoreState, branched}
use Rattle.ds_core.specs.Access.{reached, aligned_load, aligned_store, kept_word, load_answered, loaded_from, store_answered, stored_to}
use Rattle.ds_core.specs.Effect.{effect}
use Rattle.ds_ahead.specs.Inner.Placed.{IsFree}

-- the processor with a load that is late
abbrev pub with_late : CoreState → Option Late → CoreState
with_late c l = record c { registers = record c.registers { late = l } }

apart : (a n : ℕ) → n < 32 → a ≢ n → (a == n % 32) ≡ false
apart a n small free = grind (arith, nat_tests)

-- a register reads as where no load is late
pub read_free : (r : Registers) (l : Option Late) (n : ℕ) → r.late ≡ None → n < 32 → IsFree l n → read r n ≡ read (record r { late = l }) n
read_free r None n none small free = rw none refl
read_free r (Some l) n none small free = rw (none, apart l.register n small free) refl

trap_alike : (r : Registers) (l : Option Late) (d : ℕ) (v : Option ℕ) → written_or_trap r d v ≡ written_or_trap (record r { late = l }) d v
trap_alike r l d None = refl
trap_alike r l d (Some v) = refl

-- so what an operation does is the same
does_alike : (k : OperationKind) (d s t i pc : ℕ) (r : Registers) (l : Option Late) → read r s ≡ read (record r { late = l }) s → read r t ≡ read (record r { late = l }) t
    → does_by k d s t i pc r ≡ does_by k d s t i pc (record r { late = l })
does_alike kind.Nothing d s t i pc r l first second = refl
does_alike kind.Sll d s t i pc r l first second = rw first refl
does_alike kind.Srl d s t i pc r l first second = rw first refl
does_alike kind.Sra d s t i pc r l first second = rw first refl
does_alike kind.Sllv d s t i pc r l first second = rw (first, second) refl
does_alike kind.Srlv d s t i pc r l first second = rw (first, second) refl
does_alike kind.Srav d s t i pc r l first second = rw (first, second) refl
does_alike kind.Mfhi d s t i pc r l first second = refl
does_alike kind.Mthi d s t i pc r l first second = rw first refl
does_alike kind.Mflo d s t i pc r l first second = refl
does_alike kind.Mtlo d s t i pc r l first second = rw first refl
does_alike kind.Mult d s t i pc r l first second = rw (first, second) refl
does_alike kind.Multu d s t i pc r l first second = rw (first, second) refl
does_alike kind.Div d s t i pc r l first second = rw (first, second) refl
does_alike kind.Divu d s t i pc r l first second = rw (first, second) refl
does_alike kind.Add d s t i pc r l first second = rw (first, second) (trap_alike r l d _)
does_alike kind.Addu d s t i pc r l first second = rw (first, second) refl
does_alike kind.Sub d s t i pc r l first second = rw (first, second) (trap_alike r l d _)
does_alike kind.Subu d s t i pc r l first second = rw (first, second) refl
does_alike kind.And d s t i pc r l first second = rw (first, second) refl
does_alike kind.Or d s t i pc r l first second = rw (first, second) refl
does_alike kind.Xor d s t i pc r l first second = rw (first, second) refl
does_alike kind.Nor d s t i pc r l first second = rw (first, second) refl
does_alike kind.Slt d s t i pc r l first second = rw (first, second) refl
does_alike kind.Sltu d s t i pc r l first second = rw (first, second) refl
does_alike kind.Addi d s t i pc r l first second = rw first (trap_alike r l d _)
does_alike kind.Addiu d s t i pc r l first second = rw first refl
does_alike kind.Slti d s t i pc r l first second = rw first refl
does_alike kind.Sltiu d s t i pc r l first second = rw first refl
does_alike kind.Andi d s t i pc r l first second = rw first refl
does_alike kind.Ori d s t i pc r l first second = rw first refl
does_alike kind.Xori d s t i pc r l first second = rw first refl
does_alike kind.Lui d s t i pc r l first second = refl
does_alike kind.Bltz d s t i pc r l first second = rw first refl
does_alike kind.Bgez d s t i pc r l first second = rw first refl
does_alike kind.Bltzal d s t i pc r l first second = rw first refl
does_alike kind.Bgezal d s t i pc r l first second = rw first refl
does_alike kind.Beq d s t i pc r l first second = rw (first, second) refl
does_alike kind.Bne d s t i pc r l first second = rw (first, second) refl
does_alike kind.Blez d s t i pc r l first second = rw first refl
does_alike kind.Bgtz d s t i pc r l first second = rw first refl
does_alike kind.J d s t i pc r l first second = refl
does_alike kind.Jal d s t i pc r l first second = refl
does_alike kind.Jr d s t i pc r l first second = rw first refl
does_alike kind.Jalr d s t i pc r l first second = rw first refl
does_alike kind.Lb d s t i pc r l first second = rw first refl
does_alike kind.Lh d s t i pc r l first second = rw first refl
does_alike kind.Lw d s t i pc r l first second = rw first refl
does_alike kind.Lbu d s t i pc r l first second = rw first refl
does_alike kind.Lhu d s t i pc r l first second = rw first refl
does_alike kind.Sb d s t i pc r l first second = rw (first, second) refl
does_alike kind.Sh d s t i pc r l first second = rw (first, second) refl
does_alike kind.Sw d s t i pc r l first second = rw (first, second) refl
does_alike kind.Syscall d s t i pc r l first second = refl
does_alike kind.Other d s t i pc r l first second = refl

-- an effect that is no instruction of the system coprocessor
abbrev IsPlain : Effect → Type 0
IsPlain Privileged = ⊥
IsPlain _ = Unit {0}

trap_plain : (r : Registers) (d : ℕ) (v : Option ℕ) → IsPlain (written_or_trap r d v)
trap_plain r d None = tt
trap_plain r d (Some v) = tt

does_plain : (k : OperationKind) (d s t i pc : ℕ) (r : Registers) → IsPlain (does_by k d s t i pc r)
does_plain kind.Nothing d s t i pc r = tt
does_plain kind.Sll d s t i pc r = tt
does_plain kind.Srl d s t i pc r = tt
does_plain kind.Sra d s t i pc r = tt
does_plain kind.Sllv d s t i pc r = tt
does_plain kind.Srlv d s t i pc r = tt
does_plain kind.Srav d s t i pc r = tt
does_plain kind.Mfhi d s t i pc r = tt
does_plain kind.Mthi d s t i pc r = tt
does_plain kind.Mflo d s t i pc r = tt
does_plain kind.Mtlo d s t i pc r = tt
does_plain kind.Mult d s t i pc r = tt
does_plain kind.Multu d s t i pc r = tt
does_plain kind.Div d s t i pc r = tt
does_plain kind.Divu d s t i pc r = tt
does_plain kind.Add d s t i pc r = trap_plain r d _
does_plain kind.Addu d s t i pc r = tt
does_plain kind.Sub d s t i pc r = trap_plain r d _
does_plain kind.Subu d s t i pc r = tt
does_plain kind.And d s t i pc r = tt
does_plain kind.Or d s t i pc r = tt
does_plain kind.Xor d s t i pc r = tt
does_plain kind.Nor d s t i pc r = tt
does_plain kind.Slt d s t i pc r = tt
does_plain kind.Sltu d s t i pc r = tt
does_plain kind.Addi d s t i pc r = trap_plain r d _
does_plain kind.Addiu d s t i pc r = tt
does_plain kind.Slti d s t i pc r = tt
does_plain kind.Sltiu d s t i pc r = tt
does_plain kind.Andi d s t i pc r = tt
does_plain kind.Ori d s t i pc r = tt
does_plain kind.Xori d s t i pc r = tt
does_plain kind.Lui d s t i pc r = tt
does_plain kind.Bltz d s t i pc r = tt
does_plain kind.Bgez d s t i pc r = tt
does_plain kind.Bltzal d s t i pc r = tt
does_plain kind.Bgezal d s t i pc r = tt
does_plain kind.Beq d s t i pc r = tt
does_plain kind.Bne d s t i pc r = tt
does_plain kind.Blez d s t i pc r = tt
does_plain kind.Bgtz d s t i pc r = tt
does_plain kind.J d s t i pc r = tt
does_plain kind.Jal d s t i pc r = tt
does_plain kind.Jr d s t i pc r = tt
does_plain kind.Jalr d s t i pc r = tt
does_plain kind.Lb d s t i pc r = tt
does_plain kind.Lh d s t i pc r = tt
does_plain kind.Lw d s t i pc r = tt
does_plain kind.Lbu d s t i pc r = tt
does_plain kind.Lhu d s t i pc r = tt
does_plain kind.Sb d s t i pc r = tt
does_plain kind.Sh d s t i pc r = tt
does_plain kind.Sw d s t i pc r = tt
does_plain kind.Syscall d s t i pc r = tt
does_plain kind.Other d s t i pc r = tt

by_branch : (slot : Bool) (c : CoreState) (b : BusState) (l : Option Late) (r : Registers) (target : ℕ) → branched slot c b r target ≡ branched slot (with_late c l) b r target
by_branch true c b l r target = refl
by_branch false c b l r target = refl

by_load : (c : CoreState) (b : BusState) (l : Option Late) (after : ℕ → Registers) (r : Result ℕ BusError) → load_answered c b after r ≡ load_answered (with_late c l) b after r
by_load c b l after (Err e) = refl
by_load c b l after (Ok w) = refl

by_loaded : (c : CoreState) (b : BusState) (l : Option Late) (size : Size) (addr : ℕ) (after : ℕ → Registers) (r : Result Physical Fault) → loaded_from c b size addr after r ≡ loaded_from (with_late c l) b size addr after r
by_loaded c b l size addr after (Err e) = refl
by_loaded c b l size addr after (Ok place) = by_load c (aligned_load b place.0 size).1 l after (aligned_load b place.0 size).0

by_store : (c : CoreState) (b : BusState) (l : Option Late) (r : Result (Unit {0}) BusError) → store_answered c b r ≡ store_answered (with_late c l) b r
by_store c b l (Err e) = refl
by_store c b l (Ok u) = refl

by_stored : (c : CoreState) (b : BusState) (l : Option Late) (size : Size) (addr : ℕ) (after : ℕ → ℕ) (r : Result Physical Fault) → stored_to c b size addr after r ≡ stored_to (with_late c l) b size addr after r
by_stored c b l size addr after (Err e) = refl
by_stored c b l size addr after (Ok place) = by_store c (aligned_store b place.0 size (after (kept_word b place.0))).1 l (aligned_store b place.0 size (after (kept_word b place.0))).0

-- and what its effect makes of processor and bus
effect_alike : (c : CoreState) (b : BusState) (l : Option Late) (i : Instr) (e : Effect) → IsPlain e → effect c b i e ≡ effect (with_late c l) b i e
effect_alike c b l i (effects.Goes after) is = refl
effect_alike c b l i (Branches after target) is = by_branch c.slot c b l after target
effect_alike c b l i (Loads size addr after) is = by_loaded c b l size addr after (reached c Load size addr)
effect_alike c b l i (Stores size addr after) is = by_stored c b l size addr after (reached c Store size addr)
effect_alike c b l i (Faults code) is = refl
effect_alike c b l i Calls is = refl
effect_alike c b l i Privileged is = absurd is

pub does_free : (o : Operation) (pc : ℕ) (r : Registers) (l : Option Late) → r.late ≡ None → o.first.number < 32 → o.second.number < 32 → IsFree l o.first.number → IsFree l o.second.number
    → does o pc r ≡ does o pc (record r { late = l })
does_free o pc r l none low high first second =
    does_alike o.kind o.to.number o.first.number o.second.number o.immediate pc r l (read_free r l o.first.number none low first) (read_free r l o.second.number none high second)

-- an operation has the effect that it has where no load is late
pub effect_free : (o : Operation) (c : CoreState) (b : BusState) (i : Instr) (l : Option Late) → c.registers.late ≡ None → o.first.number < 32 → o.second.number < 32 → IsFree l o.first.number → IsFree l o.second.number
    → effect c b i (does o c.pc c.registers) ≡ effect (with_late c l) b i (does o c.pc (record c.registers { late = l }))
effect_free o c b i l none low high first second =
    effect_alike c b l i (does o c.pc c.registers) (does_plain o.kind o.to.number o.first.number o.second.number o.immediate c.pc c.registers)
    ∙ ap (effect (with_late c l) b i) (does_free o c.pc c.registers l none low high first second)
