-- Each word of the handler, fetched and done.
use Rattle.std.proofs.Common.{◌≡◌, ℕ, ◌+◌, ◌%◌, Bool, true, false, cond, List, refl, ap, ◌∙◌}
use Rattle.std.proofs.Math.Dec.{lit<}
use Rattle.std.specs.Prelude.{◌==◌, ◌&&◌, ◌||◌, not, bit_and, Ok, Err}
use Rattle.ds_word.specs.Word.{bits, bit}
use Rattle.ds_isa.specs.declared.instr.Size.TheVariants.{Word}
use Rattle.ds_isa.specs.declared.instr.Instr.{Instr}
use Rattle.ds_isa.specs.declared.instr.Instr.TheVariants as instr
use Rattle.ds_isa.specs.Instruction.{instruction_of}
use Rattle.ds_word.specs.Bytes.{word_at}
use Rattle.ds_cp0.specs.System.{System, is_user, asid_of, is_pending}
use Rattle.ds_isa.specs.declared.instr.Kind.TheVariants.{Fetch}
use Rattle.ds_amap.specs.declared.map.Mode.TheVariants.{User, Kernel}
use Rattle.ds_amap.specs.declared.map.Fault.TheVariants.{Address}
use Rattle.ds_tlb.specs.declared.entry.Entry.{Entry}
use Rattle.ds_amap.specs.Map.{translate, at_physical}
use Rattle.ds_dev.specs.Bus.{BusState, lines, is_memory, answers, load}
use Rattle.ds_core.specs.Core.{CoreState, trapped, with_tick}
use Rattle.ds_core.specs.Access.{reached, mode_of}
use Rattle.ds_core.specs.Coprocessor.{usable, unusable}
use Rattle.ds_core.specs.Effect.{step, instruction_step, fetched_from, fetch_answered, executed}
use Rattle.ds_cp0.specs.declared.exception.ExceptionCode.TheVariants.{Interrupt}
use Rattle.ds_refill.specs.Handler.{HasWords}
use Rattle.ds_refill.specs.Inner.Refill.{IsKernel}
use Rattle.ds_refill.specs.Inner.Refill as refill

-- no interrupt where they are off
off : (s : System) (p q : Bool) → bits s.status 0 1 ≡ 0 → is_pending s p q ≡ false
off s p q e = ap (λ (n : ℕ). (n == 1) && not (bit_and (bits s.status 8 8) (bits s.cause 8 2 + bit 2 p + bit 3 q) == 0)) e

-- the word at a place of the first page is fetched and done
at_place : (c : CoreState) (b : BusState) (pc place w : ℕ) → IsKernel c.system → c.pc ≡ pc
    → (pc % 4 == 0) ≡ true → ((es : List Entry) (asid : ℕ) → translate es asid Kernel Fetch pc ≡ Ok (at_physical place)) → is_memory place ≡ true
    → word_at b.memory place ≡ w → step c b ≡ with_tick (executed c b (instruction_of w))
at_place c b pc place w k at aligned direct here is =
    ap (λ (p : Bool). cond p (trapped c b Interrupt) (with_tick (instruction_step c b))) (off c.system (lines b).0 (lines b).1 k.off)
    ∙ ap with_tick (
    ap (λ (a : ℕ). fetched_from c b (reached c Fetch Word a)) at
    ∙ ap (λ (p : Bool). fetched_from c b (cond (not p) (Err Address) (translate c.entries (asid_of c.system) (mode_of c.system) Fetch pc))) aligned
    ∙ ap (λ (p : Bool). fetched_from c b (translate c.entries (asid_of c.system) (cond p User Kernel) Fetch pc)) k.mode
    ∙ ap (fetched_from c b) (direct c.entries (asid_of c.system))
    ∙ ap (λ (p : Bool). (let r = cond p (answers b (word_at b.memory place)) (load b place Word) in fetch_answered c r.1 r.0)) here
    ∙ ap (λ (n : ℕ). executed c b (instruction_of n)) is
    )

-- an instruction of the system coprocessor is done
allowed : (c : CoreState) (b : BusState) (i : Instr) → is_user c.system ≡ false → (p : Bool) → cond ((true && not (is_user c.system)) || p) (usable c b i) (unusable c b 0) ≡ usable c b i
allowed c b i k p = ap (λ (u : Bool). cond ((true && not u) || p) (usable c b i) (unusable c b 0)) k

pub context_is_read : (c : CoreState) (b : BusState) → HasWords b.memory → IsKernel c.system → c.pc ≡ 0x80000000 → step c b ≡ refill.context_read c b
context_is_read c b w k at = at_place c b 0x80000000 0 0x401A2000 k at refl (λ es asid. refl) refl (w.at 0 (lit< tt)) ∙ ap with_tick (allowed c b (instr.Mfc0 26 4) k.mode _)

pub address_is_read : (c : CoreState) (b : BusState) → HasWords b.memory → IsKernel c.system → c.pc ≡ 0x80000004 → step c b ≡ refill.address_read c b
address_is_read c b w k at = at_place c b 0x80000004 4 0x401B7000 k at refl (λ es asid. refl) refl (w.at 1 (lit< tt)) ∙ ap with_tick (allowed c b (instr.Mfc0 27 14) k.mode _)

pub entry_is_loaded : (c : CoreState) (b : BusState) → HasWords b.memory → IsKernel c.system → c.pc ≡ 0x80000008 → step c b ≡ refill.entry_loaded c b
entry_is_loaded c b w k at = at_place c b 0x80000008 8 0x8F5A0000 k at refl (λ es asid. refl) refl (w.at 2 (lit< tt))

pub nothing_is_done : (c : CoreState) (b : BusState) → HasWords b.memory → IsKernel c.system → c.pc ≡ 0x8000000C → step c b ≡ refill.passed c b
nothing_is_done c b w k at = at_place c b 0x8000000C 12 0 k at refl (λ es asid. refl) refl (w.at 3 (lit< tt))

pub entry_is_moved : (c : CoreState) (b : BusState) → HasWords b.memory → IsKernel c.system → c.pc ≡ 0x80000010 → step c b ≡ refill.entry_moved c b
entry_is_moved c b w k at = at_place c b 0x80000010 16 0x409A1000 k at refl (λ es asid. refl) refl (w.at 4 (lit< tt)) ∙ ap with_tick (allowed c b (instr.Mtc0 26 2) k.mode _)

pub register_is_cleared : (c : CoreState) (b : BusState) → HasWords b.memory → IsKernel c.system → c.pc ≡ 0x80000014 → step c b ≡ refill.cleared c b
register_is_cleared c b w k at = at_place c b 0x80000014 20 0x0000D021 k at refl (λ es asid. refl) refl (w.at 5 (lit< tt))

pub entry_is_written : (c : CoreState) (b : BusState) → HasWords b.memory → IsKernel c.system → c.pc ≡ 0x80000018 → step c b ≡ refill.entry_written c b
entry_is_written c b w k at = at_place c b 0x80000018 24 0x42000006 k at refl (λ es asid. refl) refl (w.at 6 (lit< tt)) ∙ ap with_tick (allowed c b instr.Tlbwr k.mode _)

pub jump_is_taken : (c : CoreState) (b : BusState) → HasWords b.memory → IsKernel c.system → c.pc ≡ 0x8000001C → step c b ≡ refill.jumped c b
jump_is_taken c b w k at = at_place c b 0x8000001C 28 0x03600008 k at refl (λ es asid. refl) refl (w.at 7 (lit< tt))

pub mode_is_popped : (c : CoreState) (b : BusState) → HasWords b.memory → IsKernel c.system → c.pc ≡ 0x80000020 → step c b ≡ refill.came_back c b
mode_is_popped c b w k at = at_place c b 0x80000020 32 0x42000010 k at refl (λ es asid. refl) refl (w.at 8 (lit< tt)) ∙ ap with_tick (allowed c b instr.Rfe k.mode _)
