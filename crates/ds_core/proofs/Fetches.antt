-- A fetch: the instruction that a place holds, and a buffer that remembers more than before.
use Rattle.std.proofs.Common.{◌≡◌, ℕ, ◌<◌, ◌^◌, true, refl, sym, ap, ◌∙◌, arith}
use Rattle.std.proofs.lemmas.Bool.Decides.{nat_tests}
use Rattle.ds_word.specs.Bytes.{word_at}
use Rattle.std.specs.Prelude.{Result, Ok, Err, nat_lt}
use Rattle.ds_isa.specs.declared.instr.Instr.{Instr}
use Rattle.ds_isa.specs.declared.instr.Size.TheVariants.{Word}
use Rattle.ds_isa.specs.Instruction.{instruction_of}
use Rattle.ds_isa.specs.declared.instr.Kind.TheVariants.{Fetch}
use Rattle.ds_amap.specs.declared.map.Physical.{Physical}
use Rattle.ds_cp0.specs.declared.exception.ExceptionCode.TheVariants.{FetchBus}
use Rattle.ds_dev.specs.declared.fault.BusError.{BusError}
use Rattle.ds_dev.specs.Bus.{BusState}
use Rattle.ds_core.specs.Core.{CoreState, Step, trapped}
use Rattle.ds_core.specs.Access.{reached, aligned_load}
use Rattle.ds_core.specs.Inner.Access.{decoded}
use Rattle.ds_core.specs.Effect.{executed, fetch_answered, fetched_from, instruction_step}

-- what the bus answered, as an instruction or an error
answered : (c : CoreState) (b : BusState) (r : Result ℕ BusError) (i : Instr) → decoded r ≡ Ok i → executed c b i ≡ fetch_answered c b r
answered c b (Ok w) i is =
    let e : instruction_of w ≡ i = cc in ap (executed c b) (sym e)
answered c b (Err e) i is = absurd cc

refused : (c : CoreState) (b : BusState) (r : Result ℕ BusError) (e : BusError) → decoded r ≡ Err e → trapped c b FetchBus ≡ fetch_answered c b r
refused c b (Ok w) e is = absurd cc
refused c b (Err f) e is = refl

at_place : (c c1 : CoreState) (b : BusState) (p : Physical) → reached c Fetch Word c.pc ≡ Ok p → c1 ≡ c → fetched_from c1 b (Ok p) ≡ instruction_step c b
at_place c c1 b p is same = ap (λ k. fetched_from k b (Ok p)) same ∙ ap (fetched_from c b) (sym is)

-- the instruction at pc, where its word was answered
pub instruction_at : (c c1 : CoreState) (b b2 : BusState) (p : Physical) (i : Instr) (s : Step) → reached c Fetch Word c.pc ≡ Ok p → c1 ≡ c → Ok i ≡ decoded (aligned_load b p.0 Word).0 → b2 ≡ (aligned_load b p.0 Word).1 → s ≡ executed c1 b2 i → s ≡ instruction_step c b
instruction_at c c1 b b2 p i s is same word bus done =
    done ∙ (ap (λ k. executed c1 k i) bus ∙ (answered c1 (aligned_load b p.0 Word).1 (aligned_load b p.0 Word).0 i (sym word) ∙ at_place c c1 b p is same))

-- the same where the bus refused
pub refused_at : (c c1 : CoreState) (b b2 : BusState) (p : Physical) (e : BusError) (s : Step) → reached c Fetch Word c.pc ≡ Ok p → c1 ≡ c → Err e ≡ decoded (aligned_load b p.0 Word).0 → b2 ≡ (aligned_load b p.0 Word).1 → s ≡ trapped c1 b2 FetchBus → s ≡ instruction_step c b
refused_at c c1 b b2 p e s is same word bus done =
    done ∙ (ap (λ k. trapped c1 k FetchBus) bus ∙ (refused c1 (aligned_load b p.0 Word).1 (aligned_load b p.0 Word).0 e (sym word) ∙ at_place c c1 b p is same))

is_low : (place : ℕ) → place < 8388608 → nat_lt place (2 ^ 23) ≡ true
is_low place low = grind (arith, nat_tests)

-- a fetch from memory answers the instruction of the word there, and changes nothing
pub in_memory : (b : BusState) (place : ℕ) (i : Instr) → place < 8388608 → i ≡ instruction_of (word_at b.memory place) → Ok i ≡ decoded (aligned_load b place Word).0
in_memory b place i low is = rw (is_low place low, is) refl

pub kept_in_memory : (b b2 : BusState) (place : ℕ) → place < 8388608 → b2 ≡ b → b2 ≡ (aligned_load b place Word).1
kept_in_memory b b2 place low same = rw (is_low place low) same
