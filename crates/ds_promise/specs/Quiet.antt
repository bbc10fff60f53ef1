-- Runs in which no instruction reads what a touch can reach.
use Rattle.std.specs.Prelude.{◌≡◌, ℕ, zero, suc, ◌+◌, Bool, true, false, not, ◌&&◌, ◌||◌, List, [], ◌∷◌, replicate, is_some}
use Rattle.ds_isa.specs.declared.instr.Size.TheVariants.{Word}
use Rattle.ds_isa.specs.Instruction.{instruction_of}
use Rattle.ds_word.specs.Word.{word}
use Rattle.ds_isa.specs.declared.instr.Kind.TheVariants.{Fetch}
use Rattle.ds_policy.specs.declared.access.Verdict.{Verdict}
use Rattle.ds_policy.specs.declared.access.Verdict.TheVariants.{Allowed, Denied}
use Rattle.ds_word.specs.Bytes.{word_at}
use Rattle.ds_policy.specs.Pages.{decide, bytes_of}
use Rattle.ds_pagemap.specs.Machine.{State, process_of}
use Rattle.ds_pagemap.specs.Unit.{Outcome, Went, Branched, Called, Stopped, instruction}
use Rattle.ds_pagemap.specs.Run.{goes_on, go, after}
use Rattle.ds_promise.specs.Alike.{is_quiet}

-- the instruction that is fetched there, if one is, is quiet
abbrev pub quiet_where : State → ℕ → Verdict → Bool
quiet_where m p (Allowed page offset) = is_quiet (process_of m p).registers (instruction_of (word_at (bytes_of m.memory.pages page) offset))
quiet_where m p (Denied rule code) = true

-- the instruction at pc, if it can be fetched, is quiet
abbrev pub quiet_at : State → ℕ → ℕ → Bool
quiet_at m p pc = quiet_where m p (decide m.memory.table p Fetch Word pc)

-- the instruction in the slot after a branch is quiet; after others there is no slot
abbrev pub quiet_after : ℕ → ℕ → Outcome → Bool
quiet_after p pc (Branched m target) = quiet_at m p (word (pc + 4))
quiet_after p pc (Went m) = true
quiet_after p pc Called = true
quiet_after p pc (Stopped stop) = true

-- the unit of the first ready process, if one is ready, is quiet
abbrev pub quiet_first : State → List ℕ → Bool
quiet_first m [] = true
quiet_first m (p ∷ rest) = let pc = (process_of m p).pc in quiet_at m p pc && quiet_after p pc (instruction m p pc)

-- the unit that comes next, if one does, is quiet
abbrev pub is_quiet_half_turn : State → Bool
is_quiet_half_turn m = is_some m.owed || quiet_first m m.ready

-- the first so many half turns of a run for n ticks that never touches are quiet
abbrev pub quiet_halves : ℕ → ℕ → State → Bool
quiet_halves n zero m = true
quiet_halves n (suc k) m = (not (goes_on n m) || is_quiet_half_turn m) && quiet_halves n k (go n false m)

-- a run for n ticks that never touches is quiet along its whole way
pub record IsQuiet (n : ℕ) (m : State) : Type 0 where
  pub halves : (k : ℕ) → goes_on n (after n (replicate k false) m) ≡ true → is_quiet_half_turn (after n (replicate k false) m) ≡ true
