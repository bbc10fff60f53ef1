-- A call for a character.
use Rattle.std.proofs.Common.{◌≡◌, ℕ, zero, suc, ◌^◌, ◌-◌, List, [], ◌∷◌, drop, refl, sym, ap}
use Rattle.std.specs.Prelude.{None, Some, slice_get, slice_index_or, slice_set}
use Rattle.ds_pagemap.specs.Machine.{State, process_of}
use Rattle.ds_pagemap.specs.Calls.{answered, after_get}
use Rattle.ds_monitor.specs.Inner.Taking.{got}

pub set_same : (queues : List (List ℕ)) (l : ℕ) → slice_index_or queues l [] ≡ [] → slice_set queues l [] ≡ queues
set_same [] l e = refl
set_same (q ∷ queues) zero e = ap (λ (x : List ℕ). x ∷ queues) (sym e)
set_same (q ∷ queues) (suc l) e = ap (λ (x : List (List ℕ)). q ∷ x) (set_same queues l e)

-- what is taken and answered is what the machine does; where nothing waits no queue is changed
pub taken_answered : (m : State) (p : ℕ) (bytes : List ℕ) → slice_index_or m.queues (process_of m p).line [] ≡ bytes
    → answered (record m { queues = slice_set m.queues (process_of m p).line (drop 1 bytes) }) p (got bytes) ≡ after_get m p bytes
taken_answered m p [] at = ap (λ (queues : List (List ℕ)). answered (record m { queues = queues }) p (2 ^ 32 - 1)) (set_same m.queues (process_of m p).line at)
taken_answered m p (byte ∷ rest) at = refl

-- the answer where one is there, and where none is
pub got_some : (bytes : List ℕ) (byte : ℕ) → slice_get bytes 0 ≡ Some byte → byte ≡ got bytes
got_some [] byte is = absurd cc
got_some (b ∷ rest) byte is = cc

pub got_none : (bytes : List ℕ) → slice_get bytes 0 ≡ None → 2 ^ 32 - 1 ≡ got bytes
got_none [] is = refl
got_none (b ∷ rest) is = absurd cc
