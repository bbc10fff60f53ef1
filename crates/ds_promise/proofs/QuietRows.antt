-- A guest that is quiet at its start alone: a row that is a theorem about the definitions alone.
use Rattle.std.proofs.Common.{◌≡◌, true, false, [], ◌∷◌, refl}
use Rattle.ds_pagemap.specs.Rows.{run_on_literals}
use Rattle.ds_promise.specs.Quiet.{IsQuiet}
use Rattle.ds_promise.specs.Rows.QuietRows.{guest}

-- the first instruction reads no register, the second reads register 26
pub a_run_is_quiet_along_its_whole_way : IsQuiet 100 (guest ("nop" ∷ "addu $4,$26,$0" ∷ "syscall" ∷ [])) → ⊥
unfolding run_on_literals
a_run_is_quiet_along_its_whole_way h = let quiet : false ≡ true = h.halves 2 refl in absurd cc
