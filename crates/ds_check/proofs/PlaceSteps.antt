-- A byte more of a text.
use Rattle.std.proofs.Common.{ℕ, ◌+◌, ◌≤◌, arith, inl, inr, ◌==◌}
use Rattle.std.proofs.lemmas.Bool.{cases_Bool}
use Rattle.ds_check.specs.declared.places.Place.{Place}
use Rattle.ds_check.specs.Places.{next_place, is_continuation}

pub line_step : (p : Place) (b n : ℕ) → p.line ≤ n → (next_place p b).line ≤ n + 1
line_step p b n l = elim (cases_Bool (b == 10)) [
  | inl feed ↦ rw feed (omega arith)
  | inr other ↦ rw other (elim (cases_Bool (is_continuation b)) [
    | inl on ↦ rw on (omega arith)
    | inr new ↦ rw new (omega arith)
  ])
]

pub column_step : (p : Place) (b n : ℕ) → p.column ≤ n → 1 ≤ n → (next_place p b).column ≤ n + 1
column_step p b n l some = elim (cases_Bool (b == 10)) [
  | inl feed ↦ rw feed (omega arith)
  | inr other ↦ rw other (elim (cases_Bool (is_continuation b)) [
    | inl on ↦ rw on (omega arith)
    | inr new ↦ rw new (omega arith)
  ])
]
