use Rattle.std.proofs.Common.{◌≡◌, ◌≤◌, drop}
use Rattle.ds_word.specs.Digits.{digits_from}
use Rattle.ds_word.proofs.digits.number_of_digits.Given as goal

abbrev pub invariant-loop-c : goal.invariant-loop-c
invariant-loop-c l = record {
  same : digits_from l.base l.limit l.n (drop l.c-index l.digits) ≡ digits_from l.base l.limit 0 l.digits;
  bounded : l.n ≤ l.limit;
}
