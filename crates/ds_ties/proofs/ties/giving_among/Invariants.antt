use Rattle.std.proofs.Common.{◌≡◌, drop}
use Rattle.ds_ties.specs.Ties.{giving_among}
use Rattle.ds_ties.proofs.ties.giving_among.Given as goal

abbrev pub invariant-loop-index : goal.invariant-loop-index
invariant-loop-index l = giving_among (drop l.index l.table) ≡ giving_among l.table
