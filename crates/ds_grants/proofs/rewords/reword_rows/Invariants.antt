use Rattle.std.proofs.Common.{◌≡◌, ◌+◌, drop}
use Rattle.ds_grants.specs.Inner.Represented.{IsLow}
use Rattle.ds_grants.specs.Inner.Rewords.{memory_of_rows, buffer_of_rows}
use Rattle.ds_grants.proofs.rewords.reword_rows.Given as goal

abbrev pub invariant-loop-index : goal.invariant-loop-index
invariant-loop-index g l = record {
  memory : memory_of_rows l.memory l.tables l.page l.place (l.index + 1) (drop l.index l.table) ≡ memory_of_rows l.fn.memory l.tables l.page l.place 1 l.table;
  low : IsLow l.fn.memory l.memory;
  entries : buffer_of_rows (g.L.Lookaside.entries l.tlb) l.spaces l.page l.place (l.index + 1) (drop l.index l.table) ≡ buffer_of_rows (g.L.Lookaside.entries l.fn.tlb) l.spaces l.page l.place 1 l.table;
  random : g.L.Lookaside.random_place l.tlb ≡ g.L.Lookaside.random_place l.fn.tlb;
}
