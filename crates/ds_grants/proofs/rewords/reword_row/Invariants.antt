use Rattle.std.proofs.Common.{◌≡◌, drop}
use Rattle.ds_grants.specs.Inner.Represented.{IsLow}
use Rattle.ds_grants.specs.Inner.Rewords.{memory_of_row, buffer_of_row}
use Rattle.ds_grants.proofs.rewords.reword_row.Given as goal

abbrev pub invariant-loop-entry : goal.invariant-loop-entry
invariant-loop-entry g l = record {
  memory : memory_of_row l.memory l.tables l.process l.page l.place (drop l.entry-index l.entries) ≡ memory_of_row l.fn.memory l.tables l.process l.page l.place l.entries;
  low : IsLow l.fn.memory l.memory;
  entries : buffer_of_row (g.L.Lookaside.entries l.tlb) l.number l.page l.place (drop l.entry-index l.entries) ≡ buffer_of_row (g.L.Lookaside.entries l.fn.tlb) l.number l.page l.place l.entries;
  random : g.L.Lookaside.random_place l.tlb ≡ g.L.Lookaside.random_place l.fn.tlb;
}
