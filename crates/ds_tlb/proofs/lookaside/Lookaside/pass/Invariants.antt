use Rattle.std.proofs.Common.{◌≡◌}
use Rattle.ds_tlb.specs.Inner.Entries.{passed}
use Rattle.ds_tlb.proofs.lookaside.Lookaside.pass.Given as goal

abbrev pub invariant-loop : goal.invariant-loop
invariant-loop g l = record {
  same : g.Self.Lookaside.entries l.self ≡ g.Self.Lookaside.entries l.fn.self;
  random : g.Self.Lookaside.random_place l.self ≡ passed g.Self.Lookaside.SLOTS g.Self.Lookaside.WIRED l.counter (g.Self.Lookaside.random_place l.fn.self);
}
