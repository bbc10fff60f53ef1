use Rattle.ds_tlb.proofs.Lookups.{IsLeft}
use Rattle.ds_tlb.proofs.indexed.first_match.Given as goal

abbrev pub invariant-loop-rest : goal.invariant-loop-rest
invariant-loop-rest l = IsLeft l.rest l.vpn l.asid l.entries

abbrev pub decreases-loop-rest : goal.decreases-loop-rest
decreases-loop-rest l = l.rest
