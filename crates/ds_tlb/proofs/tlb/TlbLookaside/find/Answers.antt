use Rattle.ds_tlb.proofs.Matches.{found_match, only_match, missed_match}
use Rattle.ds_tlb.proofs.tlb.TlbLookaside.find.Goals as goal

pub returns-clause-found : goal.returns-clause-found
returns-clause-found g c = found_match c.args.vpn c.args.asid c.args.self.now.entries c.first_match.result c.first_match.ensures

pub returns-clause-only : goal.returns-clause-only
returns-clause-only g c = only_match c.args.vpn c.args.asid c.args.self.now.entries c.first_match.result c.first_match.ensures

pub returns-clause-missed : goal.returns-clause-missed
returns-clause-missed g c = missed_match c.args.vpn c.args.asid c.args.self.now.entries c.first_match.result c.first_match.ensures
