use Rattle.std.proofs.Common.{arith, sym, ◌∙◌}
use Rattle.ds_tlb.proofs.Lookups.{left_at_first, left_after, first_is_inside, found_first, found_none, fewer_left}
use Rattle.ds_tlb.proofs.indexed.first_match.Goals as goal

pub loop-rest-init : goal.loop-rest-init
loop-rest-init c = left_at_first c.args.bucket c.args.vpn c.args.asid c.args.entries.now c.requires.few c.requires.bucket

pub bounds-entries-slot : goal.bounds-entries-slot
bounds-entries-slot c = first_is_inside c.loop-rest.rest c.args.vpn c.args.asid c.args.entries.now (omega arith) (omega arith) c.loop-rest.invariant

pub returns-then-matches : goal.returns-then-matches
returns-then-matches c = sym (found_first c.loop-rest.rest c.args.vpn c.args.asid c.args.entries.now (omega arith) (omega arith) c.loop-rest.invariant (sym c.matches.ensures ∙ c.if-matches.true))

pub loop-rest-smaller : goal.loop-rest-smaller
loop-rest-smaller c = fewer_left c.loop-rest.rest (omega arith) (omega arith)

pub loop-rest-preserved : goal.loop-rest-preserved
loop-rest-preserved c = left_after c.loop-rest.rest c.args.vpn c.args.asid c.args.entries.now c.requires.few (omega arith) (omega arith) c.loop-rest.invariant (sym c.matches.ensures ∙ c.if-matches.false)

pub returns : goal.returns
returns c = sym (found_none c.loop-rest.rest c.args.vpn c.args.asid c.args.entries.now (omega arith) c.loop-rest.invariant)
