use Rattle.std.proofs.Common.{ap}
use Rattle.ds_refinement.specs.Held.{Kept}
use Rattle.ds_monitor.specs.declared.monitor.Monitor.{Monitor}
use Rattle.ds_kernel.specs.Inner.Parts.{held}
use Rattle.ds_kernel.proofs.Bounding.{idle_bounded, waiting_good}
use Rattle.ds_kernel.proofs.parts.Parts.idle.Goals as goal

pub close_turn-requires-clause-good : goal.close_turn-requires-clause-good
close_turn-requires-clause-good g c =
    let between = c.make_room.new.self in
    waiting_good c.args.self.now between (record between { monitor = c.end_first_turn.new.self }) c.requires.good c.requires.unowed c.requires.nobody c.requires.going c.requires.working c.requires.early
    c.make_room.ensures.held c.make_room.ensures.next (c.make_room.ensures.room c.if-not-make_room.false)
    (ap (λ (k : Kept). record (held between) { kept = k }) c.end_first_turn.ensures.kept)
    (ap (λ (m : Monitor). record between { monitor = m }) c.end_first_turn.ensures.rest)

pub returns-clause-does : goal.returns-clause-does
returns-clause-does g c =
    let between = c.make_room.new.self in
    idle_bounded c.args.self.now between (record between { monitor = c.end_first_turn.new.self }) c.requires.good c.requires.unowed c.requires.nobody c.requires.going c.requires.working c.requires.early
    c.make_room.ensures.held c.make_room.ensures.next (c.make_room.ensures.room c.if-not-make_room.false)
    (ap (λ (k : Kept). record (held between) { kept = k }) c.end_first_turn.ensures.kept)
    (ap (λ (m : Monitor). record between { monitor = m }) c.end_first_turn.ensures.rest)
    (held c.close_turn.new.self) c.close_turn.ensures.bounded
