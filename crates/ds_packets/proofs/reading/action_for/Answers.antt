use Rattle.std.proofs.Common.{◌∙◌, sym, ap}
use Rattle.std.specs.Option.{option_copied}
use Rattle.ds_packets.specs.Packets.{chosen, first_action}
use Rattle.ds_packets.proofs.Parts.{left_parts}
use Rattle.ds_packets.proofs.Lists.{choice_ends}
use Rattle.ds_packets.proofs.reading.action_for.Goals as goal

pub returns-in-Some-chosen : goal.returns-in-Some-chosen
returns-in-Some-chosen c =
    let process = c.args.process in
    sym (sym c.loop-left.invariant ∙ (ap (λ o. first_action (left_parts (option_copied o)) process) c.in-Some.is
    ∙ choice_ends process c.in-Some.words.now c.in-Some-chosen.action (sym (ap (chosen process) c.part_at.ensures.front) ∙ (sym c.chosen.ensures ∙ c.in-Some-chosen.is))))
