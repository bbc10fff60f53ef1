use Rattle.std.proofs.Common.{◌≡◌, ◌<◌, List, length, subst, All}
use Rattle.std.specs.Prelude.{slice_index_or}
use Rattle.ds_policy.specs.declared.command.TimedCommand.{TimedCommand}
use Rattle.ds_policy.specs.Value.{InputValue}
use Rattle.ds_policy.specs.InputFacts.{has_time}
use Rattle.ds_monitor.proofs.Coming.{later_from}
use Rattle.ds_monitor.proofs.due.Due.take_command.Goals as goal

pub returns-in_default-clause-later : goal.returns-in_default-clause-later
returns-in_default-clause-later c =
    let cs : List TimedCommand = c.self.inside.events.commands in
    let all : c.commands.result.now ≡ cs = c.commands.ensures.all in
    let within : c.self.inside.taken < length cs = subst (λ (xs : List TimedCommand). c.self.inside.taken < length xs) all c.in-Some.ensures.lookup.3.0 in
    let is : c.in-Some.command.now ≡ slice_index_or cs c.self.inside.taken c.in-Some.command.now = subst (λ (xs : List TimedCommand). c.in-Some.command.now ≡ slice_index_or xs c.self.inside.taken c.in-Some.command.now) all c.in-Some.ensures.lookup.1 in
    λ _. subst (λ (i : InputValue). All (λ (x : TimedCommand). c.args.now < has_time x) i.commands) c.self.view_is
    (later_from has_time c.args.now cs c.self.inside.taken c.in-Some.command.now c.commands.ensures.order within is c.if-command-now.false)
