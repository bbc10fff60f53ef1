use Rattle.std.proofs.Common.{◌≡◌, ◌<◌, List, Some, subst, All, rules}
use Rattle.std.specs.Prelude.{slice_get}
use Rattle.ds_policy.specs.declared.command.Character.{Character}
use Rattle.ds_policy.specs.Value.{InputValue}
use Rattle.ds_policy.specs.InputFacts.{comes_at}
use Rattle.ds_monitor.proofs.Coming.{later_first}
use Rattle.ds_monitor.proofs.due.Due.take.Goals as goal

pub returns-in_default-clause-later : goal.returns-in_default-clause-later
returns-in_default-clause-later c =
    let cs : List Character = c.self.inside.events.characters in
    let first : slice_get cs 0 ≡ Some c.in-Some.character = search rules in
    λ _. subst (λ (i : InputValue). All (λ (x : Character). c.args.now < comes_at x) i.characters) c.self.view_is
    (later_first comes_at c.args.now cs c.in-Some.character c.characters.ensures.order first c.if-character-now.false)
