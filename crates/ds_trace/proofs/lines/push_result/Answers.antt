use Rattle.std.proofs.Common.{◌≡◌, List, ℕ, ◌++◌, subst, OnOk}
use Rattle.std.specs.String.{string_bytes}
use Rattle.ds_trace.proofs.Results.{effect_is}
use Rattle.ds_trace.proofs.lines.push_result.Goals as goal

pub returns-then-told : goal.returns-then-told
returns-then-told g c =
    subst (λ (l : List ℕ). OnOk c.push_effect.result (string_bytes c.push_effect.new.line ≡ string_bytes c.args.line.now ++ l))
    (effect_is c.args.view.now c.args.station.now.held c.args.told c.args.general.now c.requires.general c.if-told.true)
    c.push_effect.ensures
