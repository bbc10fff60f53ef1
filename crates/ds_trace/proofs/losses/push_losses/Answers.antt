use Rattle.std.proofs.Common.{List, ◌++◌, ◌∙◌, ap}
use Rattle.std.specs.String.{string_bytes}
use Rattle.ds_policy.specs.declared.command.Character.{Character}
use Rattle.ds_trace.specs.Losses.{losses_text}
use Rattle.ds_trace.proofs.Adding.{gives}
use Rattle.ds_trace.proofs.losses.push_losses.Goals as goal

pub returns : goal.returns
returns c = gives c.push_all_lost.result
    (λ is said e. is ∙ ap (λ (all : List Character). string_bytes c.args.text.now ++ losses_text all c.args.losses.now) (c.as_slice.ensures.value ∙ c.in_ok-all.ensures said e)) c.push_all_lost.ensures
