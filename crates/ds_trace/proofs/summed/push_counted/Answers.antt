use Rattle.std.proofs.Common.{List, ◌++◌, ◌∙◌, ap}
use Rattle.std.specs.Prelude.{slice_index}
use Rattle.std.specs.String.{string_bytes}
use Rattle.ds_trace.specs.declared.counts.Lossy.{Lossy}
use Rattle.ds_trace.specs.Counts.{Counted}
use Rattle.ds_trace.specs.Losses.{losses_text}
use Rattle.ds_trace.specs.Summed.{unknown_count_text}
use Rattle.ds_trace.proofs.Adding.{gives, joined}
use Rattle.ds_trace.proofs.summed.push_counted.Goals as goal

pub returns : goal.returns
returns c = gives c.push_losses.result
    (λ tells said e.
    joined (string_bytes c.args.line.now) (unknown_count_text (slice_index c.args.counts.now.calls 10)) (losses_text said.characters c.args.counts.now.losses) (string_bytes c.push_unknown.new.line) (string_bytes c.push_losses.new.text)
    (c.in_ok-push_unknown.ensures ∙ ap (λ (k : Counted). string_bytes c.args.line.now ++ unknown_count_text (slice_index k.calls 10)) c.counts.view_is)
    (tells said e
    ∙ ap (λ (xs : List Lossy). string_bytes c.push_unknown.new.line ++ losses_text said.characters xs) (c.as_slice.ensures.value ∙ ap (λ (k : Counted). k.losses) c.counts.view_is)))
    c.push_losses.ensures
