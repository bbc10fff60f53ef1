use Rattle.std.proofs.Common.{◌≡◌, ◌∙◌, List, ℕ, ◌++◌, ap, subst, OnOk, codes}
use Rattle.std.specs.Prelude.{slice_index}
use Rattle.std.specs.String.{string_bytes}
use Rattle.ds_trace.specs.Calls.{call_answer_text}
use Rattle.ds_trace.proofs.Adding.{after_all, joined}
use Rattle.ds_trace.proofs.lines.push_instruction.Goals as goal

pub returns : goal.returns
returns g c =
    subst (λ (l : List ℕ). OnOk c.push_newline.result (string_bytes c.push_newline.new.text ≡ l))
    (after_all _ _ _ (codes "\n")
    (joined _ _ _ _ _
    (joined _ _ _ _ _ (joined _ _ _ _ _ c.in_ok-push_front.ensures c.in_ok-push_told_call.ensures) c.in_ok-push_result.ensures)
    (c.in_ok-push_answer.ensures
    ∙ ap (λ (n : ℕ). string_bytes c.push_result.new.line ++ call_answer_text c.args.told.call n) (c.held_in.ensures ∙ ap (λ (l : List ℕ). slice_index l 2) c.general-general.ensures.held))))
    c.push_newline.ensures
