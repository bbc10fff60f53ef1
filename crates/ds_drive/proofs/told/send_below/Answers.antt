use Rattle.ds_text.proofs.Sends.{at_err, ok_gives, err_gives, appends_both, part_after, part_before}
use Rattle.ds_drive.specs.Told.{policy_shown, source_shown, input_shown, why_told}
use Rattle.ds_drive.proofs.told.send_below.Goals as goal

pub returns-in_err-send_policy-clause-front : goal.returns-in_err-send_policy-clause-front
returns-in_err-send_policy-clause-front g c = at_err c.from_residual.result (part_before _ _ _ _ c.in_err-send_policy.ensures.front)

pub returns-in_err-send_source-clause-front : goal.returns-in_err-send_source-clause-front
returns-in_err-send_source-clause-front g c = at_err c.from_residual-in_err-send_source.result
    (part_after _ _ _ (policy_shown c.args.refused.now.policy) _ c.in_ok-send_policy.ensures.all
    (part_before _ _ _ _ c.in_err-send_source.ensures.front))

pub returns-in_err-send_input-clause-front : goal.returns-in_err-send_input-clause-front
returns-in_err-send_input-clause-front g c = at_err c.from_residual-in_err-send_input.result
    (part_after _ _ _ (policy_shown c.args.refused.now.policy) _ c.in_ok-send_policy.ensures.all
    (part_after _ _ _ (source_shown c.args.refused.now.source) _ c.in_ok-send_source.ensures.all
    (part_before _ _ _ _ c.in_err-send_input.ensures.front)))

pub returns-in_err-send_why-clause-front : goal.returns-in_err-send_why-clause-front
returns-in_err-send_why-clause-front g c = at_err c.from_residual-in_err-send_why.result
    (part_after _ _ _ (policy_shown c.args.refused.now.policy) _ c.in_ok-send_policy.ensures.all
    (part_after _ _ _ (source_shown c.args.refused.now.source) _ c.in_ok-send_source.ensures.all
    (part_after _ _ _ (input_shown c.args.refused.now.input) _ c.in_ok-send_input.ensures.all
    (part_before _ _ _ _ c.in_err-send_why.ensures.front))))

pub returns-clause-all : goal.returns-clause-all
returns-clause-all g c = ok_gives c.send_others.result
    (λ p. appends_both _ _ _ (policy_shown c.args.refused.now.policy) _ c.in_ok-send_policy.ensures.all
    (appends_both _ _ _ (source_shown c.args.refused.now.source) _ c.in_ok-send_source.ensures.all
    (appends_both _ _ _ (input_shown c.args.refused.now.input) _ c.in_ok-send_input.ensures.all
    (appends_both _ _ _ (why_told c.args.refused.now) _ c.in_ok-send_why.ensures.all p))))
    c.send_others.ensures.all

pub returns-clause-front : goal.returns-clause-front
returns-clause-front g c = err_gives c.send_others.result
    (λ p. part_after _ _ _ (policy_shown c.args.refused.now.policy) _ c.in_ok-send_policy.ensures.all
    (part_after _ _ _ (source_shown c.args.refused.now.source) _ c.in_ok-send_source.ensures.all
    (part_after _ _ _ (input_shown c.args.refused.now.input) _ c.in_ok-send_input.ensures.all
    (part_after _ _ _ (why_told c.args.refused.now) _ c.in_ok-send_why.ensures.all p))))
    c.send_others.ensures.front
