use Rattle.std.proofs.Common.{rules, ◌∙◌, sym}
use Rattle.ds_grants.proofs.Chains.{at_err, allowed_mode, given_as, room_as, last_err, last_ok}
use Rattle.ds_grants.proofs.grants.Grants.may_give.Goals as goal

pub returns-in_err-grant-clause-err : goal.returns-in_err-grant-clause-err
returns-in_err-grant-clause-err c =
    at_err c.from_residual.result c.in_err-grant.field-0.0 _ (search rules)
    (λ memory. given_as c.args.self.now c.args.caller c.args.addr c.args.receiver c.args.to c.args.mode (search rules) (search rules) (search rules) memory _ (c.in_err-grant.ensures.err memory _))

pub returns-in_err-has_room-clause-err : goal.returns-in_err-has_room-clause-err
returns-in_err-has_room-clause-err c =
    at_err c.from_residual-in_err-has_room.result c.in_err-has_room.field-0.0 _ (search rules)
    (λ memory. room_as c.args.self.now c.args.caller c.args.addr c.args.receiver c.args.to c.args.mode (search rules) (search rules) (search rules) memory _ c.in_ok-grant.ensures.ok c.in_ok-grant.grant c.in_ok-grant.ensures.there (search rules) (search rules) (c.in_err-has_room.ensures.err memory _))

pub returns-then-lacks_frame-clause-err : goal.returns-then-lacks_frame-clause-err
returns-then-lacks_frame-clause-err c = λ memory.
    room_as c.args.self.now c.args.caller c.args.addr c.args.receiver c.args.to c.args.mode (search rules) (search rules) (search rules) memory _ c.in_ok-grant.ensures.ok c.in_ok-grant.grant c.in_ok-grant.ensures.there (search rules) (search rules)
    (c.in_ok-has_room.ensures.ok memory _ ∙ last_err c.args.self.now c.args.caller c.args.addr c.args.receiver c.args.to c.args.mode (search rules) (search rules) (search rules) memory (sym (c.if-lacks_frame.ensures.value memory)))

pub returns-clause-ok : goal.returns-clause-ok
returns-clause-ok c = λ memory.
    room_as c.args.self.now c.args.caller c.args.addr c.args.receiver c.args.to c.args.mode (search rules) (search rules) (search rules) memory _ c.in_ok-grant.ensures.ok c.in_ok-grant.grant c.in_ok-grant.ensures.there (search rules) (search rules)
    (c.in_ok-has_room.ensures.ok memory _ ∙ last_ok c.args.self.now c.args.caller c.args.addr c.args.receiver c.args.to c.args.mode (search rules) (search rules) (search rules) memory c.in_ok-grant.grant c.in_ok-grant.ensures.there (sym (c.if-lacks_frame.ensures.value memory)))

pub returns-clause-mode : goal.returns-clause-mode
returns-clause-mode c = allowed_mode c.in_ok-grant.grant c.args.mode (search rules)
