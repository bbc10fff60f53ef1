use Rattle.std.proofs.Common.{refl}
use Rattle.ds_words.proofs.Adding.{added, if_added}
use Rattle.ds_words.proofs.commands.with_end.Goals as goal

pub returns-clause-app : goal.returns-clause-app
returns-clause-app c =
    if_added c.arg-3.result c.in_ok-arg-2.field-0 c.flag_argument-2.result c.arg-3.ensures c.flag_argument-2.ensures.local _ _
    (added c.in_ok-arg.field-0 c.in_ok-arg-2.field-0 c.memory_argument.result c.in_ok-arg-2.ensures c.memory_argument.ensures.local _ _
    (added c.args.described c.in_ok-arg.field-0 c.flag_argument.result c.in_ok-arg.ensures c.flag_argument.ensures.local _ _ refl c.flag_argument.ensures.rule)
    c.memory_argument.ensures.rule)
    c.flag_argument-2.ensures.rule
