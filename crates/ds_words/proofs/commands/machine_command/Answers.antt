use Rattle.std.proofs.Common.{◌∙◌, ap}
use Rattle.ds_words.specs.Words.{of_looks, of_numbers}
use Rattle.ds_words.proofs.Adding.{added, if_added, if_local}
use Rattle.ds_words.proofs.commands.machine_command.Goals as goal

pub returns-clause-app : goal.returns-clause-app
returns-clause-app c =
    if_added c.arg-4.result c.in_ok-with_looks.field-0 c.flag_argument-2.result c.arg-4.ensures c.flag_argument-2.ensures.local _ _
    (c.in_ok-with_looks.ensures.app ∙ ap of_looks (c.in_ok-numbered.ensures.app ∙ ap of_numbers
    (added c.in_ok-arg-2.field-0 c.in_ok-quieted.quieted c.keys_argument.result c.in_ok-quieted.ensures c.keys_argument.ensures.local _ _
    (added c.in_ok-arg.field-0 c.in_ok-arg-2.field-0 c.flag_argument.result c.in_ok-arg-2.ensures c.flag_argument.ensures.local _ _
    (added c.in_ok-machine_described.field-0 c.in_ok-arg.field-0 c.random_argument.result c.in_ok-arg.ensures c.random_argument.ensures.local _ _
    c.in_ok-machine_described.ensures.app c.random_argument.ensures.rule)
    c.flag_argument.ensures.rule)
    c.keys_argument.ensures.rule)))
    c.flag_argument-2.ensures.rule

pub returns-clause-local : goal.returns-clause-local
returns-clause-local c =
    if_local c.arg-4.result c.in_ok-with_looks.field-0 c.flag_argument-2.result c.arg-4.ensures c.flag_argument-2.ensures.local c.in_ok-with_looks.ensures.local
