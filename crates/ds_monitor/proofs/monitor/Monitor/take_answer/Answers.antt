use Rattle.std.proofs.Common.{◌∙◌, sym}
use Rattle.ds_pagemap.specs.Calls.{queue_of}
use Rattle.ds_monitor.specs.Inner.Kept.{kept_of}
use Rattle.ds_monitor.proofs.Gets.{got_some, got_none}
use Rattle.ds_monitor.proofs.monitor.Monitor.take_answer.Goals as goal

pub returns-in-Some-clause-value : goal.returns-in-Some-clause-value
returns-in-Some-clause-value c = c.from.ensures ∙ got_some (queue_of (kept_of c.args.self.now).state c.args.process) _ (sym c.take_character.ensures.value ∙ c.in-Some.is)

pub returns-in-None-clause-value : goal.returns-in-None-clause-value
returns-in-None-clause-value c = got_none (queue_of (kept_of c.args.self.now).state c.args.process) (sym c.take_character.ensures.value ∙ c.in-None.is)
