use Rattle.ds_pagemap_laws.proofs.LawfulCalls.{command_lawful, commands_lawful}
use Rattle.ds_pagemap_laws.proofs.lawful.commands_keep_states_lawful.Goals as goal

pub returns-clause-one : goal.returns-clause-one
returns-clause-one c = command_lawful

pub returns-clause-all : goal.returns-clause-all
returns-clause-all c = commands_lawful
