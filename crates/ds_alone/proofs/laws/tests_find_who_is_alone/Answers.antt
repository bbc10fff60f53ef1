use Rattle.ds_alone.proofs.Consoles.{own_line_found}
use Rattle.ds_alone.proofs.Everyone.{nobody_is_given_by}
use Rattle.ds_alone.proofs.Found.{asks_found, quiet_found}
use Rattle.ds_alone.proofs.Given.{nobody_is_given}
use Rattle.ds_alone.proofs.Round.{asks_going_round, quiet_going_round}
use Rattle.ds_alone.proofs.Tests.{is_found_alone, seen_alike}
use Rattle.ds_alone.proofs.laws.tests_find_who_is_alone.Goals as goal

pub returns-clause-alone : goal.returns-clause-alone
returns-clause-alone c = is_found_alone

pub returns-clause-holdings : goal.returns-clause-holdings
returns-clause-holdings c = seen_alike

pub returns-clause-given : goal.returns-clause-given
returns-clause-given c = nobody_is_given

pub returns-clause-given_by : goal.returns-clause-given_by
returns-clause-given_by c = nobody_is_given_by

pub returns-clause-line : goal.returns-clause-line
returns-clause-line c = own_line_found

pub returns-clause-asks : goal.returns-clause-asks
returns-clause-asks c = asks_found

pub returns-clause-quiet : goal.returns-clause-quiet
returns-clause-quiet c = quiet_found

pub returns-clause-asks_round : goal.returns-clause-asks_round
returns-clause-asks_round c = asks_going_round

pub returns-clause-quiet_round : goal.returns-clause-quiet_round
returns-clause-quiet_round c = quiet_going_round
