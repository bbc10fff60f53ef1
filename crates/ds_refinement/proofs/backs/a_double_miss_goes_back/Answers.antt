use Rattle.ds_refinement.proofs.WaysBack.{double_page, double_few, double_follows, double_goes}
use Rattle.ds_refinement.proofs.backs.a_double_miss_goes_back.Goals as goal

pub returns-clause-page : goal.returns-clause-page
returns-clause-page c = double_page

pub returns-clause-few : goal.returns-clause-few
returns-clause-few c = double_few

pub returns-clause-follows : goal.returns-clause-follows
returns-clause-follows c = double_follows

pub returns-clause-back : goal.returns-clause-back
returns-clause-back c = double_goes
