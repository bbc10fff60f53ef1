use Rattle.ds_refinement.proofs.Tallied.{few_of, ranges_of, tallied_of, unbegun_of, user_of}
use Rattle.ds_refinement.proofs.WordTallies.{word_room, double_begun}
use Rattle.ds_refinement.proofs.tallies.the_counts_are_few.Goals as goal

pub returns-clause-few : goal.returns-clause-few
returns-clause-few c = λ h sound. few_of h sound.state sound.stands

pub returns-clause-ranges : goal.returns-clause-ranges
returns-clause-ranges c = λ h sound. ranges_of h sound.state sound.stands

pub returns-clause-tallied : goal.returns-clause-tallied
returns-clause-tallied c = tallied_of

pub returns-clause-unbegun : goal.returns-clause-unbegun
returns-clause-unbegun c = unbegun_of

pub returns-clause-user : goal.returns-clause-user
returns-clause-user c = λ h sound. user_of h sound.state sound.stands

pub returns-clause-room : goal.returns-clause-room
returns-clause-room c = word_room

pub returns-clause-double : goal.returns-clause-double
returns-clause-double c = double_begun
