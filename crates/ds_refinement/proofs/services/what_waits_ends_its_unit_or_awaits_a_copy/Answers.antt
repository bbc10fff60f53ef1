use Rattle.ds_refinement.proofs.Ending.{waiting_ends}
use Rattle.ds_refinement.proofs.services.what_waits_ends_its_unit_or_awaits_a_copy.Goals as goal

pub returns : goal.returns
returns c = λ h p rest sound ready served left. waiting_ends h sound.state p rest sound.stands ready served left
