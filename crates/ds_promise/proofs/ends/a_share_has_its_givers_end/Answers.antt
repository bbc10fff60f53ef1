use Rattle.std.specs.Prelude.{refl}
use Rattle.ds_promise.proofs.ShareEnds.{gives_end}
use Rattle.ds_promise.proofs.ends.a_share_has_its_givers_end.Goals as goal

pub returns-clause-share : goal.returns-clause-share
returns-clause-share c = λ m p pc address receiver to mode g h apart done. (gives_end m p pc address receiver to mode done).share g h apart

pub returns-clause-copy : goal.returns-clause-copy
returns-clause-copy c = λ m p pc address receiver to h done. (gives_end m p pc address receiver to 3 done).copy h refl
