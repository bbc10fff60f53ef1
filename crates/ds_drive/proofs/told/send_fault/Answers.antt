use Rattle.std.proofs.Common.{◌∙◌}
use Rattle.std.specs.Prelude.{codes}
use Rattle.ds_drive.proofs.Tellings.{line_carries}
use Rattle.ds_drive.proofs.told.send_fault.Goals as goal

pub returns-in-NoSource-clause-all : goal.returns-in-NoSource-clause-all
returns-in-NoSource-clause-all g c = rw c.in-NoSource.is
    (line_carries c.send_line-in-NoSource.result _ _ (codes "24 NoSource ") c.in-NoSource.name _ (c.as_bytes-in-NoSource.ensures.value ∙ c.as_str-in-NoSource.ensures.value) c.send_line-in-NoSource.ensures.all)
