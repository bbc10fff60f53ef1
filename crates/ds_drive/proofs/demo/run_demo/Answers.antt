use Rattle.std.proofs.Common.{rules, [], ◌∷◌}
use Rattle.std.specs.Prelude.{codes}
use Rattle.ds_drive.specs.declared.demo.TheConstants.{POLICY, SOURCE}
use Rattle.ds_station.proofs.Alone.{each_alone_if}
use Rattle.ds_drive.proofs.demo.run_demo.Goals as goal

pub returns-clause-alone : goal.returns-clause-alone
returns-clause-alone g c =
    each_alone_if c.run_files.result POLICY.now ((codes "one.s", SOURCE.now) ∷ []) [] 100 63 (g.W.Write.contents c.args.out.now) (g.W.Write.contents c.run_files.new.out) (search rules)
