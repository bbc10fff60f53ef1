use Rattle.std.proofs.Common.{◌∙◌, false, [], replicate}
use Rattle.std.proofs.lemmas.List.{length-replicate}
use Rattle.ds_grants.proofs.FirstGrants.{none_counted, none_sound}
use Rattle.ds_grants.proofs.Laying.{laid_first}
use Rattle.ds_grants.proofs.grants.Grants.empty.Goals as goal

pub invariant_of-result : goal.invariant_of-result
invariant_of-result c =
    let counts = c.of.ensures ∙ c.in_ok-holders.ensures in
    rw (counts, c.in-Ok.ensures, c.none_ended.ensures, c.in_ok-layout.ensures, length-replicate) (
      none_counted c.args.processes c.args.frames,
      none_sound c.args.processes c.args.frames c.args.named c.requires.processes c.requires.named c.requires.frames,
      laid_first (replicate c.args.processes []) c.args.frames c.args.named (replicate c.args.processes false),
    )
