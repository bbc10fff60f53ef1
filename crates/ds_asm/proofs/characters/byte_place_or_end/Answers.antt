use Rattle.std.proofs.Common.{◌∙◌}
use Rattle.ds_asm.proofs.Places.{found_place}
use Rattle.ds_asm.proofs.characters.byte_place_or_end.Goals as goal

pub returns-clause-exact : goal.returns-clause-exact
returns-clause-exact c = c.unwrap_or.ensures ∙ found_place c.args.c c.args.text.now c.memchr.result c.memchr.ensures
