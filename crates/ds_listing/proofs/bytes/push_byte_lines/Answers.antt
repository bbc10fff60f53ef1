use Rattle.std.proofs.Common.{[], ◌<◌, arith, sym, subst}
use Rattle.std.specs.List.{All}
use Rattle.std.proofs.lemmas.Grind.{common_steps}
use Rattle.std.proofs.lemmas.List.{take_more}
use Rattle.std.proofs.lemmas.List.Elements.{All-append, All-cons, All-nil}
use Rattle.ds_listing.proofs.bytes.push_byte_lines.Goals as goal

pub loop-byte-preserved : goal.loop-byte-preserved
loop-byte-preserved c = record {
  text = grind (arith, common_steps);
  small = subst (All (λ b. b < 256)) (sym (take_more c.args.bytes.now c.loop-byte.byte-index 0 c.loop-byte-test.true))
      (All-append (λ b. b < 256) _ _ c.loop-byte.invariant.small (All-cons (λ b. b < 256) _ [] (omega arith) (All-nil (λ b. b < 256))));
}
