use Rattle.std.proofs.Common.{take, false}
use Rattle.std.specs.Prelude.{flat_map}
use Rattle.std.specs.Io.KnownBytes.{Appends}
use Rattle.ds_text.specs.Sent.{IsAskedOnce}
use Rattle.ds_text.proofs.writes.send_all.Given as goal

abbrev pub invariant-loop-piece : goal.invariant-loop-piece
invariant-loop-piece g l = record {
  written : Appends (g.O.Output.contents l.fn.out) (g.O.Output.contents l.out) (flat_map (λ p. p.now) (take l.piece-index l.pieces));
  asked : IsAskedOnce (g.O.Output.answers l.fn.out) (g.O.Output.answers l.out) false;
}
