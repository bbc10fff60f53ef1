use Rattle.std.proofs.Common.{take, false}
use Rattle.std.specs.Prelude.{flat_map}
use Rattle.std.specs.Io.KnownBytes.{Appends}
use Rattle.ds_drive.specs.Names.{shown_byte}
use Rattle.ds_text.specs.Sent.{IsAskedOnce}
use Rattle.ds_drive.proofs.names.send_name.Given as goal

abbrev pub invariant-loop-byte : goal.invariant-loop-byte
invariant-loop-byte g l = record {
  shown : Appends (g.O.Output.contents l.fn.out) (g.O.Output.contents l.out) (flat_map shown_byte (take l.byte-index l.name));
  asked : IsAskedOnce (g.O.Output.answers l.fn.out) (g.O.Output.answers l.out) false;
}
