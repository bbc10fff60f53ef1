use Rattle.std.proofs.Common.{◌≡◌, ◌+◌, ◌≤◌, ◌++◌, length, take, drop}
use Rattle.std.specs.Prelude.{flat_map, vec_len, vec_capacity}
use Rattle.ds_log.proofs.text.append_pieces.Given as goal

-- the pieces so far are appended, and there is room for the others
abbrev pub invariant-loop-piece : goal.invariant-loop-piece
invariant-loop-piece l = record {
  items : l.text.items ≡ l.fn.text.items ++ flat_map (λ piece. piece.now) (take l.piece-index l.pieces);
  room : vec_len l.text + length (flat_map (λ piece. piece.now) (drop l.piece-index l.pieces)) ≤ vec_capacity l.text;
  capacity : vec_capacity l.fn.text ≤ vec_capacity l.text;
}
