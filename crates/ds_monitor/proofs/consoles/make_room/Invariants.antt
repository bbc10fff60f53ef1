use Rattle.std.proofs.Common.{◌≡◌, ◌+◌, ◌≤◌, map, vec_len, vec_capacity}
use Rattle.std.specs.Prelude.{All, take}
use Rattle.ds_monitor.proofs.consoles.make_room.Given as goal

abbrev pub invariant-loop-line : goal.invariant-loop-line
invariant-loop-line l = record {
  items : map (λ v. v.items) l.texts ≡ map (λ v. v.items) l.fn.texts;
  made : All (λ v. vec_len v + 256 ≤ vec_capacity v) (take l.line l.texts);
  valid : All (λ v. vec_len v + 0 ≤ vec_capacity v) l.texts;
}
