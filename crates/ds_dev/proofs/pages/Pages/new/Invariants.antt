use Rattle.std.proofs.Common.{◌≡◌, ◌≤◌, None, replicate}
use Rattle.std.specs.Prelude.{vec_capacity, vec_len}
use Rattle.ds_dev.proofs.pages.Pages.new.Given as goal

abbrev pub invariant-loop : goal.invariant-loop
invariant-loop l = record {
  items : l.rooms.items ≡ replicate l.counter None;
  length : vec_len l.rooms ≡ l.counter;
  room : 2048 ≤ vec_capacity l.rooms;
}
