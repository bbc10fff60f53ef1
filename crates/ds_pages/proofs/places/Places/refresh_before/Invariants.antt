use Rattle.std.proofs.Common.{◌≡◌, ◌≢◌, ℕ, ◌+◌, ◌<◌, ◌≤◌}
use Rattle.ds_pages.specs.Inner.Places.{known_at, fields_at, FitsAt}
use Rattle.ds_pages.proofs.places.Places.refresh_before.Given as goal

abbrev pub invariant-loop-at : goal.invariant-loop-at
invariant-loop-at l = record {
  inside : l.at < 1024;
  others : (k : ℕ) → k ≤ 1024 → k + 1 ≢ l.at → FitsAt l.self k;
  fields : (k : ℕ) → fields_at l.self k ≡ fields_at l.initial.self k;
  known : (k : ℕ) → known_at l.self k ≡ known_at l.initial.self k;
}

abbrev pub decreases-loop-at : goal.decreases-loop-at
decreases-loop-at l = l.at
