use Rattle.std.proofs.Common.{◌≡◌, ℕ, ◌-◌, ◌<◌, ◌≤◌, true}
use Rattle.ds_pages.specs.Inner.Places.{known_at, fields_at}
use Rattle.ds_pages.proofs.page.Page.learn.Given as goal

abbrev pub invariant-loop-at : goal.invariant-loop-at
invariant-loop-at l = record {
  from : l.start ≤ l.at;
  inside : l.at ≤ 1024;
  words : l.self.words ≡ l.initial.self.words;
  known : l.at ≤ l.start → known_at l.self.places l.start ≡ true;
  kept : (k : ℕ) → known_at l.initial.self.places k ≡ true → known_at l.self.places k ≡ true;
  fields : (k : ℕ) → known_at l.initial.self.places k ≡ true → fields_at l.self.places k ≡ fields_at l.initial.self.places k;
  before : (k : ℕ) → k < l.start → known_at l.self.places k ≡ known_at l.initial.self.places k;
}

abbrev pub decreases-loop-at : goal.decreases-loop-at
decreases-loop-at l = l.at - l.start
