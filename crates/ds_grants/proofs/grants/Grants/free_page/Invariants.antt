use Rattle.std.proofs.Common.{◌≡◌, ℕ, ◌<◌, true}
use Rattle.ds_grants.specs.State.{is_live}
use Rattle.ds_grants.proofs.grants.Grants.free_page.Given as goal

abbrev pub invariant-loop-page : goal.invariant-loop-page
invariant-loop-page l = (q : ℕ) → q < l.page → is_live l.fn.self q ≡ true
