use Rattle.std.proofs.Common.{rules, ◌≡◌, ℕ}
use Rattle.ds_grants.proofs.grants.Grants.give.Goals as goal

pub returns-in_default-clause-entries : goal.returns-in_default-clause-entries
returns-in_default-clause-entries g c =
    let is : ◌≡◌ {A = ℕ} c.args.mode 3 = search rules in
    let entries = c.give_copy.ensures.entries in
    (entries.0, entries.1, λ other. absurd (other is), entries.2)
