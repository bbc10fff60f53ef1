use Rattle.std.proofs.Common.{List, ℕ, rules, sym, subst, ◌∙◌}
use Rattle.ds_station.specs.Inner.Reads.{ShowsGeneral}
use Rattle.ds_station.proofs.Showing.{runner_shown, seated_shown}
use Rattle.ds_station.proofs.station.Station.general.Goals as goal

pub returns-then-runs-clause-shows : goal.returns-then-runs-clause-shows
returns-then-runs-clause-shows g c = λ some.
    subst (λ (shown : List ℕ). ShowsGeneral shown c.args.self.now.held c.args.process) (search rules)
    (runner_shown c.args.self.now.held c.args.process (sym c.runs.ensures ∙ c.if-runs.true))

pub returns-else-runs-clause-shows : goal.returns-else-runs-clause-shows
returns-else-runs-clause-shows g c = λ some.
    subst (λ (shown : List ℕ). ShowsGeneral shown c.args.self.now.held c.args.process) (sym c.seated.ensures)
    (seated_shown c.args.self.now.held c.args.process some (sym c.runs.ensures ∙ c.if-runs.false))
