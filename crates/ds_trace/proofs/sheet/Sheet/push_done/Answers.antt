use Rattle.std.proofs.Common.{rules}
use Rattle.ds_trace.proofs.Adding.{gives}
use Rattle.ds_trace.proofs.Units.{unit_done}
use Rattle.ds_trace.proofs.sheet.Sheet.push_done.Goals as goal

pub returns-in_ok-push_unit-in-Some : goal.returns-in_ok-push_unit-in-Some
returns-in_ok-push_unit-in-Some g c = gives c.push_entries.result
    (λ last. unit_done c.args.view.now c.args.before.now c.args.station.now.held c.in-Some.start c.logged_since-logged.result.now
    c.args.self.now.text.items c.push_unit.new.self.text.items c.push_entries.new.self.text.items (search rules) (search rules) c.in_ok-push_unit-in-Some.ensures last)
    c.push_entries.ensures
