use Rattle.std.proofs.Common.{inl}
use Rattle.ds_debug.proofs.Leaping.{run_leapt, until_leapt}
use Rattle.ds_debug.proofs.leaps.run_to.Goals as goal

pub returns-in-Ok : goal.returns-in-Ok
returns-in-Ok g c = λ _.
    run_leapt (record { actions = c.args.actions.now; breakpoints = c.args.breakpoints.now }) c.args.n c.args.station.now.held c.run.new.self.held (c.are_none.ensures c.if-are_none.true)
    c.in-Ok.ensures.ok c.in-Ok.ensures.over c.in-Ok.ensures.real (c.in-Ok.ensures.unit (inl c.requires.spent)) c.in-Ok.ensures.good

pub returns-in-Ok-run_until : goal.returns-in-Ok-run_until
returns-in-Ok-run_until g c = λ _.
    until_leapt (record { actions = c.args.actions.now; breakpoints = c.args.breakpoints.now }) c.stops_at-stops.result c.args.n c.args.station.now.held c.run_until.new.self.held c.stops_at-stops.ensures
    c.in-Ok-run_until.ensures.within c.in-Ok-run_until.ensures.clear c.in-Ok-run_until.ensures.ends (c.in-Ok-run_until.ensures.unit (inl c.requires.spent)) c.in-Ok-run_until.ensures.good
