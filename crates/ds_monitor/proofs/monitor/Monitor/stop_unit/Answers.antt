use Rattle.std.proofs.Common.{[], ◌≡◌, ◌∙◌, ◌+◌, ◌++◌, sym, ap, subst, refl}
use Rattle.std.specs.Prelude.{Some}
use Rattle.ds_log.specs.declared.line.Line.TheVariants.{Denial}
use Rattle.ds_log.specs.Text.{line_text}
use Rattle.ds_pagemap.specs.Machine.{State}
use Rattle.ds_pagemap.specs.Unit.{Stop, at_pc}
use Rattle.ds_refinement.specs.Held.{Kept}
use Rattle.ds_refinement.specs.Units.{ends_in_stop}
use Rattle.ds_refinement.specs.Inner.Services.{Serves}
use Rattle.ds_monitor.specs.Inner.Kept.{kept_of, kept_after}
use Rattle.ds_monitor.specs.Inner.Room.{HasLogRoom}
use Rattle.ds_monitor.proofs.Stops.{stopped, stops}
use Rattle.ds_monitor.proofs.Lawful.{stop_orderly}
use Rattle.ds_monitor.proofs.monitor.Monitor.stop_unit.Goals as goal

pub returns-clause-serves : goal.returns-clause-serves
returns-clause-serves c = λ memory.
    let p = c.args.process in
    let k = kept_of c.args.self.now in
    let stop : Stop = record { kind = c.args.kind; address = c.args.address; rule = c.args.rule; code = c.args.code } in
    let with_line = λ (x : Kept). record x { log = x.log ++ line_text (Denial x.state.time p c.args.pc stop.kind stop.address stop.rule stop.code); lines = x.lines + 1 } in
    let with_end = λ (x : Kept). kept_after (λ (m : State). record m { time = m.time + 1; owed = Some (record { began = m.time; runner = Some p }) }) x in
    let out = c.go_to.ensures.kept ∙ ap (kept_after (λ (m : State). at_pc m p c.args.unit)) c.make_unready.ensures.kept in
    let same : kept_of c.end_turn.new.self ≡ stopped p c.args.unit c.args.pc stop k = c.end_turn.ensures.kept ∙ (ap with_end c.log_line.ensures.kept ∙ ap (λ (x : Kept). with_end (with_line x)) out) in
    subst (λ (x : Kept). Serves (ends_in_stop p c.args.unit c.args.pc stop) k memory x memory) (sym same)
    (stops p c.args.unit c.args.pc stop k memory c.requires.above c.requires.within c.has_no_late_load.ensures (record { memory = refl; log = refl }))

pub returns-clause-orderly : goal.returns-clause-orderly
returns-clause-orderly c = λ it alive.
    let k = kept_of c.args.self.now in
    let n = kept_of c.end_turn.new.self in
    let stop : Stop = record { kind = c.args.kind; address = c.args.address; rule = c.args.rule; code = c.args.code } in
    stop_orderly c.args.process c.args.unit c.args.pc stop k n [] [] c.requires.above c.requires.within alive (returns-clause-serves c [])
    (ap (λ (x : Kept). x.grants.ended) c.end_turn.ensures.kept ∙ (ap (λ (x : Kept). x.grants.ended) c.log_line.ensures.kept ∙ (ap (λ (x : Kept). x.grants.ended) c.go_to.ensures.kept ∙ ap (λ (x : Kept). x.grants.ended) c.make_unready.ensures.kept)))
    (ap (λ (x : Kept). x.grants.named) c.end_turn.ensures.kept ∙ (ap (λ (x : Kept). x.grants.named) c.log_line.ensures.kept ∙ (ap (λ (x : Kept). x.grants.named) c.go_to.ensures.kept ∙ ap (λ (x : Kept). x.grants.named) c.make_unready.ensures.kept)))
    (ap (λ (x : Kept). x.state.commands) c.end_turn.ensures.kept ∙ (ap (λ (x : Kept). x.state.commands) c.log_line.ensures.kept ∙ (ap (λ (x : Kept). x.state.commands) c.go_to.ensures.kept ∙ ap (λ (x : Kept). x.state.commands) c.make_unready.ensures.kept)))
    (ap (λ (x : Kept). x.ends) c.end_turn.ensures.kept ∙ (ap (λ (x : Kept). x.ends) c.log_line.ensures.kept ∙ (ap (λ (x : Kept). x.ends) c.go_to.ensures.kept ∙ ap (λ (x : Kept). x.ends) c.make_unready.ensures.kept)))
    it

pub returns-clause-room : goal.returns-clause-room
returns-clause-room c = λ n h.
    subst (HasLogRoom n) (sym c.end_turn.ensures.rest) (c.log_line.ensures.room n
    (subst (HasLogRoom (n + 1)) (sym c.go_to.ensures.rest) (subst (HasLogRoom (n + 1)) (sym c.make_unready.ensures.rest) h)))
