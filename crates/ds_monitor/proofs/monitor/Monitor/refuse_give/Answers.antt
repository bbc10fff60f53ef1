use Rattle.std.proofs.Common.{◌≡◌, ◌∙◌, ℕ, ◌+◌, ◌++◌, sym, ap₂, subst, refl, Err}
use Rattle.ds_policy.specs.declared.access.Rule.TheVariants.{Number}
use Rattle.ds_log.specs.declared.line.Line.TheVariants.{Denial}
use Rattle.ds_log.specs.declared.line.Denied.TheVariants.{Give}
use Rattle.ds_log.specs.Text.{line_text}
use Rattle.ds_pagemap.specs.Machine.{State}
use Rattle.ds_pagemap.specs.Calls.{or_denied}
use Rattle.ds_refinement.specs.Held.{Kept}
use Rattle.ds_refinement.specs.Inner.Services.{Serves}
use Rattle.ds_monitor.specs.Inner.Kept.{kept_of}
use Rattle.ds_monitor.specs.Inner.Room.{HasLogRoom}
use Rattle.ds_monitor.proofs.Granting.{denied, denied_serves}
use Rattle.ds_monitor.proofs.monitor.Monitor.refuse_give.Goals as goal

pub returns-clause-serves : goal.returns-clause-serves
returns-clause-serves c = λ memory.
    let p = c.args.process in
    let pc = c.args.pc in
    let address = c.args.address in
    let k = kept_of c.args.self.now in
    let with_line = λ (x : Kept) (rule : ℕ). record x { log = x.log ++ line_text (Denial x.state.time p pc Give address (Number rule) 8); lines = x.lines + 1 } in
    let same : kept_of c.log_line.new.self ≡ denied k p pc address c.args.number = c.log_line.ensures.kept ∙ ap₂ (λ (x : Kept) (rule : ℕ). with_line x rule) c.answer.ensures.kept c.rule_at-rule.ensures in
    subst (λ (n : Kept). Serves (λ (m : State). or_denied m p pc address (Err c.args.number)) k memory n memory) (sym same)
    (denied_serves k p pc address c.args.number memory (record { memory = refl; log = refl }))

pub returns-clause-room : goal.returns-clause-room
returns-clause-room c = λ n h. c.log_line.ensures.room n (subst (HasLogRoom (n + 1)) (sym c.answer.ensures.rest) h)
