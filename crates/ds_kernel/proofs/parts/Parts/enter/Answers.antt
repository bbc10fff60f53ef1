use Rattle.std.proofs.Common.{ℕ, ◌≡◌, sym, ap, subst, ◌<◌, ◌≤◌, ◌∙◌, length}
use Rattle.ds_asid.specs.Spaces.{Spaces, space_number}
use Rattle.ds_pagemap.specs.Machine.{process_of, first}
use Rattle.ds_pagemap_laws.specs.Lawful.{IsReady}
use Rattle.ds_kernel.specs.Inner.Seats.{in_space, on_processor}
use Rattle.ds_monitor.specs.Inner.Kept.{kept_of}
use Rattle.ds_monitor.specs.declared.monitor.Monitor.{Monitor}
use Rattle.ds_kernel.specs.declared.parts.Parts.{Parts}
use Rattle.ds_kernel.proofs.Keeping.{ready_first}
use Rattle.ds_kernel.proofs.Entering.{entering, set_in}
use Rattle.ds_refinement.specs.Pairs.{HasNoNewPairs}
use Rattle.ds_refinement.proofs.NoNewPairs.{same_pairs}
use Rattle.ds_kernel.proofs.parts.Parts.enter.Goals as goal

pub put_on-requires-clause-above : goal.put_on-requires-clause-above
put_on-requires-clause-above g c =
    (ready_first (kept_of c.args.self.now.monitor).state c.in-Some.process c.args.self.now.monitor.ready (ap (λ (x : Parts g.row.L.Denot). first x.monitor.ready) (sym c.self.view_is) ∙ (sym c.first_ready.ensures ∙ c.in-Some.is)) c.requires.ready).0

pub put_on-requires-clause-within : goal.put_on-requires-clause-within
put_on-requires-clause-within g c =
    let p = c.in-Some.process in
    let within : p ≤ length (kept_of c.args.self.now.monitor).state.processes = (ready_first (kept_of c.args.self.now.monitor).state p c.args.self.now.monitor.ready (ap (λ (x : Parts g.row.L.Denot). first x.monitor.ready) (sym c.self.view_is) ∙ (sym c.first_ready.ensures ∙ c.in-Some.is)) c.requires.ready).1 in
    subst (λ (m : Monitor). p ≤ length (kept_of m).state.processes) (sym (ap (λ (x : Parts g.row.L.Denot). x.monitor) c.claim_space-number.ensures.rest)) within

pub returns-in-Some-clause-enters : goal.returns-in-Some-clause-enters
returns-in-Some-clause-enters g c =
    let p = c.in-Some.process in
    let old = c.args.self.now.monitor in
    let between = c.claim_space-number.new.self in
    let monitor = ap (λ (x : Parts g.row.L.Denot). x.monitor) c.put_on.ensures ∙ ap (λ (x : Parts g.row.L.Denot). x.monitor) c.claim_space-number.ensures.rest in
    let spaces = ap (λ (x : Parts g.row.L.Denot). x.monitor.spaces) c.put_on.ensures in
    let same : c.claim_space-number.result ≡ space_number c.put_on.new.self.monitor.spaces p = c.claim_space-number.ensures.number ∙ ap (λ (s : Spaces). space_number s p) (sym spaces) in
    entering c.put_on.new.self.monitor.ready p (in_space between.core c.claim_space-number.result) c.put_on.new.self.core (kept_of c.put_on.new.self.monitor)
    (ap (λ (m : Monitor). first m.ready) monitor ∙ (ap (λ (x : Parts g.row.L.Denot). first x.monitor.ready) (sym c.self.view_is) ∙ (sym c.first_ready.ensures ∙ c.in-Some.is)))
    (subst (λ (m : Monitor). IsReady (kept_of m).state p) (sym monitor) (ready_first (kept_of old).state p old.ready (ap (λ (x : Parts g.row.L.Denot). first x.monitor.ready) (sym c.self.view_is) ∙ (sym c.first_ready.ensures ∙ c.in-Some.is)) c.requires.ready))
    (subst (λ (n : ℕ). 0 < n) same c.claim_space-number.ensures.range.0)
    (set_in between.core c.claim_space-number.result (space_number c.put_on.new.self.monitor.spaces p) same (subst (λ (n : ℕ). n < 64) same c.claim_space-number.ensures.range.1))
    (ap (λ (x : Parts g.row.L.Denot). x.core) c.put_on.ensures
    ∙ ap (λ (m : Monitor). on_processor (in_space between.core c.claim_space-number.result) (process_of (kept_of m).state p)) (sym (ap (λ (x : Parts g.row.L.Denot). x.monitor) c.put_on.ensures)))

pub returns-in-None-clause-pairs : goal.returns-in-None-clause-pairs
returns-in-None-clause-pairs g c = subst (λ (p : Parts g.row.L.Denot). HasNoNewPairs c.args.self.now.core.entries p.core.entries) (sym c.self.view_is) (same_pairs c.args.self.now.core.entries)
