use Rattle.std.proofs.Common.{◌∙◌, ℕ, List, [], ◌∷◌, ◌++◌, ap, drop, take}
use Rattle.ds_procs.specs.Inner.Queue.{without}
use Rattle.ds_refinement.specs.Held.{Kept}
use Rattle.ds_monitor.specs.declared.monitor.Monitor.{Monitor}
use Rattle.ds_monitor.specs.Inner.Kept.{kept_of}
use Rattle.ds_monitor.proofs.Waking.{first_to_end}
use Rattle.ds_monitor.proofs.monitor.Monitor.rotate_first.Goals as goal

pub returns-clause-kept : goal.returns-clause-kept
returns-clause-kept c =
    let old = c.args.self.now in
    let mid = c.stand.new.self in
    let p = c.args.process in
    let ready = ap (λ (m : Monitor). m.ready) c.stand.ensures.rest in
    ap (λ (xs : List ℕ). kept_of (record mid { ready = xs })) (c.rotate.ensures ∙ (ap (λ (xs : List ℕ). drop 1 xs ++ take 1 xs) ready ∙ first_to_end old.ready p c.first-first.ensures.queue c.requires.first))
    ∙ ap (λ (k : Kept). record k { state = record k.state { ready = without old.ready p ++ p ∷ [] } }) c.stand.ensures.kept
