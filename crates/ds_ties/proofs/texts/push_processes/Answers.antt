use Rattle.std.proofs.Common.{rules, ◌∙◌, sym, ap, ◌+◌, ◌++◌, ℕ, List, drop}
use Rattle.std.proofs.lemmas.List.{append_assoc}
use Rattle.ds_ties.specs.Texts.{process_text, process_texts}
use Rattle.ds_ties.proofs.Steps.{texts_step}
use Rattle.ds_ties.proofs.texts.push_processes.Goals as goal

pub loop-index-preserved : goal.loop-index-preserved
loop-index-preserved c =
    let i = c.loop-index.index in
    let rest = process_texts c.args.table.now c.args.events.now (i + 1 + 1) (drop (i + 1) c.args.processes.now) in
    ap (λ (s : List ℕ). s ++ rest) c.in_ok-push_process.ensures
    ∙ (append_assoc c.loop-index.sheet.items (process_text c.args.table.now c.args.events.now (i + 1)) rest
    ∙ (ap (λ (x : List ℕ). c.loop-index.sheet.items ++ x) (sym (texts_step c.args.table.now c.args.events.now c.args.processes.now i (i + 1) (search (rules, c.loop-index-test.true))))
    ∙ c.loop-index.invariant))
