use Rattle.std.proofs.Common.{◌≡◌, List, ℕ, ◌++◌, subst, OnOk, codes}
use Rattle.std.specs.String.{string_bytes}
use Rattle.ds_trace.specs.Processors.{named_text}
use Rattle.ds_trace.proofs.Adding.{after_all, joined}
use Rattle.ds_trace.proofs.processor.push_counts.Goals as goal

pub returns : goal.returns
returns c =
    let line : List ℕ = string_bytes c.args.line.now in
    let instructions : List ℕ = named_text (codes "processor instructions ") c.args.counts.now.instructions in
    let refills : List ℕ = named_text (codes " refills ") c.args.counts.now.refills in
    let misses : List ℕ = named_text (codes " double ") c.args.counts.now.double_misses in
    let services : List ℕ = named_text (codes " services ") c.args.counts.now.services in
    subst (λ (l : List ℕ). OnOk c.push_cause.result (string_bytes c.push_cause.new.line ≡ l))
    (after_all line (instructions ++ refills ++ misses ++ services) _ (codes ", as Random fell\n")
    (joined line (instructions ++ refills ++ misses) services _ _
    (joined line (instructions ++ refills) misses _ _ (joined line instructions refills _ _ c.in_ok-push_named.ensures c.in_ok-push_named-2.ensures) c.in_ok-push_named-3.ensures) c.in_ok-push_named-4.ensures))
    c.push_cause.ensures
