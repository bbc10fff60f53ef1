-- What is kept stays lawful.
use Rattle.std.proofs.Common.{◌≡◌, ◌∙◌, ℕ, ◌<◌, ◌≤◌, List, [], ◌∷◌, length, Some, refl, ap, subst}
use Rattle.std.specs.List.{All}
use Rattle.std.proofs.lemmas.List.Elements.{All-head}
use Rattle.ds_log.specs.declared.line.Line.{Line}
use Rattle.ds_grants.specs.State.{page_state}
use Rattle.ds_core.specs.Core.{CoreState}
use Rattle.ds_pagemap.specs.Machine.{State, Process, process_of, with_process, has_ended, first}
use Rattle.ds_pagemap.proofs.Processes.{process_of-with_process}
use Rattle.ds_pagemap_laws.specs.Lawful.{IsReady, IsLawful}
use Rattle.ds_pagemap_laws.proofs.Formed.{formed_with}
use Rattle.ds_refinement.specs.Held.{Kept}
use Rattle.ds_refinement.specs.Inner.Held.{whole}
use Rattle.ds_refinement.specs.Inner.Services.{seated, seated_process, with_first_seated}
use Rattle.ds_monitor.specs.Inner.Ended.{IsAlive}

-- whatever lies in memory, and whatever lines the log has
pub lawful_elsewhere : (k : Kept) (a b : List ℕ) (l l' : List Line) → IsLawful (whole k a l) → IsLawful (whole k b l')
lawful_elsewhere k a b l l' w = record {
  formed = formed_with (whole k a l) (page_state k.grants b) k.state.queues k.state.consoles l' k.state.time k.state.commands k.state.characters k.state.owed refl refl refl w.formed;
  asleep = w.asleep;
}

-- and so is who is first of them
pub ready_first : (m : State) (p : ℕ) (queue : List ℕ) → first queue ≡ Some p → All (IsReady m) queue → IsReady m p
ready_first m p [] is all = absurd cc
ready_first m p (q ∷ rest) is all = let e : q ≡ p = cc in subst (IsReady m) e (All-head (IsReady m) q rest all)

-- who is first is ready
pub first_ready : (k : Kept) (p : ℕ) → first k.state.ready ≡ Some p → IsLawful (whole k [] []) → IsReady (whole k [] []) p
first_ready k p is w = ready_first (whole k [] []) p k.state.ready is w.formed.ready

-- the list of those who are ready, by its first
pub first_rest : (queue : List ℕ) (p : ℕ) → first queue ≡ Some p → (rest : List ℕ) × (queue ≡ p ∷ rest)
first_rest [] p is = absurd cc
first_rest (q ∷ rest) p is = (rest, let e : q ≡ p = cc in ap (λ (x : ℕ). x ∷ rest) e)

-- whoever was alive is so in its seat
pub left_alive : (c : CoreState) (k n : Kept) (p : ℕ) → n ≡ seated c k → first k.state.ready ≡ Some p → 0 < p → p ≤ length k.state.processes → IsAlive k.state p → IsAlive n.state p
left_alive c k n p is first above within alive =
    let r = first_rest k.state.ready p first in
    let seat : n.state ≡ with_process k.state p (seated_process c (process_of k.state p)) = ap (λ (x : Kept). x.state) is ∙ ap (with_first_seated c k.state) r.1 in
    ap (λ (m : State). has_ended (process_of m p).standing) seat
    ∙ (ap (λ (q : Process). has_ended q.standing) (process_of-with_process k.state p (seated_process c (process_of k.state p)) above within) ∙ alive)

-- who was first is in its seat as the processor had it
pub first_left : (c : CoreState) (k n : Kept) (p : ℕ) → n ≡ seated c k → first k.state.ready ≡ Some p → 0 < p → p ≤ length k.state.processes → process_of n.state p ≡ seated_process c (process_of k.state p)
first_left c k n p is first above within =
    let r = first_rest k.state.ready p first in
    ap (λ (m : State). process_of m p) (ap (λ (x : Kept). x.state) is ∙ ap (with_first_seated c k.state) r.1)
    ∙ process_of-with_process k.state p (seated_process c (process_of k.state p)) above within
