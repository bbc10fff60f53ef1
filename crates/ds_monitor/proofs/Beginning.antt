-- The beginning of a run.
use Rattle.std.proofs.Common.{◌≡◌, ◌∙◌, ℕ, zero, suc, ◌+◌, ◌≤◌, List, [], ◌∷◌, ◌++◌, length, map, replicate, refl, sym, ap, subst, arith, false, Bool}
use Rattle.std.specs.Prelude.{◌==◌, None}
use Rattle.std.specs.List.{All}
use Rattle.std.proofs.lemmas.Bool.Decides.{nat_tests}
use Rattle.ds_policy.specs.Value.{PolicyValue, InputValue}
use Rattle.ds_policy.specs.declared.command.Character.{Character}
use Rattle.ds_policy.specs.declared.command.TimedCommand.{TimedCommand}
use Rattle.ds_policy.specs.PolicyFacts.{IsGoodProcess}
use Rattle.ds_policy.specs.InputFacts.{AreGoodCommands}
use Rattle.ds_policy.specs.declared.policy.PolicyProcess.{PolicyProcess}
use Rattle.ds_policy.specs.Pages.{Pages}
use Rattle.ds_policy.specs.Ends.{NoneEndsBefore}
use Rattle.ds_procs.specs.Inner.Queue.{without}
use Rattle.ds_grants.specs.State.{GrantsState, pages_in}
use Rattle.ds_grants.specs.First.{first_grants}
use Rattle.ds_tables.specs.Places.{Places}
use Rattle.ds_asid.specs.Spaces.{Spaces, at_start, space_taken}
use Rattle.ds_pagemap.specs.First.{numbers, first_pages, first_process, first_state}
use Rattle.ds_pagemap.specs.Machine.{Process, has_ended}
use Rattle.ds_pagemap_laws.specs.Settled.{settled_process}
use Rattle.ds_pagemap_laws.specs.Lawful.{IsLawful}
use Rattle.ds_pagemap_laws.proofs.FirstStates.{first_lawful}
use Rattle.ds_refinement.specs.Held.{Kept, no_memory}
use Rattle.ds_refinement.specs.Inner.Held.{whole}
use Rattle.ds_refinement.specs.Inner.Stands.{IsKept}
use Rattle.ds_refinement.specs.First.{first_kept}
use Rattle.ds_monitor.specs.Inner.Orderly.{IsOrderly}

-- who comes later isn't among the numbers
pub without_later : (n k p : ℕ) → k + n ≤ p → without (numbers n k) p ≡ numbers n k
without_later zero k p later = refl
without_later (suc n) k p later =
    let apart : (k == p) ≡ false = grind (arith, nat_tests) in
    rw apart (ap (λ (rest : List ℕ). k ∷ rest) (without_later n (k + 1) p (omega (arith, later))))

one_more : (n k : ℕ) → numbers n k ++ (n + k) ∷ [] ≡ numbers (suc n) k
one_more zero k =
    let same : 0 + k ≡ k = omega arith in
    ap (λ (p : ℕ). p ∷ []) same
one_more (suc n) k =
    let next : suc n + k ≡ n + (k + 1) = omega arith in
    ap (λ (rest : List ℕ). k ∷ rest) (ap (λ (p : ℕ). numbers n (k + 1) ++ p ∷ []) next ∙ one_more n (k + 1))

-- one number more
pub numbers_more : (n k : ℕ) → numbers n k ++ (n + k) ∷ [] ≡ numbers (n + 1) k
numbers_more n k =
    let next : suc n ≡ n + 1 = omega arith in
    one_more n k ∙ ap (λ (x : ℕ). numbers x k) next

-- at its start no load of a process is late
settled_first : (ps : List PolicyProcess) → map settled_process (map first_process ps) ≡ map first_process ps
settled_first [] = refl
settled_first (p ∷ ps) = ap (λ (qs : List Process). first_process p ∷ qs) (settled_first ps)

-- and none has ended
none_has_ended : (ps : List PolicyProcess) → map (λ (q : Process). has_ended q.standing) (map first_process ps) ≡ replicate (length ps) false
none_has_ended [] = refl
none_has_ended (p ∷ ps) = ap (λ (bs : List Bool). false ∷ bs) (none_has_ended ps)

-- what a monitor keeps at time 0
abbrev pub beginning : List Process → List ℕ → List (List ℕ) → List (List ℕ) → List ℕ → ℕ → List TimedCommand → List Character → GrantsState → Places → Spaces → ℕ → Kept
beginning processes ready queues consoles log rate commands characters grants tables spaces ends = record {
  state = record {
    memory = no_memory;
    rate = rate;
    processes = processes;
    ready = ready;
    queues = queues;
    consoles = consoles;
    log = [];
    time = 0;
    commands = commands;
    characters = characters;
    owed = None;
  };
  grants = grants;
  tables = tables;
  log = log;
  lines = 0;
  spaces = spaces;
  ticked = 0;
  ends = ends;
}

pub begins : (policy : PolicyValue) (images : List (List ℕ)) (input : InputValue) (processes : List Process) (ready : List ℕ) (queues consoles : List (List ℕ)) (log : List ℕ) (rate : ℕ) (commands : List TimedCommand) (characters : List Character) (grants : GrantsState) (tables : Places) (spaces : Spaces) (ends : ℕ)
    → processes ≡ map first_process policy.processes → ready ≡ numbers (length policy.processes) 1 → queues ≡ replicate 4 [] → consoles ≡ [] ∷ [] ∷ [] ∷ [] ∷ []
    → log ≡ [] → rate ≡ policy.rate → commands ≡ input.commands → characters ≡ input.characters → grants ≡ first_grants policy → spaces ≡ space_taken at_start 1 → beginning processes ready queues consoles log rate commands characters grants tables spaces ends ≡ first_kept policy images input tables ends
begins policy images input processes ready queues consoles log rate commands characters grants tables spaces ends a b c d e f i h g j =
    let seats : Kept = beginning (map first_process policy.processes) (numbers (length policy.processes) 1) (replicate 4 []) (replicate 4 []) [] policy.rate input.commands input.characters (first_grants policy) tables (space_taken at_start 1) ends in
    let all : beginning processes ready queues consoles log rate commands characters grants tables spaces ends ≡ seats = rw (a, b, c, d, e, f, i, h, g, j) refl in
    all ∙ ap (λ (ps : List Process). beginning ps (numbers (length policy.processes) 1) (replicate 4 []) (replicate 4 []) [] policy.rate input.commands input.characters (first_grants policy) tables (space_taken at_start 1) ends) (sym (settled_first policy.processes))

-- nobody is on the processor, and all is kept of the first state
pub first_is_kept : (policy : PolicyValue) (images : List (List ℕ)) (input : InputValue) (tables : Places) (ends : ℕ) (memory : List ℕ) → pages_in (first_grants policy) memory ≡ first_pages policy images → IsKept (first_kept policy images input tables ends) memory (first_state policy images input)
first_is_kept policy images input tables ends memory pages = record {
  state = refl;
  pages = ap (λ (ps : Pages). record { pages = ps; table = (first_grants policy).table; named = (first_grants policy).named }) (sym pages);
  log = refl;
  lines = refl;
}

-- the first state is one that runs have
pub first_orderly : (policy : PolicyValue) (images : List (List ℕ)) (input : InputValue) (tables : Places) (ends : ℕ) → length policy.processes ≤ 100 → All IsGoodProcess policy.processes → AreGoodCommands (length policy.pages) input.commands
    → NoneEndsBefore ends (first_grants policy).table → IsOrderly (first_kept policy images input tables ends)
first_orderly policy images input tables ends few good commands before =
    let l = first_lawful policy images input few good in
    let k = first_kept policy images input tables ends in
    let lawful : IsLawful (record (whole k [] []) { processes = map first_process policy.processes }) = record {
      formed = record { ready = l.formed.ready; processes = l.formed.processes; sizes = record { processes = l.formed.sizes.processes; queues = l.formed.sizes.queues; consoles = l.formed.sizes.consoles; table = l.formed.sizes.table } };
      asleep = l.asleep;
    } in
    record {
      lawful = subst (λ (ps : List Process). IsLawful (record (whole k [] []) { processes = ps })) (sym (settled_first policy.processes)) lawful;
      ended = ap (map (λ (q : Process). has_ended q.standing)) (settled_first policy.processes) ∙ none_has_ended policy.processes;
      commands = commands;
      ends = before;
    }
