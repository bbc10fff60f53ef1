-- A boundary keeps states lawful: its steps keep them well-formed, and after it nobody wakes.
use Rattle.std.proofs.Common.{◌≡◌, ℕ, zero, suc, ◌+◌, ◌-◌, ◌<◌, ◌≤◌, Bool, true, false, cond, not, nat_le, List, [], ◌∷◌, length, length-set, take, filter, Option, Some, None, refl, sym, ap, ◌∙◌, subst, arith, inl, inr}
use Rattle.std.specs.Prelude.{slice_index_or, slice_set, nat_lt, ◌++◌}
use Rattle.std.specs.List.{All}
use Rattle.std.proofs.lemmas.Bool.{cases_lt}
use Rattle.std.proofs.lemmas.Bool.Decides.{nat_tests}
use Rattle.std.proofs.lemmas.List.{get_or_past}
use Rattle.std.proofs.lemmas.List.Elements.{All-head}
use Rattle.ds_procs.specs.declared.process.Standing.TheVariants.{Ready}
use Rattle.ds_policy.specs.declared.command.Character.{Character}
use Rattle.ds_policy.specs.Ends.{expired}
use Rattle.ds_pagemap.specs.declared.turn.Turn.{Turn}
use Rattle.ds_pagemap.specs.Machine.{State, Process, no_process, process_of, made_ready, first}
use Rattle.ds_pagemap.specs.Boundary.{after_commands, queued, all_queued, wakes, woken, has_passed, is_first, rotated, boundary_after, owed_boundary, boundary}
use Rattle.ds_pagemap.specs.Laws.{due}
use Rattle.ds_pagemap_laws.specs.Due.{come, NobodyWakes}
use Rattle.ds_pagemap_laws.specs.Lawful.{IsReady, IsWellFormed, IsLawful}
use Rattle.ds_pagemap_laws.proofs.Sets.{here}
use Rattle.ds_pagemap_laws.proofs.Formed.{as_many, formed_with, ready_formed}
use Rattle.ds_pagemap_laws.proofs.Tables.{expired_long}
use Rattle.ds_pagemap_laws.proofs.Asleep.{has_woken, still_asleep, ready_asleep}
use Rattle.ds_pagemap_laws.proofs.LawfulCalls.{commands_lawful}

-- Rights that end.

pub expired_lawful : (m : State) (now : ℕ) → IsLawful m → IsLawful (record m { memory = expired m.memory now })
expired_lawful m now k = record {
  formed = formed_with m (expired m.memory now) m.queues m.consoles m.log m.time m.commands m.characters m.owed (expired_long m.memory now) refl refl k.formed;
  asleep = k.asleep;
}

-- Characters.

queued_long : (b : Bool) (qs : List (List ℕ)) (i : ℕ) (q : List ℕ) → length (cond b (slice_set qs i q) qs) ≡ length qs
queued_long true qs i q = length-set qs i q
queued_long false qs i q = refl

all_queued_long : (qs : List (List ℕ)) (cs : List Character) → length (all_queued qs cs) ≡ length qs
all_queued_long qs [] = refl
all_queued_long qs (c ∷ rest) = all_queued_long (queued qs c) rest ∙ queued_long (nat_lt (length (slice_index_or qs c.line [])) 256) qs c.line (slice_index_or qs c.line [] ++ c.byte ∷ [])

pub typed_formed : (m : State) (cs : List Character) → IsWellFormed m → IsWellFormed (record m { queues = all_queued m.queues cs })
typed_formed m cs w = formed_with m m.memory (all_queued m.queues cs) m.consoles m.log m.time m.commands m.characters m.owed refl (all_queued_long m.queues cs) refl w

-- Who waits wakes.

step_long : (b : Bool) (m : State) (p : ℕ) → length (cond b (made_ready m p) m).processes ≡ length m.processes
step_long true m p = as_many m p _
step_long false m p = refl

step_formed : (b : Bool) (m : State) (p : ℕ) → 0 < p → p ≤ length m.processes → IsWellFormed m → IsWellFormed (cond b (made_ready m p) m)
step_formed true m p above within w = ready_formed m p above within w
step_formed false m p above within w = w

pub woken_formed : (m : State) (p n : ℕ) → 0 < p → p + n ≤ length m.processes + 1 → IsWellFormed m → IsWellFormed (woken m p n)
woken_formed m p zero above within w = w
woken_formed m p (suc n) above within w =
    let long = step_long (wakes m p) m p in
    woken_formed (cond (wakes m p) (made_ready m p) m) (p + 1) n (omega arith) (omega (arith, long, within)) (step_formed (wakes m p) m p above (omega (arith, within)) w)

woken_long : (m : State) (p n : ℕ) → length (woken m p n).processes ≡ length m.processes
woken_long m p zero = refl
woken_long m p (suc n) = woken_long (cond (wakes m p) (made_ready m p) m) (p + 1) n ∙ step_long (wakes m p) m p

-- one that doesn't wake still doesn't
step_asleep : (b : Bool) (m : State) (p q : ℕ) → wakes m q ≡ false → wakes (cond b (made_ready m p) m) q ≡ false
step_asleep true m p q e = still_asleep m p q (record (process_of m p) { standing = Ready }) refl e
step_asleep false m p q e = e

-- nor does the one that was asked
step_here : (b : Bool) (m : State) (p : ℕ) → wakes m p ≡ b → wakes (cond b (made_ready m p) m) p ≡ false
step_here true m p e = here (λ (x : Process). has_woken m.queues x ≡ false) m.processes (p - 1) (record (process_of m p) { standing = Ready }) no_process refl refl
step_here false m p e = e

below : (m : State) (p n : ℕ) → ((q : ℕ) → 0 < q → q < p → wakes m q ≡ false) → (q : ℕ) → 0 < q → q < p + n → wakes (woken m p n) q ≡ false
below m p zero asleep q above lt = asleep q above (omega (arith, lt))
below m p (suc n) asleep q above lt =
    below (cond (wakes m p) (made_ready m p) m) (p + 1) n
    (λ r r_above r_lt. elim (cases_lt r p) [
      | inl before ↦ step_asleep (wakes m p) m p r (asleep r r_above before)
      | inr from ↦
          let same : p ≡ r = omega (arith, from, r_lt) in
          subst (λ (k : ℕ). wakes (cond (wakes m p) (made_ready m p) m) k ≡ false) same (step_here (wakes m p) m p refl)
    ]) q above (omega (arith, lt))

-- who isn't there doesn't wake
past : (m : State) (q : ℕ) → length m.processes < q → wakes m q ≡ false
past m q h = ap (has_woken m.queues) (get_or_past m.processes (q - 1) no_process (omega (arith, h)))

pub nobody_wakes : (m : State) → NobodyWakes (woken m 1 (length m.processes))
nobody_wakes m = by
  where
    at : (q : ℕ) → 0 < q → wakes (woken m 1 (length m.processes)) q ≡ false
    at q above = elim (cases_lt (length m.processes) q) [
      | inl beyond ↦ past (woken m 1 (length m.processes)) q (subst (λ (n : ℕ). n < q) (sym (woken_long m 1 (length m.processes))) beyond)
      | inr within ↦ below m 1 (length m.processes) (λ r r_above r_lt. absurd (omega (arith, r_above, r_lt))) q above (omega (arith, within))
    ]

    by : (q : ℕ) → wakes (woken m 1 (length m.processes)) q ≡ false
    by zero = at 1 (omega arith)
    by (suc k) = at (suc k) (omega arith)

-- The one that ran goes to the end of the list.

rotated_by : (b : Bool) (m : State) (p : ℕ) → (b ≡ true → (0 < p) × (p ≤ length m.processes)) → IsWellFormed m → IsWellFormed (cond b (made_ready m p) m)
rotated_by true m p there w = ready_formed m p (there refl).0 (there refl).1 w
rotated_by false m p there w = w

first_there : (m : State) (ready : List ℕ) (p : ℕ) → All (IsReady m) ready → is_first (first ready) p ≡ true → (0 < p) × (p ≤ length m.processes)
first_there m [] p list e = absurd cc
first_there m (q ∷ rest) p list e =
    let head = All-head (IsReady m) q rest list in
    let same : q ≡ p = grind (arith, nat_tests) in
    subst (λ (k : ℕ). (0 < k) × (k ≤ length m.processes)) same (head.0, head.1)

pub rotated_formed : (m : State) (runner : Option ℕ) → IsWellFormed m → IsWellFormed (rotated m runner)
rotated_formed m None w = w
rotated_formed m (Some p) w = rotated_by (is_first (first m.ready) p) m p (first_there m m.ready p w.ready) w

rotated_asleep_by : (b : Bool) (m : State) (p : ℕ) → NobodyWakes m → NobodyWakes (cond b (made_ready m p) m)
rotated_asleep_by true m p asleep = ready_asleep m p asleep
rotated_asleep_by false m p asleep = asleep

rotated_asleep : (m : State) (runner : Option ℕ) → NobodyWakes m → NobodyWakes (rotated m runner)
rotated_asleep m None asleep = asleep
rotated_asleep m (Some p) asleep = rotated_asleep_by (is_first (first m.ready) p) m p asleep

pub rotated_lawful : (m : State) (runner : Option ℕ) → IsLawful m → IsLawful (rotated m runner)
rotated_lawful m runner k = record { formed = rotated_formed m runner k.formed; asleep = rotated_asleep m runner k.asleep }

-- The whole boundary.

last_lawful : (b : Bool) (m : State) (runner : Option ℕ) → IsLawful m → IsLawful (cond b (rotated m runner) m)
last_lawful true m runner k = rotated_lawful m runner k
last_lawful false m runner k = k

pub woken_lawful : (m : State) → IsWellFormed m → IsLawful (woken m 1 (length m.processes))
woken_lawful m w = record { formed = woken_formed m 1 (length m.processes) (omega arith) (omega arith) w; asleep = nobody_wakes m }

after_lawful : (turn : Turn) (m : State) → IsLawful m → IsLawful (boundary_after turn m)
after_lawful turn m k =
    let now : State = record m { memory = expired m.memory m.time } in
    let stands : IsLawful now = expired_lawful m m.time k in
    let waits : State = record now { commands = filter (λ c. not (nat_le c.time m.time)) m.commands; characters = filter (λ c. not (nat_le c.time m.time)) m.characters; owed = None } in
    let waiting : IsLawful waits = record { formed = formed_with now now.memory m.queues m.consoles m.log m.time waits.commands waits.characters None refl refl refl stands.formed; asleep = stands.asleep } in
    let served = commands_lawful waits (due m) waiting in
    let typed = typed_formed (after_commands waits (due m)) (take 64 (come m)) served.formed in
    last_lawful (has_passed m.rate turn.began m.time) _ turn.runner (woken_lawful (record (after_commands waits (due m)) { queues = all_queued (after_commands waits (due m)).queues (take 64 (come m)) }) typed)

owed_lawful : (o : Option Turn) (m : State) → IsLawful m → IsLawful (owed_boundary o m)
owed_lawful None m k = k
owed_lawful (Some turn) m k = after_lawful turn m k

pub boundary_lawful : (m : State) → IsLawful m → IsLawful (boundary m)
unfolding boundary
boundary_lawful m k = owed_lawful m.owed m k
