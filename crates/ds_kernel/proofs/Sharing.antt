-- A boundary does the commands that are due, and then what is to be done to queues and processes.
use Rattle.std.proofs.Common.{◌≡◌, ℕ, zero, suc, ◌+◌, Bool, true, false, cond, List, [], ◌∷◌, length, take, Option, Some, None, refl, sym, ap, ap₂, subst, ◌∙◌, arith, ◌-◌, ◌<◌, ◌≤◌, map}
use Rattle.std.specs.Prelude.{IfSome, ◌&&◌, slice_index_or}
use Rattle.std.proofs.Math.Seq.{map-set_same}
use Rattle.std.proofs.lemmas.Bool.Decides.{nat_tests}
use Rattle.std.specs.List.{All}
use Rattle.std.proofs.lemmas.List.{get_or-map, length-map}
use Rattle.std.proofs.lemmas.List.Elements.{All-head}
use Rattle.ds_policy.specs.declared.command.Character.{Character}
use Rattle.ds_policy.specs.Ends.{NoneEndsBefore}
use Rattle.ds_policy.specs.Grants.{PageState}
use Rattle.ds_log.specs.declared.line.Line.{Line}
use Rattle.ds_pagemap.specs.declared.turn.Turn.{Turn}
use Rattle.ds_pagemap.specs.Machine.{State, Process, no_process, process_of, has_ended, is_waiting, made_ready, first}
use Rattle.ds_pagemap.specs.Boundary.{all_queued, wakes, woken, has_passed, is_first, rotated, owed_boundary, boundary}
use Rattle.ds_pagemap_laws.specs.Lawful.{IsReady, IsWellFormed, IsLawful}
use Rattle.ds_pagemap_laws.proofs.LawfulBoundaries.{typed_formed, woken_lawful, rotated_lawful}
use Rattle.ds_pagemap_laws.specs.Due.{come}
use Rattle.ds_grants.specs.State.{page_state}
use Rattle.ds_refinement.specs.Held.{Kept}
use Rattle.ds_refinement.specs.Inner.Held.{whole}
use Rattle.ds_refinement.specs.Inner.Services.{IsBare, Serves}
use Rattle.ds_monitor.specs.Inner.Commands.{with_ends, commanded}
use Rattle.ds_monitor.proofs.Serving.{serves_then}
use Rattle.ds_monitor.proofs.Called.{by_kept}
use Rattle.ds_dev.specs.declared.serial.Character.{Character as Received}
use Rattle.ds_kernel.specs.Inner.Devices.{typed}
use Rattle.ds_monitor.specs.Inner.Blind.{IsBlind}
use Rattle.ds_monitor.specs.Inner.Kept.{kept_after}
use Rattle.ds_monitor.specs.Inner.Ended.{marks_of}
use Rattle.ds_monitor.specs.Inner.Orderly as monitor
use Rattle.ds_monitor.proofs.Lawful.{good_as}
use Rattle.ds_procs.specs.declared.process.Standing.{Standing}
use Rattle.ds_procs.specs.declared.process.Standing.TheVariants.{Ready, Waiting, Parked, Ended}
use Rattle.ds_kernel.specs.Inner.Attended.{shared, ruled, to_come}

if_blind : (b : Bool) (m : State) (p : ℕ) (memory : PageState) (log : List Line)
    → cond b (made_ready (record m { memory = memory; log = log }) p) (record m { memory = memory; log = log }) ≡ record (cond b (made_ready m p) m) { memory = memory; log = log }
if_blind true m p memory log = refl
if_blind false m p memory log = refl

woken_blind : (p n : ℕ) → IsBlind (λ (m : State). woken m p n)
woken_blind p zero m memory log = refl
woken_blind p (suc n) m memory log =
    ap (λ (s : State). woken s (p + 1) n) (if_blind (wakes m p) m p memory log)
    ∙ woken_blind (p + 1) n (cond (wakes m p) (made_ready m p) m) memory log

rotated_blind : (runner : Option ℕ) → IsBlind (λ (m : State). rotated m runner)
rotated_blind None m memory log = refl
rotated_blind (Some p) m memory log = if_blind (is_first (first m.ready) p) m p memory log

last_blind : (b : Bool) (runner : Option ℕ) → IsBlind (λ (m : State). cond b (rotated m runner) m)
last_blind true runner m memory log = rotated_blind runner m memory log
last_blind false runner m memory log = refl

pub shared_blind : (cs : List Character) (passed : Bool) (runner : Option ℕ) → IsBlind (shared cs passed runner)
shared_blind cs passed runner m memory log =
    let typed : State = record m { queues = all_queued m.queues cs } in
    let awake : State = woken typed 1 (length typed.processes) in
    ap (λ (s : State). cond passed (rotated s runner) s) (woken_blind 1 (length typed.processes) typed memory log)
    ∙ last_blind passed runner awake memory log

pub boundary_ruled : (m : State) (turn : Turn) → m.owed ≡ Some turn
    → boundary m ≡ ruled m.time (take 64 (come m)) (has_passed m.rate turn.began m.time) turn.runner (record m { characters = to_come m; owed = None })
unfolding boundary
boundary_ruled m turn owed = ap (λ (o : Option Turn). owed_boundary o m) owed

-- rights that end, commands that are done and then what is shared are the rest of a boundary
pub rules : (now : ℕ) (silo read : List Received) (flag passed : Bool) (owed runner : Option ℕ) (a e b n : Kept) (x z y : List ℕ) → read ≡ silo → passed ≡ flag → runner ≡ owed
    → Serves (with_ends now) a x e z → Serves (commanded now) e z b y → IsBare b.state → n ≡ kept_after (shared (map typed read) passed runner) b → Serves (ruled now (map typed silo) flag owed) a x n y
rules now silo read flag passed owed runner a e b n x z y same told ran ends s bare is =
    let f : State → State = shared (map typed silo) flag owed in
    let by : n ≡ kept_after f b =
    is
    ∙ (ap (λ (cs : List Received). kept_after (shared (map typed cs) passed runner) b) same
    ∙ ap₂ (λ (p : Bool) (r : Option ℕ). kept_after (shared (map typed silo) p r) b) told ran) in
    serves_then (λ (m : State). commanded now (with_ends now m)) f a b n x y y (serves_then (with_ends now) (commanded now) a e b x z y ends s) (by_kept f b n y (shared_blind (map typed silo) flag owed) bare by)

-- What it leaves is lawful.

last_lawful : (b : Bool) (m : State) (runner : Option ℕ) → IsLawful m → IsLawful (cond b (rotated m runner) m)
last_lawful true m runner k = rotated_lawful m runner k
last_lawful false m runner k = k

pub shared_lawful : (cs : List Character) (passed : Bool) (runner : Option ℕ) (m : State) → IsLawful m → IsLawful (shared cs passed runner m)
shared_lawful cs passed runner m k =
    let typed : State = record m { queues = all_queued m.queues cs } in
    last_lawful passed (woken typed 1 (length typed.processes)) runner (woken_lawful typed (typed_formed m cs k.formed))

first_of : (m : State) (queue : List ℕ) → All (IsReady m) queue → IfSome (first queue) (λ p. (0 < p) × (p ≤ length m.processes))
first_of m [] all = tt
first_of m (p ∷ rest) all = let head = All-head (IsReady m) p rest all in (head.0, head.1)

-- who is first is one of the processes
pub first_within : (m : State) → IsWellFormed m → IfSome (first m.ready) (λ p. (0 < p) × (p ≤ length m.processes))
first_within m w = first_of m m.ready w.ready

one_before : (k : ℕ) → k + 1 - 1 ≡ k
one_before k = omega arith

-- each process has one of four lines
pub lines_low : (m : State) → IsWellFormed m → All (λ l. l < 4) (map (λ (q : Process). q.line) m.processes)
lines_low m w = λ k d below.
    let within : k < length m.processes = omega (arith, below, length-map m.processes (λ (q : Process). q.line)) in
    let low : (slice_index_or m.processes k no_process).line < 4 = subst (λ (i : ℕ). (slice_index_or m.processes i no_process).line < 4) (one_before k) (w.processes (k + 1)).line in
    subst (λ (n : ℕ). n < 4) (sym (get_or-map (λ (q : Process). q.line) m.processes k no_process d within)) low

-- What is kept after each part of it.

pub drained_formed : (k n : Kept) (cs : List Character) → n ≡ kept_after (λ (m : State). record m { queues = all_queued m.queues cs }) k → IsLawful (whole k [] []) → IsWellFormed (whole n [] [])
drained_formed k n cs is w = subst (λ (x : Kept). IsWellFormed (whole x [] [])) (sym is) (typed_formed (whole k [] []) cs w.formed)

pub woken_kept : (k n : Kept) → n ≡ kept_after (λ (m : State). woken m 1 (length m.processes)) k → IsWellFormed (whole k [] []) → IsLawful (whole n [] [])
woken_kept k n is w =
    subst (λ (x : Kept). IsLawful (whole x [] [])) (sym is)
    (subst IsLawful (woken_blind 1 (length k.state.processes) k.state (page_state k.grants []) []) (woken_lawful (whole k [] []) w))

rotated_kept : (runner : Option ℕ) (k n : Kept) → n ≡ kept_after (λ (m : State). rotated m runner) k → IsLawful (whole k [] []) → IsLawful (whole n [] [])
rotated_kept runner k n is w =
    subst (λ (x : Kept). IsLawful (whole x [] [])) (sym is)
    (subst IsLawful (rotated_blind runner k.state (page_state k.grants []) []) (rotated_lawful (whole k [] []) runner w))

-- Who wakes or rotates hasn't ended.

waiting_alive : (s : Standing) → is_waiting s ≡ true → has_ended s ≡ false
waiting_alive Waiting e = refl
waiting_alive Ready e = absurd (cc)
waiting_alive Parked e = absurd (cc)
waiting_alive Ended e = absurd (cc)

first_both : (a b : Bool) → (a && b) ≡ true → a ≡ true
first_both true b e = refl
first_both false b e = absurd (cc)

marks_ready : (m : State) (p : ℕ) → has_ended (process_of m p).standing ≡ false → marks_of (made_ready m p) ≡ marks_of m
marks_ready m p alive = map-set_same (λ (q : Process). has_ended q.standing) m.processes (p - 1) (record (process_of m p) { standing = Ready }) no_process (sym alive)

marks_woken_by : (b : Bool) (m : State) (p : ℕ) → wakes m p ≡ b → marks_of (cond b (made_ready m p) m) ≡ marks_of m
marks_woken_by true m p e = marks_ready m p (waiting_alive (process_of m p).standing (first_both (is_waiting (process_of m p).standing) _ e))
marks_woken_by false m p e = refl

marks_woken : (n p : ℕ) (m : State) → marks_of (woken m p n) ≡ marks_of m
marks_woken zero p m = refl
marks_woken (suc n) p m = marks_woken n (p + 1) (cond (wakes m p) (made_ready m p) m) ∙ marks_woken_by (wakes m p) m p refl

ready_alive : (s : Standing) → s ≡ Ready → has_ended s ≡ false
ready_alive s e = ap has_ended e

first_is : (queue : List ℕ) (p : ℕ) (m : State) → is_first (first queue) p ≡ true → All (IsReady m) queue → has_ended (process_of m p).standing ≡ false
first_is [] p m is all = absurd (cc)
first_is (q ∷ rest) p m is all =
    let same : q ≡ p = grind (arith, nat_tests) in
    subst (λ (n : ℕ). has_ended (process_of m n).standing ≡ false) same (ready_alive (process_of m q).standing (All-head (IsReady m) q rest all).2)

marks_rotated_by : (b : Bool) (m : State) (p : ℕ) → (b ≡ true → has_ended (process_of m p).standing ≡ false) → marks_of (cond b (made_ready m p) m) ≡ marks_of m
marks_rotated_by true m p alive = marks_ready m p (alive refl)
marks_rotated_by false m p alive = refl

marks_rotated : (runner : Option ℕ) (m : State) → All (IsReady m) m.ready → marks_of (rotated m runner) ≡ marks_of m
marks_rotated None m all = refl
marks_rotated (Some p) m all = marks_rotated_by (is_first (first m.ready) p) m p (λ e. first_is m.ready p m e all)

-- nor are commands and pages touched
same_commands : (b : Bool) (m : State) (p : ℕ) → (cond b (made_ready m p) m).commands ≡ m.commands
same_commands true m p = refl
same_commands false m p = refl

commands_woken : (n p : ℕ) (m : State) → (woken m p n).commands ≡ m.commands
commands_woken zero p m = refl
commands_woken (suc n) p m = commands_woken n (p + 1) (cond (wakes m p) (made_ready m p) m) ∙ same_commands (wakes m p) m p

commands_rotated : (runner : Option ℕ) (m : State) → (rotated m runner).commands ≡ m.commands
commands_rotated None m = refl
commands_rotated (Some p) m = same_commands (is_first (first m.ready) p) m p

-- after the waking
pub woken_orderly : (k between n : Kept) (cs : List Character) → between ≡ kept_after (λ (m : State). record m { queues = all_queued m.queues cs }) k
    → n ≡ kept_after (λ (m : State). woken m 1 (length m.processes)) between → monitor.IsOrderly k → monitor.IsOrderly n
woken_orderly k between n cs drained woke it = record {
  lawful = woken_kept between n woke (drained_formed k between cs drained it.lawful);
  ended =
      ap (λ (x : Kept). marks_of x.state) woke
      ∙ (marks_woken (length between.state.processes) 1 between.state
      ∙ (ap (λ (x : Kept). marks_of x.state) drained ∙ (it.ended ∙ sym (ap (λ (x : Kept). x.grants.ended) woke ∙ ap (λ (x : Kept). x.grants.ended) drained))));
  commands = good_as n.grants.named k.grants.named n.state.commands k.state.commands (ap (λ (x : Kept). x.grants.named) woke ∙ ap (λ (x : Kept). x.grants.named) drained)
      (ap (λ (x : Kept). x.state.commands) woke ∙ (commands_woken (length between.state.processes) 1 between.state ∙ ap (λ (x : Kept). x.state.commands) drained)) it.commands;
  ends = subst (λ (x : Kept). NoneEndsBefore x.ends x.grants.table) (sym woke) (subst (λ (x : Kept). NoneEndsBefore x.ends x.grants.table) (sym drained) it.ends);
}

-- and after the rotation
pub rotated_orderly : (runner : Option ℕ) (k n : Kept) → n ≡ kept_after (λ (m : State). rotated m runner) k → monitor.IsOrderly k → monitor.IsOrderly n
rotated_orderly runner k n is it = record {
  lawful = rotated_kept runner k n is it.lawful;
  ended = ap (λ (x : Kept). marks_of x.state) is ∙ (marks_rotated runner k.state it.lawful.formed.ready ∙ (it.ended ∙ sym (ap (λ (x : Kept). x.grants.ended) is)));
  commands = good_as n.grants.named k.grants.named n.state.commands k.state.commands (ap (λ (x : Kept). x.grants.named) is) (ap (λ (x : Kept). x.state.commands) is ∙ commands_rotated runner k.state) it.commands;
  ends = subst (λ (x : Kept). NoneEndsBefore x.ends x.grants.table) (sym is) it.ends;
}
