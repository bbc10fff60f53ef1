-- No right outlives its end.
use Rattle.std.proofs.Common.{◌≡◌, ℕ, zero, suc, ◌-◌, ◌+◌, ◌<◌, ◌≤◌, Bool, true, false, cond, not, List, [], ◌∷◌, filter, take, length, Option, Some, None, Result, Ok, Err, inl, inr, refl, sym, ap, ◌∙◌, subst, arith}
use Rattle.std.specs.Prelude.{◌==◌, ◌&&◌, ◌^◌, ◌%◌, nat_le, is_some, IfSome, replicate, slice_index_or}
use Rattle.std.specs.List.{All, list_any}
use Rattle.std.specs.Option.{option_map}
use Rattle.std.proofs.lemmas.Bool.{cases_Bool}
use Rattle.std.proofs.lemmas.Bool.Decides.{nat_tests}
use Rattle.std.proofs.lemmas.List.Elements.{All-head, All-tail}
use Rattle.ds_isa.specs.declared.instr.Kind.{Kind}
use Rattle.ds_isa.specs.declared.instr.Size.{Size}
use Rattle.ds_isa.specs.Access.{is_aligned}
use Rattle.ds_policy.specs.declared.access.Rule.TheVariants.{Number, A, K}
use Rattle.ds_policy.specs.declared.access.Verdict.TheVariants.{Allowed, Denied}
use Rattle.ds_policy.specs.declared.command.Command.{Command}
use Rattle.ds_policy.specs.declared.command.Command.TheVariants as command
use Rattle.ds_policy.specs.declared.command.TimedCommand.{TimedCommand}
use Rattle.ds_policy.specs.declared.grant.Grant.{Grant}
use Rattle.ds_policy.specs.declared.grant.Entry.{Entry}
use Rattle.ds_policy.specs.declared.policy.PolicyRule.{PolicyRule}
use Rattle.ds_policy.specs.Value.{PolicyValue, InputValue}
use Rattle.ds_policy.specs.PolicyFacts.{IsGoodRule, IsGoodPolicy}
use Rattle.ds_policy.specs.FirstTable.{with_rule, with_rules, granted_by}
use Rattle.ds_policy.specs.Pages.{Table, found, entry_at, decide, by_entry, page_address, address_code, miss_code}
use Rattle.ds_policy.specs.Grants.{PageState, is_some_right, forbidden_by, live_only}
use Rattle.ds_policy.specs.Ends.{is_reached, has_expired, has_some_expired, expired_table, expired}
use Rattle.ds_pagemap.specs.declared.turn.Turn.{Turn}
use Rattle.ds_pagemap.specs.Machine.{State, process_of, is_parked, lives, first, made_ready, touch_first, touched}
use Rattle.ds_pagemap.specs.Calls.{after_command, or_logged, refuse_command, ended}
use Rattle.ds_pagemap.specs.Unit.{unit}
use Rattle.ds_pagemap.specs.Boundary.{after_commands, all_queued, wakes, woken, has_passed, is_first, rotated, boundary_after, boundary, owed_boundary}
use Rattle.ds_pagemap.specs.Run.{half_turn, goes_on, after, Reaches}
use Rattle.ds_pagemap.specs.First.{first_state}
use Rattle.ds_pagemap.specs.Inputs.{Sources, inputs, inputs_under}
use Rattle.ds_pagemap.specs.Laws.{due}
use Rattle.ds_pagemap_laws.proofs.FirstStates.{made}
use Rattle.ds_promise.specs.Lines.{after_ends}
use Rattle.ds_promise.specs.Ends.{IsInTime, HoldsInTime}
use Rattle.ds_promise.proofs.Entries.{false_is_not_true, or_first, or_second, one_grant, no_grant_found}
use Rattle.ds_promise.proofs.Granted.{allowed_holds, lets_something}
use Rattle.ds_promise.proofs.Tables.{AllGrants, with_entry_all, was_another, expired_grant, expired_at}
use Rattle.ds_promise.proofs.Placed.{AllPlaced, GrantIsPlaced, command_placed}
use Rattle.ds_promise.proofs.Stores.{found_by, boundary_after_memory, touched_owed}
use Rattle.ds_promise.proofs.Lines.{commands_with_events}
use Rattle.ds_policy.proofs.PolicyRead.{policy_good}
use Rattle.ds_promise.proofs.FirstPages.{no_entry_yet, made_under}

-- A right that has ended is found.

-- a grant has a right that ends at a time or earlier
abbrev pub has_come : ℕ → Grant → Bool
has_come time g = is_some_right g.right && is_reached time g.until

row_has : (time : ℕ) (es : List Entry) (b : ℕ) (h : Grant) → found es b ≡ Some h → has_come time h ≡ true → list_any (has_expired time) es ≡ true
row_has time [] b h e comes = no_grant_found h e
row_has time (x ∷ es) b h e comes = elim (cases_Bool (x.address == b)) [
  | inl here ↦ or_first (has_expired time x) (list_any (has_expired time) es)
      (subst (λ (g : Grant). has_come time g ≡ true) (one_grant x.grant h (subst (λ (c : Bool). cond c (Some x.grant) (found es b) ≡ Some h) here e)) comes)
  | inr there ↦ or_second (has_expired time x) (list_any (has_expired time) es)
      (row_has time es b h (subst (λ (c : Bool). cond c (Some x.grant) (found es b) ≡ Some h) there e) comes)
]

table_has : (time : ℕ) (t : Table) (i b : ℕ) (h : Grant) → found (slice_index_or t i []) b ≡ Some h → has_come time h ≡ true → has_some_expired time t ≡ true
table_has time [] i b h e comes = no_grant_found h e
table_has time (row ∷ t) zero b h e comes = or_first (list_any (has_expired time) row) (has_some_expired time t) (row_has time row b h e comes)
table_has time (row ∷ t) (suc i) b h e comes = or_second (list_any (has_expired time) row) (has_some_expired time t) (table_has time t i b h e comes)

-- The step that ends rights.

-- where it has a right, its end has not come
abbrev pub LastsPast : ℕ → ℕ → ℕ → Grant → Type 0
LastsPast time i b g = is_some_right g.right ≡ true → is_reached time g.until ≡ false

pub not_come : (time : ℕ) (g : Grant) → has_come time g ≡ false → is_some_right g.right ≡ true → is_reached time g.until ≡ false
not_come time g stays right = subst (λ (c : Bool). (c && is_reached time g.until) ≡ false) right stays

-- what is left where a right has ended lasts, and so does a right that has not
left_lasts : (time i b : ℕ) (c : Bool) (old : Grant) → has_come time old ≡ c → LastsPast time i b (cond c (forbidden_by old.rule) old)
left_lasts time i b true old comes right = false_is_not_true right
left_lasts time i b false old stays right = not_come time old stays right

pub expired_lasts : (s : PageState) (time : ℕ) → AllPlaced (LastsPast time) (expired s time).table
expired_lasts s time = by (has_some_expired time s.table) refl
  where
    by : (c : Bool) → has_some_expired time s.table ≡ c → AllPlaced (LastsPast time) (cond c (live_only (record s { table = expired_table time s.table })) s).table
    by true some q b h e =
        let w = was_another (expired_grant time) (entry_at s.table q b) h (sym (expired_at time s.table q b) ∙ e) in
        subst (LastsPast time (q - 1) b) (sym w.is) (left_lasts time (q - 1) b (has_come time w.old) w.old refl)
    by false none q b h e = λ right. elim (cases_Bool (has_come time h)) [
      | inl comes ↦ false_is_not_true (sym none ∙ table_has time s.table (q - 1) b h e comes)
      | inr stays ↦ not_come time h stays right
    ]

-- a right that has ended leaves its rule alone
pub expired_leaves_rule : (s : PageState) (time q b : ℕ) (g : Grant) → entry_at s.table q b ≡ Some g → is_some_right g.right ≡ true → is_reached time g.until ≡ true → entry_at (expired s time).table q b ≡ Some (forbidden_by g.rule)
expired_leaves_rule s time q b g e right reached =
    ap (λ (c : Bool). entry_at (cond c (live_only (record s { table = expired_table time s.table })) s).table q b) (table_has time s.table (q - 1) b g e comes)
    ∙ (expired_at time s.table q b ∙ (ap (option_map (expired_grant time)) e ∙ ap (λ (c : Bool). Some (cond c (forbidden_by g.rule) g)) comes))
  where
    comes : has_come time g ≡ true
    comes = ap (λ (c : Bool). c && is_reached time g.until) right ∙ reached

-- and denies what it let be done
pub ended_denies : (m : State) (p : ℕ) (kind : Kind) (size : Size) (address : ℕ) (g : Grant) → entry_at m.memory.table p (page_address address) ≡ Some g → is_some_right g.right ≡ true → is_reached m.time g.until ≡ true
    → is_aligned size address ≡ true → address < 2 ^ 31 → decide (after_ends m).memory.table p kind size address ≡ Denied (Number g.rule) (miss_code kind)
ended_denies m p kind size address g e right reached aligned user =
    let t = (after_ends m).memory.table in
    ap (λ (c : Bool). cond (not c) (Denied A (address_code kind)) (cond (nat_le (2 ^ 31) address) (Denied K (address_code kind)) (by_entry (entry_at t p (page_address address)) kind (address % 4096)))) aligned
    ∙ (ap (λ (c : Bool). cond c (Denied K (address_code kind)) (by_entry (entry_at t p (page_address address)) kind (address % 4096))) (below address (2 ^ 31) user)
    ∙ ap (λ (o : Option Grant). by_entry o kind (address % 4096)) (expired_leaves_rule m.memory m.time p (page_address address) g e right reached))
  where
    below : (a n : ℕ) → a < n → nat_le n a ≡ false
    below a n h = grind (arith, nat_tests)

-- Boundaries.

-- after the rights that end, a boundary's commands alone change the pages and the table
boundary_found : (turn : Turn) (m : State) → (boundary_after turn m).memory ≡ (after_commands (after_ends m) (due m)).memory
boundary_found turn m = boundary_after_memory turn m
    ∙ ap (λ (s : State). s.memory) (commands_with_events (filter (λ c. not (nat_le c.time m.time)) m.commands) (filter (λ c. not (nat_le c.time m.time)) m.characters) None (after_ends m) (due m))

pub boundary_finds : (m : State) (turn : Turn) → m.owed ≡ Some turn → (boundary m).memory ≡ (after_commands (after_ends m) (due m)).memory
unfolding boundary
boundary_finds m turn is = ap (λ (owed : Option Turn). (owed_boundary owed m).memory) is ∙ boundary_found turn m

logged_time : (m : State) (k : ℕ) (r : Result PageState ℕ) → (or_logged m k r).time ≡ m.time
logged_time m k (Ok s) = refl
logged_time m k (Err number) = refl

if_time : (n : ℕ) (c : Bool) (s t : State) → s.time ≡ n → t.time ≡ n → (cond c s t).time ≡ n
if_time n true s t x y = x
if_time n false s t x y = y

command_time : (m : State) (k : ℕ) (c : Command) → (after_command m k c).time ≡ m.time
command_time m k (command.Grant p address page right give) = logged_time m k _
command_time m k (command.Narrow p address) = logged_time m k _
command_time m k (command.Revoke p address) = logged_time m k _
command_time m k (command.Drop p address) = logged_time m k _
command_time m k (command.Resume p) =
    if_time m.time (not (lives m p)) (refuse_command m k 12) (cond (not (is_parked (process_of m p).standing)) (refuse_command m k 15) (made_ready m p)) refl
    (if_time m.time (not (is_parked (process_of m p).standing)) (refuse_command m k 15) (made_ready m p) refl refl)
command_time m k (command.Stop p) = if_time m.time (not (lives m p)) (refuse_command m k 12) (ended m p) refl refl

commands_time : (m : State) (cs : List TimedCommand) → (after_commands m cs).time ≡ m.time
commands_time m [] = refl
commands_time m (c ∷ rest) = commands_time (after_command m c.number c.command) rest ∙ command_time m c.number c.command

woken_time : (m : State) (p n : ℕ) → (woken m p n).time ≡ m.time
woken_time m p zero = refl
woken_time m p (suc n) = woken_time (cond (wakes m p) (made_ready m p) m) (p + 1) n ∙ if_time m.time (wakes m p) (made_ready m p) m refl refl

rotated_time : (m : State) (runner : Option ℕ) → (rotated m runner).time ≡ m.time
rotated_time m None = refl
rotated_time m (Some p) = if_time m.time (is_first (first m.ready) p) (made_ready m p) m refl refl

boundary_after_time : (turn : Turn) (m : State) → (boundary_after turn m).time ≡ m.time
boundary_after_time turn m =
    let served = after_commands (found_by m) (due m) in
    let typed = record served { queues = all_queued served.queues (take 64 (filter (λ c. nat_le c.time m.time) m.characters)) } in
    let awake = woken typed 1 (length typed.processes) in
    let same = woken_time typed 1 (length typed.processes) ∙ commands_time (found_by m) (due m) in
    if_time m.time (has_passed m.rate turn.began m.time) (rotated awake turn.runner) awake (rotated_time awake turn.runner ∙ same) same

-- a command grants without an end
grants_last : (time : ℕ) (m : State) (k : ℕ) (c : Command) → GrantIsPlaced (LastsPast time) (λ i b g parent l. l) (λ i b g right l _. l right) (λ i b rule right. false_is_not_true right) m k c
grants_last time m k (command.Grant p address page right give) = λ done living some. refl
grants_last time m k (command.Narrow p address) = tt
grants_last time m k (command.Revoke p address) = tt
grants_last time m k (command.Drop p address) = tt
grants_last time m k (command.Resume p) = tt
grants_last time m k (command.Stop p) = tt

commands_last : (time : ℕ) (m : State) (cs : List TimedCommand) → AllPlaced (LastsPast time) m.memory.table → AllPlaced (LastsPast time) (after_commands m cs).memory.table
commands_last time m [] all = all
commands_last time m (c ∷ rest) all =
    commands_last time (after_command m c.number c.command) rest
    (command_placed (LastsPast time) (λ i b g parent l. l) (λ i b g right l _. l right) (λ i b rule right. false_is_not_true right) m c.number c.command (grants_last time m c.number c.command) all)

after_in_time : (turn : Turn) (m : State) → IsInTime (boundary_after turn m)
after_in_time turn m none q b g e right =
    subst (λ (time : ℕ). is_reached time g.until ≡ false) (sym (boundary_after_time turn m))
    (commands_last m.time (after_ends m) (due m) (expired_lasts m.memory m.time) q b g (ap (λ (s : PageState). entry_at s.table q b) (sym (boundary_found turn m)) ∙ e) right)

pub boundary_in_time : (m : State) (turn : Turn) → m.owed ≡ Some turn → IsInTime (boundary m)
unfolding boundary
boundary_in_time m turn is = subst (λ (owed : Option Turn). IsInTime (owed_boundary owed m)) (sym is) (after_in_time turn m)

-- Half turns and runs.

-- after a unit a boundary is owed
unit_in_time : (m : State) → IsInTime (unit m)
unfolding unit
unit_in_time m none = absurd (some_is_none _ none)
  where
    some_is_none : (turn : Turn) → ◌≡◌ {A = Option Turn} (Some turn) None → ⊥
    some_is_none turn e = cc

half_by : (owed : Option Turn) (m : State) → m.owed ≡ owed → IsInTime (cond (is_some owed) (boundary m) (unit m))
half_by None m is = unit_in_time m
half_by (Some turn) m is = boundary_in_time m turn is

pub half_in_time : (b : Bool) (m : State) → IsInTime (half_turn b m)
unfolding half_turn
half_in_time b m = half_by m.owed (touched b m) (touched_owed b m)

go_by : (on b : Bool) (m : State) → IsInTime m → IsInTime (cond on (half_turn b m) m)
go_by true b m k = half_in_time b m
go_by false b m k = k

pub along_in_time : (n : ℕ) (choices : List Bool) (m : State) → IsInTime m → IsInTime (after n choices m)
unfolding after
along_in_time n [] m k = k
along_in_time n (touch ∷ earlier) m k = go_by (goes_on n (after n earlier m)) touch (after n earlier m) (along_in_time n earlier m k)

touched_in_time : (b : Bool) (m : State) → IsInTime m → IsInTime (touched b m)
touched_in_time true m k = of_first m m.ready k
  where
    of_first : (m : State) (ready : List ℕ) → IsInTime m → IsInTime (touch_first m ready)
    of_first m [] k = k
    of_first m (p ∷ rest) k = k
touched_in_time false m k = k

pub reaches_in_time : (n : ℕ) (m t : State) → Reaches n m t → IsInTime m → IsInTime t
reaches_in_time n m t r k = subst IsInTime (sym r.comes_to) (touched_in_time r.early (after n r.choices m) (along_in_time n r.choices m k))

-- what is allowed is held, and its end has not come
pub allowed_in_time : (m : State) (p : ℕ) (kind : Kind) (size : Size) (address page offset : ℕ) → IsInTime m → m.owed ≡ None → decide m.memory.table p kind size address ≡ Allowed page offset → HoldsInTime m p kind address page
allowed_in_time m p kind size address page offset k none e =
    let h = allowed_holds m.memory.table p kind size address page offset e in
    record { holds = h; in_time = k none p (page_address address) h.grant h.held (lets_something h.grant.right kind h.right) }

-- First states.

not_yet : (until : Option ℕ) → IfSome until (λ n. (1 ≤ n) × (n ≤ 1000000000)) → is_reached 0 until ≡ false
not_yet None good = refl
not_yet (Some end) good = above end good.0
  where
    above : (end : ℕ) → 1 ≤ end → nat_le end 0 ≡ false
    above end h = grind (arith, nat_tests)

-- where it has a right, its end is no time 0
abbrev Begins : Grant → Type 0
Begins g = is_some_right g.right ≡ true → is_reached 0 g.until ≡ false

rules_begin : (processes pages : ℕ) (t : Table) (n : ℕ) (rules : List PolicyRule) → All (IsGoodRule processes pages) rules → AllGrants Begins t → AllGrants Begins (with_rules t n rules)
rules_begin processes pages t n [] good all = all
rules_begin processes pages t n (r ∷ rest) good all =
    let one = All-head (IsGoodRule processes pages) r rest good in
    rules_begin processes pages (with_rule t n r) (n + 1) rest (All-tail (IsGoodRule processes pages) r rest good)
    (with_entry_all Begins t r.process r.address (granted_by n r) all (λ right. not_yet r.until one.until))

first_in_time : (policy : PolicyValue) (images : List (List ℕ)) (events : InputValue) → All (IsGoodRule (length policy.processes) (length policy.pages)) policy.rules → IsInTime (first_state policy images events)
first_in_time policy images events good none q b g e right =
    rules_begin (length policy.processes) (length policy.pages) (replicate (length policy.processes) []) 1 policy.rules good
    (λ q b h f. absurd (no_entry_yet (length policy.processes) (q - 1) b h f)) q b g e right

pub inputs_in_time : (text : List ℕ) (sources : Sources) (input : List ℕ) (n random : ℕ) (m : State) → inputs text sources input n random ≡ Ok m → IsInTime m
unfolding inputs
inputs_in_time text sources input n random m h =
    let it = made first_state text sources input n random m h in
    subst IsInTime it.is (first_in_time it.policy it.images it.events (policy_good text it.policy it.policy_is).rules.good)

pub under_in_time : (policy : PolicyValue) (sources : Sources) (input : List ℕ) (n random : ℕ) (m : State) → IsGoodPolicy policy → inputs_under policy sources input n random ≡ Ok m → IsInTime m
under_in_time policy sources input n random m good h =
    let it = made_under policy sources input n random m h in
    subst IsInTime it.is (first_in_time policy it.images it.events good.rules.good)
