-- What was shared ends with what it was shared from: calls, commands and runs.
use Rattle.std.proofs.Common.{◌≡◌, ℕ, ◌-◌, ◌+◌, ◌<◌, Bool, true, false, cond, not, ◌==◌, List, [], ◌∷◌, length, Option, Some, None, Result, Ok, Err, refl, sym, ap, ◌∙◌, subst}
use Rattle.std.specs.Prelude.{is_some, unwrap_or, replicate}
use Rattle.std.specs.List.{All}
use Rattle.std.proofs.lemmas.List.Elements.{All-head}
use Rattle.ds_word.specs.Word.{word}
use Rattle.ds_procs.specs.declared.call.Call.{Call}
use Rattle.ds_procs.specs.declared.call.Call.TheVariants as call
use Rattle.ds_procs.specs.Calls.{call_of}
use Rattle.ds_policy.specs.declared.command.Command.{Command}
use Rattle.ds_policy.specs.declared.command.Command.TheVariants as command
use Rattle.ds_policy.specs.declared.command.TimedCommand.{TimedCommand}
use Rattle.ds_policy.specs.declared.grant.Right.{Right}
use Rattle.ds_policy.specs.declared.grant.Right.TheVariants.{Read, Write}
use Rattle.ds_policy.specs.declared.grant.Grant.{Grant}
use Rattle.ds_policy.specs.declared.policy.PolicyRule.{PolicyRule}
use Rattle.ds_policy.specs.Value.{PolicyValue}
use Rattle.ds_policy.specs.FirstTable.{with_rule, with_rules, granted_by}
use Rattle.ds_policy.specs.Pages.{Table, entries_of, entry_at, with_entry, fresh}
use Rattle.ds_policy.specs.Grants.{PageState, refused, not_page, has_right, no_right, no_entry, no_grant, table_full, fifth_region, no_frames, may_not_give, live_only, granted, removed, cut, forbidden, shared_from, copied, given, give, take as take_back, drop_own, grant, narrow, revoke, drop_by_command}
use Rattle.ds_policy.specs.Ends.{has_some_expired, expired_table, expired}
use Rattle.ds_pagemap.specs.declared.turn.Turn.{Turn}
use Rattle.ds_pagemap.specs.Machine.{State, process_of, is_parked, lives, made_ready, touched}
use Rattle.ds_pagemap.specs.Calls.{served, answered, or_number, or_denied, after_get, after_wait, queue_of, after_command, or_logged, refuse_command, ended}
use Rattle.ds_pagemap.specs.Unit.{Outcome, Went, Branched, Called, Stopped, instruction, after_slot, after_instruction, unit_of_first, unit}
use Rattle.ds_pagemap.specs.Boundary.{after_commands, boundary}
use Rattle.ds_pagemap.specs.Run.{half_turn, goes_on, after, Reaches}
use Rattle.ds_pagemap.specs.First.{first_state}
use Rattle.ds_pagemap.specs.Inputs.{Sources, inputs, inputs_under}
use Rattle.ds_pagemap.specs.Laws.{due}
use Rattle.ds_pagemap.proofs.Units.{Leaves, leaves_instruction}
use Rattle.ds_pagemap_laws.specs.Lawful.{IsReady, IsLawful}
use Rattle.ds_pagemap_laws.proofs.FirstStates.{made}
use Rattle.ds_pagemap_laws.proofs.LawfulUnits.{touched_lawful}
use Rattle.ds_pagemap_laws.proofs.LawfulRuns.{half_lawful}
use Rattle.ds_promise.specs.Families.{AllHaveOwnAddresses}
use Rattle.ds_promise.specs.Whole.{HasWholePages}
use Rattle.ds_promise.specs.Lines.{after_ends}
use Rattle.ds_promise.specs.Ends.{EndsWithParents}
use Rattle.ds_promise.proofs.Entries.{false_is_not_true, no_grant_found}
use Rattle.ds_promise.proofs.Tables.{AllGrants, with_entry_all}
use Rattle.ds_promise.proofs.WholePages.{OfDone, unless_refused, not_refused, not_true, right_there}
use Rattle.ds_promise.proofs.Stores.{touched_memory, touched_owed}
use Rattle.ds_promise.proofs.Lines.{after_the_call}
use Rattle.ds_promise.proofs.Shares.{counted}
use Rattle.ds_promise.proofs.WholeStates.{half_whole, touched_whole}
use Rattle.ds_promise.proofs.FirstPages.{no_entry_yet, made_under}
use Rattle.ds_promise.proofs.Expiry.{boundary_finds}
use Rattle.ds_promise.proofs.Kinship.{some_is_none, expired_kin, taken_kin, revoked_kin, dropped_kin, orphan_kin, read_kin, shared_kin, ended_kin}

-- what was shared ends with what it was shared from
abbrev Kin : PageState → Type 0
Kin s = EndsWithParents s.table

none_there : (o : Option Grant) → is_some o ≡ false → o ≡ None
none_there None e = refl
none_there (Some g) e = false_is_not_true (sym e)

expire_kin : (s : PageState) (time : ℕ) → Kin s → Kin (expired s time)
expire_kin s time k = by (has_some_expired time s.table)
  where
    by : (c : Bool) → Kin (cond c (live_only (record s { table = expired_table time s.table })) s)
    by true = expired_kin s.table k time
    by false = k

-- Over page states. Processes that live are counted from 1.
module _ (alive : ℕ → Bool) (over : (p : ℕ) → alive p ≡ true → 0 < p) (s : PageState) (k : Kin s) where
  living : (p : ℕ) → refused 12 (not (alive p)) ≡ None → 0 < p
  living p e = over p (not_true (alive p) (not_refused 12 _ e))

  take_kin : (caller p a : ℕ) → AllHaveOwnAddresses s.table → OfDone Kin (take_back alive s caller p a)
  take_kin caller p a own =
      unless_refused Kin (refused 12 (not (alive p))) _ (λ lives. unless_refused Kin (not_page a) _ (λ _. unless_refused Kin (no_right s p a) _ (λ _.
      unless_refused Kin (refused 19 (not ((unwrap_or (entry_at s.table p a) no_grant).giver == caller))) (Ok (cut s p a)) (λ _. taken_kin s.table k p a (living p lives) own))))

  grant_kin : (p a page : ℕ) (right : Right) (leave : Bool) (rule : ℕ) → OfDone Kin (grant alive s p a page right leave rule)
  grant_kin p a page right leave rule =
      let g : Grant = record { right = right; page = Some page; rule = rule; give = leave; giver = 0; parent = None; until = None } in
      unless_refused Kin (refused 12 (not (alive p))) _ (λ _. unless_refused Kin (not_page a) _ (λ _. unless_refused Kin (refused 16 (has_right (entry_at s.table p a))) _ (λ has.
      unless_refused Kin (table_full s p a) _ (λ _. unless_refused Kin (fifth_region s p a) (Ok (granted s p a g)) (λ _.
      orphan_kin s.table k p a g refl (λ o e some. false_is_not_true (sym (not_refused 16 _ has) ∙ (ap has_right e ∙ some))))))))

  narrow_kin : (p a : ℕ) → OfDone Kin (narrow alive s p a)
  narrow_kin p a =
      let g = unwrap_or (entry_at s.table p a) no_grant in
      unless_refused Kin (refused 12 (not (alive p))) _ (λ _. unless_refused Kin (not_page a) _ (λ _. unless_refused Kin (no_right s p a) (Ok (granted s p a (record g { right = Read }))) (λ has.
      let there = right_there s p a has in
      subst (λ (x : Grant). EndsWithParents (with_entry s.table p a (record x { right = Read }))) (sym there.same) (read_kin s.table k p a there.grant there.is there.right))))

  revoke_kin : (p a rule : ℕ) → OfDone Kin (revoke alive s p a rule)
  revoke_kin p a rule =
      unless_refused Kin (refused 12 (not (alive p))) _ (λ lives. unless_refused Kin (not_page a) _ (λ _.
      unless_refused Kin (no_right s p a) (Ok (forbidden s p a rule)) (λ has. let there = right_there s p a has in revoked_kin s.table k p a rule there.grant (living p lives) there.is)))

  drop_command_kin : (p a : ℕ) → OfDone Kin (drop_by_command alive s p a)
  drop_command_kin p a =
      unless_refused Kin (refused 12 (not (alive p))) _ (λ lives. unless_refused Kin (not_page a) _ (λ _.
      unless_refused Kin (no_entry s p a) (Ok (removed s p a)) (λ _. dropped_kin s.table k p a (living p lives))))

  drop_kin : (caller a : ℕ) → 0 < caller → OfDone Kin (drop_own s caller a)
  drop_kin caller a above =
      unless_refused Kin (not_page a) _ (λ _. unless_refused Kin (no_right s caller a) (Ok (removed s caller a)) (λ _. dropped_kin s.table k caller a above))

  one_of_three : (one two : Bool) (r s t : PageState) → Kin r → Kin s → Kin t → Kin (cond one r (cond two s t))
  one_of_three true two r s t x y z = x
  one_of_three false true r s t x y z = y
  one_of_three false false r s t x y z = z

  give_kin : (caller a receiver to mode : ℕ) → 0 < caller → OfDone Kin (give alive s caller a receiver to mode)
  give_kin caller a receiver to mode above =
      let g = unwrap_or (entry_at s.table caller a) no_grant in
      let copy : Grant = record g { right = Write; page = Some (fresh s.pages); giver = caller; parent = None; until = None } in
      unless_refused Kin (refused 12 (not (alive receiver))) _ (λ _. unless_refused Kin (not_page a) _ (λ _. unless_refused Kin (not_page to) _ (λ _.
      unless_refused Kin (no_right s caller a) _ (λ has. unless_refused Kin (refused 15 (may_not_give g mode)) _ (λ _.
      unless_refused Kin (refused 16 (is_some (entry_at s.table receiver to))) _ (λ new. unless_refused Kin (table_full s receiver to) _ (λ _.
      unless_refused Kin (fifth_region s receiver to) _ (λ _. unless_refused Kin (no_frames s mode) (Ok (given s caller a g receiver to mode)) (λ _.
      let there = right_there s caller a has in
      let free = none_there (entry_at s.table receiver to) (not_refused 16 _ new) in
      let ends = ap (λ (x : Grant). x.until) there.same in
      one_of_three (mode == 1) (mode == 2) (granted s receiver to (shared_from caller a g Read)) (granted s receiver to (shared_from caller a g Write)) (granted (copied s g.page) receiver to copy)
      (shared_kin s.table k caller a receiver to there.grant (shared_from caller a g Read) above there.is there.right free refl ends)
      (shared_kin s.table k caller a receiver to there.grant (shared_from caller a g Write) above there.is there.right free refl ends)
      (orphan_kin s.table k receiver to copy refl (λ o e some. no_grant_found o (sym free ∙ e))))))))))))

-- Commands.

end_kin : (m : State) (p : ℕ) → 0 < p → Kin m.memory → Kin (ended m p).memory
end_kin m p above k = ended_kin p (entries_of m.memory.table p) m.memory.table above k

logged_kin : (m : State) (n : ℕ) (r : Result PageState ℕ) → Kin m.memory → OfDone Kin r → Kin (or_logged m n r).memory
logged_kin m n (Ok s) k done = done
logged_kin m n (Err number) k done = k

if_kin : (c : Bool) (s t : State) → Kin s.memory → Kin t.memory → Kin (cond c s t).memory
if_kin true s t x y = x
if_kin false s t x y = y

stop_kin : (m t : State) (c : Bool) → Kin m.memory → (c ≡ true → Kin t.memory) → (n : ℕ) → Kin (cond (not c) (refuse_command m n 12) t).memory
stop_kin m t true k done n = done refl
stop_kin m t false k done n = k

command_kin : (m : State) (n : ℕ) (c : Command) → Kin m.memory → Kin (after_command m n c).memory
command_kin m n (command.Grant p address page right give) k = logged_kin m n (grant (lives m) m.memory p address page right give (1000 + n)) k (grant_kin (lives m) (counted m) m.memory k p address page right give (1000 + n))
command_kin m n (command.Narrow p address) k = logged_kin m n (narrow (lives m) m.memory p address) k (narrow_kin (lives m) (counted m) m.memory k p address)
command_kin m n (command.Revoke p address) k = logged_kin m n (revoke (lives m) m.memory p address (1000 + n)) k (revoke_kin (lives m) (counted m) m.memory k p address (1000 + n))
command_kin m n (command.Drop p address) k = logged_kin m n (drop_by_command (lives m) m.memory p address) k (drop_command_kin (lives m) (counted m) m.memory k p address)
command_kin m n (command.Resume p) k =
    if_kin (not (lives m p)) (refuse_command m n 12) (cond (not (is_parked (process_of m p).standing)) (refuse_command m n 15) (made_ready m p)) k
    (if_kin (not (is_parked (process_of m p).standing)) (refuse_command m n 15) (made_ready m p) k k)
command_kin m n (command.Stop p) k = stop_kin m (ended m p) (lives m p) k (λ living. end_kin m p (counted m p living) k) n

commands_kin : (m : State) (cs : List TimedCommand) → Kin m.memory → Kin (after_commands m cs).memory
commands_kin m [] k = k
commands_kin m (c ∷ rest) k = commands_kin (after_command m c.number c.command) rest (command_kin m c.number c.command k)

boundary_kin : (m : State) (turn : Turn) → m.owed ≡ Some turn → Kin m.memory → Kin (boundary m).memory
boundary_kin m turn is k = subst Kin (sym (boundary_finds m turn is)) (commands_kin (after_ends m) (due m) (expire_kin m.memory m.time k))

-- Calls.

number_kin : (m : State) (p : ℕ) (r : Result PageState ℕ) → Kin m.memory → OfDone Kin r → Kin (or_number m p r).memory
number_kin m p (Ok s) k done = done
number_kin m p (Err number) k done = k

denied_kin : (m : State) (p pc address : ℕ) (r : Result PageState ℕ) → Kin m.memory → OfDone Kin r → Kin (or_denied m p pc address r).memory
denied_kin m p pc address (Ok s) k done = done
denied_kin m p pc address (Err number) k done = k

get_kin : (m : State) (p : ℕ) (queue : List ℕ) → Kin m.memory → Kin (after_get m p queue).memory
get_kin m p [] k = k
get_kin m p (b ∷ rest) k = k

wait_kin : (m : State) (p : ℕ) (queue : List ℕ) → Kin m.memory → Kin (after_wait m p queue).memory
wait_kin m p [] k = k
wait_kin m p (b ∷ rest) k = k

served_kin : (m : State) (p pc : ℕ) (c : Call) → 0 < p → AllHaveOwnAddresses m.memory.table → Kin m.memory → Kin (served m p pc c).memory
served_kin m p pc call.Exit above own k = end_kin m p above k
served_kin m p pc (call.Put byte) above own k = k
served_kin m p pc call.Get above own k = get_kin m p (queue_of m p) k
served_kin m p pc call.Yield above own k = k
served_kin m p pc call.Time above own k = k
served_kin m p pc call.Own above own k = k
served_kin m p pc (call.Give address receiver to mode) above own k = denied_kin m p pc address (give (lives m) m.memory p address receiver to mode) k (give_kin (lives m) (counted m) m.memory k p address receiver to mode above)
served_kin m p pc (call.Take process address) above own k = number_kin m p (take_back (lives m) m.memory p process address) k (take_kin (lives m) (counted m) m.memory k p process address own)
served_kin m p pc (call.Drop address) above own k = number_kin m p (drop_own m.memory p address) k (drop_kin (lives m) (counted m) m.memory k p address above)
served_kin m p pc call.Wait above own k = wait_kin (answered m p 0) p (queue_of m p) k
served_kin m p pc call.Unknown above own k = k

-- Units.

slot_kin : (m : State) (p u pc target : ℕ) (o : Outcome) → Leaves m o → Kin m.memory → Kin (after_slot m p u pc target o).memory
slot_kin m p u pc target (Went t) l k = subst EndsWithParents (sym l.table) k
slot_kin m p u pc target (Branched t next) l k = k
slot_kin m p u pc target Called l k = k
slot_kin m p u pc target (Stopped stop) l k = k

instruction_kin : (m : State) (p pc : ℕ) (o : Outcome) → 0 < p → AllHaveOwnAddresses m.memory.table → Leaves m o → Kin m.memory → Kin (after_instruction m p pc o).memory
instruction_kin m p pc (Went t) above own l k = subst EndsWithParents (sym l.table) k
instruction_kin m p pc (Branched t target) above own l k =
    let slot = word (pc + 4) in
    slot_kin t p pc slot target (instruction t p slot) (leaves_instruction t p slot) (subst Kin (sym l.1) k)
instruction_kin m p pc Called above own l k =
    let next = after_the_call m p pc in
    served_kin next p pc (call_of (process_of next p).registers.general) above own k
instruction_kin m p pc (Stopped stop) above own l k = k

first_kin : (m : State) (ready : List ℕ) → All (IsReady m) ready → AllHaveOwnAddresses m.memory.table → Kin m.memory → Kin (unit_of_first m ready).memory
first_kin m [] all own k = k
first_kin m (p ∷ rest) all own k =
    let pc = (process_of m p).pc in
    instruction_kin m p pc (instruction m p pc) (All-head (IsReady m) p rest all).0 own (leaves_instruction m p pc) k

unit_kin : (m : State) → IsLawful m → AllHaveOwnAddresses m.memory.table → Kin m.memory → Kin (unit m).memory
unfolding unit
unit_kin m lawful own k = first_kin m m.ready lawful.formed.ready own k

-- Half turns and runs.

half_by : (owed : Option Turn) (m : State) → m.owed ≡ owed → IsLawful m → AllHaveOwnAddresses m.memory.table → Kin m.memory → Kin (cond (is_some owed) (boundary m) (unit m)).memory
half_by None m is lawful own k = unit_kin m lawful own k
half_by (Some turn) m is lawful own k = boundary_kin m turn is k

pub half_kin : (b : Bool) (m : State) → IsLawful m → HasWholePages m → EndsWithParents m.memory.table → EndsWithParents (half_turn b m).memory.table
unfolding half_turn
half_kin b m lawful whole k =
    half_by m.owed (touched b m) (touched_owed b m) (touched_lawful b m lawful) (touched_whole b m whole).memory.places (subst Kin (sym (touched_memory b m)) k)

-- a lawful state with whole pages, of which what was shared ends with what it was shared from
record AllThree (m : State) : Type 0 where
  lawful : IsLawful m
  whole : HasWholePages m
  kin : EndsWithParents m.memory.table

go_by : (on b : Bool) (m : State) → AllThree m → AllThree (cond on (half_turn b m) m)
go_by true b m k = record { lawful = half_lawful b m k.lawful; whole = half_whole b m k.whole; kin = half_kin b m k.lawful k.whole k.kin }
go_by false b m k = k

along_kin : (n : ℕ) (choices : List Bool) (m : State) → AllThree m → AllThree (after n choices m)
unfolding after
along_kin n [] m k = k
along_kin n (touch ∷ earlier) m k = go_by (goes_on n (after n earlier m)) touch (after n earlier m) (along_kin n earlier m k)

pub reaches_kin : (n : ℕ) (m t : State) → Reaches n m t → IsLawful m → HasWholePages m → EndsWithParents m.memory.table → EndsWithParents t.memory.table
reaches_kin n m t r lawful whole k =
    let last = after n r.choices m in
    subst (λ (x : State). EndsWithParents x.memory.table) (sym r.comes_to)
    (subst Kin (sym (touched_memory r.early last)) (along_kin n r.choices m (record { lawful = lawful; whole = whole; kin = k })).kin)

-- First states.

-- it was shared from nothing
abbrev IsFirst : Grant → Type 0
IsFirst g = g.parent ≡ None

rules_first : (t : Table) (n : ℕ) (rules : List PolicyRule) → AllGrants IsFirst t → AllGrants IsFirst (with_rules t n rules)
rules_first t n [] all = all
rules_first t n (r ∷ rest) all = rules_first (with_rule t n r) (n + 1) rest (with_entry_all IsFirst t r.process r.address (granted_by n r) all refl)

none_kin : (t : Table) → AllGrants IsFirst t → EndsWithParents t
none_kin t all = record { rank = λ i b. 0; parents = λ q b g place e right from. some_is_none place (sym from ∙ all q b g e) }

rules_kin : (policy : PolicyValue) → EndsWithParents (with_rules (replicate (length policy.processes) []) 1 policy.rules)
rules_kin policy = none_kin _ (rules_first (replicate (length policy.processes) []) 1 policy.rules (λ q b h f. absurd (no_entry_yet (length policy.processes) (q - 1) b h f)))

pub inputs_kin : (text : List ℕ) (sources : Sources) (input : List ℕ) (n random : ℕ) (m : State) → inputs text sources input n random ≡ Ok m → EndsWithParents m.memory.table
unfolding inputs
inputs_kin text sources input n random m h =
    let it = made first_state text sources input n random m h in
    subst (λ (x : State). EndsWithParents x.memory.table) it.is (rules_kin it.policy)

pub under_kin : (policy : PolicyValue) (sources : Sources) (input : List ℕ) (n random : ℕ) (m : State) → inputs_under policy sources input n random ≡ Ok m → EndsWithParents m.memory.table
under_kin policy sources input n random m h =
    let it = made_under policy sources input n random m h in
    subst (λ (x : State). EndsWithParents x.memory.table) it.is (rules_kin policy)
