-- What a boundary leaves of the time, the table and the pages.
use Rattle.std.proofs.Common.{◌≡◌, ◌≢◌, ◌⊎◌, ℕ, zero, suc, ◌+◌, ◌<◌, not, nat_le, List, [], ◌∷◌, length, take, filter, Bool, true, false, if◌then◌else◌, Option, Some, None, unwrap_or, Result, Ok, Err, refl, sym, ap, ◌∙◌, subst, inl, inr}
use Rattle.std.specs.List.{list_any}
use Rattle.std.proofs.lemmas.Bool.{true≢false, or_parts, false_from_ne_true}
use Rattle.ds_policy.specs.declared.command.Command.{Command}
use Rattle.ds_policy.specs.declared.command.Command.TheVariants as command
use Rattle.ds_policy.specs.declared.command.TimedCommand.{TimedCommand}
use Rattle.ds_policy.specs.declared.grant.Grant.{Grant}
use Rattle.ds_policy.specs.declared.grant.Entry.{Entry}
use Rattle.ds_policy.specs.declared.grant.EntryPlace.{EntryPlace}
use Rattle.ds_policy.specs.declared.grant.Right.{Right}
use Rattle.ds_policy.specs.declared.grant.Right.TheVariants.{Read}
use Rattle.ds_policy.specs.Pages.{Table, entries_of, entry_at, with_entry}
use Rattle.ds_policy.specs.Families.{parent_of, is_place, comes_from, count_entries, forbid_entry}
use Rattle.ds_policy.specs.Grants.{PageState, no_grant, refused, not_page, no_right, no_entry, has_right, table_full, fifth_region, removed, forbidden_by, forbidden, grant, narrow, revoke, drop_by_command}
use Rattle.ds_policy.specs.Ends.{has_expired, has_some_expired, expired}
use Rattle.ds_pagemap.specs.declared.turn.Turn.{Turn}
use Rattle.ds_pagemap.specs.Machine.{State, first, process_of, is_parked, lives, made_ready}
use Rattle.ds_pagemap.specs.Calls.{after_command, or_logged, refuse_command, ended}
use Rattle.ds_pagemap.specs.Boundary.{after_commands, all_queued, wakes, woken, has_passed, is_first, rotated, boundary_after, boundary, owed_boundary}
use Rattle.ds_pagemap.specs.Laws.{but_parent, KeepsAllButParent, is_held_by, process_named, due, NoneNames, revokes_above, removes_parent, NoneRevokesAbove, NoneRemovesParent, Extends}
use Rattle.ds_pagemap.proofs.Lists.{extends_itself, extends_again}
use Rattle.ds_pagemap.proofs.Refusals.{IfDone, if_or_else, if_unless, alive_above}
use Rattle.ds_pagemap.proofs.Entries.{entry_at-set_other}
use Rattle.ds_pagemap.proofs.Ends.{expired_ends, expired_stays, expired_none, expired_same, table_of_expired}
use Rattle.ds_pagemap.proofs.Descent.{Above, Within, within_itself, within_with_entry, within_forbid_entry, within_expired}
use Rattle.ds_pagemap.proofs.Ancestors.{descends_from_above}
use Rattle.ds_pagemap.proofs.Remaining.{Stays, Follows, stays_same, follows_same, follows_again, removed_follows, ended_follows, forbidden_same, removed_none, ended_none, forbidden_none}

-- the same memory, log, time and turn
record SameState (m t : State) : Type 0 where
  memory : t.memory ≡ m.memory
  log : t.log ≡ m.log
  time : t.time ≡ m.time
  owed : t.owed ≡ m.owed

after-after : (m n t : State) → SameState m n → SameState n t → SameState m t
after-after m n t a b = record { memory = b.memory ∙ a.memory; log = b.log ∙ a.log; time = b.time ∙ a.time; owed = b.owed ∙ a.owed }

waking : (b : Bool) (m : State) (p : ℕ) → SameState m (if b then made_ready m p else m)
waking true m p = record { memory = refl; log = refl; time = refl; owed = refl }
waking false m p = record { memory = refl; log = refl; time = refl; owed = refl }

woken-same : (m : State) (p n : ℕ) → SameState m (woken m p n)
woken-same m p zero = record { memory = refl; log = refl; time = refl; owed = refl }
woken-same m p (suc n) = let next = if wakes m p then made_ready m p else m in after-after m next (woken next (p + 1) n) (waking (wakes m p) m p) (woken-same next (p + 1) n)

rotated-same : (m : State) (runner : Option ℕ) → SameState m (rotated m runner)
rotated-same m None = record { memory = refl; log = refl; time = refl; owed = refl }
rotated-same m (Some p) = waking (is_first (first m.ready) p) m p

if-same : (b : Bool) (m s t : State) → SameState m s → SameState m t → SameState m (if b then s else t)
if-same true m s t a b = a
if-same false m s t a b = b

-- a boundary without its commands
ends-same : (turn : Turn) (m served : State) → (typed : State) → SameState served typed → SameState served (if has_passed m.rate turn.began m.time then rotated (woken typed 1 (length typed.processes)) turn.runner else woken typed 1 (length typed.processes))
ends-same turn m served typed same =
    let awake = woken typed 1 (length typed.processes) in
    let until = after-after served typed awake same (woken-same typed 1 (length typed.processes)) in
    if-same (has_passed m.rate turn.began m.time) served (rotated awake turn.runner) awake (after-after served awake (rotated awake turn.runner) until (rotated-same awake turn.runner)) until

-- Commands.

record SameTime (m t : State) : Type 0 where
  time : t.time ≡ m.time
  owed : t.owed ≡ m.owed

or_logged-time : (m : State) (k : ℕ) (r : Result PageState ℕ) → SameTime m (or_logged m k r)
or_logged-time m k (Ok s) = record { time = refl; owed = refl }
or_logged-time m k (Err number) = record { time = refl; owed = refl }

if-time : (b : Bool) (m s t : State) → SameTime m s → SameTime m t → SameTime m (if b then s else t)
if-time true m s t a b = a
if-time false m s t a b = b

after_command-time : (m : State) (k : ℕ) (c : Command) → SameTime m (after_command m k c)
after_command-time m k (command.Grant p address page right give) = or_logged-time m k (grant (lives m) m.memory p address page right give (1000 + k))
after_command-time m k (command.Narrow p address) = or_logged-time m k (narrow (lives m) m.memory p address)
after_command-time m k (command.Revoke p address) = or_logged-time m k (revoke (lives m) m.memory p address (1000 + k))
after_command-time m k (command.Drop p address) = or_logged-time m k (drop_by_command (lives m) m.memory p address)
after_command-time m k (command.Resume p) =
    if-time (not (lives m p)) m (refuse_command m k 12) (if not (is_parked (process_of m p).standing) then refuse_command m k 15 else made_ready m p) (record { time = refl; owed = refl })
    (if-time (not (is_parked (process_of m p).standing)) m (refuse_command m k 15) (made_ready m p) (record { time = refl; owed = refl }) (record { time = refl; owed = refl }))
after_command-time m k (command.Stop p) = if-time (not (lives m p)) m (refuse_command m k 12) (ended m p) (record { time = refl; owed = refl }) (record { time = refl; owed = refl })

after_commands-time : (m : State) (cs : List TimedCommand) → SameTime m (after_commands m cs)
after_commands-time m [] = record { time = refl; owed = refl }
after_commands-time m (c ∷ rest) =
    let next = after_command m c.number c.command in
    let one = after_command-time m c.number c.command in
    let all = after_commands-time next rest in
    record { time = all.time ∙ one.time; owed = all.owed ∙ one.owed }

-- Entries of a process that the commands don't name.

-- a command takes away the right of nothing that is above a parent, however far up
abbrev LeavesAbove : Table → Option EntryPlace → Command → Type 0
LeavesAbove t parent (command.Grant p address page right give) = Unit {0}
LeavesAbove t parent (command.Narrow p address) = Unit {0}
LeavesAbove t parent (command.Revoke p address) = Above t p address parent → ⊥
LeavesAbove t parent (command.Drop p address) = Unit {0}
LeavesAbove t parent (command.Resume p) = Unit {0}
LeavesAbove t parent (command.Stop p) = Unit {0}

-- nor does any of these
abbrev AllLeaveAbove : Table → Option EntryPlace → List TimedCommand → Type 0
AllLeaveAbove t parent [] = Unit {0}
AllLeaveAbove t parent (c ∷ rest) = LeavesAbove t parent c.command × AllLeaveAbove t parent rest

-- nor where no more is above
leaves_fewer : (t u : Table) (parent new : Option EntryPlace) → ((r c : ℕ) → Above u r c new → Above t r c parent) → (c : Command) → LeavesAbove t parent c → LeavesAbove u new c
leaves_fewer t u parent new line (command.Grant p address page right give) l = tt
leaves_fewer t u parent new line (command.Narrow p address) l = tt
leaves_fewer t u parent new line (command.Revoke p address) l = λ above. l (line p address above)
leaves_fewer t u parent new line (command.Drop p address) l = tt
leaves_fewer t u parent new line (command.Resume p) l = tt
leaves_fewer t u parent new line (command.Stop p) l = tt

all_leave_fewer : (t u : Table) (parent new : Option EntryPlace) → ((r c : ℕ) → Above u r c new → Above t r c parent) → (cs : List TimedCommand) → AllLeaveAbove t parent cs → AllLeaveAbove u new cs
all_leave_fewer t u parent new line [] l = tt
all_leave_fewer t u parent new line (c ∷ rest) l = (leaves_fewer t u parent new line c.command l.0, all_leave_fewer t u parent new line rest l.1)

-- none that the table tells is none at all
leaves_told : (t : Table) (q : ℕ) (e : Entry) → entry_at t q e.address ≡ Some e.grant → (c : Command) → revokes_above t e c ≡ false → LeavesAbove t e.grant.parent c
leaves_told t q e has (command.Grant p address page right give) told = tt
leaves_told t q e has (command.Narrow p address) told = tt
leaves_told t q e has (command.Revoke p address) told = λ above. true≢false (sym (descends_from_above t q e.address p address e.grant has above) ∙ told)
leaves_told t q e has (command.Drop p address) told = tt
leaves_told t q e has (command.Resume p) told = tt
leaves_told t q e has (command.Stop p) told = tt

all_leave_told : (t : Table) (q : ℕ) (e : Entry) → entry_at t q e.address ≡ Some e.grant → (cs : List TimedCommand) → NoneRevokesAbove t e cs → AllLeaveAbove t e.grant.parent cs
all_leave_told t q e has [] told = tt
all_leave_told t q e has (c ∷ rest) told =
    let parts = or_parts (revokes_above t e c.command) (list_any (λ c. revokes_above t e c.command) rest) told in
    (leaves_told t q e has c.command parts.0, all_leave_told t q e has rest parts.1)

-- One command, about another process, and an entry that it revokes nothing above.
module _ (m : State) (k q b : ℕ) (q_above : 0 < q) (g : Grant) (has : entry_at m.memory.table q b ≡ Some g) where
  abbrev Left : Bool → Table → Type 0
  Left lost u = Follows lost m.memory.table u g (entry_at u q b)

  whole : (lost : Bool) → Left lost m.memory.table
  whole lost = follows_same lost m.memory.table m.memory.table g (entry_at m.memory.table q b) (within_itself m.memory.table) has

  or_logged-left : (lost : Bool) (r : Result PageState ℕ) → IfDone (Left lost) r → Left lost (or_logged m k r).memory.table
  or_logged-left lost (Ok s) left = left
  or_logged-left lost (Err number) left = whole lost

  if-left : (lost bad : Bool) (s t : State) → Left lost s.memory.table → (bad ≡ false → Left lost t.memory.table) → Left lost (if bad then s else t).memory.table
  if-left lost true s t refused done = refused
  if-left lost false s t refused done = done refl

  put-left : (lost : Bool) (p address : ℕ) (x : Grant) → 0 < p → q ≢ p → (x.parent ≡ None) ⊎ (x.parent ≡ parent_of (entry_at m.memory.table p address)) → Left lost (with_entry m.memory.table p address x)
  put-left lost p address x p_above apart of =
      follows_same lost m.memory.table (with_entry m.memory.table p address x) g (entry_at (with_entry m.memory.table p address x) q b) (within_with_entry m.memory.table p address x of)
      (entry_at-set_other m.memory.table p q b _ p_above q_above apart ∙ has)

  -- what is narrowed keeps its parent
  narrowed : (right : Right) (o : Option Grant) → (record (unwrap_or o no_grant) { right = right }).parent ≡ parent_of o
  narrowed right None = refl
  narrowed right (Some x) = refl

  after_command-left : (c : Command) → q ≢ process_named c → LeavesAbove m.memory.table g.parent c → Left (removes_parent g.parent c) (after_command m k c).memory.table
  after_command-left (command.Grant p address page right give) apart leaves =
      let P = Left false in
      or_logged-left false (grant (lives m) m.memory p address page right give (1000 + k)) (
      if_unless P 12 (not (lives m p)) _ (λ alive.
      if_or_else P (not_page address) _ (
      if_or_else P (refused 16 (has_right (entry_at m.memory.table p address))) _ (
      if_or_else P (table_full m.memory p address) _ (
      if_or_else P (fifth_region m.memory p address) (Ok _) (
      put-left false p address _ (alive_above m p alive) apart (inl refl)))))))
  after_command-left (command.Narrow p address) apart leaves =
      let P = Left false in
      or_logged-left false (narrow (lives m) m.memory p address) (
      if_unless P 12 (not (lives m p)) _ (λ alive.
      if_or_else P (not_page address) _ (
      if_or_else P (no_right m.memory p address) (Ok _) (
      put-left false p address _ (alive_above m p alive) apart (inr (narrowed Read (entry_at m.memory.table p address)))))))
  after_command-left (command.Revoke p address) apart leaves =
      let P = Left false in
      let x = forbidden_by (1000 + k) in
      or_logged-left false (revoke (lives m) m.memory p address (1000 + k)) (
      if_unless P 12 (not (lives m p)) _ (λ alive.
      if_or_else P (not_page address) _ (
      if_or_else P (no_right m.memory p address) (Ok (forbidden m.memory p address (1000 + k))) (
      follows_same false m.memory.table (forbid_entry m.memory.table p address x) g (entry_at (forbid_entry m.memory.table p address x) q b) (within_forbid_entry m.memory.table p address x refl)
      (forbidden_same p q b (alive_above m p alive) q_above apart m.memory.table address x g
      (false_from_ne_true (comes_from m.memory.table p address (count_entries m.memory.table) g.parent) (λ is. leaves (record { steps = count_entries m.memory.table; comes = is }))) has)))))
  after_command-left (command.Drop p address) apart leaves =
      let lost = is_place p address g.parent in
      let P = Left lost in
      or_logged-left lost (drop_by_command (lives m) m.memory p address) (
      if_unless P 12 (not (lives m p)) _ (λ alive.
      if_or_else P (not_page address) _ (
      if_or_else P (no_entry m.memory p address) (Ok (removed m.memory p address)) (
      removed_follows p q b (alive_above m p alive) q_above apart m.memory.table address g has))))
  after_command-left (command.Resume p) apart leaves =
      if-left false (not (lives m p)) (refuse_command m k 12) (if not (is_parked (process_of m p).standing) then refuse_command m k 15 else made_ready m p) (whole false)
      (λ alive. if-left false (not (is_parked (process_of m p).standing)) (refuse_command m k 15) (made_ready m p) (whole false) (λ parked. whole false))
  after_command-left (command.Stop p) apart leaves =
      let lost = is_held_by p g.parent in
      if-left lost (not (lives m p)) (refuse_command m k 12) (ended m p) (whole lost)
      (λ alive. ended_follows p q b (alive_above m p alive) q_above apart (entries_of m.memory.table p) m.memory.table g has)

after_commands-left : (q b : ℕ) → 0 < q → (cs : List TimedCommand) (m : State) (g : Grant) → entry_at m.memory.table q b ≡ Some g → NoneNames q cs → AllLeaveAbove m.memory.table g.parent cs
    → Follows (list_any (λ c. removes_parent g.parent c.command) cs) m.memory.table (after_commands m cs).memory.table g (entry_at (after_commands m cs).memory.table q b)
after_commands-left q b q_above [] m g has none leave = whole m 0 q b q_above g has false
after_commands-left q b q_above (c ∷ rest) m g has none leave =
    let next = after_command m c.number c.command in
    let end = after_commands next rest in
    let first : Follows (removes_parent g.parent c.command) m.memory.table next.memory.table g (entry_at next.memory.table q b) = after_command-left m c.number q b q_above g has c.command none.0 leave.0 in
    let new = first.stays.new in
    follows_again (list_any (λ c. removes_parent g.parent c.command) (c ∷ rest)) (removes_parent g.parent c.command) (list_any (λ c. removes_parent new.parent c.command) rest)
    m.memory.table next.memory.table end.memory.table g (entry_at next.memory.table q b) (entry_at end.memory.table q b) first
    (after_commands-left q b q_above rest next new first.stays.is none.1 (all_leave_fewer m.memory.table next.memory.table g.parent new.parent first.line rest leave.1))
    (λ kept. (or_parts (removes_parent g.parent c.command) (list_any (λ c. removes_parent g.parent c.command) rest) kept).0)
    (λ kept same. ap (λ (h : Grant). list_any (λ c. removes_parent h.parent c.command) rest) same
    ∙ (or_parts (removes_parent g.parent c.command) (list_any (λ c. removes_parent g.parent c.command) rest) kept).1)

-- Where a process that no command names has no entry, it gets none.
module _ (m : State) (k q b : ℕ) (q_above : 0 < q) (none : entry_at m.memory.table q b ≡ None) where
  abbrev Bare : Table → Type 0
  Bare u = entry_at u q b ≡ None

  or_logged-none : (r : Result PageState ℕ) → IfDone Bare r → Bare (or_logged m k r).memory.table
  or_logged-none (Ok s) bare = bare
  or_logged-none (Err number) bare = none

  if-none : (bad : Bool) (s t : State) → Bare s.memory.table → (bad ≡ false → Bare t.memory.table) → Bare (if bad then s else t).memory.table
  if-none true s t refused done = refused
  if-none false s t refused done = done refl

  after_command-none : (c : Command) → q ≢ process_named c → Bare (after_command m k c).memory.table
  after_command-none (command.Grant p address page right give) apart =
      or_logged-none (grant (lives m) m.memory p address page right give (1000 + k)) (
      if_unless Bare 12 (not (lives m p)) _ (λ alive.
      if_or_else Bare (not_page address) _ (
      if_or_else Bare (refused 16 (has_right (entry_at m.memory.table p address))) _ (
      if_or_else Bare (table_full m.memory p address) _ (
      if_or_else Bare (fifth_region m.memory p address) (Ok _) (
      entry_at-set_other m.memory.table p q b _ (alive_above m p alive) q_above apart ∙ none))))))
  after_command-none (command.Narrow p address) apart =
      or_logged-none (narrow (lives m) m.memory p address) (
      if_unless Bare 12 (not (lives m p)) _ (λ alive.
      if_or_else Bare (not_page address) _ (
      if_or_else Bare (no_right m.memory p address) (Ok _) (
      entry_at-set_other m.memory.table p q b _ (alive_above m p alive) q_above apart ∙ none))))
  after_command-none (command.Revoke p address) apart =
      or_logged-none (revoke (lives m) m.memory p address (1000 + k)) (
      if_unless Bare 12 (not (lives m p)) _ (λ alive.
      if_or_else Bare (not_page address) _ (
      if_or_else Bare (no_right m.memory p address) (Ok (forbidden m.memory p address (1000 + k))) (
      forbidden_none p q b (alive_above m p alive) q_above apart m.memory.table address (forbidden_by (1000 + k)) none))))
  after_command-none (command.Drop p address) apart =
      or_logged-none (drop_by_command (lives m) m.memory p address) (
      if_unless Bare 12 (not (lives m p)) _ (λ alive.
      if_or_else Bare (not_page address) _ (
      if_or_else Bare (no_entry m.memory p address) (Ok (removed m.memory p address)) (
      removed_none p q b (alive_above m p alive) q_above apart m.memory.table address none))))
  after_command-none (command.Resume p) apart =
      if-none (not (lives m p)) (refuse_command m k 12) (if not (is_parked (process_of m p).standing) then refuse_command m k 15 else made_ready m p) none
      (λ alive. if-none (not (is_parked (process_of m p).standing)) (refuse_command m k 15) (made_ready m p) none (λ parked. none))
  after_command-none (command.Stop p) apart =
      if-none (not (lives m p)) (refuse_command m k 12) (ended m p) none
      (λ alive. ended_none p q b (alive_above m p alive) q_above apart (entries_of m.memory.table p) m.memory.table none)

after_commands-none : (q b : ℕ) → 0 < q → (cs : List TimedCommand) (m : State) → entry_at m.memory.table q b ≡ None → NoneNames q cs → entry_at (after_commands m cs).memory.table q b ≡ None
after_commands-none q b q_above [] m bare none = bare
after_commands-none q b q_above (c ∷ rest) m bare none =
    after_commands-none q b q_above rest (after_command m c.number c.command) (after_command-none m c.number q b q_above bare c.command none.0) none.1

-- the log, command by command
or_logged-log : (m : State) (k : ℕ) (r : Result PageState ℕ) → Extends m.log (or_logged m k r).log
or_logged-log m k (Ok s) = extends_itself m.log
or_logged-log m k (Err number) = record { more = _; is = refl }

if-log : (b : Bool) (m s t : State) → Extends m.log s.log → Extends m.log t.log → Extends m.log (if b then s else t).log
if-log true m s t a b = a
if-log false m s t a b = b

after_command-log : (m : State) (k : ℕ) (c : Command) → Extends m.log (after_command m k c).log
after_command-log m k (command.Grant p address page right give) = or_logged-log m k (grant (lives m) m.memory p address page right give (1000 + k))
after_command-log m k (command.Narrow p address) = or_logged-log m k (narrow (lives m) m.memory p address)
after_command-log m k (command.Revoke p address) = or_logged-log m k (revoke (lives m) m.memory p address (1000 + k))
after_command-log m k (command.Drop p address) = or_logged-log m k (drop_by_command (lives m) m.memory p address)
after_command-log m k (command.Resume p) =
    if-log (not (lives m p)) m (refuse_command m k 12) (if not (is_parked (process_of m p).standing) then refuse_command m k 15 else made_ready m p) (record { more = _; is = refl })
    (if-log (not (is_parked (process_of m p).standing)) m (refuse_command m k 15) (made_ready m p) (record { more = _; is = refl }) (extends_itself m.log))
after_command-log m k (command.Stop p) = if-log (not (lives m p)) m (refuse_command m k 12) (ended m p) (record { more = _; is = refl }) (extends_itself m.log)

after_commands-log : (m : State) (cs : List TimedCommand) → Extends m.log (after_commands m cs).log
after_commands-log m [] = extends_itself m.log
after_commands-log m (c ∷ rest) =
    let next = after_command m c.number c.command in
    extends_again m.log next.log (after_commands next rest).log (after_command-log m c.number c.command) (after_commands-log next rest)

-- Boundaries.

-- the state that a boundary's commands find
abbrev found_by : State → State
found_by m = record m {
  memory = expired m.memory m.time;
  commands = filter (λ c. not (nat_le c.time m.time)) m.commands;
  characters = filter (λ c. not (nat_le c.time m.time)) m.characters;
  owed = None;
}

-- but for its commands, and for rights that end, a boundary changes no memory, no time and no turn
boundary_after-same : (turn : Turn) (m : State) → SameState (after_commands (found_by m) (due m)) (boundary_after turn m)
boundary_after-same turn m =
    let served = after_commands (found_by m) (due m) in
    let typed = record served { queues = all_queued served.queues (take 64 (filter (λ c. nat_le c.time m.time) m.characters)) } in
    ends-same turn m served typed (record { memory = refl; log = refl; time = refl; owed = refl })

owed_boundary-time : (owed : Option Turn) (m : State) → (owed_boundary owed m).time ≡ m.time
owed_boundary-time None m = refl
owed_boundary-time (Some turn) m = (boundary_after-same turn m).time ∙ (after_commands-time (found_by m) (due m)).time

owed_boundary-log : (owed : Option Turn) (m : State) → Extends m.log (owed_boundary owed m).log
owed_boundary-log None m = extends_itself m.log
owed_boundary-log (Some turn) m = subst (Extends m.log) (sym (boundary_after-same turn m).log) (after_commands-log (found_by m) (due m))

owed_boundary-owed : (owed : Option Turn) (m : State) → m.owed ≡ owed → (owed_boundary owed m).owed ≡ None
owed_boundary-owed None m is = is
owed_boundary-owed (Some turn) m is = (boundary_after-same turn m).owed ∙ (after_commands-time (found_by m) (due m)).owed

owed_boundary-ended : (turn : Turn) (m : State) → due m ≡ [] → (boundary_after turn m).memory ≡ expired m.memory m.time
owed_boundary-ended turn m none = (boundary_after-same turn m).memory ∙ ap (λ cs. (after_commands (found_by m) cs).memory) none

owed_boundary-memory : (owed : Option Turn) (m : State) → due m ≡ [] → has_some_expired m.time m.memory.table ≡ false → (owed_boundary owed m).memory ≡ m.memory
owed_boundary-memory None m none on = refl
owed_boundary-memory (Some turn) m none on = owed_boundary-ended turn m none ∙ expired_same m.memory m.time on

-- an entry whose right has not ended is left as it was, and all that is above it in what is left was above it
found_by-leaves : (m : State) (q : ℕ) (e : Entry) → has_expired m.time e ≡ false → entry_at m.memory.table q e.address ≡ Some e.grant → entry_at (found_by m).memory.table q e.address ≡ Some e.grant
found_by-leaves m q e on has = ap (λ t. entry_at t q e.address) (table_of_expired m.memory m.time) ∙ expired_stays m.time m.memory.table q e.address e.grant has on

found_by-within : (m : State) → Within (found_by m).memory.table m.memory.table
found_by-within m = subst (λ t. Within t m.memory.table) (sym (table_of_expired m.memory m.time)) (within_expired m.time m.memory.table)

owed_boundary-left : (owed : Option Turn) (m : State) (q : ℕ) (e : Entry) → 0 < q → NoneNames q (due m) → NoneRevokesAbove m.memory.table e (due m) → has_expired m.time e ≡ false
    → entry_at m.memory.table q e.address ≡ Some e.grant
    → Stays (list_any (λ c. removes_parent e.grant.parent c.command) (due m)) e.grant (entry_at (owed_boundary owed m).memory.table q e.address)
owed_boundary-left None m q e q_above none leave on has = stays_same (list_any (λ c. removes_parent e.grant.parent c.command) (due m)) e.grant (entry_at m.memory.table q e.address) has
owed_boundary-left (Some turn) m q e q_above none leave on has =
    let parent = e.grant.parent in
    let fewer : AllLeaveAbove (found_by m).memory.table parent (due m) =
    all_leave_fewer m.memory.table (found_by m).memory.table parent parent (λ r c above. (found_by-within m).up r c parent above) (due m) (all_leave_told m.memory.table q e has (due m) leave) in
    subst (λ s. Stays (list_any (λ c. removes_parent e.grant.parent c.command) (due m)) e.grant (entry_at s.table q e.address)) (sym (boundary_after-same turn m).memory)
    (after_commands-left q e.address q_above (due m) (found_by m) e.grant (found_by-leaves m q e on has) none fewer).stays

owed_boundary-none : (owed : Option Turn) (m : State) (q b : ℕ) → 0 < q → NoneNames q (due m) → entry_at m.memory.table q b ≡ None → entry_at (owed_boundary owed m).memory.table q b ≡ None
owed_boundary-none None m q b q_above none bare = bare
owed_boundary-none (Some turn) m q b q_above none bare =
    let found : entry_at (found_by m).memory.table q b ≡ None = ap (λ t. entry_at t q b) (table_of_expired m.memory m.time) ∙ expired_none m.time m.memory.table q b bare in
    ap (λ s. entry_at s.table q b) (boundary_after-same turn m).memory ∙ after_commands-none q b q_above (due m) (found_by m) found none

-- a boundary takes no time
pub boundary_time : (m : State) → (boundary m).time ≡ m.time
unfolding boundary
boundary_time m = owed_boundary-time m.owed m

-- the log only grows
pub boundary_log : (m : State) → Extends m.log (boundary m).log
unfolding boundary
boundary_log m = owed_boundary-log m.owed m

-- and none is owed after it
pub boundary_owed : (m : State) → (boundary m).owed ≡ None
unfolding boundary
boundary_owed m = owed_boundary-owed m.owed m refl

-- where no command is due and no right has ended, it changes no page and no entry
pub boundary_memory : (m : State) → due m ≡ [] → has_some_expired m.time m.memory.table ≡ false → (boundary m).memory ≡ m.memory
unfolding boundary
boundary_memory m none on = owed_boundary-memory m.owed m none on

-- where no command is due, a right that has ended leaves its rule
pub boundary_ends : (m : State) (turn : Turn) (q address : ℕ) (g : Grant) → m.owed ≡ Some turn → due m ≡ [] → entry_at m.memory.table q address ≡ Some g → has_expired m.time (record { address = address; grant = g }) ≡ true
    → entry_at (boundary m).memory.table q address ≡ Some (forbidden_by g.rule)
unfolding boundary
boundary_ends m turn q address g owed none has over =
    ap (λ o. entry_at (owed_boundary o m).memory.table q address) owed
    ∙ (ap (λ s. entry_at s.table q address) (owed_boundary-ended turn m none)
    ∙ (ap (λ t. entry_at t q address) (table_of_expired m.memory m.time) ∙ expired_ends m.time m.memory.table q address g has over))

-- a process that no due command names keeps an entry whose right has not ended but for its parent, where none revokes one above it
pub boundary_entry : (m : State) (q : ℕ) (e : Entry) → 0 < q → NoneNames q (due m) → NoneRevokesAbove m.memory.table e (due m) → has_expired m.time e ≡ false → entry_at m.memory.table q e.address ≡ Some e.grant
    → KeepsAllButParent (Some e.grant) (entry_at (boundary m).memory.table q e.address)
unfolding boundary
boundary_entry m q e q_above none leave on has = let left = owed_boundary-left m.owed m q e q_above none leave on has in ap but_parent left.is ∙ left.but_parent

-- and with its parent, where none removes that
pub boundary_parent : (m : State) (q : ℕ) (e : Entry) → 0 < q → NoneNames q (due m) → NoneRevokesAbove m.memory.table e (due m) → NoneRemovesParent e.grant.parent (due m) → has_expired m.time e ≡ false
    → entry_at m.memory.table q e.address ≡ Some e.grant → entry_at (boundary m).memory.table q e.address ≡ Some e.grant
unfolding boundary
boundary_parent m q e q_above none leave kept on has = let left = owed_boundary-left m.owed m q e q_above none leave on has in left.is ∙ ap Some (left.same kept)

-- and gets none
pub boundary_none : (m : State) (q address : ℕ) → 0 < q → NoneNames q (due m) → entry_at m.memory.table q address ≡ None → entry_at (boundary m).memory.table q address ≡ None
unfolding boundary
boundary_none m q address q_above none bare = owed_boundary-none m.owed m q address q_above none bare
