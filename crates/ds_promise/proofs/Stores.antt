-- Only a granted store changes a page.
use Rattle.std.proofs.Common.{◌≡◌, ℕ, zero, suc, ◌+◌, ◌%◌, Bool, true, false, cond, not, List, [], ◌∷◌, filter, take, length, Option, Some, None, Result, Ok, Err, ◌⊎◌, inl, inr, refl, sym, ap, ◌∙◌, subst, arith}
use Rattle.std.specs.Prelude.{◌==◌, ◌||◌, nat_lt, nat_le, is_some, unwrap_or, slice_set}
use Rattle.ds_word.specs.Word.{word}
use Rattle.ds_word.specs.Bytes.{word_at, with_word}
use Rattle.ds_isa.specs.declared.instr.Kind.TheVariants.{Fetch, Load, Store}
use Rattle.ds_isa.specs.declared.instr.Size.{Size}
use Rattle.ds_isa.specs.declared.instr.Size.TheVariants.{Word}
use Rattle.ds_isa.specs.Registers.{Registers, settled}
use Rattle.ds_isa.specs.Instruction.{instruction_of}
use Rattle.ds_isa.specs.Meaning.{Effect, Goes, Branches, Loads, Stores, Faults, Calls, Privileged, meaning}
use Rattle.ds_procs.specs.declared.call.Call.{Call}
use Rattle.ds_procs.specs.declared.call.Call.TheVariants as call
use Rattle.ds_procs.specs.Calls.{call_of}
use Rattle.ds_policy.specs.declared.access.Verdict.{Verdict}
use Rattle.ds_policy.specs.declared.access.Verdict.TheVariants.{Allowed, Denied}
use Rattle.ds_policy.specs.declared.command.Command.{Command}
use Rattle.ds_policy.specs.declared.command.Command.TheVariants as command
use Rattle.ds_policy.specs.declared.command.TimedCommand.{TimedCommand}
use Rattle.ds_policy.specs.declared.grant.Right.TheVariants.{Read, Write}
use Rattle.ds_policy.specs.Pages.{Pages, Table, decide, bytes_of, fresh, kept, is_named_by, entry_at}
use Rattle.ds_policy.specs.Ends.{has_some_expired, expired_table, expired}
use Rattle.ds_policy.specs.Grants.{PageState, ◌or_else◌, refused, not_page, no_right, no_entry, has_right, table_full, fifth_region, no_frames, may_not_give, no_grant, granted, shared_from, copied, given, give, take as take_back, drop_own, grant, narrow, revoke, drop_by_command, live_only}
use Rattle.ds_pagemap.specs.declared.turn.Turn.{Turn}
use Rattle.ds_pagemap.specs.Machine.{State, first, process_of, is_parked, lives, made_ready, touch_first, touched}
use Rattle.ds_pagemap.specs.Calls.{served, answered, or_number, or_denied, after_get, after_wait, queue_of, after_command, or_logged, refuse_command, ended}
use Rattle.ds_pagemap.specs.Unit.{Outcome, Went, Branched, Called, Stopped, where_allowed, with_registers, stored, done, instruction, settle, at_pc, after_slot, after_instruction, unit_of_first, unit}
use Rattle.ds_pagemap.specs.Boundary.{after_commands, all_queued, wakes, woken, has_passed, is_first, rotated, boundary_after, boundary, owed_boundary}
use Rattle.ds_pagemap.specs.Run.{half_turn, goes_on, after}
use Rattle.ds_pagemap.specs.Laws.{due}
use Rattle.ds_pagemap.proofs.Units.{Leaves, leaves_instruction}
use Rattle.ds_promise.specs.Stores.{live_page, Holds, Fetches, Stored, StoredInSlot, UnitStores, OnlyStores, OnlyStoresAlong}
use Rattle.ds_promise.proofs.Granted.{allowed_holds, allowed_offset}

-- Lists of pages.

-- a page after a change is the one that was put, or as it was
pub set_cases : (ps : Pages) (i page : ℕ) (x : Option (List ℕ)) (new : List ℕ) → live_page (slice_set ps i x) page ≡ Some new → (live_page ps page ≡ Some new) ⊎ ((page ≡ i) × (x ≡ Some new))
set_cases [] i page x new e = inl e
set_cases (b ∷ ps) zero zero x new e = inr (refl, e)
set_cases (b ∷ ps) zero (suc page) x new e = inl e
set_cases (b ∷ ps) (suc i) zero x new e = inl e
set_cases (b ∷ ps) (suc i) (suc page) x new e = elim (set_cases ps i page x new e) [
  | inl same ↦ inl same
  | inr put ↦ inr (ap suc put.0, put.1)
]

pub none_is_not_some : {X : Type 0} (bs : List ℕ) → ◌≡◌ {A = Option (List ℕ)} None (Some bs) → X
none_is_not_some bs e = absurd (no bs e)
  where
    no : (bs : List ℕ) → ◌≡◌ {A = Option (List ℕ)} None (Some bs) → ⊥
    no bs e = cc

-- a page that lives, put anew
pub set_lives : (ps : Pages) (i : ℕ) (old : List ℕ) (x : Option (List ℕ)) → live_page ps i ≡ Some old → live_page (slice_set ps i x) i ≡ x
set_lives [] i old x e = none_is_not_some old e
set_lives (b ∷ ps) zero old x e = refl
set_lives (b ∷ ps) (suc i) old x e = set_lives ps i old x e

-- no page lives under the least number that no live page has
pub fresh_is_free : (ps : Pages) → live_page ps (fresh ps) ≡ None
fresh_is_free [] = refl
fresh_is_free (None ∷ ps) = refl
fresh_is_free (Some b ∷ ps) = subst (λ (i : ℕ). live_page (Some b ∷ ps) i ≡ None) (one_more (fresh ps)) (fresh_is_free ps)
  where
    one_more : (n : ℕ) → suc n ≡ n + 1
    one_more n = omega arith

cond_kept : (b : Bool) (x : Option (List ℕ)) (new : List ℕ) → cond b x None ≡ Some new → x ≡ Some new
cond_kept true x new e = e
cond_kept false x new e = none_is_not_some new e

-- what is kept was there
pub kept_was : (ps : Pages) (table : Table) (named at page : ℕ) (new : List ℕ) → live_page (kept ps table named at) page ≡ Some new → live_page ps page ≡ Some new
kept_was [] table named at page new e = e
kept_was (b ∷ ps) table named at zero new e = cond_kept (nat_lt at named || is_named_by table at) b new e
kept_was (b ∷ ps) table named at (suc page) new e = kept_was ps table named (at + 1) page new e

-- the bytes of a page that lives
pub bytes_of_lives : (ps : Pages) (page : ℕ) (old : List ℕ) → live_page ps page ≡ Some old → bytes_of ps page ≡ old
bytes_of_lives [] page old e = none_is_not_some old e
bytes_of_lives (None ∷ ps) zero old e = none_is_not_some old e
bytes_of_lives (Some b ∷ ps) zero old e = some b old e
  where
    some : (b old : List ℕ) → ◌≡◌ {A = Option (List ℕ)} (Some b) (Some old) → b ≡ old
    some b old e = cc
bytes_of_lives (b ∷ ps) (suc page) old e = bytes_of_lives ps page old e

pub one_page : (ps : Pages) (page : ℕ) (old new : List ℕ) → live_page ps page ≡ Some old → live_page ps page ≡ Some new → new ≡ old
one_page ps page old new e f = sym (bytes_of_lives ps page new f) ∙ bytes_of_lives ps page old e

-- Changes of the table.

-- each page that lives after it lived before, with the same bytes
abbrev pub Shrinks : Pages → Pages → Type 0
Shrinks ps qs = (page : ℕ) (new : List ℕ) → live_page qs page ≡ Some new → live_page ps page ≡ Some new

-- or did not live before
abbrev KeepsOrComes : Pages → Pages → Type 0
KeepsOrComes ps qs = (page : ℕ) (new : List ℕ) → live_page qs page ≡ Some new → (live_page ps page ≡ Some new) ⊎ (live_page ps page ≡ None)

same_pages : (ps : Pages) → Shrinks ps ps
same_pages ps page new e = e

same_or_come : (ps qs : Pages) → Shrinks ps qs → KeepsOrComes ps qs
same_or_come ps qs h page new e = inl (h page new e)

module _ (Q : Pages → Type 0) where
  abbrev IfDone : Result PageState ℕ → Type 0
  IfDone (Ok s) = Q s.pages
  IfDone (Err number) = Unit {0}

  done_or_else : (o : Option ℕ) (r : Result PageState ℕ) → IfDone r → IfDone (o or_else r)
  done_or_else None r k = k
  done_or_else (Some number) r k = tt

  if_pages : (b : Bool) (s t : PageState) → Q s.pages → Q t.pages → Q (cond b s t).pages
  if_pages true s t k l = k
  if_pages false s t k l = l

copy_comes : (s : PageState) (x : Option (List ℕ)) → KeepsOrComes s.pages (slice_set s.pages (fresh s.pages) x)
copy_comes s x page new e = elim (set_cases s.pages (fresh s.pages) page x new e) [
  | inl same ↦ inl same
  | inr put ↦ inr (ap (live_page s.pages) put.0 ∙ fresh_is_free s.pages)
]

give_comes : (alive : ℕ → Bool) (s : PageState) (caller address receiver to mode : ℕ) → IfDone (KeepsOrComes s.pages) (give alive s caller address receiver to mode)
give_comes alive s caller address receiver to mode =
    let Q = KeepsOrComes s.pages in
    let g = unwrap_or (entry_at s.table caller address) no_grant in
    let copy = granted (copied s g.page) receiver to (record g { right = Write; page = Some (fresh s.pages); giver = caller; parent = None; until = None }) in
    let keep = same_or_come s.pages s.pages (same_pages s.pages) in
    done_or_else Q (refused 12 (not (alive receiver))) _ (
    done_or_else Q (not_page address) _ (
    done_or_else Q (not_page to) _ (
    done_or_else Q (no_right s caller address) _ (
    done_or_else Q (refused 15 (may_not_give g mode)) _ (
    done_or_else Q (refused 16 (is_some (entry_at s.table receiver to))) _ (
    done_or_else Q (table_full s receiver to) _ (
    done_or_else Q (fifth_region s receiver to) _ (
    done_or_else Q (no_frames s mode) (Ok (given s caller address g receiver to mode)) (
    if_pages Q (mode == 1) (granted s receiver to (shared_from caller address g Read)) (cond (mode == 2) (granted s receiver to (shared_from caller address g Write)) copy) keep
    (if_pages Q (mode == 2) (granted s receiver to (shared_from caller address g Write)) copy keep
    (copy_comes s (Some (bytes_of s.pages (unwrap_or g.page 0))))))))))))))

take_shrinks : (alive : ℕ → Bool) (s : PageState) (caller p address : ℕ) → IfDone (Shrinks s.pages) (take_back alive s caller p address)
take_shrinks alive s caller p address =
    let Q = Shrinks s.pages in
    done_or_else Q (refused 12 (not (alive p))) _ (
    done_or_else Q (not_page address) _ (
    done_or_else Q (no_right s p address) _ (
    done_or_else Q (refused 19 (not ((unwrap_or (entry_at s.table p address) no_grant).giver == caller))) (Ok _) (kept_was s.pages _ s.named 0))))

drop_shrinks : (s : PageState) (caller address : ℕ) → IfDone (Shrinks s.pages) (drop_own s caller address)
drop_shrinks s caller address =
    let Q = Shrinks s.pages in
    done_or_else Q (not_page address) _ (done_or_else Q (no_right s caller address) (Ok _) (kept_was s.pages _ s.named 0))

-- Calls.

number_pages : (Q : Pages → Type 0) (m : State) (p : ℕ) (r : Result PageState ℕ) → Q m.memory.pages → IfDone Q r → Q (or_number m p r).memory.pages
number_pages Q m p (Ok s) has k = k
number_pages Q m p (Err number) has k = has

denied_pages : (Q : Pages → Type 0) (m : State) (p pc address : ℕ) (r : Result PageState ℕ) → Q m.memory.pages → IfDone Q r → Q (or_denied m p pc address r).memory.pages
denied_pages Q m p pc address (Ok s) has k = k
denied_pages Q m p pc address (Err number) has k = has

get_pages : (Q : Pages → Type 0) (m : State) (p : ℕ) (queue : List ℕ) → Q m.memory.pages → Q (after_get m p queue).memory.pages
get_pages Q m p [] has = has
get_pages Q m p (b ∷ rest) has = has

wait_pages : (Q : Pages → Type 0) (m : State) (p : ℕ) (queue : List ℕ) → Q m.memory.pages → Q (after_wait m p queue).memory.pages
wait_pages Q m p [] has = has
wait_pages Q m p (b ∷ rest) has = has

-- a call that gives nothing
abbrev pub IsNoGive : Call → Type 0
IsNoGive (call.Give address receiver to mode) = ⊥
IsNoGive other = Unit {0}

pub served_shrinks : (m : State) (p pc : ℕ) (c : Call) → IsNoGive c → Shrinks m.memory.pages (served m p pc c).memory.pages
served_shrinks m p pc call.Exit u = kept_was m.memory.pages _ m.memory.named 0
served_shrinks m p pc (call.Put byte) u = same_pages m.memory.pages
served_shrinks m p pc call.Get u = get_pages (Shrinks m.memory.pages) m p (queue_of m p) (same_pages m.memory.pages)
served_shrinks m p pc call.Yield u = same_pages m.memory.pages
served_shrinks m p pc call.Time u = same_pages m.memory.pages
served_shrinks m p pc call.Own u = same_pages m.memory.pages
served_shrinks m p pc (call.Give address receiver to mode) u = absurd u
served_shrinks m p pc (call.Take process address) u = number_pages (Shrinks m.memory.pages) m p (take_back (lives m) m.memory p process address) (same_pages m.memory.pages) (take_shrinks (lives m) m.memory p process address)
served_shrinks m p pc (call.Drop address) u = number_pages (Shrinks m.memory.pages) m p (drop_own m.memory p address) (same_pages m.memory.pages) (drop_shrinks m.memory p address)
served_shrinks m p pc call.Wait u = wait_pages (Shrinks m.memory.pages) (answered m p 0) p (queue_of m p) (same_pages m.memory.pages)
served_shrinks m p pc call.Unknown u = same_pages m.memory.pages

-- a give, and what it asks for
pub record IsGive (c : Call) : Type 0 where
  pub address : ℕ
  pub receiver : ℕ
  pub to : ℕ
  pub mode : ℕ
  pub is : c ≡ call.Give address receiver to mode

pub give_or_not : (c : Call) → IsNoGive c ⊎ IsGive c
give_or_not call.Exit = inl tt
give_or_not (call.Put byte) = inl tt
give_or_not call.Get = inl tt
give_or_not call.Yield = inl tt
give_or_not call.Time = inl tt
give_or_not call.Own = inl tt
give_or_not (call.Give address receiver to mode) = inr (record { address = address; receiver = receiver; to = to; mode = mode; is = refl })
give_or_not (call.Take process address) = inl tt
give_or_not (call.Drop address) = inl tt
give_or_not call.Wait = inl tt
give_or_not call.Unknown = inl tt

served_pages : (m : State) (p pc : ℕ) (c : Call) → KeepsOrComes m.memory.pages (served m p pc c).memory.pages
served_pages m p pc c = elim (give_or_not c) [
  | inl none ↦ same_or_come m.memory.pages _ (served_shrinks m p pc c none)
  | inr g ↦ subst (λ (x : Call). KeepsOrComes m.memory.pages (served m p pc x).memory.pages) (sym g.is)
      (denied_pages (KeepsOrComes m.memory.pages) m p pc g.address (give (lives m) m.memory p g.address g.receiver g.to g.mode) (same_or_come m.memory.pages _ (same_pages m.memory.pages)) (give_comes (lives m) m.memory p g.address g.receiver g.to g.mode))
]

-- Commands.

logged_pages : (Q : Pages → Type 0) (m : State) (k : ℕ) (r : Result PageState ℕ) → Q m.memory.pages → IfDone Q r → Q (or_logged m k r).memory.pages
logged_pages Q m k (Ok s) has d = d
logged_pages Q m k (Err number) has d = has

if_state : (Q : Pages → Type 0) (b : Bool) (s t : State) → Q s.memory.pages → Q t.memory.pages → Q (cond b s t).memory.pages
if_state Q true s t k l = k
if_state Q false s t k l = l

command_pages : (m : State) (k : ℕ) (c : Command) → Shrinks m.memory.pages (after_command m k c).memory.pages
command_pages m k (command.Grant p address page right give) =
    let s = m.memory in let Q = Shrinks s.pages in
    logged_pages Q m k (grant (lives m) s p address page right give (1000 + k)) (same_pages s.pages) (
    done_or_else Q (refused 12 (not (lives m p))) _ (
    done_or_else Q (not_page address) _ (
    done_or_else Q (refused 16 (has_right (entry_at s.table p address))) _ (
    done_or_else Q (table_full s p address) _ (
    done_or_else Q (fifth_region s p address) (Ok _) (same_pages s.pages))))))
command_pages m k (command.Narrow p address) =
    let s = m.memory in let Q = Shrinks s.pages in
    logged_pages Q m k (narrow (lives m) s p address) (same_pages s.pages) (
    done_or_else Q (refused 12 (not (lives m p))) _ (
    done_or_else Q (not_page address) _ (
    done_or_else Q (no_right s p address) (Ok _) (same_pages s.pages))))
command_pages m k (command.Revoke p address) =
    let s = m.memory in let Q = Shrinks s.pages in
    logged_pages Q m k (revoke (lives m) s p address (1000 + k)) (same_pages s.pages) (
    done_or_else Q (refused 12 (not (lives m p))) _ (
    done_or_else Q (not_page address) _ (
    done_or_else Q (no_right s p address) (Ok _) (kept_was s.pages _ s.named 0))))
command_pages m k (command.Drop p address) =
    let s = m.memory in let Q = Shrinks s.pages in
    logged_pages Q m k (drop_by_command (lives m) s p address) (same_pages s.pages) (
    done_or_else Q (refused 12 (not (lives m p))) _ (
    done_or_else Q (not_page address) _ (
    done_or_else Q (no_entry s p address) (Ok _) (kept_was s.pages _ s.named 0))))
command_pages m k (command.Resume p) =
    let Q = Shrinks m.memory.pages in
    if_state Q (not (lives m p)) (refuse_command m k 12) (cond (not (is_parked (process_of m p).standing)) (refuse_command m k 15) (made_ready m p)) (same_pages m.memory.pages)
    (if_state Q (not (is_parked (process_of m p).standing)) (refuse_command m k 15) (made_ready m p) (same_pages m.memory.pages) (same_pages m.memory.pages))
command_pages m k (command.Stop p) =
    if_state (Shrinks m.memory.pages) (not (lives m p)) (refuse_command m k 12) (ended m p) (same_pages m.memory.pages) (kept_was m.memory.pages _ m.memory.named 0)

commands_pages : (m : State) (cs : List TimedCommand) → Shrinks m.memory.pages (after_commands m cs).memory.pages
commands_pages m [] = same_pages m.memory.pages
commands_pages m (c ∷ rest) = λ page new e. command_pages m c.number c.command page new (commands_pages (after_command m c.number c.command) rest page new e)

-- Boundaries.

woken_memory : (m : State) (p n : ℕ) → (woken m p n).memory ≡ m.memory
woken_memory m p zero = refl
woken_memory m p (suc n) = woken_memory (cond (wakes m p) (made_ready m p) m) (p + 1) n ∙ waking (wakes m p) m p
  where
    waking : (b : Bool) (m : State) (p : ℕ) → (cond b (made_ready m p) m).memory ≡ m.memory
    waking true m p = refl
    waking false m p = refl

rotated_memory : (m : State) (runner : Option ℕ) → (rotated m runner).memory ≡ m.memory
rotated_memory m None = refl
rotated_memory m (Some p) = going (is_first (first m.ready) p) m p
  where
    going : (b : Bool) (m : State) (p : ℕ) → (cond b (made_ready m p) m).memory ≡ m.memory
    going true m p = refl
    going false m p = refl

-- the state that a boundary's commands find
abbrev pub found_by : State → State
found_by m = record m {
  memory = expired m.memory m.time;
  commands = filter (λ c. not (nat_le c.time m.time)) m.commands;
  characters = filter (λ c. not (nat_le c.time m.time)) m.characters;
  owed = None;
}

pub boundary_after_memory : (turn : Turn) (m : State) → (boundary_after turn m).memory ≡ (after_commands (found_by m) (due m)).memory
boundary_after_memory turn m =
    let served = after_commands (found_by m) (due m) in
    let typed = record served { queues = all_queued served.queues (take 64 (filter (λ c. nat_le c.time m.time) m.characters)) } in
    let awake = woken typed 1 (length typed.processes) in
    ending (has_passed m.rate turn.began m.time) awake turn.runner ∙ woken_memory typed 1 (length typed.processes)
  where
    ending : (b : Bool) (m : State) (runner : Option ℕ) → (cond b (rotated m runner) m).memory ≡ m.memory
    ending true m runner = rotated_memory m runner
    ending false m runner = refl

expired_pages : (s : PageState) (time : ℕ) → Shrinks s.pages (expired s time).pages
expired_pages s time =
    if_pages (Shrinks s.pages) (has_some_expired time s.table) (live_only (record s { table = expired_table time s.table })) s
    (kept_was s.pages (expired_table time s.table) s.named 0) (same_pages s.pages)

owed_boundary_pages : (owed : Option Turn) (m : State) → Shrinks m.memory.pages (owed_boundary owed m).memory.pages
owed_boundary_pages None m = same_pages m.memory.pages
owed_boundary_pages (Some turn) m = subst (λ (s : PageState). Shrinks m.memory.pages s.pages) (sym (boundary_after_memory turn m))
    (λ page new e. expired_pages m.memory m.time page new (commands_pages (found_by m) (due m) page new e))

pub boundary_pages : (m : State) → Shrinks m.memory.pages (boundary m).memory.pages
unfolding boundary
boundary_pages m = owed_boundary_pages m.owed m

-- Instructions.

-- a page that lives before and after is the same, or stored to by the instruction at pc
abbrev Changes : State → ℕ → ℕ → Pages → Type 0
Changes m p pc qs = (page : ℕ) (old new : List ℕ) → live_page m.memory.pages page ≡ Some old → live_page qs page ≡ Some new → (new ≡ old) ⊎ Stored m p pc page old new

abbrev OutcomeChanges : State → ℕ → ℕ → Outcome → Type 0
OutcomeChanges m p pc (Went t) = Changes m p pc t.memory.pages
OutcomeChanges m p pc (Branched t target) = Unit {0}
OutcomeChanges m p pc Called = Unit {0}
OutcomeChanges m p pc (Stopped stop) = Unit {0}

no_change : (m : State) (p pc : ℕ) → Changes m p pc m.memory.pages
no_change m p pc page old new e f = inl (one_page m.memory.pages page old new e f)

-- a store where the verdict allows it
stores_change : (m : State) (p pc : ℕ) (size : Size) (address : ℕ) (value : ℕ → ℕ) (at offset : ℕ) → Fetches m p pc (Stores size address value) → decide m.memory.table p Store size address ≡ Allowed at offset
    → Changes m p pc (stored (with_registers m p (settled (process_of m p).registers)) at offset value).memory.pages
stores_change m p pc size address value at offset asks allowed page old new e f =
    let bytes = bytes_of m.memory.pages at in
    let place : offset ≡ address % 4096 = allowed_offset m.memory.table p Store size address at offset allowed in
    elim (set_cases m.memory.pages at page (Some (with_word bytes offset (value (word_at bytes offset)))) new f) [
      | inl same ↦ inl (one_page m.memory.pages page old new e same)
      | inr put ↦ inr (
          let holds = allowed_holds m.memory.table p Store size address at offset allowed in
          record {
            size = size;
            address = address;
            value = value;
            fetches = asks;
            allowed = subst (λ (o : ℕ). decide m.memory.table p Store size address ≡ Allowed page o) place (subst (λ (i : ℕ). decide m.memory.table p Store size address ≡ Allowed i offset) (sym put.0) allowed);
            granted = subst (Holds m.memory.table p Store address) (sym put.0) holds;
            word = told bytes old new offset (address % 4096) value place (bytes_of_lives m.memory.pages at old (subst (λ (i : ℕ). live_page m.memory.pages i ≡ Some old) put.0 e)) put.1;
          })
    ]
  where
    some : (a b : List ℕ) → ◌≡◌ {A = Option (List ℕ)} (Some a) (Some b) → b ≡ a
    some a b e = cc

    told : (bytes old new : List ℕ) (offset place : ℕ) (value : ℕ → ℕ) → offset ≡ place → bytes ≡ old → ◌≡◌ {A = Option (List ℕ)} (Some (with_word bytes offset (value (word_at bytes offset)))) (Some new) → new ≡ with_word old place (value (word_at old place))
    told bytes old new offset place value at is e = some _ new e ∙ (ap (λ (o : ℕ). with_word bytes o (value (word_at bytes o))) at ∙ ap (λ (bs : List ℕ). with_word bs place (value (word_at bs place))) is)

stores_by : (m : State) (p pc : ℕ) (size : Size) (address : ℕ) (value : ℕ → ℕ) (v : Verdict) → Fetches m p pc (Stores size address value) → decide m.memory.table p Store size address ≡ v
    → OutcomeChanges m p pc (where_allowed v Store address (λ page offset. Went (stored (with_registers m p (settled (process_of m p).registers)) page offset value)))
stores_by m p pc size address value (Allowed page offset) asks is = stores_change m p pc size address value page offset asks is
stores_by m p pc size address value (Denied rule code) asks is = tt

loads_by : (m : State) (p pc address : ℕ) (after : ℕ → Registers) (v : Verdict) → OutcomeChanges m p pc (where_allowed v Load address (λ page offset. Went (with_registers m p (after (word_at (bytes_of m.memory.pages page) offset)))))
loads_by m p pc address after (Allowed page offset) = no_change m p pc
loads_by m p pc address after (Denied rule code) = tt

done_changes : (m : State) (p pc : ℕ) (e : Effect) → Fetches m p pc e → OutcomeChanges m p pc (done m p pc e)
done_changes m p pc (Goes r) asks = no_change m p pc
done_changes m p pc (Branches r target) asks = tt
done_changes m p pc (Loads size address after) asks = loads_by m p pc address after (decide m.memory.table p Load size address)
done_changes m p pc (Stores size address value) asks = stores_by m p pc size address value (decide m.memory.table p Store size address) asks refl
done_changes m p pc (Faults code) asks = tt
done_changes m p pc Calls asks = tt
done_changes m p pc Privileged asks = tt

fetched_by : (m : State) (p pc : ℕ) (v : Verdict) → decide m.memory.table p Fetch Word pc ≡ v
    → OutcomeChanges m p pc (where_allowed v Fetch pc (λ page offset. done m p pc (meaning (instruction_of (word_at (bytes_of m.memory.pages page) offset)) pc (process_of m p).registers)))
fetched_by m p pc (Allowed page offset) is = done_changes m p pc _ (record { page = page; offset = offset; fetched = is; does = refl })
fetched_by m p pc (Denied rule code) is = tt

instruction_changes : (m : State) (p pc : ℕ) → OutcomeChanges m p pc (instruction m p pc)
unfolding instruction
instruction_changes m p pc = fetched_by m p pc (decide m.memory.table p Fetch Word pc) refl

-- Units.

abbrev UnitChanges : State → ℕ → ℕ → Pages → Type 0
UnitChanges m p pc qs = (page : ℕ) (old new : List ℕ) → live_page m.memory.pages page ≡ Some old → live_page qs page ≡ Some new → (new ≡ old) ⊎ (Stored m p pc page old new ⊎ StoredInSlot m p pc page old new)

slot_changes : (m : State) (p a pc target : ℕ) (o : Outcome) → OutcomeChanges m p pc o → Leaves m o → Changes m p pc (after_slot m p a pc target o).memory.pages
slot_changes m p a pc target (Went t) k l = k
slot_changes m p a pc target (Branched t next) k l = no_change m p pc
slot_changes m p a pc target Called k l = no_change m p pc
slot_changes m p a pc target (Stopped stop) k l = no_change m p pc

from_call : (m : State) (p pc : ℕ) (qs : Pages) → KeepsOrComes m.memory.pages qs → UnitChanges m p pc qs
from_call m p pc qs h page old new e f = elim (h page new f) [
  | inl same ↦ inl (one_page m.memory.pages page old new e same)
  | inr gone ↦ none_is_not_some old (sym gone ∙ e)
]

pub unit_changes : (m : State) (p pc : ℕ) (o : Outcome) → instruction m p pc ≡ o → OutcomeChanges m p pc o → Leaves m o → UnitChanges m p pc (after_instruction m p pc o).memory.pages
unit_changes m p pc (Went t) is k l = λ page old new e f. elim (k page old new e f) [
  | inl same ↦ inl same
  | inr s ↦ inr (inl s)
]
unit_changes m p pc (Branched t target) is k l = λ page old new e f.
    let slot = word (pc + 4) in
    elim (slot_changes t p pc slot target (instruction t p slot) (instruction_changes t p slot) (leaves_instruction t p slot) page old new (ap (λ (s : PageState). live_page s.pages page) l.1 ∙ e) f) [
      | inl same ↦ inl same
      | inr s ↦ inr (inr (record { between = t; target = target; branched = is; memory = l.1; stored = s }))
    ]
unit_changes m p pc Called is k l =
    let next = at_pc (settle m p) p (word (pc + 4)) in
    from_call m p pc _ (served_pages next p pc (call_of (process_of next p).registers.general))
unit_changes m p pc (Stopped stop) is k l = λ page old new e f. inl (one_page m.memory.pages page old new e f)

first_changes : (m : State) (ready : List ℕ) → m.ready ≡ ready → m.owed ≡ None → (page : ℕ) (old new : List ℕ) → live_page m.memory.pages page ≡ Some old → live_page (unit_of_first m ready).memory.pages page ≡ Some new → (new ≡ old) ⊎ UnitStores m page old new
first_changes m [] is none page old new e f = inl (one_page m.memory.pages page old new e f)
first_changes m (p ∷ rest) is none page old new e f =
    let pc = (process_of m p).pc in
    elim (unit_changes m p pc (instruction m p pc) refl (instruction_changes m p pc) (leaves_instruction m p pc) page old new e f) [
      | inl same ↦ inl same
      | inr s ↦ inr (record { process = p; others = rest; no_boundary = none; runs = is; stored = s })
    ]

unit_only_stores : (m : State) → m.owed ≡ None → OnlyStores m (unit m)
unfolding unit
unit_only_stores m none = first_changes m m.ready refl none

boundary_only_stores : (m : State) → OnlyStores m (boundary m)
boundary_only_stores m page old new e f = inl (one_page m.memory.pages page old new e (boundary_pages m page new f))

-- Half turns and runs.

pub touched_memory : (b : Bool) (m : State) → (touched b m).memory ≡ m.memory
touched_memory true m = of_first m m.ready
  where
    of_first : (m : State) (ready : List ℕ) → (touch_first m ready).memory ≡ m.memory
    of_first m [] = refl
    of_first m (p ∷ rest) = refl
touched_memory false m = refl

pub touched_owed : (b : Bool) (m : State) → (touched b m).owed ≡ m.owed
touched_owed true m = of_first m m.ready
  where
    of_first : (m : State) (ready : List ℕ) → (touch_first m ready).owed ≡ m.owed
    of_first m [] = refl
    of_first m (p ∷ rest) = refl
touched_owed false m = refl

half_by : (owed : Option Turn) (m : State) → m.owed ≡ owed → OnlyStores m (cond (is_some owed) (boundary m) (unit m))
half_by None m is = unit_only_stores m is
half_by (Some turn) m is = boundary_only_stores m

pub half_only_stores : (b : Bool) (m : State) → OnlyStores (touched b m) (half_turn b m)
unfolding half_turn
half_only_stores b m = half_by m.owed (touched b m) (touched_owed b m)

go_by : (on b : Bool) (m : State) → OnlyStores (touched b m) (cond on (half_turn b m) m)
go_by true b m = half_only_stores b m
go_by false b m = λ page old new e f. inl (one_page m.memory.pages page old new (ap (λ (s : PageState). live_page s.pages page) (sym (touched_memory b m)) ∙ e) f)

pub along_only_stores : (n : ℕ) (choices : List Bool) (m : State) → OnlyStoresAlong n choices m
unfolding after
along_only_stores n [] m = tt
along_only_stores n (touch ∷ earlier) m = (go_by (goes_on n (after n earlier m)) touch (after n earlier m), along_only_stores n earlier m)
