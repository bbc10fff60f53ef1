-- Calls, commands, units and boundaries leave the pages of a state whole.
use Rattle.std.proofs.Common.{◌≡◌, ℕ, zero, suc, ◌+◌, ◌-◌, ◌%◌, ◌<◌, ◌≤◌, Bool, true, false, cond, not, List, [], ◌∷◌, filter, take, length, Option, Some, None, Result, Ok, Err, inl, inr, refl, sym, ap, ◌∙◌, subst, arith}
use Rattle.std.specs.Prelude.{nat_le, is_some}
use Rattle.std.proofs.lemmas.List.Elements.{All-head, All-tail, All-filter}
use Rattle.ds_word.specs.Word.{word}
use Rattle.ds_word.specs.Bytes.{word_at, with_word}
use Rattle.ds_word.proofs.Bytes.{length-with_word}
use Rattle.ds_isa.specs.declared.instr.Kind.{Kind}
use Rattle.ds_isa.specs.declared.instr.Kind.TheVariants.{Fetch, Load, Store}
use Rattle.ds_isa.specs.declared.instr.Size.{Size}
use Rattle.ds_isa.specs.declared.instr.Size.TheVariants.{Word}
use Rattle.ds_isa.specs.Instruction.{instruction_of}
use Rattle.ds_isa.specs.Meaning.{Effect, Goes, Branches, Loads, Stores, Faults, Calls, Privileged, meaning}
use Rattle.ds_procs.specs.declared.call.Call.{Call}
use Rattle.ds_procs.specs.declared.call.Call.TheVariants as call
use Rattle.ds_procs.specs.Calls.{call_of}
use Rattle.ds_policy.specs.declared.access.Verdict.{Verdict}
use Rattle.ds_policy.specs.declared.access.Verdict.TheVariants.{Allowed, Denied}
use Rattle.ds_policy.specs.declared.command.Command.{Command}
use Rattle.ds_policy.specs.declared.command.Command.TheVariants as command
use Rattle.ds_policy.specs.declared.command.TimedCommand.{TimedCommand}
use Rattle.ds_policy.specs.InputFacts.{IsGoodCommand, AreGoodCommands}
use Rattle.ds_policy.specs.Pages.{decide, bytes_of}
use Rattle.ds_policy.specs.Ends.{expired}
use Rattle.ds_policy.specs.Grants.{PageState, give, take as take_back, drop_own, grant, narrow, revoke, drop_by_command}
use Rattle.ds_pagemap.specs.declared.turn.Turn.{Turn}
use Rattle.ds_pagemap.specs.Machine.{State, process_of, is_parked, lives, first, made_ready, touch_first, touched}
use Rattle.ds_pagemap.specs.Calls.{served, answered, or_number, or_denied, after_get, after_wait, queue_of, after_command, or_logged, refuse_command, ended}
use Rattle.ds_pagemap.specs.Unit.{Outcome, Went, Branched, Called, Stopped, where_allowed, stored, done, instruction, settle, at_pc, after_slot, after_instruction, unit_of_first, unit}
use Rattle.ds_pagemap.specs.Boundary.{after_commands, all_queued, wakes, woken, has_passed, is_first, rotated, boundary_after, boundary, owed_boundary}
use Rattle.ds_pagemap.specs.Run.{half_turn, goes_on, after, Reaches}
use Rattle.ds_pagemap.specs.Laws.{due}
use Rattle.ds_promise.specs.Stores.{live_page}
use Rattle.ds_promise.specs.Whole.{ArePagesWhole, HasWholePages}
use Rattle.ds_promise.proofs.Stores.{set_cases, bytes_of_lives}
use Rattle.ds_promise.proofs.Granted.{allowed_holds, allowed_offset, lets_something}
use Rattle.ds_promise.proofs.WholePages.{StaysWhole, OfDone, IsGiven, still_lives, ended_whole, expired_whole, take_whole, drop_whole, grant_whole, narrow_whole, revoke_whole, drop_command_whole, give_whole}

-- Calls.

-- whole pages, and the same commands
pub whole_with : (m t : State) → HasWholePages m → StaysWhole m.memory t.memory → t.commands ≡ m.commands → HasWholePages t
whole_with m t k w same = record {
  memory = w.whole;
  commands = subst (λ (n : ℕ). AreGoodCommands n t.commands) (sym w.named) (subst (AreGoodCommands m.memory.named) (sym same) k.commands);
}

number_whole : (m : State) (p : ℕ) (r : Result PageState ℕ) → HasWholePages m → OfDone (StaysWhole m.memory) r → HasWholePages (or_number m p r)
number_whole m p (Ok s) k w = whole_with m (or_number m p (Ok s)) k w refl
number_whole m p (Err number) k w = record { memory = k.memory; commands = k.commands }

denied_whole : (m : State) (p pc address receiver to mode a : ℕ) (r : Result PageState ℕ) → HasWholePages m → OfDone (λ (t : PageState). IsGiven (lives m) m.memory t p a receiver to mode) r → HasWholePages (or_denied m p pc address r)
denied_whole m p pc address receiver to mode a (Ok s) k w = whole_with m (or_denied m p pc address (Ok s)) k w.whole refl
denied_whole m p pc address receiver to mode a (Err number) k w = record { memory = k.memory; commands = k.commands }

get_whole : (m : State) (p : ℕ) (queue : List ℕ) → HasWholePages m → HasWholePages (after_get m p queue)
get_whole m p [] k = record { memory = k.memory; commands = k.commands }
get_whole m p (b ∷ rest) k = record { memory = k.memory; commands = k.commands }

wait_whole : (m : State) (p : ℕ) (queue : List ℕ) → HasWholePages m → HasWholePages (after_wait (answered m p 0) p queue)
wait_whole m p [] k = record { memory = k.memory; commands = k.commands }
wait_whole m p (b ∷ rest) k = record { memory = k.memory; commands = k.commands }

ending_whole : (m : State) (p : ℕ) → HasWholePages m → HasWholePages (ended m p)
ending_whole m p k = whole_with m (ended m p) k (ended_whole m.memory k.memory p) refl

pub served_whole : (m : State) (p pc : ℕ) (c : Call) → HasWholePages m → HasWholePages (served m p pc c)
served_whole m p pc call.Exit k = ending_whole m p k
served_whole m p pc (call.Put byte) k = record { memory = k.memory; commands = k.commands }
served_whole m p pc call.Get k = get_whole m p (queue_of m p) k
served_whole m p pc call.Yield k = record { memory = k.memory; commands = k.commands }
served_whole m p pc call.Time k = record { memory = k.memory; commands = k.commands }
served_whole m p pc call.Own k = record { memory = k.memory; commands = k.commands }
served_whole m p pc (call.Give address receiver to mode) k = denied_whole m p pc address receiver to mode address (give (lives m) m.memory p address receiver to mode) k (give_whole (lives m) m.memory p address receiver to mode k.memory)
served_whole m p pc (call.Take process address) k = number_whole m p (take_back (lives m) m.memory p process address) k (take_whole (lives m) m.memory p process address k.memory)
served_whole m p pc (call.Drop address) k = number_whole m p (drop_own m.memory p address) k (drop_whole m.memory p address k.memory)
served_whole m p pc call.Wait k = wait_whole m p (queue_of m p) k
served_whole m p pc call.Unknown k = record { memory = k.memory; commands = k.commands }

-- Commands.

-- whole pages, and the policy names as many
record CommandWhole (m t : State) : Type 0 where
  whole : HasWholePages t
  named : t.memory.named ≡ m.memory.named

same_whole : (m t : State) → HasWholePages m → t.memory ≡ m.memory → t.commands ≡ m.commands → CommandWhole m t
same_whole m t k e f = record {
  whole = record { memory = subst ArePagesWhole (sym e) k.memory; commands = subst (λ (s : PageState). AreGoodCommands s.named t.commands) (sym e) (subst (AreGoodCommands m.memory.named) (sym f) k.commands) };
  named = ap (λ (s : PageState). s.named) e;
}

logged_whole : (m : State) (number : ℕ) (r : Result PageState ℕ) → HasWholePages m → OfDone (StaysWhole m.memory) r → CommandWhole m (or_logged m number r)
logged_whole m number (Ok s) k w = record { whole = whole_with m (or_logged m number (Ok s)) k w refl; named = w.named }
logged_whole m number (Err refusal) k w = same_whole m _ k refl refl

if_whole : (m : State) (b : Bool) (s t : State) → CommandWhole m s → CommandWhole m t → CommandWhole m (cond b s t)
if_whole m true s t k l = k
if_whole m false s t k l = l

command_whole : (m : State) (number : ℕ) (c : Command) → IsGoodCommand m.memory.named c → HasWholePages m → CommandWhole m (after_command m number c)
command_whole m number (command.Grant p address page right give) good k = logged_whole m number (grant (lives m) m.memory p address page right give (1000 + number)) k (grant_whole (lives m) m.memory p address page right give (1000 + number) k.memory good.0)
command_whole m number (command.Narrow p address) good k = logged_whole m number (narrow (lives m) m.memory p address) k (narrow_whole (lives m) m.memory p address k.memory)
command_whole m number (command.Revoke p address) good k = logged_whole m number (revoke (lives m) m.memory p address (1000 + number)) k (revoke_whole (lives m) m.memory p address (1000 + number) k.memory)
command_whole m number (command.Drop p address) good k = logged_whole m number (drop_by_command (lives m) m.memory p address) k (drop_command_whole (lives m) m.memory p address k.memory)
command_whole m number (command.Resume p) good k =
    if_whole m (not (lives m p)) (refuse_command m number 12) (cond (not (is_parked (process_of m p).standing)) (refuse_command m number 15) (made_ready m p)) (same_whole m _ k refl refl)
    (if_whole m (not (is_parked (process_of m p).standing)) (refuse_command m number 15) (made_ready m p) (same_whole m _ k refl refl) (same_whole m _ k refl refl))
command_whole m number (command.Stop p) good k =
    if_whole m (not (lives m p)) (refuse_command m number 12) (ended m p) (same_whole m _ k refl refl)
    (record { whole = ending_whole m p k; named = (ended_whole m.memory k.memory p).named })

commands_whole : (m : State) (cs : List TimedCommand) → AreGoodCommands m.memory.named cs → HasWholePages m → HasWholePages (after_commands m cs)
commands_whole m [] good k = k
commands_whole m (c ∷ rest) good k =
    let P : TimedCommand → Type 0 = λ (c : TimedCommand). IsGoodCommand m.memory.named c.command in
    let next = command_whole m c.number c.command (All-head P c rest good) k in
    commands_whole (after_command m c.number c.command) rest (subst (λ (n : ℕ). AreGoodCommands n rest) (sym next.named) (All-tail P c rest good)) next.whole

-- Boundaries.

ready_whole : (b : Bool) (m : State) (p : ℕ) → HasWholePages m → HasWholePages (cond b (made_ready m p) m)
ready_whole true m p k = record { memory = k.memory; commands = k.commands }
ready_whole false m p k = k

woken_whole : (m : State) (p n : ℕ) → HasWholePages m → HasWholePages (woken m p n)
woken_whole m p zero k = k
woken_whole m p (suc n) k = woken_whole (cond (wakes m p) (made_ready m p) m) (p + 1) n (ready_whole (wakes m p) m p k)

rotated_whole : (m : State) (runner : Option ℕ) → HasWholePages m → HasWholePages (rotated m runner)
rotated_whole m None k = k
rotated_whole m (Some p) k = ready_whole (is_first (first m.ready) p) m p k

ending_turn_whole : (b : Bool) (m : State) (runner : Option ℕ) → HasWholePages m → HasWholePages (cond b (rotated m runner) m)
ending_turn_whole true m runner k = rotated_whole m runner k
ending_turn_whole false m runner k = k

boundary_after_whole : (turn : Turn) (m : State) → HasWholePages m → HasWholePages (boundary_after turn m)
boundary_after_whole turn m k =
    let P : TimedCommand → Type 0 = λ (c : TimedCommand). IsGoodCommand m.memory.named c.command in
    let ends = expired_whole m.memory k.memory m.time in
    let later : State = record m { memory = expired m.memory m.time; commands = filter (λ c. not (nat_le c.time m.time)) m.commands; characters = filter (λ c. not (nat_le c.time m.time)) m.characters; owed = None } in
    let named : later.memory.named ≡ m.memory.named = ends.named in
    let l : HasWholePages later = record { memory = ends.whole; commands = subst (λ (n : ℕ). AreGoodCommands n later.commands) (sym named) (All-filter (λ (c : TimedCommand). not (nat_le c.time m.time)) P m.commands k.commands) } in
    let served = after_commands later (due m) in
    let s : HasWholePages served = commands_whole later (due m) (subst (λ (n : ℕ). AreGoodCommands n (due m)) (sym named) (All-filter (λ (c : TimedCommand). nat_le c.time m.time) P m.commands k.commands)) l in
    let typed : State = record served { queues = all_queued served.queues (take 64 (filter (λ c. nat_le c.time m.time) m.characters)) } in
    let t : HasWholePages typed = record { memory = s.memory; commands = s.commands } in
    ending_turn_whole (has_passed m.rate turn.began m.time) (woken typed 1 (length typed.processes)) turn.runner (woken_whole typed 1 (length typed.processes) t)

owed_whole : (owed : Option Turn) (m : State) → HasWholePages m → HasWholePages (owed_boundary owed m)
owed_whole None m k = k
owed_whole (Some turn) m k = boundary_after_whole turn m k

boundary_whole : (m : State) → HasWholePages m → HasWholePages (boundary m)
unfolding boundary
boundary_whole m k = owed_whole m.owed m k

-- Units.

small : (address : ℕ) → address % 4096 < 4096
small address = omega arith

fits : (bytes : List ℕ) (place : ℕ) → length bytes ≡ 4096 → place < 4096 → place - place % 4 + 4 ≤ length bytes
fits bytes place size below = omega (arith, size, below)

-- a word stored where the table allows it
stored_whole : (m : State) (p : ℕ) (size : Size) (address page offset : ℕ) (value : ℕ → ℕ) → HasWholePages m → decide m.memory.table p Store size address ≡ Allowed page offset → HasWholePages (stored m page offset value)
stored_whole m p size address page offset value k allowed =
    let h = allowed_holds m.memory.table p Store size address page offset allowed in
    let l = k.memory.granted p _ h.grant h.held (lets_something h.grant.right Store h.right) in
    let same : l.page ≡ page = one_number l.page page (sym l.names ∙ h.names) in
    let lives : live_page m.memory.pages page ≡ Some l.lives.0 = subst (λ (i : ℕ). live_page m.memory.pages i ≡ Some l.lives.0) same l.lives.1 in
    let bytes = bytes_of m.memory.pages page in
    let new = with_word bytes offset (value (word_at bytes offset)) in
    let long : length new ≡ 4096 = long_new bytes offset (value (word_at bytes offset)) (ap (λ (bs : List ℕ). length bs) (bytes_of_lives m.memory.pages page l.lives.0 lives) ∙ k.memory.sizes page l.lives.0 lives) (subst (λ (i : ℕ). i < 4096) (sym (allowed_offset m.memory.table p Store size address page offset allowed)) (small address)) in
    record {
      memory = record {
        sizes = λ q bs e. elim (set_cases m.memory.pages page q (Some new) bs e) [
          | inl before ↦ k.memory.sizes q bs before
          | inr put ↦ ap (λ (b : List ℕ). length b) (one_list new bs put.1) ∙ long
        ];
        named = λ q below. still_lives m.memory.pages page q new l.lives.0 lives (k.memory.named q below);
        granted = λ q a g e right. let n = k.memory.granted q a g e right in record { page = n.page; names = n.names; lives = still_lives m.memory.pages page n.page new l.lives.0 lives n.lives };
        places = k.memory.places;
      };
      commands = k.commands;
    }
  where
    one_number : (a b : ℕ) → ◌≡◌ {A = Option ℕ} (Some a) (Some b) → a ≡ b
    one_number a b e = cc

    one_list : (a b : List ℕ) → ◌≡◌ {A = Option (List ℕ)} (Some a) (Some b) → b ≡ a
    one_list a b e = cc

    long_new : (bytes : List ℕ) (offset w : ℕ) → length bytes ≡ 4096 → offset < 4096 → length (with_word bytes offset w) ≡ 4096
    long_new bytes offset w size below = length-with_word bytes offset w (fits bytes offset size below) ∙ size

-- what comes of an instruction has whole pages
abbrev OutcomeWhole : Outcome → Type 0
OutcomeWhole (Went t) = HasWholePages t
OutcomeWhole (Branched t target) = HasWholePages t
OutcomeWhole Called = Unit {0}
OutcomeWhole (Stopped stop) = Unit {0}

whole_by : (table : Verdict) (v : Verdict) (kind : Kind) (address : ℕ) (f : ℕ → ℕ → Outcome) → table ≡ v → ((page offset : ℕ) → table ≡ Allowed page offset → OutcomeWhole (f page offset)) → OutcomeWhole (where_allowed v kind address f)
whole_by table (Allowed page offset) kind address f is h = h page offset is
whole_by table (Denied rule code) kind address f is h = tt

done_whole : (m : State) (p pc : ℕ) (e : Effect) → HasWholePages m → OutcomeWhole (done m p pc e)
done_whole m p pc (Goes r) k = record { memory = k.memory; commands = k.commands }
done_whole m p pc (Branches r target) k = record { memory = k.memory; commands = k.commands }
done_whole m p pc (Loads size address after) k = whole_by (decide m.memory.table p Load size address) (decide m.memory.table p Load size address) Load address _ refl (λ page offset _. record { memory = k.memory; commands = k.commands })
done_whole m p pc (Stores size address value) k = whole_by (decide m.memory.table p Store size address) (decide m.memory.table p Store size address) Store address _ refl (λ page offset allowed.
    let s = stored_whole m p size address page offset value k allowed in record { memory = s.memory; commands = s.commands })
done_whole m p pc (Faults code) k = tt
done_whole m p pc Calls k = tt
done_whole m p pc Privileged k = tt

instruction_whole : (m : State) (p pc : ℕ) → HasWholePages m → OutcomeWhole (instruction m p pc)
unfolding instruction
instruction_whole m p pc k = whole_by (decide m.memory.table p Fetch Word pc) (decide m.memory.table p Fetch Word pc) Fetch pc _ refl (λ page offset _. done_whole m p pc (meaning (instruction_of (word_at (bytes_of m.memory.pages page) offset)) pc (process_of m p).registers) k)

slot_whole : (m : State) (p a pc target : ℕ) (o : Outcome) → HasWholePages m → OutcomeWhole o → HasWholePages (after_slot m p a pc target o)
slot_whole m p a pc target (Went t) k w = record { memory = w.memory; commands = w.commands }
slot_whole m p a pc target (Branched t next) k w = record { memory = k.memory; commands = k.commands }
slot_whole m p a pc target Called k w = record { memory = k.memory; commands = k.commands }
slot_whole m p a pc target (Stopped stop) k w = record { memory = k.memory; commands = k.commands }

after_instruction_whole : (m : State) (p pc : ℕ) (o : Outcome) → HasWholePages m → OutcomeWhole o → HasWholePages (after_instruction m p pc o)
after_instruction_whole m p pc (Went t) k w = record { memory = w.memory; commands = w.commands }
after_instruction_whole m p pc (Branched t target) k w = let slot = word (pc + 4) in slot_whole t p pc slot target (instruction t p slot) w (instruction_whole t p slot w)
after_instruction_whole m p pc Called k w =
    let next = at_pc (settle m p) p (word (pc + 4)) in
    let s = served_whole next p pc (call_of (process_of next p).registers.general) (record { memory = k.memory; commands = k.commands }) in
    record { memory = s.memory; commands = s.commands }
after_instruction_whole m p pc (Stopped stop) k w = record { memory = k.memory; commands = k.commands }

first_unit_whole : (m : State) (ready : List ℕ) → HasWholePages m → HasWholePages (unit_of_first m ready)
first_unit_whole m [] k = record { memory = k.memory; commands = k.commands }
first_unit_whole m (p ∷ rest) k = let pc = (process_of m p).pc in after_instruction_whole m p pc (instruction m p pc) k (instruction_whole m p pc k)

unit_whole : (m : State) → HasWholePages m → HasWholePages (unit m)
unfolding unit
unit_whole m k = let u = first_unit_whole m m.ready k in record { memory = u.memory; commands = u.commands }

-- Half turns and runs.

pub touched_whole : (b : Bool) (m : State) → HasWholePages m → HasWholePages (touched b m)
touched_whole true m k = of_first m m.ready k
  where
    of_first : (m : State) (ready : List ℕ) → HasWholePages m → HasWholePages (touch_first m ready)
    of_first m [] k = k
    of_first m (p ∷ rest) k = record { memory = k.memory; commands = k.commands }
touched_whole false m k = k

half_by : (owed : Bool) (m : State) → HasWholePages m → HasWholePages (cond owed (boundary m) (unit m))
half_by true m k = boundary_whole m k
half_by false m k = unit_whole m k

pub half_whole : (b : Bool) (m : State) → HasWholePages m → HasWholePages (half_turn b m)
unfolding half_turn
half_whole b m k = half_by (is_some m.owed) (touched b m) (touched_whole b m k)

go_by : (on b : Bool) (m : State) → HasWholePages m → HasWholePages (cond on (half_turn b m) m)
go_by true b m k = half_whole b m k
go_by false b m k = k

pub along_whole : (n : ℕ) (choices : List Bool) (m : State) → HasWholePages m → HasWholePages (after n choices m)
unfolding after
along_whole n [] m k = k
along_whole n (touch ∷ earlier) m k = go_by (goes_on n (after n earlier m)) touch (after n earlier m) (along_whole n earlier m k)

pub reaches_whole : (n : ℕ) (m t : State) → Reaches n m t → HasWholePages m → HasWholePages t
reaches_whole n m t r k = subst HasWholePages (sym r.comes_to) (touched_whole r.early (after n r.choices m) (along_whole n r.choices m k))
