-- What the steps of a station do: each is followed by the machine with its counts, and is real.
use Rattle.std.proofs.Common.{◌≡◌, ◌≢◌, ◌⊎◌, ℕ, ◌+◌, ◌%◌, ◌^◌, ◌<◌, ◌≤◌, Bool, true, false, cond, not, nat_le, List, [], ◌∷◌, length, Option, Some, None, refl, sym, ap, ap₂, subst, ◌∙◌, arith, inl, inr}
use Rattle.std.specs.Prelude.{IsSome, ◌==◌}
use Rattle.ds_word.specs.Word.{bits}
use Rattle.ds_isa.specs.declared.instr.Kind.{Kind}
use Rattle.ds_isa.specs.declared.instr.Kind.TheVariants.{Fetch, Load, Store}
use Rattle.ds_isa.specs.Access.{is_aligned}
use Rattle.ds_cp0.specs.System.{is_user}
use Rattle.ds_ahead.specs.Inner.Ahead.{owed_tick}
use Rattle.ds_policy.specs.declared.access.Access.{Access}
use Rattle.ds_policy.specs.declared.access.Rule.{Rule}
use Rattle.ds_policy.specs.declared.access.Rule.TheVariants.{K, A}
use Rattle.ds_policy.specs.declared.access.Verdict.{Verdict}
use Rattle.ds_policy.specs.declared.access.Verdict.TheVariants.{Allowed, Denied}
use Rattle.ds_policy.specs.declared.grant.Right.{Right}
use Rattle.ds_policy.specs.declared.grant.Right.TheVariants.{Nothing, Read, Write}
use Rattle.ds_log.specs.declared.line.Denied.{Denied as DeniedKind}
use Rattle.ds_policy.specs.declared.grant.Grant.{Grant}
use Rattle.ds_policy.specs.Pages.{Table, decide, entry_at, page_address, address_code, miss_code, allowed_on, by_right, by_entry}
use Rattle.ds_policy.specs.Grants.{PageState}
use Rattle.ds_grants.specs.State.{page_state}
use Rattle.ds_core.specs.Core.{CoreState}
use Rattle.ds_pagemap.specs.Machine.{State, first}
use Rattle.ds_pagemap.specs.Unit.{Stop, denied_as, fault}
use Rattle.ds_refinement.specs.declared.cause.Cause.{Cause}
use Rattle.ds_refinement.specs.declared.cause.Cause.TheVariants as cause
use Rattle.ds_refinement.specs.declared.step.Step.TheVariants.{Inside, Unit}
use Rattle.ds_refinement.specs.Held.{Held, Kept, Own}
use Rattle.ds_grants.specs.State.{GrantsState}
use Rattle.ds_refinement.specs.Counts.{Counts, HasNone, fresh_counts, counts_of, one_served}
use Rattle.ds_refinement.specs.Inner.Counts.{IsFresh}
use Rattle.ds_refinement.specs.Told.{told, is_delayed, own_in}
use Rattle.ds_refinement.specs.Units.{InService, ends_in_stop, ends_in_call, user_status, is_general, is_served, has_left_user, EndsUnit}
use Rattle.ds_refinement.specs.Stands.{InKernel}
use Rattle.ds_refinement.specs.Inner.Stands.{IsSound}
use Rattle.ds_refinement.specs.Inner.Ends.{EndsInStop, EndsInCall}
use Rattle.ds_refinement.specs.Pairs.{HasNoNewPairs}
use Rattle.ds_refinement.specs.Copying.{AwaitsCopy, InCopy}
use Rattle.ds_refinement.specs.Inner.Services.{EntersBy, table_entry, with_table_page, with_none_spent, IsCopied}
use Rattle.ds_refinement.specs.Steps.{Follows, Moves, ticks_of}
use Rattle.ds_refinement.proofs.Ending.{served_parts, served_kernel, waiting_ends, denied_ends, fault_ends, slot_ends, call_ends}
use Rattle.ds_refinement.proofs.Counting.{stop_moves, call_moves, back_moves}
use Rattle.ds_refinement.proofs.NoNewPairs.{written_pairs, rewritten_pairs}
use Rattle.ds_refinement.proofs.WaysBack.{double_page, double_follows, double_goes}
use Rattle.ds_refinement.proofs.Copied.{copy_follows, copy_room, copy_goes}
use Rattle.ds_refinement.proofs.Joined.{end_real, double_real, copy_real, never_both}
use Rattle.ds_policy.specs.Value.{InputValue}
use Rattle.ds_monitor.specs.Inner.Room.{HasBoundaryRoom, HasTurnRoom}
use Rattle.ds_kernel.proofs.Rooms.{boundary_room_after}
use Rattle.ds_monitor.specs.declared.monitor.Monitor.{Monitor}
use Rattle.ds_kernel.specs.declared.parts.Parts.{Parts}
use Rattle.ds_kernel.specs.Inner.Parts.{held, own_of}
use Rattle.ds_monitor.specs.Inner.Coming.{next_due}
use Rattle.ds_monitor.specs.Inner.Kept.{kept_of}
use Rattle.ds_monitor.specs.Inner.Orderly as monitor
use Rattle.ds_kernel.specs.Inner.Good.{IsRate, IsOrderly, IsGood, IsBusy}
use Rattle.ds_kernel.specs.Inner.Ended.{HasEnded, DoesStep}
use Rattle.ds_kernel.proofs.Keeping.{first_rest}

-- where the monitor is to serve, the processor is in kernel mode
pub kernel_of : (c : CoreState) → is_served c ≡ true → is_user c.system ≡ false
kernel_of c served = (served_parts (is_user c.system) (is_general c) served).0

-- where it is to serve whoever is first, in a unit that was begun before the end of a run, that process's unit goes on
pub busy_served : {L : Type 0} (p n : ℕ) (x : Parts L) → IsGood x → x.failed ≡ false → n ≤ 1000000000 → (0 < x.spent → x.monitor.time < n) → first x.monitor.ready ≡ Some p → is_served x.core ≡ true → IsBusy p x
busy_served p n x good working few before first served =
    let begun : 0 < x.spent = good.orderly.raised (kernel_of x.core served) in
    let soon : x.monitor.time < n = before begun in
    record { good = good; first = first; begun = begun; working = working; early = omega (arith, soon, few) }

-- who is ready is somebody
pub some_ready : (queue : List ℕ) (p : ℕ) (rest : List ℕ) → queue ≡ p ∷ rest → queue ≢ []
some_ready queue p rest is none = let no : p ∷ rest ≡ [] = sym is ∙ none in absurd (cc)

-- A service of the first ready process.
module _ (h : Held) (p : ℕ) (rest : List ℕ) (sound : IsSound h) (ready : h.kept.state.ready ≡ p ∷ rest) (served : is_served h.core ≡ true) where
  abbrev kept_pages : PageState
  kept_pages = page_state h.kept.grants h.bus.memory

  -- the exception waits outside of slots
  outside_slot : has_left_user h.core ≡ true → h.core.slot ≡ false
  outside_slot left =
      let waits : InService h.core p sound.state ⊎ InCopy h.core h.kept p sound.state = subst (λ (up : Bool). InKernel true up h.core h.kept p sound.state) left (served_kernel h sound.state p rest sound.stands ready served) in
      elim waits [
        | inl ending ↦ ending.first
        | inr late ↦ late.first
      ]

  pub stop_does : has_left_user h.core ≡ true → (new : Held) (why : Cause) (stop : Stop) → h.kept.state.owed ≡ None → told h.core.system kept_pages p ≡ why
      → EndsUnit kept_pages p h.core.system.bad_vaddr why → new.own ≡ with_none_spent h.own → new.core.random ≡ h.core.random → HasNoNewPairs h.core.entries new.core.entries
      → EndsInStop p stop h new → Follows Unit h new → DoesStep Unit h new
  stop_does left new why stop owed is ends own random pairs by follows =
      let moves : Moves Unit h new = stop_moves p stop h new owed (outside_slot left) own by in
      record { follows = follows; moves = moves; real = end_real h new p rest why ready served left is ends moves.1 random pairs }

  pub call_does : has_left_user h.core ≡ true → (new : Held) → h.kept.state.owed ≡ None → told h.core.system kept_pages p ≡ cause.Call → is_delayed h.core.system ≡ false
      → new.own ≡ with_none_spent h.own → new.core.random ≡ h.core.random → HasNoNewPairs h.core.entries new.core.entries → EndsInCall p h new → DoesStep Unit h new
  call_does left new owed is outside own random pairs by =
      let moves : Moves Unit h new = call_moves p h new owed (outside_slot left) own by in
      record { follows = call_ends h new p rest ready served left is outside by; moves = moves; real = end_real h new p rest cause.Call ready served left is tt moves.1 random pairs }

  -- where an access waits there that the table allows, it is a store that waits for a copy
  pub allowed_awaits : has_left_user h.core ≡ true → (access : Access) (page offset : ℕ) → told h.core.system kept_pages p ≡ cause.Access access
      → decide h.kept.grants.table p access.kind access.size h.core.system.bad_vaddr ≡ Allowed page offset → AwaitsCopy h.core.system h.kept.grants p
  allowed_awaits left access page offset is allowed = elim (waiting_ends h sound.state p rest sound.stands ready served left) [
    | inl ends ↦ absurd (never_both kept_pages p h.core.system.bad_vaddr (cause.Access access)
        (subst (EndsUnit kept_pages p h.core.system.bad_vaddr) is ends) (page, offset, allowed))
    | inr waits ↦ waits
  ]

  -- and once its page has a frame of its own, the unit begins again
  pub copied_does : (new : Held) → has_left_user h.core ≡ true → h.kept.state.owed ≡ None → h.own.spent ≤ 64 → AwaitsCopy h.core.system h.kept.grants p → IsCopied p h new → DoesStep Inside h new
  copied_does new left owed few waits copied =
      let counts : counts_of new.own ≡ one_served (has_left_user h.core) (counts_of h.own) =
      ap counts_of copied.own ∙ ap (λ (b : Bool). one_served b (counts_of h.own)) (sym left) in record {
        follows = copy_follows h new p rest ready served left waits copied;
        moves = back_moves h new owed served few (ap (λ (k : Kept). k.state) copied.kept) (ap (λ (c : CoreState). is_user c.system) copied.core) counts (ap (λ (o : Own). o.failed) copied.own);
        real = copy_real h new p rest ready served waits (copy_goes h new p copied left) (ap (λ (c : CoreState). c.random) copied.core) (rewritten_pairs h.core.entries new.core.entries copied.rewritten);
      }

  -- the page that EntryHi names is none of a user's
  pub page_above : has_left_user h.core ≡ false → 0xC0000 ≤ bits h.core.system.entry_hi 12 20
  page_above left = double_page h sound (some_ready h.kept.state.ready p rest ready) served left

  pub double_does : has_left_user h.core ≡ false → h.kept.state.owed ≡ None → h.own.spent ≤ 64 → DoesStep Inside h (with_table_page h p)
  double_does left owed few =
      let above : 0xC0000 ≤ bits h.core.system.entry_hi 12 20 = page_above left in
      let new : Held = with_table_page h p in record {
        follows = double_follows h p rest ready served left;
        moves = back_moves h new owed served few refl refl (ap (λ (b : Bool). one_served b (counts_of h.own)) (sym left)) refl;
        real = double_real h new served left (double_goes h p rest sound ready served left) refl
            (written_pairs h.core.entries h.own.wired (table_entry h p) (omega (arith, above)));
      }

-- The marks after a service.

pub owed_small : (slot : Bool) → owed_tick slot ≤ 1
owed_small true = omega arith
owed_small false = omega arith

pub none_of_fresh : (own : Own) (slot : Bool) → own.spent ≡ 0 → (own.spent ≤ owed_tick slot → IsFresh own) → HasNone own
none_of_fresh own slot zero f = f (omega (arith, zero)) ∙ ap (λ (n : ℕ). record (fresh_counts own.wired) { spent = n }) zero

-- where no unit has begun, nothing but instructions is counted
pub fresh_of_none : (own : Own) → HasNone own → IsFresh own
fresh_of_none own none = none ∙ ap (λ (n : Counts). record (fresh_counts own.wired) { spent = n.spent }) (sym none)

pub enters_user : (queue : List ℕ) (c : CoreState) (k : Kept) → EntersBy queue c k → c.system.status ≡ user_status
enters_user [] c k b = b
enters_user (p ∷ rest) c k b = b.mode

some_tick : (b : Bool) → 1 ≤ ticks_of b
some_tick true = omega arith
some_tick false = omega arith

pub two_ticks : (b : Bool) → ticks_of b ≤ 2
two_ticks true = omega arith
two_ticks false = omega arith

sound_after : (h new : Held) → IsSound h → Follows Unit h new → IsSound new
sound_after h new s f = let t = f.follows s.state s.stands in record { state = t.0; stands = t.2 }

-- the station is as it should be after the end of a unit
pub ended_good : {L : Type 0} (f : State → State) (p : ℕ) (old new : Parts L) → IsBusy p old → HasEnded f old new → DoesStep Unit (held old) (held new) → IsGood new
ended_good f p old new busy ended does =
    let none : new.spent ≡ 0 = does.moves.3 in
    let same : new.failed ≡ old.failed = does.moves.4 in
    let user : is_user new.core.system ≡ true = ap (λ (n : ℕ). bits n 1 1 == 1) (enters_user new.monitor.ready new.core (held new).kept ended.ends.enters) in
    let time : new.monitor.time ≡ old.monitor.time + ticks_of old.core.slot = does.moves.2 in
    let tick : 1 ≤ ticks_of old.core.slot = some_tick old.core.slot in
    let most : ticks_of old.core.slot ≤ 2 = two_ticks old.core.slot in
    let begun : old.monitor.time < 1000000000 = busy.early in
    let few : old.monitor.lines + length old.monitor.due.commands ≤ old.monitor.time + 4096 = busy.good.orderly.lines in
    let same_due : length new.monitor.due.commands ≡ length old.monitor.due.commands = ap (λ (i : InputValue). length i.commands) ended.due in
    let lines : new.monitor.lines ≤ old.monitor.lines + 1 = ended.lines in
    let late : old.monitor.ticked ≤ old.monitor.time = busy.good.orderly.ticked in
    let ticked : new.monitor.ticked ≡ old.monitor.ticked = ended.ticked in record {
      sound = sound_after (held old) (held new) busy.good.sound does.follows;
      orderly = record {
        begun = λ some. absurd (omega (arith, none, some));
        failed = λ is. (let no : false ≡ true = sym busy.working ∙ (sym same ∙ is) in absurd (cc));
        raised = λ is. (let no : true ≡ false = sym user ∙ is in absurd (cc));
        running = λ some. absurd (omega (arith, none, some));
        spent = omega (arith, none);
        fresh = λ few. fresh_of_none (own_of new) (ended.ends.none);
        lines = omega (arith, time, tick, few, lines, same_due);
        ticked = omega (arith, time, tick, late, ticked);
        kept = ended.kept;
        early = omega (arith, time, most, begun);
        rate = subst IsRate (sym ended.rate) busy.good.orderly.rate;
      };
      room = λ some. absurd (omega (arith, none, some));
      owed = λ some. boundary_room_after old.monitor new.monitor (omega (arith, time, most)) ended.due ended.room (busy.good.room busy.begun);
      next = ended.until ∙ (busy.good.next ∙ sym ended.next);
    }

-- Each end of a unit.
module _ {L : Type 0} (p : ℕ) (old new : Parts L) (busy : IsBusy p old) (served : is_served old.core ≡ true) where
  abbrev tells : Cause → Type 0
  tells why = told old.core.system (page_state old.monitor.grants old.bus.memory) p ≡ why

  unowed : old.monitor.owed ≡ None
  unowed = busy.good.orderly.begun busy.begun

  pub denied_step : has_left_user old.core ≡ true → (access : Access) (rule : Rule) (code : ℕ) → tells (cause.Access access) → decide old.monitor.grants.table p access.kind access.size old.core.system.bad_vaddr ≡ Denied rule code
      → HasEnded (ends_in_stop p old.core.system.epc (own_in old.core.system) (record { kind = denied_as access.kind; address = old.core.system.bad_vaddr; rule = rule; code = code })) old new
      → DoesStep Unit (held old) (held new)
  denied_step left access rule code is denied ended =
      let r = first_rest old.monitor.ready p busy.first in
      let stop : Stop = record { kind = denied_as access.kind; address = old.core.system.bad_vaddr; rule = rule; code = code } in
      stop_does (held old) p r.0 busy.good.sound r.1 served left (held new) (cause.Access access) stop unowed is (rule, code, denied) ended.own ended.random ended.pairs ended.ends
      (denied_ends (held old) (held new) p r.0 r.1 served left access rule code is denied ended.ends)

  pub fault_step : has_left_user old.core ≡ true → (code : ℕ) → tells (cause.Fault code)
      → HasEnded (ends_in_stop p old.core.system.epc (own_in old.core.system) (fault (own_in old.core.system) code)) old new
      → DoesStep Unit (held old) (held new)
  fault_step left code is ended =
      let r = first_rest old.monitor.ready p busy.first in
      stop_does (held old) p r.0 busy.good.sound r.1 served left (held new) (cause.Fault code) (fault (own_in old.core.system) code) unowed is tt ended.own ended.random ended.pairs ended.ends
      (fault_ends (held old) (held new) p r.0 r.1 served left code is ended.ends)

  pub slot_step : has_left_user old.core ≡ true → tells cause.Call → is_delayed old.core.system ≡ true
      → HasEnded (ends_in_stop p old.core.system.epc (own_in old.core.system) (fault (own_in old.core.system) 8)) old new
      → DoesStep Unit (held old) (held new)
  slot_step left is delayed ended =
      let r = first_rest old.monitor.ready p busy.first in
      stop_does (held old) p r.0 busy.good.sound r.1 served left (held new) cause.Call (fault (own_in old.core.system) 8) unowed is tt ended.own ended.random ended.pairs ended.ends
      (slot_ends (held old) (held new) p r.0 r.1 served left is delayed ended.ends)

  pub call_step : has_left_user old.core ≡ true → tells cause.Call → is_delayed old.core.system ≡ false → HasEnded (ends_in_call p old.core.system.epc) old new → DoesStep Unit (held old) (held new)
  call_step left is outside ended =
      let r = first_rest old.monitor.ready p busy.first in
      call_does (held old) p r.0 busy.good.sound r.1 served left (held new) unowed is outside ended.own ended.random ended.pairs ended.ends

  -- an access that the table allows waits for a copy
  pub awaits : has_left_user old.core ≡ true → (access : Access) (page offset : ℕ) → tells (cause.Access access)
      → decide old.monitor.grants.table p access.kind access.size old.core.system.bad_vaddr ≡ Allowed page offset → AwaitsCopy old.core.system old.monitor.grants p
  awaits left access page offset asked decides =
      let r = first_rest old.monitor.ready p busy.first in
      allowed_awaits (held old) p r.0 busy.good.sound r.1 served left access page offset asked decides

  pub copy_step : has_left_user old.core ≡ true → AwaitsCopy old.core.system old.monitor.grants p → IsCopied p (held old) (held new) → DoesStep Inside (held old) (held new)
  copy_step left waits copied =
      let r = first_rest old.monitor.ready p busy.first in
      copied_does (held old) p r.0 busy.good.sound r.1 served (held new) left unowed busy.good.orderly.spent waits copied

  pub copies_few : has_left_user old.core ≡ true → AwaitsCopy old.core.system old.monitor.grants p → old.services ≤ 5
  copies_few left waits =
      let r = first_rest old.monitor.ready p busy.first in
      copy_room (held old) p r.0 busy.good.sound r.1 served left waits

  -- the unit begins again after a double miss
  pub double_step : has_left_user old.core ≡ false → held new ≡ with_table_page (held old) p → DoesStep Inside (held old) (held new)
  double_step left is =
      let r = first_rest old.monitor.ready p busy.first in
      subst (λ (x : Held). DoesStep Inside (held old) x) (sym is)
      (double_does (held old) p r.0 busy.good.sound r.1 served left unowed busy.good.orderly.spent)

  pub table_page_above : has_left_user old.core ≡ false → 0xC0000 ≤ bits old.core.system.entry_hi 12 20
  table_page_above left =
      let r = first_rest old.monitor.ready p busy.first in
      page_above (held old) p r.0 busy.good.sound r.1 served left

-- the station is as it should be where the unit goes on in user mode
pub back_good : {L : Type 0} (p : ℕ) (old new : Parts L) (g : GrantsState) → IsBusy p old → new.core.slot ≡ false → new.monitor ≡ record old.monitor { grants = g } → monitor.IsOrderly (record (kept_of old.monitor) { grants = g }) → new.spent ≡ old.spent → new.failed ≡ old.failed
    → is_user new.core.system ≡ true → DoesStep Inside (held old) (held new) → IsGood new
back_good p old new g busy first monitor orderly spent failed user does =
    let o = busy.good.orderly in
    let begun : 0 < old.spent = busy.begun in
    let none : owed_tick new.core.slot ≡ 0 = ap owed_tick first in
    let marks : IsOrderly (record (held new) { kept = record (kept_of old.monitor) { grants = g } }) = record {
      begun = λ some. o.begun (subst (λ (n : ℕ). 0 < n) spent some);
      failed = λ is. o.failed (sym failed ∙ is);
      raised = λ kernel. (let no : true ≡ false = sym user ∙ kernel in absurd (cc));
      running = λ some. o.running (subst (λ (n : ℕ). 0 < n) spent some);
      spent = subst (λ (n : ℕ). n ≤ 64) (sym spent) o.spent;
      fresh = λ few. absurd (omega (arith, few, none, begun, spent));
      lines = o.lines;
      ticked = o.ticked;
      kept = orderly;
      early = o.early;
      rate = o.rate;
    } in
    let room = busy.good.room busy.begun in
    let t = does.follows.follows busy.good.sound.state busy.good.sound.stands in record {
      sound = record { state = t.0; stands = t.2 };
      orderly = subst (λ (m : Monitor). IsOrderly (record (held new) { kept = kept_of m })) (sym monitor) marks;
      room = λ some. subst HasTurnRoom (sym monitor) (record { consoles = room.consoles; log = room.log });
      owed = λ some. subst HasBoundaryRoom (sym monitor) (busy.good.owed (subst (λ (m : Monitor). IsSome m.owed) monitor some));
      next = subst (λ (m : Monitor). m.quiet_until ≡ next_due (kept_of m)) (sym monitor) busy.good.next;
    }

-- What the table answered to the access that was refused.

pub verdict_is : (t t' : Table) (p : ℕ) (access : Access) (a a' : ℕ) (v w : Verdict) → v ≡ decide t p access.kind access.size a → t ≡ t' → a ≡ a' → v ≡ w → decide t' p access.kind access.size a' ≡ w
verdict_is t t' p access a a' v w answers table address is = ap₂ (λ (x : Table) (y : ℕ). decide x p access.kind access.size y) (sym table) (sym address) ∙ (sym answers ∙ is)

address_small : (k : Kind) → address_code k ≤ 5
address_small Fetch = omega arith
address_small Load = omega arith
address_small Store = omega arith

miss_small : (k : Kind) → miss_code k ≤ 5
miss_small Fetch = omega arith
miss_small Load = omega arith
miss_small Store = omega arith

small : (n code : ℕ) → n ≤ 5 → n ≡ code → code ≤ 5
small n code few is = omega (arith, few, is)

denied_option : (named : Option ℕ) (o : ℕ) (rule : Rule) (code : ℕ) → allowed_on named o ≡ Denied rule code → code ≤ 5
denied_option None o rule code is = small 0 code (omega arith) (cc)
denied_option (Some q) o rule code is = absurd (cc)

denied_right : (right : Right) (access : Kind) (g : Grant) (o : ℕ) (rule : Rule) (code : ℕ) → by_right right access g o ≡ Denied rule code → code ≤ 5
denied_right Nothing access g o rule code is = small (miss_code access) code (miss_small access) (cc)
denied_right Read Fetch g o rule code is = denied_option g.page o rule code is
denied_right Read Load g o rule code is = denied_option g.page o rule code is
denied_right Read Store g o rule code is = small 1 code (omega arith) (cc)
denied_right Write access g o rule code is = denied_option g.page o rule code is

denied_tests : (aligned high : Bool) (found : Option Grant) (access : Kind) (o : ℕ) (rule : Rule) (code : ℕ)
    → cond (not aligned) (Denied A (address_code access)) (cond high (Denied K (address_code access)) (by_entry found access o)) ≡ Denied rule code → code ≤ 5
denied_tests false high found access o rule code is = small (address_code access) code (address_small access) (cc)
denied_tests true true found access o rule code is = small (address_code access) code (address_small access) (cc)
denied_tests true false None access o rule code is = small (miss_code access) code (miss_small access) (cc)
denied_tests true false (Some g) access o rule code is = denied_right g.right access g o rule code is

-- a denial's code has one digit
pub denied_small : (t : Table) (p : ℕ) (access : Access) (a : ℕ) (rule : Rule) (code : ℕ) → decide t p access.kind access.size a ≡ Denied rule code → code ≤ 5
denied_small t p access a rule code is = denied_tests (is_aligned access.size a) (nat_le (2 ^ 31) a) (entry_at t p (page_address a)) access.kind (a % 4096) rule code is

-- a stop by its kind and its address
pub stopped_as : {L : Type 0} (p : ℕ) (old new : Parts L) (kind kind' : DeniedKind) (address address' : ℕ) (rule : Rule) (code : ℕ) → kind ≡ kind' → address ≡ address'
    → HasEnded (ends_in_stop p old.core.system.epc (own_in old.core.system) (record { kind = kind; address = address; rule = rule; code = code })) old new
    → HasEnded (ends_in_stop p old.core.system.epc (own_in old.core.system) (record { kind = kind'; address = address'; rule = rule; code = code })) old new
stopped_as p old new kind kind' address address' rule code k a ended =
    subst (λ (x : DeniedKind). HasEnded (ends_in_stop p old.core.system.epc (own_in old.core.system) (record { kind = x; address = address'; rule = rule; code = code })) old new) k
    (subst (λ (n : ℕ). HasEnded (ends_in_stop p old.core.system.epc (own_in old.core.system) (record { kind = kind; address = n; rule = rule; code = code })) old new) a ended)
