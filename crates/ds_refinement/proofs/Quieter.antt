-- A boundary that has nothing to do at a later time has nothing to do at an earlier one.
use Rattle.std.proofs.Common.{◌≡◌, ℕ, ◌+◌, ◌/◌, ◌≤◌, ◌^◌, Bool, true, false, cond, List, [], ◌∷◌, refl, ap, subst, arith, div-mul-le_self, le_trans}
use Rattle.std.specs.Prelude.{◌&&◌, ◌==◌, not, nat_lt, nat_le, filter, Option, Some, None}
use Rattle.std.specs.List.{list_any}
use Rattle.std.proofs.lemmas.Bool.{or_parts, or_from}
use Rattle.std.proofs.lemmas.Bool.Decides.{nat_tests}
use Rattle.std.proofs.lemmas.Nat.{pow_pos, le-div}
use Rattle.ds_policy.specs.declared.command.TimedCommand.{TimedCommand}
use Rattle.ds_policy.specs.declared.command.Character.{Character}
use Rattle.ds_policy.specs.declared.grant.Entry.{Entry}
use Rattle.ds_policy.specs.Grants.{is_some_right}
use Rattle.ds_policy.specs.Pages.{Table}
use Rattle.ds_policy.specs.Ends.{is_reached, has_expired, has_some_expired}
use Rattle.ds_cp0.specs.System.{is_user}
use Rattle.ds_core.specs.Core.{CoreState}
use Rattle.ds_pagemap.specs.declared.turn.Turn.{Turn}
use Rattle.ds_pagemap.specs.Machine.{State}
use Rattle.ds_pagemap.specs.Boundary.{has_passed}
use Rattle.ds_refinement.specs.Held.{Held, Kept, began_or}
use Rattle.ds_refinement.specs.Units.{user_status}
use Rattle.ds_refinement.specs.Stands.{OnProcessor, RunningBy}
use Rattle.ds_refinement.specs.Inner.Stands.{IsSound}
use Rattle.ds_refinement.specs.Inner.Quiet.{IsUndisturbed}
use Rattle.ds_refinement.specs.Inner.Blocks.{at_time, IsQuietUntil}

-- what comes later than one time comes later than the times before it
none_before : {X : Type 0} (time : X → ℕ) (now later : ℕ) → now ≤ later → (xs : List X) → filter (λ x. nat_le (time x) later) xs ≡ [] → filter (λ x. nat_le (time x) now) xs ≡ []
none_before {X = X} time now later le [] e = refl
none_before {X = X} time now later le (x ∷ xs) e = by (nat_le (time x) now) (nat_le (time x) later) refl refl e (none_before time now later le xs)
  where
    upto : ℕ → List X
    upto t = filter (λ y. nat_le (time y) t) xs

    not_so : (t : ℕ) → nat_le t now ≡ true → nat_le t later ≡ false → ⊥
    not_so t i j = grind (arith, nat_tests)

    by : (a b : Bool) → nat_le (time x) now ≡ a → nat_le (time x) later ≡ b → cond b (x ∷ upto later) (upto later) ≡ [] → (upto later ≡ [] → upto now ≡ []) → cond a (x ∷ upto now) (upto now) ≡ []
    by false false i j e more = more e
    by false true i j e more = absurd (cc)
    by true true i j e more = absurd (cc)
    by true false i j e more = absurd (not_so (time x) i j)

-- and a period that hasn't ended by then hasn't before
not_passed : (rate began now later : ℕ) → now ≤ later → has_passed rate began later ≡ false → has_passed rate began now ≡ false
not_passed rate began now later le none = by (not (rate == 0)) none
  where
    grows : now / 2 ^ (rate + 2) ≤ later / 2 ^ (rate + 2)
    grows = le-div (now / 2 ^ (rate + 2)) later (2 ^ (rate + 2)) (pow_pos (rate + 2)) (le_trans (div-mul-le_self now (2 ^ (rate + 2))) le)

    further : (a m n : ℕ) → m ≤ n → nat_lt a n ≡ false → nat_lt a m ≡ false
    further a m n e none = grind (arith, nat_tests)

    by : (on : Bool) → (on && nat_lt (began / 2 ^ (rate + 2)) (later / 2 ^ (rate + 2))) ≡ false → (on && nat_lt (began / 2 ^ (rate + 2)) (now / 2 ^ (rate + 2))) ≡ false
    by true e = further (began / 2 ^ (rate + 2)) (now / 2 ^ (rate + 2)) (later / 2 ^ (rate + 2)) grows e
    by false e = refl

-- an end that isn't reached by then isn't reached before
reached_earlier : (now later : ℕ) (end : Option ℕ) → now ≤ later → is_reached later end ≡ false → is_reached now end ≡ false
reached_earlier now later None le none = refl
reached_earlier now later (Some end) le none = grind (arith, nat_tests)

entry_earlier : (now later : ℕ) (e : Entry) → now ≤ later → has_expired later e ≡ false → has_expired now e ≡ false
entry_earlier now later e le none = by (is_some_right e.grant.right) none
  where
    by : (on : Bool) → (on && is_reached later e.grant.until) ≡ false → (on && is_reached now e.grant.until) ≡ false
    by true none = reached_earlier now later e.grant.until le none
    by false none = refl

-- where no element passes a test, none passes a stricter one
none_stricter : {X : Type 0} (weak strict : X → Bool) → ((x : X) → weak x ≡ false → strict x ≡ false) → (xs : List X) → list_any weak xs ≡ false → list_any strict xs ≡ false
none_stricter weak strict less [] none = refl
none_stricter weak strict less (x ∷ rest) none =
    let parts = or_parts (weak x) (list_any weak rest) none in
    or_from (strict x) (list_any strict rest) (less x parts.0) (none_stricter weak strict less rest parts.1)

-- and where no right has ended by then, none has before
pub expired_earlier : (now later : ℕ) (table : Table) → now ≤ later → has_some_expired later table ≡ false → has_some_expired now table ≡ false
expired_earlier now later table le none =
    none_stricter (λ (es : List Entry). list_any (has_expired later) es) (λ (es : List Entry). list_any (has_expired now) es)
    (λ es. none_stricter (has_expired later) (has_expired now) (λ e. entry_earlier now later e le) es) table none

-- so the last boundary decides
pub quiet_until : (last : ℕ) (k : Kept) → k.ticked ≤ k.state.time → IsUndisturbed (at_time last k) → IsQuietUntil last k
quiet_until last k ticked q = record {
  ticked = ticked;
  quiet = λ time from upto. record {
    commands = none_before (λ (c : TimedCommand). c.time) time last upto k.state.commands q.commands;
    characters = none_before (λ (c : Character). c.time) time last upto k.state.characters q.characters;
    asleep = q.asleep;
    period = not_passed k.state.rate k.ticked time last upto q.period;
    ends = expired_earlier time last k.grants.table upto q.ends;
  };
}

-- What is known of a station that stands for some state.

-- in user mode Status is a user's
user_by : (user slot : Bool) (c : CoreState) (k : Kept) (p : ℕ) (m : State) → user ≡ true → OnProcessor user slot c k p m → c.system.status ≡ user_status
user_by false slot c k p m is on = absurd (cc)
user_by true true c k p m is on = on.mode
user_by true false c k p m is on = on.mode

status_by : (queue : List ℕ) (c : CoreState) (k : Kept) (m : State) → is_user c.system ≡ true → RunningBy queue c k m → c.system.status ≡ user_status
status_by [] c k m user running = running
status_by (p ∷ rest) c k m user running = user_by (is_user c.system) c.slot c k p m user running.on

pub user_status_of : (h : Held) → IsSound h → is_user h.core.system ≡ true → h.core.system.status ≡ user_status
user_status_of h sound user = status_by h.kept.state.ready h.core h.kept sound.state user sound.stands.agrees.running

-- the clock was ticked no later than now
pub ticked_before : (h : Held) → IsSound h → h.kept.state.owed ≡ None → h.kept.ticked ≤ h.kept.state.time
ticked_before h sound owed = subst (λ (n : ℕ). h.kept.ticked ≤ n) (ap (λ (o : Option Turn). began_or o h.kept.state.time) owed) sound.stands.agrees.devices.ticked
