-- Takes, revokes, copies and ends, as calls and commands do them.
use Rattle.std.proofs.Common.{◌≡◌, ◌≢◌, ◌⊎◌, inl, inr, ℕ, ◌+◌, ◌-◌, ◌<◌, Bool, true, false, cond, not, ◌==◌, Option, Some, None, Result, Ok, Err, refl, sym, ap, ◌∙◌, subst, arith}
use Rattle.std.specs.Prelude.{◌&&◌, nat_lt, is_some, unwrap_or, length}
use Rattle.std.specs.Option.{option_map}
use Rattle.std.proofs.lemmas.Bool.{cases_eq}
use Rattle.std.proofs.lemmas.Bool.Decides.{nat_tests}
use Rattle.ds_procs.specs.declared.call.Call.TheVariants as call
use Rattle.ds_policy.specs.declared.command.Command.TheVariants as command
use Rattle.ds_policy.specs.declared.grant.Right.TheVariants.{Write}
use Rattle.ds_policy.specs.declared.grant.Grant.{Grant}
use Rattle.ds_policy.specs.declared.grant.EntryPlace.{EntryPlace}
use Rattle.ds_policy.specs.Pages.{Table, entries_of, entry_at, with_entry, put, fresh}
use Rattle.ds_policy.specs.Grants.{PageState, refused, not_page, no_right, no_entry, no_grant, removed, table_full, fifth_region, no_frames, may_not_give, cut, forbidden_by, forbidden, given, give, take as take_back, drop_own, revoke, drop_by_command}
use Rattle.ds_policy.specs.Families.{parent_of, comes_from, without_entry}
use Rattle.ds_pagemap.specs.Machine.{State, process_of, lives, has_ended}
use Rattle.ds_pagemap.specs.Calls.{served, or_number, or_denied, or_logged, refuse_command, after_command, ended}
use Rattle.ds_promise.specs.Lines.{refused_by, command_refusal}
use Rattle.ds_promise.specs.Families.{CameOf, IsOrCameOf, IsOutOfReach, AllHaveOwnAddresses, PassesOn, HandsOn}
use Rattle.ds_promise.proofs.Entries.{false_is_not_true, found_put_same, one_grant, no_grant_found, handed_grant, without_left, without_gone}
use Rattle.ds_promise.proofs.Families.{comes_of_none, all_gone, nearest_stays, rest_stays, none_stays}
use Rattle.ds_promise.proofs.Reach.{none_without, none_reached, nothing_reached, taken_itself, taken_gone, taken_stays, revoked_itself, revoked_came, revoked_stays}
use Rattle.ds_promise.proofs.Tables.{row_cases}
use Rattle.ds_promise.proofs.WholePages.{OfDone, unless_refused, not_refused, not_true, HasGrant, right_there}

-- What is not refused.

no_refusal : {X : Type 0} (number : ℕ) → ◌≡◌ {A = Option ℕ} (Some number) None → X
no_refusal number e = absurd (no_such number e)
  where
    no_such : (number : ℕ) → ◌≡◌ {A = Option ℕ} (Some number) None → ⊥
    no_such number e = cc

number_left : (P : PageState → Type 0) (m : State) (p : ℕ) (r : Result PageState ℕ) → refused_by r ≡ None → OfDone P r → P (or_number m p r).memory
number_left P m p (Ok s) done k = k
number_left P m p (Err number) done k = no_refusal number done

pub denied_left : (P : PageState → Type 0) (m : State) (p pc address : ℕ) (r : Result PageState ℕ) → refused_by r ≡ None → OfDone P r → P (or_denied m p pc address r).memory
denied_left P m p pc address (Ok s) done k = k
denied_left P m p pc address (Err number) done k = no_refusal number done

logged_left : (P : PageState → Type 0) (m : State) (number : ℕ) (r : Result PageState ℕ) → refused_by r ≡ None → OfDone P r → P (or_logged m number r).memory
logged_left P m number (Ok s) done k = k
logged_left P m number (Err refused_by) done k = no_refusal refused_by done

-- processes that live are counted from 1
pub counted : (m : State) (p : ℕ) → lives m p ≡ true → 0 < p
counted m p e = by p (length m.processes) (not (has_ended (process_of m p).standing)) e
  where
    by : (p n : ℕ) (rest : Bool) → (nat_lt 0 p && (nat_lt p (n + 1) && rest)) ≡ true → 0 < p
    by p n rest e = grind (arith, nat_tests)

-- two processes that are counted from 1 have two rows
other_row : (p q : ℕ) → 0 < p → 0 < q → q ≢ p → q - 1 ≢ p - 1
other_row p q above over apart = λ (e : ◌≡◌ {A = ℕ} (q - 1) (p - 1)). apart (same p q above over e)
  where
    same : (p q : ℕ) → 0 < p → 0 < q → q - 1 ≡ p - 1 → q ≡ p
    same p q above over e = omega (arith, above, over, e)

-- what is neither the entry nor came of it lies elsewhere
elsewhere : (t : Table) (p a q b : ℕ) → 0 < p → 0 < q → (IsOrCameOf t p a q b → ⊥) → (q - 1 ≢ p - 1) ⊎ (b ≢ a)
elsewhere t p a q b above over none = elim (cases_eq q p) [
  | inr other ↦ inl (other_row p q above over other)
  | inl is ↦ elim (cases_eq b a) [
    | inl same ↦ absurd (none (inl (is, same)))
    | inr apart ↦ inr apart
  ]
]

-- Take.

-- what a take does
record IsCut (alive : ℕ → Bool) (s t : PageState) (p a : ℕ) : Type 0 where
  lives : alive p ≡ true
  is : t ≡ cut s p a

take_done : (alive : ℕ → Bool) (s : PageState) (caller p a : ℕ) → OfDone (λ (t : PageState). IsCut alive s t p a) (take_back alive s caller p a)
take_done alive s caller p a =
    let P : PageState → Type 0 = λ (t : PageState). IsCut alive s t p a in
    unless_refused P (refused 12 (not (alive p))) _ (λ living. unless_refused P (not_page a) _ (λ _. unless_refused P (no_right s p a) _ (λ _.
    unless_refused P (refused 19 (not ((unwrap_or (entry_at s.table p a) no_grant).giver == caller))) (Ok (cut s p a)) (λ _. record { lives = not_true (alive p) (not_refused 12 _ living); is = refl }))))

module _ (m : State) (p pc holder address : ℕ) (done : refused_by (take_back (lives m) m.memory p holder address) ≡ None) where
  taken : IsCut (lives m) m.memory (served m p pc (call.Take holder address)).memory holder address
  taken = number_left (λ (t : PageState). IsCut (lives m) m.memory t holder address) m p (take_back (lives m) m.memory p holder address) done (take_done (lives m) m.memory p holder address)

  taken_at : (q b : ℕ) → entry_at (served m p pc (call.Take holder address)).memory.table q b ≡ entry_at (cut m.memory holder address).table q b
  taken_at q b = ap (λ (s : PageState). entry_at s.table q b) taken.is

  pub take_leaves_none : (q b : ℕ) → AllHaveOwnAddresses m.memory.table → IsOrCameOf m.memory.table holder address q b → entry_at (served m p pc (call.Take holder address)).memory.table q b ≡ None
  take_leaves_none q b own (inl itself) = taken_at q b ∙ (ap (λ (n : ℕ). entry_at (cut m.memory holder address).table n b) itself.0
      ∙ (ap (entry_at (cut m.memory holder address).table holder) itself.1 ∙ taken_itself m.memory.table holder address))
  take_leaves_none q b own (inr came) = taken_at q b ∙ taken_gone m.memory.table holder address q b own came

  pub take_reaches : (q b : ℕ) → AllHaveOwnAddresses m.memory.table → IsOrCameOf m.memory.table holder address q b → IsOutOfReach (served m p pc (call.Take holder address)).memory.table q b
  take_reaches q b own of = none_reached (served m p pc (call.Take holder address)).memory.table q b (take_leaves_none q b own of)

  pub take_leaves_others : (q b : ℕ) → 0 < q → (IsOrCameOf m.memory.table holder address q b → ⊥) → entry_at (served m p pc (call.Take holder address)).memory.table q b ≡ entry_at m.memory.table q b
  take_leaves_others q b over none = taken_at q b ∙ taken_stays m.memory.table holder address q b
      (elsewhere m.memory.table holder address q b (counted m holder taken.lives) over none) (λ (came : CameOf m.memory.table holder address q b). none (inr came))

-- Revoke.

-- what a revoke does
record IsForbidden (alive : ℕ → Bool) (s t : PageState) (p a rule : ℕ) : Type 0 where
  lives : alive p ≡ true
  old : HasGrant (entry_at s.table p a)
  is : t ≡ forbidden s p a rule

revoke_done : (alive : ℕ → Bool) (s : PageState) (p a rule : ℕ) → OfDone (λ (t : PageState). IsForbidden alive s t p a rule) (revoke alive s p a rule)
revoke_done alive s p a rule =
    let P : PageState → Type 0 = λ (t : PageState). IsForbidden alive s t p a rule in
    unless_refused P (refused 12 (not (alive p))) _ (λ living. unless_refused P (not_page a) _ (λ _.
    unless_refused P (no_right s p a) (Ok (forbidden s p a rule)) (λ has. record { lives = not_true (alive p) (not_refused 12 _ living); old = right_there s p a has; is = refl })))

module _ (m : State) (k holder address : ℕ) (done : command_refusal m k (command.Revoke holder address) ≡ None) where
  revoked : IsForbidden (lives m) m.memory (after_command m k (command.Revoke holder address)).memory holder address (1000 + k)
  revoked = logged_left (λ (t : PageState). IsForbidden (lives m) m.memory t holder address (1000 + k)) m k (revoke (lives m) m.memory holder address (1000 + k)) done (revoke_done (lives m) m.memory holder address (1000 + k))

  revoked_at : (q b : ℕ) → entry_at (after_command m k (command.Revoke holder address)).memory.table q b ≡ entry_at (forbidden m.memory holder address (1000 + k)).table q b
  revoked_at q b = ap (λ (s : PageState). entry_at s.table q b) revoked.is

  pub revoke_leaves_rule : (q b : ℕ) → IsOrCameOf m.memory.table holder address q b → entry_at (after_command m k (command.Revoke holder address)).memory.table q b ≡ Some (forbidden_by (1000 + k))
  revoke_leaves_rule q b (inl itself) = revoked_at q b ∙ (ap (λ (n : ℕ). entry_at (forbidden m.memory holder address (1000 + k)).table n b) itself.0
      ∙ (ap (entry_at (forbidden m.memory holder address (1000 + k)).table holder) itself.1 ∙ revoked_itself m.memory.table holder address (forbidden_by (1000 + k)) revoked.old.grant revoked.old.is))
  revoke_leaves_rule q b (inr came) = revoked_at q b ∙ revoked_came m.memory.table holder address (forbidden_by (1000 + k)) revoked.old.grant revoked.old.is q b came

  pub revoke_reaches : (q b : ℕ) → IsOrCameOf m.memory.table holder address q b → IsOutOfReach (after_command m k (command.Revoke holder address)).memory.table q b
  revoke_reaches q b of = nothing_reached (after_command m k (command.Revoke holder address)).memory.table q b (1000 + k) (revoke_leaves_rule q b of)

  pub revoke_leaves_others : (q b : ℕ) → 0 < q → (IsOrCameOf m.memory.table holder address q b → ⊥) → entry_at (after_command m k (command.Revoke holder address)).memory.table q b ≡ entry_at m.memory.table q b
  revoke_leaves_others q b over none = revoked_at q b ∙ revoked_stays m.memory.table holder address (forbidden_by (1000 + k)) revoked.old.grant revoked.old.is q b
      (elsewhere m.memory.table holder address q b (counted m holder revoked.lives) over none) (λ (came : CameOf m.memory.table holder address q b). none (inr came))

-- Copies.

-- what a give by mode 3 puts where nothing was
record IsGivenCopy (s t : PageState) (receiver to : ℕ) : Type 0 where
  free : entry_at s.table receiver to ≡ None
  grant : Grant
  none : grant.parent ≡ None
  is : t.table ≡ with_entry s.table receiver to grant

not_there : (o : Option Grant) → is_some o ≡ false → o ≡ None
not_there None e = refl
not_there (Some g) e = false_is_not_true (sym e)

give_done : (alive : ℕ → Bool) (s : PageState) (caller a receiver to : ℕ) → OfDone (λ (t : PageState). IsGivenCopy s t receiver to) (give alive s caller a receiver to 3)
give_done alive s caller a receiver to =
    let P : PageState → Type 0 = λ (t : PageState). IsGivenCopy s t receiver to in
    let g = unwrap_or (entry_at s.table caller a) no_grant in
    unless_refused P (refused 12 (not (alive receiver))) _ (λ _. unless_refused P (not_page a) _ (λ _. unless_refused P (not_page to) _ (λ _.
    unless_refused P (no_right s caller a) _ (λ _. unless_refused P (refused 15 (may_not_give g 3)) _ (λ _.
    unless_refused P (refused 16 (is_some (entry_at s.table receiver to))) _ (λ free. unless_refused P (table_full s receiver to) _ (λ _.
    unless_refused P (fifth_region s receiver to) _ (λ _. unless_refused P (no_frames s 3) (Ok (given s caller a g receiver to 3)) (λ _.
    record {
      free = not_there (entry_at s.table receiver to) (not_refused 16 _ free);
      grant = record g { right = Write; page = Some (fresh s.pages); giver = caller; parent = None; until = None };
      none = refl;
      is = refl;
    })))))))))

-- what stands in a place that was free is what was put
put_here : (t : Table) (p a : ℕ) (g h : Grant) → entry_at t p a ≡ None → entry_at (with_entry t p a g) p a ≡ Some h → h ≡ g
put_here t p a g h free e = elim (row_cases t (p - 1) (p - 1) a (put (entries_of t p) a g) h e) [
  | inl here ↦ one_grant g h (sym (found_put_same (entries_of t p) a g) ∙ here)
  | inr before ↦ no_grant_found h (sym free ∙ before)
]

-- a copy came of no entry
pub copy_is_apart : (m : State) (p pc address receiver to holder at : ℕ) → refused_by (give (lives m) m.memory p address receiver to 3) ≡ None
    → CameOf (served m p pc (call.Give address receiver to 3)).memory.table holder at receiver to → ⊥
copy_is_apart m p pc address receiver to holder at done came =
    let t = (served m p pc (call.Give address receiver to 3)).memory.table in
    let c = denied_left (λ (s : PageState). IsGivenCopy m.memory s receiver to) m p pc address (give (lives m) m.memory p address receiver to 3) done (give_done (lives m) m.memory p address receiver to) in
    let is = put_here m.memory.table receiver to c.grant came.grant c.free (ap (λ (x : Table). entry_at x receiver to) (sym c.is) ∙ came.held) in
    let none : came.grant.parent ≡ None = ap (λ (g : Grant). g.parent) is ∙ c.none in
    false_is_not_true (sym (comes_of_none t holder at came.steps) ∙ subst (λ (parent : Option EntryPlace). comes_from t holder at came.steps parent ≡ true) none came.way)

-- Drops.

without_passes_on : (t : Table) (p a : ℕ) → 0 < p → PassesOn t (without_entry t p a) p a
without_passes_on t p a above =
    let parent = parent_of (entry_at t p a) in
    record {
      gone = without_gone t p a p refl;
      shared = λ q b g over apart held child. without_left t p a q b (rows p a q b above over apart)
          ∙ (ap (option_map (handed_grant p a parent)) held ∙ ap (λ (c : Bool). Some (record g { parent = cond c parent g.parent })) child);
      others = λ q b g over apart held none. without_left t p a q b (rows p a q b above over apart)
          ∙ (ap (option_map (handed_grant p a parent)) held ∙ ap (λ (c : Bool). Some (record g { parent = cond c parent g.parent })) none);
      new = λ q b none. none_without t p a q b none;
    }
  where
    rows : (p a q b : ℕ) → 0 < p → 0 < q → (q ≢ p) ⊎ (b ≢ a) → (q - 1 ≢ p - 1) ⊎ (b ≢ a)
    rows p a q b above over (inl other) = inl (other_row p q above over other)
    rows p a q b above over (inr apart) = inr apart

-- what a drop does
record IsRemoved (alive : Bool) (s t : PageState) (p a : ℕ) : Type 0 where
  lives : alive ≡ true
  is : t.table ≡ without_entry s.table p a

own_done : (s : PageState) (p a : ℕ) → OfDone (λ (t : PageState). IsRemoved true s t p a) (drop_own s p a)
own_done s p a =
    let P : PageState → Type 0 = λ (t : PageState). IsRemoved true s t p a in
    unless_refused P (not_page a) _ (λ _. unless_refused P (no_right s p a) (Ok (removed s p a)) (λ _. record { lives = refl; is = refl }))

drop_done : (alive : ℕ → Bool) (s : PageState) (p a : ℕ) → OfDone (λ (t : PageState). IsRemoved (alive p) s t p a) (drop_by_command alive s p a)
drop_done alive s p a =
    let P : PageState → Type 0 = λ (t : PageState). IsRemoved (alive p) s t p a in
    unless_refused P (refused 12 (not (alive p))) _ (λ living. unless_refused P (not_page a) _ (λ _.
    unless_refused P (no_entry s p a) (Ok (removed s p a)) (λ _. record { lives = not_true (alive p) (not_refused 12 _ living); is = refl })))

pub drop_passes_on : (m : State) (p pc address : ℕ) → 0 < p → refused_by (drop_own m.memory p address) ≡ None → PassesOn m.memory.table (served m p pc (call.Drop address)).memory.table p address
drop_passes_on m p pc address above done =
    let d = number_left (λ (t : PageState). IsRemoved true m.memory t p address) m p (drop_own m.memory p address) done (own_done m.memory p address) in
    subst (λ (t : Table). PassesOn m.memory.table t p address) (sym d.is) (without_passes_on m.memory.table p address above)

pub command_passes_on : (m : State) (k p address : ℕ) → command_refusal m k (command.Drop p address) ≡ None → PassesOn m.memory.table (after_command m k (command.Drop p address)).memory.table p address
command_passes_on m k p address done =
    let d = logged_left (λ (t : PageState). IsRemoved (lives m p) m.memory t p address) m k (drop_by_command (lives m) m.memory p address) done (drop_done (lives m) m.memory p address) in
    subst (λ (t : Table). PassesOn m.memory.table t p address) (sym d.is) (without_passes_on m.memory.table p address (counted m p d.lives))

-- Ends.

pub ended_hands_on : (m : State) (p : ℕ) → 0 < p → HandsOn m.memory.table (ended m p).memory.table p
ended_hands_on m p above =
    let t = m.memory.table in
    record {
      gone = λ b. all_gone p (entries_of t p) t (λ x e. e) b;
      stay = λ q b g over apart held. let on = rest_stays t p q b g (other_row p q above over apart) held in record { parent = on.parent; is = on.is };
      new = λ q b over apart none. none_stays p (entries_of t p) t q b (other_row p q above over apart) none;
      nearest = λ q b g up over apart held way. nearest_stays t p q b g up (other_row p q above over apart) held way;
    }

pub exit_hands_on : (m : State) (p pc : ℕ) → 0 < p → HandsOn m.memory.table (served m p pc call.Exit).memory.table p
exit_hands_on m p pc above = ended_hands_on m p above

pub stop_hands_on : (m : State) (k p : ℕ) → lives m p ≡ true → HandsOn m.memory.table (after_command m k (command.Stop p)).memory.table p
stop_hands_on m k p living =
    subst (λ (c : Bool). HandsOn m.memory.table (cond (not c) (refuse_command m k 12) (ended m p)).memory.table p) (sym living) (ended_hands_on m p (counted m p living))
