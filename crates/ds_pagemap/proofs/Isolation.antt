-- A process keeps what it has, whatever another one does that did not give it.
use Rattle.std.proofs.Common.{◌≡◌, ◌≢◌, ◌⊎◌, ℕ, ◌+◌, ◌<◌, ◌==◌, not, if◌then◌else◌, List, [], ◌∷◌, true, false, Option, Some, None, Result, Ok, Err, is_some, unwrap_or, refl, sym, ap, ◌∙◌, subst, inl, inr, eqb-true}
use Rattle.ds_policy.specs.declared.grant.Grant.{Grant}
use Rattle.ds_policy.specs.declared.grant.Entry.{Entry}
use Rattle.ds_policy.specs.declared.grant.Right.TheVariants.{Read, Write}
use Rattle.ds_policy.specs.Pages.{Table, entries_of, entry_at, with_entry, fresh}
use Rattle.ds_policy.specs.Families.{comes_from, count_entries, cut_entry}
use Rattle.ds_policy.specs.Grants.{PageState, refused, has_right, not_page, no_right, table_full, fifth_region, no_frames, may_not_give, no_grant, granted, copied, removed, cut, shared_from, give, take, drop_own}
use Rattle.ds_word.specs.Word.{word}
use Rattle.ds_procs.specs.declared.call.Call.{Call}
use Rattle.ds_procs.specs.declared.call.Call.TheVariants as call
use Rattle.ds_procs.specs.Calls.{call_of}
use Rattle.ds_pagemap.specs.Machine.{State, process_of, lives}
use Rattle.ds_pagemap.specs.Calls.{served, or_number, or_denied, after_get, after_wait, queue_of, answered}
use Rattle.ds_pagemap.specs.Unit.{Outcome, Went, Branched, Called, Stopped, instruction, after_instruction, unit_of_first, unit, settle, at_pc}
use Rattle.ds_pagemap.specs.Laws.{but_parent, KeepsAllButParent, is_held_by, IsOfOthers}
use Rattle.ds_pagemap.proofs.Refusals.{IfDone, if_or_else, if_unless, if_either, not_true, alive_above}
use Rattle.ds_pagemap.proofs.Entries.{entry_at-with_entry}
use Rattle.ds_pagemap.proofs.Remaining.{Stays, stays_same, held_elsewhere, removed_follows, ended_follows, cut_same}
use Rattle.ds_pagemap.proofs.Units.{after_instruction-table, leaves_instruction}

-- an entry that is free is not one that is there
apart_from_free : (t : Table) (q b receiver to : ℕ) (g : Grant) → entry_at t q b ≡ Some g → is_some (entry_at t receiver to) ≡ false → q ≡ receiver → b ≢ to
apart_from_free t q b receiver to g has free is at =
    let same : entry_at t receiver to ≡ Some g = ap (λ n. entry_at t n to) (sym is) ∙ (ap (λ n. entry_at t q n) (sym at) ∙ has) in
    true_is_not_false (sym (ap is_some same) ∙ free)
  where
    true_is_not_false : true ≡ false → ⊥
    true_is_not_false e = cc

-- nor is one that the caller gave one that it did not give
apart_from_given : (t : Table) (q b p a caller : ℕ) (g : Grant) → entry_at t q b ≡ Some g → g.giver ≢ caller → (unwrap_or (entry_at t p a) no_grant).giver ≡ caller → q ≡ p → b ≢ a
apart_from_given t q b p a caller g has other gave is at =
    let same : entry_at t p a ≡ Some g = ap (λ n. entry_at t n a) (sym is) ∙ (ap (λ n. entry_at t q n) (sym at) ∙ has) in
    other (sym (ap (λ o. (unwrap_or o no_grant).giver) same) ∙ gave)

module _ (m : State) (p q b : ℕ) (g : Grant) (p_above : 0 < p) (q_above : 0 < q) (apart : q ≢ p) where
  -- process q keeps the entry at b, but for a parent that the caller has
  abbrev Keeps : Table → Type 0
  Keeps u = Stays (is_held_by p g.parent) g (entry_at u q b)

  whole : (u : Table) → entry_at u q b ≡ Some g → Keeps u
  whole u has = stays_same (is_held_by p g.parent) g (entry_at u q b) has

  give_keeps : (s : PageState) (address receiver to mode : ℕ) → entry_at s.table q b ≡ Some g → IfDone Keeps (give (lives m) s p address receiver to mode)
  give_keeps s address receiver to mode has =
      if_unless Keeps 12 (not (lives m receiver)) _ (λ alive.
      if_or_else Keeps (not_page address) _ (
      if_or_else Keeps (not_page to) _ (
      if_or_else Keeps (no_right s p address) _ (
      if_or_else Keeps (refused 15 (may_not_give (unwrap_or (entry_at s.table p address) no_grant) mode)) _ (
      if_unless Keeps 16 (is_some (entry_at s.table receiver to)) _ (λ free.
      if_or_else Keeps (table_full s receiver to) _ (
      if_or_else Keeps (fifth_region s receiver to) _ (
      if_or_else Keeps (no_frames s mode) _ (
      let giver = unwrap_or (entry_at s.table p address) no_grant in
      let put : (x : Grant) → Keeps (with_entry s.table receiver to x) = λ x.
      whole (with_entry s.table receiver to x) (entry_at-with_entry s.table receiver to x q b (alive_above m receiver alive) q_above (apart_from_free s.table q b receiver to g has free) ∙ has) in
      let copy : Grant = record giver { right = Write; page = Some (fresh s.pages); giver = p; parent = None; until = None } in
      if_either Keeps (mode == 1) (granted s receiver to (shared_from p address giver Read))
      (if mode == 2 then granted s receiver to (shared_from p address giver Write) else granted (copied s giver.page) receiver to copy)
      (put (shared_from p address giver Read))
      (if_either Keeps (mode == 2) (granted s receiver to (shared_from p address giver Write)) (granted (copied s giver.page) receiver to copy)
      (put (shared_from p address giver Write)) (put copy)))))))))))

  take_keeps : (s : PageState) (process address : ℕ) → IsOfOthers s.table p (record { address = b; grant = g }) → entry_at s.table q b ≡ Some g → IfDone Keeps (take (lives m) s p process address)
  take_keeps s process address other has =
      if_unless Keeps 12 (not (lives m process)) _ (λ alive.
      if_or_else Keeps (not_page address) _ (
      if_unless Keeps 14 (not (has_right (entry_at s.table process address))) _ (λ stands.
      if_unless Keeps 19 (not ((unwrap_or (entry_at s.table process address) no_grant).giver == p)) (Ok (cut s process address)) (λ gave.
      let given_by : (unwrap_or (entry_at s.table process address) no_grant).giver ≡ p = eqb-true _ _ (not_true _ gave) in
      let above = alive_above m process alive in
      whole (cut_entry s.table process address) (cut_same s.table process address q b g above q_above
      (apart_from_given s.table q b process address p g has other.itself given_by)
      (not_below s.table process address other above (entry_at s.table process address) refl (not_true _ stands) given_by) has)))))
    where
      not_below : (t : Table) (r c : ℕ) → IsOfOthers t p (record { address = b; grant = g }) → 0 < r → (o : Option Grant) → entry_at t r c ≡ o → has_right o ≡ true → (unwrap_or o no_grant).giver ≡ p
          → comes_from t r c (count_entries t) g.parent ≡ false
      not_below t r c other above None is stands gave = absurd (cc)
      not_below t r c other above (Some x) is stands gave = other.above r c x above is gave

  drop_keeps : (s : PageState) (address : ℕ) → entry_at s.table q b ≡ Some g → IfDone Keeps (drop_own s p address)
  drop_keeps s address has =
      if_or_else Keeps (not_page address) _ (
      if_or_else Keeps (no_right s p address) (Ok (removed s p address)) (
      let left = (removed_follows p q b p_above q_above apart s.table address g has).stays in
      record { new = left.new; is = left.is; but_parent = left.but_parent; same = λ e. left.same (held_elsewhere p address g.parent e) }))

  or_number_keeps : (t : State) (r : Result PageState ℕ) → Keeps t.memory.table → IfDone Keeps r → Keeps (or_number t p r).memory.table
  or_number_keeps t (Ok s) has k = k
  or_number_keeps t (Err number) has k = has

  or_denied_keeps : (t : State) (pc address : ℕ) (r : Result PageState ℕ) → Keeps t.memory.table → IfDone Keeps r → Keeps (or_denied t p pc address r).memory.table
  or_denied_keeps t pc address (Ok s) has k = k
  or_denied_keeps t pc address (Err number) has k = has

  after_get_keeps : (t : State) (queue : List ℕ) → Keeps t.memory.table → Keeps (after_get t p queue).memory.table
  after_get_keeps t [] has = has
  after_get_keeps t (byte ∷ rest) has = has

  after_wait_keeps : (t : State) (queue : List ℕ) → Keeps t.memory.table → Keeps (after_wait t p queue).memory.table
  after_wait_keeps t [] has = has
  after_wait_keeps t (byte ∷ rest) has = has

  served_keeps : (pc : ℕ) (c : Call) → IsOfOthers m.memory.table p (record { address = b; grant = g }) → entry_at m.memory.table q b ≡ Some g → Keeps (served m p pc c).memory.table
  served_keeps pc call.Exit other has = (ended_follows p q b p_above q_above apart (entries_of m.memory.table p) m.memory.table g has).stays
  served_keeps pc (call.Put byte) other has = whole m.memory.table has
  served_keeps pc call.Get other has = after_get_keeps m (queue_of m p) (whole m.memory.table has)
  served_keeps pc call.Yield other has = whole m.memory.table has
  served_keeps pc call.Time other has = whole m.memory.table has
  served_keeps pc call.Own other has = whole m.memory.table has
  served_keeps pc (call.Give address receiver to mode) other has =
      or_denied_keeps m pc address (give (lives m) m.memory p address receiver to mode) (whole m.memory.table has) (give_keeps m.memory address receiver to mode has)
  served_keeps pc (call.Take process address) other has =
      or_number_keeps m (take (lives m) m.memory p process address) (whole m.memory.table has) (take_keeps m.memory process address other has)
  served_keeps pc (call.Drop address) other has = or_number_keeps m (drop_own m.memory p address) (whole m.memory.table has) (drop_keeps m.memory address has)
  served_keeps pc call.Wait other has = after_wait_keeps (answered m p 0) (queue_of m p) (whole m.memory.table has)
  served_keeps pc call.Unknown other has = whole m.memory.table has

-- the outcome of an instruction is a call or it isn't
is_call : (o : Outcome) → (o ≡ Called) ⊎ (o ≢ Called)
is_call (Went t) = inr (λ e. cc)
is_call (Branched t target) = inr (λ e. cc)
is_call Called = inl refl
is_call (Stopped stop) = inr (λ e. cc)

-- what a unit of process p leaves of an entry of another, of which p gave nothing
unit_leaves : (m : State) (p : ℕ) (rest : List ℕ) (q : ℕ) (e : Entry) → m.ready ≡ p ∷ rest → 0 < p → 0 < q → q ≢ p → IsOfOthers m.memory.table p e → entry_at m.memory.table q e.address ≡ Some e.grant
    → Stays (is_held_by p e.grant.parent) e.grant (entry_at (unit m).memory.table q e.address)
unfolding unit
unit_leaves m p rest q e is p_above q_above apart other has =
    let pc = (process_of m p).pc in
    let o = instruction m p pc in
    let first : (unit_of_first m m.ready).memory.table ≡ (after_instruction m p pc o).memory.table = ap (λ ready. (unit_of_first m ready).memory.table) is in
    let after = at_pc (settle m p) p (word (pc + 4)) in
    let lost = is_held_by p e.grant.parent in
    subst (λ t. Stays lost e.grant (entry_at t q e.address)) (sym first) (elim (is_call o) [
      | inl called ↦ subst (λ o. Stays lost e.grant (entry_at (after_instruction m p pc o).memory.table q e.address)) (sym called)
          (served_keeps after p q e.address e.grant p_above q_above apart pc (call_of (process_of after p).registers.general) other has)
      | inr no_call ↦ stays_same lost e.grant (entry_at (after_instruction m p pc o).memory.table q e.address)
          (ap (λ t. entry_at t q e.address) (after_instruction-table m p pc o (leaves_instruction m p pc) no_call) ∙ has)
    ])

-- it stays but for its parent
pub unit_keeps_entry : (m : State) (p : ℕ) (rest : List ℕ) (q : ℕ) (e : Entry) → m.ready ≡ p ∷ rest → 0 < p → 0 < q → q ≢ p → IsOfOthers m.memory.table p e → entry_at m.memory.table q e.address ≡ Some e.grant
    → KeepsAllButParent (Some e.grant) (entry_at (unit m).memory.table q e.address)
unit_keeps_entry m p rest q e is p_above q_above apart other has =
    let left = unit_leaves m p rest q e is p_above q_above apart other has in
    ap but_parent left.is ∙ left.but_parent

-- and with its parent, where p doesn't have that
pub unit_keeps_parent : (m : State) (p : ℕ) (rest : List ℕ) (q : ℕ) (e : Entry) → m.ready ≡ p ∷ rest → 0 < p → 0 < q → q ≢ p → IsOfOthers m.memory.table p e → is_held_by p e.grant.parent ≡ false
    → entry_at m.memory.table q e.address ≡ Some e.grant → entry_at (unit m).memory.table q e.address ≡ Some e.grant
unit_keeps_parent m p rest q e is p_above q_above apart other elsewhere has =
    let left = unit_leaves m p rest q e is p_above q_above apart other has in
    left.is ∙ ap Some (left.same elsewhere)
