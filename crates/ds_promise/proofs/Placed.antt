-- What changes of a table, calls and commands keep of what stands at each place.
use Rattle.std.proofs.Common.{◌≡◌, ◌≢◌, ◌⊎◌, inl, inr, ℕ, ◌+◌, ◌-◌, Bool, true, false, cond, not, ◌==◌, List, [], ◌∷◌, Option, Some, None, Result, Ok, Err, refl, sym, ap, ◌∙◌, subst}
use Rattle.std.specs.Prelude.{is_some, unwrap_or, slice_index_or}
use Rattle.std.proofs.lemmas.Bool.{cases_eq}
use Rattle.std.proofs.lemmas.List.{get_or-set_other}
use Rattle.ds_procs.specs.declared.call.Call.{Call}
use Rattle.ds_procs.specs.declared.call.Call.TheVariants as call
use Rattle.ds_policy.specs.declared.command.Command.{Command}
use Rattle.ds_policy.specs.declared.command.Command.TheVariants as command
use Rattle.ds_policy.specs.declared.grant.Right.{Right}
use Rattle.ds_policy.specs.declared.grant.Right.TheVariants.{Read, Write}
use Rattle.ds_policy.specs.declared.grant.Grant.{Grant}
use Rattle.ds_policy.specs.declared.grant.Entry.{Entry}
use Rattle.ds_policy.specs.declared.grant.EntryPlace.{EntryPlace}
use Rattle.ds_policy.specs.Pages.{Table, entries_of, found, put, entry_at, with_entry, fresh}
use Rattle.ds_policy.specs.Families.{parent_of, descends, without_entry, without_entries, cut_entry, forbid_entry}
use Rattle.ds_policy.specs.Grants.{PageState, refused, not_page, is_some_right, has_right, no_right, no_entry, no_grant, table_full, fifth_region, no_frames, may_not_give, live_only, granted, removed, cut, forbidden_by, forbidden, shared_from, copied, given, give, take as take_back, drop_own, grant, narrow, revoke, drop_by_command}
use Rattle.ds_policy.specs.Ends.{has_some_expired, expired_table, expired}
use Rattle.ds_pagemap.specs.Machine.{State, process_of, is_parked, lives, made_ready}
use Rattle.ds_pagemap.specs.Calls.{served, answered, or_number, or_denied, after_get, after_wait, queue_of, after_command, or_logged, refuse_command, ended}
use Rattle.ds_promise.specs.Families.{AllHaveOwnAddresses}
use Rattle.ds_promise.specs.Lines.{refused_by}
use Rattle.ds_promise.proofs.Entries.{no_grant_found, one_grant, found_put_same, found_put_other, handed, handed_grant, same_place, without_left, without_gone}
use Rattle.ds_promise.proofs.Reach.{pruned, pruned_at, forbidden_grant, marked, marked_at}
use Rattle.ds_promise.proofs.Tables.{row_cases, found_before, was_another, expired_grant, expired_at}
use Rattle.ds_promise.proofs.WholePages.{OfDone, unless_refused, not_refused, not_true, right_there}

-- all that a table grants meets P, of the row and the address
abbrev pub AllPlaced : (ℕ → ℕ → Grant → Type 0) → Table → Type 0
AllPlaced P t = (q b : ℕ) (g : Grant) → entry_at t q b ≡ Some g → P (q - 1) b g

-- what a table has elsewhere once a grant is put, it had before
pub put_before : (t : Table) (p a : ℕ) (g : Grant) (q b : ℕ) (h : Grant) → (q - 1 ≢ p - 1) ⊎ (b ≢ a) → entry_at (with_entry t p a g) q b ≡ Some h → entry_at t q b ≡ Some h
put_before t p a g q b h (inl other) e = ap (λ (es : List Entry). found es b) (sym (get_or-set_other t (p - 1) (q - 1) (put (entries_of t p) a g) [] other)) ∙ e
put_before t p a g q b h (inr apart) e = elim (cases_eq (q - 1) (p - 1)) [
  | inr other ↦ ap (λ (es : List Entry). found es b) (sym (get_or-set_other t (p - 1) (q - 1) (put (entries_of t p) a g) [] other)) ∙ e
  | inl is ↦ elim (row_cases t (p - 1) (q - 1) b (put (entries_of t p) a g) h e) [
    | inl here ↦ ap (λ (i : ℕ). found (slice_index_or t i []) b) is ∙ (sym (found_put_other (entries_of t p) a b g apart) ∙ here)
    | inr there ↦ there
  ]
]

-- P says nothing of parents, is kept where a right becomes the right to read, and holds where there
-- is no right
module _ (P : ℕ → ℕ → Grant → Type 0)
    (any_parent : (i b : ℕ) (g : Grant) (parent : Option EntryPlace) → P i b g → P i b (record g { parent = parent }))
    (reads : (i b : ℕ) (g : Grant) → is_some_right g.right ≡ true → P i b g → P i b (record g { right = Read }))
    (none : (i b rule : ℕ) → P i b (forbidden_by rule)) where
  abbrev Keeps : PageState → Type 0
  Keeps s = AllPlaced P s.table

  moved : (i j b a : ℕ) (g h : Grant) → i ≡ j → b ≡ a → h ≡ g → P j a g → P i b h
  moved i j b a g h is same one has = subst (λ (x : ℕ). P x b h) (sym is) (subst (λ (x : ℕ). P j x h) (sym same) (subst (P j a) (sym one) has))

  pub with_entry_placed : (t : Table) (p a : ℕ) (g : Grant) → AllPlaced P t → P (p - 1) a g → AllPlaced P (with_entry t p a g)
  with_entry_placed t p a g all new q b h e = elim (same_place q b p a) [
    | inl same ↦ elim (row_cases t (p - 1) (q - 1) b (put (entries_of t p) a g) h e) [
      | inl here ↦ moved (q - 1) (p - 1) b a g h same.0 same.1 (one_grant g h (sym (found_put_same (entries_of t p) a g) ∙ subst (λ (place : ℕ). found (put (entries_of t p) a g) place ≡ Some h) same.1 here)) new
      | inr there ↦ all q b h there
    ]
    | inr apart ↦ all q b h (put_before t p a g q b h apart e)
  ]

  without_entry_placed : (t : Table) (p a : ℕ) → AllPlaced P t → AllPlaced P (without_entry t p a)
  without_entry_placed t p a all q b h e = elim (same_place q b p a) [
    | inl same ↦ no_grant_found h (sym (without_gone t p a q same.0) ∙ (ap (entry_at (without_entry t p a) q) (sym same.1) ∙ e))
    | inr apart ↦
        let above = parent_of (entry_at t p a) in
        let w = was_another (handed_grant p a above) (entry_at t q b) h (sym (without_left t p a q b apart) ∙ e) in
        subst (P (q - 1) b) (sym w.is) (any_parent (q - 1) b w.old (handed p a above w.old.parent) (all q b w.old w.was))
  ]

  without_entries_placed : (p : ℕ) (es : List Entry) (t : Table) → AllPlaced P t → AllPlaced P (without_entries t p es)
  without_entries_placed p [] t all = all
  without_entries_placed p (e ∷ rest) t all = without_entries_placed p rest (without_entry t p e.address) (without_entry_placed t p e.address all)

  cut_placed : (t : Table) (p a : ℕ) → AllHaveOwnAddresses t → AllPlaced P t → AllPlaced P (cut_entry t p a)
  cut_placed t p a own all = without_entry_placed (pruned t p a) p a
      (λ q b h e. all q b h (found_before (λ x. not (descends t p a x)) (entries_of t q) b h (own q) (sym (pruned_at t p a q b) ∙ e)))

  forbid_placed : (t : Table) (p a rule : ℕ) → AllPlaced P t → AllPlaced P (forbid_entry t p a (forbidden_by rule))
  forbid_placed t p a rule all = with_entry_placed (marked t p a (forbidden_by rule)) p a (forbidden_by rule) still (none (p - 1) a rule)
    where
      either : (c : Bool) (i b : ℕ) (old : Grant) → P i b old → P i b (cond c (forbidden_by rule) old)
      either true i b old was = none i b rule
      either false i b old was = was

      still : AllPlaced P (marked t p a (forbidden_by rule))
      still q b h e =
          let w = was_another (forbidden_grant t p a (forbidden_by rule)) (entry_at t q b) h (sym (marked_at t p a (forbidden_by rule) q b) ∙ e) in
          subst (P (q - 1) b) (sym w.is) (either _ (q - 1) b w.old (all q b w.old w.was))

  expire_placed : (time : ℕ) (t : Table) → AllPlaced P t → AllPlaced P (expired_table time t)
  expire_placed time t all q b h e =
      let w = was_another (expired_grant time) (entry_at t q b) h (sym (expired_at time t q b) ∙ e) in
      subst (P (q - 1) b) (sym w.is) (either _ (q - 1) b w.old (all q b w.old w.was))
    where
      either : (c : Bool) (i b : ℕ) (old : Grant) → P i b old → P i b (cond c (forbidden_by old.rule) old)
      either true i b old was = none i b old.rule
      either false i b old was = was

  pub expired_placed : (s : PageState) (time : ℕ) → AllPlaced P s.table → AllPlaced P (expired s time).table
  expired_placed s time all = by (has_some_expired time s.table)
    where
      by : (c : Bool) → AllPlaced P (cond c (live_only (record s { table = expired_table time s.table })) s).table
      by true = expire_placed time s.table all
      by false = all

  -- Commands.

  -- what a command grants, if it grants something and isn't refused, meets P
  abbrev pub GrantIsPlaced : State → ℕ → Command → Type 0
  GrantIsPlaced m k (command.Grant p address page right give) =
      refused_by (grant (lives m) m.memory p address page right give (1000 + k)) ≡ None → lives m p ≡ true
      → P (p - 1) address (record { right = right; page = Some page; rule = 1000 + k; give = give; giver = 0; parent = None; until = None })
  GrantIsPlaced m k (command.Narrow p address) = Unit {0}
  GrantIsPlaced m k (command.Revoke p address) = Unit {0}
  GrantIsPlaced m k (command.Drop p address) = Unit {0}
  GrantIsPlaced m k (command.Resume p) = Unit {0}
  GrantIsPlaced m k (command.Stop p) = Unit {0}

  grant_placed : (alive : ℕ → Bool) (s : PageState) (p a page : ℕ) (right : Right) (leave : Bool) (rule : ℕ) → AllPlaced P s.table
      → (alive p ≡ true → P (p - 1) a (record { right = right; page = Some page; rule = rule; give = leave; giver = 0; parent = None; until = None }))
      → OfDone Keeps (grant alive s p a page right leave rule)
  grant_placed alive s p a page right leave rule all new =
      unless_refused Keeps (refused 12 (not (alive p))) _ (λ living. unless_refused Keeps (not_page a) _ (λ _. unless_refused Keeps (refused 16 (has_right (entry_at s.table p a))) _ (λ _.
      unless_refused Keeps (table_full s p a) _ (λ _. unless_refused Keeps (fifth_region s p a) (Ok (granted s p a _)) (λ _.
      with_entry_placed s.table p a _ all (new (not_true (alive p) (not_refused 12 _ living))))))))

  narrow_placed : (alive : ℕ → Bool) (s : PageState) (p a : ℕ) → AllPlaced P s.table → OfDone Keeps (narrow alive s p a)
  narrow_placed alive s p a all =
      let g = unwrap_or (entry_at s.table p a) no_grant in
      unless_refused Keeps (refused 12 (not (alive p))) _ (λ _. unless_refused Keeps (not_page a) _ (λ _. unless_refused Keeps (no_right s p a) (Ok (granted s p a (record g { right = Read }))) (λ has.
      let there = right_there s p a has in
      with_entry_placed s.table p a (record g { right = Read }) all
      (subst (λ (x : Grant). P (p - 1) a (record x { right = Read })) (sym there.same) (reads (p - 1) a there.grant there.right (all p a there.grant there.is))))))

  revoke_placed : (alive : ℕ → Bool) (s : PageState) (p a rule : ℕ) → AllPlaced P s.table → OfDone Keeps (revoke alive s p a rule)
  revoke_placed alive s p a rule all =
      unless_refused Keeps (refused 12 (not (alive p))) _ (λ _. unless_refused Keeps (not_page a) _ (λ _.
      unless_refused Keeps (no_right s p a) (Ok (forbidden s p a rule)) (λ _. forbid_placed s.table p a rule all)))

  drop_command_placed : (alive : ℕ → Bool) (s : PageState) (p a : ℕ) → AllPlaced P s.table → OfDone Keeps (drop_by_command alive s p a)
  drop_command_placed alive s p a all =
      unless_refused Keeps (refused 12 (not (alive p))) _ (λ _. unless_refused Keeps (not_page a) _ (λ _.
      unless_refused Keeps (no_entry s p a) (Ok (removed s p a)) (λ _. without_entry_placed s.table p a all)))

  ended_placed : (m : State) (p : ℕ) → AllPlaced P m.memory.table → AllPlaced P (ended m p).memory.table
  ended_placed m p all = without_entries_placed p (entries_of m.memory.table p) m.memory.table all

  logged_placed : (m : State) (k : ℕ) (r : Result PageState ℕ) → AllPlaced P m.memory.table → (refused_by r ≡ None → OfDone Keeps r) → AllPlaced P (or_logged m k r).memory.table
  logged_placed m k (Ok s) all done = done refl
  logged_placed m k (Err number) all done = all

  if_placed : (c : Bool) (s t : State) → AllPlaced P s.memory.table → AllPlaced P t.memory.table → AllPlaced P (cond c s t).memory.table
  if_placed true s t x y = x
  if_placed false s t x y = y

  pub command_placed : (m : State) (k : ℕ) (c : Command) → GrantIsPlaced m k c → AllPlaced P m.memory.table → AllPlaced P (after_command m k c).memory.table
  command_placed m k (command.Grant p address page right give) fine all =
      logged_placed m k (grant (lives m) m.memory p address page right give (1000 + k)) all (λ done. grant_placed (lives m) m.memory p address page right give (1000 + k) all (fine done))
  command_placed m k (command.Narrow p address) fine all = logged_placed m k (narrow (lives m) m.memory p address) all (λ _. narrow_placed (lives m) m.memory p address all)
  command_placed m k (command.Revoke p address) fine all = logged_placed m k (revoke (lives m) m.memory p address (1000 + k)) all (λ _. revoke_placed (lives m) m.memory p address (1000 + k) all)
  command_placed m k (command.Drop p address) fine all = logged_placed m k (drop_by_command (lives m) m.memory p address) all (λ _. drop_command_placed (lives m) m.memory p address all)
  command_placed m k (command.Resume p) fine all =
      if_placed (not (lives m p)) (refuse_command m k 12) (cond (not (is_parked (process_of m p).standing)) (refuse_command m k 15) (made_ready m p)) all
      (if_placed (not (is_parked (process_of m p).standing)) (refuse_command m k 15) (made_ready m p) all all)
  command_placed m k (command.Stop p) fine all = if_placed (not (lives m p)) (refuse_command m k 12) (ended m p) all (ended_placed m p all)

  -- Calls.

  -- whatever a call gives, if it gives something and isn't refused, meets P
  abbrev pub GiveIsPlaced : State → ℕ → Call → Type 0
  GiveIsPlaced m p call.Exit = Unit {0}
  GiveIsPlaced m p (call.Put byte) = Unit {0}
  GiveIsPlaced m p call.Get = Unit {0}
  GiveIsPlaced m p call.Yield = Unit {0}
  GiveIsPlaced m p call.Time = Unit {0}
  GiveIsPlaced m p call.Own = Unit {0}
  GiveIsPlaced m p (call.Give address receiver to mode) =
      refused_by (give (lives m) m.memory p address receiver to mode) ≡ None → lives m receiver ≡ true → (g : Grant) → P (receiver - 1) to g
  GiveIsPlaced m p (call.Take process address) = Unit {0}
  GiveIsPlaced m p (call.Drop address) = Unit {0}
  GiveIsPlaced m p call.Wait = Unit {0}
  GiveIsPlaced m p call.Unknown = Unit {0}

  one_of_three : (one two : Bool) (r s t : PageState) → AllPlaced P r.table → AllPlaced P s.table → AllPlaced P t.table → AllPlaced P (cond one r (cond two s t)).table
  one_of_three true two r s t x y z = x
  one_of_three false true r s t x y z = y
  one_of_three false false r s t x y z = z

  give_placed : (alive : ℕ → Bool) (s : PageState) (caller a receiver to mode : ℕ) → AllPlaced P s.table → (alive receiver ≡ true → (g : Grant) → P (receiver - 1) to g) → OfDone Keeps (give alive s caller a receiver to mode)
  give_placed alive s caller a receiver to mode all new =
      let g = unwrap_or (entry_at s.table caller a) no_grant in
      let copy = granted (copied s g.page) receiver to (record g { right = Write; page = Some (fresh s.pages); giver = caller; parent = None; until = None }) in
      unless_refused Keeps (refused 12 (not (alive receiver))) _ (λ living. unless_refused Keeps (not_page a) _ (λ _. unless_refused Keeps (not_page to) _ (λ _.
      unless_refused Keeps (no_right s caller a) _ (λ _. unless_refused Keeps (refused 15 (may_not_give g mode)) _ (λ _.
      unless_refused Keeps (refused 16 (is_some (entry_at s.table receiver to))) _ (λ _. unless_refused Keeps (table_full s receiver to) _ (λ _.
      unless_refused Keeps (fifth_region s receiver to) _ (λ _. unless_refused Keeps (no_frames s mode) (Ok (given s caller a g receiver to mode)) (λ _.
      let fine = new (not_true (alive receiver) (not_refused 12 _ living)) in
      one_of_three (mode == 1) (mode == 2) (granted s receiver to (shared_from caller a g Read)) (granted s receiver to (shared_from caller a g Write)) copy
      (with_entry_placed s.table receiver to _ all (fine _)) (with_entry_placed s.table receiver to _ all (fine _)) (with_entry_placed s.table receiver to _ all (fine _)))))))))))

  take_placed : (alive : ℕ → Bool) (s : PageState) (caller p a : ℕ) → AllHaveOwnAddresses s.table → AllPlaced P s.table → OfDone Keeps (take_back alive s caller p a)
  take_placed alive s caller p a own all =
      unless_refused Keeps (refused 12 (not (alive p))) _ (λ _. unless_refused Keeps (not_page a) _ (λ _. unless_refused Keeps (no_right s p a) _ (λ _.
      unless_refused Keeps (refused 19 (not ((unwrap_or (entry_at s.table p a) no_grant).giver == caller))) (Ok (cut s p a)) (λ _. cut_placed s.table p a own all))))

  drop_placed : (s : PageState) (caller a : ℕ) → AllPlaced P s.table → OfDone Keeps (drop_own s caller a)
  drop_placed s caller a all =
      unless_refused Keeps (not_page a) _ (λ _. unless_refused Keeps (no_right s caller a) (Ok (removed s caller a)) (λ _. without_entry_placed s.table caller a all))

  number_placed : (m : State) (p : ℕ) (r : Result PageState ℕ) → AllPlaced P m.memory.table → OfDone Keeps r → AllPlaced P (or_number m p r).memory.table
  number_placed m p (Ok s) all done = done
  number_placed m p (Err number) all done = all

  denied_placed : (m : State) (p pc address : ℕ) (r : Result PageState ℕ) → AllPlaced P m.memory.table → (refused_by r ≡ None → OfDone Keeps r) → AllPlaced P (or_denied m p pc address r).memory.table
  denied_placed m p pc address (Ok s) all done = done refl
  denied_placed m p pc address (Err number) all done = all

  get_placed : (m : State) (p : ℕ) (queue : List ℕ) → AllPlaced P m.memory.table → AllPlaced P (after_get m p queue).memory.table
  get_placed m p [] all = all
  get_placed m p (b ∷ rest) all = all

  wait_placed : (m : State) (p : ℕ) (queue : List ℕ) → AllPlaced P m.memory.table → AllPlaced P (after_wait m p queue).memory.table
  wait_placed m p [] all = all
  wait_placed m p (b ∷ rest) all = all

  pub served_placed : (m : State) (p pc : ℕ) (c : Call) → AllHaveOwnAddresses m.memory.table → GiveIsPlaced m p c → AllPlaced P m.memory.table → AllPlaced P (served m p pc c).memory.table
  served_placed m p pc call.Exit own fine all = ended_placed m p all
  served_placed m p pc (call.Put byte) own fine all = all
  served_placed m p pc call.Get own fine all = get_placed m p (queue_of m p) all
  served_placed m p pc call.Yield own fine all = all
  served_placed m p pc call.Time own fine all = all
  served_placed m p pc call.Own own fine all = all
  served_placed m p pc (call.Give address receiver to mode) own fine all =
      denied_placed m p pc address (give (lives m) m.memory p address receiver to mode) all (λ done. give_placed (lives m) m.memory p address receiver to mode all (fine done))
  served_placed m p pc (call.Take process address) own fine all = number_placed m p (take_back (lives m) m.memory p process address) all (take_placed (lives m) m.memory p process address own all)
  served_placed m p pc (call.Drop address) own fine all = number_placed m p (drop_own m.memory p address) all (drop_placed m.memory p address all)
  served_placed m p pc call.Wait own fine all = wait_placed (answered m p 0) p (queue_of m p) all
  served_placed m p pc call.Unknown own fine all = all
