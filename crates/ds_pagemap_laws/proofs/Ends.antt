-- No call and no command makes a right end earlier: where no right ends before a time, none does after it either.
use Rattle.std.proofs.Common.{get_or, ◌≡◌, ℕ, zero, suc, ◌+◌, ◌-◌, ◌<◌, ◌≤◌, ◌==◌, ◌&&◌, ◌||◌, not, is_some, unwrap_or, Bool, true, false, if◌then◌else◌, List, [], ◌∷◌, map, filter, set, Option, Some, None, Result, Ok, Err, refl, sym, ap, ◌∙◌, subst, arith}
use Rattle.std.specs.List.{list_any}
use Rattle.std.proofs.Math.Bool.{and-false}
use Rattle.std.proofs.lemmas.Bool.{or_parts, lt-leb, leb-false}
use Rattle.ds_policy.specs.declared.grant.Grant.{Grant}
use Rattle.ds_policy.specs.declared.grant.Entry.{Entry}
use Rattle.ds_policy.specs.declared.grant.EntryPlace.{EntryPlace}
use Rattle.ds_policy.specs.declared.grant.Right.{Right}
use Rattle.ds_policy.specs.declared.grant.Right.TheVariants.{Read, Write}
use Rattle.ds_policy.specs.declared.command.Command.{Command}
use Rattle.ds_policy.specs.declared.command.Command.TheVariants as command
use Rattle.ds_policy.specs.Pages.{Table, entries_of, found, put, entry_at, with_entry, erased_entry, fresh}
use Rattle.ds_policy.specs.Families.{parent_of, is_child, with_parent, handed_on, without_entry, without_entries, descends, forbidden_entry, cut_entry, forbid_entry}
use Rattle.ds_policy.specs.Grants.{PageState, is_some_right, refused, not_page, no_right, no_entry, has_right, table_full, fifth_region, no_frames, may_not_give, no_grant, granted, removed, cut, forbidden_by, forbidden, shared_from, copied, given, give, take, drop_own, grant, narrow, revoke, drop_by_command, end_process}
use Rattle.ds_policy.specs.Ends.{is_reached, has_expired, expired_entry, has_some_expired, expired_table, expired, NoneEndsBefore}
use Rattle.ds_procs.specs.declared.call.Call.{Call}
use Rattle.ds_procs.specs.declared.call.Call.TheVariants as call
use Rattle.ds_pagemap.specs.Machine.{State, process_of, is_parked, lives, made_ready}
use Rattle.ds_pagemap.specs.Calls.{after_command, or_logged, refuse_command, ended, served, or_number, or_denied, after_get, after_wait, queue_of, answered}
use Rattle.ds_pagemap.proofs.Refusals.{IfDone, if_or_else, if_unless, if_either, not_true}
use Rattle.ds_pagemap.proofs.Ends.{table_of_expired}

neither : (a b : Bool) → a ≡ false → b ≡ false → (a || b) ≡ false
neither true b e f = e
neither false b e f = f

-- At one time, no right has ended by which.
module _ (now : ℕ) where
  -- the right of a grant has ended by then
  abbrev is_over : Grant → Bool
  is_over g = is_some_right g.right && is_reached now g.until

  -- no right of a process's entries has
  abbrev Stand : List Entry → Type 0
  Stand es = list_any (has_expired now) es ≡ false

  -- no right in the table has
  abbrev AllStand : Table → Type 0
  AllStand t = has_some_expired now t ≡ false

  -- A right that had not ended, and is another one now, or has another giver and parent, has not ended.
  not_reached : (g : Grant) → is_some_right g.right ≡ true → is_over g ≡ false → is_reached now g.until ≡ false
  not_reached g some on = sym (ap (λ b. b && is_reached now g.until) some) ∙ on

  not_over : (right : Right) (g : Grant) → is_reached now g.until ≡ false → (is_some_right right && is_reached now g.until) ≡ false
  not_over right g on = ap (λ b. is_some_right right && b) on ∙ and-false (is_some_right right)

  -- Rows.

  put_stands : (es : List Entry) (a : ℕ) (g : Grant) → is_over g ≡ false → Stand es → Stand (put es a g)
  put_stands [] a g on stand = neither (is_over g) false on refl
  put_stands (e ∷ rest) a g on stand =
      let parts = or_parts (has_expired now e) (list_any (has_expired now) rest) stand in
      either (e.address == a) parts.0 parts.1 (put_stands rest a g on parts.1)
    where
      either : (here : Bool) → has_expired now e ≡ false → Stand rest → Stand (put rest a g) → Stand (if here then record { address = a; grant = g } ∷ rest else e ∷ put rest a g)
      either true own others after = neither (is_over g) (list_any (has_expired now) rest) on others
      either false own others after = neither (has_expired now e) (list_any (has_expired now) (put rest a g)) own after

  filter_stands : (keeps : Entry → Bool) (es : List Entry) → Stand es → Stand (filter keeps es)
  filter_stands keeps [] stand = refl
  filter_stands keeps (e ∷ rest) stand =
      let parts = or_parts (has_expired now e) (list_any (has_expired now) rest) stand in
      either (keeps e) parts.0 (filter_stands keeps rest parts.1)
    where
      either : (stays : Bool) → has_expired now e ≡ false → Stand (filter keeps rest) → Stand (if stays then e ∷ filter keeps rest else filter keeps rest)
      either true own after = neither (has_expired now e) (list_any (has_expired now) (filter keeps rest)) own after
      either false own after = after

  map_stands : (h : Entry → Entry) → ((e : Entry) → has_expired now e ≡ false → has_expired now (h e) ≡ false) → (es : List Entry) → Stand es → Stand (map h es)
  map_stands h each [] stand = refl
  map_stands h each (e ∷ rest) stand =
      let parts = or_parts (has_expired now e) (list_any (has_expired now) rest) stand in
      neither (has_expired now (h e)) (list_any (has_expired now) (map h rest)) (each e parts.0) (map_stands h each rest parts.1)

  found_stands : (es : List Entry) (a : ℕ) (g : Grant) → Stand es → found es a ≡ Some g → is_over g ≡ false
  found_stands [] a g stand is = absurd (cc)
  found_stands (e ∷ rest) a g stand is =
      let parts = or_parts (has_expired now e) (list_any (has_expired now) rest) stand in
      either (e.address == a) parts.0 (found_stands rest a g parts.1) is
    where
      either : (here : Bool) → has_expired now e ≡ false → (found rest a ≡ Some g → is_over g ≡ false) → (if here then Some e.grant else found rest a) ≡ Some g → is_over g ≡ false
      either true on later own = let same : e.grant ≡ g = cc in sym (ap is_over same) ∙ on
      either false on later own = later own

  -- Tables.

  row_stands : (t : Table) (i : ℕ) → AllStand t → Stand (get_or t i [])
  row_stands [] i stand = refl
  row_stands (es ∷ rest) zero stand = (or_parts (list_any (has_expired now) es) (has_some_expired now rest) stand).0
  row_stands (es ∷ rest) (suc i) stand = row_stands rest i (or_parts (list_any (has_expired now) es) (has_some_expired now rest) stand).1

  set_stands : (t : Table) (i : ℕ) (new : List Entry) → Stand new → AllStand t → AllStand (set t i new)
  set_stands [] i new own stand = stand
  set_stands (es ∷ rest) zero new own stand =
      neither (list_any (has_expired now) new) (has_some_expired now rest) own (or_parts (list_any (has_expired now) es) (has_some_expired now rest) stand).1
  set_stands (es ∷ rest) (suc i) new own stand =
      let parts = or_parts (list_any (has_expired now) es) (has_some_expired now rest) stand in
      neither (list_any (has_expired now) es) (has_some_expired now (set rest i new)) parts.0 (set_stands rest i new own parts.1)

  rows_stand : (f : List Entry → List Entry) → ((es : List Entry) → Stand es → Stand (f es)) → (t : Table) → AllStand t → AllStand (map f t)
  rows_stand f each [] stand = refl
  rows_stand f each (es ∷ rest) stand =
      let parts = or_parts (list_any (has_expired now) es) (has_some_expired now rest) stand in
      neither (list_any (has_expired now) (f es)) (has_some_expired now (map f rest)) (each es parts.0) (rows_stand f each rest parts.1)

  entry_stands : (t : Table) (p a : ℕ) (g : Grant) → AllStand t → entry_at t p a ≡ Some g → is_over g ≡ false
  entry_stands t p a g stand is = found_stands (entries_of t p) a g (row_stands t (p - 1) stand) is

  with_stands : (t : Table) (p a : ℕ) (g : Grant) → is_over g ≡ false → AllStand t → AllStand (with_entry t p a g)
  with_stands t p a g on stand = set_stands t (p - 1) (put (entries_of t p) a g) (put_stands (entries_of t p) a g on (row_stands t (p - 1) stand)) stand

  without_stands : (t : Table) (p a : ℕ) → AllStand t → AllStand (without_entry t p a)
  without_stands t p a stand =
      let parent = parent_of (entry_at t p a) in
      rows_stand (map (handed_on p a parent)) (map_stands (handed_on p a parent) (λ e on. either e parent (is_child p a e) on)) (erased_entry t p a)
      (set_stands t (p - 1) _ (filter_stands (λ e. not (e.address == a)) (entries_of t p) (row_stands t (p - 1) stand)) stand)
    where
      either : (e : Entry) (parent : Option EntryPlace) (child : Bool) → has_expired now e ≡ false → has_expired now (if child then with_parent parent e else e) ≡ false
      either e parent true on = on
      either e parent false on = on

  all_without_stands : (p : ℕ) (es : List Entry) (t : Table) → AllStand t → AllStand (without_entries t p es)
  all_without_stands p [] t stand = stand
  all_without_stands p (e ∷ rest) t stand = all_without_stands p rest (without_entry t p e.address) (without_stands t p e.address stand)

  cut_stands : (t : Table) (p a : ℕ) → AllStand t → AllStand (cut_entry t p a)
  cut_stands t p a stand =
      without_stands (map (filter (λ e. not (descends t p a e))) t) p a (rows_stand (filter (λ e. not (descends t p a e))) (filter_stands (λ e. not (descends t p a e))) t stand)

  forbid_stands : (t : Table) (p a rule : ℕ) → AllStand t → AllStand (forbid_entry t p a (forbidden_by rule))
  forbid_stands t p a rule stand =
      let h = forbidden_entry t p a (forbidden_by rule) in
      with_stands (map (map h) t) p a (forbidden_by rule) refl (rows_stand (map h) (map_stands h (λ e on. either e (descends t p a e) on)) t stand)
    where
      either : (e : Entry) (below : Bool) → has_expired now e ≡ false → has_expired now (if below then record e { grant = forbidden_by rule } else e) ≡ false
      either e true on = refl
      either e false on = on

  -- the end of an entry that has a right is later
  ends_later : (t : Table) (p a : ℕ) → AllStand t → has_right (entry_at t p a) ≡ true → is_reached now (unwrap_or (entry_at t p a) no_grant).until ≡ false
  ends_later t p a stand some = either (entry_at t p a) refl some
    where
      either : (o : Option Grant) → entry_at t p a ≡ o → has_right o ≡ true → is_reached now (unwrap_or o no_grant).until ≡ false
      either None is has = refl
      either (Some g) is has = not_reached g has (entry_stands t p a g stand is)

  -- Changes that may be refused.

  give_stands : (lives : ℕ → Bool) (s : PageState) (caller address receiver to mode : ℕ) → AllStand s.table → IfDone AllStand (give lives s caller address receiver to mode)
  give_stands lives s caller address receiver to mode stand =
      let P = AllStand in
      let g = unwrap_or (entry_at s.table caller address) no_grant in
      let read = shared_from caller address g Read in
      let write = shared_from caller address g Write in
      let copy : Grant = record g { right = Write; page = Some (fresh s.pages); giver = caller; parent = None; until = None } in
      if_or_else P (refused 12 (not (lives receiver))) _ (
      if_or_else P (not_page address) _ (
      if_or_else P (not_page to) _ (
      if_unless P 14 (not (has_right (entry_at s.table caller address))) _ (λ some.
      let later : is_reached now g.until ≡ false = ends_later s.table caller address stand (not_true (has_right (entry_at s.table caller address)) some) in
      if_or_else P (refused 15 (may_not_give g mode)) _ (
      if_or_else P (refused 16 (is_some (entry_at s.table receiver to))) _ (
      if_or_else P (table_full s receiver to) _ (
      if_or_else P (fifth_region s receiver to) _ (
      if_or_else P (no_frames s mode) (Ok (given s caller address g receiver to mode)) (
      if_either P (mode == 1) (granted s receiver to read) (if mode == 2 then granted s receiver to write else granted (copied s g.page) receiver to copy)
      (with_stands s.table receiver to read (not_over Read g later) stand)
      (if_either P (mode == 2) (granted s receiver to write) (granted (copied s g.page) receiver to copy)
      (with_stands s.table receiver to write (not_over Write g later) stand)
      (with_stands s.table receiver to copy refl stand)))))))))))

  take_stands : (lives : ℕ → Bool) (s : PageState) (caller p address : ℕ) → AllStand s.table → IfDone AllStand (take lives s caller p address)
  take_stands lives s caller p address stand =
      let P = AllStand in
      if_or_else P (refused 12 (not (lives p))) _ (
      if_or_else P (not_page address) _ (
      if_or_else P (no_right s p address) _ (
      if_or_else P (refused 19 (not ((unwrap_or (entry_at s.table p address) no_grant).giver == caller))) (Ok (cut s p address)) (
      cut_stands s.table p address stand))))

  drop_own_stands : (s : PageState) (caller address : ℕ) → AllStand s.table → IfDone AllStand (drop_own s caller address)
  drop_own_stands s caller address stand =
      let P = AllStand in
      if_or_else P (not_page address) _ (
      if_or_else P (no_right s caller address) (Ok (removed s caller address)) (
      without_stands s.table caller address stand))

  grant_stands : (lives : ℕ → Bool) (s : PageState) (p address page : ℕ) (right : Right) (may : Bool) (rule : ℕ) → AllStand s.table → IfDone AllStand (grant lives s p address page right may rule)
  grant_stands lives s p address page right may rule stand =
      let P = AllStand in
      let g : Grant = record { right = right; page = Some page; rule = rule; give = may; giver = 0; parent = None; until = None } in
      if_or_else P (refused 12 (not (lives p))) _ (
      if_or_else P (not_page address) _ (
      if_or_else P (refused 16 (has_right (entry_at s.table p address))) _ (
      if_or_else P (table_full s p address) _ (
      if_or_else P (fifth_region s p address) (Ok (granted s p address g)) (
      with_stands s.table p address g (and-false (is_some_right right)) stand)))))

  narrow_stands : (lives : ℕ → Bool) (s : PageState) (p address : ℕ) → AllStand s.table → IfDone AllStand (narrow lives s p address)
  narrow_stands lives s p address stand =
      let P = AllStand in
      let g = unwrap_or (entry_at s.table p address) no_grant in
      let narrowed : Grant = record g { right = Read } in
      if_or_else P (refused 12 (not (lives p))) _ (
      if_or_else P (not_page address) _ (
      if_unless P 14 (not (has_right (entry_at s.table p address))) (Ok (granted s p address narrowed)) (λ some.
      with_stands s.table p address narrowed (not_over Read g (ends_later s.table p address stand (not_true (has_right (entry_at s.table p address)) some))) stand)))

  revoke_stands : (lives : ℕ → Bool) (s : PageState) (p address rule : ℕ) → AllStand s.table → IfDone AllStand (revoke lives s p address rule)
  revoke_stands lives s p address rule stand =
      let P = AllStand in
      if_or_else P (refused 12 (not (lives p))) _ (
      if_or_else P (not_page address) _ (
      if_or_else P (no_right s p address) (Ok (forbidden s p address rule)) (
      forbid_stands s.table p address rule stand)))

  drop_stands : (lives : ℕ → Bool) (s : PageState) (p address : ℕ) → AllStand s.table → IfDone AllStand (drop_by_command lives s p address)
  drop_stands lives s p address stand =
      let P = AllStand in
      if_or_else P (refused 12 (not (lives p))) _ (
      if_or_else P (not_page address) _ (
      if_or_else P (no_entry s p address) (Ok (removed s p address)) (
      without_stands s.table p address stand)))

  end_stands : (s : PageState) (p : ℕ) → AllStand s.table → AllStand (end_process s p).table
  end_stands s p stand = all_without_stands p (entries_of s.table p) s.table stand

  -- Calls and commands.

  or_number_stands : (m : State) (p : ℕ) (r : Result PageState ℕ) → AllStand m.memory.table → IfDone AllStand r → AllStand (or_number m p r).memory.table
  or_number_stands m p (Ok s) stand done = done
  or_number_stands m p (Err number) stand done = stand

  or_denied_stands : (m : State) (p pc address : ℕ) (r : Result PageState ℕ) → AllStand m.memory.table → IfDone AllStand r → AllStand (or_denied m p pc address r).memory.table
  or_denied_stands m p pc address (Ok s) stand done = done
  or_denied_stands m p pc address (Err number) stand done = stand

  or_logged_stands : (m : State) (k : ℕ) (r : Result PageState ℕ) → AllStand m.memory.table → IfDone AllStand r → AllStand (or_logged m k r).memory.table
  or_logged_stands m k (Ok s) stand done = done
  or_logged_stands m k (Err number) stand done = stand

  after_get_stands : (m : State) (p : ℕ) (queue : List ℕ) → AllStand m.memory.table → AllStand (after_get m p queue).memory.table
  after_get_stands m p [] stand = stand
  after_get_stands m p (byte ∷ rest) stand = stand

  after_wait_stands : (m : State) (p : ℕ) (queue : List ℕ) → AllStand m.memory.table → AllStand (after_wait m p queue).memory.table
  after_wait_stands m p [] stand = stand
  after_wait_stands m p (byte ∷ rest) stand = stand

  if_stands : (test : Bool) (s t : State) → AllStand s.memory.table → AllStand t.memory.table → AllStand (if test then s else t).memory.table
  if_stands true s t a b = a
  if_stands false s t a b = b

  served_stands : (m : State) (p pc : ℕ) (c : Call) → AllStand m.memory.table → AllStand (served m p pc c).memory.table
  served_stands m p pc call.Exit stand = end_stands m.memory p stand
  served_stands m p pc (call.Put byte) stand = stand
  served_stands m p pc call.Get stand = after_get_stands m p (queue_of m p) stand
  served_stands m p pc call.Yield stand = stand
  served_stands m p pc call.Time stand = stand
  served_stands m p pc call.Own stand = stand
  served_stands m p pc (call.Give address receiver to mode) stand =
      or_denied_stands m p pc address (give (lives m) m.memory p address receiver to mode) stand (give_stands (lives m) m.memory p address receiver to mode stand)
  served_stands m p pc (call.Take process address) stand =
      or_number_stands m p (take (lives m) m.memory p process address) stand (take_stands (lives m) m.memory p process address stand)
  served_stands m p pc (call.Drop address) stand = or_number_stands m p (drop_own m.memory p address) stand (drop_own_stands m.memory p address stand)
  served_stands m p pc call.Wait stand = after_wait_stands (answered m p 0) p (queue_of m p) stand
  served_stands m p pc call.Unknown stand = stand

  command_stands : (m : State) (k : ℕ) (c : Command) → AllStand m.memory.table → AllStand (after_command m k c).memory.table
  command_stands m k (command.Grant p address page right may) stand =
      or_logged_stands m k (grant (lives m) m.memory p address page right may (1000 + k)) stand (grant_stands (lives m) m.memory p address page right may (1000 + k) stand)
  command_stands m k (command.Narrow p address) stand = or_logged_stands m k (narrow (lives m) m.memory p address) stand (narrow_stands (lives m) m.memory p address stand)
  command_stands m k (command.Revoke p address) stand =
      or_logged_stands m k (revoke (lives m) m.memory p address (1000 + k)) stand (revoke_stands (lives m) m.memory p address (1000 + k) stand)
  command_stands m k (command.Drop p address) stand = or_logged_stands m k (drop_by_command (lives m) m.memory p address) stand (drop_stands (lives m) m.memory p address stand)
  command_stands m k (command.Resume p) stand =
      if_stands (not (lives m p)) (refuse_command m k 12) (if not (is_parked (process_of m p).standing) then refuse_command m k 15 else made_ready m p) stand
      (if_stands (not (is_parked (process_of m p).standing)) (refuse_command m k 15) (made_ready m p) stand stand)
  command_stands m k (command.Stop p) stand = if_stands (not (lives m p)) (refuse_command m k 12) (ended m p) stand (end_stands m.memory p stand)

-- At each time before another.

-- what a change leaves, if it is done
none_before : (time : ℕ) (r : Result PageState ℕ) → ((now : ℕ) → now < time → IfDone (AllStand now) r) → IfDone (NoneEndsBefore time) r
none_before time (Ok s) each = each
none_before time (Err number) each = tt

pub give_makes_no_end : (time : ℕ) (lives : ℕ → Bool) (s : PageState) (caller address receiver to mode : ℕ) → NoneEndsBefore time s.table → IfDone (NoneEndsBefore time) (give lives s caller address receiver to mode)
give_makes_no_end time lives s caller address receiver to mode none =
    none_before time (give lives s caller address receiver to mode) (λ now lt. give_stands now lives s caller address receiver to mode (none now lt))

pub take_makes_no_end : (time : ℕ) (lives : ℕ → Bool) (s : PageState) (caller p address : ℕ) → NoneEndsBefore time s.table → IfDone (NoneEndsBefore time) (take lives s caller p address)
take_makes_no_end time lives s caller p address none = none_before time (take lives s caller p address) (λ now lt. take_stands now lives s caller p address (none now lt))

pub drop_own_makes_no_end : (time : ℕ) (s : PageState) (caller address : ℕ) → NoneEndsBefore time s.table → IfDone (NoneEndsBefore time) (drop_own s caller address)
drop_own_makes_no_end time s caller address none = none_before time (drop_own s caller address) (λ now lt. drop_own_stands now s caller address (none now lt))

pub grant_makes_no_end : (time : ℕ) (lives : ℕ → Bool) (s : PageState) (p address page : ℕ) (right : Right) (may : Bool) (rule : ℕ) → NoneEndsBefore time s.table
    → IfDone (NoneEndsBefore time) (grant lives s p address page right may rule)
grant_makes_no_end time lives s p address page right may rule none =
    none_before time (grant lives s p address page right may rule) (λ now lt. grant_stands now lives s p address page right may rule (none now lt))

pub narrow_makes_no_end : (time : ℕ) (lives : ℕ → Bool) (s : PageState) (p address : ℕ) → NoneEndsBefore time s.table → IfDone (NoneEndsBefore time) (narrow lives s p address)
narrow_makes_no_end time lives s p address none = none_before time (narrow lives s p address) (λ now lt. narrow_stands now lives s p address (none now lt))

pub revoke_makes_no_end : (time : ℕ) (lives : ℕ → Bool) (s : PageState) (p address rule : ℕ) → NoneEndsBefore time s.table → IfDone (NoneEndsBefore time) (revoke lives s p address rule)
revoke_makes_no_end time lives s p address rule none = none_before time (revoke lives s p address rule) (λ now lt. revoke_stands now lives s p address rule (none now lt))

pub drop_makes_no_end : (time : ℕ) (lives : ℕ → Bool) (s : PageState) (p address : ℕ) → NoneEndsBefore time s.table → IfDone (NoneEndsBefore time) (drop_by_command lives s p address)
drop_makes_no_end time lives s p address none = none_before time (drop_by_command lives s p address) (λ now lt. drop_stands now lives s p address (none now lt))

pub end_makes_no_end : (time : ℕ) (s : PageState) (p : ℕ) → NoneEndsBefore time s.table → NoneEndsBefore time (end_process s p).table
end_makes_no_end time s p none = λ now lt. end_stands now s p (none now lt)

pub no_call_makes_an_end : (time : ℕ) (m : State) (p pc : ℕ) (c : Call) → NoneEndsBefore time m.memory.table → NoneEndsBefore time (served m p pc c).memory.table
no_call_makes_an_end time m p pc c none = λ now lt. served_stands now m p pc c (none now lt)

pub no_command_makes_an_end : (time : ℕ) (m : State) (k : ℕ) (c : Command) → NoneEndsBefore time m.memory.table → NoneEndsBefore time (after_command m k c).memory.table
no_command_makes_an_end time m k c none = λ now lt. command_stands now m k c (none now lt)

-- What has ended by a time is gone, and so is what has ended by an earlier one.

earlier : (now before : ℕ) (o : Option ℕ) → before ≤ now → is_reached now o ≡ false → is_reached before o ≡ false
earlier now before None l on = refl
earlier now before (Some end) l on = let later : now < end = leb-false end now on in lt-leb end before (omega arith)

pub after_expired : (now : ℕ) (t : Table) → NoneEndsBefore (now + 1) (expired_table now t)
after_expired now t = λ before lt. all before lt t
  where
    gone : (before : ℕ) → before ≤ now → (some reached : Bool) (e : Entry) → is_some_right e.grant.right ≡ some → is_reached now e.grant.until ≡ reached
        → has_expired before (if some && reached then record e { grant = forbidden_by e.grant.rule } else e) ≡ false
    gone before l true true e some reached = refl
    gone before l true false e some reached = ap (λ b. b && is_reached before e.grant.until) some ∙ earlier now before e.grant.until l reached
    gone before l false reached e some is = ap (λ b. b && is_reached before e.grant.until) some

    row : (before : ℕ) → before ≤ now → (es : List Entry) → Stand before (map (expired_entry now) es)
    row before l [] = refl
    row before l (e ∷ rest) =
        neither (has_expired before (expired_entry now e)) (list_any (has_expired before) (map (expired_entry now) rest))
        (gone before l (is_some_right e.grant.right) (is_reached now e.grant.until) e refl refl) (row before l rest)

    all : (before : ℕ) → before < now + 1 → (t : Table) → AllStand before (expired_table now t)
    all before lt [] = refl
    all before lt (es ∷ rest) =
        neither (list_any (has_expired before) (map (expired_entry now) es)) (has_some_expired before (expired_table now rest)) (row before (omega (arith, lt)) es) (all before lt rest)

-- the same of what a boundary finds
pub after_ends : (now : ℕ) (s : PageState) → NoneEndsBefore (now + 1) (expired s now).table
after_ends now s = subst (NoneEndsBefore (now + 1)) (sym (table_of_expired s now)) (after_expired now s.table)
