-- A share ends as what it was shared from, and a copy never.
use Rattle.std.proofs.Common.{◌≡◌, ◌≢◌, ℕ, zero, suc, ◌-◌, Bool, true, false, cond, not, [], ◌∷◌, Option, Some, None, Ok, refl, sym, ap, ◌∙◌, arith}
use Rattle.std.specs.Prelude.{◌==◌, is_some, unwrap_or, slice_set, slice_index_or}
use Rattle.ds_procs.specs.declared.call.Call.TheVariants as call
use Rattle.ds_policy.specs.declared.grant.Right.{Right}
use Rattle.ds_policy.specs.declared.grant.Right.TheVariants.{Read, Write}
use Rattle.ds_policy.specs.declared.grant.Grant.{Grant}
use Rattle.ds_policy.specs.Pages.{Table, found, put, entry_at, fresh}
use Rattle.ds_policy.specs.Grants.{PageState, refused, not_page, no_right, no_grant, table_full, fifth_region, no_frames, may_not_give, granted, shared_from, copied, given, give}
use Rattle.ds_pagemap.specs.Machine.{State, lives}
use Rattle.ds_pagemap.specs.Calls.{served}
use Rattle.ds_promise.specs.Lines.{refused_by}
use Rattle.ds_promise.proofs.Entries.{no_grant_found, one_grant, found_put_same}
use Rattle.ds_promise.proofs.Shares.{denied_left}
use Rattle.ds_promise.proofs.WholePages.{OfDone, unless_refused, not_refused, third_mode, not_third}

-- what a row has where a grant was put is that grant
pub row_same : (t : Table) (i a : ℕ) (g h : Grant) → found (slice_index_or (slice_set t i (put (slice_index_or t i []) a g)) i []) a ≡ Some h → h ≡ g
row_same [] i a g h e = no_grant_found h e
row_same (row ∷ t) zero a g h e = one_grant g h (sym (found_put_same row a g) ∙ e)
row_same (row ∷ t) (suc i) a g h e = row_same t i a g h e

-- what stands where something was given ends as the giver's entry, or never where it is a copy
pub record EndsAsGiven (s t : PageState) (caller a receiver to mode : ℕ) : Type 0 where
  pub share : (g h : Grant) → mode ≢ 3 → entry_at s.table caller a ≡ Some g → entry_at t.table receiver to ≡ Some h → h.until ≡ g.until
  pub copy : (h : Grant) → mode ≡ 3 → entry_at t.table receiver to ≡ Some h → h.until ≡ None

module _ (s : PageState) (caller a receiver to mode : ℕ) where
  -- the giver's entry, as one finds it
  abbrev own : Grant
  own = unwrap_or (entry_at s.table caller a) no_grant

  own_is : (g : Grant) → entry_at s.table caller a ≡ Some g → own.until ≡ g.until
  own_is g e = ap (λ (o : Option Grant). (unwrap_or o no_grant).until) e

  shared_ends : (right : Right) → mode ≢ 3 → EndsAsGiven s (granted s receiver to (shared_from caller a own right)) caller a receiver to mode
  shared_ends right apart = record {
    share = λ g h _ e there. ap (λ (x : Grant). x.until) (row_same s.table (receiver - 1) to (shared_from caller a own right) h there) ∙ own_is g e;
    copy = λ (h : Grant) (is : ◌≡◌ {A = ℕ} mode 3). absurd (apart is);
  }

  copied_ends : mode ≡ 3 → EndsAsGiven s (granted (copied s own.page) receiver to (record own { right = Write; page = Some (fresh s.pages); giver = caller; parent = None; until = None })) caller a receiver to mode
  copied_ends is = record {
    share = λ (g h : Grant) (apart : mode ≢ 3). absurd (apart is);
    copy = λ h _ there. ap (λ (x : Grant). x.until) (row_same s.table (receiver - 1) to (record own { right = Write; page = Some (fresh s.pages); giver = caller; parent = None; until = None }) h there);
  }

  given_ends : (one two : Bool) → (one ≡ true → mode ≢ 3) → (two ≡ true → mode ≢ 3) → (one ≡ false → two ≡ false → mode ≡ 3)
      → EndsAsGiven s (cond one (granted s receiver to (shared_from caller a own Read)) (cond two (granted s receiver to (shared_from caller a own Write)) (granted (copied s own.page) receiver to (record own { right = Write; page = Some (fresh s.pages); giver = caller; parent = None; until = None })))) caller a receiver to mode
  given_ends true two first second third = shared_ends Read (first refl)
  given_ends false true first second third = shared_ends Write (second refl)
  given_ends false false first second third = copied_ends (third refl refl)

  give_ends : (alive : ℕ → Bool) → OfDone (λ (t : PageState). EndsAsGiven s t caller a receiver to mode) (give alive s caller a receiver to mode)
  give_ends alive =
      let E : PageState → Type 0 = λ (t : PageState). EndsAsGiven s t caller a receiver to mode in
      unless_refused E (refused 12 (not (alive receiver))) _ (λ _. unless_refused E (not_page a) _ (λ _. unless_refused E (not_page to) _ (λ _.
      unless_refused E (no_right s caller a) _ (λ _. unless_refused E (refused 15 (may_not_give own mode)) _ (λ leave.
      unless_refused E (refused 16 (is_some (entry_at s.table receiver to))) _ (λ _. unless_refused E (table_full s receiver to) _ (λ _.
      unless_refused E (fifth_region s receiver to) _ (λ _. unless_refused E (no_frames s mode) (Ok (given s caller a own receiver to mode)) (λ _.
      given_ends (mode == 1) (mode == 2) (not_third 1 mode (omega arith)) (not_third 2 mode (omega arith)) (third_mode mode (not own.give) _ (not_refused 15 _ leave)))))))))))

pub gives_end : (m : State) (p pc address receiver to mode : ℕ) → refused_by (give (lives m) m.memory p address receiver to mode) ≡ None
    → EndsAsGiven m.memory (served m p pc (call.Give address receiver to mode)).memory p address receiver to mode
gives_end m p pc address receiver to mode done =
    denied_left (λ (t : PageState). EndsAsGiven m.memory t p address receiver to mode) m p pc address (give (lives m) m.memory p address receiver to mode) done (give_ends m.memory p address receiver to mode (lives m))
