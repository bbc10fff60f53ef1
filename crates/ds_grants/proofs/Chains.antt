-- Tests that don't hold, in front of the tests that follow.
use Rattle.std.proofs.Common.{arith, ◌≡◌, ℕ, ◌&&◌, nat_le, nat_lt, ◌≤◌, ◌||◌, length, is_some, unwrap_or, subst, ◌==◌, Bool, true, false, not, List, Option, Some, None, Result, Ok, Err, IfErr, OnOk, refl, sym, ap, ◌∙◌}
use Rattle.std.proofs.lemmas.Bool.{false≢true}
use Rattle.std.proofs.lemmas.Bool.Decides.{nat_tests}
use Rattle.ds_policy.specs.declared.grant.Grant.{Grant}
use Rattle.ds_policy.specs.declared.grant.Right.{Right}
use Rattle.ds_policy.specs.declared.grant.Right.TheVariants.{Read}
use Rattle.ds_policy.specs.Pages.{entry_at, count_live}
use Rattle.ds_policy.specs.Grants.{PageState, ◌or_else◌, refused, not_page, no_right, no_frames, table_full, fifth_region, has_right, may_not_give, is_write, no_grant, given, granted, give, grant}
use Rattle.ds_grants.specs.declared.fault.GrantFault.{GrantFault}
use Rattle.ds_grants.specs.State.{GrantsState, pages_in, page_state}
use Rattle.ds_grants.specs.Inner.State.{grant_fault_number, lives_in, DoesCall}
use Rattle.ds_grants.specs.Inner.Order.{is_no_page}

-- a test that doesn't hold
pub passed : (number : ℕ) (b : Bool) (next result : Result PageState ℕ) → b ≡ false → next ≡ result → (refused number b or_else next) ≡ result
passed number b next result fails is = rw fails is

-- what follows a test that doesn't hold
unpassed : (number : ℕ) (b : Bool) (next result : Result PageState ℕ) → b ≡ false → (refused number b or_else next) ≡ result → next ≡ result
unpassed number false next result fails is = is
unpassed number true next result fails is = absurd (false≢true (sym fails))

-- what holds of the error that there is
pub at_err : {T E : Type 0} (r : Result T E) (e : E) (P : E → Type 0) → r ≡ Err e → P e → IfErr r P
at_err {T = T} {E = E} r e P is h = subst (λ (x : Result T E). IfErr x P) (sym is) h

-- what holds anyway holds where it is done
pub at_ok : {T E P : Type 0} (r : Result T E) → P → OnOk r P
at_ok (Ok x) p = p
at_ok (Err e) p = tt

denied : (b : Bool) → b ≡ true → not b ≡ false
denied b is = rw is refl

-- the refusals of a process that lives are those that follow
pub lives_err : {T : Type 0} (r : Result T GrantFault) (lives : Bool) (rest : List ℕ → Result PageState ℕ → Result PageState ℕ) → lives ≡ true
    → IfErr r (λ x. (memory : List ℕ) (next : Result PageState ℕ) → rest memory next ≡ Err (grant_fault_number x))
    → IfErr r (λ x. (memory : List ℕ) (next : Result PageState ℕ) → (refused 12 (not lives) or_else rest memory next) ≡ Err (grant_fault_number x))
lives_err (Ok x) lives rest is h = tt
lives_err (Err x) lives rest is h = λ memory next. passed 12 (not lives) (rest memory next) (Err (grant_fault_number x)) (denied lives is) (h memory next)

-- the outcome of a grant is that of the test of room, where the other tests don't hold
module _ (g : GrantsState) (p a : ℕ) (lives : lives_in g p ≡ true) (page : is_no_page a ≡ false) (free : has_right (entry_at g.table p a) ≡ false) where
  granted_as : (memory : List ℕ) (q : ℕ) (right : Right) (may_give : Bool) (rule : ℕ) (result : Result PageState ℕ)
      → (table_full (page_state g memory) p a or_else fifth_region (page_state g memory) p a or_else Ok (granted (page_state g memory) p a (record { right = right; page = Some q; rule = rule; give = may_give; giver = 0; parent = None; until = None }))) ≡ result
      → grant (lives_in g) (page_state g memory) p a q right may_give rule ≡ result
  granted_as memory q right may_give rule result is =
      let room = table_full (page_state g memory) p a or_else fifth_region (page_state g memory) p a or_else Ok (granted (page_state g memory) p a (record { right = right; page = Some q; rule = rule; give = may_give; giver = 0; parent = None; until = None })) in
      passed 12 (not (lives_in g p)) (not_page a or_else refused 16 (has_right (entry_at g.table p a)) or_else room) result (denied (lives_in g p) lives)
      (passed 13 (is_no_page a) (refused 16 (has_right (entry_at g.table p a)) or_else room) result page
      (passed 16 (has_right (entry_at g.table p a)) room result free is))

  pub room_err : {T : Type 0} (r : Result T GrantFault)
      → IfErr r (λ x. (memory : List ℕ) (next : Result PageState ℕ) → (table_full (page_state g memory) p a or_else fifth_region (page_state g memory) p a or_else next) ≡ Err (grant_fault_number x))
      → IfErr r (λ x. (memory : List ℕ) (q : ℕ) (right : Right) (may_give : Bool) (rule : ℕ) → grant (lives_in g) (page_state g memory) p a q right may_give rule ≡ Err (grant_fault_number x))
  room_err (Ok x) h = tt
  room_err (Err x) h = λ memory q right may_give rule. granted_as memory q right may_give rule (Err (grant_fault_number x)) (h memory _)

  pub room_ok : {T : Type 0} (r : Result T GrantFault)
      → OnOk r ((memory : List ℕ) (next : Result PageState ℕ) → (table_full (page_state g memory) p a or_else fifth_region (page_state g memory) p a or_else next) ≡ next)
      → OnOk r ((memory : List ℕ) (q : ℕ) (right : Right) (may_give : Bool) (rule : ℕ) → grant (lives_in g) (page_state g memory) p a q right may_give rule ≡ Ok (granted (page_state g memory) p a (record { right = right; page = Some q; rule = rule; give = may_give; giver = 0; parent = None; until = None })))
  room_ok (Ok x) h = λ memory q right may_give rule. granted_as memory q right may_give rule _ (h memory _)
  room_ok (Err x) h = tt

abbrev as_done : PageState → Result PageState ℕ
as_done s = Ok s

-- the outcome of a give, where the receiver lives and both addresses are those of pages
module _ (g : GrantsState) (caller addr receiver to mode : ℕ) (lives : lives_in g receiver ≡ true) (from : is_no_page addr ≡ false) (there : is_no_page to ≡ false) (memory : List ℕ) where
  what : Grant
  what = unwrap_or (entry_at g.table caller addr) no_grant

  abbrev last : Result PageState ℕ
  last = no_frames (page_state g memory) mode or_else Ok (given (page_state g memory) caller addr (unwrap_or (entry_at g.table caller addr) no_grant) receiver to mode)

  abbrev room : Result PageState ℕ
  room = table_full (page_state g memory) receiver to or_else fifth_region (page_state g memory) receiver to or_else last

  abbrev pub later : Result PageState ℕ
  later = refused 15 (may_not_give (unwrap_or (entry_at g.table caller addr) no_grant) mode) or_else refused 16 (is_some (entry_at g.table receiver to)) or_else room

  -- as the tests of the caller's entry, and those after them
  pub given_as : (result : Result PageState ℕ) → (not_page addr or_else no_right (page_state g memory) caller addr or_else later) ≡ result → give (lives_in g) (page_state g memory) caller addr receiver to mode ≡ result
  given_as result is =
      passed 12 (not (lives_in g receiver)) (not_page addr or_else not_page to or_else no_right (page_state g memory) caller addr or_else later) result (denied (lives_in g receiver) lives)
      (passed 13 (is_no_page addr) (not_page to or_else no_right (page_state g memory) caller addr or_else later) result from
      (passed 13 (is_no_page to) (no_right (page_state g memory) caller addr or_else later) result there
      (unpassed 13 (is_no_page addr) (no_right (page_state g memory) caller addr or_else later) result from is)))

  -- as the tests of the room, where the gift is allowed and the place free
  pub later_as : (result : Result PageState ℕ) → may_not_give (unwrap_or (entry_at g.table caller addr) no_grant) mode ≡ false → is_some (entry_at g.table receiver to) ≡ false → room ≡ result → later ≡ result
  later_as result allowed free is =
      passed 15 (may_not_give (unwrap_or (entry_at g.table caller addr) no_grant) mode) (refused 16 (is_some (entry_at g.table receiver to)) or_else room) result allowed
      (passed 16 (is_some (entry_at g.table receiver to)) room result free is)

  -- as the tests of the room, after the caller's entry
  pub room_as : (result : Result PageState ℕ) → ((memory : List ℕ) (next : Result PageState ℕ) → (not_page addr or_else no_right (page_state g memory) caller addr or_else next) ≡ next)
      → (grant : Grant) → entry_at g.table caller addr ≡ Some grant → may_not_give grant mode ≡ false → is_some (entry_at g.table receiver to) ≡ false → room ≡ result
      → give (lives_in g) (page_state g memory) caller addr receiver to mode ≡ result
  room_as result entry grant is allowed free next =
      given_as result (entry memory later ∙ later_as result (subst (λ (o : Option Grant). may_not_give (unwrap_or o no_grant) mode ≡ false) (sym is) allowed) free next)

  -- refused for want of a frame, or done
  pub last_err : ((mode == 3) && nat_le (length (pages_in g memory)) (count_live (pages_in g memory))) ≡ true → last ≡ Err 18
  last_err lacks = rw lacks refl

  pub last_ok : (grant : Grant) → entry_at g.table caller addr ≡ Some grant → ((mode == 3) && nat_le (length (pages_in g memory)) (count_live (pages_in g memory))) ≡ false → last ≡ Ok (given (page_state g memory) caller addr grant receiver to mode)
  last_ok grant is has = passed 18 ((mode == 3) && nat_le (length (pages_in g memory)) (count_live (pages_in g memory))) (Ok (given (page_state g memory) caller addr (unwrap_or (entry_at g.table caller addr) no_grant) receiver to mode)) _ has
      (ap (λ (o : Option Grant). as_done (given (page_state g memory) caller addr (unwrap_or o no_grant) receiver to mode)) is)

-- a call or a command that is refused leaves the page state
pub refused_by : {T : Type 0} (s : PageState) (r : Result T GrantFault) (e : GrantFault) (meant : Result PageState ℕ) → r ≡ Err e → meant ≡ Err (grant_fault_number e) → DoesCall s s r meant
refused_by {T = T} s r e meant is refusal = subst (λ (x : Result T GrantFault). DoesCall s s x meant) (sym is) (refusal, refl)

-- an entry that somebody else gave isn't taken back
pub not_given : (s : PageState) (caller p a : ℕ) (grant : Grant) (next : Result PageState ℕ) → entry_at s.table p a ≡ Some grant → (grant.giver == caller) ≡ false
    → (refused 19 (not ((unwrap_or (entry_at s.table p a) no_grant).giver == caller)) or_else next) ≡ Err 19
not_given s caller p a grant next is other = rw (is, other) refl

pub was_given : (s : PageState) (caller p a : ℕ) (grant : Grant) (next : Result PageState ℕ) → entry_at s.table p a ≡ Some grant → (grant.giver == caller) ≡ true
    → (refused 19 (not ((unwrap_or (entry_at s.table p a) no_grant).giver == caller)) or_else next) ≡ next
was_given s caller p a grant next is own = rw (is, own) refl

-- what is narrowed is the grant that is there
pub narrowed_as : (s : PageState) (p a : ℕ) (g : Grant) → entry_at s.table p a ≡ Some g → granted s p a (record (unwrap_or (entry_at s.table p a) no_grant) { right = Read }) ≡ granted s p a (record g { right = Read })
narrowed_as s p a g is = ap (λ (o : Option Grant). granted s p a (record (unwrap_or o no_grant) { right = Read })) is

-- a mode that is allowed is one of the three
pub allowed_mode : (g : Grant) (mode : ℕ) → may_not_give g mode ≡ false → (1 ≤ mode) × (mode ≤ 3)
allowed_mode g mode allowed = let is : (nat_lt 0 mode && nat_lt mode 4) ≡ true = in_range (nat_lt 0 mode && nat_lt mode 4) g.give ((mode == 2) && not (is_write g.right)) allowed in (grind (arith, nat_tests), grind (arith, nat_tests))
  where
    in_range : (a b c : Bool) → ((not a || not b) || c) ≡ false → a ≡ true
    in_range true b c h = refl
    in_range false b c h = absurd (false≢true (sym h))
