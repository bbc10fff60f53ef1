-- What is told where an instruction leaves the program, by the kind of its exception.
use Rattle.std.proofs.Common.{◌≡◌, ℕ, ◌^◌, ◌<◌, ◌≤◌, ◌⊎◌, Bool, true, false, cond, refl, sym, ap, ap₂, subst, ◌∙◌, arith, inl, inr}
use Rattle.std.proofs.lemmas.Bool.Decides.{nat_tests}
use Rattle.std.specs.Prelude.{nat_le, ◌==◌, ◌&&◌}
use Rattle.ds_isa.specs.declared.instr.Size.{Size}
use Rattle.ds_isa.specs.declared.instr.Kind.{Kind}
use Rattle.ds_policy.specs.declared.access.Verdict.{Verdict}
use Rattle.ds_policy.specs.declared.access.Verdict.TheVariants.{Allowed, Denied}
use Rattle.ds_policy.specs.Pages.{decide}
use Rattle.ds_policy.specs.Grants.{PageState}
use Rattle.ds_amap.specs.declared.map.Fault.{Fault}
use Rattle.ds_cp0.specs.declared.exception.Exception.{Exception}
use Rattle.ds_cp0.specs.System.{System, entered}
use Rattle.ds_cp0.specs.Codes.{code_number}
use Rattle.ds_core.specs.Core.{CoreState}
use Rattle.ds_core.specs.Access.{access_exception}
use Rattle.ds_pagemap.specs.Machine.{State}
use Rattle.ds_pagemap.specs.Unit.{Outcome, Branched, Called, Stopped, where_allowed, denied_as, fault}
use Rattle.ds_refinement.specs.declared.cause.Cause.{Cause}
use Rattle.ds_refinement.specs.declared.cause.Cause.TheVariants as cause
use Rattle.ds_refinement.specs.Told.{code_in, own_in, kind_told, size_told, size_at, told}
use Rattle.ds_refinement.specs.Inner.Told.{system_after}
use Rattle.ds_refinement.specs.Inner.Leaves.{Leaves}
use Rattle.ds_refinement.specs.Units.{EndsUnit}
use Rattle.ds_refinement.proofs.Exceptions.{code_told, own_told, address_told}
use Rattle.ds_refinement.proofs.Refusals.{least_code, most_code}

-- codes 1 to 5 are of accesses
access_tests : (n : ℕ) → 1 ≤ n → n ≤ 5 → ((n == 8) ≡ false) × ((nat_le 1 n && nat_le n 5) ≡ true)
access_tests n least most =
    let apart : (n == 8) ≡ false = grind (arith, nat_tests) in
    let above : nat_le 1 n ≡ true = grind (arith, nat_tests) in
    let below : nat_le n 5 ≡ true = grind (arith, nat_tests) in
    (apart, ap₂ (λ (a b : Bool). a && b) above below)

-- an access is told by such a code
pub access_told : (s : System) (pages : PageState) (p : ℕ) → 1 ≤ code_in s → code_in s ≤ 5
    → told s pages p ≡ cause.Access (record { kind = kind_told s; size = size_told s (size_at pages p (own_in s)) })
access_told s pages p least most =
    let t = access_tests (code_in s) least most in
    ap₂ (λ (a b : Bool). cond a cause.Call (cond b (cause.Access (record { kind = kind_told s; size = size_told s (size_at pages p (own_in s)) })) (cause.Fault (code_in s)))) t.0 t.1

-- the code is neither of a call nor of an access
abbrev pub IsFaultCode : ℕ → Type 0
IsFaultCode n = ((n == 8) ≡ false) × ((nat_le 1 n && nat_le n 5) ≡ false)

-- a fault is told by its code
pub fault_told : (s : System) (e : Exception) (pages : PageState) (p n : ℕ) → code_number e.code ≡ n → IsFaultCode n → told (entered s e) pages p ≡ cause.Fault n
fault_told s e pages p n is tests =
    let t = entered s e in
    let c : code_in t ≡ n = code_told s e ∙ is in
    ap₂ (λ (a b : Bool). cond a cause.Call (cond b (cause.Access (record { kind = kind_told t; size = size_told t (size_at pages p (own_in t)) })) (cause.Fault (code_in t))))
    (ap (λ (x : ℕ). x == 8) c ∙ tests.0) (ap (λ (x : ℕ). nat_le 1 x && nat_le x 5) c ∙ tests.1)
    ∙ ap cause.Fault c

-- a call is told by code 8
pub call_told : (s : System) (e : Exception) (pages : PageState) (p : ℕ) → code_number e.code ≡ 8 → told (entered s e) pages p ≡ cause.Call
call_told s e pages p is =
    let t = entered s e in
    ap (λ (a : Bool). cond a cause.Call (cond (nat_le 1 (code_in t) && nat_le (code_in t) 5) (cause.Access (record { kind = kind_told t; size = size_told t (size_at pages p (own_in t)) })) (cause.Fault (code_in t))))
    (ap (λ (x : ℕ). x == 8) (code_told s e ∙ is))

-- A fault of the instruction itself.
pub fault_leaves : (slot : Bool) (code pc p bad : ℕ) (s : PageState) → Leaves (cause.Fault code) bad slot pc p s (Stopped (fault pc code))
fault_leaves true code pc p bad s = inl refl
fault_leaves false code pc p bad s = refl

-- by its exception
pub leaves_fault : (s : System) (e : Exception) (slot : Bool) (code pc p : ℕ) (pages : PageState) → code_number e.code ≡ code → IsFaultCode code
    → Leaves (told (entered s e) pages p) (entered s e).bad_vaddr slot pc p pages (Stopped (fault pc code))
leaves_fault s e slot code pc p pages is tests =
    subst (λ (why : Cause). Leaves why (entered s e).bad_vaddr slot pc p pages (Stopped (fault pc code))) (sym (fault_told s e pages p code is tests))
    (fault_leaves slot code pc p (entered s e).bad_vaddr pages)

-- a branch in a slot
pub leaves_branch : (s : System) (e : Exception) (pc p : ℕ) (pages : PageState) (after : State) (target : ℕ) → code_number e.code ≡ 10
    → Leaves (told (entered s e) pages p) (entered s e).bad_vaddr true pc p pages (Branched after target)
leaves_branch s e pc p pages after target is =
    subst (λ (why : Cause). Leaves why (entered s e).bad_vaddr true pc p pages (Branched after target)) (sym (fault_told s e pages p 10 is (refl, refl)))
    (inr (refl, (after, target, refl)))

-- a call
pub leaves_call : (s : System) (e : Exception) (slot : Bool) (pc p : ℕ) (pages : PageState) → code_number e.code ≡ 8
    → Leaves (told (entered s e) pages p) (entered s e).bad_vaddr slot pc p pages Called
leaves_call s e slot pc p pages is =
    subst (λ (why : Cause). Leaves why (entered s e).bad_vaddr slot pc p pages Called) (sym (call_told s e pages p is)) refl

-- A refused access, which is told as such a kind, and of which the table answers as it answers the access itself.
pub leaves_access : (c : CoreState) (k : Kind) (size : Size) (address : ℕ) (fault : Fault) (p : ℕ) (pages : PageState) (f : ℕ → ℕ → Outcome)
    → let s = system_after c k address fault in
    kind_told s ≡ k
    → decide pages.table p (kind_told s) (size_told s (size_at pages p (own_in s))) address ≡ decide pages.table p k size address
    → Leaves (told s pages p) s.bad_vaddr c.slot c.pc p pages (where_allowed (decide pages.table p k size address) k address f)
leaves_access c k size address fault p pages f kind answer =
    let s = system_after c k address fault in
    let o : Outcome = where_allowed (decide pages.table p k size address) k address f in
    let is : told s pages p ≡ cause.Access (record { kind = kind_told s; size = size_told s (size_at pages p (own_in s)) }) = access_told s pages p (least_code c k address fault) (most_code c k address fault) in
    let bad : s.bad_vaddr ≡ address = address_told c.system (access_exception c k address fault) address refl in
    let at : Leaves (cause.Access (record { kind = kind_told s; size = size_told s (size_at pages p (own_in s)) })) address c.slot c.pc p pages o =
    λ rule code d. ap (λ (v : Verdict). where_allowed v k address f) (sym answer ∙ d)
    ∙ ap (λ (x : Kind). Stopped (record { kind = denied_as x; address = address; rule = rule; code = code })) (sym kind) in
    subst (λ (why : Cause). Leaves why s.bad_vaddr c.slot c.pc p pages o) (sym is)
    (subst (λ (a : ℕ). Leaves (cause.Access (record { kind = kind_told s; size = size_told s (size_at pages p (own_in s)) })) a c.slot c.pc p pages o) (sym bad) at)

-- What was told ends the unit.

pub ends_fault : (s : System) (e : Exception) (code p : ℕ) (pages : PageState) → code_number e.code ≡ code → IsFaultCode code → EndsUnit pages p (entered s e).bad_vaddr (told (entered s e) pages p)
ends_fault s e code p pages is tests = subst (EndsUnit pages p (entered s e).bad_vaddr) (sym (fault_told s e pages p code is tests)) tt

pub ends_call : (s : System) (e : Exception) (p : ℕ) (pages : PageState) → code_number e.code ≡ 8 → EndsUnit pages p (entered s e).bad_vaddr (told (entered s e) pages p)
ends_call s e p pages is = subst (EndsUnit pages p (entered s e).bad_vaddr) (sym (call_told s e pages p is)) tt

-- a refused access of which the table answers what is told alike: where it allows it, this follows
pub ends_access : (Late : Type 0) (c : CoreState) (k : Kind) (size : Size) (address : ℕ) (fault : Fault) (p : ℕ) (pages : PageState)
    → let s = system_after c k address fault in
    decide pages.table p (kind_told s) (size_told s (size_at pages p (own_in s))) address ≡ decide pages.table p k size address
    → ((page offset : ℕ) → decide pages.table p k size address ≡ Allowed page offset → Late) → EndsUnit pages p s.bad_vaddr (told s pages p) ⊎ Late
ends_access Late c k size address fault p pages answer late =
    let s = system_after c k address fault in
    let is : told s pages p ≡ cause.Access (record { kind = kind_told s; size = size_told s (size_at pages p (own_in s)) }) = access_told s pages p (least_code c k address fault) (most_code c k address fault) in
    let bad : s.bad_vaddr ≡ address = address_told c.system (access_exception c k address fault) address refl in
    subst (λ (why : Cause). EndsUnit pages p s.bad_vaddr why ⊎ Late) (sym is)
    (subst (λ (a : ℕ). EndsUnit pages p a (cause.Access (record { kind = kind_told s; size = size_told s (size_at pages p (own_in s)) })) ⊎ Late) (sym bad)
    (by (decide pages.table p k size address) refl answer))
  where
    by : (v : Verdict) → decide pages.table p k size address ≡ v
        → decide pages.table p (kind_told (system_after c k address fault)) (size_told (system_after c k address fault) (size_at pages p (own_in (system_after c k address fault)))) address ≡ decide pages.table p k size address
        → EndsUnit pages p address (cause.Access (record { kind = kind_told (system_after c k address fault); size = size_told (system_after c k address fault) (size_at pages p (own_in (system_after c k address fault))) })) ⊎ Late
    by (Allowed page offset) is answer = inr (late page offset is)
    by (Denied rule code) is answer = inl (rule, code, answer ∙ is)

-- the instruction itself stands at pc
pub own_after : (c : CoreState) (k : Kind) (address : ℕ) (fault : Fault) → c.pc < 2 ^ 32 → own_in (system_after c k address fault) ≡ c.pc
own_after c k address fault small = own_told c.system (access_exception c k address fault) small
