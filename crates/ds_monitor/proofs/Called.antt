-- Calls as services.
use Rattle.std.proofs.Common.{◌≡◌, ◌∙◌, ℕ, ◌+◌, List, [], ◌∷◌, refl, sym, ap, subst, Result, Ok, Err}
use Rattle.std.specs.Prelude.{None, Some}
use Rattle.ds_word.specs.Word.{word}
use Rattle.ds_procs.specs.declared.call.Call.{Call}
use Rattle.ds_procs.specs.declared.call.Call.TheVariants as call
use Rattle.ds_procs.specs.Calls.{call_of}
use Rattle.ds_policy.specs.Grants.{PageState, give, take, drop_own}
use Rattle.ds_log.specs.declared.line.Line.{Line}
use Rattle.ds_pagemap.specs.Machine.{State, process_of, lives}
use Rattle.ds_pagemap.specs.Calls.{answered, queue_of, after_get, after_wait, or_number, or_denied, served}
use Rattle.ds_pagemap.specs.Unit.{at_pc}
use Rattle.ds_refinement.specs.Held.{Kept}
use Rattle.ds_refinement.specs.Units.{ends_in_call, owes_boundary}
use Rattle.ds_refinement.specs.Inner.Services.{IsBare, Serves}
use Rattle.ds_monitor.specs.Inner.Blind.{IsBlind}
use Rattle.ds_monitor.specs.Inner.Kept.{kept_after}
use Rattle.ds_monitor.proofs.Serving.{blind_serves}
use Rattle.ds_monitor.proofs.Stops.{settle_same}

-- Which calls are blind.

get_blind : (m : State) (p : ℕ) (bytes : List ℕ) (memory : PageState) (log : List Line) → after_get (record m { memory = memory; log = log }) p bytes ≡ record (after_get m p bytes) { memory = memory; log = log }
get_blind m p [] memory log = refl
get_blind m p (b ∷ rest) memory log = refl

wait_blind : (m : State) (p : ℕ) (bytes : List ℕ) (memory : PageState) (log : List Line) → after_wait (record m { memory = memory; log = log }) p bytes ≡ record (after_wait m p bytes) { memory = memory; log = log }
wait_blind m p [] memory log = refl
wait_blind m p (b ∷ rest) memory log = refl

-- what is kept after a blind call, as a service
pub by_kept : (f : State → State) (k n : Kept) (memory : List ℕ) → IsBlind f → IsBare k.state → n ≡ kept_after f k → Serves f k memory n memory
by_kept f k n memory blind b same = subst (λ (x : Kept). Serves f k memory x memory) (sym same) (blind_serves f k memory blind b)

pub puts : (p pc byte : ℕ) → IsBlind (λ (m : State). served m p pc (call.Put byte))
puts p pc byte m memory log = refl

pub gets : (p pc : ℕ) → IsBlind (λ (m : State). served m p pc call.Get)
gets p pc m memory log = get_blind m p (queue_of m p) memory log

pub yields : (p pc : ℕ) → IsBlind (λ (m : State). served m p pc call.Yield)
yields p pc m memory log = refl

pub tells_time : (p pc : ℕ) → IsBlind (λ (m : State). served m p pc call.Time)
tells_time p pc m memory log = refl

pub tells_number : (p pc : ℕ) → IsBlind (λ (m : State). served m p pc call.Own)
tells_number p pc m memory log = refl

pub waits : (p pc : ℕ) → IsBlind (λ (m : State). served m p pc call.Wait)
waits p pc m memory log = wait_blind (answered m p 0) p (queue_of m p) memory log

pub says_unknown : (p pc : ℕ) → IsBlind (λ (m : State). served m p pc call.Unknown)
says_unknown p pc m memory log = refl

-- The unit that a call ends.

get_time : (m : State) (p : ℕ) (bytes : List ℕ) → (after_get m p bytes).time ≡ m.time
get_time m p [] = refl
get_time m p (b ∷ rest) = refl

wait_time : (m : State) (p : ℕ) (bytes : List ℕ) → (after_wait m p bytes).time ≡ m.time
wait_time m p [] = refl
wait_time m p (b ∷ rest) = refl

number_time : (m : State) (p : ℕ) (r : Result PageState ℕ) → (or_number m p r).time ≡ m.time
number_time m p (Ok s) = refl
number_time m p (Err n) = refl

denied_time : (m : State) (p pc a : ℕ) (r : Result PageState ℕ) → (or_denied m p pc a r).time ≡ m.time
denied_time m p pc a (Ok s) = refl
denied_time m p pc a (Err n) = refl

-- a call takes no time
served_time : (m : State) (p pc : ℕ) (c : Call) → (served m p pc c).time ≡ m.time
served_time m p pc call.Exit = refl
served_time m p pc (call.Put byte) = refl
served_time m p pc call.Get = get_time m p (queue_of m p)
served_time m p pc call.Yield = refl
served_time m p pc call.Time = refl
served_time m p pc call.Own = refl
served_time m p pc (call.Give a receiver to mode) = denied_time m p pc a (give (lives m) m.memory p a receiver to mode)
served_time m p pc (call.Take q a) = number_time m p (take (lives m) m.memory p q a)
served_time m p pc (call.Drop a) = number_time m p (drop_own m.memory p a)
served_time m p pc call.Wait = wait_time (answered m p 0) p (queue_of m p)
served_time m p pc call.Unknown = refl

-- the turn of a process is done, in a tick
abbrev pub with_end : ℕ → State → State
with_end p m = record m { time = m.time + 1; owed = Some (record { began = m.time; runner = Some p }) }

-- a process that stands after its call is served, and its turn is done
abbrev pub called : ℕ → ℕ → Call → State → State
called p pc c m = with_end p (served (at_pc m p (word (pc + 4))) p pc c)

pub call_ends : (p pc : ℕ) (c : Call) (m : State) → (process_of m p).registers.late ≡ None → c ≡ call_of (process_of (at_pc m p (word (pc + 4))) p).registers.general → ends_in_call p pc m ≡ called p pc c m
call_ends p pc c m none is =
    let afterwards = at_pc m p (word (pc + 4)) in
    let asked = call_of (process_of afterwards p).registers.general in
    let settled : ends_in_call p pc m ≡ owes_boundary m.time p (record (served afterwards p pc asked) { time = (served afterwards p pc asked).time + 1 })
    = ap (λ (s : State). let t = at_pc s p (word (pc + 4)) in
    owes_boundary m.time p (record (served t p pc (call_of (process_of t p).registers.general)) { time = (served t p pc (call_of (process_of t p).registers.general)).time + 1 })) (settle_same m p none) in
    settled
    ∙ (ap (λ (x : Call). owes_boundary m.time p (record (served afterwards p pc x) { time = (served afterwards p pc x).time + 1 })) (sym is)
    ∙ ap (λ (t : ℕ). record (served afterwards p pc c) { time = (served afterwards p pc c).time + 1; owed = Some (record { began = t; runner = Some p }) }) (sym (served_time afterwards p pc c)))
