-- Calls about what is granted, as services.
use Rattle.std.proofs.Common.{◌≡◌, ◌∙◌, ℕ, ◌+◌, List, [], ◌∷◌, ◌++◌, refl, sym, ap, arith, Result, Ok, Err}
use Rattle.std.specs.Prelude.{OnOk, IfErr}
use Rattle.std.proofs.lemmas.List.{append-nil}
use Rattle.ds_policy.specs.declared.access.Rule.TheVariants.{Number}
use Rattle.ds_policy.specs.Pages.{entry_at, page_address}
use Rattle.ds_policy.specs.Grants.{PageState, give, take}
use Rattle.ds_log.specs.declared.line.Line.{Line}
use Rattle.ds_log.specs.declared.line.Line.TheVariants.{Denial}
use Rattle.ds_log.specs.declared.line.Denied.TheVariants.{Give}
use Rattle.ds_log.specs.Text.{line_text}
use Rattle.ds_grants.specs.declared.fault.GrantFault.{GrantFault}
use Rattle.ds_grants.specs.State.{GrantsState, page_state}
use Rattle.ds_grants.specs.Inner.State.{DoesCall, grant_fault_number, lives_in}
use Rattle.ds_tables.specs.Places.{Places}
use Rattle.ds_asid.specs.Spaces.{Spaces}
use Rattle.ds_pagemap.specs.Machine.{State, lives}
use Rattle.ds_pagemap.specs.Calls.{with_pages, answered, or_number, rule_number_of, or_denied}
use Rattle.ds_refinement.specs.Held.{Kept}
use Rattle.ds_refinement.specs.Inner.Held.{whole}
use Rattle.ds_refinement.specs.Inner.Services.{IsBare, Serves}
use Rattle.ds_monitor.specs.declared.monitor.Monitor.{Monitor}
use Rattle.ds_monitor.specs.Inner.Room.{HasLogRoom}
use Rattle.ds_monitor.specs.Inner.Kept.{kept_after}
use Rattle.ds_monitor.specs.Inner.Ended.{marks_of}
use Rattle.ds_monitor.proofs.Living.{lives_as, give_as, take_as}

-- fewer lines need no more room
pub less_room : (n : ℕ) (m : Monitor) → HasLogRoom (n + 1) m → HasLogRoom n m
less_room n m h = omega (arith, h)

-- what is kept with other pages and another table, once a process has its answer
abbrev pub with_answer : Kept → GrantsState → Places → Spaces → ℕ → ℕ → Kept
with_answer k g t s p value = kept_after (λ (m : State). answered m p value) (record k { grants = g; tables = t; spaces = s })

-- pages and table become others, and the process has its answer
pub answered_serves : (f : State → State) (k : Kept) (x y : List ℕ) (g : GrantsState) (t : Places) (s : Spaces) (p value : ℕ) → IsBare k.state
    → ((log : List Line) → f (whole k x log) ≡ answered (with_pages (whole k x log) (page_state g y)) p value)
    → Serves f k x (with_answer k g t s p value) y
answered_serves f k x y g t s p value b does = record {
  lines = [];
  state = λ log. does log ∙ ap (λ (l : List Line). whole (with_answer k g t s p value) y l) (sym (append-nil log));
  bare = record { memory = b.memory; log = b.log };
  text = sym (append-nil k.log);
  count = omega arith;
}

-- where pages and table become the same, what serves them serves those before
pub serves_before : (f : State → State) (k n : Kept) (x y z : List ℕ) (g : GrantsState) (t : Places) (v : Spaces) → page_state g y ≡ page_state k.grants x
    → Serves f (record k { grants = g; tables = t; spaces = v }) y n z → Serves f k x n z
serves_before f k n x y z g t v same s = record {
  lines = s.lines;
  state = λ log. ap (λ (pages : PageState). f (with_pages (whole k x log) pages)) (sym same) ∙ s.state log;
  bare = s.bare;
  text = s.text;
  count = s.count;
}

-- What the machine is asked is what the grants answer.

pub gives : (k : Kept) (x : List ℕ) (log : List Line) (p address receiver to mode : ℕ) → marks_of k.state ≡ k.grants.ended
    → give (lives (whole k x log)) (whole k x log).memory p address receiver to mode ≡ give (lives_in k.grants) (page_state k.grants x) p address receiver to mode
gives k x log p address receiver to mode marks = give_as (lives (whole k x log)) (lives_in k.grants) (page_state k.grants x) p address receiver to mode (lives_as (whole k x log) k.grants receiver marks)

pub takes : (k : Kept) (x : List ℕ) (log : List Line) (p holder address : ℕ) → marks_of k.state ≡ k.grants.ended
    → take (lives (whole k x log)) (whole k x log).memory p holder address ≡ take (lives_in k.grants) (page_state k.grants x) p holder address
takes k x log p holder address marks = take_as (lives (whole k x log)) (lives_in k.grants) (page_state k.grants x) p holder address (lives_as (whole k x log) k.grants holder marks)

-- What is answered.

number_is : {R : Type 0} (m : State) (p value : ℕ) (new : PageState) (r : Result R GrantFault) (meant : Result PageState ℕ) → DoesCall m.memory new r meant
    → OnOk r (value ≡ 0) → IfErr r (λ fault. value ≡ grant_fault_number fault) → or_number m p meant ≡ answered (with_pages m new) p value
number_is m p value new (Ok x) meant is done refused = ap (or_number m p) is ∙ ap (answered (with_pages m new) p) (sym done)
number_is m p value new (Err fault) meant is done refused =
    ap (or_number m p) is.0
    ∙ (ap (λ (pages : PageState). answered (with_pages m pages) p (grant_fault_number fault)) (sym is.1)
    ∙ ap (answered (with_pages m new) p) (sym refused))

-- a call that is answered 0 or the number of its refusal
pub number_serves : {R : Type 0} (f : State → Result PageState ℕ) (k : Kept) (x y : List ℕ) (g : GrantsState) (t : Places) (s : Spaces) (p value : ℕ) (r : Result R GrantFault) (meant : Result PageState ℕ) → IsBare k.state
    → ((log : List Line) → f (whole k x log) ≡ meant) → DoesCall (page_state k.grants x) (page_state g y) r meant
    → OnOk r (value ≡ 0) → IfErr r (λ fault. value ≡ grant_fault_number fault)
    → Serves (λ (m : State). or_number m p (f m)) k x (with_answer k g t s p value) y
number_serves f k x y g t s p value r meant b asks does done refused =
    answered_serves (λ (m : State). or_number m p (f m)) k x y g t s p value b
    (λ log. ap (or_number (whole k x log) p) (asks log) ∙ number_is (whole k x log) p value (page_state g y) r meant does done refused)

-- A refused give.

-- what is kept once a give is refused by a number
abbrev pub denied : Kept → ℕ → ℕ → ℕ → ℕ → Kept
denied k p pc address number =
    let line = Denial k.state.time p pc Give address (Number (rule_number_of (entry_at k.grants.table p (page_address address)))) 8 in
    record (kept_after (λ (m : State). answered m p number) k) { log = k.log ++ line_text line; lines = k.lines + 1 }

-- the process is answered the number, and the log tells it
pub denied_serves : (k : Kept) (p pc address number : ℕ) (memory : List ℕ) → IsBare k.state
    → Serves (λ (m : State). or_denied m p pc address (Err number)) k memory (denied k p pc address number) memory
denied_serves k p pc address number memory b =
    let line = Denial k.state.time p pc Give address (Number (rule_number_of (entry_at k.grants.table p (page_address address)))) 8 in
    record {
      lines = line ∷ [];
      state = λ log. refl;
      bare = record { memory = b.memory; log = b.log };
      text = ap (λ (t : List ℕ). k.log ++ t) (sym (append-nil (line_text line)));
      count = refl;
    }
