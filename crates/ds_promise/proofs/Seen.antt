-- An instruction does the same in states that look alike to its process.
use Rattle.std.proofs.Common.{◌≡◌, ◌≢◌, ℕ, zero, suc, ◌-◌, ◌%◌, ◌<◌, ◌≤◌, true, cond, List, [], ◌∷◌, length, length-set, Option, Some, None, inl, inr, refl, sym, ap, ◌∙◌, subst, arith}
use Rattle.std.specs.Prelude.{◌^◌, not, nat_le, slice_set}
use Rattle.std.proofs.lemmas.List.{get_or-set_other}
use Rattle.std.proofs.lemmas.Bool.{cases_eq}
use Rattle.ds_word.specs.Bytes.{word_at, with_word}
use Rattle.ds_isa.specs.declared.instr.Kind.{Kind}
use Rattle.ds_isa.specs.declared.instr.Kind.TheVariants.{Fetch, Load, Store}
use Rattle.ds_isa.specs.declared.instr.Size.{Size}
use Rattle.ds_isa.specs.declared.instr.Size.TheVariants.{Word}
use Rattle.ds_isa.specs.Access.{is_aligned}
use Rattle.ds_isa.specs.Registers.{Registers, settled}
use Rattle.ds_isa.specs.Instruction.{instruction_of}
use Rattle.ds_isa.specs.Meaning.{Effect, Goes, Branches, Loads, Stores, Faults, Calls, Privileged, meaning}
use Rattle.ds_policy.specs.declared.access.Rule.TheVariants.{K, A}
use Rattle.ds_policy.specs.declared.access.Verdict.{Verdict}
use Rattle.ds_policy.specs.declared.access.Verdict.TheVariants.{Allowed, Denied}
use Rattle.ds_policy.specs.declared.grant.Grant.{Grant}
use Rattle.ds_policy.specs.Grants.{is_some_right}
use Rattle.ds_policy.specs.Pages.{Pages, decide, bytes_of, entry_at, page_address, by_entry, address_code}
use Rattle.ds_pagemap.specs.Machine.{State, Process, process_of, with_process}
use Rattle.ds_pagemap.specs.Unit.{Stop, Outcome, Went, Stopped, settle, where_allowed, with_registers, stored, fault, done, instruction}
use Rattle.ds_pagemap.proofs.Processes.{process_of-with_process, process_of-with_process_other}
use Rattle.ds_promise.specs.Stores.{live_page}
use Rattle.ds_promise.specs.Seen.{LookAlike, Computes, Jumps, WritesWord, MakesCall, Stops, BySameAction, StayAlike}
use Rattle.ds_promise.proofs.Granted.{allowed_holds, lets_something}

-- one answer of the table
same_answer : (p : ℕ) (m t : State) → LookAlike p m t → (kind : Kind) (size : Size) (address : ℕ) → decide m.memory.table p kind size address ≡ decide t.memory.table p kind size address
same_answer p m t k kind size address = ap (λ (e : Option Grant). cond (not (is_aligned size address)) (Denied A (address_code kind)) (cond (nat_le (2 ^ 31) address) (Denied K (address_code kind)) (by_entry e kind (address % 4096)))) (k.entries (page_address address))

-- one page where it allows
shared_page : (p : ℕ) (m t : State) → LookAlike p m t → (kind : Kind) (size : Size) (address page offset : ℕ) → decide m.memory.table p kind size address ≡ Allowed page offset → live_page m.memory.pages page ≡ live_page t.memory.pages page
shared_page p m t k kind size address page offset e =
    let h = allowed_holds m.memory.table p kind size address page offset e in
    k.pages (page_address address) page h.grant h.held (lets_something h.grant.right kind h.right) h.names

abbrev bytes_or : Option (List ℕ) → List ℕ
bytes_or None = []
bytes_or (Some bytes) = bytes

bytes_are : (ps : Pages) (page : ℕ) → bytes_of ps page ≡ bytes_or (live_page ps page)
bytes_are [] page = refl
bytes_are (None ∷ ps) zero = refl
bytes_are (Some b ∷ ps) zero = refl
bytes_are (b ∷ ps) (suc page) = bytes_are ps page

same_bytes : (ps qs : Pages) (page : ℕ) → live_page ps page ≡ live_page qs page → bytes_of ps page ≡ bytes_of qs page
same_bytes ps qs page s = bytes_are ps page ∙ (ap bytes_or s ∙ sym (bytes_are qs page))

-- one page put anew in both
set_alike : (ps qs : Pages) (i : ℕ) (x : Option (List ℕ)) → length ps ≡ length qs → live_page (slice_set ps i x) i ≡ live_page (slice_set qs i x) i
set_alike [] [] i x size = refl
set_alike [] (b ∷ qs) i x size = absurd (omega arith)
set_alike (a ∷ ps) [] i x size = absurd (omega arith)
set_alike (a ∷ ps) (b ∷ qs) zero x size = refl
set_alike (a ∷ ps) (b ∷ qs) (suc i) x size = set_alike ps qs i x (omega arith)

module _ (R : Outcome → Outcome → Type 0) (stop : (s : Stop) → R (Stopped s) (Stopped s)) (p : ℕ) (m t : State) (k : LookAlike p m t) where
  one_stop : (kind : Kind) (size : Size) (address : ℕ) (f g : ℕ → ℕ → Outcome) (v : Verdict) → decide m.memory.table p kind size address ≡ v
      → ((page offset : ℕ) → live_page m.memory.pages page ≡ live_page t.memory.pages page → R (f page offset) (g page offset))
      → R (where_allowed v kind address f) (where_allowed v kind address g)
  one_stop kind size address f g (Allowed page offset) is h = h page offset (shared_page p m t k kind size address page offset is)
  one_stop kind size address f g (Denied rule code) is h = stop _

  -- what is done where an access is allowed
  one_access : (kind : Kind) (size : Size) (address : ℕ) (f g : ℕ → ℕ → Outcome)
      → ((page offset : ℕ) → live_page m.memory.pages page ≡ live_page t.memory.pages page → R (f page offset) (g page offset))
      → R (where_allowed (decide m.memory.table p kind size address) kind address f) (where_allowed (decide t.memory.table p kind size address) kind address g)
  one_access kind size address f g h =
      subst (λ (v : Verdict). R (where_allowed (decide m.memory.table p kind size address) kind address f) (where_allowed v kind address g)) (same_answer p m t k kind size address)
      (one_stop kind size address f g (decide m.memory.table p kind size address) refl h)

  by_fetch : (pc : ℕ) → ((e : Effect) → R (done m p pc e) (done t p pc e)) → R (instruction m p pc) (instruction t p pc)
  unfolding instruction
  by_fetch pc h = one_access Fetch Word pc _ _ (λ page offset s.
      let e : List ℕ → Registers → Effect = λ bs r. meaning (instruction_of (word_at bs offset)) pc r in
      let same : e (bytes_of m.memory.pages page) (process_of m p).registers ≡ e (bytes_of t.memory.pages page) (process_of t p).registers = ap (λ (bs : List ℕ). e bs (process_of m p).registers) (same_bytes m.memory.pages t.memory.pages page s) ∙ ap (e (bytes_of t.memory.pages page)) k.registers in
      subst (λ (x : Effect). R (done m p pc (e (bytes_of m.memory.pages page) (process_of m p).registers)) (done t p pc x)) same (h (e (bytes_of m.memory.pages page) (process_of m p).registers)))

-- One action.

action_done : (p : ℕ) (m t : State) → LookAlike p m t → (pc : ℕ) (e : Effect) → BySameAction p m t (done m p pc e) (done t p pc e)
action_done p m t k pc (Goes r) = record { action = Computes r; here = refl; there = refl }
action_done p m t k pc (Branches r target) = record { action = Jumps r target; here = refl; there = refl }
action_done p m t k pc (Loads size address after) = one_access (BySameAction p m t) (λ s. record { action = Stops s; here = refl; there = refl }) p m t k Load size address _ _ (λ page offset s. record {
  action = Computes (after (word_at (bytes_of m.memory.pages page) offset));
  here = refl;
  there = ap (λ (bs : List ℕ). Went (with_registers t p (after (word_at bs offset)))) (sym (same_bytes m.memory.pages t.memory.pages page s));
})
action_done p m t k pc (Stores size address value) = one_access (BySameAction p m t) (λ s. record { action = Stops s; here = refl; there = refl }) p m t k Store size address _ _ (λ page offset s. record {
  action = WritesWord page offset (value (word_at (bytes_of m.memory.pages page) offset));
  here = refl;
  there = ap (λ (bs : List ℕ). Went (stored (with_registers t p (settled (process_of t p).registers)) page offset (λ old. value (word_at bs offset)))) (sym (same_bytes m.memory.pages t.memory.pages page s));
})
action_done p m t k pc (Faults code) = record { action = Stops (fault pc code); here = refl; there = refl }
action_done p m t k pc Calls = record { action = MakesCall; here = refl; there = refl }
action_done p m t k pc Privileged = record { action = Stops (fault pc 11); here = refl; there = refl }

pub one_action : (p pc : ℕ) (m t : State) → LookAlike p m t → BySameAction p m t (instruction m p pc) (instruction t p pc)
one_action p pc m t k = by_fetch (BySameAction p m t) (λ s. record { action = Stops s; here = refl; there = refl }) p m t k pc (action_done p m t k pc)

-- After an instruction.

-- the process with other registers
registers_alike : (p : ℕ) (m t : State) (r s : Registers) → r ≡ s → LookAlike p m t → LookAlike p (with_registers m p r) (with_registers t p s)
registers_alike p m t r s e k =
    let q = process_of-with_process m p (record (process_of m p) { registers = r }) k.above k.here in
    let o = process_of-with_process t p (record (process_of t p) { registers = s }) k.above k.there in
    record {
      above = k.above;
      here = still m.processes (p - 1) _ p k.here;
      there = still t.processes (p - 1) _ p k.there;
      registers = ap (λ (x : Process). x.registers) q ∙ (e ∙ ap (λ (x : Process). x.registers) (sym o));
      pc = ap (λ (x : Process). x.pc) q ∙ (k.pc ∙ ap (λ (x : Process). x.pc) (sym o));
      entries = k.entries;
      pages = k.pages;
      room = k.room;
    }
  where
    still : (ps : List Process) (i : ℕ) (x : Process) (p : ℕ) → p ≤ length ps → p ≤ length (slice_set ps i x)
    still ps i x p within = omega (arith, length-set ps i x)

-- the page where a word is put, and the others
put_shared : (ps qs : Pages) (at page offset w : ℕ) → length ps ≡ length qs → live_page ps at ≡ live_page qs at → live_page ps page ≡ live_page qs page
    → live_page (slice_set ps at (Some (with_word (bytes_of ps at) offset w))) page ≡ live_page (slice_set qs at (Some (with_word (bytes_of qs at) offset w))) page
put_shared ps qs at page offset w size s o = elim (cases_eq page at) [
  | inl is ↦ rw is (set_alike ps qs at (Some (with_word (bytes_of ps at) offset w)) size
      ∙ ap (λ (bs : List ℕ). live_page (slice_set qs at (Some (with_word bs offset w))) at) (same_bytes ps qs at s))
  | inr other ↦ get_or-set_other ps at page _ None other ∙ (o ∙ sym (get_or-set_other qs at page _ None other))
]

puts_alike : (p : ℕ) (m t : State) (page offset w : ℕ) → live_page m.memory.pages page ≡ live_page t.memory.pages page → LookAlike p m t → LookAlike p (stored m page offset (λ old. w)) (stored t page offset (λ old. w))
puts_alike p m t page offset w s k = record {
  above = k.above;
  here = k.here;
  there = k.there;
  registers = k.registers;
  pc = k.pc;
  entries = k.entries;
  pages = λ address other g held right names. put_shared m.memory.pages t.memory.pages page other offset w k.room s (k.pages address other g held right names);
  room = as_many m.memory.pages t.memory.pages page _ _ k.room;
}
  where
    as_many : (ps qs : Pages) (i : ℕ) (x y : Option (List ℕ)) → length ps ≡ length qs → length (slice_set ps i x) ≡ length (slice_set qs i y)
    as_many ps qs i x y size = length-set ps i x ∙ (size ∙ sym (length-set qs i y))

settle_alike : (p : ℕ) (m t : State) → LookAlike p m t → LookAlike p (settle m p) (settle t p)
settle_alike p m t k = registers_alike p m t _ _ (ap settled k.registers) k

store_alike : (p : ℕ) (m t : State) (page offset : ℕ) (value : ℕ → ℕ) → live_page m.memory.pages page ≡ live_page t.memory.pages page → LookAlike p m t → LookAlike p (stored m page offset value) (stored t page offset value)
store_alike p m t page offset value s k =
    subst (λ (bs : List ℕ). LookAlike p (stored m page offset value) (stored t page offset (λ old. value (word_at bs offset)))) (same_bytes m.memory.pages t.memory.pages page s)
    (puts_alike p m t page offset (value (word_at (bytes_of m.memory.pages page) offset)) s k)

stay_done : (p : ℕ) (m t : State) → LookAlike p m t → (pc : ℕ) (e : Effect) → StayAlike p (done m p pc e) (done t p pc e)
stay_done p m t k pc (Goes r) = registers_alike p m t r r refl k
stay_done p m t k pc (Branches r target) = (registers_alike p m t r r refl k, refl)
stay_done p m t k pc (Loads size address after) = one_access (StayAlike p) (λ s. refl) p m t k Load size address _ _ (λ page offset s.
    registers_alike p m t _ _ (ap (λ (bs : List ℕ). after (word_at bs offset)) (same_bytes m.memory.pages t.memory.pages page s)) k)
stay_done p m t k pc (Stores size address value) = one_access (StayAlike p) (λ s. refl) p m t k Store size address _ _ (λ page offset s.
    store_alike p (settle m p) (settle t p) page offset value s (settle_alike p m t k))
stay_done p m t k pc (Faults code) = refl
stay_done p m t k pc Calls = tt
stay_done p m t k pc Privileged = refl

pub stay_alike : (p pc : ℕ) (m t : State) → LookAlike p m t → StayAlike p (instruction m p pc) (instruction t p pc)
stay_alike p pc m t k = by_fetch (StayAlike p) (λ s. refl) p m t k pc (stay_done p m t k pc)

-- Every state looks alike to itself.
pub looks_like_itself : (p : ℕ) (m : State) → 0 < p → p ≤ length m.processes → LookAlike p m m
looks_like_itself p m above within = record { above = above; here = within; there = within; registers = refl; pc = refl; entries = λ address. refl; pages = λ address page g held right names. refl; room = refl }

-- The registers of another process are not looked at.
pub others_are_not_seen : (p r : ℕ) (m : State) (q : Process) → 0 < p → p ≤ length m.processes → 0 < r → p ≢ r → LookAlike p m (with_process m r q)
others_are_not_seen p r m q above within r_above apart =
    let same : process_of (with_process m r q) p ≡ process_of m p = process_of-with_process_other m r p q r_above above apart in
    record {
      above = above;
      here = within;
      there = longer m.processes (r - 1) q p within;
      registers = ap (λ (x : Process). x.registers) (sym same);
      pc = ap (λ (x : Process). x.pc) (sym same);
      entries = λ address. refl;
      pages = λ address page g held right names. refl;
      room = refl;
    }
  where
    longer : (ps : List Process) (i : ℕ) (x : Process) (p : ℕ) → p ≤ length ps → p ≤ length (slice_set ps i x)
    longer ps i x p within = omega (arith, length-set ps i x)

-- Nor is a page that none of its entries with a right names.
pub other_pages_are_not_seen : (p : ℕ) (m : State) (page : ℕ) (x : Option (List ℕ)) → 0 < p → p ≤ length m.processes
    → ((address : ℕ) (g : Grant) → entry_at m.memory.table p address ≡ Some g → is_some_right g.right ≡ true → g.page ≢ Some page)
    → LookAlike p m (record m { memory = record m.memory { pages = slice_set m.memory.pages page x } })
other_pages_are_not_seen p m page x above within apart = record {
  above = above;
  here = within;
  there = within;
  registers = refl;
  pc = refl;
  entries = λ address. refl;
  pages = λ address q g held right names. sym (get_or-set_other m.memory.pages page q x None (λ (e : ◌≡◌ {A = ℕ} q page). apart address g held right (names ∙ ap Some e)));
  room = sym (length-set m.memory.pages page x);
}
