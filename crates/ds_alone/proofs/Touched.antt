-- A process that reads nothing that a touch can reach does in any run what it does alone.
use Rattle.std.proofs.Common.{◌≡◌, ◌≢◌, ◌⊎◌, ℕ, zero, suc, ◌+◌, ◌-◌, ◌%◌, ◌<◌, ◌≤◌, Bool, true, false, cond, not, List, [], ◌∷◌, ◌++◌, map, set, length, length-set, Option, Some, None, refl, sym, ap, ap₂, ◌∙◌, subst, arith, inl, inr}
use Rattle.std.specs.Prelude.{◌^◌, ◌&&◌, nat_le, is_some, slice_index, slice_set, slice_index_or}
use Rattle.std.specs.List.{All}
use Rattle.std.proofs.lemmas.Bool.Decides.{nat_tests}
use Rattle.std.proofs.lemmas.List.{set-get_or, get_or-set_other, append_cancel_left}
use Rattle.ds_word.specs.Word.{word}
use Rattle.ds_word.specs.Bytes.{word_at}
use Rattle.ds_isa.specs.declared.instr.Kind.TheVariants.{Fetch}
use Rattle.ds_isa.specs.declared.instr.Late.{Late}
use Rattle.ds_isa.specs.declared.instr.Size.TheVariants.{Word}
use Rattle.ds_isa.specs.Access.{is_aligned}
use Rattle.ds_isa.specs.Instruction.{instruction_of}
use Rattle.ds_isa.specs.Registers.{Registers}
use Rattle.ds_procs.specs.declared.process.Standing.TheVariants.{Waiting}
use Rattle.ds_procs.specs.Calls.{call_of}
use Rattle.ds_policy.specs.declared.access.Rule.TheVariants.{K, A}
use Rattle.ds_policy.specs.declared.access.Verdict.{Verdict}
use Rattle.ds_policy.specs.declared.access.Verdict.TheVariants.{Allowed, Denied}
use Rattle.ds_policy.specs.declared.command.Character.{Character}
use Rattle.ds_policy.specs.declared.command.TimedCommand.{TimedCommand}
use Rattle.ds_policy.specs.declared.grant.Grant.{Grant}
use Rattle.ds_policy.specs.Grants.{PageState, is_some_right}
use Rattle.ds_policy.specs.Pages.{Pages, decide, bytes_of, entry_at, page_address, by_entry, address_code}
use Rattle.ds_pagemap.specs.declared.turn.Turn.{Turn}
use Rattle.ds_pagemap.specs.Machine.{State, Process, no_process, process_of, touched_process, touch_first, touched}
use Rattle.ds_pagemap.specs.Unit.{Outcome, Went, Branched, Called, Stopped, with_registers, instruction, unit}
use Rattle.ds_pagemap.specs.Boundary.{boundary}
use Rattle.ds_pagemap.specs.Run.{half_turn}
use Rattle.ds_pagemap.proofs.Processes.{process_of-with_process}
use Rattle.ds_pagemap_laws.specs.Lawful.{IsLawful}
use Rattle.ds_pagemap_laws.proofs.Formed.{still_within}
use Rattle.ds_pagemap_laws.proofs.LawfulUnits.{touched_lawful}
use Rattle.ds_promise.specs.Seen.{LookAlike, StayAlike}
use Rattle.ds_promise.specs.Stores.{live_page}
use Rattle.ds_promise.specs.Lines.{lines_of_first, lines_of_instruction}
use Rattle.ds_promise.proofs.Granted.{allowed_holds, lets_something}
use Rattle.ds_promise.proofs.Lines.{unit_lines}
use Rattle.ds_promise.proofs.Seen.{stay_alike}
use Rattle.ds_promise.proofs.Stores.{touched_owed}
use Rattle.ds_promise.proofs.WholeStates.{touched_whole}
use Rattle.ds_promise.specs.Alike.{is_kernel_register, is_quiet, AreLateAlike, AreAlike}
use Rattle.ds_promise.specs.Twins.{HaveRegisters}
use Rattle.ds_promise.specs.Inner.Twins.{IsTwinProcess, AreTwins, IsTwin, OutcomesAlike}
use Rattle.ds_promise.specs.Quiet.{quiet_where, quiet_at, quiet_after, quiet_first}
use Rattle.ds_promise.proofs.Inputs.{have_registers}
use Rattle.ds_promise.proofs.Twins.{twin, twins_set}
use Rattle.ds_promise.proofs.Units as twins
use Rattle.ds_alone.specs.Alone.{SharesNothing, LeavesAlone, HearsNothing, IsAlone, StandsAlone, SeemsAlike}
use Rattle.ds_alone.specs.Deeds.{untimed, puts_of, deed, asks_nothing, next_asks_nothing, tells_nothing, written_by}
use Rattle.ds_alone.specs.Touched.{doing}

-- One answer and one page.

same_answer : (p : ℕ) (m t : State) → LookAlike p m t → (pc : ℕ) → decide m.memory.table p Fetch Word pc ≡ decide t.memory.table p Fetch Word pc
same_answer p m t k pc = ap (λ (e : Option Grant). cond (not (is_aligned Word pc)) (Denied A (address_code Fetch)) (cond (nat_le (2 ^ 31) pc) (Denied K (address_code Fetch)) (by_entry e Fetch (pc % 4096)))) (k.entries (page_address pc))

shared_page : (p : ℕ) (m t : State) → LookAlike p m t → (pc page offset : ℕ) → decide m.memory.table p Fetch Word pc ≡ Allowed page offset → live_page m.memory.pages page ≡ live_page t.memory.pages page
shared_page p m t k pc page offset e =
    let h = allowed_holds m.memory.table p Fetch Word pc page offset e in
    k.pages (page_address pc) page h.grant h.held (lets_something h.grant.right Fetch h.right) h.names

abbrev bytes_or : Option (List ℕ) → List ℕ
bytes_or None = []
bytes_or (Some bytes) = bytes

bytes_are : (ps : Pages) (page : ℕ) → bytes_of ps page ≡ bytes_or (live_page ps page)
bytes_are [] page = refl
bytes_are (None ∷ ps) zero = refl
bytes_are (Some b ∷ ps) zero = refl
bytes_are (b ∷ ps) (suc page) = bytes_are ps page

same_bytes : (ps qs : Pages) (page : ℕ) → live_page ps page ≡ live_page qs page → bytes_of ps page ≡ bytes_of qs page
same_bytes ps qs page s = bytes_are ps page ∙ (ap bytes_or s ∙ sym (bytes_are qs page))

-- What is quiet in one state is so in one that seems alike.

quiet_by : (p pc : ℕ) (m t : State) → LookAlike p m t → (v : Verdict) → decide m.memory.table p Fetch Word pc ≡ v → quiet_where m p v ≡ quiet_where t p v
quiet_by p pc m t k (Allowed page offset) is =
    ap (λ (bs : List ℕ). is_quiet (process_of m p).registers (instruction_of (word_at bs offset))) (same_bytes m.memory.pages t.memory.pages page (shared_page p m t k pc page offset is))
    ∙ ap (λ (r : Registers). is_quiet r (instruction_of (word_at (bytes_of t.memory.pages page) offset))) k.registers
quiet_by p pc m t k (Denied rule code) is = refl

quiet_same : (p pc : ℕ) (m t : State) → LookAlike p m t → quiet_at m p pc ≡ quiet_at t p pc
quiet_same p pc m t k = quiet_by p pc m t k (decide m.memory.table p Fetch Word pc) refl ∙ ap (quiet_where t p) (same_answer p m t k pc)

past_same : (p pc : ℕ) (o u : Outcome) → StayAlike p o u → quiet_after p pc o ≡ quiet_after p pc u
past_same p pc (Went x) (Went y) s = refl
past_same p pc (Branched x target) (Branched y there) s = quiet_same p (word (pc + 4)) x y s.0
past_same p pc Called Called s = refl
past_same p pc (Stopped stop) (Stopped other) s = refl
past_same p pc o u s = absurd s

pub first_same : (p : ℕ) (m t : State) (rest others : List ℕ) → LookAlike p m t → quiet_first m (p ∷ rest) ≡ quiet_first t (p ∷ others)
first_same p m t rest others k =
    let pc = (process_of m p).pc in
    ap₂ (λ (a b : Bool). a && b) (quiet_same p pc m t k) (past_same p pc (instruction m p pc) (instruction t p pc) (stay_alike p pc m t k))
    ∙ ap (λ (a : ℕ). quiet_at t p a && quiet_after p a (instruction t p a)) k.pc

-- States of a run that was touched.

-- m is t but for what a touch can reach of process p's registers, as process p sees it
pub record SeemsTouched (p : ℕ) (t m : State) : Type 0 where
  pub above : 0 < p
  pub here : p ≤ length t.processes
  pub there : p ≤ length m.processes
  pub registers : AreAlike (process_of t p).registers (process_of m p).registers
  pub pc : (process_of t p).pc ≡ (process_of m p).pc
  pub standing : (process_of t p).standing ≡ (process_of m p).standing
  pub entries : (address : ℕ) → entry_at t.memory.table p address ≡ entry_at m.memory.table p address
  pub pages : (address page : ℕ) (g : Grant) → entry_at t.memory.table p address ≡ Some g → is_some_right g.right ≡ true → g.page ≡ Some page → live_page t.memory.pages page ≡ live_page m.memory.pages page
  pub room : length t.memory.pages ≡ length m.memory.pages

-- m with the registers that process p has in t
abbrev pub untouched : ℕ → State → State → State
untouched p t m = with_registers m p (process_of t p).registers

pub untouched_seems : (p : ℕ) (t m : State) → SeemsTouched p t m → SeemsAlike p t (untouched p t m)
untouched_seems p t m k =
    let is = process_of-with_process m p (record (process_of m p) { registers = (process_of t p).registers }) k.above k.there in
    record {
      look = record {
        above = k.above;
        here = k.here;
        there = still_within m p p (record (process_of m p) { registers = (process_of t p).registers }) k.there;
        registers = ap (λ (x : Process). x.registers) (sym is);
        pc = k.pc ∙ ap (λ (x : Process). x.pc) (sym is);
        entries = k.entries;
        pages = k.pages;
        room = k.room;
      };
      standing = k.standing ∙ ap (λ (x : Process). x.standing) (sym is);
    }

same_registers : (r : Registers) → length r.general ≡ 32 → AreAlike r r
same_registers r e = record { general = λ n h. refl; hi = refl; lo = refl; late = same_late r.late; size = e; same_size = e }
  where
    same_late : (l : Option Late) → AreLateAlike l l
    same_late None = tt
    same_late (Some l) = refl

all_same : (m : State) → HaveRegisters m → AreTwins m.processes m.processes
all_same m h = record { size = refl; each = λ i. record { registers = same_registers _ (h.whole i); pc = refl; standing = refl; line = refl } }

pub untouched_twins : (p : ℕ) (t m : State) → HaveRegisters m → SeemsTouched p t m → AreTwins (untouched p t m).processes m.processes
untouched_twins p t m h k =
    let q = record (process_of m p) { registers = (process_of t p).registers } in
    subst (λ (ps : List Process). AreTwins (untouched p t m).processes ps) (set-get_or m.processes (p - 1) no_process)
    (twins_set m.processes m.processes (p - 1) q (process_of m p) (all_same m h) (record { registers = k.registers; pc = refl; standing = refl; line = refl }))

twin_process : (p : ℕ) (a b : State) → IsTwin a b → IsTwinProcess (process_of a p) (process_of b p)
twin_process p a b k = subst (λ (m : State). IsTwinProcess (process_of a p) (process_of m p)) (sym k.is) (k.twins.each (p - 1))

-- what is a twin of what seems alike seems touched
pub from_twin : (p : ℕ) (t x m : State) → SeemsAlike p t x → IsTwin x m → SeemsTouched p t m
from_twin p t x m s k =
    let q = twin_process p x m k in
    record {
      above = s.look.above;
      here = s.look.here;
      there = more (ap (λ (y : State). length y.processes) k.is) k.twins.size s.look.there;
      registers = subst (λ (r : Registers). AreAlike r (process_of m p).registers) (sym s.look.registers) q.registers;
      pc = s.look.pc ∙ q.pc;
      standing = s.standing ∙ q.standing;
      entries = λ a. s.look.entries a ∙ ap (λ (y : State). entry_at y.memory.table p a) (sym k.is);
      pages = λ a page g held right names. s.look.pages a page g held right names ∙ ap (λ (y : State). live_page y.memory.pages page) (sym k.is);
      room = s.look.room ∙ ap (λ (y : State). length y.memory.pages) (sym k.is);
    }
  where
    more : length m.processes ≡ length k.processes → length x.processes ≡ length k.processes → p ≤ length x.processes → p ≤ length m.processes
    more a b c = omega (arith, a, b, c)

-- Touches.

not_26 : (n : ℕ) → is_kernel_register n ≡ false → n ≢ 26
not_26 n e = λ (f : ◌≡◌ {A = ℕ} n 26). grind (arith, nat_tests)

not_27 : (n : ℕ) → is_kernel_register n ≡ false → n ≢ 27
not_27 n e = λ (f : ◌≡◌ {A = ℕ} n 27). grind (arith, nat_tests)

touched_registers : (r : Registers) (q : Process) → AreAlike r q.registers → AreAlike r (touched_process q).registers
touched_registers r q a = let g = q.registers.general in record {
  general = λ n e. a.general n e ∙ sym (get_or-set_other (set g 26 0) 27 n q.pc 0 (not_27 n e) ∙ get_or-set_other g 26 n 0 0 (not_26 n e));
  hi = a.hi;
  lo = a.lo;
  late = tt;
  size = a.size;
  same_size = length-set (set g 26 0) 27 q.pc ∙ (length-set g 26 0 ∙ a.same_size);
}

-- what a touch leaves of a process
pub record Touches (p : ℕ) (m u : State) : Type 0 where
  pub memory : u.memory ≡ m.memory
  pub commands : u.commands ≡ m.commands
  pub ready : u.ready ≡ m.ready
  pub owed : u.owed ≡ m.owed
  pub queues : u.queues ≡ m.queues
  pub characters : u.characters ≡ m.characters
  pub many : length u.processes ≡ length m.processes
  pub process : (process_of u p ≡ process_of m p) ⊎ (process_of u p ≡ touched_process (process_of m p))

put_cases : (ps : List Process) (i j : ℕ) → (slice_index_or (slice_set ps i (touched_process (slice_index_or ps i no_process))) j no_process ≡ slice_index_or ps j no_process)
    ⊎ (slice_index_or (slice_set ps i (touched_process (slice_index_or ps i no_process))) j no_process ≡ touched_process (slice_index_or ps j no_process))
put_cases [] i j = inl refl
put_cases (q ∷ ps) zero zero = inr refl
put_cases (q ∷ ps) zero (suc j) = inl refl
put_cases (q ∷ ps) (suc i) zero = inl refl
put_cases (q ∷ ps) (suc i) (suc j) = put_cases ps i j

pub touches : (p : ℕ) (b : Bool) (m : State) → Touches p m (touched b m)
touches p false m = record { memory = refl; commands = refl; ready = refl; owed = refl; queues = refl; characters = refl; many = refl; process = inl refl }
touches p true m = by m.ready refl
  where
    by : (ready : List ℕ) → m.ready ≡ ready → Touches p m (touch_first m ready)
    by [] here = record { memory = refl; commands = refl; ready = refl; owed = refl; queues = refl; characters = refl; many = refl; process = inl refl }
    by (q ∷ rest) here = record { memory = refl; commands = refl; ready = refl; owed = refl; queues = refl; characters = refl; many = length-set m.processes (q - 1) _; process = put_cases m.processes (q - 1) (p - 1) }

module _ (p : ℕ) (m u : State) (x : Touches p m u) where
  same_field : {X : Type 0} (f : Process → X) → ((q : Process) → f (touched_process q) ≡ f q) → f (process_of u p) ≡ f (process_of m p)
  same_field f keeps = elim x.process [
    | inl is ↦ ap f is
    | inr is ↦ ap f is ∙ keeps (process_of m p)
  ]

  more : p ≤ length m.processes → p ≤ length u.processes
  more within = let e = x.many in omega (arith, e, within)

  pub touch_seems : (t : State) → SeemsTouched p t m → SeemsTouched p t u
  touch_seems t k = record {
    above = k.above;
    here = k.here;
    there = more k.there;
    registers = elim x.process [
      | inl is ↦ subst (λ (q : Process). AreAlike (process_of t p).registers q.registers) (sym is) k.registers
      | inr is ↦ subst (λ (q : Process). AreAlike (process_of t p).registers q.registers) (sym is) (touched_registers (process_of t p).registers (process_of m p) k.registers)
    ];
    pc = k.pc ∙ sym (same_field (λ q. q.pc) (λ q. refl));
    standing = k.standing ∙ sym (same_field (λ q. q.standing) (λ q. refl));
    entries = λ a. k.entries a ∙ ap (λ (s : PageState). entry_at s.table p a) (sym x.memory);
    pages = λ a page g held right names. k.pages a page g held right names ∙ ap (λ (s : PageState). live_page s.pages page) (sym x.memory);
    room = k.room ∙ ap (λ (s : PageState). length s.pages) (sym x.memory);
  }

  touch_alone : (listens : Bool) → IsAlone listens p m → IsAlone listens p u
  touch_alone listens k = record {
    above = k.above;
    here = more k.here;
    shares = subst (λ (s : PageState). SharesNothing p s.table) (sym x.memory) k.shares;
    commands = subst (λ (s : PageState). All (λ (c : TimedCommand). LeavesAlone s.table p c.command) u.commands) (sym x.memory) (subst (λ (cs : List TimedCommand). All (λ (c : TimedCommand). LeavesAlone m.memory.table p c.command) cs) (sym x.commands) k.commands);
    hears = hears_too listens k.hears;
  }
    where
      line : (process_of u p).line ≡ (process_of m p).line
      line = same_field (λ q. q.line) (λ q. refl)

      hears_too : (listens : Bool) → HearsNothing listens p m → HearsNothing listens p u
      hears_too true h = record {
        queue = ap (λ (qs : List (List ℕ)). slice_index_or qs (process_of u p).line []) x.queues ∙ (ap (λ (l : ℕ). slice_index_or m.queues l []) line ∙ h.queue);
        coming = subst (λ (cs : List Character). All (λ (c : Character). c.line ≢ (process_of u p).line) cs) (sym x.characters) (subst (λ (l : ℕ). All (λ (c : Character). c.line ≢ l) m.characters) (sym line) h.coming);
      }
      hears_too false awake = λ (e : (process_of u p).standing ≡ Waiting). awake (sym (same_field (λ q. q.standing) (λ q. refl)) ∙ e)

pub touch_stands : (listens : Bool) (p : ℕ) (b : Bool) (m : State) → StandsAlone listens p m → StandsAlone listens p (touched b m)
touch_stands listens p b m k = record { lawful = touched_lawful b m k.lawful; whole = touched_whole b m k.whole; alone = touch_alone p m (touched b m) (touches p b m) listens k.alone }

pub half_touch : (b : Bool) (m : State) → half_turn b m ≡ half_turn false (touched b m)
unfolding half_turn
half_touch b m = ap (λ (o : Option Turn). cond (is_some o) (boundary (touched b m)) (unit (touched b m))) (sym (touched_owed b m))

-- A unit of its own.

call_by : (r s : Registers) → AreAlike r s → call_of r.general ≡ call_of s.general
call_by r s k =
    let two : slice_index r.general 2 ≡ slice_index s.general 2 = k.general 2 refl in
    let four : slice_index r.general 4 ≡ slice_index s.general 4 = k.general 4 refl in
    let five : slice_index r.general 5 ≡ slice_index s.general 5 = k.general 5 refl in
    let six : slice_index r.general 6 ≡ slice_index s.general 6 = k.general 6 refl in
    let seven : slice_index r.general 7 ≡ slice_index s.general 7 = k.general 7 refl in
    rw (two, four, five, six, seven) refl

puts_by_twins : (p : ℕ) (a b : State) (o u : Outcome) → AreAlike (process_of a p).registers (process_of b p).registers → OutcomesAlike o u → puts_of a p o ≡ puts_of b p u
puts_by_twins p a b (Went x) (Went y) r s = refl
puts_by_twins p a b (Branched x target) (Branched y there) r s = refl
puts_by_twins p a b Called Called r s = ap written_by (call_by (process_of a p).registers (process_of b p).registers r)
puts_by_twins p a b (Stopped stop) (Stopped other) r s = refl
puts_by_twins p a b o u r s = absurd s

asks_by_twins : (listens : Bool) (p : ℕ) (a b : State) (o u : Outcome) → AreAlike (process_of a p).registers (process_of b p).registers → OutcomesAlike o u → asks_nothing listens a p o ≡ asks_nothing listens b p u
asks_by_twins listens p a b (Went x) (Went y) r s = refl
asks_by_twins listens p a b (Branched x target) (Branched y there) r s = refl
asks_by_twins listens p a b Called Called r s = ap (tells_nothing listens) (call_by (process_of a p).registers (process_of b p).registers r)
asks_by_twins listens p a b (Stopped stop) (Stopped other) r s = refl
asks_by_twins listens p a b o u r s = absurd s

both : (a b : Bool) → (a && b) ≡ true → (a ≡ true) × (b ≡ true)
both true b e = (refl, e)
both false b e = absurd (cc)

-- twins, of which the one is the other with other processes
module _ (p : ℕ) (x : State) (qs : List Process) (rest : List ℕ) (k : AreTwins x.processes qs) (here : x.ready ≡ p ∷ rest) (quiet : quiet_first x (p ∷ rest) ≡ true) where
  abbrev pub m : State
  m = twin x qs

  quiet_ready : quiet_first x x.ready ≡ true
  quiet_ready = subst (λ (ready : List ℕ). quiet_first x ready ≡ true) (sym here) quiet

  pub unit_twins : IsTwin (unit x) (unit m)
  unit_twins = twins.unit_alike x qs k quiet_ready

  abbrev pub pc : ℕ
  pc = (process_of x p).pc

  outcomes : OutcomesAlike (instruction x p pc) (instruction m p pc)
  outcomes = twins.instruction_alike x qs p pc k (both (quiet_at x p pc) (quiet_after p pc (instruction x p pc)) quiet).0

  registers_too : AreAlike (process_of x p).registers (process_of m p).registers
  registers_too = (k.each (p - 1)).registers

  pc_too : (process_of x p).pc ≡ (process_of m p).pc
  pc_too = (k.each (p - 1)).pc

  pub asks_same : (listens : Bool) → next_asks_nothing listens p x ≡ next_asks_nothing listens p m
  asks_same listens = asks_by_twins listens p x m (instruction x p pc) (instruction m p pc) registers_too outcomes ∙ ap (λ (a : ℕ). asks_nothing listens m p (instruction m p a)) pc_too

  told_same : lines_of_instruction x p pc (instruction x p pc) ≡ lines_of_instruction m p (process_of m p).pc (instruction m p (process_of m p).pc)
  told_same =
      let logs : (unit m).log ≡ (unit x).log = ap (λ (s : State). s.log) unit_twins.is in
      let lines : x.log ++ lines_of_first x x.ready ≡ x.log ++ lines_of_first m x.ready = sym (unit_lines x) ∙ (sym logs ∙ unit_lines m) in
      ap (lines_of_first x) (sym here) ∙ (append_cancel_left x.log (lines_of_first x x.ready) (lines_of_first m x.ready) lines ∙ ap (lines_of_first m) here)

  pub doing_same : doing (deed p x) ≡ doing (deed p m)
  doing_same =
      let after = twin_process p (unit x) (unit m) unit_twins in
      let puts : puts_of x p (instruction x p pc) ≡ puts_of m p (instruction m p (process_of m p).pc) =
      puts_by_twins p x m (instruction x p pc) (instruction m p pc) registers_too outcomes ∙ ap (λ (a : ℕ). puts_of m p (instruction m p a)) pc_too in
      let told : map untimed (lines_of_instruction x p pc (instruction x p pc)) ≡ map untimed (lines_of_instruction m p (process_of m p).pc (instruction m p (process_of m p).pc)) = ap (map untimed) told_same in
      λ i. record { at = pc_too i; pc = after.pc i; standing = after.standing i; puts = puts i; told = told i }

-- each state seems touched, if at all, to be itself
pub touched_from : (p : ℕ) (m : State) → IsLawful m → 0 < p → p ≤ length m.processes → SeemsTouched p m m
touched_from p m k above within = record {
  above = above;
  here = within;
  there = within;
  registers = same_registers (process_of m p).registers ((have_registers m k).whole (p - 1));
  pc = refl;
  standing = refl;
  entries = λ a. refl;
  pages = λ a page g held right names. refl;
  room = refl;
}
