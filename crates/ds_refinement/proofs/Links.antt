-- A branch does the same again, whatever it wrote before: its link is none of what it reads.
use Rattle.std.proofs.Common.{◌≡◌, ◌≢◌, ℕ, ◌/◌, ◌%◌, ◌^◌, ◌⊎◌, Bool, true, false, cond, List, [], ◌∷◌, set, refl, sym, ap, ap₂, ◌∙◌, arith, inl, inr, get_or-set_other}
use Rattle.std.proofs.lemmas.Bool.Decides.{nat_tests}
use Rattle.std.proofs.lemmas.List.{set-set, set_comm}
use Rattle.std.specs.Prelude.{◌==◌, ◌&&◌, ◌||◌, not, Option, Some, None, slice_index}
use Rattle.ds_word.specs.Word.{is_negative}
use Rattle.ds_isa.specs.declared.instr.Instr.{Instr}
use Rattle.ds_isa.specs.declared.instr.Instr.TheVariants as instr
use Rattle.ds_isa.specs.declared.instr.Late.{Late}
use Rattle.ds_isa.specs.declared.instr.Size.TheVariants.{Word}
use Rattle.ds_isa.specs.Fields as fields
use Rattle.ds_isa.specs.Fields.{in_word}
use Rattle.ds_isa.specs.Instruction.{Row, rows, fits, by_rows, of_no_row, is_coprocessor, instruction_of}
use Rattle.ds_isa.specs.Registers.{Registers, late_or, read, settled, written}
use Rattle.ds_isa.specs.Meaning.{Effect, Goes, Branches, Loads, Stores, Faults, Calls, Privileged, meaning, written_or_trap, past_slot, branch_target, jump_target}
use Rattle.ds_isa.specs.declared.instr.Kind.{Kind}
use Rattle.ds_isa.specs.declared.instr.Kind.TheVariants.{Fetch, Load, Store}
use Rattle.ds_policy.specs.declared.access.Verdict.{Verdict}
use Rattle.ds_policy.specs.declared.access.Verdict.TheVariants.{Allowed, Denied}
use Rattle.ds_word.specs.Bytes.{word_at}
use Rattle.ds_policy.specs.Pages.{decide, bytes_of}
use Rattle.ds_policy.specs.Grants.{PageState}
use Rattle.ds_pagemap.specs.Machine.{State, Process, process_of, with_process, touched_process}
use Rattle.ds_pagemap.specs.Unit.{Went, Branched, instruction, done, where_allowed, with_registers}
use Rattle.ds_refinement.specs.Inner.Services.{touched_registers}
use Rattle.ds_refinement.specs.Units.{IsLinked}
use Rattle.ds_refinement.proofs.Registers.{HasSeat, registers_put, registers_again, process_put}

-- What branches, and how.

-- the link is none of what the instruction reads
abbrev IsApart : Instr → Type 0
IsApart (instr.Jalr rd rs) = (rd % 32 == rs % 32) ≡ false
IsApart (instr.Bltzal rs i) = (31 == rs % 32) ≡ false
IsApart (instr.Bgezal rs i) = (31 == rs % 32) ≡ false
IsApart other = Unit {0}

-- an instruction at pc is a branch or jump: its link, 0 where it has none, and where it goes
pub record IsBranch (i : Instr) (pc : ℕ) : Type 0 where
  pub link : ℕ
  pub to : Registers → ℕ
  pub is : (r : Registers) → meaning i pc r ≡ Branches (written r link (past_slot pc)) (to r)
  pub same : (r : Registers) (v : ℕ) → r.late ≡ None → to (written r link v) ≡ to r

-- neither branch nor jump
abbrev StaysInLine : Effect → Type 0
StaysInLine (Branches after target) = ⊥
StaysInLine (Goes after) = Unit {0}
StaysInLine (Loads size address after) = Unit {0}
StaysInLine (Stores size address after) = Unit {0}
StaysInLine (Faults code) = Unit {0}
StaysInLine Calls = Unit {0}
StaysInLine Privileged = Unit {0}

unequal : (a b : ℕ) → (a == b) ≡ false → b ≢ a
unequal a b e = λ (f : ◌≡◌ {A = ℕ} b a). grind (arith, nat_tests)

other_read : (b : Bool) (g : List ℕ) (l n v : ℕ) → (l == n) ≡ false → slice_index (cond b g (set g l v)) n ≡ slice_index g n
other_read true g l n v e = refl
other_read false g l n v e = get_or-set_other g l n v 0 (unequal l n e)

now_read : (late : Option Late) (n now : ℕ) → late ≡ None → now ≡ late_or late n now
now_read late n now e = ap (λ (x : Option Late). late_or x n now) (sym e)

read_apart : (r : Registers) (l n v : ℕ) → r.late ≡ None → (l % 32 == n % 32) ≡ false → read (written r l v) n ≡ read r n
read_apart r l n v late apart =
    other_read (l % 32 == 0) r.general (l % 32) (n % 32) v apart ∙ now_read r.late (n % 32) (slice_index r.general (n % 32)) late

read_same : (r : Registers) (n v : ℕ) → r.late ≡ None → read (written r 0 v) n ≡ read r n
read_same r n v late = now_read r.late (n % 32) (slice_index r.general (n % 32)) late

trap_stays : (r : Registers) (n : ℕ) (v : Option ℕ) → StaysInLine (written_or_trap r n v)
trap_stays r n None = tt
trap_stays r n (Some v) = tt

-- each instruction is a branch or stays in line, whatever the registers hold
kind_of : (i : Instr) (pc : ℕ) → IsApart i → IsBranch i pc ⊎ ((r : Registers) → StaysInLine (meaning i pc r))
kind_of (instr.Jr rs) pc a = inl (record { link = 0; to = λ r. read r rs; is = λ r. refl; same = λ r v e. read_same r rs v e })
kind_of (instr.Jalr rd rs) pc a = inl (record { link = rd; to = λ r. read r rs; is = λ r. refl; same = λ r v e. read_apart r rd rs v e a })
kind_of (instr.Add rd rs rt) pc a = inr (λ r. trap_stays r _ _)
kind_of (instr.Sub rd rs rt) pc a = inr (λ r. trap_stays r _ _)
kind_of (instr.Bltz rs i) pc a = inl (record { link = 0; to = λ r. branch_target (is_negative (read r rs)) pc i; is = λ r. refl; same = λ r v e. ap (λ (x : ℕ). branch_target (is_negative (x)) pc i) (read_same r rs v e) })
kind_of (instr.Bgez rs i) pc a = inl (record { link = 0; to = λ r. branch_target (not (is_negative (read r rs))) pc i; is = λ r. refl; same = λ r v e. ap (λ (x : ℕ). branch_target (not (is_negative (x))) pc i) (read_same r rs v e) })
kind_of (instr.Bltzal rs i) pc a = inl (record { link = 31; to = λ r. branch_target (is_negative (read r rs)) pc i; is = λ r. refl; same = λ r v e. ap (λ (x : ℕ). branch_target (is_negative (x)) pc i) (read_apart r 31 rs v e a) })
kind_of (instr.Bgezal rs i) pc a = inl (record { link = 31; to = λ r. branch_target (not (is_negative (read r rs))) pc i; is = λ r. refl; same = λ r v e. ap (λ (x : ℕ). branch_target (not (is_negative (x))) pc i) (read_apart r 31 rs v e a) })
kind_of (instr.J target) pc a = inl (record { link = 0; to = λ r. jump_target pc target; is = λ r. refl; same = λ r v e. refl })
kind_of (instr.Jal target) pc a = inl (record { link = 31; to = λ r. jump_target pc target; is = λ r. refl; same = λ r v e. refl })
kind_of (instr.Beq rs rt i) pc a = inl (record { link = 0; to = λ r. branch_target (read r rs == read r rt) pc i; is = λ r. refl; same = λ r v e. ap₂ (λ (x y : ℕ). branch_target (x == y) pc i) (read_same r rs v e) (read_same r rt v e) })
kind_of (instr.Bne rs rt i) pc a = inl (record { link = 0; to = λ r. branch_target (not (read r rs == read r rt)) pc i; is = λ r. refl; same = λ r v e. ap₂ (λ (x y : ℕ). branch_target (not (x == y)) pc i) (read_same r rs v e) (read_same r rt v e) })
kind_of (instr.Blez rs i) pc a = inl (record { link = 0; to = λ r. branch_target (is_negative (read r rs) || (read r rs == 0)) pc i; is = λ r. refl; same = λ r v e. ap (λ (x : ℕ). branch_target (is_negative (x) || (x == 0)) pc i) (read_same r rs v e) })
kind_of (instr.Bgtz rs i) pc a = inl (record { link = 0; to = λ r. branch_target (not (is_negative (read r rs) || (read r rs == 0))) pc i; is = λ r. refl; same = λ r v e. ap (λ (x : ℕ). branch_target (not (is_negative (x) || (x == 0))) pc i) (read_same r rs v e) })
kind_of (instr.Addi rt rs i) pc a = inr (λ r. trap_stays r _ _)
kind_of other pc a = inr (λ r. tt)

-- The table has no branch that reads its link.

-- of the rows that a word fits
abbrev EachApart : List Row → ℕ → Type 0
EachApart [] w = Unit {0}
EachApart (row ∷ more) w = (fits row w ≡ true → IsApart (row.instruction (in_word w))) × EachApart more w

chosen_apart : (b : Bool) (i j : Instr) → (b ≡ true → IsApart i) → IsApart j → IsApart (cond b i j)
chosen_apart true i j f a = f refl
chosen_apart false i j f a = a

by_rows_apart : (list : List Row) (w : ℕ) → EachApart list w → IsApart (of_no_row w) → IsApart (by_rows (λ row. row.instruction) of_no_row list w)
by_rows_apart [] w each none = none
by_rows_apart (row ∷ more) w each none = chosen_apart (fits row w) _ _ each.0 (by_rows_apart more w each.1 none)

not_reserved : (a b : Bool) → (a && not b) ≡ true → b ≡ false
not_reserved true true e = absurd cc
not_reserved true false e = refl
not_reserved false b e = absurd cc

register_again : (a : ℕ) → a % 2 ^ 5 % 32 ≡ a % 2 ^ 5
register_again a = omega arith

fields_apart : (a b : ℕ) → (a % 2 ^ 5 == b % 2 ^ 5) ≡ false → (a % 2 ^ 5 % 32 == b % 2 ^ 5 % 32) ≡ false
fields_apart a b e = ap₂ (λ (x y : ℕ). x == y) (register_again a) (register_again b) ∙ e

turned : (a b : ℕ) → (a == b) ≡ false → (b == a) ≡ false
turned a b e = grind (arith, nat_tests)

other_than_31 : (a : ℕ) → (a % 2 ^ 5 == 31) ≡ false → (31 == a % 2 ^ 5 % 32) ≡ false
other_than_31 a e = ap (λ (x : ℕ). 31 == x) (register_again a) ∙ turned (a % 2 ^ 5) 31 e

infixr 3 ◌also◌
◌also◌ : {A B : Type 0} → A → B → A × B
a also b = (a, b)

-- a row that never links
plain : {A : Type 0} → A → Unit {0}
plain fits = tt

-- the row of jalr, and those of bltzal and bgezal
unlinked : (fixed : Bool) (w : ℕ) → (fixed && not (in_word w fields.rd == in_word w fields.rs)) ≡ true → (in_word w fields.rd % 32 == in_word w fields.rs % 32) ≡ false
unlinked fixed w f = fields_apart (w / 2 ^ 11) (w / 2 ^ 21) (not_reserved fixed _ f)

unlinked_31 : (fixed : Bool) (w : ℕ) → (fixed && not (in_word w fields.rs == 31)) ≡ true → (31 == in_word w fields.rs % 32) ≡ false
unlinked_31 fixed w f = other_than_31 (w / 2 ^ 21) (not_reserved fixed _ f)

rows_apart : (w : ℕ) → EachApart rows w
rows_apart w =
    plain also plain also plain also plain also plain also plain also plain also unlinked _ w also
    plain also plain also plain also plain also plain also plain also plain also plain also
    plain also plain also plain also plain also plain also plain also plain also plain also
    plain also plain also plain also plain also plain also plain also unlinked_31 _ w also unlinked_31 _ w also
    plain also plain also plain also plain also plain also plain also plain also plain also
    plain also plain also plain also plain also plain also plain also plain also plain also
    plain also plain also plain also plain also plain also plain also plain also plain also
    plain also plain also plain also plain also plain also plain also plain also plain also
    plain also tt

no_row_apart : (b : Bool) (i j : Instr) → IsApart i → IsApart j → IsApart (cond b i j)
no_row_apart true i j a e = a
no_row_apart false i j a e = e

apart : (w : ℕ) → IsApart (instruction_of w)
apart w = by_rows_apart rows w (rows_apart w) (no_row_apart (is_coprocessor (in_word w fields.op)) _ _ tt tt)

-- What the machine's instruction does, where it branches.

-- at pc there is this branch for a process
pub record BranchAt (s : PageState) (p pc : ℕ) : Type 0 where
  pub page : ℕ
  pub offset : ℕ
  pub decides : decide s.table p Fetch Word pc ≡ Allowed page offset
  pub branch : IsBranch (instruction_of (word_at (bytes_of s.pages page) offset)) pc

-- what such a branch does
pub branch_does : (m : State) (p pc : ℕ) (b : BranchAt m.memory p pc) → instruction m p pc ≡ Branched (with_registers m p (written (process_of m p).registers b.branch.link (past_slot pc))) (b.branch.to (process_of m p).registers)
unfolding instruction
branch_does m p pc b =
    ap (λ (v : Verdict). where_allowed v Fetch pc (λ page offset. done m p pc (meaning (instruction_of (word_at (bytes_of m.memory.pages page) offset)) pc (process_of m p).registers))) b.decides
    ∙ ap (done m p pc) (b.branch.is (process_of m p).registers)

no_access : (v : Verdict) (kind : Kind) (address : ℕ) (f : ℕ → ℕ → State) (s : State) (target : ℕ) → where_allowed v kind address (λ page offset. Went (f page offset)) ≡ Branched s target → ⊥
no_access (Allowed page offset) kind address f s target e = absurd cc
no_access (Denied rule code) kind address f s target e = absurd cc

no_branch : (m : State) (p pc : ℕ) (e : Effect) (s : State) (target : ℕ) → StaysInLine e → done m p pc e ≡ Branched s target → ⊥
no_branch m p pc (Goes after) s target k e = absurd cc
no_branch m p pc (Branches after to) s target k e = k
no_branch m p pc (Loads size address after) s target k e = no_access (decide m.memory.table p Load size address) Load address _ s target e
no_branch m p pc (Stores size address after) s target k e = no_access (decide m.memory.table p Store size address) Store address _ s target e
no_branch m p pc (Faults code) s target k e = absurd cc
no_branch m p pc Calls s target k e = absurd cc
no_branch m p pc Privileged s target k e = absurd cc

by_fetch : (m : State) (p pc : ℕ) (s : State) (target : ℕ) (v : Verdict) → decide m.memory.table p Fetch Word pc ≡ v
    → where_allowed v Fetch pc (λ page offset. done m p pc (meaning (instruction_of (word_at (bytes_of m.memory.pages page) offset)) pc (process_of m p).registers)) ≡ Branched s target → BranchAt m.memory p pc
by_fetch m p pc s target (Denied rule code) d e = absurd cc
by_fetch m p pc s target (Allowed page offset) d e =
    let w = word_at (bytes_of m.memory.pages page) offset in
    elim (kind_of (instruction_of w) pc (apart w)) [
      | inl b ↦ record { page = page; offset = offset; decides = d; branch = b }
      | inr stays ↦ absurd (no_branch m p pc (meaning (instruction_of w) pc (process_of m p).registers) s target (stays (process_of m p).registers) e)
    ]

-- what branches is a branch
pub is_branch : (m : State) (p pc : ℕ) (s : State) (target : ℕ) → instruction m p pc ≡ Branched s target → BranchAt m.memory p pc
unfolding instruction
is_branch m p pc s target e = by_fetch m p pc s target (decide m.memory.table p Fetch Word pc) refl e

branched_alike : (s t : State) (a b : ℕ) → Branched s a ≡ Branched t b → (s ≡ t) × (a ≡ b)
branched_alike s t a b e = (cc, cc)

-- the link and the target of what branches
pub branch_is : (m : State) (p pc : ℕ) (r : Registers) (target : ℕ) → HasSeat m p → instruction m p pc ≡ Branched (with_registers m p r) target
    → (b : BranchAt m.memory p pc) × (r ≡ written (process_of m p).registers b.branch.link (past_slot pc)) × (target ≡ b.branch.to (process_of m p).registers)
branch_is m p pc r target seat e =
    let b = is_branch m p pc _ target e in
    let f = branched_alike _ _ _ _ (sym e ∙ branch_does m p pc b) in
    let w = written (process_of m p).registers b.branch.link (past_slot pc) in
    (b, sym (registers_put m p r seat) ∙ (ap (λ (s : State). (process_of s p).registers) f.0 ∙ registers_put m p w seat), f.1)

-- the link leaves nothing late
pub linked_settled : (m : State) (p pc : ℕ) (r : Registers) (target : ℕ) → HasSeat m p → instruction m p pc ≡ Branched (with_registers m p r) target → settled r ≡ r
linked_settled m p pc r target seat e = let f = branch_is m p pc r target seat e in ap settled f.1 ∙ sym f.1

set_twice : (b : Bool) (g : List ℕ) (l v : ℕ) → cond b (cond b g (set g l v)) (set (cond b g (set g l v)) l v) ≡ cond b g (set g l v)
set_twice true g l v = refl
set_twice false g l v = set-set g l v v

written_twice : (r : Registers) (l v : ℕ) → written (written r l v) l v ≡ written r l v
written_twice r l v = ap (λ (g : List ℕ). record r { general = g; late = None }) (set_twice (l % 32 == 0) r.general (l % 32) v)

-- a branch that has written its link does the same again
pub branches_again : (m : State) (p pc : ℕ) (r : Registers) (target : ℕ) → HasSeat m p → (process_of m p).registers.late ≡ None → instruction m p pc ≡ Branched (with_registers m p r) target
    → instruction (with_registers m p r) p pc ≡ instruction m p pc
branches_again m p pc r target seat late e =
    let f = branch_is m p pc r target seat e in
    let b = f.0 in
    let v = past_slot pc in
    let s = with_registers m p r in
    let twice : written r b.branch.link v ≡ r = ap (λ (x : Registers). written x b.branch.link v) f.1 ∙ (written_twice (process_of m p).registers b.branch.link v ∙ sym f.1) in
    let same : b.branch.to r ≡ target = ap b.branch.to f.1 ∙ (b.branch.same (process_of m p).registers v late ∙ sym f.2) in
    branch_does s p pc b
    ∙ (ap (λ (x : Registers). Branched (with_registers s p (written x b.branch.link v)) (b.branch.to x)) (registers_put m p r seat)
    ∙ (ap (λ (t : State). Branched t (b.branch.to r)) (registers_again m p r (written r b.branch.link v) seat)
    ∙ (ap₂ (λ (x : Registers) (n : ℕ). Branched (with_registers m p x) n) twice same ∙ sym e)))

nat_cases : (j i : ℕ) → (j ≡ i) ⊎ (j ≢ i)
nat_cases j i = elim (j == i) as (λ b. (j == i) ≡ b → (j ≡ i) ⊎ (j ≢ i)) [ true ↦ λ e. inl (grind (arith, nat_tests)) | false ↦ λ e. inr (grind (arith, nat_tests)) ] refl

sets_26 : (b : Bool) (g : List ℕ) (l v pc : ℕ) → l ≡ 26 → set (set (cond b g (set g l v)) 26 0) 27 pc ≡ set (set g 26 0) 27 pc
sets_26 true g l v pc is = refl
sets_26 false g l v pc is = rw (is, set-set g 26 v 0) refl

sets_27 : (b : Bool) (g : List ℕ) (l v pc : ℕ) → l ≡ 27 → set (set (cond b g (set g l v)) 26 0) 27 pc ≡ set (set g 26 0) 27 pc
sets_27 true g l v pc is = refl
sets_27 false g l v pc is =
    let apart : ◌≡◌ {A = ℕ} 27 26 → ⊥ = λ (e : ◌≡◌ {A = ℕ} 27 26). omega arith in
    rw (is, set_comm g 27 26 v 0 apart, set-set (set g 26 0) 27 v pc) refl

sets_other : (b : Bool) (g : List ℕ) (l v pc : ℕ) → l ≢ 26 → l ≢ 27 → set (set (cond b g (set g l v)) 26 0) 27 pc ≡ cond b (set (set g 26 0) 27 pc) (set (set (set g 26 0) 27 pc) l v)
sets_other true g l v pc n o = refl
sets_other false g l v pc n o = rw (set_comm g l 26 v 0 n, set_comm (set g 26 0) l 27 v pc o) refl

-- a touch leaves a link in place, or takes it away
pub touched_link : (m : State) (p : ℕ) (r : Registers) (target : ℕ) → HasSeat m p → instruction m p (process_of m p).pc ≡ Branched (with_registers m p r) target
    → (touched_registers r (process_of m p).pc ≡ (touched_process (process_of m p)).registers) ⊎ IsLinked (touched_registers r (process_of m p).pc) p (with_process m p (touched_process (process_of m p)))
touched_link m p r target seat e =
    let q : Process = process_of m p in
    let f = branch_is m p q.pc r target seat e in
    let b = f.0 in
    let l = b.branch.link % 32 in
    let v = past_slot q.pc in
    let g = q.registers.general in
    let with_general : List ℕ → Registers = λ (xs : List ℕ). record q.registers { general = xs; late = None } in
    let is : touched_registers r q.pc ≡ with_general (set (set (cond (l == 0) g (set g l v)) 26 0) 27 q.pc) = ap (λ (x : Registers). touched_registers x q.pc) f.1 in
    elim (nat_cases l 26) [
      | inl a ↦ inl (is ∙ ap with_general (sets_26 (l == 0) g l v q.pc a))
      | inr n ↦ elim (nat_cases l 27) [
        | inl a ↦ inl (is ∙ ap with_general (sets_27 (l == 0) g l v q.pc a))
        | inr o ↦
            let t : Process = touched_process q in
            let s = with_process m p t in
            let put : process_of s p ≡ t = process_put m p t seat in
            let same : touched_registers r q.pc ≡ written t.registers b.branch.link v = is ∙ ap with_general (sets_other (l == 0) g l v q.pc n o) in
            inr (record {
              target = b.branch.to t.registers;
              branched = ap (λ (x : Process). instruction s p x.pc) put
                  ∙ (branch_does s p q.pc b
                  ∙ (ap (λ (x : Process). Branched (with_registers s p (written x.registers b.branch.link v)) (b.branch.to x.registers)) put
                  ∙ ap (λ (x : Registers). Branched (with_registers s p x) (b.branch.to t.registers)) (sym same)));
            })
      ]
    ]
