-- Where the exit of the last process comes next.
use Rattle.std.proofs.Common.{◌≡◌, ◌⊎◌, ℕ, zero, suc, ◌+◌, ◌-◌, ◌<◌, ◌≤◌, ◌%◌, Bool, true, false, cond, List, [], ◌∷◌, length, Option, Some, None, refl, sym, ap, subst, ◌∙◌, inl, inr, arith, set, get_or}
use Rattle.std.specs.Prelude.{◌&&◌, ◌||◌, ◌==◌, slice_index, is_some}
use Rattle.std.specs.List.{list_all}
use Rattle.std.proofs.lemmas.Bool.{and_parts}
use Rattle.std.proofs.lemmas.Bool.Decides.{nat_tests}
use Rattle.std.proofs.lemmas.Grind.{get_or-set_at}
use Rattle.std.proofs.lemmas.List.{get_or-set_other, length-set, set-set}
use Rattle.std.proofs.lemmas.List.Elements.{All-from_get_or}
use Rattle.std.proofs.lemmas.List.Sums.{list_all-from_AllPass}
use Rattle.ds_word.specs.Word.{word}
use Rattle.ds_word.specs.Bytes.{word_at}
use Rattle.ds_isa.specs.Fields.{code, funct, in_word, op}
use Rattle.ds_isa.specs.Instruction.{instruction_of}
use Rattle.ds_isa.specs.Meaning.{Calls, Effect, meaning}
use Rattle.ds_isa.specs.Registers.{Registers, settled}
use Rattle.ds_isa.specs.declared.instr.Instr.{Instr}
use Rattle.ds_isa.specs.declared.instr.Instr.TheVariants.{Syscall}
use Rattle.ds_isa.specs.declared.instr.Kind.TheVariants.{Fetch}
use Rattle.ds_isa.specs.declared.instr.Size.TheVariants.{Word}
use Rattle.ds_policy.specs.declared.access.Verdict.{Verdict}
use Rattle.ds_policy.specs.declared.access.Verdict.TheVariants.{Allowed, Denied}
use Rattle.ds_policy.specs.Pages.{bytes_of, decide}
use Rattle.ds_procs.specs.Calls.{call_of}
use Rattle.ds_procs.specs.declared.process.Standing.TheVariants.{Ended}
use Rattle.ds_procs.specs.declared.call.Call.{Call}
use Rattle.ds_procs.specs.declared.call.Call.TheVariants.{Exit}
use Rattle.ds_pagemap.specs.declared.turn.Turn.{Turn}
use Rattle.ds_pagemap.specs.Machine.{Process, State, first, no_process, process_of, touch_first, touched, touched_process, with_process, without}
use Rattle.ds_pagemap.specs.Boundary.{boundary, is_first}
use Rattle.ds_pagemap.specs.Calls.{ended, served}
use Rattle.ds_pagemap.specs.Run.{Reaches, after, go, goes_on, half_turn, is_over}
use Rattle.ds_pagemap.specs.Unit.{Called, after_instruction, at_pc, done, instruction, settle, ticked, unit, unit_of_first, where_allowed}
use Rattle.ds_pagemap.proofs.Processes.{with_process_again}
use Rattle.ds_pagemap.proofs.Touches.{touched-time}
use Rattle.ds_policy.specs.Grants.{PageState}
use Rattle.ds_refinement.specs.Held.{Held, bare, vacated}
use Rattle.ds_refinement.specs.Stands.{RunningBy, Stands}
use Rattle.ds_refinement.specs.Inner.Stands.{IsSound}
use Rattle.ds_refinement.proofs.Boundaries.{over_too}
use Rattle.ds_station.specs.Reads.{address_held, fetched, general_held, memory_held, word_on}
use Rattle.ds_station.proofs.Headlines.{owed_stands, time_stands}
use Rattle.ds_debug.specs.Exits.{exits_by, exits_next, is_out, is_syscall, others_ended, others_from, stands_at_exit}
use Rattle.ds_debug.specs.Forward.{IsTurn}
use Rattle.ds_debug.specs.declared.registers.Registers as declared
use Rattle.ds_debug.proofs.Ended.{HaveEnded, ended_goes, is_done, is_still_first, over_same, reached_over}
use Rattle.ds_debug.proofs.Shown.{registers_shown}

-- What is fetched is a call, and asks for the exit.

by_fields : (w : ℕ) → in_word w op ≡ 0 → in_word w funct ≡ 12 → instruction_of w ≡ Syscall (in_word w code)
by_fields w nought twelve = rw (nought, twelve) refl

means_call : (w pc : ℕ) (r : Registers) → is_syscall (Some w) ≡ true → meaning (instruction_of w) pc r ≡ Calls
means_call w pc r is =
    let both : (w < 0x4000000) × (w % 64 ≡ 12) = grind (arith, nat_tests) in
    ap (λ (i : Instr). meaning i pc r) (by_fields w (omega (arith, both.0)) (omega (arith, both.1)))

module _ (m : State) (p pc : ℕ) where
  -- what is done of a word
  abbrev effect : ℕ → Effect
  effect w = meaning (instruction_of w) pc (process_of m p).registers

  calls_by : (v : Verdict) → is_syscall (word_on m.memory.pages v) ≡ true
      → where_allowed v Fetch pc (λ page offset. done m p pc (effect (word_at (bytes_of m.memory.pages page) offset))) ≡ Called
  calls_by (Allowed page offset) is = ap (done m p pc) (means_call (word_at (bytes_of m.memory.pages page) offset) pc (process_of m p).registers is)
  calls_by (Denied rule number) is = absurd (cc)

  calls : is_syscall (fetched m.memory p pc) ≡ true → instruction m p pc ≡ Called
  unfolding instruction
  calls is = calls_by (decide m.memory.table p Fetch Word pc) is

asks_exit : (general : List ℕ) → slice_index general 2 ≡ 0 → call_of general ≡ Exit
asks_exit general none = rw none refl

-- what a change of a process keeps
module _ {A : Type 0} (g : Process → A) (f : Process → Process) (keeps : (q : Process) → g (f q) ≡ g q) where
  kept_at : (qs : List Process) (i : ℕ) → g (get_or (set qs i (f (get_or qs i no_process))) i no_process) ≡ g (get_or qs i no_process)
  kept_at [] i = refl
  kept_at (q ∷ qs) zero = keeps q
  kept_at (q ∷ qs) (suc i) = kept_at qs i

-- whether all have ended with another one at a place
set_alike : (qs : List Process) (j : ℕ) (a b : Process) → is_done a ≡ is_done b → list_all is_done (set qs j a) ≡ list_all is_done (set qs j b)
set_alike [] j a b same = refl
set_alike (q ∷ qs) zero a b same = ap (λ (x : Bool). x && list_all is_done qs) same
set_alike (q ∷ qs) (suc j) a b same = ap (λ (x : Bool). is_done q && x) (set_alike qs j a b same)

-- who is not ready is not the first of them
gone : (ready : List ℕ) (p : ℕ) → is_first (first (without ready p)) p ≡ false
gone [] p = refl
gone (q ∷ rest) p = grind (arith, nat_tests, gone rest p)

-- the process runs and stands at its exit, and all others have ended
pub record IsLastExit (m : State) (p : ℕ) (rest : List ℕ) : Type 0 where
  pub runs : m.ready ≡ p ∷ rest
  pub word : is_syscall (fetched m.memory p (process_of m p).pc) ≡ true
  pub call : slice_index (process_of m p).registers.general 2 ≡ 0
  pub others : is_over (with_process m p no_process) ≡ true

module _ (m : State) (p : ℕ) (rest : List ℕ) (l : IsLastExit m p rest) where
  second : (q : Process) → slice_index (touched_process q).registers.general 2 ≡ slice_index q.registers.general 2
  second q = get_or-set_other (set q.registers.general 26 0) 27 2 q.pc 0 (omega arith) ∙ get_or-set_other q.registers.general 26 2 0 0 (omega arith)

  -- so it does where it is touched
  last_first : IsLastExit (touch_first m (p ∷ rest)) p rest
  last_first = record {
    runs = l.runs;
    word = ap (λ (pc : ℕ). is_syscall (fetched m.memory p pc)) (kept_at (λ q. q.pc) touched_process (λ q. refl) m.processes (p - 1)) ∙ l.word;
    call = kept_at (λ q. slice_index q.registers.general 2) touched_process second m.processes (p - 1) ∙ l.call;
    others = ap is_over (with_process_again m p (touched_process (process_of m p)) no_process) ∙ l.others;
  }

  last_touched : (touch : Bool) → IsLastExit (touched touch m) p rest
  last_touched false = l
  last_touched true = subst (λ (ready : List ℕ). IsLastExit (touch_first m ready) p rest) (sym l.runs) last_first

  -- where it stands after its call
  abbrev past : State
  past = at_pc (settle m p) p (word ((process_of m p).pc + 4))

  registers_past : (process_of past p).registers.general ≡ (process_of m p).registers.general
  registers_past =
      kept_at (λ q. q.registers.general) (λ q. record q { pc = word ((process_of m p).pc + 4) }) (λ q. refl) (settle m p).processes (p - 1)
      ∙ kept_at (λ q. q.registers.general) (λ q. record q { registers = settled q.registers }) (λ q. refl) m.processes (p - 1)

  exits : unit_of_first m m.ready ≡ ticked 1 (ended past p)
  exits =
      let pc : ℕ = (process_of m p).pc in
      ap (unit_of_first m) l.runs
      ∙ (ap (after_instruction m p pc) (calls m p pc l.word)
      ∙ ap (λ (c : Call). ticked 1 (served past p pc c))
      (asks_exit (process_of past p).registers.general (ap (λ (xs : List ℕ). slice_index xs 2) registers_past ∙ l.call)))

  set_thrice : (qs : List Process) (j : ℕ) (x y e : Process) → set (set (set qs j x) j y) j e ≡ set qs j e
  set_thrice qs j x y e = set-set (set qs j x) j y e ∙ set-set qs j x e

  -- after its unit all have ended
  last_unit : HaveEnded (unit m)
  unfolding unit
  last_unit = record {
    over =
        ap is_over exits
        ∙ (set_alike past.processes (p - 1) (record (process_of past p) { standing = Ended }) no_process refl
        ∙ (ap (list_all is_done) (set_thrice m.processes (p - 1) _ _ no_process) ∙ l.others));
    away =
        ap (λ (s : State). is_still_first (first m.ready) s.ready) exits
        ∙ (ap (λ (runner : Option ℕ). is_still_first runner (without m.ready p)) (ap first l.runs) ∙ gone m.ready p);
  }

-- A run that begins so.
module _ (m : State) (p : ℕ) (rest : List ℕ) (none : m.owed ≡ None) (l : IsLastExit m p rest) where
  -- it is still there, or all have ended
  abbrev BeginsOrEnded : State → Type 0
  BeginsOrEnded t = (t ≡ m) ⊎ HaveEnded t

  last_goes : (touch on : Bool) → BeginsOrEnded (cond on (half_turn touch m) m)
  unfolding half_turn
  last_goes touch false = inl refl
  last_goes touch true = inr (
      subst (λ (owed : Option Turn). HaveEnded (cond (is_some owed) (boundary (touched touch m)) (unit (touched touch m)))) (sym none)
      (last_unit (touched touch m) p rest (last_touched m p rest l touch)))

  last_next : (n : ℕ) (touch : Bool) (t : State) → BeginsOrEnded t → BeginsOrEnded (go n touch t)
  last_next n touch t (inl same) = subst (λ (s : State). BeginsOrEnded (go n touch s)) (sym same) (last_goes touch (goes_on n m))
  last_next n touch t (inr d) = inr (ended_goes n touch t d)

  last_after : (n : ℕ) (choices : List Bool) → BeginsOrEnded (after n choices m)
  unfolding after
  last_after n [] = inl refl
  last_after n (touch ∷ earlier) = last_next n touch (after n earlier m) (last_after n earlier)

  -- once time has passed, all have ended
  last_over : (n : ℕ) (t : State) → Reaches n m t → m.time < t.time → is_over t ≡ true
  last_over n t r later = by (last_after n r.choices)
    where
      by : BeginsOrEnded (after n r.choices m) → is_over t ≡ true
      by (inl same) =
          let still : t.time ≡ (after n r.choices m).time = ap (λ (s : State). s.time) r.comes_to ∙ touched-time r.early (after n r.choices m) in
          absurd (omega (arith, later, still, ap (λ (s : State). s.time) same))
      by (inr d) = reached_over n m t r d

-- Of a station.

out_at : (h : Held) (p i n q : ℕ) → others_from h p i n ≡ true → i ≤ q → q < i + n → is_out h p q ≡ true
unfolding others_from
out_at h p i zero q all low high = absurd (omega (arith, low, high))
out_at h p i (suc n) q all low high = grind (arith, out_at h p (i + 1) n q)

-- so all have ended but for the one
module _ (h : Held) (p : ℕ) (above : 0 < p) where
  abbrev all : List Process
  all = h.kept.state.processes

  abbrev others : List Process
  others = set all (p - 1) no_process

  other_over : (i : ℕ) → i < length all → is_out h p i ≡ true → is_done (get_or others i no_process) ≡ true
  other_over i within out =
      let back : i + 1 - 1 ≡ i = omega arith in
      let here : ((i + 1 == p) || is_done (get_or all i no_process)) ≡ true =
      ap (λ (j : ℕ). (i + 1 == p) || is_done (get_or all j no_process)) (sym back) ∙ out in
      grind (arith, nat_tests, here, get_or-set_at all (p - 1) i no_process no_process, get_or-set_other all (p - 1) i no_process no_process)

  others_over : others_ended h p ≡ true → list_all is_done others ≡ true
  others_over over =
      list_all-from_AllPass is_done others (All-from_get_or (λ (q : Process). is_done q ≡ true) others no_process (λ i within.
      let few : i < length all = omega (arith, within, length-set all (p - 1) no_process) in
      other_over i few (out_at h p 0 (length all) i over (omega arith) (omega (arith, few)))))

module _ (h : Held) (m : State) (k : Stands h m) (spent : h.own.spent ≡ 0) (p : ℕ) (above : 0 < p) where
  last_held : (rest : List ℕ) → h.kept.state.ready ≡ p ∷ rest → stands_at_exit h p ≡ true → others_ended h p ≡ true → IsLastExit m p rest
  last_held rest is stands all =
      let shown = registers_shown h p above spent m k in
      let kept : bare (with_process m p no_process) ≡ with_process h.kept.state p no_process =
      subst (λ (ready : List ℕ). bare (vacated ready m) ≡ vacated ready h.kept.state) is k.agrees.kept.state in
      let parts = and_parts (is_syscall (fetched (memory_held h) p (address_held h p))) (slice_index (general_held h p) 2 == 0) stands in
      let none : slice_index (general_held h p) 2 ≡ 0 = grind (arith, nat_tests, parts.1) in
      record {
        runs = k.agrees.kept.ready ∙ is;
        word =
            ap (λ (s : PageState). is_syscall (fetched s p (process_of m p).pc)) k.agrees.kept.pages
            ∙ (ap (λ (r : declared.Registers). is_syscall (fetched (memory_held h) p r.pc)) (sym shown) ∙ parts.0);
        call = ap (λ (r : declared.Registers). slice_index r.general 2) (sym shown) ∙ none;
        others = over_too [] (with_process m p no_process) (with_process h.kept.state p no_process) refl kept ∙ others_over h p above all;
      }

-- who runs is the last
exits_last : (h : Held) (m : State) → Stands h m → h.own.spent ≡ 0 → (ready : List ℕ) → h.kept.state.ready ≡ ready → exits_by (first ready) h ≡ true
    → (p : ℕ) × (rest : List ℕ) × IsLastExit m p rest
exits_last h m k spent [] is exits = absurd (cc)
exits_last h m k spent (p ∷ rest) is exits =
    let running : RunningBy (p ∷ rest) h.core h.kept m = subst (λ (ready : List ℕ). RunningBy ready h.core h.kept m) is k.agrees.running in
    let parts = and_parts (stands_at_exit h p) (others_ended h p) exits in
    (p, rest, last_held h m k spent p running.seat.0 rest is parts.0 parts.1)

-- after a turn that begins before the exit of the last process, all have ended
pub exit_ends : (n : ℕ) (last new : Held) → IsSound last → last.kept.state.owed ≡ None → last.own.spent ≡ 0 → new.kept.state.owed ≡ None → IsTurn n last new
    → exits_next last ≡ true → is_over new.kept.state ≡ true
exit_ends n last new s whole spent rests t exits =
    let m : State = s.state in
    let u = t.runs.runs m s.stands in
    let e = exits_last last m s.stands spent last.kept.state.ready refl exits in
    let later : m.time < u.0.time = omega (arith, t.later, time_stands last m s.stands, time_stands new u.0 u.2) in
    sym (over_same new u.0 u.2 rests) ∙ last_over m e.0 e.1 (owed_stands last m s.stands ∙ whole) e.2 (last.kept.state.time + 1) u.0 u.1.reached later
