-- Between two turns a debugger sees of a station what it would see of each machine state that the station stands for.
use Rattle.std.proofs.Common.{◌≡◌, ℕ, zero, suc, ◌+◌, ◌-◌, ◌<◌, Bool, true, false, cond, nat_lt, nat_le, List, [], ◌++◌, Option, refl, sym, ap, ◌∙◌, arith}
use Rattle.std.specs.Prelude.{◌&&◌, codes, slice_index_or}
use Rattle.std.proofs.lemmas.Bool.Decides.{nat_tests}
use Rattle.ds_packets.specs.Framing.{frame, hex_text}
use Rattle.ds_packets.specs.declared.packet.Packet.{Packet}
use Rattle.ds_packets.specs.declared.packet.Packet.TheVariants.{Supported, NoAcknowledgements, Description, Why, FirstThreads, MoreThreads, ThreadInfo, Monitor, StopAt, Attached, Current, Alive, Look, Go, Registers, Register, Memory, Write, Break, Unbreak, Watch, Unwatch, Actions, Resume, Forward, Backward, Leave, End}
use Rattle.ds_packets.specs.declared.packet.Report.{Report}
use Rattle.ds_packets.specs.declared.packet.Report.TheVariants as report
use Rattle.ds_packets.specs.declared.packet.Who.{Who}
use Rattle.ds_packets.specs.declared.packet.Who.TheVariants as who
use Rattle.ds_policy.specs.Grants.{PageState}
use Rattle.ds_procs.specs.declared.process.Standing.{Standing}
use Rattle.ds_pagemap.specs.Machine.{State, first}
use Rattle.ds_pagemap.specs.Boundary.{is_first}
use Rattle.ds_refinement.specs.Held.{Held}
use Rattle.ds_refinement.specs.Stands.{Stands}
use Rattle.ds_station.proofs.Headlines.{consoles_stand, time_stands}
use Rattle.ds_station.proofs.Standings.{as_many, standing_stands, unended_stands}
use Rattle.ds_station.specs.declared.outcome.Unended.{Unended}
use Rattle.ds_gdb.specs.Each.{each}
use Rattle.ds_debug.specs.Answers.{answer_text, are_there, info_text, is_there, of_process, run_report_text}
use Rattle.ds_debug.specs.Answering.{plain_text}
use Rattle.ds_debug.specs.Memory.{memory_text}
use Rattle.ds_gdb.specs.Outputs.{outputs_text}
use Rattle.ds_debug.specs.Registers.{register_text, registers_text}
use Rattle.ds_debug.specs.Reports.{is_runner, listed_process, process_line, thread_words, time_text}
use Rattle.ds_debug.specs.Sessions.{SessionState, standing_by, told_first}
use Rattle.ds_debug.specs.Sights.{Sight, sight_held}
use Rattle.ds_debug.specs.Inner.Sights.{sight_in}
use Rattle.ds_gdb.specs.Stops.{stop_text}
use Rattle.ds_debug.specs.Tables.{entries_text}
use Rattle.ds_gdb.specs.Threads.{threads_text}
use Rattle.ds_debug.specs.declared.registers.Registers as declared
use Rattle.ds_gdb.specs.declared.stops.Reason.TheVariants.{Rest}
use Rattle.ds_debug.proofs.Shown.{registers_shown}

-- the same is seen
pub record IsAlike (v w : Sight) : Type 0 where
  pub time : v.time ≡ w.time
  pub count : v.count ≡ w.count
  pub runner : v.runner ≡ w.runner
  pub unended : v.unended ≡ w.unended
  pub standing : (p : ℕ) → 0 < p → v.standing p ≡ w.standing p
  pub registers : (p : ℕ) → 0 < p → v.registers p ≡ w.registers p
  pub memory : v.memory ≡ w.memory
  pub consoles : v.consoles ≡ w.consoles
  pub log : v.log ≡ w.log

-- of a station and of a machine state that it stands for
pub sight_alike : (h : Held) (m : State) → Stands h m → h.own.spent ≡ 0 → IsAlike (sight_held h) (sight_in m)
sight_alike h m k none = record {
  time = sym (time_stands h m k);
  count = sym (as_many h.kept.state.ready m h.kept.state k.agrees.kept.state);
  runner = ap first (sym k.agrees.kept.ready);
  unended = unended_stands h m k;
  standing = λ p some. standing_stands h m k p some;
  registers = λ p some. registers_shown h p some none m k;
  memory = sym k.agrees.kept.pages;
  consoles = sym (consoles_stand h m k);
  log = sym k.agrees.kept.log;
}

-- What is said of each of so many numbers alike.
each_alike : (f g : ℕ → List ℕ) → ((i : ℕ) → f i ≡ g i) → (i n : ℕ) → each f i n ≡ each g i n
unfolding each
each_alike f g same i zero = refl
each_alike f g same i (suc n) = ap (λ (x : List ℕ). x ++ each f (i + 1) n) (same i) ∙ ap (λ (x : List ℕ). g i ++ x) (each_alike f g same (i + 1) n)

some_there : (p count : ℕ) → (nat_lt 0 p && nat_le p count) ≡ true → 0 < p
some_there p count is = grind (arith, nat_tests)

of_by : (b : Bool) (p count : ℕ) (x y : List ℕ) → (nat_lt 0 p && nat_le p count) ≡ b → (0 < p → x ≡ y) → cond b x (codes "E03") ≡ cond b y (codes "E03")
of_by true p count x y is same = same (some_there p count is)
of_by false p count x y is same = refl

module _ (v w : Sight) (a : IsAlike v w) where
  there_alike : (p : ℕ) → is_there v p ≡ is_there w p
  there_alike p = ap (λ (c : ℕ). nat_lt 0 p && nat_le p c) a.count

  are_alike : (processes : Who) → are_there v processes ≡ are_there w processes
  are_alike who.Any = refl
  are_alike who.All = refl
  are_alike (who.Process p) = there_alike p

  runner_alike : (p : ℕ) → is_runner v p ≡ is_runner w p
  runner_alike p = ap (λ (r : Option ℕ). is_first r p) a.runner

  of_alike : (p : ℕ) (x y : List ℕ) → (0 < p → x ≡ y) → of_process v p x ≡ of_process w p y
  of_alike p x y same = ap (λ (b : Bool). cond b x (codes "E03")) (there_alike p) ∙ of_by (is_there w p) p w.count x y refl same

  info_alike : (processes : Who) → info_text v processes ≡ info_text w processes
  info_alike who.Any = refl
  info_alike who.All = refl
  info_alike (who.Process p) =
      of_alike p (hex_text (thread_words p (v.standing p) (is_runner v p))) (hex_text (thread_words p (w.standing p) (is_runner w p)))
      (λ some. ap (λ (s : Standing). hex_text (thread_words p s (is_runner v p))) (a.standing p some) ∙ ap (λ (b : Bool). hex_text (thread_words p (w.standing p) b)) (runner_alike p))

  -- packets that only look are answered alike
  answer_alike : (p : ℕ) (packet : Packet) → answer_text v p packet ≡ answer_text w p packet
  answer_alike p (Supported multiple) = refl
  answer_alike p (Description offset size) = refl
  answer_alike p FirstThreads = ap threads_text a.count
  answer_alike p MoreThreads = refl
  answer_alike p (ThreadInfo processes) = info_alike processes
  answer_alike p Attached = refl
  answer_alike p Current = of_alike p _ _ (λ some. refl)
  answer_alike p (Alive processes) = ap (λ (b : Bool). cond b (codes "OK") (codes "E03")) (are_alike processes)
  answer_alike p Registers = of_alike p (registers_text (v.registers p)) (registers_text (w.registers p)) (λ some. ap registers_text (a.registers p some))
  answer_alike p (Register n) = of_alike p (register_text (v.registers p) n) (register_text (w.registers p) n) (λ some. ap (λ (r : declared.Registers). register_text r n) (a.registers p some))
  answer_alike p (Memory address size) = of_alike p (memory_text v.memory p address size) (memory_text w.memory p address size) (λ some. ap (λ (s : PageState). memory_text s p address size) a.memory)
  answer_alike p Write = refl
  answer_alike p Actions = refl
  answer_alike p Leave = refl
  answer_alike p NoAcknowledgements = refl
  answer_alike p Why = refl
  answer_alike p (Monitor asked) = refl
  answer_alike p (StopAt t) = refl
  answer_alike p (Look processes) = refl
  answer_alike p (Go processes) = refl
  answer_alike p (Break address) = refl
  answer_alike p (Unbreak address) = refl
  answer_alike p (Watch address size) = refl
  answer_alike p (Unwatch address size) = refl
  answer_alike p Resume = refl
  answer_alike p (Forward action) = refl
  answer_alike p (Backward action) = refl
  answer_alike p End = refl

  listed_alike : (i : ℕ) → listed_process v i ≡ listed_process w i
  listed_alike i =
      let some : 0 < i + 1 = omega arith in
      ap (λ (s : Standing). process_line (i + 1) s (v.registers (i + 1)).pc (is_runner v (i + 1))) (a.standing (i + 1) some)
      ∙ (ap (λ (r : declared.Registers). process_line (i + 1) (w.standing (i + 1)) r.pc (is_runner v (i + 1))) (a.registers (i + 1) some)
      ∙ ap (process_line (i + 1) (w.standing (i + 1)) (w.registers (i + 1)).pc) (runner_alike (i + 1)))

  -- so is what monitor asks
  report_alike : (n : ℕ) (asked : Report) → run_report_text n v asked ≡ run_report_text n w asked
  report_alike n report.Time =
      ap (λ (t : ℕ). time_text n (record v { time = t })) a.time ∙ ap (λ (u : Option Unended). time_text n (record v { time = w.time; unended = u })) a.unended
  report_alike n report.Processes = ap (each (listed_process v) 0) a.count ∙ each_alike (listed_process v) (listed_process w) listed_alike 0 w.count
  report_alike n report.Log = a.log
  report_alike n report.Table = ap (λ (m : PageState). each (entries_text m.table) 0 v.count) a.memory ∙ ap (each (entries_text w.memory.table) 0) a.count
  report_alike n (report.TableOf p) =
      ap (λ (m : PageState). cond (nat_lt 0 p && nat_le p v.count) (entries_text m.table (p - 1)) (codes "there is no such process\n")) a.memory
      ∙ ap (λ (c : ℕ). cond (nat_lt 0 p && nat_le p c) (entries_text w.memory.table (p - 1)) (codes "there is no such process\n")) a.count
  report_alike n (report.Console l) = ap (λ (cs : List (List ℕ)). cond (nat_lt l 4) (slice_index_or cs l []) []) a.consoles

  told_alike : (p : ℕ) → told_first v p ≡ told_first w p
  told_alike p = ap (λ (r : Option ℕ). standing_by r v.unended p) a.runner ∙ ap (λ (u : Option Unended). standing_by w.runner u p) a.unended

  there_text_alike : (processes : Who) → frame (cond (are_there v processes) (codes "OK") (codes "E03")) ≡ frame (cond (are_there w processes) (codes "OK") (codes "E03"))
  there_text_alike processes = ap (λ (b : Bool). frame (cond b (codes "OK") (codes "E03"))) (are_alike processes)

  looked_alike : (s : SessionState) (packet : Packet) → frame (answer_text v s.process packet) ≡ frame (answer_text w s.process packet)
  looked_alike s packet = ap frame (answer_alike s.process packet)

  -- and every packet that does not let the run go on
  pub plain_alike : (s : SessionState) (packet : Packet) → plain_text v s packet ≡ plain_text w s packet
  plain_alike s Why = ap (λ (p : ℕ). frame (stop_text p Rest)) (told_alike s.process)
  plain_alike s (Monitor asked) = ap (λ (text : List ℕ). outputs_text text ++ frame (codes "OK")) (report_alike s.limit asked)
  plain_alike s (StopAt t) = refl
  plain_alike s NoAcknowledgements = refl
  plain_alike s (Look processes) = there_text_alike processes
  plain_alike s (Go processes) = there_text_alike processes
  plain_alike s (Break address) = refl
  plain_alike s (Unbreak address) = refl
  plain_alike s (Watch address size) = refl
  plain_alike s (Unwatch address size) = refl
  plain_alike s End = refl
  plain_alike s (Supported multiple) = looked_alike s (Supported multiple)
  plain_alike s (Description offset size) = looked_alike s (Description offset size)
  plain_alike s FirstThreads = looked_alike s FirstThreads
  plain_alike s MoreThreads = looked_alike s MoreThreads
  plain_alike s (ThreadInfo processes) = looked_alike s (ThreadInfo processes)
  plain_alike s Attached = looked_alike s Attached
  plain_alike s Current = looked_alike s Current
  plain_alike s (Alive processes) = looked_alike s (Alive processes)
  plain_alike s Registers = looked_alike s Registers
  plain_alike s (Register n) = looked_alike s (Register n)
  plain_alike s (Memory address size) = looked_alike s (Memory address size)
  plain_alike s Write = looked_alike s Write
  plain_alike s Actions = looked_alike s Actions
  plain_alike s Resume = looked_alike s Resume
  plain_alike s (Forward action) = looked_alike s (Forward action)
  plain_alike s (Backward action) = looked_alike s (Backward action)
  plain_alike s Leave = looked_alike s Leave
