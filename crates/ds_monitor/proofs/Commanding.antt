-- Commands of an operator, one after the other.
use Rattle.std.proofs.Common.{◌≡◌, ◌∙◌, ℕ, ◌+◌, ◌<◌, ◌≤◌, Bool, true, false, cond, not, nat_le, List, [], ◌∷◌, ◌++◌, filter, refl, sym, ap, ap₂, subst, arith, Result, Ok, Err}
use Rattle.std.specs.Prelude.{OnErr}
use Rattle.std.specs.List.{All}
use Rattle.std.proofs.lemmas.Bool.Decides.{nat_tests}
use Rattle.std.proofs.lemmas.List.{append-nil}
use Rattle.std.proofs.lemmas.List.Elements.{All-head}
use Rattle.ds_policy.specs.declared.command.Command.{Command}
use Rattle.ds_policy.specs.declared.command.Command.TheVariants as command
use Rattle.ds_policy.specs.declared.command.TimedCommand.{TimedCommand}
use Rattle.ds_policy.specs.InputFacts.{has_time, IsGoodCommand, AreGoodCommands}
use Rattle.ds_policy.specs.Grants.{PageState, grant, narrow, revoke, drop_by_command}
use Rattle.ds_log.specs.declared.line.Line.{Line}
use Rattle.ds_log.specs.declared.line.Line.TheVariants.{Refused}
use Rattle.ds_log.specs.Text.{line_text}
use Rattle.ds_grants.specs.declared.fault.GrantFault.{GrantFault}
use Rattle.ds_grants.specs.State.{GrantsState, page_state}
use Rattle.ds_grants.specs.Inner.State.{DoesCall, grant_fault_number}
use Rattle.ds_tables.specs.Places.{Places}
use Rattle.ds_asid.specs.Spaces.{Spaces}
use Rattle.ds_pagemap.specs.Machine.{State, process_of, lives, is_parked, made_ready}
use Rattle.ds_pagemap.specs.Calls.{ended, refuse_command, or_logged, after_command}
use Rattle.ds_pagemap.specs.Boundary.{after_commands}
use Rattle.ds_refinement.specs.Held.{Kept}
use Rattle.ds_refinement.specs.Inner.Held.{whole}
use Rattle.ds_refinement.specs.Inner.Services.{IsBare, Serves}
use Rattle.ds_monitor.specs.Inner.Commands.{commanded, commands_by, with_refusal, Obeys}
use Rattle.ds_monitor.specs.Inner.Coming.{first_time}
use Rattle.ds_monitor.specs.Inner.Room.{HasLogRoom}
use Rattle.ds_monitor.specs.declared.monitor.Monitor.{Monitor}
use Rattle.ds_monitor.proofs.Coming.{none_come, all_stay, later_so}
use Rattle.ds_monitor.proofs.Serving.{serves_then}

-- One command.

-- a change of what is granted is what the command does, or it is refused as the command is
pub grants_obey : {R : Type 0} (Z : Type 0) (n : ℕ) (c : Command) (k : Kept) (g : GrantsState) (t : Places) (s : Spaces) (x y : List ℕ) (r : Result R GrantFault) (meant : Result PageState ℕ)
    → ((log : List Line) → after_command (whole k x log) n c ≡ or_logged (whole k x log) n meant) → IsBare k.state
    → DoesCall (page_state k.grants x) (page_state g y) r meant → OnErr r ((g ≡ k.grants) × (y ≡ x) × (t ≡ k.tables) × Z) → s ≡ k.spaces → Obeys n c k x (record k { grants = g; tables = t; spaces = s }) y r
grants_obey Z n c k g t s x y (Ok done) meant is b does kept same = record {
  lines = [];
  state = λ log. is log ∙ (ap (or_logged (whole k x log) n) does ∙ ap (λ (l : List Line). whole (record k { grants = g; tables = t; spaces = s }) y l) (sym (append-nil log)));
  bare = b;
  text = sym (append-nil k.log);
  count = omega arith;
}
grants_obey Z n c k g t s x y (Err fault) meant is b does kept same = (
  ap₂ (λ (h : GrantsState) (u : Places). record k { grants = h; tables = u; spaces = s }) kept.0 kept.2 ∙ ap (λ (v : Spaces). record k { spaces = v }) same,
  kept.1,
  λ log. is log ∙ ap (or_logged (whole k x log) n) does.0,
)

-- what is refused is told in the log
pub refusal_serves : (n : ℕ) (c : Command) (fault : GrantFault) (k : Kept) (x : List ℕ) → IsBare k.state
    → ((log : List Line) → after_command (whole k x log) n c ≡ refuse_command (whole k x log) n (grant_fault_number fault))
    → Serves (λ (m : State). after_command m n c) k x (with_refusal n fault k) x
refusal_serves n c fault k x b is =
    let line = Refused k.state.time n (grant_fault_number fault) in
    record {
      lines = line ∷ [];
      state = is;
      bare = b;
      text = ap (λ (t : List ℕ). k.log ++ t) (sym (append-nil (line_text line)));
      count = refl;
    }

-- What the commands that come later are, a command doesn't see.

refused_unheard : (cs : List TimedCommand) (m : State) (n : ℕ) (r : Result PageState ℕ) → or_logged (record m { commands = cs }) n r ≡ record (or_logged m n r) { commands = cs }
refused_unheard cs m n (Ok s) = refl
refused_unheard cs m n (Err number) = refl

resumed_unheard : (cs : List TimedCommand) (alive parked : Bool) (m : State) (n p : ℕ)
    → cond (not alive) (refuse_command (record m { commands = cs }) n 12) (cond (not parked) (refuse_command (record m { commands = cs }) n 15) (made_ready (record m { commands = cs }) p))
    ≡ record (cond (not alive) (refuse_command m n 12) (cond (not parked) (refuse_command m n 15) (made_ready m p))) { commands = cs }
resumed_unheard cs false parked m n p = refl
resumed_unheard cs true false m n p = refl
resumed_unheard cs true true m n p = refl

stopped_unheard : (cs : List TimedCommand) (alive : Bool) (m : State) (n p : ℕ)
    → cond (not alive) (refuse_command (record m { commands = cs }) n 12) (ended (record m { commands = cs }) p) ≡ record (cond (not alive) (refuse_command m n 12) (ended m p)) { commands = cs }
stopped_unheard cs false m n p = refl
stopped_unheard cs true m n p = refl

unheard : (cs : List TimedCommand) (m : State) (n : ℕ) (c : Command) → after_command (record m { commands = cs }) n c ≡ record (after_command m n c) { commands = cs }
unheard cs m n (command.Grant p a page right may) = refused_unheard cs m n (grant (lives m) m.memory p a page right may (1000 + n))
unheard cs m n (command.Narrow p a) = refused_unheard cs m n (narrow (lives m) m.memory p a)
unheard cs m n (command.Revoke p a) = refused_unheard cs m n (revoke (lives m) m.memory p a (1000 + n))
unheard cs m n (command.Drop p a) = refused_unheard cs m n (drop_by_command (lives m) m.memory p a)
unheard cs m n (command.Resume p) = resumed_unheard cs (lives m p) (is_parked (process_of m p).standing) m n p
unheard cs m n (command.Stop p) = stopped_unheard cs (lives m p) m n p

-- One after the other.

abbrev due_at : ℕ → List TimedCommand → List TimedCommand
due_at now cs = filter (λ (c : TimedCommand). nat_le c.time now) cs

abbrev later_than : ℕ → List TimedCommand → List TimedCommand
later_than now cs = filter (λ (c : TimedCommand). not (nat_le c.time now)) cs

is_due : (t now : ℕ) → t ≤ now → nat_le t now ≡ true
is_due t now l = grind (arith, nat_tests)

-- where the first is due, it is done before the others
pub commanded_next : (now : ℕ) (m : State) (c : TimedCommand) (rest : List TimedCommand) → m.commands ≡ c ∷ rest → c.time ≤ now
    → commanded now m ≡ commanded now (after_command (record m { commands = rest }) c.number c.command)
commanded_next now m c rest is l =
    let next : State = after_command m c.number c.command in
    let by : Bool → State = λ b. after_commands (record m { commands = cond (not b) (c ∷ later_than now rest) (later_than now rest) }) (cond b (c ∷ due_at now rest) (due_at now rest)) in
    ap (λ (cs : List TimedCommand). after_commands (record m { commands = later_than now cs }) (due_at now cs)) is
    ∙ (ap by (is_due c.time now l)
    ∙ (ap (λ (s : State). after_commands s (due_at now rest)) (unheard (later_than now rest) m c.number c.command)
    ∙ sym (ap (λ (s : State). commanded now s) (unheard rest m c.number c.command))))

-- where none is due, nothing is done
pub commanded_none : (now : ℕ) (m : State) → All (λ (c : TimedCommand). now < has_time c) m.commands → commanded now m ≡ m
commanded_none now m later =
    ap₂ (λ (stay due : List TimedCommand). after_commands (record m { commands = stay }) due) (all_stay has_time now m.commands later) (none_come has_time now m.commands later)

-- the first of what is kept, taken
abbrev pub taken : Kept → List TimedCommand → Kept
taken k rest = record k { state = record k.state { commands = rest } }

pub commanded_then : (now : ℕ) (a b z : Kept) (x y w : List ℕ) (c : TimedCommand) (rest : List TimedCommand) → a.state.commands ≡ c ∷ rest → c.time ≤ now
    → Serves (λ (m : State). after_command m c.number c.command) (taken a rest) x b y → Serves (commanded now) b y z w → Serves (commanded now) a x z w
commanded_then now a b z x y w c rest is l first then =
    let both = serves_then (λ (m : State). after_command m c.number c.command) (commanded now) (taken a rest) b z x y w first then in
    record {
      lines = both.lines;
      state = λ log. commanded_next now (whole a x log) c rest is l ∙ both.state log;
      bare = both.bare;
      text = both.text;
      count = both.count;
    }

pub commanded_end : (now : ℕ) (k : Kept) (x : List ℕ) → IsBare k.state → All (λ (c : TimedCommand). now < has_time c) k.state.commands → Serves (commanded now) k x k x
commanded_end now k x b later = record {
  lines = [];
  state = λ log. commanded_none now (whole k x log) later ∙ ap (λ (l : List Line). whole k x l) (sym (append-nil log));
  bare = b;
  text = sym (append-nil k.log);
  count = omega arith;
}

-- How many there are.

pub by_next : (now : ℕ) (c : TimedCommand) (rest : List TimedCommand) → c.time ≤ now → commands_by now (c ∷ rest) ≡ commands_by now rest + 1
by_next now c rest l = ap (λ (b : Bool). cond b (1 + commands_by now rest) 0) (is_due c.time now l) ∙ (omega arith)

-- later there are no fewer
pub by_more : (t u : ℕ) (cs : List TimedCommand) → t ≤ u → commands_by t cs ≤ commands_by u cs
by_more t u [] l = omega arith
by_more t u (c ∷ rest) l = by (by_more t u rest l) (nat_le c.time t) (nat_le c.time u) refl refl
  where
    by : commands_by t rest ≤ commands_by u rest → (a b : Bool) → nat_le c.time t ≡ a → nat_le c.time u ≡ b → cond a (1 + commands_by t rest) 0 ≤ cond b (1 + commands_by u rest) 0
    by more false b e f = omega arith
    by more true true e f = omega (arith, more)
    by more true false e f = (let no : true ≡ false = sym (is_due c.time u (grind (arith, nat_tests, l, e))) ∙ f in absurd (cc))

-- before the first there are none
pub by_none : (now : ℕ) (cs : List TimedCommand) → now < first_time has_time cs → commands_by now cs ≡ 0
by_none now [] early = refl
by_none now (c ∷ rest) early = ap (λ (b : Bool). cond b (1 + commands_by now rest) 0) (later_so c.time now early)

-- fewer lines need no more room
pub fewer_lines : (a b : ℕ) (m : Monitor) → a ≤ b → HasLogRoom b m → HasLogRoom a m
fewer_lines a b m few h = omega (arith, few, h)

-- the first is good where all are
pub good_first : (pages : ℕ) (cs rest : List TimedCommand) (c : TimedCommand) → cs ≡ c ∷ rest → AreGoodCommands pages cs → IsGoodCommand pages c.command
good_first pages cs rest c is all = All-head (λ (x : TimedCommand). IsGoodCommand pages x.command) c rest (subst (AreGoodCommands pages) is all)
