-- What has ended stays out of reach until it is granted anew.
use Rattle.std.proofs.Common.{◌≡◌, ℕ, ◌-◌, ◌+◌, ◌<◌, ◌≤◌, Bool, true, false, cond, not, List, [], ◌∷◌, Option, Some, None, refl, sym, ap, ◌∙◌, subst, arith}
use Rattle.std.specs.Prelude.{◌==◌, ◌&&◌, ◌||◌, nat_le, is_some}
use Rattle.std.proofs.lemmas.Bool.Decides.{nat_tests}
use Rattle.ds_word.specs.Word.{word}
use Rattle.ds_isa.specs.declared.instr.Kind.{Kind}
use Rattle.ds_isa.specs.declared.instr.Size.{Size}
use Rattle.ds_procs.specs.declared.call.Call.{Call}
use Rattle.ds_procs.specs.declared.call.Call.TheVariants as call
use Rattle.ds_procs.specs.Calls.{call_of}
use Rattle.ds_policy.specs.declared.access.Verdict.TheVariants.{Allowed}
use Rattle.ds_policy.specs.declared.command.Command.{Command}
use Rattle.ds_policy.specs.declared.command.Command.TheVariants as command
use Rattle.ds_policy.specs.declared.command.TimedCommand.{TimedCommand}
use Rattle.ds_policy.specs.declared.grant.Grant.{Grant}
use Rattle.ds_policy.specs.Pages.{Table, entry_at, decide, page_address}
use Rattle.ds_policy.specs.Grants.{PageState, is_some_right, give, grant}
use Rattle.ds_policy.specs.Ends.{is_reached}
use Rattle.ds_pagemap.specs.declared.turn.Turn.{Turn}
use Rattle.ds_pagemap.specs.Machine.{State, process_of, lives, touched}
use Rattle.ds_pagemap.specs.Calls.{after_command}
use Rattle.ds_pagemap.specs.Unit.{Outcome, Went, Branched, Called, Stopped, instruction, after_slot, after_instruction, unit_of_first, unit}
use Rattle.ds_pagemap.specs.Boundary.{after_commands, boundary}
use Rattle.ds_pagemap.specs.Run.{half_turn, goes_on, after}
use Rattle.ds_pagemap.specs.Laws.{due}
use Rattle.ds_pagemap.proofs.Units.{Leaves, leaves_instruction}
use Rattle.ds_promise.specs.Families.{IsOutOfReach, AllHaveOwnAddresses}
use Rattle.ds_promise.specs.Whole.{HasWholePages}
use Rattle.ds_promise.specs.Lines.{refused_by, command_refusal, after_ends}
use Rattle.ds_promise.specs.Ends.{IsInTime, grants_at, commands_grant, call_grants, instruction_grants, unit_grants, turn_grants, grants_along}
use Rattle.ds_promise.proofs.Entries.{false_is_not_true, one_grant, entry_same}
use Rattle.ds_promise.proofs.Granted.{allowed_holds, lets_something}
use Rattle.ds_promise.proofs.Placed.{AllPlaced, GrantIsPlaced, GiveIsPlaced, expired_placed, command_placed, served_placed}
use Rattle.ds_promise.proofs.Stores.{touched_memory, touched_owed}
use Rattle.ds_promise.proofs.Lines.{after_the_call, field_stays_after, lives_after_the_call}
use Rattle.ds_promise.proofs.Shares.{counted}
use Rattle.ds_promise.proofs.WholeStates.{touched_whole, along_whole}
use Rattle.ds_promise.proofs.Expiry.{boundary_finds, along_in_time}

-- Tests.

neither : (a b : Bool) → (a || b) ≡ false → (a ≡ false) × (b ≡ false)
neither true b e = false_is_not_true (sym e)
neither false b e = (refl, e)

-- something that is done for a process and an address isn't done there, so it is done elsewhere
elsewhere : (r q t b : ℕ) (o : Option ℕ) → ((r == q && t == b) && not (is_some o)) ≡ false → o ≡ None → 0 < r → 0 < q → r - 1 ≡ q - 1 → t ≡ b → ⊥
elsewhere r q t b o e none over above row same =
    by r q t b over above row same (subst (λ (x : Option ℕ). ((r == q && t == b) && not (is_some x)) ≡ false) none e)
  where
    by : (r q t b : ℕ) → 0 < r → 0 < q → r - 1 ≡ q - 1 → t ≡ b → ((r == q && t == b) && true) ≡ false → ⊥
    by r q t b over above row same e = absurd (grind (arith, nat_tests))

module _ (q a end : ℕ) (above : 0 < q) where
  -- a right at that place ends at that time
  abbrev EndsThen : ℕ → ℕ → Grant → Type 0
  EndsThen i b g = i ≡ q - 1 → b ≡ a → is_some_right g.right ≡ true → g.until ≡ Some end

  abbrev Keeps : State → Type 0
  Keeps m = AllPlaced EndsThen m.memory.table

  -- Boundaries.

  grant_elsewhere : (m : State) (k : ℕ) (c : Command) → (grants_at q a c && not (is_some (command_refusal m k c))) ≡ false
      → GrantIsPlaced EndsThen (λ i b g parent l. l) (λ i b g right l row here some. l row here right) (λ i b rule row here right. false_is_not_true right) m k c
  grant_elsewhere m k (command.Grant p address page right give) e = λ done living row same some.
      absurd (elsewhere p q address a (refused_by (grant (lives m) m.memory p address page right give (1000 + k))) e done (counted m p living) above row same)
  grant_elsewhere m k (command.Narrow p address) e = tt
  grant_elsewhere m k (command.Revoke p address) e = tt
  grant_elsewhere m k (command.Drop p address) e = tt
  grant_elsewhere m k (command.Resume p) e = tt
  grant_elsewhere m k (command.Stop p) e = tt

  commands_keep : (m : State) (cs : List TimedCommand) → commands_grant m cs q a ≡ false → Keeps m → Keeps (after_commands m cs)
  commands_keep m [] e all = all
  commands_keep m (c ∷ rest) e all =
      let both = neither (grants_at q a c.command && not (is_some (command_refusal m c.number c.command))) (commands_grant (after_command m c.number c.command) rest q a) e in
      commands_keep (after_command m c.number c.command) rest both.1
      (command_placed EndsThen (λ i b g parent l. l) (λ i b g right l row here some. l row here right) (λ i b rule row here right. false_is_not_true right) m c.number c.command (grant_elsewhere m c.number c.command both.0) all)

  boundary_keeps : (m : State) (turn : Turn) → m.owed ≡ Some turn → commands_grant (after_ends m) (due m) q a ≡ false → Keeps m → Keeps (boundary m)
  boundary_keeps m turn is e all =
      subst (λ (s : PageState). AllPlaced EndsThen s.table) (sym (boundary_finds m turn is))
      (commands_keep (after_ends m) (due m) e
      (expired_placed EndsThen (λ i b g parent l. l) (λ i b g right l row here some. l row here right) (λ i b rule row here right. false_is_not_true right) m.memory m.time all))

  -- Units.

  give_elsewhere : (m : State) (p pc : ℕ) (c : Call) → call_grants m p c q a ≡ false
      → GiveIsPlaced EndsThen (λ i b g parent l. l) (λ i b g right l row here some. l row here right) (λ i b rule row here right. false_is_not_true right) (after_the_call m p pc) p c
  give_elsewhere m p pc call.Exit e = tt
  give_elsewhere m p pc (call.Put byte) e = tt
  give_elsewhere m p pc call.Get e = tt
  give_elsewhere m p pc call.Yield e = tt
  give_elsewhere m p pc call.Time e = tt
  give_elsewhere m p pc call.Own e = tt
  give_elsewhere m p pc (call.Give address receiver to mode) e = λ done living g row same some.
      let alike = lives_after_the_call m p pc in
      absurd (elsewhere receiver q to a (refused_by (give (lives m) m.memory p address receiver to mode)) e
      (subst (λ (alive : ℕ → Bool). refused_by (give alive m.memory p address receiver to mode) ≡ None) alike done)
      (counted m receiver (subst (λ (alive : ℕ → Bool). alive receiver ≡ true) alike living)) above row same)
  give_elsewhere m p pc (call.Take process address) e = tt
  give_elsewhere m p pc (call.Drop address) e = tt
  give_elsewhere m p pc call.Wait e = tt
  give_elsewhere m p pc call.Unknown e = tt

  slot_keeps : (m : State) (p u pc target : ℕ) (o : Outcome) → Leaves m o → Keeps m → Keeps (after_slot m p u pc target o)
  slot_keeps m p u pc target (Went t) l all = subst (λ (table : Table). AllPlaced EndsThen table) (sym l.table) all
  slot_keeps m p u pc target (Branched t next) l all = all
  slot_keeps m p u pc target Called l all = all
  slot_keeps m p u pc target (Stopped stop) l all = all

  instruction_keeps : (m : State) (p pc : ℕ) (o : Outcome) → AllHaveOwnAddresses m.memory.table → Leaves m o → instruction_grants m p o q a ≡ false → Keeps m → Keeps (after_instruction m p pc o)
  instruction_keeps m p pc (Went t) own l e all = subst (λ (table : Table). AllPlaced EndsThen table) (sym l.table) all
  instruction_keeps m p pc (Branched t target) own l e all =
      let slot = word (pc + 4) in
      slot_keeps t p pc slot target (instruction t p slot) (leaves_instruction t p slot) (subst (λ (s : PageState). AllPlaced EndsThen s.table) (sym l.1) all)
  instruction_keeps m p pc Called own l e all =
      let next = after_the_call m p pc in
      let c = call_of (process_of next p).registers.general in
      let same = field_stays_after (λ q. q.registers.general) m p pc p (λ q a. refl) (λ q. refl) in
      served_placed EndsThen (λ i b g parent l. l) (λ i b g right l row here some. l row here right) (λ i b rule row here right. false_is_not_true right) next p pc c own
      (give_elsewhere m p pc c (ap (λ (r : List ℕ). call_grants m p (call_of r) q a) same ∙ e)) all
  instruction_keeps m p pc (Stopped stop) own l e all = all

  first_keeps : (m : State) (ready : List ℕ) → AllHaveOwnAddresses m.memory.table → unit_grants m ready q a ≡ false → Keeps m → Keeps (unit_of_first m ready)
  first_keeps m [] own e all = all
  first_keeps m (p ∷ rest) own e all =
      let pc = (process_of m p).pc in
      instruction_keeps m p pc (instruction m p pc) own (leaves_instruction m p pc) e all

  unit_keeps : (m : State) → AllHaveOwnAddresses m.memory.table → unit_grants m m.ready q a ≡ false → Keeps m → Keeps (unit m)
  unfolding unit
  unit_keeps m own e all = first_keeps m m.ready own e all

  -- Half turns and runs.

  half_by : (owed : Option Turn) (m : State) → m.owed ≡ owed → AllHaveOwnAddresses m.memory.table
      → cond (is_some owed) (commands_grant (after_ends m) (due m) q a) (unit_grants m m.ready q a) ≡ false → Keeps m → Keeps (cond (is_some owed) (boundary m) (unit m))
  half_by None m is own e all = unit_keeps m own e all
  half_by (Some turn) m is own e all = boundary_keeps m turn is e all

  half_keeps : (b : Bool) (m : State) → HasWholePages m → turn_grants (touched b m) q a ≡ false → Keeps m → Keeps (half_turn b m)
  unfolding half_turn
  half_keeps b m k e all =
      let t = touched b m in
      half_by m.owed t (touched_owed b m) (touched_whole b m k).memory.places
      (subst (λ (owed : Option Turn). cond (is_some owed) (commands_grant (after_ends t) (due t) q a) (unit_grants t t.ready q a) ≡ false) (touched_owed b m) e)
      (subst (λ (s : PageState). AllPlaced EndsThen s.table) (sym (touched_memory b m)) all)

  go_by : (on b : Bool) (m : State) → HasWholePages m → (on && turn_grants (touched b m) q a) ≡ false → Keeps m → Keeps (cond on (half_turn b m) m)
  go_by true b m k e all = half_keeps b m k e all
  go_by false b m k e all = all

  along_keeps : (n : ℕ) (choices : List Bool) (m : State) → HasWholePages m → grants_along n choices m q a ≡ false → Keeps m → Keeps (after n choices m)
  unfolding after
  along_keeps n [] m k e all = all
  along_keeps n (touch ∷ earlier) m k e all =
      let x = after n earlier m in
      let both = neither (goes_on n x && turn_grants (touched touch x) q a) (grants_along n earlier m q a) e in
      go_by (goes_on n x) touch x (along_whole n earlier m k) both.0 (along_keeps n earlier m k both.1 all)

  -- one entry that ends then
  begins : (t : Table) (g : Grant) → entry_at t q a ≡ Some g → g.until ≡ Some end → AllPlaced EndsThen t
  begins t g held ends r b h e row same right =
      ap (λ (x : Grant). x.until) (one_grant g h (sym held ∙ (sym (entry_same t r b q a row same) ∙ e))) ∙ ends

  -- what has ended lets nothing be done, until something is granted there
  pub ended_out_of_reach : (n : ℕ) (choices : List Bool) (m : State) (g : Grant) → HasWholePages m → IsInTime m → entry_at m.memory.table q a ≡ Some g → g.until ≡ Some end
      → grants_along n choices m q a ≡ false → (after n choices m).owed ≡ None → end ≤ (after n choices m).time → IsOutOfReach (after n choices m).memory.table q a
  ended_out_of_reach n choices m g k in_time held ends none whole late kind size address page offset here =
      λ (e : decide (after n choices m).memory.table q kind size address ≡ Allowed page offset). reached kind size address page offset here e
    where
      past : (end time : ℕ) → end ≤ time → nat_le end time ≡ true
      past end time h = grind (arith, nat_tests)

      reached : (kind : Kind) (size : Size) (address page offset : ℕ) → page_address address ≡ a → decide (after n choices m).memory.table q kind size address ≡ Allowed page offset → ⊥
      reached kind size address page offset here e =
          let t = after n choices m in
          let h = allowed_holds t.memory.table q kind size address page offset e in
          let right = lets_something h.grant.right kind h.right in
          let then_ends : h.grant.until ≡ Some end = along_keeps n choices m k none (begins m.memory.table g held ends) q (page_address address) h.grant h.held refl here right in
          let lasts = along_in_time n choices m in_time whole q (page_address address) h.grant h.held right in
          false_is_not_true (sym (subst (λ (o : Option ℕ). is_reached t.time o ≡ false) then_ends lasts) ∙ past end t.time late)
