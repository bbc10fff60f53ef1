-- Each word of the handler leaves the station standing for the same state, and the seventh for that state touched.
use Rattle.std.proofs.Common.{◌≡◌, ◌≢◌, ℕ, ◌+◌, ◌*◌, ◌/◌, ◌%◌, ◌^◌, ◌<◌, ◌≤◌, ◌==◌, Bool, true, false, List, [], ◌∷◌, length, set, Option, Some, None, refl, sym, ap, ap₂, subst, ◌∙◌, arith, inl, length-set}
use Rattle.std.proofs.lemmas.Bool.Decides.{nat_tests}
use Rattle.std.specs.Prelude.{slice_index, slice_set, nat_lt, Ok, Err}
use Rattle.ds_word.specs.Word.{word, bits}
use Rattle.ds_isa.specs.declared.instr.Late.{Late}
use Rattle.ds_isa.specs.declared.instr.Kind.TheVariants.{Load}
use Rattle.ds_tlb.specs.declared.entry.Entry.{Entry}
use Rattle.ds_tlb.specs.Entries.{find, random_after}
use Rattle.ds_tlb.specs.Words.{entry_of}
use Rattle.ds_cp0.specs.declared.exception.ExceptionCode.TheVariants.{LoadMiss}
use Rattle.ds_cp0.specs.System.{System, asid_of, is_user, entered, with_field, returned, pushed}
use Rattle.ds_amap.specs.declared.map.Mode.TheVariants.{Kernel}
use Rattle.ds_amap.specs.declared.map.Fault.TheVariants.{Refill}
use Rattle.ds_amap.specs.Map.{translate, at_physical}
use Rattle.ds_dev.specs.Bus.{BusState, is_memory}
use Rattle.ds_core.specs.declared.event.Event.{Event}
use Rattle.ds_core.specs.declared.event.Event.TheVariants.{Retired, Branched, Raised}
use Rattle.ds_core.specs.Core.{CoreState, Step}
use Rattle.ds_core.specs.Effect.{step}
use Rattle.ds_refill.specs.Handler.{handler_address}
use Rattle.ds_refill.specs.Refill.{lent, late_of}
use Rattle.ds_refill.specs.Inner.Refill.{IsKernel, at_word, table_miss}
use Rattle.ds_refill.proofs.Whole.{word_0, word_1, word_2, word_2_misses, word_3, word_4, word_5, word_6, word_7, word_8}
use Rattle.ds_tables.specs.Places.{region_of, page_of_table}
use Rattle.ds_tables.specs.Tables.{table_word_place}
use Rattle.ds_grants.specs.Words.{granted_word}
use Rattle.ds_grants.specs.Buffer.{lo_of}
use Rattle.ds_grants.specs.Inner.Buffer.{entry_for}
use Rattle.ds_grants.proofs.Fields.{user_lo}
use Rattle.ds_grants.proofs.Fills.{find_written, same_keys, missed_buffer}
use Rattle.ds_pagemap.specs.Machine.{State, process_of, with_process, touched, touched_process}
use Rattle.ds_refinement.specs.Held.{Held, space_of}
use Rattle.ds_refinement.specs.declared.step.Step.TheVariants.{Inside}
use Rattle.ds_refinement.specs.Units.{is_general, is_served}
use Rattle.ds_refinement.specs.Handling.{Phase, AtContext, AtAddress, AtLoad, AtPause, AtMove, AtClear, AtWrite, AtJump, AtReturn, handler_status, IsWhole, InHandler, InDouble, touches}
use Rattle.ds_refinement.specs.Stands.{RunningIs, Agrees, CountedBy}
use Rattle.ds_refinement.specs.Counts.{Counts, counts_of, one_word}
use Rattle.ds_refinement.specs.Steps as steps
use Rattle.ds_refinement.specs.Inner.Services.{with_step, after_word}
use Rattle.ds_refinement.proofs.Fields.{space_in, hi_low, hi_small, context_high, context_low, hi_nested, IsWord, word_is_word}
use Rattle.ds_refinement.proofs.Loads.{table_hit, table_miss_is, table_below}
use Rattle.ds_refill.proofs.Lent.{is_at_word, in_0, base_size, base_nought, ticked_low, ticked_high}
use Rattle.ds_refinement.proofs.Standing.{away_is, first_ready, in_handler, in_double, runs, few, same_state, touched_state, touched_already, as_touched, own_unseen}
use Rattle.ds_refinement.proofs.WordTallies.{word_tallied}
use Rattle.ds_refinement.proofs.Tallied.{tallied_of}
use Rattle.ds_refinement.proofs.Touches.{here, is_touched, touched_handler, stands_after_touch}

pub kernel : (s : System) → s.status ≡ handler_status → IsKernel s
kernel s e = record { mode = ap (λ (n : ℕ). bits n 1 1 == 1) e; off = ap (λ (n : ℕ). bits n 0 1) e }

pub in_memory : (frame b : ℕ) → frame < 402 → is_memory (table_word_place frame b) ≡ true
in_memory frame b small = let e : table_word_place frame b < 2 ^ 23 = omega arith in grind (arith, nat_tests)

-- A station that stands for m, whose first ready process is p, which has the processor.
module _ (h : Held) (m : State) (p : ℕ) (rest : List ℕ) (k : Agrees h m) (ready : h.kept.state.ready ≡ p ∷ rest) where
  abbrev asid : ℕ
  asid = space_of h.kept p

  now : RunningIs p h.core h.kept m
  now = runs h m p rest k ready

  below : space_of h.kept p < 64
  below = few h m p rest k ready

  -- what a word of the handler is to do
  abbrev Follows : Type 0
  Follows = Agrees (with_step h (step h.core h.bus)) (touched (touches h.core) m)

  follows : (e : Event) (u : CoreState) → step h.core h.bus ≡ record { event = e; core = u; bus = h.bus } → Agrees (record h { core = u }) m → Agrees (with_step h (step h.core h.bus)) m
  follows e u is stands = subst (λ (s : Step). Agrees (with_step h s) m) (sym is) stands

  goes : (touch : Bool) (e : Event) (u : CoreState) → touches h.core ≡ touch → step h.core h.bus ≡ record { event = e; core = u; bus = h.bus } → Agrees (record h { core = u }) (touched touch m) → Follows
  goes touch e u which is stands =
      subst (λ (b : Bool). Agrees (with_step h (step h.core h.bus)) (touched b m)) (sym which)
      (subst (λ (s : Step). Agrees (with_step h s) (touched touch m)) (sym is) stands)

  long : (phase : Phase) (z : InHandler phase h.core h.kept p m) → length z.base.general ≡ 32
  long phase z = base_size h.core.registers z.base z.first z.second z.late z.registers z.whole.size

  none_in : (phase : Phase) (z : InHandler phase h.core h.kept p m) → slice_index z.base.general 0 ≡ 0
  none_in phase z = base_nought h.core.registers z.base z.first z.second z.late z.registers z.whole.nought

  wider : (phase : Phase) (z : InHandler phase h.core h.kept p m) (pc next : ℕ) (slot : Bool) (x y : ℕ) (late : Option Late) (system : System) (entries : List Entry) → length entries ≡ 64
      → IsWhole (at_word pc next slot (lent z.base x y late) system entries (random_after 64 8 h.core.random))
  wider phase z pc next slot x y late system entries slots = record {
    size = length-set (set z.base.general 26 x) 27 y ∙ (length-set z.base.general 26 x ∙ long phase z);
    nought = in_0 z.base.general x y ∙ none_in phase z;
    slots = slots;
    low = ticked_low h.core.random z.whole.low z.whole.high;
    high = ticked_high h.core.random z.whole.low z.whole.high;
  }

  abbrev b : BusState
  b = h.bus

  abbrev s : System
  s = h.core.system

  abbrev es : List Entry
  es = h.core.entries

  abbrev later : ℕ
  later = random_after 64 8 h.core.random

  at_context : InHandler AtContext h.core h.kept p m → Follows
  at_context z =
      let x = z.first in
      let y = z.second in
      let is : h.core ≡ at_word 0x80000000 0x80000004 false (lent z.base x y None) s es h.core.random =
      is_at_word h.core 0x80000000 0x80000004 false (lent z.base x y None) z.pc (z.next ∙ ap (λ (n : ℕ). word (n + 4)) z.pc) z.slot (z.registers ∙ ap (lent z.base x y) z.lends) in
      let u : CoreState = at_word 0x80000004 0x80000008 false (lent z.base s.context y (late_of 26 x)) s es later in
      let there : InHandler AtAddress u h.kept p m = record {
        whole = wider _ z _ _ _ _ _ _ _ _ z.whole.slots;
        owed = z.owed;
        pc = refl;
        next = refl;
        slot = refl;
        status = z.status;
        epc = z.epc;
        vpn = z.vpn;
        user = z.user;
        hi = z.hi;
        context = z.context;
        answers = z.answers;
        base = z.base;
        first = s.context;
        second = y;
        late = late_of 26 x;
        registers = refl;
        units = z.units;
        touch = z.touch;
        lends = (x, refl, refl);
      } in
      goes false Retired u (ap (λ (n : ℕ). n == handler_address 6) z.pc)
      (ap (λ (d : CoreState). step d b) is ∙ word_0 z.base x y s es h.core.random b k.vectors (kernel s z.status) (long _ z))
      (same_state h m p rest k ready u k.represented.buffer k.base now.set (in_handler AtAddress u h.kept p m there))

  at_address : InHandler AtAddress h.core h.kept p m → Follows
  at_address z =
      let x = z.first in
      let y = z.second in
      let is : h.core ≡ at_word 0x80000004 0x80000008 false (lent z.base x y z.late) s es h.core.random =
      is_at_word h.core 0x80000004 0x80000008 false (lent z.base x y z.late) z.pc (z.next ∙ ap (λ (n : ℕ). word (n + 4)) z.pc) z.slot z.registers in
      let u : CoreState = at_word 0x80000008 0x8000000C false (lent z.base x s.epc (late_of 27 y)) s es later in
      let there : InHandler AtLoad u h.kept p m = record {
        whole = wider _ z _ _ _ _ _ _ _ _ z.whole.slots;
        owed = z.owed;
        pc = refl;
        next = refl;
        slot = refl;
        status = z.status;
        epc = z.epc;
        vpn = z.vpn;
        user = z.user;
        hi = z.hi;
        context = z.context;
        answers = z.answers;
        base = z.base;
        first = x;
        second = s.epc;
        late = late_of 27 y;
        registers = refl;
        units = z.units;
        touch = z.touch;
        lends = (y, z.lends.1, z.epc, refl);
      } in
      goes false Retired u (ap (λ (n : ℕ). n == handler_address 6) z.pc)
      (ap (λ (d : CoreState). step d b) is ∙ word_1 z.base x y z.late s es h.core.random b k.vectors (kernel s z.status) (long _ z))
      (same_state h m p rest k ready u k.represented.buffer k.base now.set (in_handler AtLoad u h.kept p m there))

  at_load : InHandler AtLoad h.core h.kept p m → Follows
  at_load z = by (find es (0xC0000 + z.vpn / 1024) asid) refl
    where
      x : ℕ
      x = z.first

      y : ℕ
      y = z.second

      user : z.vpn < 2 ^ 19
      user = z.user

      address : z.first ≡ 0xC0000000 + 4 * z.vpn
      address = z.lends.1 ∙ z.context

      is : h.core ≡ at_word 0x80000008 0x8000000C false (lent z.base z.first z.second (late_of 27 z.lends.0)) s es h.core.random
      is = is_at_word h.core 0x80000008 0x8000000C false (lent z.base z.first z.second (late_of 27 z.lends.0)) z.pc (z.next ∙ ap (λ (n : ℕ). word (n + 4)) z.pc) z.slot (z.registers ∙ ap (lent z.base z.first z.second) z.lends.3)

      space : asid_of s ≡ asid
      space = ap (λ (n : ℕ). bits n 6 6) z.hi ∙ space_in z.vpn asid below

      small : z.first < 2 ^ 32
      small = omega (arith, address, user)

      aligned : z.first % 4 ≡ 0
      aligned = omega (arith, address)

      high : nat_lt z.first (2 ^ 31) ≡ false
      high = let e : 2 ^ 31 ≤ z.first = omega (arith, address) in grind (arith, nat_tests)

      by : (found : Option ℕ) → find es (0xC0000 + z.vpn / 1024) asid ≡ found → Follows
      by (Some slot) found =
          let v : ℕ = z.vpn * 2 ^ 12 in
          let w : ℕ = granted_word h.kept.grants p z.vpn in
          let place : ℕ = table_word_place (page_of_table h.kept.tables p (region_of (z.vpn * 2 ^ 12))) (z.vpn * 2 ^ 12) in
          let reach : translate es (asid_of s) Kernel Load z.first ≡ Ok (at_physical place) =
          ap₂ (λ (a n : ℕ). translate es a Kernel Load n) space address ∙ table_hit es h.kept.spaces h.kept.grants h.kept.tables p z.vpn slot k.represented.buffer k.represented.places now.seat.0 now.number z.user found in
          let u : CoreState = at_word 0x8000000C 0x80000010 false (lent z.base w z.second (late_of 26 z.first)) s es later in
          let there : InHandler AtPause u h.kept p m = record {
            whole = wider _ z _ _ _ _ _ _ _ _ z.whole.slots;
            owed = z.owed;
            pc = refl;
            next = refl;
            slot = refl;
            status = z.status;
            epc = z.epc;
            vpn = z.vpn;
            user = z.user;
            hi = z.hi;
            context = z.context;
            answers = z.answers;
            base = z.base;
            first = w;
            second = z.second;
            late = late_of 26 z.first;
            registers = refl;
            units = z.units;
            touch = z.touch;
            lends = (z.first, refl, z.lends.2, refl);
          } in
          goes false Retired u (ap (λ (n : ℕ). n == handler_address 6) z.pc)
          (ap (λ (d : CoreState). step d b) is ∙ word_2 z.base z.first z.second z.lends.0 s es h.core.random place w b k.vectors (kernel s z.status) (long _ z) small aligned reach (in_memory (page_of_table h.kept.tables p (region_of (z.vpn * 2 ^ 12))) (z.vpn * 2 ^ 12) (table_below h.kept.tables p (region_of (z.vpn * 2 ^ 12)) k.represented.places)) (k.represented.words.words p z.vpn now.seat.0 z.user))
          (same_state h m p rest k ready u k.represented.buffer k.base now.set (in_handler AtPause u h.kept p m there))
      by None found =
          let reach : translate es (asid_of s) Kernel Load z.first ≡ Err Refill =
          ap₂ (λ (a n : ℕ). translate es a Kernel Load n) space address ∙ table_miss_is es asid z.vpn z.user found in
          let u : CoreState = at_word 0x80000080 0x80000084 false (lent z.base z.first z.second None) (entered s (table_miss z.first)) es later in
          let there : InDouble u h.kept p m = record {
            whole = wider _ z _ _ _ _ _ _ _ _ z.whole.slots;
            owed = z.owed;
            status = ap pushed z.status;
            region = z.vpn / 1024;
            few = omega (arith, user);
            hi = ap₂ (λ (w a : ℕ). with_field w 12 20 (bits a 12 20)) z.hi address ∙ hi_nested z.vpn asid z.user below;
            missed = found;
            base = z.base;
            first = z.first;
            registers = ap (λ (n : ℕ). lent z.base z.first n None) z.lends.2;
            units = z.units;
          } in
          goes false (Raised LoadMiss) u (ap (λ (n : ℕ). n == handler_address 6) z.pc)
          (ap (λ (d : CoreState). step d b) is ∙ word_2_misses z.base z.first z.second z.lends.0 s es h.core.random b k.vectors (kernel s z.status) (long _ z) small aligned high reach)
          (same_state h m p rest k ready u k.represented.buffer
          (record { tables = context_high s.context (bits z.first 12 19) ∙ k.base.tables; whole = context_low s.context (bits z.first 12 19) ∙ k.base.whole })
          (record { space = hi_low s.entry_hi (bits z.first 12 20) ∙ now.set.space; small = hi_small s.entry_hi (bits z.first 12 20) now.set.small })
          (in_double u h.kept p m refl there))

  at_pause : InHandler AtPause h.core h.kept p m → Follows
  at_pause z =
      let x = z.first in
      let y = z.second in
      let is : h.core ≡ at_word 0x8000000C 0x80000010 false (lent z.base x y z.late) s es h.core.random =
      is_at_word h.core 0x8000000C 0x80000010 false (lent z.base x y z.late) z.pc (z.next ∙ ap (λ (n : ℕ). word (n + 4)) z.pc) z.slot z.registers in
      let u : CoreState = at_word 0x80000010 0x80000014 false (lent z.base x y None) s es later in
      let there : InHandler AtMove u h.kept p m = record {
        whole = wider _ z _ _ _ _ _ _ _ _ z.whole.slots;
        owed = z.owed;
        pc = refl;
        next = refl;
        slot = refl;
        status = z.status;
        epc = z.epc;
        vpn = z.vpn;
        user = z.user;
        hi = z.hi;
        context = z.context;
        answers = z.answers;
        base = z.base;
        first = x;
        second = y;
        late = None;
        registers = refl;
        units = z.units;
        touch = z.touch;
        lends = (z.lends.1, z.lends.2, refl);
      } in
      goes false Retired u (ap (λ (n : ℕ). n == handler_address 6) z.pc)
      (ap (λ (d : CoreState). step d b) is ∙ word_3 z.base x y z.late s es h.core.random b k.vectors (kernel s z.status))
      (same_state h m p rest k ready u k.represented.buffer k.base now.set (in_handler AtMove u h.kept p m there))

  at_move : InHandler AtMove h.core h.kept p m → Follows
  at_move z =
      let x = z.first in
      let y = z.second in
      let w : IsWord (granted_word h.kept.grants p z.vpn) = word_is_word h.kept.grants p z.vpn k.grants in
      let is : h.core ≡ at_word 0x80000010 0x80000014 false (lent z.base x y None) s es h.core.random =
      is_at_word h.core 0x80000010 0x80000014 false (lent z.base x y None) z.pc (z.next ∙ ap (λ (n : ℕ). word (n + 4)) z.pc) z.slot (z.registers ∙ ap (lent z.base x y) z.lends.2) in
      let u : CoreState = at_word 0x80000014 0x80000018 false (lent z.base x y None) (record s { entry_lo = x }) es later in
      let there : InHandler AtClear u h.kept p m = record {
        whole = wider _ z _ _ _ _ _ _ _ _ z.whole.slots;
        owed = z.owed;
        pc = refl;
        next = refl;
        slot = refl;
        status = z.status;
        epc = z.epc;
        vpn = z.vpn;
        user = z.user;
        hi = z.hi;
        context = z.context;
        answers = z.answers;
        base = z.base;
        first = x;
        second = y;
        late = None;
        registers = refl;
        units = z.units;
        touch = z.touch;
        lends = (z.lends.1, refl, z.lends.0);
      } in
      goes false Retired u (ap (λ (n : ℕ). n == handler_address 6) z.pc)
      (ap (λ (d : CoreState). step d b) is ∙ word_4 z.base x y s es h.core.random b k.vectors (kernel s z.status) (long _ z)
      (subst (λ (n : ℕ). n < 2 ^ 32) (sym z.lends.0) w.small) (ap (λ (n : ℕ). n % 256) z.lends.0 ∙ w.low))
      (same_state h m p rest k ready u k.represented.buffer (record { tables = k.base.tables; whole = k.base.whole }) (record { space = now.set.space; small = now.set.small }) (in_handler AtClear u h.kept p m there))

  at_clear : InHandler AtClear h.core h.kept p m → Follows
  at_clear z =
      let x = z.first in
      let y = z.second in
      let is : h.core ≡ at_word 0x80000014 0x80000018 false (lent z.base x y None) s es h.core.random =
      is_at_word h.core 0x80000014 0x80000018 false (lent z.base x y None) z.pc (z.next ∙ ap (λ (n : ℕ). word (n + 4)) z.pc) z.slot (z.registers ∙ ap (lent z.base x y) z.lends.1) in
      let u : CoreState = at_word 0x80000018 0x8000001C false (lent z.base 0 y None) s es later in
      let there : InHandler AtWrite u h.kept p m = record {
        whole = wider _ z _ _ _ _ _ _ _ _ z.whole.slots;
        owed = z.owed;
        pc = refl;
        next = refl;
        slot = refl;
        status = z.status;
        epc = z.epc;
        vpn = z.vpn;
        user = z.user;
        hi = z.hi;
        context = z.context;
        answers = z.answers;
        base = z.base;
        first = 0;
        second = y;
        late = None;
        registers = refl;
        units = z.units;
        touch = z.touch;
        lends = (refl, z.lends.0, refl, z.lends.2);
      } in
      goes false Retired u (ap (λ (n : ℕ). n == handler_address 6) z.pc)
      (ap (λ (d : CoreState). step d b) is ∙ word_5 z.base x y s es h.core.random b k.vectors (kernel s z.status) (none_in _ z))
      (same_state h m p rest k ready u k.represented.buffer k.base now.set (in_handler AtWrite u h.kept p m there))

  -- where the process is touched already
  pub at_write : InHandler AtWrite h.core h.kept p m → process_of m p ≡ touched_process (process_of m p) → Agrees (with_step h (step h.core h.bus)) m
  at_write z touch =
      let x = z.first in
      let y = z.second in
      let user : z.vpn < 2 ^ 19 = z.user in
      let lo : ℕ = lo_of h.kept.grants h.kept.tables p z.vpn in
      let e : Entry = entry_for h.kept.grants h.kept.tables p asid z.vpn in
      let entry_is : entry_of s.entry_hi s.entry_lo ≡ e = ap₂ (λ (a c : ℕ). entry_of a c) z.hi (z.lends.3 ∙ sym (user_lo h.kept.grants h.kept.tables p z.vpn z.user)) in
      let is : h.core ≡ at_word 0x80000018 0x8000001C false (lent z.base x y None) s es h.core.random =
      is_at_word h.core 0x80000018 0x8000001C false (lent z.base x y None) z.pc (z.next ∙ ap (λ (n : ℕ). word (n + 4)) z.pc) z.slot (z.registers ∙ ap (lent z.base x y) z.lends.2) in
      let u : CoreState = at_word 0x8000001C 0x80000020 false (lent z.base x y None) s (slice_set es h.core.random e) later in
      let there : InHandler AtJump u h.kept p m = record {
        whole = wider _ z _ _ _ _ _ _ _ _ (length-set es h.core.random e ∙ z.whole.slots);
        owed = z.owed;
        pc = refl;
        next = refl;
        slot = refl;
        status = z.status;
        epc = z.epc;
        vpn = z.vpn;
        user = z.user;
        hi = z.hi;
        context = z.context;
        answers = (h.core.random, find_written es z.vpn asid h.core.random e z.answers (let high = z.whole.high in let slots = z.whole.slots in omega arith) (same_keys z.vpn asid lo (omega (arith, user)) below));
        base = z.base;
        first = x;
        second = y;
        late = None;
        registers = refl;
        units = z.units;
        touch = λ written. touch;
        lends = (z.lends.0, z.lends.1, refl);
      } in
      follows Retired u
      (ap (λ (d : CoreState). step d b) is ∙ word_6 z.base x y s es h.core.random b k.vectors (kernel s z.status)
      ∙ ap (λ (f : Entry). record { event = Retired; core = at_word 0x8000001C 0x80000020 false (lent z.base x y None) s (slice_set es h.core.random f) later; bus = b }) entry_is)
      (same_state h m p rest k ready u (missed_buffer es h.kept.spaces h.kept.grants h.kept.tables p z.vpn h.core.random k.represented.spaces k.represented.buffer now.seat.0 now.number (inl z.user) z.answers) k.base now.set (in_handler AtJump u h.kept p m there))

  at_jump : InHandler AtJump h.core h.kept p m → Follows
  at_jump z =
      let x = z.first in
      let y = z.second in
      let is : h.core ≡ at_word 0x8000001C 0x80000020 false (lent z.base x y None) s es h.core.random =
      is_at_word h.core 0x8000001C 0x80000020 false (lent z.base x y None) z.pc (z.next ∙ ap (λ (n : ℕ). word (n + 4)) z.pc) z.slot (z.registers ∙ ap (lent z.base x y) z.lends.2) in
      let u : CoreState = at_word 0x80000020 y true (lent z.base x y None) s es later in
      let there : InHandler AtReturn u h.kept p m = record {
        whole = wider _ z _ _ _ _ _ _ _ _ z.whole.slots;
        owed = z.owed;
        pc = refl;
        next = z.lends.1;
        slot = refl;
        status = z.status;
        epc = z.epc;
        vpn = z.vpn;
        user = z.user;
        hi = z.hi;
        context = z.context;
        answers = z.answers;
        base = z.base;
        first = x;
        second = y;
        late = None;
        registers = refl;
        units = z.units;
        touch = z.touch;
        lends = (z.lends.0, z.lends.1, refl);
      } in
      goes false Branched u (ap (λ (n : ℕ). n == handler_address 6) z.pc)
      (ap (λ (d : CoreState). step d b) is ∙ word_7 z.base x y s es h.core.random b k.vectors (kernel s z.status) (long _ z))
      (same_state h m p rest k ready u k.represented.buffer k.base now.set (in_handler AtReturn u h.kept p m there))

  at_return : InHandler AtReturn h.core h.kept p m → Follows
  at_return z =
      let x = z.first in
      let y = z.second in
      let pc : ℕ = (process_of m p).pc in
      let is : h.core ≡ at_word 0x80000020 pc true (lent z.base x y None) s es h.core.random =
      is_at_word h.core 0x80000020 pc true (lent z.base x y None) z.pc z.next z.slot (z.registers ∙ ap (lent z.base x y) z.lends.2) in
      let u : CoreState = at_word pc (word (pc + 4)) false (lent z.base x y None) (returned s) es later in
      goes false Retired u (ap (λ (n : ℕ). n == handler_address 6) z.pc)
      (ap (λ (d : CoreState). step d b) is ∙ word_8 z.base x y pc s es h.core.random b k.vectors (kernel s z.status))
      (subst (λ (n : State). Agrees (record h { core = u }) n) (touched_already h m p rest k ready (z.touch refl))
      (touched_state h m p rest k ready u z.base z.owed z.units k.represented.buffer (record { tables = k.base.tables; whole = k.base.whole }) (record { space = now.set.space; small = now.set.small })
      (ap (λ (n : ℕ). (returned (record s { status = n })).status) z.status) refl refl refl
      (ap₂ (λ (a c : ℕ). lent z.base a c None) z.lends.0 z.lends.1)))

module _ (h : Held) (m : State) (p : ℕ) (rest : List ℕ) (k : Agrees h m) (ready : h.kept.state.ready ≡ p ∷ rest) (user : is_user h.core.system ≡ false) (general : is_general h.core ≡ false) where
  -- the seventh word, which nobody sees whether it finds the process touched
  touching : InHandler AtWrite h.core h.kept p m → Agrees (with_step h (step h.core h.bus)) (touched (touches h.core) m)
  touching z =
      let after_touch : State = with_process m p (touched_process (process_of m p)) in
      let seat = (runs h m p rest k ready).seat in
      subst (λ (b : Bool). Agrees (with_step h (step h.core h.bus)) (touched b m)) (sym (ap (λ (n : ℕ). n == handler_address 6) z.pc))
      (as_touched h m p rest k ready (with_step h (step h.core h.bus))
      (at_write h after_touch p rest (stands_after_touch h m p rest k ready user general) ready (touched_handler AtWrite h.core h.kept p m seat z) (is_touched AtWrite h.core h.kept p m seat z)))

  by_phase : (phase : Phase) → InHandler phase h.core h.kept p m → Agrees (with_step h (step h.core h.bus)) (touched (touches h.core) m)
  by_phase AtContext z = at_context h m p rest k ready z
  by_phase AtAddress z = at_address h m p rest k ready z
  by_phase AtLoad z = at_load h m p rest k ready z
  by_phase AtPause z = at_pause h m p rest k ready z
  by_phase AtMove z = at_move h m p rest k ready z
  by_phase AtClear z = at_clear h m p rest k ready z
  by_phase AtWrite z = touching z
  by_phase AtJump z = at_jump h m p rest k ready z
  by_phase AtReturn z = at_return h m p rest k ready z

  pub word_goes_on : Agrees (with_step h (step h.core h.bus)) (touched (touches h.core) m)
  word_goes_on = let at = here h m p rest k ready user general in by_phase at.0 at.1

-- a word counts
word_begun : (seventh : Bool) (random : ℕ) (n : Counts) → (one_word seventh random n).spent ≢ 0
word_begun true random n = λ (none : n.spent + 1 ≡ 0). omega (arith, none)
word_begun false random n = λ (none : n.spent + 1 ≡ 0). omega (arith, none)

-- each word is a part of the unit
pub word_follows : (h : Held) → h.kept.state.ready ≢ [] → is_user h.core.system ≡ false → is_served h.core ≡ false → steps.Follows Inside h (after_word h (step h.core h.bus))
word_follows h some user unserved =
    let first = first_ready h.kept.state.ready some in
    let general : is_general h.core ≡ false = away_is h.core user unserved in
    let new : Held = after_word h (step h.core h.bus) in
    record {
      follows = λ m k. (
        touched (touches h.core) m,
        ((λ none. some (sym k.agrees.kept.ready ∙ none)), touches h.core, refl),
        record {
          agrees = own_unseen (with_step h (step h.core h.bus)) new.own (touched (touches h.core) m) (word_goes_on h m first.0 first.1 k.agrees first.2 user general);
          counted = subst (λ (ps : List ℕ). CountedBy ps new.core new.own new.kept (touched (touches h.core) m)) (sym first.2)
              (word_tallied h m first.0 first.1 k.agrees first.2 (tallied_of h m first.0 first.1 k first.2) user general, λ none. absurd (word_begun (touches h.core) h.core.random (counts_of h.own) none));
        },
      );
    }
