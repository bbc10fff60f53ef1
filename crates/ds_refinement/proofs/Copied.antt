-- Once the page of a store has a frame of its own, the unit begins again.
use Rattle.std.proofs.Common.{◌≡◌, ℕ, ◌+◌, ◌*◌, ◌/◌, ◌^◌, ◌<◌, ◌≤◌, ◌==◌, Bool, true, false, cond, List, [], ◌∷◌, length, Option, Some, refl, sym, ap, ap₂, subst, ◌∙◌, arith}
use Rattle.std.proofs.lemmas.Bool.Decides.{nat_tests}
use Rattle.std.proofs.lemmas.List.{get_or-set_same}
use Rattle.std.specs.Prelude.{IfSome, not, nat_le, slice_index, slice_set, slice_index_or}
use Rattle.ds_word.specs.Word.{word, bits}
use Rattle.ds_isa.specs.declared.instr.Size.TheVariants.{Byte}
use Rattle.ds_isa.specs.declared.instr.Kind.TheVariants.{Store}
use Rattle.ds_policy.specs.declared.grant.Grant.{Grant}
use Rattle.ds_policy.specs.declared.grant.Right.{Right}
use Rattle.ds_policy.specs.declared.grant.Right.TheVariants.{Write}
use Rattle.ds_policy.specs.Grants.{PageState}
use Rattle.ds_policy.specs.Pages.{Table, entry_at, page_address}
use Rattle.ds_grants.specs.State.{GrantsState, is_shared, frame_of_page}
use Rattle.ds_grants.specs.Inner.Counts.{page_of}
use Rattle.ds_grants.specs.Sound.{NamesPages}
use Rattle.ds_grants.specs.Words.{word_of_right, word_of_grant}
use Rattle.ds_grants.proofs.Fields.{user_lo}
use Rattle.ds_tlb.specs.declared.entry.Entry.{Entry}
use Rattle.ds_cp0.specs.System.{is_user}
use Rattle.ds_dev.specs.Bus.{BusState}
use Rattle.ds_core.specs.Core.{CoreState}
use Rattle.ds_pagemap.specs.Machine.{State, touched}
use Rattle.ds_refinement.specs.Tally.{IsTallied}
use Rattle.ds_refinement.proofs.UnitCourses as courses
use Rattle.ds_refinement.specs.declared.step.Step.TheVariants.{Inside}
use Rattle.ds_refinement.specs.Held.{Held, Kept, Own}
use Rattle.ds_refinement.specs.Units.{has_left_user, is_served, AtStart}
use Rattle.ds_refinement.specs.Handling.{HasBase}
use Rattle.ds_refinement.specs.Copying.{AwaitsCopy, InCopy}
use Rattle.ds_refinement.specs.Needs.{pages_of_unit}
use Rattle.ds_refinement.specs.Counts.{counts_of, course_of, may_write, one_copied}
use Rattle.ds_refinement.specs.Stands.{KeptIs, RunningIs, RunningBy, AreResting, Agrees, CountedBy, Stands}
use Rattle.ds_refinement.specs.Inner.Stands.{IsSound}
use Rattle.ds_refinement.specs.Steps.{Follows}
use Rattle.ds_refinement.specs.Inner.Services.{IsCopied, copied_core, touched_registers}
use Rattle.ds_refinement.specs.Real.{GoesBack}
use Rattle.ds_refinement.proofs.Vectors.{vectors_first}
use Rattle.ds_refinement.proofs.Lookups.{frame_flags, page_of_number}
use Rattle.ds_refinement.proofs.Late.{LetsStore, allowed_low, grant_of}
use Rattle.ds_refinement.proofs.Standing.{runs, kept, served_is, touched_state}
use Rattle.ds_refinement.proofs.Ending.{copying}
use Rattle.ds_refinement.proofs.Tallied.{touches as touched_tallied, has_begun, tallied_of}
use Rattle.ds_refinement.proofs.CourseWords as words
use Rattle.ds_refinement.proofs.WordTallies.{at_general}
use Rattle.ds_refinement.proofs.WaysBack.{still_ready}

-- A page that is marked no more is dirty in the word of a process that may write it.

unmarked : (shared : List Bool) (page : ℕ) → page < length shared → slice_index_or (slice_set shared page false) page false ≡ false
unmarked shared page low = get_or-set_same shared page false false low

page_dirty : (g : GrantsState) (page : ℕ) → is_shared g page ≡ false → (bits (word_of_right g Write (Some page)) 10 1 == 1) ≡ true
page_dirty g page alone = (frame_flags (frame_of_page g page) (not (is_shared g page))).1 ∙ ap not alone

grant_dirty : (g : GrantsState) (grant : Grant) (page : ℕ) → grant.right ≡ Write → grant.page ≡ Some page → is_shared g page ≡ false → (bits (word_of_grant g (Some grant)) 10 1 == 1) ≡ true
grant_dirty g grant page right named alone = ap₂ (λ (r : Right) (o : Option ℕ). bits (word_of_right g r o) 10 1 == 1) right named ∙ page_dirty g page alone

below : (address : ℕ) → nat_le (2 ^ 31) address ≡ false → address < 2 ^ 31
below address high = grind (arith, nat_tests)

user_page : (address : ℕ) → address < 2 ^ 31 → address / 2 ^ 12 < 2 ^ 19
user_page address low = omega (arith, low)

marked_by : (old new : GrantsState) (o : Option Grant) (grant : Grant) (page : ℕ) → o ≡ Some grant → grant.page ≡ Some page → IfSome (page_of o) (λ q. new.shared ≡ slice_set old.shared q false) → new.shared ≡ slice_set old.shared page false
marked_by old new o grant page is named marks =
    let here : page_of o ≡ Some page = ap page_of is ∙ named in
    subst (λ (x : Option ℕ). IfSome x (λ q. new.shared ≡ slice_set old.shared q false)) here marks

-- What the station shows after a copy.
module _ (h new : Held) (p : ℕ) (copied : IsCopied p h new) where
  -- what the processor shows after it
  user_after : is_user new.core.system ≡ true
  user_after = ap (λ (c : CoreState). is_user c.system) copied.core

  first_after : new.core.slot ≡ false
  first_after = ap (λ (c : CoreState). c.slot) copied.core

  hi_after : new.core.system.entry_hi ≡ h.core.system.entry_hi
  hi_after = ap (λ (c : CoreState). c.system.entry_hi) copied.core

  random_after : new.core.random ≡ h.core.random
  random_after = ap (λ (c : CoreState). c.random) copied.core

  -- the same devices
  rests_after : (b d : BusState) (k : Kept) (g : GrantsState) → record d { memory = [] } ≡ record b { memory = [] } → AreResting b k → AreResting d (record k { grants = g })
  rests_after b d k g same a = record {
    serial = ap (λ (x : BusState). record x.serial { enables = 0 }) same ∙ a.serial;
    clock = ap (λ (x : BusState). x.clock) same ∙ a.clock;
    system = ap (λ (x : BusState). x.system) same ∙ a.system;
    ticked = a.ticked;
    period = a.period;
  }

  -- the same unit with other entries, over other grants
  runs_after : (c : CoreState) (es : List Entry) (k : Kept) (g : GrantsState) (m : State) → RunningIs p (copied_core c c.entries) k m → RunningIs p (copied_core c es) (record k { grants = g }) m
  runs_after c es k g m r = let on : AtStart (copied_core c c.entries) p m = r.on in record {
    seat = r.seat;
    standing = r.standing;
    kept = r.kept;
    line = r.line;
    number = r.number;
    set = record { space = r.set.space; small = r.set.small };
    on = record { mode = on.mode; first = on.first; pc = on.pc; next = on.next; registers = on.registers };
  }

  pub copy_goes : has_left_user h.core ≡ true → GoesBack h new
  copy_goes left = record {
    mode = user_after;
    address = ap (λ (c : CoreState). c.pc) copied.core ∙ sym (ap (λ (b : Bool). cond b h.core.system.epc (slice_index h.core.registers.general 27)) left);
    pages = copied.pages;
    devices = copied.devices;
    answered = λ nested. (let no : true ≡ false = sym left ∙ nested in absurd cc);
    written = λ nested. (let no : true ≡ false = sym left ∙ nested in absurd cc);
    rewritten = λ again. copied.rewritten;
  }

-- A store waits for a copy, which was made.
module _ (h new : Held) (p : ℕ) (waits : AwaitsCopy h.core.system h.kept.grants p) (copied : IsCopied p h new) where
  lets : LetsStore (entry_at h.kept.grants.table p (page_address h.core.system.bad_vaddr)) waits.page
  lets = grant_of h.core.system h.kept.grants p waits

  -- its page is marked no more
  alone : NamesPages h.kept.grants → is_shared new.kept.grants waits.page ≡ false
  alone names =
      let low : waits.page < h.kept.grants.frames = names.named p (page_address h.core.system.bad_vaddr) waits.page lets.grant lets.is lets.named in
      let size = names.layout.marks in
      let marks : new.kept.grants.shared ≡ slice_set h.kept.grants.shared waits.page false =
      marked_by h.kept.grants new.kept.grants (entry_at h.kept.grants.table p (page_address h.core.system.bad_vaddr)) lets.grant waits.page lets.is lets.named copied.marks in
      ap (λ (marks : List Bool). slice_index_or marks waits.page false) marks ∙ unmarked h.kept.grants.shared waits.page (omega (arith, low, size))

  -- so the process may write there
  abbrev vpn : ℕ
  vpn = bits h.core.system.entry_hi 12 20

  may : NamesPages h.kept.grants → may_write new.kept p vpn ≡ true
  may names =
      let g : GrantsState = new.kept.grants in
      let high = allowed_low h.kept.grants.table p Store Byte h.core.system.bad_vaddr waits.page waits.offset waits.allowed in
      let low : h.core.system.bad_vaddr < 2 ^ 31 = below h.core.system.bad_vaddr high in
      let page : h.core.system.bad_vaddr / 2 ^ 12 < 2 ^ 19 = user_page h.core.system.bad_vaddr low in
      let at : vpn ≡ h.core.system.bad_vaddr / 2 ^ 12 = waits.address in
      let user : vpn < 2 ^ 19 = omega (arith, at, page) in
      let there : entry_at g.table p (vpn * 2 ^ 12) ≡ Some lets.grant =
      ap₂ (λ (t : Table) (a : ℕ). entry_at t p a) (ap (λ (s : PageState). s.table) copied.pages) (sym (page_of_number h.core.system.bad_vaddr vpn at)) ∙ lets.is in
      ap (λ (w : ℕ). bits w 10 1 == 1) (user_lo g new.kept.tables p vpn user ∙ ap (word_of_grant g) there)
      ∙ grant_dirty g lets.grant waits.page lets.right lets.named (alone names)

  -- A machine state for which the station stood, and its first ready process.
  module _ (m : State) (rest : List ℕ) (k : Stands h m) (ready : h.kept.state.ready ≡ p ∷ rest) (served : is_served h.core ≡ true) (left : has_left_user h.core ≡ true) where
    z : InCopy h.core h.kept p m
    z = copying h m p rest k ready served left waits

    -- the unit begins again, over what was granted before
    begins_again : Agrees (record h { core = copied_core h.core h.core.entries }) (touched true m)
    begins_again =
        let r = runs h m p rest k.agrees ready in
        touched_state h m p rest k.agrees ready (copied_core h.core h.core.entries) h.core.registers z.owed z.registers k.agrees.represented.buffer
        (record { tables = k.agrees.base.tables; whole = k.agrees.base.whole })
        (record { space = r.set.space; small = r.set.small })
        refl refl z.epc (ap (λ (n : ℕ). word (n + 4)) z.epc) (ap (touched_registers h.core.registers) z.epc)

    kept_again : KeptIs (p ∷ rest) (record h.kept { grants = new.kept.grants }) new.bus.memory (touched true m)
    kept_again = let a = kept (record h { core = copied_core h.core h.core.entries }) (touched true m) p rest begins_again ready in record {
      ready = a.ready;
      state = a.state;
      pages = a.pages ∙ sym copied.pages;
      log = a.log;
      lines = a.lines;
    }

    again_ready : new.kept.state.ready ≡ p ∷ rest
    again_ready = ap (λ (x : Kept). x.state.ready) copied.kept ∙ ready

    pub agrees_after : Agrees new (touched true m)
    agrees_after = record {
      represented = copied.represented;
      vectors = vectors_first h.bus.memory new.bus.memory (copied.vectors 0 (omega arith)) k.agrees.vectors;
      base = subst (λ (c : CoreState). HasBase c.system) (sym copied.core) (record { tables = k.agrees.base.tables; whole = k.agrees.base.whole });
      grants = copied.grants;
      size = copied.size ∙ k.agrees.size;
      kept = subst (λ (x : Kept). KeptIs x.state.ready x new.bus.memory (touched true m)) (sym copied.kept)
          (subst (λ (rs : List ℕ). KeptIs rs (record h.kept { grants = new.kept.grants }) new.bus.memory (touched true m)) (sym ready) kept_again);
      running = subst (λ (x : Kept). RunningBy x.state.ready new.core x (touched true m)) (sym copied.kept)
          (subst (λ (c : CoreState). RunningBy h.kept.state.ready c (record h.kept { grants = new.kept.grants }) (touched true m)) (sym copied.core)
          (subst (λ (rs : List ℕ). RunningBy rs (copied_core h.core new.core.entries) (record h.kept { grants = new.kept.grants }) (touched true m)) (sym ready)
          (runs_after h new p copied h.core new.core.entries h.kept new.kept.grants (touched true m)
          (runs (record h { core = copied_core h.core h.core.entries }) (touched true m) p rest begins_again ready))));
      devices = subst (λ (x : Kept). AreResting new.bus x) (sym copied.kept) (rests_after h new p copied h.bus new.bus h.kept new.kept.grants copied.devices k.agrees.devices);
    }

    -- the copy is a step of the unit's course
    tallied_after : IsTallied (course_of new.core (one_copied (counts_of h.own)) (may_write new.kept p) (pages_of_unit (touched true m) p))
    tallied_after =
        let parts = served_is h.core served in
        let seat = (runs h m p rest k.agrees ready).seat in
        touched_tallied m p rest h.core new.core (counts_of h.own) (one_copied (counts_of h.own)) (may_write h.kept p) (may_write new.kept p) (kept h m p rest k.agrees ready).ready seat
        (tallied_of h m p rest k ready)
        (words.copies h.core new.core (counts_of h.own) (may_write h.kept p) (pages_of_unit m p) (may_write new.kept p) (at_general h.core.pc parts.1) parts.0
        (ap (λ (w : ℕ). bits w 3 1) z.mode) waits.code (user_after h new p copied) (first_after h new p copied) (hi_after h new p copied) (random_after h new p copied) (may k.agrees.grants) copied.rewritten.0 copied.rewritten.1)

    pub counted_after : CountedBy new.kept.state.ready new.core new.own new.kept (touched true m)
    counted_after =
        subst (λ (rs : List ℕ). CountedBy rs new.core new.own new.kept (touched true m)) (sym again_ready)
        (subst (λ (o : Own). CountedBy (p ∷ rest) new.core o new.kept (touched true m)) (sym copied.own)
        (tallied_after, λ none. absurd (has_begun h m p rest k ready (served_is h.core served).0 none)))

pub copy_follows : (h new : Held) (p : ℕ) (rest : List ℕ) → h.kept.state.ready ≡ p ∷ rest → is_served h.core ≡ true → has_left_user h.core ≡ true → AwaitsCopy h.core.system h.kept.grants p → IsCopied p h new → Follows Inside h new
copy_follows h new p rest ready served left waits copied = record {
  follows = λ m k. (
    touched true m,
    (still_ready h m k (λ none. (let no : [] ≡ p ∷ rest = sym none ∙ ready in absurd cc)), true, refl),
    record { agrees = agrees_after h new p waits copied m rest k ready served left; counted = counted_after h new p waits copied m rest k ready served left },
  );
}

-- there is room to count it
pub copy_room : (h : Held) (p : ℕ) (rest : List ℕ) → IsSound h → h.kept.state.ready ≡ p ∷ rest → is_served h.core ≡ true → has_left_user h.core ≡ true → AwaitsCopy h.core.system h.kept.grants p → h.own.services ≤ 5
copy_room h p rest sound ready served left waits =
    let z : InCopy h.core h.kept p sound.state = copying h sound.state p rest sound.stands ready served left waits in
    let parts = served_is h.core served in
    courses.copy_room (course_of h.core (counts_of h.own) (may_write h.kept p) (pages_of_unit sound.state p)) (tallied_of h sound.state p rest sound.stands ready)
    (words.at_modified h.core (at_general h.core.pc parts.1) parts.0 (ap (λ (w : ℕ). bits w 3 1) z.mode) waits.code)
