-- The tally is kept.
use Rattle.std.proofs.Common.{◌≡◌, ℕ, zero, suc, ◌+◌, ◌-◌, ◌<◌, ◌≤◌, ◌⊎◌, inl, inr, Bool, true, false, List, length, length-set, ap, ◌∙◌, arith, refl, subst, sym}
use Rattle.std.specs.Prelude.{slice_set, None}
use Rattle.ds_word.specs.Word.{truth}
use Rattle.ds_tlb.specs.declared.entry.Entry.{Entry}
use Rattle.ds_tlb.specs.Entries.{random_after, find}
use Rattle.ds_refinement.specs.KeptEntries.{IsKept}
use Rattle.ds_refinement.specs.Cost.{Met, cost}
use Rattle.ds_grants.proofs.OwnFrames.{truth_small}
use Rattle.ds_refinement.proofs.Keeping.{writes, wired}
use Rattle.ds_refinement.specs.Course.{Ask, Fetch, Slot, Access, asked, Work}
use Rattle.ds_refinement.specs.Inner.Course.{after_touch}
use Rattle.ds_refinement.specs.CourseSteps.{table_page, next_wired}
use Rattle.ds_refinement.specs.Inner.CourseSteps.{counted, wrote, tabled, copied}
use Rattle.ds_grants.specs.Copies.{HasKeys}
use Rattle.ds_refinement.specs.Tally.{has_page, has_table, refills, doubles, copies, wasted, IsTableKept, Tally}
use Rattle.ds_refinement.proofs.Slots.{ticked_low, ticked_high, all_stood_tick, stood_first, kept_ticks, kept_first, turn_small, table_first, table_turns, table_stays, table_found, kept_found, kept_keys, table_keys, since_ticks, since_writes}

pub doubles_few : (met : Met) → doubles met ≤ 4
doubles_few met = let a = truth_small met.early in let b = truth_small met.fetch_table in let c = truth_small met.slot_table in let d = truth_small met.access_table in omega arith

pub refills_few : (met : Met) → refills met ≤ 4
refills_few met = let a = truth_small met.early in let b = truth_small met.fetch in let c = truth_small met.slot in let d = truth_small met.access in omega arith

pub copies_few : (met : Met) → copies met ≤ 2
copies_few met = let a = truth_small met.early in let b = truth_small met.copied in omega arith

-- what was met costs something
page_costs : (met : Met) → met.access ≡ true → 0 < cost met
page_costs met is = let a : truth met.access ≡ 1 = ap truth is in omega arith

table_costs : (met : Met) → met.access_table ≡ true → 0 < cost met
table_costs met is = let a : truth met.access_table ≡ 1 = ap truth is in omega arith

copy_costs : (met : Met) → met.copied ≡ true → 0 < cost met
copy_costs met is = let a : truth met.copied ≡ 1 = ap truth is in omega arith

-- an instruction more
pub ticks : (w : Work) (met : Met) → w.spent ≤ 60 → Tally w met → Tally (counted w) met
ticks w met few t = record {
  pages = λ ask is. kept_ticks w.entries w.random w.spent (asked w.pages ask) w.asid t.low t.high few (t.pages ask is);
  tables = t.tables;
  copied = t.copied;
  stood = all_stood_tick w.written w.random w.spent t.low t.high few t.stood;
  since = since_ticks w.written w.since w.spent t.since;
  touched = t.touched;
  refilled = t.refilled;
  doubled = t.doubled;
  served = t.served;
  size = t.size;
  low = ticked_low w.random t.low t.high;
  high = ticked_high w.random t.low t.high;
  turn = t.turn;
}

-- what is missed was not met
pub page_unmet : (w : Work) (met : Met) (ask : Ask) → Tally w met → find w.entries (asked w.pages ask) w.asid ≡ None → has_page met ask ≡ false
page_unmet w met ask t none = by_met (has_page met ask) refl
  where
    by_met : (b : Bool) → has_page met ask ≡ b → has_page met ask ≡ false
    by_met true is = absurd (kept_found w.entries w.random (w.spent - 7) (asked w.pages ask) w.asid (t.pages ask is) none)
    by_met false is = is

pub table_unmet : (w : Work) (met : Met) (ask : Ask) → Tally w met → find w.entries (table_page (asked w.pages ask)) w.asid ≡ None → has_table met ask ≡ false
table_unmet w met ask t none = by_met (has_table met ask) refl
  where
    by_met : (b : Bool) → has_table met ask ≡ b → has_table met ask ≡ false
    by_met true is = absurd (table_found w.entries w.wired w.tables (table_page (asked w.pages ask)) w.asid (t.tables ask is) none)
    by_met false is = is

pub copy_unmet : (w : Work) (met : Met) → Tally w met → w.dirty w.pages.access ≡ false → met.copied ≡ false
copy_unmet w met t clean = by_met met.copied refl
  where
    by_met : (b : Bool) → met.copied ≡ b → met.copied ≡ false
    by_met true is = let wrong : true ≡ false = sym (t.copied is) ∙ clean in absurd cc
    by_met false is = is

-- a touch leaves the pages that were met
page_stays : (w : Work) (met : Met) → Tally w met → (ask : Ask) → has_page met ask ≡ true → asked (after_touch w.pages) ask ≡ asked w.pages ask
page_stays w met t Fetch is = refl
page_stays w met t Slot is = refl
page_stays w met t Access is = t.touched (page_costs met is)

table_page_stays : (w : Work) (met : Met) → Tally w met → (ask : Ask) → has_table met ask ≡ true → asked (after_touch w.pages) ask ≡ asked w.pages ask
table_page_stays w met t Fetch is = refl
table_page_stays w met t Slot is = refl
table_page_stays w met t Access is = t.touched (table_costs met is)

-- The seventh word of the handler.

wrote_by : (w : Work) (met new : Met) (e : Entry) → 7 ≤ w.spent → w.spent ≤ 60 → e.asid ≡ w.asid → Tally w met
    → ((ask : Ask) → has_page new ask ≡ true → (has_page met ask ≡ true) ⊎ (asked (after_touch w.pages) ask ≡ e.vpn))
    → ((ask : Ask) → has_table new ask ≡ true → has_table met ask ≡ true) → (new.copied ≡ true → met.copied ≡ true)
    → refills met + 1 ≤ refills new → doubles met ≤ doubles new → copies met ≤ copies new → Tally (wrote e w) new
wrote_by w met new e begun few space t more same same_copy r d c =
    let refilled = t.refilled in
    let doubled = t.doubled in
    let served = t.served in
    let kept : (ask : Ask) → (has_page met ask ≡ true) ⊎ (asked (after_touch w.pages) ask ≡ e.vpn) → IsKept (slice_set w.entries w.random e) (random_after 64 8 w.random) (w.spent + 1 - 7) (asked (after_touch w.pages) ask) w.asid =
    λ ask. elim [
      | inl old ↦ subst (λ (page : ℕ). IsKept (slice_set w.entries w.random e) (random_after 64 8 w.random) (w.spent + 1 - 7) page w.asid) (sym (page_stays w met t ask old))
          (kept_ticks (slice_set w.entries w.random e) w.random w.spent (asked w.pages ask) w.asid t.low t.high few (writes w.entries w.random (w.spent - 7) (asked w.pages ask) w.asid e (t.pages ask old)))
      | inr now ↦ subst (λ (page : ℕ). IsKept (slice_set w.entries w.random e) (random_after 64 8 w.random) (w.spent + 1 - 7) page w.asid) (sym now)
          (subst (λ (asid : ℕ). IsKept (slice_set w.entries w.random e) (random_after 64 8 w.random) (w.spent + 1 - 7) e.vpn asid) space (kept_first w.entries e w.random w.spent t.size t.low t.high begun))
    ] in
    record {
      pages = λ ask is. kept ask (more ask is);
      tables = λ ask is. subst (λ (page : ℕ). IsTableKept (slice_set w.entries w.random e) w.wired w.tables (table_page page) w.asid) (sym (table_page_stays w met t ask (same ask is)))
          (table_stays w.entries e w.random w.wired w.tables (table_page (asked w.pages ask)) w.asid t.low (t.tables ask (same ask is)));
      copied = λ is. ap w.dirty (t.touched (copy_costs met (same_copy is))) ∙ t.copied (same_copy is);
      stood = (stood_first w.random w.spent t.low t.high begun, all_stood_tick w.written w.random w.spent t.low t.high few t.stood);
      since = since_writes w.written w.random w.since w.spent begun t.since;
      touched = λ h. refl;
      refilled = omega arith;
      doubled = omega arith;
      served = omega arith;
      size = length-set w.entries w.random e ∙ t.size;
      low = ticked_low w.random t.low t.high;
      high = ticked_high w.random t.low t.high;
      turn = t.turn;
    }

-- what is met besides, and costs so much
abbrev pub Meets : Work → Met → ℕ → Type 0
Meets w met price = (new : Met) × Tally w new × (cost met + price ≤ cost new)

pub none_or_some : (n : ℕ) → (n ≡ 0) ⊎ (0 < n)
none_or_some zero = inl refl
none_or_some (suc n) = inr (omega arith)

free_of : (met : Met) → cost met ≡ 0 → truth met.early ≡ 0
free_of met none = omega arith

pub wrote_tally : (w : Work) (met : Met) (e : Entry) (ask : Ask) → 7 ≤ w.spent → w.spent ≤ 60 → e.asid ≡ w.asid → e.vpn ≡ asked w.pages ask → has_page met ask ≡ false → Tally w met
    → Meets (wrote e w) met (wasted ask + 9)
wrote_tally w met e Fetch begun few space page unmet t =
    let new : Met = record met { fetch = true } in
    let z : truth met.fetch ≡ 0 = ap truth unmet in
    let more : (ask : Ask) → has_page new ask ≡ true → (has_page met ask ≡ true) ⊎ (asked (after_touch w.pages) ask ≡ e.vpn) = elim [ Fetch ↦ λ is. inr (sym page) | Slot ↦ λ is. inl is | Access ↦ λ is. inl is ] in
    (new, wrote_by w met new e begun few space t more (elim [ Fetch ↦ λ is. is | Slot ↦ λ is. is | Access ↦ λ is. is ]) (λ is. is) (omega arith) (omega arith) (omega arith), omega arith)
wrote_tally w met e Slot begun few space page unmet t =
    let new : Met = record met { slot = true } in
    let z : truth met.slot ≡ 0 = ap truth unmet in
    let more : (ask : Ask) → has_page new ask ≡ true → (has_page met ask ≡ true) ⊎ (asked (after_touch w.pages) ask ≡ e.vpn) = elim [ Fetch ↦ λ is. inl is | Slot ↦ λ is. inr (sym page) | Access ↦ λ is. inl is ] in
    (new, wrote_by w met new e begun few space t more (elim [ Fetch ↦ λ is. is | Slot ↦ λ is. is | Access ↦ λ is. is ]) (λ is. is) (omega arith) (omega arith) (omega arith), omega arith)
wrote_tally w met e Access begun few space page unmet t = elim (none_or_some (cost met)) [
  | inl none ↦
      let new : Met = record met { early = true } in
      let z : truth met.early ≡ 0 = free_of met none in
      (new, wrote_by w met new e begun few space t (elim [ Fetch ↦ λ is. inl is | Slot ↦ λ is. inl is | Access ↦ λ is. inl is ]) (elim [ Fetch ↦ λ is. is | Slot ↦ λ is. is | Access ↦ λ is. is ]) (λ is. is) (omega arith) (omega arith) (omega arith), omega arith)
  | inr some ↦
      let new : Met = record met { access = true } in
      let z : truth met.access ≡ 0 = ap truth unmet in
      let more : (ask : Ask) → has_page new ask ≡ true → (has_page met ask ≡ true) ⊎ (asked (after_touch w.pages) ask ≡ e.vpn) = elim [ Fetch ↦ λ is. inl is | Slot ↦ λ is. inl is | Access ↦ λ is. inr (t.touched some ∙ sym page) ] in
      (new, wrote_by w met new e begun few space t more (elim [ Fetch ↦ λ is. is | Slot ↦ λ is. is | Access ↦ λ is. is ]) (λ is. is) (omega arith) (omega arith) (omega arith), omega arith)
]

-- The service of a double miss.

tabled_by : (w : Work) (met new : Met) (e : Entry) → e.asid ≡ w.asid → Tally w met
    → ((ask : Ask) → has_table new ask ≡ true → (has_table met ask ≡ true) ⊎ (table_page (asked (after_touch w.pages) ask) ≡ e.vpn))
    → ((ask : Ask) → has_page new ask ≡ true → has_page met ask ≡ true) → (new.copied ≡ true → met.copied ≡ true)
    → refills met ≤ refills new → doubles met + 1 ≤ doubles new → copies met ≤ copies new → Tally (tabled e w) new
tabled_by w met new e space t more same same_copy r d c =
    let refilled = t.refilled in
    let doubled = t.doubled in
    let served = t.served in
    let most = doubles_few met in
    let kept : (ask : Ask) → (has_table met ask ≡ true) ⊎ (table_page (asked (after_touch w.pages) ask) ≡ e.vpn) → IsTableKept (slice_set w.entries w.wired e) (next_wired w.wired) (w.tables + 1) (table_page (asked (after_touch w.pages) ask)) w.asid =
    λ ask. elim [
      | inl old ↦ subst (λ (page : ℕ). IsTableKept (slice_set w.entries w.wired e) (next_wired w.wired) (w.tables + 1) (table_page page) w.asid) (sym (table_page_stays w met t ask old))
          (table_turns w.entries e w.wired w.tables (table_page (asked w.pages ask)) w.asid t.turn (omega arith) (t.tables ask old))
      | inr now ↦ subst (λ (page : ℕ). IsTableKept (slice_set w.entries w.wired e) (next_wired w.wired) (w.tables + 1) page w.asid) (sym now)
          (subst (λ (asid : ℕ). IsTableKept (slice_set w.entries w.wired e) (next_wired w.wired) (w.tables + 1) e.vpn asid) space (table_first w.entries e w.wired w.tables t.size t.turn))
    ] in
    record {
      pages = λ ask is. subst (λ (page : ℕ). IsKept (slice_set w.entries w.wired e) w.random (w.spent - 7) page w.asid) (sym (page_stays w met t ask (same ask is)))
          (wired w.entries w.random (w.spent - 7) (asked w.pages ask) w.asid w.wired e t.turn (t.pages ask (same ask is)));
      tables = λ ask is. kept ask (more ask is);
      copied = λ is. ap w.dirty (t.touched (copy_costs met (same_copy is))) ∙ t.copied (same_copy is);
      stood = t.stood;
      since = t.since;
      touched = λ h. refl;
      refilled = omega arith;
      doubled = omega arith;
      served = omega arith;
      size = length-set w.entries w.wired e ∙ t.size;
      low = t.low;
      high = t.high;
      turn = turn_small w.wired t.turn;
    }

pub tabled_tally : (w : Work) (met : Met) (e : Entry) (ask : Ask) → e.asid ≡ w.asid → e.vpn ≡ table_page (asked w.pages ask) → has_table met ask ≡ false → Tally w met
    → Meets (tabled e w) met (wasted ask + 3)
tabled_tally w met e Fetch space page unmet t =
    let new : Met = record met { fetch_table = true } in
    let z : truth met.fetch_table ≡ 0 = ap truth unmet in
    let more : (ask : Ask) → has_table new ask ≡ true → (has_table met ask ≡ true) ⊎ (table_page (asked (after_touch w.pages) ask) ≡ e.vpn) = elim [ Fetch ↦ λ is. inr (sym page) | Slot ↦ λ is. inl is | Access ↦ λ is. inl is ] in
    (new, tabled_by w met new e space t more (elim [ Fetch ↦ λ is. is | Slot ↦ λ is. is | Access ↦ λ is. is ]) (λ is. is) (omega arith) (omega arith) (omega arith), omega arith)
tabled_tally w met e Slot space page unmet t =
    let new : Met = record met { slot_table = true } in
    let z : truth met.slot_table ≡ 0 = ap truth unmet in
    let more : (ask : Ask) → has_table new ask ≡ true → (has_table met ask ≡ true) ⊎ (table_page (asked (after_touch w.pages) ask) ≡ e.vpn) = elim [ Fetch ↦ λ is. inl is | Slot ↦ λ is. inr (sym page) | Access ↦ λ is. inl is ] in
    (new, tabled_by w met new e space t more (elim [ Fetch ↦ λ is. is | Slot ↦ λ is. is | Access ↦ λ is. is ]) (λ is. is) (omega arith) (omega arith) (omega arith), omega arith)
tabled_tally w met e Access space page unmet t = elim (none_or_some (cost met)) [
  | inl none ↦
      let new : Met = record met { early = true } in
      let z : truth met.early ≡ 0 = free_of met none in
      (new, tabled_by w met new e space t (elim [ Fetch ↦ λ is. inl is | Slot ↦ λ is. inl is | Access ↦ λ is. inl is ]) (elim [ Fetch ↦ λ is. is | Slot ↦ λ is. is | Access ↦ λ is. is ]) (λ is. is) (omega arith) (omega arith) (omega arith), omega arith)
  | inr some ↦
      let new : Met = record met { access_table = true } in
      let z : truth met.access_table ≡ 0 = ap truth unmet in
      let more : (ask : Ask) → has_table new ask ≡ true → (has_table met ask ≡ true) ⊎ (table_page (asked (after_touch w.pages) ask) ≡ e.vpn) = elim [ Fetch ↦ λ is. inl is | Slot ↦ λ is. inl is | Access ↦ λ is. inr (ap table_page (t.touched some) ∙ sym page) ] in
      (new, tabled_by w met new e space t more (elim [ Fetch ↦ λ is. is | Slot ↦ λ is. is | Access ↦ λ is. is ]) (λ is. is) (omega arith) (omega arith) (omega arith), omega arith)
]

-- The service of a copy that was put off.

copied_by : (w : Work) (met new : Met) (entries : List Entry) (dirty : ℕ → Bool) → HasKeys w.entries entries → length entries ≡ length w.entries → Tally w met
    → ((ask : Ask) → has_page new ask ≡ true → has_page met ask ≡ true) → ((ask : Ask) → has_table new ask ≡ true → has_table met ask ≡ true)
    → (new.copied ≡ true → dirty w.pages.touched ≡ true)
    → refills met ≤ refills new → doubles met ≤ doubles new → doubles met + copies met + 1 ≤ doubles new + copies new → Tally (copied entries dirty w) new
copied_by w met new entries dirty keys size t same same_table clean r d c =
    let refilled = t.refilled in
    let doubled = t.doubled in
    let served = t.served in
    record {
      pages = λ ask is. subst (λ (page : ℕ). IsKept entries w.random (w.spent - 7) page w.asid) (sym (page_stays w met t ask (same ask is)))
          (kept_keys w.entries entries w.random (w.spent - 7) (asked w.pages ask) w.asid keys (t.pages ask (same ask is)));
      tables = λ ask is. subst (λ (page : ℕ). IsTableKept entries w.wired w.tables (table_page page) w.asid) (sym (table_page_stays w met t ask (same_table ask is)))
          (table_keys w.entries entries w.wired w.tables (table_page (asked w.pages ask)) w.asid keys (t.tables ask (same_table ask is)));
      copied = clean;
      stood = t.stood;
      since = t.since;
      touched = λ h. refl;
      refilled = omega arith;
      doubled = omega arith;
      served = omega arith;
      size = size ∙ t.size;
      low = t.low;
      high = t.high;
      turn = t.turn;
    }

pub copied_tally : (w : Work) (met : Met) (entries : List Entry) (dirty : ℕ → Bool) → HasKeys w.entries entries → length entries ≡ length w.entries
    → dirty w.pages.access ≡ true → met.copied ≡ false → Tally w met → Meets (copied entries dirty w) met 2
copied_tally w met entries dirty keys size now unmet t = elim (none_or_some (cost met)) [
  | inl none ↦
      let new : Met = record met { early = true } in
      let z : truth met.early ≡ 0 = free_of met none in
      let clean : met.copied ≡ true → dirty w.pages.touched ≡ true = λ is. (let wrong : true ≡ false = sym is ∙ unmet in absurd cc) in
      (new, copied_by w met new entries dirty keys size t (elim [ Fetch ↦ λ is. is | Slot ↦ λ is. is | Access ↦ λ is. is ]) (elim [ Fetch ↦ λ is. is | Slot ↦ λ is. is | Access ↦ λ is. is ]) clean (omega arith) (omega arith) (omega arith), omega arith)
  | inr some ↦
      let new : Met = record met { copied = true } in
      let z : truth met.copied ≡ 0 = ap truth unmet in
      (new, copied_by w met new entries dirty keys size t (elim [ Fetch ↦ λ is. is | Slot ↦ λ is. is | Access ↦ λ is. is ]) (elim [ Fetch ↦ λ is. is | Slot ↦ λ is. is | Access ↦ λ is. is ]) (λ is. ap dirty (t.touched some) ∙ now) (omega arith) (omega arith) (omega arith), omega arith)
]
