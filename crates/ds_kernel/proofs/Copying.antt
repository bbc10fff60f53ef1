-- A late copy is made, counts, and lets the unit begin again.
use Rattle.std.proofs.Common.{◌≡◌, ℕ, ◌<◌, false, List, [], length, sym, ap, ap₂, subst, ◌∙◌}
use Rattle.std.specs.Prelude.{IfSome, slice_set}
use Rattle.ds_tlb.specs.declared.entry.Entry.{Entry}
use Rattle.ds_mem.specs.Memory.{frame_of}
use Rattle.ds_dev.specs.Bus.{BusState}
use Rattle.ds_core.specs.Core.{CoreState}
use Rattle.ds_policy.specs.Grants.{PageState}
use Rattle.ds_policy.specs.Pages.{entry_at, page_address}
use Rattle.ds_grants.specs.Inner.Counts.{page_of}
use Rattle.ds_grants.specs.State.{GrantsState, page_state}
use Rattle.ds_grants.specs.Inner.State.{IsAsLarge}
use Rattle.ds_grants.specs.Sound.{NamesPages}
use Rattle.ds_grants.specs.Copies.{AreRewritten}
use Rattle.ds_grants.specs.Represented.{IsRepresented}
use Rattle.ds_grants.specs.Inner.Represented.{Keeps}
use Rattle.ds_refinement.specs.Held.{Own}
use Rattle.ds_refinement.specs.Counts.{counts_of, one_copied}
use Rattle.ds_refinement.specs.Inner.Counts.{with_counts}
use Rattle.ds_refinement.specs.Inner.Services.{at_unit, touched_registers, copied_core, IsCopied}
use Rattle.ds_refinement.specs.Inner.Stands.{IsSound}
use Rattle.ds_monitor.specs.declared.monitor.Monitor.{Monitor}
use Rattle.ds_monitor.specs.Inner.Kept.{kept_of}
use Rattle.ds_monitor.specs.Inner.Orderly as monitor
use Rattle.ds_monitor.proofs.Lawful.{lying_orderly}
use Rattle.ds_kernel.specs.declared.parts.Parts.{Parts}
use Rattle.ds_kernel.specs.Inner.Parts.{held, own_of, with_counts_of}

-- Other grants, memory and entries; then the count; then the way back.
module _ {L : Type 0} (p : ℕ) (old lies counted new : Parts L)
    (rest : lies ≡ record old {
      core = record old.core { entries = lies.core.entries };
      bus = record old.bus { memory = lies.bus.memory };
      monitor = record old.monitor { grants = lies.monitor.grants };
    })
    (counts : counted ≡ with_counts_of counted lies)
    (back : new ≡ record counted {
      core = record (at_unit counted.core counted.core.system.epc) { registers = touched_registers counted.core.registers counted.core.system.epc };
    }) where
  abbrev back_from : CoreState → CoreState
  back_from c = record (at_unit c c.system.epc) { registers = touched_registers c.registers c.system.epc }

  core_between : counted.core ≡ record old.core { entries = lies.core.entries }
  core_between = ap (λ (x : Parts L). x.core) counts ∙ ap (λ (x : Parts L). x.core) rest

  core_then : new.core ≡ copied_core old.core lies.core.entries
  core_then = ap (λ (x : Parts L). x.core) back ∙ ap back_from core_between

  entries : new.core.entries ≡ lies.core.entries
  entries = ap (λ (c : CoreState). c.entries) core_then

  bus : new.bus ≡ lies.bus
  bus = ap (λ (x : Parts L). x.bus) back ∙ ap (λ (x : Parts L). x.bus) counts

  kept : new.monitor ≡ lies.monitor
  kept = ap (λ (x : Parts L). x.monitor) back ∙ ap (λ (x : Parts L). x.monitor) counts

  grants : new.monitor.grants ≡ lies.monitor.grants
  grants = ap (λ (m : Monitor). m.grants) kept

  bus_is : record old.bus { memory = lies.bus.memory } ≡ new.bus
  bus_is = sym (bus ∙ ap (λ (x : Parts L). x.bus) rest)

  lying : record old.monitor { grants = lies.monitor.grants } ≡ record old.monitor { grants = new.monitor.grants }
  lying = ap (λ (g : GrantsState). record old.monitor { grants = g }) (sym grants)

  pub monitor_is : new.monitor ≡ record old.monitor { grants = new.monitor.grants }
  monitor_is = kept ∙ (ap (λ (x : Parts L). x.monitor) rest ∙ lying)

  -- nothing else has changed
  pub copy_rest : new ≡ record (with_counts_of new old) { core = new.core; bus = new.bus; monitor = record old.monitor { grants = new.monitor.grants } }
  copy_rest =
      back
      ∙ (ap (λ (x : Parts L). record x { core = back_from counted.core }) counts
      ∙ (ap (λ (x : Parts L). record (with_counts_of counted x) { core = back_from counted.core }) rest
      ∙ (ap (λ (x : Parts L). record (with_counts_of x old) { core = back_from counted.core; bus = record old.bus { memory = lies.bus.memory }; monitor = record old.monitor { grants = lies.monitor.grants } }) (sym back)
      ∙ (ap (λ (c : CoreState). record (with_counts_of new old) { core = c; bus = record old.bus { memory = lies.bus.memory }; monitor = record old.monitor { grants = lies.monitor.grants } }) (sym (ap (λ (x : Parts L). x.core) back))
      ∙ (ap (λ (b : BusState). record (with_counts_of new old) { core = new.core; bus = b; monitor = record old.monitor { grants = lies.monitor.grants } }) bus_is
      ∙ ap (λ (m : Monitor). record (with_counts_of new old) { core = new.core; bus = new.bus; monitor = m }) lying)))))

  -- what is kept is orderly
  pub copy_orderly : IsAsLarge old.monitor.grants lies.monitor.grants → lies.monitor.grants.ended ≡ old.monitor.grants.ended
      → page_state lies.monitor.grants lies.bus.memory ≡ page_state old.monitor.grants old.bus.memory → monitor.IsOrderly (kept_of old.monitor)
      → monitor.IsOrderly (record (kept_of old.monitor) { grants = new.monitor.grants })
  copy_orderly same ended pages it =
      lying_orderly (kept_of old.monitor) new.monitor.grants (ap (λ (g : GrantsState). g.table) grants ∙ ap (λ (s : PageState). s.table) pages)
      (ap (λ (g : GrantsState). g.named) grants ∙ same.named) (ap (λ (g : GrantsState). g.ended) grants ∙ ended) it

  -- and the copy is made
  pub is_copied : own_of counted ≡ with_counts (own_of lies) (one_copied (counts_of (own_of lies))) → IsSound (held old)
      → page_state lies.monitor.grants lies.bus.memory ≡ page_state old.monitor.grants old.bus.memory
      → IfSome (page_of (entry_at old.monitor.grants.table p (page_address old.core.system.bad_vaddr))) (λ page. lies.monitor.grants.shared ≡ slice_set old.monitor.grants.shared page false)
      → ((f : ℕ) → f < 2 → frame_of lies.bus.memory f ≡ frame_of old.bus.memory f) → length lies.bus.memory ≡ length old.bus.memory → AreRewritten old.core.entries lies.core.entries
      → Keeps old.core.entries old.bus.memory old.monitor.tables old.monitor.spaces old.monitor.grants lies.core.entries lies.bus.memory lies.monitor.tables lies.monitor.spaces lies.monitor.grants
      → NamesPages lies.monitor.grants → IsCopied p (held old) (held new)
  is_copied count sound pages marks vectors size rewritten keeps names = record {
    core = core_then ∙ ap (copied_core old.core) (sym entries);
    kept = ap kept_of monitor_is;
    own = ap (λ (x : Parts L). own_of x) back ∙ (count ∙ ap (λ (o : Own). with_counts o (one_copied (counts_of o))) (ap (λ (x : Parts L). own_of x) rest));
    devices = ap (λ (b : BusState). record b { memory = [] }) (sym bus_is);
    rewritten = subst (λ (es : List Entry). AreRewritten old.core.entries es) (sym entries) rewritten;
    pages = ap₂ (λ (g : GrantsState) (b : BusState). page_state g b.memory) grants bus ∙ pages;
    marks = subst (λ (g : GrantsState). IfSome (page_of (entry_at old.monitor.grants.table p (page_address old.core.system.bad_vaddr))) (λ page. g.shared ≡ slice_set old.monitor.grants.shared page false)) (sym grants) marks;
    represented =
        subst (λ (es : List Entry). IsRepresented es new.bus.memory new.monitor.tables new.monitor.spaces new.monitor.grants) (sym entries)
        (subst (λ (b : BusState). IsRepresented lies.core.entries b.memory new.monitor.tables new.monitor.spaces new.monitor.grants) (sym bus)
        (subst (λ (m : Monitor). IsRepresented lies.core.entries lies.bus.memory m.tables m.spaces m.grants) (sym kept)
        (keeps sound.stands.agrees.represented)));
    vectors = λ f few. subst (λ (b : BusState). frame_of b.memory f ≡ frame_of old.bus.memory f) (sym bus) (vectors f few);
    grants = subst NamesPages (sym grants) names;
    size = ap (λ (b : BusState). length b.memory) bus ∙ size;
  }
