use Rattle.std.proofs.Common.{◌≡◌, ℕ, ◌≤◌, List, length, sym, subst}
use Rattle.std.specs.Prelude.{nat_lt, if◌then◌else◌}
use Rattle.ds_tlb.specs.declared.entry.Entry.{Entry}
use Rattle.ds_tlb.specs.Entries.{empty_entries}
use Rattle.ds_asid.specs.Spaces.{Spaces}
use Rattle.ds_asid.specs.Inner.Spaces.{after_take}
use Rattle.ds_tables.specs.Places.{Places}
use Rattle.ds_grants.specs.State.{GrantsState}
use Rattle.ds_grants.specs.Represented.{IsRepresented}
use Rattle.ds_grants.proofs.Handing.{takes_number}
use Rattle.ds_refinement.specs.Pairs.{HasNoNewPairs}
use Rattle.ds_kernel.specs.declared.parts.Parts.{Parts}
use Rattle.ds_kernel.proofs.Entering.{takes_pairs}
use Rattle.ds_kernel.proofs.parts.Parts.claim_space.Goals as goal

-- a buffer that holds has few slots
takes : {old new : List Entry} (slots : ℕ) {memory : List ℕ} {t : Places} {s later : Spaces} {g : GrantsState} (p : ℕ) → length old ≡ slots → p ≤ 100
    → new ≡ (if nat_lt s.next 64 then old else empty_entries slots) → later ≡ after_take s p → IsRepresented old memory t s g → IsRepresented new memory t later g
takes slots p long few is taken k = takes_number slots p (subst (λ (n : ℕ). n ≤ 64) long k.buffer.few) few is taken k

pub returns-in-None-clause-represented : goal.returns-in-None-clause-represented
returns-in-None-clause-represented g c = λ old.
    takes _ c.args.process (g.met.L.Lookaside.size _) c.requires.few c.take.ensures.buffer c.take.ensures.value
    (subst (λ (p : Parts g.row.L.Denot). IsRepresented p.core.entries p.bus.memory p.monitor.tables p.monitor.spaces p.monitor.grants) (sym c.self.view_is) old)

pub returns-in-None-clause-pairs : goal.returns-in-None-clause-pairs
returns-in-None-clause-pairs g c =
    subst (λ (p : Parts g.row.L.Denot). HasNoNewPairs p.core.entries (g.L.Lookaside.entries c.take.new.tlb)) c.self.view_is
    (takes_pairs g.L.Lookaside.SLOTS _ c.take.ensures.buffer)
