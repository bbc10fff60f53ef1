-- A store that waits for a copy, and accesses that don't: each row is a theorem about the definitions alone.
use Rattle.std.proofs.Common.{◌≡◌, ℕ, inl, inr, true, false, List, [], ◌∷◌, refl, ap, ◌∙◌, arith}
use Rattle.std.specs.Prelude.{Some, None, slice_index, slice_index_or}
use Rattle.ds_isa.specs.declared.instr.Size.TheVariants.{Word}
use Rattle.ds_isa.specs.declared.instr.Kind.TheVariants.{Store}
use Rattle.ds_tlb.specs.declared.entry.Entry.{Entry}
use Rattle.ds_cp0.specs.System.{System}
use Rattle.ds_policy.specs.declared.grant.Right.TheVariants.{Write}
use Rattle.ds_policy.specs.declared.grant.Grant.{Grant}
use Rattle.ds_policy.specs.declared.access.Verdict.TheVariants.{Allowed}
use Rattle.ds_grants.specs.State.{GrantsState}
use Rattle.ds_dev.specs.Bus as bus
use Rattle.ds_core.specs.Core.{CoreState}
use Rattle.ds_refinement.specs.Held.{Held, Own}
use Rattle.ds_refinement.specs.Copying.{AwaitsCopy}
use Rattle.ds_refinement.specs.Inner.Granted.{IsGranted}
use Rattle.ds_refinement.specs.Steps.{counts_after}
use Rattle.ds_refinement.specs.Inner.Services.{IsCopied, copied_core}
use Rattle.ds_refinement.specs.Real.{GoesBack, IsReal}
use Rattle.ds_refinement.specs.Rows.StationRows.{kept, page, other, core_at, served, nested}

-- a page, for writing
abbrev writing : ℕ → Grant
writing number = record { right = Write; page = Some number; rule = 1; give = false; giver = 0; parent = None; until = None }

-- process 1 may write page 0 at 00400000, and process 2 its copy there, page 1, which lies in the same frame
abbrev grants : GrantsState
grants = record {
  table = (record { address = 0x00400000; grant = writing 0 } ∷ []) ∷ (record { address = 0x00400000; grant = writing 1 } ∷ []) ∷ [];
  frames = 2;
  named = 1;
  ended = false ∷ false ∷ [];
  lies = 0 ∷ 0 ∷ [];
  shared = true ∷ true ∷ [];
}

-- process 1 has stored to 00400010, which its entry refused with code 1
abbrev late : System
late = record served.system { cause = 4; bad_vaddr = 0x00400010; entry_hi = 0x00400040 }

pub a_store_to_a_page_that_is_marked_waits : AwaitsCopy late grants 1
a_store_to_a_page_that_is_marked_waits = record { code = refl; address = refl; page = 0; offset = 0x10; allowed = refl; shared = refl }

pub one_to_a_page_that_is_not_marked_does_not : AwaitsCopy late (record grants { shared = false ∷ true ∷ [] }) 1 → ⊥
one_to_a_page_that_is_not_marked_does_not waits =
    let allowed : Allowed 0 0x10 ≡ Allowed waits.page waits.offset = waits.allowed in
    let first : 0 ≡ waits.page = cc in
    let no : false ≡ true = ap (λ (n : ℕ). slice_index_or (false ∷ true ∷ []) n false) first ∙ waits.shared in
    absurd cc

pub no_load_waits : AwaitsCopy (record late { cause = 8 }) grants 1 → ⊥
no_load_waits waits = let code : 2 ≡ 1 = waits.code in omega (arith, code)

pub entry_hi_has_the_page : AwaitsCopy (record late { entry_hi = 0x00401040 }) grants 1 → ⊥
entry_hi_has_the_page waits = let same : 0x401 ≡ 0x400 = waits.address in omega (arith, same)

pub no_store_is_reached_on_a_page_that_is_marked : IsGranted grants 1 Store Word 0x00400010 0x00192010 → ⊥
no_store_is_reached_on_a_page_that_is_marked granted =
    let allowed : Allowed 0 0x10 ≡ Allowed granted.page 0x10 = granted.allowed in
    let first : 0 ≡ granted.page = cc in
    let no : true ≡ false = ap (λ (n : ℕ). slice_index_or (true ∷ true ∷ []) n false) first ∙ granted.alone refl in
    absurd cc

-- The station before the copy, with the processor in a mode and with this in its coprocessor; and one that is back at 00400008.

abbrev station : CoreState → Held
station c = record { core = c; bus = bus.at_start []; kept = record kept { grants = grants }; own = record { failed = false; spent = 1; written = []; since = 0; wired = 0; tables = 0; services = 0 } }

abbrev waiting : System → Held
waiting s = station (record served { system = s })

abbrev back : List Entry → System → Held
back entries s = station (record (core_at 0x00400008 0xC03) { system = record s { status = 0xC03 }; entries = entries })

pub the_unit_begins_again_at_epc : (copied_core (waiting late).core []).pc ≡ 0x00400008
the_unit_begins_again_at_epc = refl

pub in_user_mode : (copied_core (waiting late).core []).system.status ≡ 0xC03
in_user_mode = refl

pub a_copy_loses_register_26 : slice_index (copied_core (waiting late).core []).registers.general 26 ≡ 0
a_copy_loses_register_26 = refl

pub and_register_27 : slice_index (copied_core (waiting late).core []).registers.general 27 ≡ 0x00400008
and_register_27 = refl

pub the_page_is_marked_no_more : (new : Held) → IsCopied 1 (waiting late) new → new.kept.grants.shared ≡ false ∷ true ∷ []
the_page_is_marked_no_more new copied = copied.marks

-- What is counted.

pub a_copy_is_a_service : (counts_after (waiting late)).services ≡ 1
a_copy_is_a_service = refl

pub and_no_entry_of_a_table : (counts_after (waiting late)).tables ≡ 0
and_no_entry_of_a_table = refl

pub a_double_miss_is_one : (counts_after (station nested)).tables ≡ 1
a_double_miss_is_one = refl

pub so_it_is_after_the_copy : (new : Held) → IsCopied 1 (waiting late) new → new.own.tables ≡ 0
so_it_is_after_the_copy new copied = ap (λ (o : Own). o.tables) copied.own

-- What goes back.

alike : (x y : Entry) → Some x ≡ Some y → x ≡ y
alike x y same = cc

pub a_copy_leaves_each_slot_its_page : GoesBack (waiting late) (back (page ∷ page ∷ []) late) → ⊥
a_copy_leaves_each_slot_its_page goes =
    let there = (goes.rewritten refl).0 1 other refl in
    let is : page ≡ there.0 = alike page there.0 there.1 in
    let pages : 0x400 ≡ 0x401 = ap (λ (e : Entry). e.vpn) is ∙ there.2 in
    omega (arith, pages)

-- a load of 00400010 that the table allows does not, whatever its entry was
pub a_load_that_is_granted_does_not_go_back : IsReal (waiting (record late { cause = 8 })) (back (page ∷ other ∷ []) (record late { cause = 8 })) → ⊥
a_load_that_is_granted_does_not_go_back real = elim (real.service (refl, λ none. absurd cc) refl) [
  | inl ends ↦ let owed : false ≡ true = ends.owed in absurd cc
  | inr on ↦ elim on.may [
    | inl nested ↦ (let no : true ≡ false = nested in absurd cc)
    | inr by ↦ no_load_waits by.1
  ]
]
