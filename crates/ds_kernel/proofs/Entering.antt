-- Who comes on the processor, and in which address space.
use Rattle.std.proofs.Common.{◌≡◌, ℕ, ◌<◌, Bool, true, false, cond, List, [], ◌∷◌, Some, refl, sym, subst, arith}
use Rattle.std.specs.Prelude.{nat_lt, if◌then◌else◌}
use Rattle.ds_tlb.specs.declared.entry.Entry.{Entry}
use Rattle.ds_tlb.specs.Entries.{empty_entries}
use Rattle.ds_core.specs.Core.{CoreState}
use Rattle.ds_pagemap.specs.Machine.{process_of, first}
use Rattle.ds_pagemap_laws.specs.Lawful.{IsReady}
use Rattle.ds_refinement.specs.Held.{Kept, space_of}
use Rattle.ds_refinement.specs.Handling.{IsSet}
use Rattle.ds_refinement.specs.Pairs.{HasNoNewPairs}
use Rattle.ds_refinement.specs.Inner.Services.{Enters, EntersBy}
use Rattle.ds_refinement.proofs.NoNewPairs.{same_pairs, flushed_pairs}
use Rattle.ds_kernel.specs.Inner.Seats.{in_space, on_processor}

-- no pair is new where a number is handed out
pub takes_pairs : {old new : List Entry} (slots next : ℕ) → new ≡ (if nat_lt next 64 then old else empty_entries slots) → HasNoNewPairs old new
takes_pairs {old} slots next is = subst (HasNoNewPairs old) (sym is) (by (nat_lt next 64))
  where
    by : (b : Bool) → HasNoNewPairs old (cond b old (empty_entries slots))
    by true = same_pairs old
    by false = flushed_pairs old slots

-- a ready process that is put on the processor, in its address space
entering_one : (p : ℕ) (before c : CoreState) (k : Kept) → IsReady k.state p → 0 < space_of k p → IsSet before.system (space_of k p) → c ≡ on_processor before (process_of k.state p) → Enters p (process_of k.state p) c k
entering_one p before c k ready number set is =
    subst (λ (x : CoreState). Enters p (process_of k.state p) x k) (sym is) (record {
      mode = refl;
      number = number;
      set = record { space = set.space; small = set.small };
      first = refl;
      pc = refl;
      next = refl;
      registers = refl;
      seat = (ready.0, ready.1);
      standing = ready.2;
    })

-- and it is the first of those that are ready
pub entering : (queue : List ℕ) (p : ℕ) (before c : CoreState) (k : Kept) → first queue ≡ Some p → IsReady k.state p → 0 < space_of k p → IsSet before.system (space_of k p) → c ≡ on_processor before (process_of k.state p) → EntersBy queue c k
entering [] p before c k some ready number set is = absurd cc
entering (q ∷ rest) p before c k some ready number set is =
    let e : p ≡ q = cc in
    subst (λ (n : ℕ). Enters n (process_of k.state n) c k) e (entering_one p before c k ready number set is)

-- EntryHi of an address space
pub set_in : (c : CoreState) (number n : ℕ) → number ≡ n → n < 64 → IsSet (in_space c number).system n
set_in c number n is small = record { space = omega (arith, is, small); small = omega (arith, is, small) }
