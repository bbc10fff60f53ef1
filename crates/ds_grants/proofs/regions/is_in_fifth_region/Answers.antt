use Rattle.std.proofs.Common.{◌≡◌, ◌∙◌, sym, ap, refl, arith, ℕ, [], false, true, length, ◌<◌, ◌==◌}
use Rattle.std.specs.List.{list_any}
use Rattle.std.proofs.lemmas.Bool.Decides.{nat_tests}
use Rattle.ds_grants.proofs.RegionsSeen.{seen_first, seen_last, seen_already, seen_new, seen_fifth}
use Rattle.ds_grants.proofs.regions.is_in_fifth_region.Goals as goal
use Rattle.ds_grants.proofs.regions.is_in_fifth_region.Goals.{then-not-is_among+else-is_full, else-not-is_among}

pub loop-entry-init : goal.loop-entry-init
loop-entry-init c =
    let all : c.push.new.self.items ≡ _ = c.push.ensures.items in
    rw (all, c.new-regions.ensures, c.region_of-last.ensures) (record {
      seen = seen_first c.args.addr c.args.entries.now;
      last = seen_last _ [];
    })

pub returns-then-is_full : goal.returns-then-is_full
returns-then-is_full c =
    let r : ℕ = c.region_of-region.result in
    let new : list_any (λ b. b == r) c.loop-entry.regions.items ≡ false = sym (ap (λ xs. list_any (λ b. b == r) xs) c.as_slice.ensures.value) ∙ sym c.is_among.ensures ∙ c.if-not-is_among.true in
    let full : length c.loop-entry.regions.items ≡ 4 = (let e = c.is_full.ensures.value in let t = c.if-is_full.true in grind (arith, nat_tests)) in
    sym (seen_fifth c.args.addr c.args.entries.now c.loop-entry.entry-index r _ c.loop-entry.regions.items (omega arith) c.region_of-region.ensures new full c.loop-entry.invariant.seen)

pub loop-entry-preserved : goal.loop-entry-preserved
loop-entry-preserved c =
    let r : ℕ = c.region_of-region.result in
    let within : c.loop-entry.entry-index < length c.args.entries.now = omega arith in
    elim c.if-not-is_among.branch [
      | then-not-is_among+else-is_full w ↦
          let new : list_any (λ b. b == r) c.loop-entry.regions.items ≡ false = sym (ap (λ xs. list_any (λ b. b == r) xs) c.as_slice.ensures.value) ∙ sym c.is_among.ensures ∙ w.if-not-is_among.true in
          let few = c.loop-entry.invariant.seen.few in
          let room : length c.loop-entry.regions.items < 4 = (let e = w.is_full.ensures.value in let t = w.if-is_full.false in grind (arith, nat_tests)) in
          rw (w.regions-is, w.last-is, w.push-then-not-is_among.ensures.items) (record { seen = seen_new c.args.addr c.args.entries.now c.loop-entry.entry-index r _ c.loop-entry.regions.items within c.region_of-region.ensures new room c.loop-entry.invariant.seen; last = seen_last r c.loop-entry.regions.items })
      | else-not-is_among w ↦
          let there : list_any (λ b. b == r) c.loop-entry.regions.items ≡ true = sym (ap (λ xs. list_any (λ b. b == r) xs) c.as_slice.ensures.value) ∙ sym c.is_among.ensures ∙ w.if-not-is_among.false in
          rw (w.regions-is, w.last-is) (record { seen = seen_already c.args.addr c.args.entries.now c.loop-entry.entry-index r _ c.loop-entry.regions.items within c.region_of-region.ensures there c.loop-entry.invariant.seen; last = there })
    ]
