-- Random after so many instructions in closed form, where it goes round and where it does not.
use Rattle.std.proofs.Common.{◌≡◌, ℕ, zero, suc, ◌+◌, ◌-◌, ◌%◌, ◌<◌, ◌≤◌, refl, sym, ap, ◌∙◌, arith, inl, inr}
use Rattle.std.proofs.lemmas.Bool.{cases_lt, ne_eqb, eq-eqb}
use Rattle.std.proofs.Math.Nat.{suc-mod, mod-eq_of_lt, mod_self, mod-lt}
use Rattle.ds_tlb.specs.Entries.{random_after}
use Rattle.ds_tlb.specs.Inner.Entries.{passed}

-- above the first free slot a tick is one place down
down : (slots wired random : ℕ) → wired < random → random_after slots wired random ≡ random - 1
down slots wired random above = rw (ne_eqb random wired (λ is. absurd (omega (arith, above, is)))) refl

-- as long as the places last, each tick is one place down
pub passed_above : (slots wired above n : ℕ) → n ≤ above → passed slots wired n (wired + above) ≡ wired + (above - n)
passed_above slots wired above zero within = omega arith
passed_above slots wired above (suc n) within =
    let before : passed slots wired n (wired + above) ≡ wired + (above - n) = passed_above slots wired above n (omega (arith, within)) in
    ap (random_after slots wired) before ∙ (down slots wired (wired + (above - n)) (omega (arith, within)) ∙ omega (arith, within))

-- at the first free slot it is up to the last
up : (slots wired random : ℕ) → random ≡ wired → random_after slots wired random ≡ slots - 1
up slots wired random is = rw (eq-eqb random wired is) refl

-- a tick of a count that went round: it goes on modulo the number of places
round : (wired places k : ℕ) → 0 < places → random_after (wired + places) wired (wired + (places - 1 - k % places)) ≡ wired + (places - 1 - suc k % places)
round wired places k some =
    let small : k % places < places = mod-lt k some in
    let next : suc k % places ≡ suc (k % places) % places = suc-mod k places in
    elim (cases_lt (suc (k % places)) places) [
      | inl before ↦
          let rest : suc k % places ≡ suc (k % places) = next ∙ mod-eq_of_lt before in
          down (wired + places) wired (wired + (places - 1 - k % places)) (omega (arith, before)) ∙ omega (arith, before, rest)
      | inr past ↦
          let last : suc (k % places) ≡ places = omega (arith, past, small) in
          let rest : suc k % places ≡ 0 = next ∙ (ap (λ (m : ℕ). m % places) last ∙ mod_self places) in
          up (wired + places) wired (wired + (places - 1 - k % places)) (omega (arith, last)) ∙ omega (arith, rest, some)
    ]

-- where there are more ticks than places below it, it goes round
pub passed_below : (wired places above n : ℕ) → above < places → above < n → passed (wired + places) wired n (wired + above) ≡ wired + (places - 1 - (n - above - 1) % places)
passed_below wired places above zero some past = absurd (omega (arith, past))
passed_below wired places above (suc n) some past = elim (cases_lt above n) [
  | inl before ↦
      let here : passed (wired + places) wired n (wired + above) ≡ wired + (places - 1 - (n - above - 1) % places) = passed_below wired places above n some before in
      let same : suc (n - above - 1) ≡ suc n - above - 1 = omega (arith, before) in
      ap (random_after (wired + places) wired) here ∙ (round wired places (n - above - 1) (omega (arith, some))
      ∙ ap (λ (k : ℕ). wired + (places - 1 - k % places)) same)
  | inr afterwards ↦
      let last : n ≡ above = omega (arith, afterwards, past) in
      let here : passed (wired + places) wired n (wired + above) ≡ wired = passed_above (wired + places) wired above n (omega (arith, last)) ∙ omega (arith, last) in
      let none : suc n - above - 1 ≡ 0 = omega (arith, last) in
      let zeroth : 0 % places ≡ 0 = mod-eq_of_lt (omega (arith, some)) in
      let rest : (suc n - above - 1) % places ≡ 0 = ap (λ (k : ℕ). k % places) none ∙ zeroth in
      ap (random_after (wired + places) wired) here ∙ (up (wired + places) wired wired refl ∙ omega (arith, rest, some))
]

-- the same over the number of slots
pub passed_round : (slots wired above n : ℕ) → wired + above < slots → above < n → passed slots wired n (wired + above) ≡ wired + (slots - wired - 1 - (n - above - 1) % (slots - wired))
passed_round slots wired above n high past =
    let same : wired + (slots - wired) ≡ slots = omega (arith, high) in
    ap (λ (s : ℕ). passed s wired n (wired + above)) (sym same) ∙ passed_below wired (slots - wired) above n (omega (arith, high)) past
