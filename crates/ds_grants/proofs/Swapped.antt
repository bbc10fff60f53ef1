-- An address that goes, where the last one comes into its place.
use Rattle.std.proofs.Common.{◌≡◌, ◌≢◌, ℕ, suc, ◌-◌, ◌<◌, Bool, false, List, [], ◌∷◌, length, get_or, set, position, Option, Some, None, refl, sym, ap, ◌∙◌, inl, inr, arith}
use Rattle.std.specs.List.{swap_remove}
use Rattle.std.proofs.lemmas.Bool.{cases_eq, cases_lt}
use Rattle.std.proofs.lemmas.List.{length-set, length-take-le, get_or-take, get_or-set_same, get_or-set_other}
use Rattle.std.proofs.lemmas.List.Elements.{All-take, All-set, All-get_or}
use Rattle.std.proofs.lemmas.List.Quantifiers.{position-Some}
use Rattle.ds_policy.proofs.Rows.{other_default}
use Rattle.ds_grants.specs.declared.origins.Origin.{Origin}
use Rattle.ds_grants.specs.Inner.Origins.{of_others, receivers_in, slot_of, AreSeen, AreApart}
use Rattle.ds_grants.proofs.FifthRegion.{same_number}
use Rattle.ds_grants.proofs.Known.{is_at, known_at, unknown_at, none_at_place}
use Rattle.ds_grants.proofs.Seen.{known_there}

at_place : (known : List Origin) (overflowed : Bool) (a k : ℕ) (d : Origin) → AreApart known → k < length known → (get_or known k d).address ≡ a
    → receivers_in known overflowed a ≡ (get_or known k d).receivers
at_place known overflowed a k d apart inside at =
    let found = position-Some (is_at a) known k d (known_there known a k d apart inside at) in
    known_at known overflowed a k d found.0 found.1 found.2

nowhere : (known : List Origin) (overflowed : Bool) (a : ℕ) (d : Origin) → ((k : ℕ) → k < length known → is_at a (get_or known k d) ≡ false)
    → receivers_in known overflowed a ≡ of_others overflowed
nowhere [] overflowed a d none = refl
nowhere (o ∷ rest) overflowed a d none =
    let other : is_at a o ≡ false = none 0 (omega arith) in
    rw other (nowhere rest overflowed a d (λ k inside. none (suc k) (omega (arith, inside))))

module _ (known : List Origin) (i : ℕ) (d : Origin) (inside : i < length known) where
  abbrev pub left : List Origin
  left = swap_remove known i d

  abbrev last : ℕ
  last = length known - 1

  abbrev moved : List Origin
  moved = set known i (get_or known last d)

  long : length left ≡ last
  long = length-take-le last moved (omega (arith, length-set known i (get_or known last d)))

  -- another stands where it stood
  stays : (k : ℕ) (e : Origin) → k < last → k ≢ i → get_or left k e ≡ get_or known k e
  stays k e low other = get_or-take last moved k e low ∙ get_or-set_other known i k (get_or known last d) e other

  -- the last one stands in the place of the one that went
  comes : (k : ℕ) (e : Origin) → k < last → k ≡ i → get_or left k e ≡ get_or known last e
  comes k e low here =
      get_or-take last moved k e low
      ∙ ap (λ (n : ℕ). get_or moved n e) here
      ∙ get_or-set_same known i (get_or known last d) e inside
      ∙ other_default known last d e (omega (arith, inside))

  pub apart_left : AreApart known → AreApart left
  apart_left apart j k e less within = λ alike.
      let short : k < last = omega (arith, long, within) in
      elim (cases_eq j i) [
        | inl first ↦
            apart k last e short (omega (arith, inside))
            (sym (ap (λ (o : Origin). o.address) (stays k e short (λ same. omega (arith, same, first, less))))
            ∙ sym alike ∙ ap (λ (o : Origin). o.address) (comes j e (omega (arith, less, short)) first))
        | inr other ↦
            let one = ap (λ (o : Origin). o.address) (stays j e (omega (arith, less, short)) other) in
            elim (cases_eq k i) [
              | inl second ↦ apart j last e (omega (arith, less, short)) (omega (arith, inside)) (sym one ∙ alike ∙ ap (λ (o : Origin). o.address) (comes k e short second))
              | inr neither ↦ apart j k e less (omega (arith, short)) (sym one ∙ alike ∙ ap (λ (o : Origin). o.address) (stays k e short neither))
            ]
      ]

  -- of another address nothing is lost
  pub others_left : (overflowed : Bool) (a b : ℕ) → AreApart known → (get_or known i d).address ≡ a → b ≢ a
      → receivers_in left overflowed b ≡ receivers_in known overflowed b
  others_left overflowed a b apart at other = by (position (is_at b) known) refl
    where
      by : (o : Option ℕ) → position (is_at b) known ≡ o → receivers_in left overflowed b ≡ receivers_in known overflowed b
      by None none =
          nowhere left overflowed b d (λ k within.
          let short : k < last = omega (arith, long, within) in
          elim (cases_eq k i) [
            | inl here ↦ ap (is_at b) (comes k d short here) ∙ none_at_place known b last d none (omega (arith, inside))
            | inr there ↦ ap (is_at b) (stays k d short there) ∙ none_at_place known b k d none (omega (arith, short))
          ])
          ∙ sym (unknown_at known overflowed b none)
      by (Some j) is =
          let found = position-Some (is_at b) known j d is in
          let there : (get_or known j d).address ≡ b = same_number (get_or known j d).address b found.1 in
          let within : j < length known = found.0 in
          let apart_from : j ≢ i = λ same. other (sym there ∙ ap (λ (n : ℕ). (get_or known n d).address) same ∙ at) in
          let old = known_at known overflowed b j d found.0 found.1 found.2 in
          elim (cases_lt j last) [
            | inl early ↦
                let same = stays j d early apart_from in
                at_place left overflowed b j d (apart_left apart) (omega (arith, long, early)) (ap (λ (o : Origin). o.address) same ∙ there)
                ∙ ap (λ (o : Origin). o.receivers) same ∙ sym old
            | inr late ↦
                elim (cases_lt i last) [
                  | inl low ↦
                      let is_last : last ≡ j = omega (arith, late, within) in
                      let same : get_or left i d ≡ get_or known j d = comes i d low refl ∙ ap (λ (n : ℕ). get_or known n d) is_last in
                      at_place left overflowed b i d (apart_left apart) (omega (arith, long, low)) (ap (λ (o : Origin). o.address) same ∙ there)
                      ∙ ap (λ (o : Origin). o.receivers) same ∙ sym old
                  | inr high ↦ absurd (apart_from (omega (arith, late, within, high, inside)))
                ]
          ]

  pub seen_left : (places : List ℕ) → AreSeen places known → AreSeen places left
  seen_left places all =
      let P = λ (x : Origin). 0 < get_or places (slot_of x.address) 1 in
      All-take P last moved (All-set P known i (get_or known last d) (All-get_or P known last d (omega (arith, inside)) all) all)
