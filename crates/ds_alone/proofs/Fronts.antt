-- What a process does in one run is a front of what it does in the other.
use Rattle.std.proofs.Common.{◌≡◌, ◌⊎◌, ℕ, zero, suc, ◌≤◌, Bool, true, false, cond, List, [], ◌∷◌, length, refl, sym, ap, ◌∙◌, subst, arith, inl, inr}
use Rattle.std.proofs.lemmas.Bool.{cases_lt}
use Rattle.std.proofs.lemmas.Grind.{flat_map-append}
use Rattle.ds_pagemap.specs.Machine.{State, process_of}
use Rattle.ds_pagemap.specs.Unit.{unit}
use Rattle.ds_promise.proofs.Seen.{looks_like_itself}
use Rattle.ds_alone.specs.Alone.{StandsAlone, is_given_nothing, SeemsAlike}
use Rattle.ds_alone.specs.Deeds.{Deed, deed, deeds, only, is_ready, deeds_alone, AsksNothing, puts, IsFront}
use Rattle.ds_alone.proofs.Runs.{as_alone}
use Rattle.ds_alone.proofs.Silence.{waits_by}

longer : (b : Bool) (d : Deed) (xs ys : List Deed) → IsFront xs ys → IsFront (cond b (d ∷ xs) []) (cond b (d ∷ ys) [])
longer true d xs ys f = record { more = f.more; is = ap (λ (zs : List Deed). d ∷ zs) f.is }
longer false d xs ys f = record { more = []; is = refl }

-- fewer units are a front of more
pub alone_front : (p i j : ℕ) (m : State) → i ≤ j → IsFront (deeds_alone p i m) (deeds_alone p j m)
alone_front p zero j m h = record { more = deeds_alone p j m; is = refl }
alone_front p (suc i) zero m h = absurd (omega (arith, h))
alone_front p (suc i) (suc j) m h = longer (is_ready (process_of m p).standing) (deed p (only p m)) (deeds_alone p i (unit (only p m))) (deeds_alone p j (unit (only p m))) (alone_front p i j (unit (only p m)) (omega (arith, h)))

-- in a run it does what it does alone
pub run_alone : (listens : Bool) (p n k : ℕ) (m : State) → StandsAlone listens p m → AsksNothing listens p m → is_given_nothing p n k m ≡ true → deeds p n k m ≡ deeds_alone p (length (deeds p n k m)) m
run_alone listens p n k m s asks given = as_alone listens p n k m m (record { look = looks_like_itself p m s.alone.above s.alone.here; standing = refl }) (waits_by listens p m s.alone.hears) s given asks.units

pub run_front : (listens : Bool) (p n k j : ℕ) (m : State) → StandsAlone listens p m → AsksNothing listens p m → is_given_nothing p n k m ≡ true → length (deeds p n k m) ≤ j → IsFront (deeds p n k m) (deeds_alone p j m)
run_front listens p n k j m s asks given h = subst (λ (xs : List Deed). IsFront xs (deeds_alone p j m)) (sym (run_alone listens p n k m s asks given)) (alone_front p (length (deeds p n k m)) j m h)

-- in two runs the one is a front of the other
pub one_front : (listens : Bool) (p n k o j : ℕ) (m t : State) → StandsAlone listens p m → StandsAlone listens p t → SeemsAlike p m t → AsksNothing listens p m → is_given_nothing p n k m ≡ true → is_given_nothing p o j t ≡ true
    → IsFront (deeds p n k m) (deeds p o j t) ⊎ IsFront (deeds p o j t) (deeds p n k m)
one_front listens p n k o j m t here there seems asks given too = elim (cases_lt (length (deeds p n k m)) (length (deeds p o j t))) [
  | inl less ↦ inl (subst (λ (xs : List Deed). IsFront xs (deeds p o j t)) (sym one) (subst (λ (ys : List Deed). IsFront (deeds_alone p (length (deeds p n k m)) m) ys) (sym two) (alone_front p (length (deeds p n k m)) (length (deeds p o j t)) m (omega (arith, less)))))
  | inr more ↦ inr (subst (λ (xs : List Deed). IsFront xs (deeds p n k m)) (sym two) (subst (λ (ys : List Deed). IsFront (deeds_alone p (length (deeds p o j t)) m) ys) (sym one) (alone_front p (length (deeds p o j t)) (length (deeds p n k m)) m more)))
]
  where
    one : deeds p n k m ≡ deeds_alone p (length (deeds p n k m)) m
    one = run_alone listens p n k m here asks given

    two : deeds p o j t ≡ deeds_alone p (length (deeds p o j t)) m
    two = as_alone listens p o j m t seems (waits_by listens p m here.alone.hears) there too asks.units

puts_front : (xs ys : List Deed) → IsFront xs ys → IsFront (puts xs) (puts ys)
puts_front xs ys f = record { more = puts f.more; is = ap puts f.is ∙ flat_map-append (λ (d : Deed). d.puts) xs f.more }

pub puts_fronts : (listens : Bool) (p n k o j : ℕ) (m t : State) → StandsAlone listens p m → StandsAlone listens p t → SeemsAlike p m t → AsksNothing listens p m → is_given_nothing p n k m ≡ true → is_given_nothing p o j t ≡ true
    → IsFront (puts (deeds p n k m)) (puts (deeds p o j t)) ⊎ IsFront (puts (deeds p o j t)) (puts (deeds p n k m))
puts_fronts listens p n k o j m t here there seems asks given too = elim (one_front listens p n k o j m t here there seems asks given too) [
  | inl f ↦ inl (puts_front (deeds p n k m) (deeds p o j t) f)
  | inr f ↦ inr (puts_front (deeds p o j t) (deeds p n k m) f)
]
