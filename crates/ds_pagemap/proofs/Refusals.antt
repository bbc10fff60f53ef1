-- What a change that may be refused keeps of the table: nothing is changed where it is refused.
use Rattle.std.proofs.Common.{◌≡◌, ℕ, ◌<◌, nat_lt, not, ◌&&◌, Bool, true, false, if◌then◌else◌, Option, Some, None, Result, Ok, Err, refl, sym, ltb-true}
use Rattle.ds_policy.specs.Pages.{Table}
use Rattle.ds_policy.specs.Grants.{PageState, ◌or_else◌, refused}
use Rattle.ds_pagemap.specs.Machine.{State, lives}

-- What holds of the table.
module _ (P : Table → Type 0) where
  -- it holds of the table that a change leaves, if it is done
  abbrev pub IfDone : Result PageState ℕ → Type 0
  IfDone (Ok s) = P s.table
  IfDone (Err number) = Unit {0}

  pub if_or_else : (o : Option ℕ) (r : Result PageState ℕ) → IfDone r → IfDone (o or_else r)
  if_or_else None r k = k
  if_or_else (Some number) r k = tt

  pub if_unless : (number : ℕ) (bad : Bool) (r : Result PageState ℕ) → (bad ≡ false → IfDone r) → IfDone (refused number bad or_else r)
  if_unless number true r k = tt
  if_unless number false r k = k refl

  pub if_either : (test : Bool) (s t : PageState) → P s.table → P t.table → P (if test then s else t).table
  if_either true s t k l = k
  if_either false s t k l = l

pub not_true : (b : Bool) → not b ≡ false → b ≡ true
not_true true e = refl
not_true false e = sym e

-- where a process lives, its number is not 0
pub alive_above : (m : State) (p : ℕ) → not (lives m p) ≡ false → 0 < p
alive_above m p e = ltb-true 0 p (front (nat_lt 0 p) _ (not_true (lives m p) e))
  where
    front : (a b : Bool) → (a && b) ≡ true → a ≡ true
    front true b e = refl
    front false b e = e
