-- Paths of real steps on which nobody is about to run from an address that is marked.
use Rattle.std.specs.Prelude.{◌≡◌, ◌≢◌, ◌⊎◌, Bool, List, [], ◌∷◌, None}
use Rattle.ds_ahead.specs.Inner.Stops.{IsClear, IsStop}
use Rattle.ds_refinement.specs.Held.{Held}
use Rattle.ds_refinement.specs.Real.{Through}

-- between two turns, whoever runs next is at no address that may be marked
abbrev pub IsClearOf : List Bool → Held → Type 0
IsClearOf marks h = h.kept.state.owed ≡ None → h.own.spent ≡ 0 → h.kept.state.ready ≢ [] → IsClear marks h.core

-- it is so, or it is where the path began
abbrev pub IsMet : List Bool → Held → Held → Type 0
IsMet marks old h = (h ≡ old) ⊎ IsClearOf marks h

-- each of these is met so
abbrev pub AreMet : List Bool → Held → List Held → Type 0
AreMet marks old [] = Unit {0}
AreMet marks old (h ∷ rest) = IsMet marks old h × AreMet marks old rest

-- a path of real steps, each from where it began or from where it is clear
pub record ClearPath (marks : List Bool) (old new : Held) : Type 0 where
  pub path : List Held
  pub through : Through old path new
  pub met : AreMet marks old path

-- between two turns, whoever runs next is at an address that may be marked
pub record IsAtStop (marks : List Bool) (h : Held) : Type 0 where
  pub whole : h.kept.state.owed ≡ None
  pub rests : h.own.spent ≡ 0
  pub ready : h.kept.state.ready ≢ []
  pub stop : IsStop marks h.core
