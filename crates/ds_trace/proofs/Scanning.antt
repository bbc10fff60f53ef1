-- Lines of a text, as they are lent.
use Rattle.std.proofs.Common.{◌≡◌, ℕ, Bool, List, [], ◌∷◌, map, Bor, ap, refl, bytes_eq}
use Rattle.std.specs.Prelude.{◌||◌}
use Rattle.std.specs.List.{list_any}
use Rattle.ds_trace.specs.Logs.{is_among}

abbrev pub seen : List (Bor (List ℕ)) → List (List ℕ)
seen ls = map (λ (l : Bor (List ℕ)). l.now) ls

pub any_seen : (rule : List ℕ) (ls : List (Bor (List ℕ))) → list_any (λ (r : Bor (List ℕ)). bytes_eq r.now rule) ls ≡ is_among rule (seen ls)
any_seen rule [] = refl
any_seen rule (l ∷ ls) = ap (λ (b : Bool). bytes_eq l.now rule || b) (any_seen rule ls)
