-- Keys of a map beside the members that it stands for.
use Rattle.std.proofs.Common.{◌≡◌, ℕ, Bool, ◌&&◌, ◌||◌, List, [], ◌∷◌, map, string_bytes, refl, ap}
use Rattle.std.specs.List.{list_all, list_any}
use Rattle.std.specs.Map.{keys_of}
use Rattle.toml.specs.View.{members_view}
use Rattle.toml.proofs.Views.{Entry}
use Rattle.ds_policy.specs.Document.{is_among, has_only}

pub any_map : {A B : Type 0} (p : B → Bool) (f : A → B) (xs : List A) → list_any (λ x. p (f x)) xs ≡ list_any p (map f xs)
any_map p f [] = refl
any_map p f (x ∷ xs) = ap (λ b. p (f x) || b) (any_map p f xs)

pub all_seen : (ks : List (List ℕ)) (es : List Entry) → list_all (λ k. is_among ks (string_bytes k)) (keys_of es) ≡ has_only ks (members_view es)
all_seen ks [] = refl
all_seen ks (e ∷ es) = ap (λ b. is_among ks (string_bytes e.0) && b) (all_seen ks es)
