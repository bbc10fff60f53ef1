-- Pieces that are added one after another.
use Rattle.std.proofs.Common.{◌≡◌, ◌∙◌, ℕ, List, ◌++◌, append_assoc, ap}

-- three of them
pub three_added : (old one two new a b d : List ℕ) → one ≡ old ++ a → two ≡ one ++ b → new ≡ two ++ d → new ≡ old ++ (a ++ (b ++ d))
three_added old one two new a b d first second third =
    third ∙ (ap (λ (l : List ℕ). l ++ d) (second ∙ ap (λ (l : List ℕ). l ++ b) first) ∙ (append_assoc (old ++ a) b d ∙ append_assoc old a (b ++ d)))
