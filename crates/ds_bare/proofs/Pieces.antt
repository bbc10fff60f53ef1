-- A text with three or four pieces more.
use Rattle.std.proofs.Common.{◌≡◌, ◌∙◌, ap, ℕ, List, ◌++◌, append_assoc}

pub four_pieces : (t a b c d t1 t2 t3 t4 : List ℕ) → t1 ≡ t ++ a → t2 ≡ t1 ++ b → t3 ≡ t2 ++ c → t4 ≡ t3 ++ d → t4 ≡ t ++ (a ++ b ++ c ++ d)
four_pieces t a b c d t1 t2 t3 t4 e1 e2 e3 e4 =
    e4 ∙ (ap (λ x. x ++ d) (e3 ∙ ap (λ x. x ++ c) (e2 ∙ ap (λ x. x ++ b) e1))
    ∙ (ap (λ x. (x ++ c) ++ d) (append_assoc t a b) ∙ (ap (λ x. x ++ d) (append_assoc t (a ++ b) c) ∙ append_assoc t ((a ++ b) ++ c) d)))

pub three_pieces : (t a b c t1 t2 t3 : List ℕ) → t1 ≡ t ++ a → t2 ≡ t1 ++ b → t3 ≡ t2 ++ c → t3 ≡ t ++ (a ++ b ++ c)
three_pieces t a b c t1 t2 t3 e1 e2 e3 =
    e3 ∙ (ap (λ x. x ++ c) (e2 ∙ ap (λ x. x ++ b) e1) ∙ (ap (λ x. x ++ c) (append_assoc t a b) ∙ append_assoc t (a ++ b) c))
