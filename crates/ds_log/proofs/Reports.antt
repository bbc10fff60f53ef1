-- The text of a state goes out part by part.
use Rattle.std.proofs.Common.{◌≡◌, ℕ, List, [], ◌++◌, sym, ap, append_assoc, map, Bor}
use Rattle.std.proofs.Math.ListN.{get_or, get_or-map}
use Rattle.ds_log.specs.Report.{console_text, console_at, log_text, report_text}

-- five texts, from the left and from the right
five : (a b c d e : List ℕ) → a ++ (b ++ (c ++ (d ++ e))) ≡ (((a ++ b) ++ c) ++ d) ++ e
five a b c d e = simp append_assoc

-- a console that is lent
abbrev pub lent_at : List (Bor (List ℕ)) → ℕ → List ℕ
lent_at cs l = console_text l (get_or cs l record { ref_ptr = (0, 0); now = [] }).now

lent-console_at : (cs : List (Bor (List ℕ))) (l : ℕ) → lent_at cs l ≡ console_at (map (λ c. c.now) cs) l
lent-console_at cs l = ap (console_text l) (sym (get_or-map (λ (c : Bor (List ℕ)). c.now) cs l record { ref_ptr = (0, 0); now = [] }))

-- the report of consoles that are lent, from the right
pub report_from_right : (cs : List (Bor (List ℕ))) (lines : ℕ) (log : List ℕ) (time : ℕ) → lent_at cs 0 ++ (lent_at cs 1 ++ (lent_at cs 2 ++ (lent_at cs 3 ++ log_text lines log time))) ≡ report_text (map (λ c. c.now) cs) lines log time
unfolding report_text
report_from_right cs lines log time =
    rw (lent-console_at cs 0, lent-console_at cs 1, lent-console_at cs 2, lent-console_at cs 3)
    (five (console_at (map (λ c. c.now) cs) 0) (console_at (map (λ c. c.now) cs) 1) (console_at (map (λ c. c.now) cs) 2) (console_at (map (λ c. c.now) cs) 3) (log_text lines log time))
