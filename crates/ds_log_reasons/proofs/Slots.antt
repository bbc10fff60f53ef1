-- Texts of a few pieces.
use Rattle.std.proofs.Common.{◌≡◌, ◌≢◌, ◌∙◌, refl, ap, ℕ, suc, ◌+◌, Bool, true, List, [], ◌∷◌, ◌++◌, append-nil, codes, decimal, length, length-append, arith}
use Rattle.ds_text.specs.Digits.{hex8}
use Rattle.ds_policy.specs.declared.grant.Entry.{Entry}
use Rattle.ds_log_reasons.specs.Sentences.{Placed, alone_text, at_text, command_text, mend_line, near_text, rule_number_text, or_address, slot_text}

-- what is said where an instruction is in a slot
pub in_slot : (x : Placed) (es : List Entry) (unit : ℕ) (slot : Bool) → slot ≡ true → codes ", in the slot of " ++ at_text x es unit ≡ slot_text x es unit slot
unfolding slot_text
in_slot x es unit slot is = rw is refl

-- a command
pub command_is : (n : ℕ) → codes "command " ++ (decimal n ++ codes " of the input") ≡ command_text n
unfolding command_text
command_is n = refl

-- how something is mended
pub mend_is : (words : List ℕ) → codes "    to mend: " ++ (words ++ codes "\n") ≡ mend_line words
unfolding mend_line
mend_is words = refl

-- the nearest entry
pub near_is : (policy : List ℕ) (e : Entry) → codes "no rule; the nearest entry is at " ++ (hex8 e.address ++ (codes ", by " ++ rule_number_text policy e.grant.rule)) ≡ near_text policy e
unfolding near_text
near_is policy e = refl

-- no entry
pub alone_is : codes "no rule; the process has no entry at all" ≡ alone_text
unfolding alone_text
alone_is = refl

-- where no place was added, the address is
pub no_place : (old place new last : List ℕ) (pc : ℕ) → new ≡ old ++ place → length new ≡ length old → last ≡ new ++ hex8 pc → last ≡ old ++ or_address pc place
no_place old [] new last pc adds same more = more ∙ ap (λ (l : List ℕ). l ++ hex8 pc) (adds ∙ append-nil old)
no_place old (x ∷ xs) new last pc adds same more =
    let long : length new ≡ length old + suc (length xs) = ap length adds ∙ length-append old (x ∷ xs) in
    absurd (omega (arith, long, same))

-- where one was, nothing more is
pub some_place : (old place new : List ℕ) (pc : ℕ) → new ≡ old ++ place → length new ≢ length old → new ≡ old ++ or_address pc place
some_place old [] new pc adds other = absurd (other (ap length (adds ∙ append-nil old)))
some_place old (x ∷ xs) new pc adds other = adds
