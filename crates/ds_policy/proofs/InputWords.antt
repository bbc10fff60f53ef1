-- How many words of a line tell what it says.
use Rattle.std.proofs.Common.{◌≡◌, refl, ℕ, List, [], ◌∷◌, take}
use Rattle.ds_policy.specs.declared.policy.PolicyPage.{PolicyPage}
use Rattle.ds_policy.specs.InputLines.{keys_of, grant_command_of, command_of, timed_event_of}

-- an event has at most seven words, so that eight are too many, like any more
pub eight_words_tell : (pages : List PolicyPage) (words : List (List ℕ)) → timed_event_of pages (take 8 words) ≡ timed_event_of pages words
unfolding keys_of grant_command_of command_of timed_event_of
eight_words_tell pages [] = refl
eight_words_tell pages (t ∷ []) = refl
eight_words_tell pages (t ∷ verb ∷ []) = refl
eight_words_tell pages (t ∷ verb ∷ p ∷ []) = refl
eight_words_tell pages (t ∷ verb ∷ p ∷ a ∷ []) = refl
eight_words_tell pages (t ∷ verb ∷ p ∷ a ∷ name ∷ []) = refl
eight_words_tell pages (t ∷ verb ∷ p ∷ a ∷ name ∷ r ∷ []) = refl
eight_words_tell pages (t ∷ verb ∷ p ∷ a ∷ name ∷ r ∷ give ∷ []) = refl
eight_words_tell pages (t ∷ verb ∷ p ∷ a ∷ name ∷ r ∷ give ∷ more ∷ rest) = refl
