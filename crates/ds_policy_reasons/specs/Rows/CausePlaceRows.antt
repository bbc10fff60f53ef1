-- Worked places of what is wrong with a line of an input.
use Rattle.std.specs.Prelude.{codes, refl, ◌≡◌, [], ◌∷◌, map, None, Some}
use Rattle.ds_policy.specs.declared.events.cause.InputCause.TheVariants.{CarriageReturn, Tab, BlankAtStart, BlankAtEnd, TwoBlanks, BadTime, UnknownEvent, WordCount, BadProcess, BadAddress, UnknownPage, BadRight, BadGive, BadLine, BadBytes, EarlierTime, TooManyEvents}
use Rattle.ds_policy_reasons.specs.CausePlaces.{cause_place}

-- each word of a grant, and the time where it is earlier
pub places_of_words : map (λ why. cause_place why (codes "7 grant 1 410000 dat rd yes")) (BadTime ∷ UnknownEvent ∷ BadProcess ∷ BadAddress ∷ UnknownPage ∷ BadRight ∷ BadGive ∷ EarlierTime ∷ [])
    ≡ Some 0 ∷ Some 2 ∷ Some 8 ∷ Some 10 ∷ Some 17 ∷ Some 21 ∷ Some 24 ∷ Some 0 ∷ []
places_of_words = refl

-- the line and the bytes of characters
pub places_of_characters : map (λ why. cause_place why (codes "5 key 10 4")) (BadLine ∷ BadBytes ∷ []) ≡ Some 6 ∷ Some 9 ∷ []
places_of_characters = refl

-- of several that stand wrong the first is told, but at the end the last
pub places_of_blanks : map (λ why. cause_place why (codes " 5  key\t0  41\t\r ")) (CarriageReturn ∷ Tab ∷ BlankAtStart ∷ BlankAtEnd ∷ TwoBlanks ∷ [])
    ≡ Some 14 ∷ Some 7 ∷ Some 0 ∷ Some 15 ∷ Some 2 ∷ []
places_of_blanks = refl

-- a word that is missing stands nowhere, nor does an event too many
pub counts_have_no_place : map (λ why. cause_place why (codes "7 stop")) (WordCount ∷ TooManyEvents ∷ BadProcess ∷ []) ≡ None ∷ None ∷ None ∷ []
counts_have_no_place = refl
