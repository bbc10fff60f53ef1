-- Worked rows of words that debug the bare machine.
use Rattle.std.specs.Prelude.{◌≡◌, codes, false, true, [], ◌∷◌, refl}
use Rattle.ds_words.specs.BareDebug.{from_third, is_bare_debug}

pub a_session_over_the_bare_machine : is_bare_debug (codes "dsmon" ∷ codes "debug" ∷ codes "--bare" ∷ codes "a.s" ∷ codes "9" ∷ []) ≡ true
a_session_over_the_bare_machine = refl

pub a_session_over_a_policy : is_bare_debug (codes "dsmon" ∷ codes "debug" ∷ codes "p.toml" ∷ codes "i" ∷ codes "9" ∷ []) ≡ false
a_session_over_a_policy = refl

pub its_words_are_read_from_the_third_on : from_third (codes "dsmon" ∷ codes "debug" ∷ codes "--bare" ∷ codes "a.s" ∷ []) ≡ codes "--bare" ∷ codes "a.s" ∷ []
its_words_are_read_from_the_third_on = refl
