-- What the words of a session with a debugger over the bare machine ask for.
use Rattle.std.specs.Prelude.{◌≡◌, Bool, true, false, ◌&&◌, bytes_eq, codes, List, [], ◌∷◌}
use Rattle.clap.specs.Words.{App, Text, fault_of, matches_of, new_app, with_rule}
use Rattle.ds_words.specs.Words.{NamesBareStart, keys_rule, random_rule, required_rule, time_rule}
use Rattle.ds_words.specs.declared.words.BareStart.{BareStart}

-- `debug --bare SOURCE N [--random R] [--keys INPUT]`, of which these are the words from `--bare` on
abbrev pub bare_debug_app : App
bare_debug_app = with_rule (with_rule (with_rule (with_rule (new_app (codes "dsmon debug --bare"))
    (required_rule (codes "SOURCE"))) time_rule) random_rule) keys_rule

-- after the program's own name stand `debug` and `--bare`
abbrev pub is_bare_debug : List Text → Bool
is_bare_debug [] = false
is_bare_debug (program ∷ []) = false
is_bare_debug (program ∷ debug ∷ []) = false
is_bare_debug (program ∷ debug ∷ bare ∷ rest) = bytes_eq debug (codes "debug") && bytes_eq bare (codes "--bare")

-- the words from the third on
abbrev pub from_third : List Text → List Text
from_third [] = []
from_third (program ∷ []) = []
from_third (program ∷ debug ∷ rest) = rest

-- clap takes the words after `debug`, and they ask for a session with a debugger over a run on the bare machine that starts so
pub record AsksForBareDebug (words : List Text) (start : BareStart) : Type 0 where
  pub is : is_bare_debug words ≡ true
  pub taken : fault_of bare_debug_app (from_third words) ≡ []
  pub names : NamesBareStart (matches_of bare_debug_app (from_third words)) start
