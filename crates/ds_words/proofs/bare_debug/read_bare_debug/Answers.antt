use Rattle.std.proofs.Common.{◌≡◌, List, refl, subst, sym, map, string_bytes, true}
use Rattle.std.specs.Prelude.{IfOk, Result, Ok, Err}
use Rattle.clap.specs.Words.{App, FailsBy, HasMatchesOf, Text, fault_of, is_simple, is_simple_and_free, found_of, matches_of, rows_of}
use Rattle.clap.specs.declared.error.Error.{Error}
use Rattle.clap.specs.declared.parser.matches.ArgMatches.{ArgMatches}
use Rattle.ds_words.specs.BareDebug.{bare_debug_app}
use Rattle.ds_words.proofs.bare_debug.read_bare_debug.Goals as goal

-- the command line is simple, which is computed
simple : is_simple bare_debug_app ≡ true
simple = refl

-- and no argument of it has a rule on another
free : is_simple_and_free bare_debug_app ≡ true
free = refl

-- so what clap reads is what it says of the command line
named_by : (r : Result ArgMatches Error) (words : List Text) → IfOk r (HasMatchesOf bare_debug_app words) → IfOk r (λ matches. rows_of (found_of matches) ≡ matches_of bare_debug_app words)
named_by (Ok matches) words has = (has simple).0
named_by (Err e) words has = tt

pub returns-clause-refused : goal.returns-clause-refused
returns-clause-refused c =
    let words = map string_bytes c.args.words.now in
    let kinds = c.try_get_matches_from.ensures.kinds (subst (λ (a : App). is_simple_and_free a ≡ true) (sym c.in_ok-bare_debug_command.ensures.app) free) in
    subst (λ (a : App). FailsBy (fault_of a words) c.try_get_matches_from.result) c.in_ok-bare_debug_command.ensures.app kinds

pub returns-clause-named : goal.returns-clause-named
returns-clause-named c =
    let words = map string_bytes c.args.words.now in
    named_by c.try_get_matches_from.result words (subst (λ (a : App). IfOk c.try_get_matches_from.result (HasMatchesOf a words)) c.in_ok-bare_debug_command.ensures.app c.try_get_matches_from.ensures.matches)
