use Rattle.std.specs.Str.Parse.{ParsesUnsigned, ExplainsUnsignedError, HasUnsignedDigitsIfOk}
use Rattle.clap.specs.Words.{found_of}
use Rattle.ds_words.proofs.Requests.{given_found, given_wanting}
use Rattle.ds_words.proofs.words.large_of.Goals as goal

pub returns-clause-some : goal.returns-clause-some
returns-clause-some c =
    given_found (λ bs r. ParsesUnsigned 64 10 bs r × ExplainsUnsignedError 10 bs r × HasUnsignedDigitsIfOk bs r) 64 (found_of c.args.found.now) _ c.try_get_one.result c.ok.result (λ t x g. g.0) c.try_get_one.ensures.none (λ t e. c.try_get_one.ensures.value t e) c.ok.ensures.value

pub returns-clause-none : goal.returns-clause-none
returns-clause-none c wanting given is =
    given_wanting (λ bs r. ParsesUnsigned 64 10 bs r × ExplainsUnsignedError 10 bs r × HasUnsignedDigitsIfOk bs r) 64 (found_of c.args.found.now) _ c.try_get_one.result c.ok.result given (λ t x g. g.0) c.try_get_one.ensures.none (λ t e. c.try_get_one.ensures.value t e) c.ok.ensures.value wanting is
