use Rattle.std.proofs.Common.{◌∙◌, sym}
use Rattle.std.specs.Str.Parse.{ParsesUnsigned, ExplainsUnsignedError, HasUnsignedDigitsIfOk}
use Rattle.clap.specs.Words.{found_of}
use Rattle.clap.proofs.WalkLemmas.{first_value-rows}
use Rattle.ds_words.proofs.Requests.{word_found, word_wanting, number_found, number_wanting}
use Rattle.ds_words.proofs.words.bare_start_of.Goals as goal

pub returns-clause-some : goal.returns-clause-some
returns-clause-some c =
    let found = found_of c.args.found.now in
    record {
      source = word_found found _ c.get_str.result c.in_ok-get_str.field-0 c.get_str.ensures c.in_ok-get_str.was;
      most = number_found (λ bs r. ParsesUnsigned 32 10 bs r × ExplainsUnsignedError 10 bs r × HasUnsignedDigitsIfOk bs r) 32 found _ c.get_one.result _ (λ t x g. g.0) c.get_one.ensures.none (λ t e. c.get_one.ensures.value t e) c.in_ok-get_one.was;
      random = number_found (λ bs r. ParsesUnsigned 8 10 bs r × ExplainsUnsignedError 10 bs r × HasUnsignedDigitsIfOk bs r) 8 found _ c.get_one-2.result _ (λ t x g. g.0) c.get_one-2.ensures.none (λ t e. c.get_one-2.ensures.value t e) c.in_ok-get_one-2.was;
      keys = sym (first_value-rows found _) ∙ sym c.get_str-2.ensures;
    }

pub returns-in_err-get_str-clause-none : goal.returns-in_err-get_str-clause-none
returns-in_err-get_str-clause-none c is request names = word_wanting (found_of c.args.found.now) _ _ c.get_str.result c.get_str.ensures c.in_err-get_str.was names.source

pub returns-in_err-get_one-clause-none : goal.returns-in_err-get_one-clause-none
returns-in_err-get_one-clause-none c is request names =
    number_wanting (λ bs r. ParsesUnsigned 32 10 bs r × ExplainsUnsignedError 10 bs r × HasUnsignedDigitsIfOk bs r) 32 (found_of c.args.found.now) _ c.get_one.result _ (λ t x g. g.0) (λ t e. c.get_one.ensures.value t e) c.in_err-get_one.was names.most

pub returns-in_err-get_one-2-clause-none : goal.returns-in_err-get_one-2-clause-none
returns-in_err-get_one-2-clause-none c is request names =
    number_wanting (λ bs r. ParsesUnsigned 8 10 bs r × ExplainsUnsignedError 10 bs r × HasUnsignedDigitsIfOk bs r) 8 (found_of c.args.found.now) _ c.get_one-2.result _ (λ t x g. g.0) (λ t e. c.get_one-2.ensures.value t e) c.in_err-get_one-2.was names.random
