use Rattle.std.proofs.Common.{◌∙◌}
use Rattle.std.specs.Str.Parse.{ParsesUnsigned, ExplainsUnsignedError, HasUnsignedDigitsIfOk}
use Rattle.clap.specs.Words.{found_of}
use Rattle.clap.proofs.WalkLemmas.{one_text-rows}
use Rattle.ds_words.proofs.Requests.{word_found, word_wanting, number_found, number_wanting}
use Rattle.ds_words.proofs.words.request_of.Goals as goal

pub returns-clause-some : goal.returns-clause-some
returns-clause-some c =
    let found = found_of c.args.found.now in
    record {
      policy = word_found found _ c.get_str.result c.in_ok-get_str.field-0 c.get_str.ensures c.in_ok-get_str.was;
      input = word_found found _ c.get_str-2.result c.in_ok-get_str-2.field-0 c.get_str-2.ensures c.in_ok-get_str-2.was;
      time = number_found (λ bs r. ParsesUnsigned 64 10 bs r × ExplainsUnsignedError 10 bs r × HasUnsignedDigitsIfOk bs r) 64 found _ c.get_one.result _ (λ t x g. g.0) c.get_one.ensures.none (λ t e. c.get_one.ensures.value t e) c.in_ok-get_one.was;
      random = number_found (λ bs r. ParsesUnsigned 8 10 bs r × ExplainsUnsignedError 10 bs r × HasUnsignedDigitsIfOk bs r) 8 found _ c.get_one-2.result _ (λ t x g. g.0) c.get_one-2.ensures.none (λ t e. c.get_one-2.ensures.value t e) c.in_ok-get_one-2.was;
      inside = record {
        there = λ is. c.get_flag.ensures.value (one_text-rows found _ ∙ is);
        absent = λ is. c.get_flag.ensures.other (one_text-rows found _ ∙ is);
      };
    }

pub returns-in_err-get_str-clause-none : goal.returns-in_err-get_str-clause-none
returns-in_err-get_str-clause-none c is request names = word_wanting (found_of c.args.found.now) _ _ c.get_str.result c.get_str.ensures c.in_err-get_str.was names.policy

pub returns-in_err-get_str-2-clause-none : goal.returns-in_err-get_str-2-clause-none
returns-in_err-get_str-2-clause-none c is request names = word_wanting (found_of c.args.found.now) _ _ c.get_str-2.result c.get_str-2.ensures c.in_err-get_str-2.was names.input

pub returns-in_err-get_one-clause-none : goal.returns-in_err-get_one-clause-none
returns-in_err-get_one-clause-none c is request names =
    number_wanting (λ bs r. ParsesUnsigned 64 10 bs r × ExplainsUnsignedError 10 bs r × HasUnsignedDigitsIfOk bs r) 64 (found_of c.args.found.now) _ c.get_one.result _ (λ t x g. g.0) (λ t e. c.get_one.ensures.value t e) c.in_err-get_one.was names.time

pub returns-in_err-get_one-2-clause-none : goal.returns-in_err-get_one-2-clause-none
returns-in_err-get_one-2-clause-none c is request names =
    number_wanting (λ bs r. ParsesUnsigned 8 10 bs r × ExplainsUnsignedError 10 bs r × HasUnsignedDigitsIfOk bs r) 8 (found_of c.args.found.now) _ c.get_one-2.result _ (λ t x g. g.0) (λ t e. c.get_one-2.ensures.value t e) c.in_err-get_one-2.was names.random
