use Rattle.std.proofs.Common.{◌∙◌, sym}
use Rattle.clap.specs.Words.{found_of}
use Rattle.clap.proofs.WalkLemmas.{first_value-rows, one_text-rows}
use Rattle.ds_words.proofs.Requests.{word_found, word_wanting}
use Rattle.ds_words.proofs.words.check_request_of.Goals as goal

pub returns-clause-some : goal.returns-clause-some
returns-clause-some c =
    let found = found_of c.args.found.now in
    record {
      policy = word_found found _ c.get_str.result c.in_ok-get_str.field-0 c.get_str.ensures c.in_ok-get_str.was;
      input = sym (first_value-rows found _) ∙ sym c.get_str-2.ensures;
      faults = λ is. c.get_flag.ensures.value (one_text-rows found _ ∙ is);
      notes = λ is. c.get_flag.ensures.other (one_text-rows found _ ∙ is);
      inside = record {
        there = λ is. c.get_flag-2.ensures.value (one_text-rows found _ ∙ is);
        absent = λ is. c.get_flag-2.ensures.other (one_text-rows found _ ∙ is);
      };
    }

pub returns-in_err-get_str-clause-none : goal.returns-in_err-get_str-clause-none
returns-in_err-get_str-clause-none c is request names = word_wanting (found_of c.args.found.now) _ _ c.get_str.result c.get_str.ensures c.in_err-get_str.was names.policy
