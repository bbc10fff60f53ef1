use Rattle.std.proofs.Common.{◌∙◌}
use Rattle.clap.specs.Words.{found_of}
use Rattle.clap.proofs.WalkLemmas.{one_text-rows}
use Rattle.ds_words.proofs.Requests.{word_found, word_wanting}
use Rattle.ds_words.proofs.words.list_request_of.Goals as goal

pub returns-clause-some : goal.returns-clause-some
returns-clause-some c =
    let found = found_of c.args.found.now in
    record {
      file = word_found found _ c.get_str.result c.in_ok-get_str.field-0 c.get_str.ensures c.in_ok-get_str.was;
      words = λ is. c.get_flag.ensures.value (one_text-rows found _ ∙ is);
      source = λ is. c.get_flag.ensures.other (one_text-rows found _ ∙ is);
      names = c.names_of.ensures;
    }

pub returns-in_err-get_str-clause-none : goal.returns-in_err-get_str-clause-none
returns-in_err-get_str-clause-none c is request names = word_wanting (found_of c.args.found.now) _ _ c.get_str.result c.get_str.ensures c.in_err-get_str.was names.file
