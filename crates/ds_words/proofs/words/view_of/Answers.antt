use Rattle.std.proofs.Common.{◌≡◌, ◌∙◌, ℕ, refl, subst, sym}
use Rattle.std.specs.Prelude.{Option}
use Rattle.std.specs.Str.Parse.{ParsesUnsigned, ExplainsUnsignedError, HasUnsignedDigitsIfOk}
use Rattle.clap.specs.Words.{found_of, one_of, rows_of}
use Rattle.clap.proofs.WalkLemmas.{one_text-rows}
use Rattle.ds_words.specs.Words.{IsGiven}
use Rattle.ds_words.proofs.Requests.{number_found, number_wanting, widened}
use Rattle.ds_words.proofs.words.view_of.Goals as goal

pub returns-in_err-get_one-clause-none : goal.returns-in_err-get_one-clause-none
returns-in_err-get_one-clause-none c is view names =
    number_wanting (λ bs r. ParsesUnsigned 64 10 bs r × ExplainsUnsignedError 10 bs r × HasUnsignedDigitsIfOk bs r) 64 (found_of c.args.found.now) _ c.get_one.result _ (λ t x g. g.0) (λ t e. c.get_one.ensures.value t e) c.in_err-get_one.was names.from

pub returns-clause-some : goal.returns-clause-some
returns-clause-some c =
    let found = found_of c.args.found.now in
    let same : c.map.result ≡ c.in_ok-given_of.field-0 = widened c.in_ok-given_of.field-0 c.map.result c.map.ensures.cases in
    record {
      from = number_found (λ bs r. ParsesUnsigned 64 10 bs r × ExplainsUnsignedError 10 bs r × HasUnsignedDigitsIfOk bs r) 64 found _ c.get_one.result _ (λ t x g. g.0) c.get_one.ensures.none (λ t e. c.get_one.ensures.value t e) c.in_ok-get_one.was;
      to = subst (λ (given : Option ℕ). IsGiven 32 (one_of _ (rows_of found)) given) (sym same) c.in_ok-given_of.ensures.some;
      processes = c.in_ok-processes_named.ensures.some;
      only = c.in_ok-kind_of.ensures.some;
      processor = λ is. c.get_flag.ensures.value (one_text-rows found _ ∙ is);
      lines = λ is. c.get_flag.ensures.other (one_text-rows found _ ∙ is);
      entries = λ is. c.get_flag-2.ensures.value (one_text-rows found _ ∙ is);
      rest = λ is. c.get_flag-2.ensures.other (one_text-rows found _ ∙ is);
      source = record {
        there = λ is. c.get_flag-3.ensures.value (one_text-rows found _ ∙ is);
        absent = λ is. c.get_flag-3.ensures.other (one_text-rows found _ ∙ is);
      };
      names = c.names_of.ensures;
      pages = refl;
    }
