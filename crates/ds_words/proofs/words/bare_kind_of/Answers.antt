use Rattle.std.proofs.Common.{◌≡◌, ◌∙◌, ap, rules, sym}
use Rattle.std.specs.Prelude.{Some, None}
use Rattle.clap.specs.Words.{Text, found_of}
use Rattle.ds_words.proofs.Requests.{no_bare_kind, no_word, word_found}
use Rattle.ds_words.proofs.words.bare_kind_of.Goals as goal

pub returns-in_err-bare_only_of-in-Some-clause-none : goal.returns-in_err-bare_only_of-in-Some-clause-none
returns-in_err-bare_only_of-in-Some-clause-none c is only names =
    let got : c.get_str.result ≡ Some c.in-Some.word = search rules in
    no_bare_kind _ c.in-Some.word.now only (word_found (found_of c.args.found.now) _ c.get_str.result c.in-Some.word c.get_str.ensures got)
    (c.bare_only_of.ensures.none c.in_err-bare_only_of-in-Some.was) names

pub returns-in_ok-bare_only_of-in-Some-clause-some : goal.returns-in_ok-bare_only_of-in-Some-clause-some
returns-in_ok-bare_only_of-in-Some-clause-some c =
    let got : c.get_str.result ≡ Some c.in-Some.word = search rules in
    word_found (found_of c.args.found.now) _ c.get_str.result c.in-Some.word c.get_str.ensures got
    ∙ ap (λ (t : Text). Some t) (sym c.in_ok-bare_only_of-in-Some.ensures.some)

pub returns-in-None-clause-some : goal.returns-in-None-clause-some
returns-in-None-clause-some c =
    let got : c.get_str.result ≡ None = search rules in
    no_word (found_of c.args.found.now) _ c.get_str.result c.get_str.ensures got
