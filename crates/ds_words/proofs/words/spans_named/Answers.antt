use Rattle.clap.specs.Words.{found_of}
use Rattle.ds_words.specs.Spans.{spans_in}
use Rattle.ds_words.proofs.SpanTexts.{spans_absent, spans_read, spans_unread}
use Rattle.ds_words.proofs.WindowTexts.{strings_found, strings_wanting}
use Rattle.ds_words.proofs.words.spans_named.Goals as goal

pub returns-in-Some-clause-some : goal.returns-in-Some-clause-some
returns-in-Some-clause-some c =
    let found = found_of c.args.found.now in
    spans_read found _ c.in-Some.texts.now c.spans_of.result (strings_found found _ c.get_strs.result c.in-Some.texts c.get_strs.ensures c.in-Some.is) c.spans_of.ensures.some

pub returns-in-Some-clause-none : goal.returns-in-Some-clause-none
returns-in-Some-clause-none c is memory names =
    let found = found_of c.args.found.now in
    spans_unread found _ c.in-Some.texts.now memory (strings_found found _ c.get_strs.result c.in-Some.texts c.get_strs.ensures c.in-Some.is) (c.spans_of.ensures.none is memory) names

pub returns-in-None-clause-some : goal.returns-in-None-clause-some
returns-in-None-clause-some c =
    let found = found_of c.args.found.now in
    spans_absent found _ (spans_in c.none.result) (strings_wanting found _ c.get_strs.result c.get_strs.ensures c.in-None.is) c.none.ensures
