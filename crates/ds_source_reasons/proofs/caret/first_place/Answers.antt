use Rattle.std.proofs.Common.{◌∙◌, sym, length, arith}
use Rattle.ds_source_reasons.proofs.Carets.{fewer_left, found_here, found_later, found_nowhere}
use Rattle.ds_source_reasons.proofs.caret.first_place.Goals as goal

pub returns-then-starts_with-clause-exact : goal.returns-then-starts_with-clause-exact
returns-then-starts_with-clause-exact c =
    found_here c.loop-rest.place c.args.text.now c.loop-rest.rest.now _ (omega (arith, c.in-len1-up.len_at_least)) (sym c.starts_with.ensures.value ∙ c.if-starts_with.true) c.loop-rest.invariant.same

pub loop-rest-preserved : goal.loop-rest-preserved
loop-rest-preserved c = record {
  same = found_later c.loop-rest.place c.args.text.now c.loop-rest.rest.now _ (omega (arith, c.in-len1-up.len_at_least)) (sym c.starts_with.ensures.value ∙ c.if-starts_with.false) c.loop-rest.invariant.same;
  within = fewer_left c.loop-rest.place (length c.args.line.now) c.loop-rest.rest.now (omega (arith, c.in-len1-up.len_at_least)) c.loop-rest.invariant.within;
}

pub returns-clause-exact : goal.returns-clause-exact
returns-clause-exact c = found_nowhere c.loop-rest.place c.args.text.now c.loop-rest.rest.now _ (omega (arith, c.in_default.len_below)) c.loop-rest.invariant.same
