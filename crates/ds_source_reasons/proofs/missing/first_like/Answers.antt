use Rattle.std.proofs.Common.{◌+◌, ◌∙◌, sym, ap, length, option_map, rules}
use Rattle.ds_asm.proofs.SourceLines.{lines_of-first, after_within}
use Rattle.ds_source_reasons.specs.Missing.{like_in}
use Rattle.ds_source_reasons.specs.Inner.Missing.{plain_labelled}
use Rattle.ds_source_reasons.proofs.Labels.{found_in_line, passed_line, no_line}
use Rattle.ds_source_reasons.proofs.missing.first_like.Goals as goal

pub returns-in-Some : goal.returns-in-Some
returns-in-Some c =
    let first = lines_of-first c.loop-rest.rest.now c.first_line.result.0.now c.first_line.result.1.now (sym c.loop-rest-test.ensures) c.first_line.ensures.line c.first_line.ensures.after in
    found_in_line c.args.name.now (c.loop-rest.number + 1) c.loop-rest.rest.now c.first_line.result.0.now c.first_line.result.1.now (plain_labelled c.in-Some.found) (option_map plain_labelled c.like_in.result) _ first
    (c.like_in.ensures ∙ ap (like_in c.args.name.now (c.loop-rest.number + 1)) c.source_line.ensures.label)
    (ap (option_map plain_labelled) c.in-Some.is) c.loop-rest.invariant.same

pub loop-rest-preserved : goal.loop-rest-preserved
loop-rest-preserved c =
    let first = lines_of-first c.loop-rest.rest.now c.first_line.result.0.now c.first_line.result.1.now (sym c.loop-rest-test.ensures) c.first_line.ensures.line c.first_line.ensures.after in
    record {
      same = passed_line c.args.name.now (c.loop-rest.number + 1) c.loop-rest.rest.now c.first_line.result.0.now c.first_line.result.1.now (option_map plain_labelled c.like_in.result) _ first
          (c.like_in.ensures ∙ ap (like_in c.args.name.now (c.loop-rest.number + 1)) c.source_line.ensures.label)
          (ap (option_map plain_labelled) c.in-None.is) c.loop-rest.invariant.same;
      within = after_within c.loop-rest.number (length c.args.text.now) c.loop-rest.rest.now c.first_line.result.1.now c.first_line.ensures.after (sym c.loop-rest-test.ensures) c.loop-rest.invariant.within;
    }

pub returns : goal.returns
returns c = no_line c.args.name.now (c.loop-rest.number + 1) c.loop-rest.rest.now _ (search rules) c.loop-rest.invariant.same
