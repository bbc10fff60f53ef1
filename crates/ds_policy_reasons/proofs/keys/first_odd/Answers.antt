use Rattle.std.proofs.Common.{◌+◌, ◌∙◌, sym, ap, length, option_map, rules}
use Rattle.ds_asm.proofs.SourceLines.{lines_of-first, after_within}
use Rattle.ds_policy_reasons.specs.Keys.{key_in, odd_one}
use Rattle.ds_policy_reasons.specs.Inner.Keys.{plain_odd}
use Rattle.ds_policy_reasons.proofs.OddKeys.{found_in_line, passed_line, no_line}
use Rattle.ds_policy_reasons.proofs.keys.first_odd.Goals as goal

pub returns-in-Some : goal.returns-in-Some
returns-in-Some c =
    let first = lines_of-first c.loop-rest.rest.now c.first_line.result.0.now c.first_line.result.1.now (sym c.loop-rest-test.ensures) c.first_line.ensures.line c.first_line.ensures.after in
    found_in_line (c.loop-rest.number + 1) c.loop-rest.rest.now c.first_line.result.0.now c.first_line.result.1.now (plain_odd c.in-Some.found) (option_map plain_odd c.odd_one.result) _ first
    (c.odd_one.ensures ∙ ap (odd_one (c.loop-rest.number + 1) c.first_line.result.0.now) (c.key_in.ensures ∙ ap key_in c.key_text.ensures.exact))
    (ap (option_map plain_odd) c.in-Some.is) c.loop-rest.invariant.same

pub loop-rest-preserved : goal.loop-rest-preserved
loop-rest-preserved c =
    let first = lines_of-first c.loop-rest.rest.now c.first_line.result.0.now c.first_line.result.1.now (sym c.loop-rest-test.ensures) c.first_line.ensures.line c.first_line.ensures.after in
    record {
      same = passed_line (c.loop-rest.number + 1) c.loop-rest.rest.now c.first_line.result.0.now c.first_line.result.1.now (option_map plain_odd c.odd_one.result) _ first
          (c.odd_one.ensures ∙ ap (odd_one (c.loop-rest.number + 1) c.first_line.result.0.now) (c.key_in.ensures ∙ ap key_in c.key_text.ensures.exact))
          (ap (option_map plain_odd) c.in-None.is) c.loop-rest.invariant.same;
      within = after_within c.loop-rest.number (length c.args.text.now) c.loop-rest.rest.now c.first_line.result.1.now c.first_line.ensures.after (sym c.loop-rest-test.ensures) c.loop-rest.invariant.within;
    }

pub returns : goal.returns
returns c = no_line (c.loop-rest.number + 1) c.loop-rest.rest.now _ (search rules) c.loop-rest.invariant.same
