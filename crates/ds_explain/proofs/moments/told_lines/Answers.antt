use Rattle.std.proofs.Common.{List, ℕ, ◌++◌, sym, subst, take}
use Rattle.ds_asm.specs.Assembly.{lines_of}
use Rattle.ds_asm.proofs.SourceLines.{lines_of-first}
use Rattle.ds_log_reasons.specs.Inner.Sentences.{known_placed}
use Rattle.ds_explain.specs.Moments.{AreTold}
use Rattle.ds_explain.proofs.Telling.{some_left, told_end, told_more}
use Rattle.ds_explain.proofs.moments.told_lines.Goals as goal

pub loop-rest-init : goal.loop-rest-init
loop-rest-init g c = λ more are. subst (λ (s : List ℕ). AreTold (known_placed c.args.known) c.args.n c.args.station.now.held (take c.args.most (lines_of c.args.log.now)) (s ++ more)) (sym c.new-sheet.ensures.items) are

pub loop-rest-preserved : goal.loop-rest-preserved
loop-rest-preserved g c =
    let some = some_left c.loop-rest.left c.loop-rest.rest.now (sym c.loop-rest-test.ensures) in
    told_more (known_placed c.args.known) c.args.n c.args.station.now.held c.loop-rest.station.held c.push_line.new.station.held _ c.loop-rest.sheet.items
    c.loop-rest.left c.loop-rest.rest.now c.first_line.result.0.now c.first_line.result.1.now c.push_line.new.sheet.items
    some.0
    (lines_of-first c.loop-rest.rest.now c.first_line.result.0.now c.first_line.result.1.now some.1 c.first_line.ensures.line c.first_line.ensures.after)
    c.in_ok-push_line.ensures c.loop-rest.invariant

pub returns : goal.returns
returns g c = told_end (known_placed c.args.known) c.args.n c.args.station.now.held c.loop-rest.station.held c.loop-rest.station.held _ c.loop-rest.sheet.items c.loop-rest.left c.loop-rest.rest.now (sym c.loop-rest-test.ensures) c.loop-rest.invariant
