use Rattle.ds_check.specs.Inner.Starts.{assembled}
use Rattle.ds_log_reasons.proofs.Paging.{page_placed}
use Rattle.ds_log_reasons.proofs.places.pages_with.Goals as goal

pub loop-page-preserved : goal.loop-page-preserved
loop-page-preserved c =
    page_placed (assembled c.args.sources) c.args.pages.now c.loop-page.page-index c.page-item.result c.loop-page.placed.items c.push.new.self.items c.in_ok-lines.lines _
    c.page-item.is c.loop-page-test.true c.in_ok-lines.ensures c.in_ok-push.ensures.items c.loop-page.invariant
