use Rattle.std.proofs.Common.{◌≤◌, arith}
use Rattle.ds_words.specs.Windows.{WritesWindow, windows_in}
use Rattle.ds_words.proofs.WindowTexts.{written_good, read_on, not_read, no_room}
use Rattle.ds_words.proofs.windows.windows_of.Goals as goal

pub returns-in_err-window_of-clause-none : goal.returns-in_err-window_of-clause-none
returns-in_err-window_of-clause-none c is windows write =
    not_read WritesWindow c.args.texts.now windows c.loop-text.text-index _ (omega arith) write.each (c.window_of.ensures.none c.in_err-window_of.was)

pub returns-in_err-windows-clause-none : goal.returns-in_err-windows-clause-none
returns-in_err-windows-clause-none c is windows write =
    let full : 8 ≤ c.loop-text.windows.count = c.with.ensures.none c.in_err-windows.was in
    no_room WritesWindow c.args.texts.now windows c.loop-text.text-index (omega arith) (let same = c.loop-text.invariant.counted in omega (arith, same, full)) write.each write.few

pub loop-text-preserved : goal.loop-text-preserved
loop-text-preserved c = record {
  each = read_on WritesWindow c.args.texts.now (windows_in c.loop-text.windows) (windows_in c.in_ok-windows.windows) c.loop-text.text-index _ c.in_ok-window_of.field-0 (omega arith)
      c.loop-text.invariant.each c.in_ok-window_of.ensures.some c.in_ok-windows.ensures.some;
  counted = let same = c.loop-text.invariant.counted in let one = c.in_ok-windows.ensures.one in omega (arith, same, one);
  few = c.in_ok-windows.ensures.few;
}

pub returns-clause-good : goal.returns-clause-good
returns-clause-good c = written_good _ (windows_in c.loop-text.windows) c.loop-text.invariant.each
