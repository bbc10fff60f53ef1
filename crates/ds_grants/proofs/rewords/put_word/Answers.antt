use Rattle.ds_grants.proofs.WordsAnew.{low_put_word}
use Rattle.ds_grants.proofs.rewords.put_word.Goals as goal

pub returns-then-frame-gt-EMPTY-clause-low : goal.returns-then-frame-gt-EMPTY-clause-low
returns-then-frame-gt-EMPTY-clause-low c =
    low_put_word c.args.memory.now c.put_word.new.self c.page_of_table-frame.result c.args.addr c.args.word c.if-frame-gt-EMPTY.true c.page_of_table-frame.ensures.range c.put_word.ensures.value c.put_word.ensures.size
