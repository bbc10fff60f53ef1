use Rattle.std.proofs.Common.{arith}
use Rattle.ds_listing.proofs.Table.{text_read}
use Rattle.ds_listing.proofs.law.a_word_is_read_back.Goals as goal

pub returns : goal.returns
returns c = text_read c.args.word (omega arith) c.round_trip.ensures.word
