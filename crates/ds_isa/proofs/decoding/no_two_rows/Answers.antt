use Rattle.ds_isa.proofs.Apart.{one_row_at_most}
use Rattle.ds_isa.proofs.decoding.no_two_rows.Goals as goal

pub returns : goal.returns
returns c = one_row_at_most c.args.word
