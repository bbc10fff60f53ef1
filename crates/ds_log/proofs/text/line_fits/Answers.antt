use Rattle.ds_log.proofs.Lengths.{length-line_text-le}
use Rattle.ds_log.proofs.text.line_fits.Goals as goal

pub returns : goal.returns
returns c = length-line_text-le c.args.line.now c.requires
