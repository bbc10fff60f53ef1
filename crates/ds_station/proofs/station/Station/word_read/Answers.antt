use Rattle.std.proofs.Common.{sym, ap, ◌∙◌}
use Rattle.ds_policy.specs.Grants.{PageState}
use Rattle.ds_station.specs.Reads.{word_read}
use Rattle.ds_station.proofs.station.Station.word_read.Goals as goal

pub returns-clause-stands : goal.returns-clause-stands
returns-clause-stands g c = λ m k. c.word_for.ensures ∙ ap (λ (s : PageState). word_read s c.args.process c.args.address) (sym k.agrees.kept.pages)
