use Rattle.ds_log_reasons.specs.Inner.Sentences.{known_placed}
use Rattle.ds_explain.proofs.Units.{known_refused}
use Rattle.ds_explain.proofs.moments.push_known.Goals as goal

pub returns-in_ok-push_refused-in-Refused : goal.returns-in_ok-push_refused-in-Refused
returns-in_ok-push_refused-in-Refused g c =
    known_refused (known_placed c.args.known) c.args.station.now.held c.args.sheet.now.items c.push_refused.new.sheet.items c.in-Refused.time c.in-Refused.command c.in-Refused.number c.args.line c.in-Refused.is c.in_ok-push_refused-in-Refused.ensures
