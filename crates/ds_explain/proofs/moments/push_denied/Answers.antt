use Rattle.std.proofs.Common.{sym}
use Rattle.ds_log_reasons.specs.Inner.Sentences.{known_placed}
use Rattle.ds_explain.proofs.Units.{not_shown}
use Rattle.ds_explain.proofs.moments.push_denied.Goals as goal

pub returns-then-not-is_there : goal.returns-then-not-is_there
returns-then-not-is_there g c = not_shown (known_placed c.args.known) c.args.denial c.args.station.now.held c.args.sheet.now.items (sym c.if-not-is_there.ensures.there)
