use Rattle.std.proofs.Common.{rules, codes, decimal}
use Rattle.ds_text.proofs.Sends.{ok_gives}
use Rattle.ds_trace.proofs.Joining.{three_added}
use Rattle.ds_trace.proofs.unended.push_which.Goals as goal

pub returns : goal.returns
returns c = ok_gives c.extend_from_slice-2.result
    (λ last. three_added c.args.text.now.items c.extend_from_slice.new.self.items c.push_decimal.new.sheet.items c.extend_from_slice-2.new.self.items
    (codes "dsmon: process ") (decimal c.args.process) (codes " has not ended: ") c.in_ok-extend_from_slice.ensures.items (search rules) last)
    (search rules)
