use Rattle.std.proofs.Common.{rules}
use Rattle.std.specs.String.{string_bytes}
use Rattle.ds_trace.specs.Lines.{instruction_text, source_place_text}
use Rattle.ds_trace.specs.Inner.Shows.{found_held}
use Rattle.ds_trace.proofs.Adding.{gives, line_joined}
use Rattle.ds_trace.proofs.lines.push_line.Goals as goal

pub returns : goal.returns
returns g c = gives c.extend_from_slice.result
    (λ last. line_joined c.args.text.now.items (source_place_text c.args.view.now c.args.told) c.push_source.new.text.items (string_bytes c.clear.new.self)
    (instruction_text c.args.view.now c.args.told (found_held c.args.told.process c.args.station.now.held)) (string_bytes c.push_instruction.new.line) c.extend_from_slice.new.self.items
    c.in_ok-push_source.ensures (search rules) c.in_ok-push_instruction.ensures last)
    (search rules)
