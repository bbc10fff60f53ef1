use Rattle.std.proofs.Common.{◌≡◌, ◌+◌, ◌<◌, ap, [], ◌∷◌, ◌++◌, length, drop, arith, length-append, rules}
use Rattle.std.proofs.lemmas.List.{drop-append-le}
use Rattle.ds_policy.specs.declared.events.characters.KeyLine.{KeyLine}
use Rattle.ds_policy.proofs.KeyLineSteps.{line_more, lines_more}
use Rattle.ds_policy.proofs.events.characters.Characters.push.Goals as goal

pub invariant_of-self-2 : goal.invariant_of-self-2
invariant_of-self-2 c =
    let l : KeyLine = record { time = c.args.time; line = c.args.line; end = c.len-end.result } in
    let ls = c.self.inside.lines.items in
    let bs = c.self.inside.bytes.items in
    let over = c.self.inside.over in
    let items : c.push.new.self.items ≡ ls ++ l ∷ [] = search rules in
    let bytes : c.extend_from_slice.new.self.items ≡ bs ++ c.args.bytes.now = search rules in
    let end : l.end ≡ length bs + length c.args.bytes.now = omega (arith, c.extend_from_slice.new.self.ok.0, ap length bytes, length-append bs c.args.bytes.now) in
    let some : 0 < length c.args.bytes.now = search rules in
    rw (items, bytes, drop-append-le over ls (l ∷ []) c.self.invariant.0)
    (omega (arith, length-append ls (l ∷ [])), lines_more c.self.inside.taken (drop over ls) bs l c.args.bytes.now c.self.invariant.1 end some)

pub returns-clause-added : goal.returns-clause-added
returns-clause-added c =
    let l : KeyLine = record { time = c.args.time; line = c.args.line; end = c.len-end.result } in
    let ls = c.self.inside.lines.items in
    let bs = c.self.inside.bytes.items in
    let over = c.self.inside.over in
    let items : c.push.new.self.items ≡ ls ++ l ∷ [] = search rules in
    let bytes : c.extend_from_slice.new.self.items ≡ bs ++ c.args.bytes.now = search rules in
    let end : l.end ≡ length bs + length c.args.bytes.now = omega (arith, c.extend_from_slice.new.self.ok.0, ap length bytes, length-append bs c.args.bytes.now) in
    rw (items, bytes, drop-append-le over ls (l ∷ []) c.self.invariant.0, ← c.self.view_is)
    (line_more c.self.inside.taken (drop over ls) bs l c.args.bytes.now c.self.invariant.1 end)
