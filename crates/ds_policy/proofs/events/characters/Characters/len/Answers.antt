use Rattle.std.proofs.Common.{ap, length, drop, arith}
use Rattle.ds_policy.proofs.KeyLineSteps.{start_within, count}
use Rattle.ds_policy.proofs.events.characters.Characters.len.Goals as goal

pub overflow_sub-result : goal.overflow_sub-result
overflow_sub-result c =
    let within = start_within c.self.inside.taken (drop c.self.inside.over c.self.inside.lines.items) c.self.inside.bytes.items c.self.invariant.1 in
    omega (arith, c.self.inside.bytes.ok.0)

pub returns : goal.returns
returns c =
    let all = count c.self.inside.taken (drop c.self.inside.over c.self.inside.lines.items) c.self.inside.bytes.items c.self.invariant.1 in
    let same = ap length c.self.view_is in
    omega (arith, c.self.inside.bytes.ok.0)
