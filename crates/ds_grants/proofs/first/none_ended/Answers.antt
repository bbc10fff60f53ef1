use Rattle.std.proofs.Common.{◌≡◌, ◌∙◌, ap, length, List, Bool, false, arith, lit<}
use Rattle.std.proofs.lemmas.List.{length-replicate}
use Rattle.ds_grants.proofs.first.none_ended.Goals as goal

pub push-requires : goal.push-requires
push-requires c =
    let size : length c.loop.ended.items ≡ c.loop.counter = ap (λ (xs : List Bool). length xs) c.loop.invariant ∙ length-replicate c.loop.counter false in
    (lit< tt, omega (arith, size))
