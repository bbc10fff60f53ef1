use Rattle.std.proofs.Common.{◌≡◌, ◌∙◌, None, replicate, ap, arith}
use Rattle.ds_dev.specs.Inner.Known.{Room}
use Rattle.ds_dev.proofs.pages.Pages.new.Goals as goal

pub returns : goal.returns
returns c =
    let all : c.loop.counter ≡ 2048 = omega arith in
    c.loop.invariant.items ∙ ap (λ n. replicate {A = Room} n None) all
