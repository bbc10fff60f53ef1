use Rattle.std.proofs.Common.{◌≡◌, true, List, sym, subst, arith}
use Rattle.std.proofs.lemmas.List.{take_all}
use Rattle.ds_gdb.specs.Points.{is_break}
use Rattle.ds_gdb.specs.declared.points.Breakpoint.{Breakpoint}
use Rattle.ds_debug.proofs.leaps.stops_at.Goals as goal

pub returns : goal.returns
returns c = λ p pc some.
    c.loop-breakpoint.invariant.holds p pc
    (subst (λ (bs : List Breakpoint). is_break bs p pc ≡ true) (sym (take_all c.loop-breakpoint.breakpoint-index c.args.breakpoints.now (omega (arith, c.loop-breakpoint-test.false)))) some)
