use Rattle.std.proofs.Common.{◌≡◌, ℕ, length, sym, ap, ◌∙◌, arith}
use Rattle.ds_debug.proofs.Leaping.{lives_by}
use Rattle.ds_debug.proofs.leaps.is_further.Goals as goal

pub returns : goal.returns
returns g c = λ some.
    let before : length c.log.result.now ≡ length c.args.old.now.held.kept.log = ap (length {A = ℕ}) c.log.ensures.held in
    let now : length c.log-2.result.now ≡ length c.args.new.now.held.kept.log = ap (length {A = ℕ}) c.log-2.ensures.held in
    record {
      later = omega (arith, c.if-time.false, c.time.ensures.held, c.time-2.ensures.held);
      early = omega (arith, c.if-n-time.false, c.time-else-time.ensures.held);
      quiet = omega (arith, c.if-log.false, before, now);
      lives = lives_by c.args.new.now.held.kept.state c.first_unended.result c.first_unended.ensures.held (sym c.is_some.ensures ∙ some);
    }
