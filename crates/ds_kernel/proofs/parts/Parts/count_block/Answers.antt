use Rattle.std.proofs.Common.{◌≡◌, ◌+◌, ◌-◌, ◌≤◌, ◌∙◌, ℕ, ap, sym, arith}
use Rattle.ds_ahead.specs.Inner.Ahead.{owed_tick}
use Rattle.ds_refinement.specs.Held.{Own}
use Rattle.ds_kernel.specs.declared.parts.Parts.{Parts}
use Rattle.ds_kernel.specs.Inner.Parts.{own_of}
use Rattle.ds_kernel.proofs.Blocking.{whole_counts}
use Rattle.ds_kernel.proofs.parts.Parts.count_block.Goals as goal

pub returns-then-self-before-clause-own : goal.returns-then-self-before-clause-own
returns-then-self-before-clause-own g c =
    let old = c.args.self.now in
    let own : own_of c.pass.new.self ≡ own_of old = ap (λ (p : Parts g.row.L.Denot). own_of p) c.pass.ensures in
    let is : old.spent ≡ c.args.before = sym (ap (λ (o : Own). o.spent) own) ∙ c.if-self-before.true in
    let enough : owed_tick c.args.slot ≤ c.args.steps + c.args.before = c.requires.some in
    ap (λ (o : Own). record o { spent = c.owed_tick-self.result }) own
    ∙ (ap (λ (s : ℕ). record (own_of old) { spent = s }) c.owed_tick-self.ensures
    ∙ sym (whole_counts c.args.steps (c.args.steps + c.args.before - owed_tick c.args.slot) c.args.before c.args.slot (own_of old) (c.requires.fresh is) is (omega (arith, enough))))
