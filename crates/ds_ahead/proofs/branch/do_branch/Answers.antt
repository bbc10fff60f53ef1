use Rattle.std.proofs.Common.{◌≡◌, ℕ, ◌+◌, ◌*◌, ◌∙◌, sym, ap, subst, arith}
use Rattle.ds_isa.specs.Registers.{settled}
use Rattle.ds_isa.specs.Meaning.{Effect, Branches}
use Rattle.ds_pages.specs.Inner.Operations.{does, target_by}
use Rattle.ds_pages.specs.Inner.Places.{Fields}
use Rattle.ds_ahead.specs.declared.operations.Outcome.TheVariants.{Branched}
use Rattle.ds_ahead.specs.Inner.Placed.{Place, registers_at}
use Rattle.ds_ahead.specs.Inner.Operations.{ComesTo}
use Rattle.ds_ahead.proofs.Runs.{moves_in_page}
use Rattle.ds_ahead.proofs.branch.do_branch.Goals as goal

pub returns-clause-moves : goal.returns-clause-moves
returns-clause-moves g c =
    let o = c.operation-operation.result in
    let core = c.args.core.now in
    let at = c.args.at.now in
    let bus = c.args.bus.now in
    let first = c.args.first in
    let i = c.args.i in
    let to = c.place_after-to.result in
    let pc : at.pc ≡ first + 4 * i = ap (λ (a : Place). a.pc) c.requires.here ∙ ap (λ (n : ℕ). n + 4 * i) (sym c.requires.begins) in
    let distance = ap (λ (f : Fields). f.immediate) c.operation-operation.ensures.fields in
    let target : target_by c.in_ok-taken.field-0 at.pc o.immediate ≡ first + 4 * to =
    ap (λ (n : ℕ). target_by c.in_ok-taken.field-0 n o.immediate) pc
    ∙ (ap (λ (n : ℕ). target_by c.in_ok-taken.field-0 (first + 4 * i) n) distance ∙ c.place_after-to.ensures.leads first c.requires.low) in
    let effect : does o at.pc (registers_at core at) ≡ Branches (settled (registers_at core at)) (first + 4 * to) =
    c.in_ok-taken.ensures.does ∙ ap (λ (n : ℕ). Branches (settled (registers_at core at)) n) target in
    moves_in_page Branched o c.args.page.now i c.args.code.now.vpn c.args.code.now.base core at bus core c.branch-core.new.at bus
    c.requires.here c.requires.inside c.requires.known (omega (arith, c.requires.begins, c.requires.low)) c.args.code.now.inside c.requires.holds c.requires.calm
    c.operation-operation.ensures.fields c.operation-operation.ensures.means
    (λ other. absurd (c.requires.some (sym c.operation-operation.ensures.kind ∙ other)))
    (subst (λ (e : Effect). ComesTo Branched e core at bus core c.branch-core.new.at bus) (sym effect) c.branch-core.ensures.comes)
