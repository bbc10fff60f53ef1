use Rattle.std.proofs.Common.{◌≡◌, ℕ, ◌+◌, ◌*◌, Some, sym, ap, subst, ◌∙◌}
use Rattle.ds_isa.specs.declared.instr.Size.TheVariants.{Word}
use Rattle.ds_policy.specs.Pages.{Table, decide}
use Rattle.ds_station.specs.Inner.Station.{StationValue}
use Rattle.ds_station.specs.Reads.{memory_held, word_for}
use Rattle.ds_kernel.proofs.Fetching.{fetched_low}
use Rattle.ds_station.proofs.Reading.{word_found}
use Rattle.ds_station.proofs.station.Station.word_for.Goals as goal

pub frame_of-requires : goal.frame_of-requires
frame_of-requires g c =
    fetched_low c.self.inside.parts.monitor.grants c.args.process c.args.kind Word c.args.address c.in-Allowed.page c.in-Allowed.offset c.table.ensures.pages
    (ap (λ (t : Table). decide t c.args.process c.args.kind Word c.args.address) (sym c.table.ensures.value) ∙ sym c.in-Allowed.ensures.exact)

pub returns-in-Allowed : goal.returns-in-Allowed
returns-in-Allowed g c =
    let parts = c.self.inside.parts in
    let verdict = ap (λ (t : Table). decide t c.args.process c.args.kind Word c.args.address) (sym c.table.ensures.value) ∙ sym c.in-Allowed.ensures.exact in
    subst (λ (s : StationValue). Some c.word.result ≡ word_for c.args.kind (memory_held s.held) c.args.process c.args.address) c.self.view_is
    (ap (λ (w : ℕ). Some w) c.word.ensures
    ∙ word_found parts.monitor.grants parts.bus.memory c.args.kind c.args.process c.args.address c.in-Allowed.page c.in-Allowed.offset (c.frame_of.result * 4096 + c.in-Allowed.offset) c.table.ensures.pages c.self.invariant.good.sound.stands.agrees.size verdict
    (ap (λ (f : ℕ). f * 4096 + c.in-Allowed.offset) c.frame_of.ensures.value))
