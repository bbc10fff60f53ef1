use Rattle.std.proofs.Common.{◌≡◌, ◌∙◌, ℕ, List, length, map, All, sym, ap, ap₂, subst}
use Rattle.std.specs.Prelude.{Some}
use Rattle.ds_dev.specs.Serial.{SerialState, read_silo}
use Rattle.ds_dev.specs.Bus.{BusState}
use Rattle.ds_pagemap.specs.Boundary.{queued, all_queued}
use Rattle.ds_refinement.specs.Held.{Kept}
use Rattle.ds_kernel.specs.Inner.Devices.{IsOfLine, oldest, typed, emptied}
use Rattle.ds_kernel.proofs.Arriving.{queued_next, emptied_next, lines_next, queued_long, read_rest}
use Rattle.ds_kernel.proofs.parts.Parts.drain.Goals as goal

pub loop-character-preserved : goal.loop-character-preserved
loop-character-preserved g c =
    let i = c.loop-character.invariant in
    let last = c.loop-character.self in
    let d = last.bus.serial in
    let ch = c.in-Some.character in
    let is : oldest d.silo ≡ Some ch = sym c.read_character.ensures.value ∙ c.in-Some.is in
    let serial : c.read_character.new.bus.serial ≡ (read_silo d).1 = ap (λ (b : BusState). b.serial) c.read_character.ensures.state in
    let queues : c.queue_character.new.self.queues.items ≡ queued last.monitor.queues.items (record { time = 0; line = ch.line; byte = ch.byte }) =
    ap (λ (k : Kept). k.state.queues) (c.queue_character.ensures.kept 0)
    ∙ ap (λ (n : ℕ). queued last.monitor.queues.items (record { time = 0; line = n; byte = ch.byte })) c.from.ensures in
    record {
      queues = ap₂ (λ (qs : List (List ℕ)) (s : SerialState). all_queued qs (map typed s.silo)) queues serial ∙ (queued_next d ch is last.monitor.queues.items 0 ∙ i.queues);
      serial = ap emptied serial ∙ (emptied_next d ch is ∙ i.serial);
      lines = subst (λ (s : SerialState). All IsOfLine s.silo) (sym serial) (lines_next d ch is i.lines);
      four = ap length queues ∙ (queued_long last.monitor.queues.items (record { time = 0; line = ch.line; byte = ch.byte }) ∙ i.four);
      rest = read_rest c.args.self.now last c.read_character.new.bus c.queue_character.new.self _ i.rest c.read_character.ensures.state c.queue_character.ensures.rest;
    }
