use Rattle.std.proofs.Common.{refl, ap, subst, sym, arith}
use Rattle.std.specs.Prelude.{is_some}
use Rattle.ds_core.specs.Core.{CoreState}
use Rattle.ds_refill.specs.Inner.Refill.{handler_events}
use Rattle.ds_refill.specs.Inner.Refills.{RunsInside}
use Rattle.ds_refinement.proofs.FirstWord.{first_next, refill_user, refill_outside}
use Rattle.ds_refinement.proofs.Tallied.{few_of}
use Rattle.ds_refinement.proofs.WordTallies.{word_room}
use Rattle.ds_kernel.specs.declared.parts.Parts.{Parts}
use Rattle.ds_kernel.specs.Inner.Parts.{held}
use Rattle.ds_kernel.specs.Inner.Good.{IsGood}
use Rattle.ds_kernel.proofs.Refilling.{missed_kernel, missed_at, refilled_is, refill_good, refill_goes}
use Rattle.ds_kernel.proofs.parts.Parts.refill.Goals as goal

-- What is counted before leaves room.

pub count_refill-requires-clause-spent : goal.count_refill-requires-clause-spent
count_refill-requires-clause-spent g c = c.requires.good.orderly.spent

pub count_refill-requires-clause-since : goal.count_refill-requires-clause-since
count_refill-requires-clause-since g c = let good = c.requires.good in (few_of (held c.args.self.now) good.sound.state good.sound.stands).since

pub count_refill-requires-clause-few : goal.count_refill-requires-clause-few
count_refill-requires-clause-few g c =
    let old = c.args.self.now in
    (word_room (held old) c.requires.good.sound c.requires.ready 0 (omega arith) (missed_kernel old.core c.requires.missed) (missed_at old.core c.requires.missed)).0

-- The nine words are done and counted.

pub returns-in-Some-clause-words : goal.returns-in-Some-clause-words
returns-in-Some-clause-words g c = λ done.
    let old = c.args.self.now in
    subst (λ (d : CoreState). RunsInside 0 handler_events old.core old.bus d) (sym (ap (λ (x : Parts g.row.L.Denot). x.core) c.count_refill.ensures.rest)) (c.refill_at_once.ensures.done (ap is_some c.in-Some.is))

pub returns-in-Some-clause-good : goal.returns-in-Some-clause-good
returns-in-Some-clause-good g c =
    let old = c.args.self.now in
    let new = c.count_refill.new.self in
    refill_good old new c.requires.good c.requires.ready (missed_kernel old.core c.requires.missed)
    (refilled_is old new c.refill_at_once.new.core c.in-Some.slot c.in-Some.ensures.slot c.count_refill.ensures.own c.count_refill.ensures.rest)
    (ap (λ (x : Parts g.row.L.Denot). x.monitor) c.count_refill.ensures.rest) (returns-in-Some-clause-words g c refl)

pub returns-in-Some-clause-nearer : goal.returns-in-Some-clause-nearer
returns-in-Some-clause-nearer g c = λ done n soon.
    let old = c.args.self.now in
    let new = c.count_refill.new.self in
    refill_goes old new c.requires.good c.requires.ready (missed_kernel old.core c.requires.missed)
    (refilled_is old new c.refill_at_once.new.core c.in-Some.slot c.in-Some.ensures.slot c.count_refill.ensures.own c.count_refill.ensures.rest)
    (ap (λ (x : Parts g.row.L.Denot). x.monitor) c.count_refill.ensures.rest) (returns-in-Some-clause-words g c done) n soon

pub returns-in-Some-clause-user : goal.returns-in-Some-clause-user
returns-in-Some-clause-user g c = λ done.
    let old = c.args.self.now in
    refill_user (held old) c.count_refill.new.self.core c.requires.good.sound c.requires.ready (missed_kernel old.core c.requires.missed) (missed_at old.core c.requires.missed) (returns-in-Some-clause-words g c done)

pub returns-in-Some-clause-outside : goal.returns-in-Some-clause-outside
returns-in-Some-clause-outside g c = λ done.
    let old = c.args.self.now in
    refill_outside (held old) c.count_refill.new.self.core c.requires.good.sound c.requires.ready (missed_kernel old.core c.requires.missed) (missed_at old.core c.requires.missed) (returns-in-Some-clause-words g c done)

-- The processor is before the first word; where the word of the page table can't be loaded it stays there.

pub refill_at_once-requires-clause-next : goal.refill_at_once-requires-clause-next
refill_at_once-requires-clause-next g c =
    let old = c.args.self.now in
    first_next (held old) c.requires.good.sound c.requires.ready (missed_kernel old.core c.requires.missed) (missed_at old.core c.requires.missed)

pub returns-in-None-clause-good : goal.returns-in-None-clause-good
returns-in-None-clause-good g c =
    let old = c.args.self.now in
    subst (λ (d : CoreState). IsGood {L = g.row.L.Denot} (record old { core = d })) (sym (c.refill_at_once.ensures.still (ap is_some c.in-None.is))) c.requires.good
