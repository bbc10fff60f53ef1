use Rattle.std.proofs.Common.{◌≡◌, ◌<◌, ◌∙◌, length, map, ap, sym, arith}
use Rattle.std.specs.Prelude.{slice_set, ◌-◌}
use Rattle.ds_tables.specs.Places.{Places, places_of}
use Rattle.ds_tables.specs.Inner.Places.{freed, closed}
use Rattle.ds_tables.specs.Tables.{entry_word}
use Rattle.ds_tables.proofs.PlaceLemmas.{four_exactly, closed_row, closed_short}
use Rattle.ds_tables.proofs.Map.{closed_words}
use Rattle.ds_tables.proofs.tables.Tables.close.Goals as goal

pub returns-then-places-lt-MOST-clause-words : goal.returns-then-places-lt-MOST-clause-words
returns-then-places-lt-MOST-clause-words c = λ memory empty q other.
    let same : length c.places-places.result.now ≡ length (places_of c.args.self.now c.args.process) = ap length c.places-places.ensures.value in
    let few : length (places_of c.args.self.now c.args.process) < 4 = omega arith in
    sym (ap (λ (t : Places). entry_word memory t q other) (closed_short c.args.self.now c.args.process c.args.region c.places-places.ensures.places few))
    ∙ closed_words memory c.args.self.now c.args.process c.args.region q other empty

pub returns-clause-words : goal.returns-clause-words
returns-clause-words c = λ memory empty q other.
    let same : length c.places-places.result.now ≡ length (places_of c.args.self.now c.args.process) = ap length c.places-places.ensures.value in
    let who = four_exactly c.args.self.now c.args.process c.places-places.ensures.places (omega arith) in
    let value : c.set_places.new.self ≡ closed c.args.self.now c.args.process c.args.region =
    c.set_places.ensures ∙ (ap (slice_set c.args.self.now (c.args.process - 1)) (c.without-kept.ensures ∙ ap (map (freed c.args.region)) c.places-places.ensures.value)
    ∙ sym (closed_row c.args.self.now c.args.process c.args.region who.1)) in
    ap (λ (t : Places). entry_word memory t q other) value ∙ closed_words memory c.args.self.now c.args.process c.args.region q other empty
