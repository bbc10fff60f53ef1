use Rattle.std.proofs.Common.{◌≡◌, ◌∙◌, ap, sym, true, arith}
use Rattle.ds_tables.specs.Places.{region_of}
use Rattle.ds_tables.specs.Inner.Places.{has_place, opened}
use Rattle.ds_tables.proofs.Map.{put_done}
use Rattle.ds_tables.proofs.tables.Tables.put_entry.Goals as goal

pub returns-clause-memory : goal.returns-clause-memory
returns-clause-memory c = (put_done _ _ _ _ _ _ _ _ _ _ _ c.region_of-region.ensures c.in_ok-open.ensures.were c.frame-frame.ensures.places c.in_ok-open.ensures.room c.in_ok-open.ensures.places c.in_ok-open.ensures.memory c.frame-frame.ensures.value c.table_word_place.ensures.value c.put_word.ensures.value (omega (arith, c.put_word.ensures.size)) (omega arith)).is

pub returns-clause-words : goal.returns-clause-words
returns-clause-words c = (put_done _ _ _ _ _ _ _ _ _ _ _ c.region_of-region.ensures c.in_ok-open.ensures.were c.frame-frame.ensures.places c.in_ok-open.ensures.room c.in_ok-open.ensures.places c.in_ok-open.ensures.memory c.frame-frame.ensures.value c.table_word_place.ensures.value c.put_word.ensures.value (omega (arith, c.put_word.ensures.size)) (omega arith)).words

pub returns-clause-frames : goal.returns-clause-frames
returns-clause-frames c = (put_done _ _ _ _ _ _ _ _ _ _ _ c.region_of-region.ensures c.in_ok-open.ensures.were c.frame-frame.ensures.places c.in_ok-open.ensures.room c.in_ok-open.ensures.places c.in_ok-open.ensures.memory c.frame-frame.ensures.value c.table_word_place.ensures.value c.put_word.ensures.value (omega (arith, c.put_word.ensures.size)) (omega arith)).frames

pub returns-clause-places : goal.returns-clause-places
returns-clause-places c = c.in_ok-open.ensures.places ∙ ap (opened c.args.self.now c.args.process) c.region_of-region.ensures

pub returns-clause-refused : goal.returns-clause-refused
returns-clause-refused c =
    let room : has_place c.args.self.now c.args.process (region_of c.args.addr) ≡ true =
    ap (has_place c.args.self.now c.args.process) (sym c.region_of-region.ensures) ∙ c.in_ok-open.ensures.room in
    (λ wrong. room ∙ sym wrong, λ none. sym none ∙ room)
