use Rattle.std.proofs.Common.{◌≡◌, ◌∙◌, ◌+◌, ◌<◌, ℕ, [], length, map, get_or, refl, sym, subst, arith, inl, inr}
use Rattle.ds_policy.specs.PolicyParts.{sources_of}
use Rattle.ds_pagemap.specs.First.{source_bytes}
use Rattle.ds_mem.specs.Memory.{frame_of}
use Rattle.ds_asid.proofs.Apart.{start_apart}
use Rattle.ds_grants.proofs.Fills.{empty_buffer}
use Rattle.ds_grants.specs.Inner.First.{AreInOrder}
use Rattle.ds_grants.proofs.FirstGrants.{first_order}
use Rattle.ds_grants.proofs.FirstPages.{first_pages_hold}
use Rattle.ds_grants.proofs.grants.Grants.new.Goals as goal

pub returns-clause-pages : goal.returns-clause-pages
returns-clause-pages g c =
    let each : (q : ℕ) → q < length c.args.policy.now.pages → frame_of c.fill_pages.new.memory (q + 402) ≡ get_or (map (λ page. source_bytes (sources_of c.args.policy.now.pages) c.args.images.now page.source) c.args.policy.now.pages) q []
    = rw (c.sources.ensures.all, c.pages.ensures.all) at c.fill_pages.ensures.each in
    rw c.in_ok-grants.ensures (first_pages_hold c.args.policy.now c.args.images.now c.first_tables.new.memory c.rules.ensures.good c.pages.ensures.few (λ q below. c.first_tables.ensures.elsewhere (q + 402) (inr (omega arith)) ∙ each q below))

pub returns-clause-represented : goal.returns-clause-represented
returns-clause-represented g c = λ few empty.
    let words = c.first_tables.ensures.words (c.fill_pages.ensures.elsewhere 1 (inl (omega arith)) ∙ empty) c.in_ok-grants.grants (rw (c.processes.ensures.all, c.rules-2.ensures.all, c.in_ok-grants.ensures) refl)
    (subst AreInOrder (sym c.in_ok-grants.ensures) (first_order c.args.policy.now c.rules.ensures.good c.pages.ensures.few)) in
    record {
      buffer = rw c.flush.ensures.entries (empty_buffer g.L.Lookaside.SLOTS c.flush.new.self c.in_ok-grants.grants c.first_tables.result few);
      words = words.words;
      places = words.places;
      empty = words.empty;
      spaces = rw c.flush.ensures.value start_apart;
    }
