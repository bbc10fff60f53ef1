use Rattle.std.proofs.Common.{◌≡◌, ◌≤◌, ◌*◌, Bool, false, inl, refl, subst, sym, ◌∙◌, arith}
use Rattle.ds_refinement.proofs.Joined.{path_join}
use Rattle.ds_refinement.proofs.RunSteps.{within_start}
use Rattle.ds_station.specs.Inner.Faults.{IsFaultAfter}
use Rattle.ds_station.specs.Pieces.{piece}
use Rattle.ds_station.proofs.InPieces.{cut_join, few_more, few_of, held_goes_wider, no_steps, over_whole, passes, path_failed, piece_within, pieces_after, to_within, within_join}
use Rattle.ds_station.proofs.Outcomes.{on_err}
use Rattle.ds_station.proofs.station.Station.run_at_most.Goals as goal

-- Pieces.

pub loop-piece-init : goal.loop-piece-init
loop-piece-init g c = record {
  path = no_steps c.args.self.now.held;
  within = within_start c.args.n c.args.self.now.held;
  some = omega arith;
  few = inl (refl, refl);
}

pub loop-piece-preserved : goal.loop-piece-preserved
loop-piece-preserved g c =
    let b = c.loop-piece in
    let le = piece_within c.args.n b.piece c.loop-piece-test.true in record {
      path = path_join c.args.self.now.held b.self.held c.run.new.self.held b.invariant.path c.in-Ok.ensures.real;
      within = within_join (b.piece * piece) c.args.n le c.args.self.now.held b.self.held c.run.new.self.held b.invariant.within (to_within (b.piece * piece) b.self.held c.run.new.self.held c.in-Ok.ensures.ok);
      some = omega arith;
      few = few_more c.args.most b.piece c.args.self.now.held c.run.new.self.held c.in-Ok.ensures.over (sym c.has_more_than.ensures ∙ c.if-has_more_than.false);
    }

pub returns-in-Err-clause-within : goal.returns-in-Err-clause-within
returns-in-Err-clause-within g c =
    let b = c.loop-piece in
    within_join (b.piece * piece) c.args.n (piece_within c.args.n b.piece c.loop-piece-test.true) c.args.self.now.held b.self.held c.run.new.self.held b.invariant.within c.in-Err.ensures.err

pub returns-in-Err-clause-cut : goal.returns-in-Err-clause-cut
returns-in-Err-clause-cut g c =
    let b = c.loop-piece in
    cut_join c.in-Err.fault c.args.self.now.held b.self.held c.run.new.self.held b.invariant.path c.in-Err.ensures.cut

pub returns-in-Err-clause-going : goal.returns-in-Err-clause-going
returns-in-Err-clause-going g c = λ working.
    let b = c.loop-piece in
    held_goes_wider (b.piece * piece) c.args.n c.run.new.self.held (piece_within c.args.n b.piece c.loop-piece-test.true)
    (on_err c.run.result c.in-Err.fault c.in-Err.is (c.run.ensures.going (path_failed c.args.self.now.held b.self.held b.invariant.path ∙ working)))

pub returns-in-Err-clause-faults : goal.returns-in-Err-clause-faults
returns-in-Err-clause-faults g c =
    let b = c.loop-piece in
    subst (λ (failed : Bool). IsFaultAfter failed c.in-Err.fault) (path_failed c.args.self.now.held b.self.held b.invariant.path) c.in-Err.ensures.faults

pub returns-then-has_more_than-clause-ok : goal.returns-then-has_more_than-clause-ok
returns-then-has_more_than-clause-ok g c =
    let b = c.loop-piece in
    passes c.args.n c.args.most b.piece (b.piece * piece) c.args.self.now.held b.self.held c.run.new.self.held b.invariant.some b.invariant.path b.invariant.few (piece_within c.args.n b.piece c.loop-piece-test.true) (omega arith)
    c.in-Ok.ensures.ok c.in-Ok.ensures.over (sym c.has_more_than.ensures ∙ c.if-has_more_than.true)

pub returns-then-has_more_than-clause-within : goal.returns-then-has_more_than-clause-within
returns-then-has_more_than-clause-within g c =
    let b = c.loop-piece in
    within_join (b.piece * piece) c.args.n (piece_within c.args.n b.piece c.loop-piece-test.true) c.args.self.now.held b.self.held c.run.new.self.held b.invariant.within (to_within (b.piece * piece) b.self.held c.run.new.self.held c.in-Ok.ensures.ok)

pub returns-then-has_more_than-clause-real : goal.returns-then-has_more_than-clause-real
returns-then-has_more_than-clause-real g c =
    let b = c.loop-piece in
    path_join c.args.self.now.held b.self.held c.run.new.self.held b.invariant.path c.in-Ok.ensures.real

pub returns-then-has_more_than-clause-whole : goal.returns-then-has_more_than-clause-whole
returns-then-has_more_than-clause-whole g c = over_whole (c.loop-piece.piece * piece) c.run.new.self.held c.in-Ok.ensures.over

-- What is left.

pub returns-in-Err-run-clause-within : goal.returns-in-Err-run-clause-within
returns-in-Err-run-clause-within g c =
    let b = c.loop-piece in
    within_join c.args.n c.args.n (omega arith) c.args.self.now.held b.self.held c.run-2.new.self.held b.invariant.within c.in-Err-run.ensures.err

pub returns-in-Err-run-clause-cut : goal.returns-in-Err-run-clause-cut
returns-in-Err-run-clause-cut g c =
    let b = c.loop-piece in
    cut_join c.in-Err-run.fault c.args.self.now.held b.self.held c.run-2.new.self.held b.invariant.path c.in-Err-run.ensures.cut

pub returns-in-Err-run-clause-going : goal.returns-in-Err-run-clause-going
returns-in-Err-run-clause-going g c = λ working.
    let b = c.loop-piece in
    on_err c.run-2.result c.in-Err-run.fault c.in-Err-run.is (c.run-2.ensures.going (path_failed c.args.self.now.held b.self.held b.invariant.path ∙ working))

pub returns-in-Err-run-clause-faults : goal.returns-in-Err-run-clause-faults
returns-in-Err-run-clause-faults g c =
    let b = c.loop-piece in
    subst (λ (failed : Bool). IsFaultAfter failed c.in-Err-run.fault) (path_failed c.args.self.now.held b.self.held b.invariant.path) c.in-Err-run.ensures.faults

pub returns-then-has_more_than-2-clause-ok : goal.returns-then-has_more_than-2-clause-ok
returns-then-has_more_than-2-clause-ok g c =
    let b = c.loop-piece in
    passes c.args.n c.args.most b.piece c.args.n c.args.self.now.held b.self.held c.run-2.new.self.held b.invariant.some b.invariant.path b.invariant.few (omega arith) (pieces_after c.args.n b.piece c.loop-piece-test.false)
    c.in-Ok-run.ensures.ok c.in-Ok-run.ensures.over (sym c.has_more_than-2.ensures ∙ c.if-has_more_than-2.true)

pub returns-then-has_more_than-2-clause-within : goal.returns-then-has_more_than-2-clause-within
returns-then-has_more_than-2-clause-within g c =
    let b = c.loop-piece in
    within_join c.args.n c.args.n (omega arith) c.args.self.now.held b.self.held c.run-2.new.self.held b.invariant.within (to_within c.args.n b.self.held c.run-2.new.self.held c.in-Ok-run.ensures.ok)

pub returns-then-has_more_than-2-clause-real : goal.returns-then-has_more_than-2-clause-real
returns-then-has_more_than-2-clause-real g c =
    let b = c.loop-piece in
    path_join c.args.self.now.held b.self.held c.run-2.new.self.held b.invariant.path c.in-Ok-run.ensures.real

pub returns-then-has_more_than-2-clause-whole : goal.returns-then-has_more_than-2-clause-whole
returns-then-has_more_than-2-clause-whole g c = over_whole c.args.n c.run-2.new.self.held c.in-Ok-run.ensures.over

pub returns-else-has_more_than-2-clause-ok : goal.returns-else-has_more_than-2-clause-ok
returns-else-has_more_than-2-clause-ok g c = record {
  over = c.in-Ok-run.ensures.over;
  few = few_of c.args.most _ (sym c.has_more_than-2.ensures ∙ c.if-has_more_than-2.false);
}

pub returns-else-has_more_than-2-clause-within : goal.returns-else-has_more_than-2-clause-within
returns-else-has_more_than-2-clause-within g c =
    let b = c.loop-piece in
    within_join c.args.n c.args.n (omega arith) c.args.self.now.held b.self.held c.run-2.new.self.held b.invariant.within (to_within c.args.n b.self.held c.run-2.new.self.held c.in-Ok-run.ensures.ok)

pub returns-else-has_more_than-2-clause-real : goal.returns-else-has_more_than-2-clause-real
returns-else-has_more_than-2-clause-real g c =
    let b = c.loop-piece in
    path_join c.args.self.now.held b.self.held c.run-2.new.self.held b.invariant.path c.in-Ok-run.ensures.real

pub returns-else-has_more_than-2-clause-whole : goal.returns-else-has_more_than-2-clause-whole
returns-else-has_more_than-2-clause-whole g c = over_whole c.args.n c.run-2.new.self.held c.in-Ok-run.ensures.over
