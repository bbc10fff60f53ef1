use Rattle.std.proofs.Common.{◌≡◌, ℕ, List, Result, subst, sym, ◌∙◌, Ok, Err}
use Rattle.ds_policy.specs.Value.{PolicyValue}
use Rattle.ds_pagemap.specs.First.{first_state}
use Rattle.ds_pagemap.specs.Inputs.{Sources, inputs_under, inputs_under_by}
use Rattle.ds_refinement.specs.Held.{Held}
use Rattle.ds_refinement.specs.Real.{RealPath}
use Rattle.ds_refinement.specs.Stands.{Stands}
use Rattle.ds_station.specs.Headline.{Along, Begins, BeginsWith, Followed, Refuses, loaded_with}
use Rattle.ds_station.proofs.Along.{begun_stands, runs_along}
use Rattle.ds_station.proofs.Headlines.{refused_unasked, ran_asked, really_if, ran_short, part_written, cut_really, part_really, refused_really, refused_only, keeps_same}
use Rattle.ds_station.proofs.Guarded.{policy_guarded_if, policy_cut_if}
use Rattle.ds_station.proofs.Outcomes.{if_err, on_ok, writes_by, writes_of}
use Rattle.ds_station.proofs.Quiet.{policy_quiet_if}
use Rattle.ds_station.proofs.Alone.{policy_alone_if}
use Rattle.ds_text.specs.Sent.{IsAskedOnce}
use Rattle.ds_station.specs.Faults.{is_unwritten}
use Rattle.ds_station.specs.declared.fault.Fault.{Fault}
use Rattle.ds_station.specs.declared.fault.Fault.TheVariants as fault
use Rattle.ds_station.proofs.files.run_station.Goals as goal

-- a station that was prepared stands for the first state of what it began with
abbrev along : (policy : PolicyValue) (s : Sources) (input : List ℕ) (n r : ℕ) (h : Held) → Begins (inputs_under policy s input n r) (Stands h) → (b : Begins (inputs_under_by loaded_with policy s input n r) (BeginsWith r h)) → (x : Held) → RealPath h x → Along b.0 h x
along policy s input n r h a b x path = runs_along (first_state b.0.policy b.0.images b.0.input) h x (begun_stands policy s input n r h a b) path

-- The run came to its end, and its text is written.

pub returns-clause-ok : goal.returns-clause-ok
returns-clause-ok g c =
    writes_by _ _ c.args.n _ c.in-Ok.station.held c.run-ran.new.self.held c.in-Ok.ensures.ok (on_ok c.run-ran.result _ c.in-Ok-ran.is c.run-ran.ensures.ok) c.in-Ok-deliver.ensures.ok

pub returns-clause-real : goal.returns-clause-real
returns-clause-real g c =
    on_ok c.run-ran.result _ c.in-Ok-ran.is (really_if Along c.run-ran.result _ _ c.args.n c.args.random _ c.in-Ok.station.held c.run-ran.new.self.held c.in-Ok.ensures.real (along _ _ _ c.args.n c.args.random c.in-Ok.station.held c.in-Ok.ensures.ok c.in-Ok.ensures.real c.run-ran.new.self.held) c.run-ran.ensures.real c.run-ran.ensures.over c.in-Ok-deliver.ensures.ok)

pub returns-clause-followed : goal.returns-clause-followed
returns-clause-followed g c =
    on_ok c.run-ran.result _ c.in-Ok-ran.is (really_if Followed c.run-ran.result _ _ c.args.n c.args.random _ c.in-Ok.station.held c.run-ran.new.self.held c.in-Ok.ensures.real (λ path. path) c.run-ran.ensures.real c.run-ran.ensures.over c.in-Ok-deliver.ensures.ok)

-- It was cut short, and its text so far is written.

pub returns-in-Err-ran-clause-err : goal.returns-in-Err-ran-clause-err
returns-in-Err-ran-clause-err g c =
    if_err _ c.run-ran.result c.in-Err-ran.fault c.in-Err-ran.is
    (ran_short c.run-ran.result c.in-Ok.station.held.own.failed c.args.n c.in-Ok.station.held c.run-ran.new.self.held _ _ _ c.in-Ok.ensures.working c.run-ran.ensures.faults c.run-ran.ensures.err c.run-ran.ensures.whole (c.run-ran.ensures.going c.in-Ok.ensures.working) c.in-Ok.ensures.ok c.in-Ok-deliver.ensures.ok)

pub returns-in-Err-ran-clause-cut : goal.returns-in-Err-ran-clause-cut
returns-in-Err-ran-clause-cut g c =
    if_err _ c.run-ran.result c.in-Err-ran.fault c.in-Err-ran.is
    (cut_really Along c.args.n c.args.random _ c.in-Ok.station.held c.run-ran.new.self.held _ _ c.in-Ok.ensures.real (along _ _ _ c.args.n c.args.random c.in-Ok.station.held c.in-Ok.ensures.ok c.in-Ok.ensures.real) c.run-ran.result c.in-Ok.ensures.working c.run-ran.ensures.faults c.run-ran.ensures.cut (c.run-ran.ensures.going c.in-Ok.ensures.working) c.in-Ok-deliver.ensures.ok)

pub returns-in-Err-ran-clause-followed_so_far : goal.returns-in-Err-ran-clause-followed_so_far
returns-in-Err-ran-clause-followed_so_far g c =
    if_err _ c.run-ran.result c.in-Err-ran.fault c.in-Err-ran.is
    (cut_really Followed c.args.n c.args.random _ c.in-Ok.station.held c.run-ran.new.self.held _ _ c.in-Ok.ensures.real (λ x path. path) c.run-ran.result c.in-Ok.ensures.working c.run-ran.ensures.faults c.run-ran.ensures.cut (c.run-ran.ensures.going c.in-Ok.ensures.working) c.in-Ok-deliver.ensures.ok)

-- A part of its text is written.

pub returns-in-Err-deliver-clause-err : goal.returns-in-Err-deliver-clause-err
returns-in-Err-deliver-clause-err g c =
    let b = c.in-Ok.ensures.ok in
    (b.0, b.1, part_written _ _ c.args.n b.0 c.in-Ok.station.held c.run-ran.new.self.held b.2 c.run-ran.result c.run-ran.ensures.ok c.run-ran.ensures.err c.run-ran.ensures.whole c.in-Err-deliver.ensures.err)

pub returns-in-Err-deliver-clause-cut : goal.returns-in-Err-deliver-clause-cut
returns-in-Err-deliver-clause-cut g c =
    let b = c.in-Ok.ensures.real in
    (b.0, b.1, part_really Along c.args.n c.args.random _ c.in-Ok.station.held c.run-ran.new.self.held _ _ b (along _ _ _ c.args.n c.args.random c.in-Ok.station.held c.in-Ok.ensures.ok c.in-Ok.ensures.real) c.run-ran.result c.run-ran.ensures.real c.run-ran.ensures.over c.run-ran.ensures.cut (c.run-ran.ensures.going c.in-Ok.ensures.working) c.in-Err-deliver.ensures.err)

pub returns-in-Err-deliver-clause-followed_so_far : goal.returns-in-Err-deliver-clause-followed_so_far
returns-in-Err-deliver-clause-followed_so_far g c =
    let b = c.in-Ok.ensures.real in
    (b.0, b.1, part_really Followed c.args.n c.args.random _ c.in-Ok.station.held c.run-ran.new.self.held _ _ b (λ x path. path) c.run-ran.result c.run-ran.ensures.real c.run-ran.ensures.over c.run-ran.ensures.cut (c.run-ran.ensures.going c.in-Ok.ensures.working) c.in-Err-deliver.ensures.err)

-- The inputs are refused.

pub returns-in-Err-clause-cut : goal.returns-in-Err-clause-cut
returns-in-Err-clause-cut g c =
    refused_really Along c.in-Err.refused _ _ _ _ c.args.n c.args.random c.in-Err.ensures.err (keeps_same (g.O.Output.contents c.args.out.now))

pub returns-in-Err-clause-followed_so_far : goal.returns-in-Err-clause-followed_so_far
returns-in-Err-clause-followed_so_far g c =
    refused_really Followed c.in-Err.refused _ _ _ _ c.args.n c.args.random c.in-Err.ensures.err (keeps_same (g.O.Output.contents c.args.out.now))

-- How often the writer is asked.

pub returns-in-Err-clause-once : goal.returns-in-Err-clause-once
returns-in-Err-clause-once g c = refused_unasked c.in-Err.refused _ (g.O.Output.answers c.args.out.now) c.in-Err.ensures.err

pub returns-in-Err-ran-clause-once : goal.returns-in-Err-ran-clause-once
returns-in-Err-ran-clause-once g c =
    subst (λ (r : Result (Unit {0}) Fault). IsAskedOnce (g.O.Output.answers c.args.out.now) (g.O.Output.answers c.deliver.new.out) (is_unwritten r)) c.in-Err-ran.is
    (ran_asked c.run-ran.result c.in-Ok.station.held.own.failed _ _ c.in-Ok.ensures.working c.run-ran.ensures.faults c.in-Ok-deliver.ensures.once)

-- What holds by these.

pub returns-in-Err-clause-refused : goal.returns-in-Err-clause-refused
returns-in-Err-clause-refused g c = λ r e. (subst (Refuses c.in-Err.refused) e c.in-Err.ensures.err, keeps_same (g.O.Output.contents c.args.out.now))

pub returns-clause-refused : goal.returns-clause-refused
returns-clause-refused g c = λ r e. (let b = returns-clause-ok g c in absurd (let no : Ok b.0 ≡ Err r = sym b.1 ∙ e in cc))

pub returns-in-Err-ran-clause-refused : goal.returns-in-Err-ran-clause-refused
returns-in-Err-ran-clause-refused g c = refused_only {T = Unit {0}} (Err c.in-Err-ran.fault) _ _ _ c.args.n tt (returns-in-Err-ran-clause-err g c)

pub returns-in-Err-deliver-clause-refused : goal.returns-in-Err-deliver-clause-refused
returns-in-Err-deliver-clause-refused g c = λ r e. (let b = returns-in-Err-deliver-clause-err g c in absurd (let no : Ok b.0 ≡ Err r = sym b.1 ∙ e in cc))

pub returns-clause-guarded : goal.returns-clause-guarded
returns-clause-guarded g c = policy_guarded_if {E = Fault} (Ok c.run-ran.new.self.held) _ _ _ c.args.n c.args.random _ _ (writes_of _ _ c.args.n _ c.run-ran.new.self.held (returns-clause-ok g c))

pub returns-clause-quiet : goal.returns-clause-quiet
returns-clause-quiet g c = λ start first is q. policy_quiet_if {E = Fault} (Ok c.run-ran.new.self.held) _ _ _ c.args.n c.args.random start _ _ first (writes_of _ _ c.args.n _ c.run-ran.new.self.held (returns-clause-ok g c)) is q

pub returns-clause-alone : goal.returns-clause-alone
returns-clause-alone g c = λ listens p start first good is here stingy asks quiet. policy_alone_if {E = Fault} (Ok c.run-ran.new.self.held) listens _ _ _ c.args.n c.args.random start p _ _ first good (writes_of _ _ c.args.n _ c.run-ran.new.self.held (returns-clause-ok g c)) is here stingy asks quiet

pub returns-in-Err-ran-clause-guarded_so_far : goal.returns-in-Err-ran-clause-guarded_so_far
returns-in-Err-ran-clause-guarded_so_far g c = policy_cut_if {T = Unit {0}} (Err c.in-Err-ran.fault) _ _ _ c.args.n c.args.random _ _ (returns-in-Err-ran-clause-err g c)

pub returns-in-Err-deliver-clause-guarded_so_far : goal.returns-in-Err-deliver-clause-guarded_so_far
returns-in-Err-deliver-clause-guarded_so_far g c = policy_cut_if {T = Unit {0}} (Err fault.WriteFault) _ _ _ c.args.n c.args.random _ _ (returns-in-Err-deliver-clause-err g c)
