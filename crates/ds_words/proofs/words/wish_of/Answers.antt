use Rattle.std.proofs.Common.{◌≡◌, ◌∙◌, ap, arith, inl, inr, map, rules, string_bytes}
use Rattle.std.specs.Prelude.{Err, Some, codes}
use Rattle.clap.specs.Words.{found_of, rows_of, subcommand_of}
use Rattle.ds_words.specs.Words.{NamesBare, NamesTrace, dsmon_app}
use Rattle.ds_words.specs.declared.words.Untaken.TheVariants.{Bare, Kind, Memory}
use Rattle.ds_words.specs.declared.words.Untaken.{Untaken}
use Rattle.ds_words.specs.declared.words.Wish.TheVariants.{Run, Trace}
use Rattle.ds_words.proofs.Requests.{mapped_bare, mapped_trace}
use Rattle.ds_words.proofs.WordLemmas.{misnamed, no_machine, same_cause, well_named}
use Rattle.ds_words.proofs.words.wish_of.Goals as goal

pub returns-in-Some-run-default-clause-memory : goal.returns-in-Some-run-default-clause-memory
returns-in-Some-run-default-clause-memory c is =
    let words = map string_bytes c.args.words.now in
    let rows = rows_of (found_of c.in-Some-run-default.found.now) in
    let named : subcommand_of dsmon_app words ≡ Some (codes "run", rows) = search rules in
    misnamed words rows (inl named) (c.asked_run.ensures.memory (same_cause (λ x. Run x) c.asked_run.result c.map.result Memory c.map.ensures.cases is))

pub returns-in-Some-run-default-clause-kind : goal.returns-in-Some-run-default-clause-kind
returns-in-Some-run-default-clause-kind c is misnames =
    let words = map string_bytes c.args.words.now in
    let rows = rows_of (found_of c.in-Some-run-default.found.now) in
    let named : subcommand_of dsmon_app words ≡ Some (codes "run", rows) = search rules in
    well_named words (codes "run") rows named (c.asked_run.ensures.kind (same_cause (λ x. Run x) c.asked_run.result c.map.result Kind c.map.ensures.cases is)) misnames

pub returns-in-Some-trace-default-clause-trace : goal.returns-in-Some-trace-default-clause-trace
returns-in-Some-trace-default-clause-trace c request is = record {
  taken = search rules;
  rows = rows_of (found_of c.in-Some-trace-default.found.now);
  named = search rules;
  names = mapped_trace (NamesTrace (rows_of (found_of c.in-Some-trace-default.found.now))) c.asked_trace.result c.map-in-Some-trace-default.result request c.map-in-Some-trace-default.ensures.cases c.asked_trace.ensures.ok is;
}

pub returns-in-Some-trace-default-clause-memory : goal.returns-in-Some-trace-default-clause-memory
returns-in-Some-trace-default-clause-memory c is =
    let words = map string_bytes c.args.words.now in
    let rows = rows_of (found_of c.in-Some-trace-default.found.now) in
    let named : subcommand_of dsmon_app words ≡ Some (codes "trace", rows) = search rules in
    misnamed words rows (inr named) (c.asked_trace.ensures.memory (same_cause (λ x. Trace x) c.asked_trace.result c.map-in-Some-trace-default.result Memory c.map-in-Some-trace-default.ensures.cases is))

pub returns-in-Some-trace-default-clause-kind : goal.returns-in-Some-trace-default-clause-kind
returns-in-Some-trace-default-clause-kind c is misnames =
    let words = map string_bytes c.args.words.now in
    let rows = rows_of (found_of c.in-Some-trace-default.found.now) in
    let named : subcommand_of dsmon_app words ≡ Some (codes "trace", rows) = search rules in
    well_named words (codes "trace") rows named
    (c.asked_trace.ensures.kind (same_cause (λ x. Trace x) c.asked_trace.result c.map-in-Some-trace-default.result Kind c.map-in-Some-trace-default.ensures.cases is)) misnames

pub returns-in-Some-run-default-clause-machine : goal.returns-in-Some-run-default-clause-machine
returns-in-Some-run-default-clause-machine c cause is =
    let words = map string_bytes c.args.words.now in
    let rows = rows_of (found_of c.in-Some-run-default.found.now) in
    let named : subcommand_of dsmon_app words ≡ Some (codes "run", rows) = search rules in (
      λ bare. absurd (c.asked_run.ensures.other (same_cause (λ x. Run x) c.asked_run.result c.map.result Bare c.map.ensures.cases (is ∙ ap (λ (e : Untaken). Err e) bare))),
      λ bare. absurd (no_machine words (codes "run") rows named (λ e. let no : 114 ≡ 98 = e in absurd (omega (arith, no))) bare),
    )

pub returns-in-Some-trace-default-clause-machine : goal.returns-in-Some-trace-default-clause-machine
returns-in-Some-trace-default-clause-machine c cause is =
    let words = map string_bytes c.args.words.now in
    let rows = rows_of (found_of c.in-Some-trace-default.found.now) in
    let named : subcommand_of dsmon_app words ≡ Some (codes "trace", rows) = search rules in (
      λ bare. absurd (c.asked_trace.ensures.other (same_cause (λ x. Trace x) c.asked_trace.result c.map-in-Some-trace-default.result Bare c.map-in-Some-trace-default.ensures.cases (is ∙ ap (λ (e : Untaken). Err e) bare))),
      λ bare. absurd (no_machine words (codes "trace") rows named (λ e. let no : 116 ≡ 98 = e in absurd (omega (arith, no))) bare),
    )

pub returns-in-Some-bare-default-clause-bare : goal.returns-in-Some-bare-default-clause-bare
returns-in-Some-bare-default-clause-bare c request is = record {
  taken = search rules;
  rows = rows_of (found_of c.in-Some-bare-default.found.now);
  named = search rules;
  names = mapped_bare (NamesBare (rows_of (found_of c.in-Some-bare-default.found.now))) c.bare_request_of.result c.map-in-Some-bare-default.result c.ok_or-in-Some-bare-default.result Bare request c.map-in-Some-bare-default.ensures.cases c.ok_or-in-Some-bare-default.ensures.value c.bare_request_of.ensures.some is;
}
