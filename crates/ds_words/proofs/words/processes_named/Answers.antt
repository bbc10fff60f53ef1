use Rattle.std.proofs.Common.{List, sym, refl, subst}
use Rattle.std.specs.Prelude.{Option, Some, None}
use Rattle.clap.specs.Words.{Text, found_of}
use Rattle.ds_words.specs.Words.{NamesProcesses}
use Rattle.ds_words.proofs.Numbers.{none_named, texts_found, texts_wanting}
use Rattle.ds_words.proofs.words.processes_named.Goals as goal

pub returns-in_err-written_processes-in-Some-clause-none : goal.returns-in_err-written_processes-in-Some-clause-none
returns-in_err-written_processes-in-Some-clause-none c is named names =
    let found = texts_found (found_of c.args.found.now) _ c.get_many.result c.in-Some.numbers c.get_many.ensures c.in-Some.is in
    none_named _ named (c.written_processes.ensures.none c.in_err-written_processes-in-Some.was) (subst (λ (o : Option (List Text)). NamesProcesses o named) found names)

pub returns-in_ok-written_processes-in-Some-clause-some : goal.returns-in_ok-written_processes-in-Some-clause-some
returns-in_ok-written_processes-in-Some-clause-some c =
    let found = texts_found (found_of c.args.found.now) _ c.get_many.result c.in-Some.numbers c.get_many.ensures c.in-Some.is in
    subst (λ (o : Option (List Text)). NamesProcesses o (Some c.in_ok-written_processes-in-Some.field-0)) (sym found) c.in_ok-written_processes-in-Some.ensures.some

pub returns-in-None-clause-some : goal.returns-in-None-clause-some
returns-in-None-clause-some c =
    let wanting = texts_wanting (found_of c.args.found.now) _ c.get_many.result c.get_many.ensures c.in-None.is in
    subst (λ (o : Option (List Text)). NamesProcesses o None) (sym wanting) refl
