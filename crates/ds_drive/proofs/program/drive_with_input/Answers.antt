use Rattle.std.proofs.Common.{◌≡◌, arith, codes, refl, subst, rules, inl, inr, map, string_bytes, sym, ◌∙◌}
use Rattle.ds_drive.specs.declared.check.Checking.{Checking}
use Rattle.ds_drive.specs.declared.list.Listing.{Listing}
use Rattle.ds_gdb.specs.Serving.{pipes}
use Rattle.ds_gdb.specs.declared.serving.Ending.{Ending}
use Rattle.ds_drive.specs.Inner.Checked.{Checks}
use Rattle.ds_drive.specs.Debugged.{HasDebugged}
use Rattle.ds_drive.specs.Done.{stream}
use Rattle.ds_station.specs.Faults.{fault_number}
use Rattle.ds_drive.specs.Failures.{failure_number}
use Rattle.ds_drive.specs.Inner.Listed.{Lists}
use Rattle.ds_drive.specs.Inner.BareRuns.{RunsOrIsFaulty}
use Rattle.ds_drive.specs.Told.{bare_words_line}
use Rattle.ds_drive.proofs.BareLemmas.{bare_cut, bare_faulty, bare_stopped}
use Rattle.ds_drive.proofs.Coming.{run_cut_by, run_done, run_much, run_unended, run_untold, trace_done, trace_never_much, trace_unended, trace_untold}
use Rattle.ds_drive.proofs.Cuts.{check_cut, demo_cut, list_cut, run_cut}
use Rattle.ds_drive.proofs.Noting.{check_noted}
use Rattle.ds_drive.proofs.Stops.{list_faulty, no_fault_is_done, no_fault_is_unended}
use Rattle.ds_drive.proofs.ReadingStatuses.{bare_reads, bare_reads_until, check_reads, check_reads_until, debug_reads, debug_reads_until, explain_reads, explain_reads_until, list_reads_until, no_file_asked, run_reads, run_reads_until, trace_reads, trace_reads_until}
use Rattle.ds_drive.proofs.TraceLemmas.{trace_cut, trace_stopped}
use Rattle.ds_drive.proofs.Heard.{told_so}
use Rattle.ds_drive.proofs.Untaken.{taken_for_memory}
use Rattle.ds_drive.proofs.Debugging.{debug_cut, debug_done, debug_stopped, debug_unwritten, unheard_cut, unheard_stopped}
use Rattle.ds_drive.proofs.ExplainLemmas.{explain_cut, explain_done, explain_stopped, explain_unwritten}
use Rattle.ds_drive.proofs.Wishes.{asks_bare, asks_debug, asks_explain, asks_nothing, asks_run, asks_trace}
use Rattle.ds_words.specs.Words.{dsmon_app}
use Rattle.ds_words.proofs.WordLemmas.{alone, fails_for_memory, only_memory_fails}
use Rattle.ds_drive.proofs.program.drive_with_input.Goals as goal

pub returns-in-Err-run_demo-clause-cut : goal.returns-in-Err-run_demo-clause-cut
returns-in-Err-run_demo-clause-cut g c three =
    demo_cut _ (g.F.Files.holds c.args.files.now) c.in-Err-run_demo.fault (g.W.Write.contents c.args.out.now) (g.W.Write.contents c.run_demo.new.out)
    (search rules) c.in-Err-run_demo.ensures.err

pub returns-in-Err-run_request-clause-cut : goal.returns-in-Err-run_request-clause-cut
returns-in-Err-run_request-clause-cut g c three =
    run_cut _ (g.F.Files.holds c.args.files.now) (g.F.Files.lacks c.args.files.now) _ c.in-Err-run_request.failure (g.W.Write.contents c.args.out.now)
    (g.W.Write.contents c.run_request.new.out) (search rules) c.in-Err-run_request.ensures.err

pub returns-in-Err-list_file-clause-cut : goal.returns-in-Err-list_file-clause-cut
returns-in-Err-list_file-clause-cut g c three =
    list_cut _ (g.F.Files.holds c.args.files.now) (g.F.Files.lacks c.args.files.now) _ c.in-Err-list_file.unlisted (g.W.Write.contents c.args.out.now)
    (g.W.Write.contents c.list_file.new.out) (search rules) c.in-Err-list_file.ensures.err

pub returns-in-Err-check_files-clause-cut : goal.returns-in-Err-check_files-clause-cut
returns-in-Err-check_files-clause-cut g c three =
    check_cut _ (g.F.Files.holds c.args.files.now) (g.F.Files.lacks c.args.files.now) _ c.in-Err-check_files.refused (g.W.Write.contents c.args.out.now)
    (g.W.Write.contents c.check_files.new.out) (search rules) c.in-Err-check_files.ensures.err

pub returns-in-Err-bare_file-clause-cut : goal.returns-in-Err-bare_file-clause-cut
returns-in-Err-bare_file-clause-cut g c three =
    bare_cut _ (g.F.Files.holds c.args.files.now) (g.F.Files.lacks c.args.files.now) _ c.in-Err-bare_file.failure (g.W.Write.contents c.args.out.now)
    (g.W.Write.contents c.bare_file.new.out) (search rules) c.in-Err-bare_file.ensures.err

pub returns-in-Err-trace_request-clause-cut : goal.returns-in-Err-trace_request-clause-cut
returns-in-Err-trace_request-clause-cut g c three =
    trace_cut _ (g.F.Files.holds c.args.files.now) (g.F.Files.lacks c.args.files.now) _ c.in-Err-trace_request.failure (g.W.Write.contents c.args.out.now)
    (g.W.Write.contents c.trace_request.new.out) (search rules) c.in-Err-trace_request.ensures.err

pub returns-in-Err-2-clause-alone : goal.returns-in-Err-2-clause-alone
returns-in-Err-2-clause-alone g c program same =
    let memory = fails_for_memory _ c.in-Err-2.error (alone program _ same) c.in-Err-2.ensures.refused in
    search (rules, memory)

pub returns-in-Err-2-clause-taken : goal.returns-in-Err-2-clause-taken
returns-in-Err-2-clause-taken g c asked =
    let memory = only_memory_fails _ c.in-Err-2.error asked c.in-Err-2.ensures.refused in
    search (rules, memory)

pub returns-in-Err-2-clause-kind : goal.returns-in-Err-2-clause-kind
returns-in-Err-2-clause-kind g c one taken =
    let memory = taken_for_memory dsmon_app (map string_bytes c.args.words.now) c.in-Err-2.error taken c.in-Err-2.ensures.refused in
    search (rules, memory)

pub returns-in-Ok-Faults-clause-stopped : goal.returns-in-Ok-Faults-clause-stopped
returns-in-Ok-Faults-clause-stopped g c two =
    let holds = g.F.Files.holds c.args.files.now in
    let old = g.W.Write.contents c.args.out.now in
    let new = g.W.Write.contents c.list_file.new.out in
    let lists = subst (λ (came : Listing). Lists came holds c.in-Ok-Ok-List.request old new) c.in-Ok-Faults.field-0-is c.in-Ok-Faults.ensures.ok in
    list_faulty (map string_bytes c.args.words.now) holds (g.F.Files.lacks c.args.files.now) 2 old new _ c.in-Ok-Ok-List.request c.in-Ok-Faults.source.text.items c.in-Ok-Faults.source.faults.items refl (search rules) lists.0 lists.1 (search rules)

pub returns-in-Ok-Faults-bare_file-clause-stopped : goal.returns-in-Ok-Faults-bare_file-clause-stopped
returns-in-Ok-Faults-bare_file-clause-stopped g c two =
    let holds = g.F.Files.holds c.args.files.now in
    let old = g.W.Write.contents c.args.out.now in
    let new = g.W.Write.contents c.bare_file.new.out in
    let runs = subst (λ (came : Listing). RunsOrIsFaulty came holds c.in-Ok-Ok-Bare.request old new) c.in-Ok-Faults-bare_file.field-0-is c.in-Ok-Faults-bare_file.ensures.ok in
    bare_faulty (map string_bytes c.args.words.now) holds (g.F.Files.lacks c.args.files.now) 2 old new _ c.in-Ok-Ok-Bare.request c.in-Ok-Faults-bare_file.source.text.items c.in-Ok-Faults-bare_file.source.faults.items refl (search rules) runs.0 runs.1 (search rules)

pub returns-in-Ok-Noted-clause-stopped : goal.returns-in-Ok-Noted-clause-stopped
returns-in-Ok-Noted-clause-stopped g c two =
    let holds = g.F.Files.holds c.args.files.now in
    let old = g.W.Write.contents c.args.out.now in
    let new = g.W.Write.contents c.check_files.new.out in
    let checks = subst (λ (came : Checking). Checks came holds c.in-Ok-Ok-Check.request old new) c.in-Ok-Noted.field-0-is c.in-Ok-Noted.ensures.ok in
    check_noted (map string_bytes c.args.words.now) holds (g.F.Files.lacks c.args.files.now) 2 old new _ c.in-Ok-Ok-Check.request c.in-Ok-Noted.notes.items refl (search rules) checks.0 checks.1 (search rules)

pub returns-in-Err-trace_request-clause-asked : goal.returns-in-Err-trace_request-clause-asked
returns-in-Err-trace_request-clause-asked g c done = inr (inr (inr (inr (inr (inl (c.in-Ok-Ok-Trace.request, search rules))))))

pub returns-in-Err-check_files-clause-done : goal.returns-in-Err-check_files-clause-done
returns-in-Err-check_files-clause-done g c zero =
    absurd (no_fault_is_done (failure_number c.in-Err-check_files.refused.failure) (sym c.tell_refused.ensures.status ∙ zero))

pub returns-in-Ok-clause-reads : goal.returns-in-Ok-clause-reads
returns-in-Ok-clause-reads g c = no_file_asked 0 (map string_bytes c.args.words.now) (g.F.Files.holds c.args.files.now) (g.F.Files.asked c.args.files.now)

pub returns-in-Err-run_request-clause-reads : goal.returns-in-Err-run_request-clause-reads
returns-in-Err-run_request-clause-reads g c =
    run_reads_until c.tell-in-Err-run_request.result (map string_bytes c.args.words.now) (g.F.Files.holds c.args.files.now)
    (g.F.Files.asked c.args.files.now) (g.F.Files.asked c.run_request.new.files) c.in-Ok-Ok-Run.request c.in-Err-run_request.failure
    c.tell-in-Err-run_request.ensures.status (search rules) c.in-Err-run_request.ensures.reads_until

pub returns-in-Err-trace_request-clause-reads : goal.returns-in-Err-trace_request-clause-reads
returns-in-Err-trace_request-clause-reads g c =
    trace_reads_until c.tell-in-Err-trace_request.result (map string_bytes c.args.words.now) (g.F.Files.holds c.args.files.now)
    (g.F.Files.asked c.args.files.now) (g.F.Files.asked c.trace_request.new.files) c.in-Ok-Ok-Trace.request c.in-Err-trace_request.failure
    c.tell-in-Err-trace_request.ensures.status (search rules) c.in-Err-trace_request.ensures.reads_until

pub returns-in-Err-list_file-clause-reads : goal.returns-in-Err-list_file-clause-reads
returns-in-Err-list_file-clause-reads g c =
    list_reads_until c.tell-in-Err-list_file.result (map string_bytes c.args.words.now) (g.F.Files.holds c.args.files.now)
    (g.F.Files.asked c.args.files.now) (g.F.Files.asked c.list_file.new.files) c.in-Ok-Ok-List.request c.in-Err-list_file.unlisted
    c.tell-in-Err-list_file.ensures.status (search rules) c.in-Err-list_file.ensures.reads_until

pub returns-in-Ok-Explained-clause-reads : goal.returns-in-Ok-Explained-clause-reads
returns-in-Ok-Explained-clause-reads g c =
    check_reads 0 (map string_bytes c.args.words.now) (g.F.Files.holds c.args.files.now) (g.F.Files.asked c.args.files.now)
    (g.F.Files.asked c.check_files.new.files) c.in-Ok-Ok-Check.request (search rules) c.in-Ok-Explained.ensures.reads

pub returns-in-Ok-Noted-clause-reads : goal.returns-in-Ok-Noted-clause-reads
returns-in-Ok-Noted-clause-reads g c =
    check_reads c.tell_notes.result (map string_bytes c.args.words.now) (g.F.Files.holds c.args.files.now) (g.F.Files.asked c.args.files.now)
    (g.F.Files.asked c.check_files.new.files) c.in-Ok-Ok-Check.request (search rules) c.in-Ok-Noted.ensures.reads

pub returns-in-Err-check_files-clause-reads : goal.returns-in-Err-check_files-clause-reads
returns-in-Err-check_files-clause-reads g c =
    check_reads_until c.tell_refused.result (map string_bytes c.args.words.now) (g.F.Files.holds c.args.files.now) (g.F.Files.asked c.args.files.now)
    (g.F.Files.asked c.check_files.new.files) c.in-Ok-Ok-Check.request c.in-Err-check_files.refused.failure c.tell_refused.ensures.status (search rules)
    c.in-Err-check_files.ensures.reads_until

pub returns-in-Err-bare_file-clause-reads : goal.returns-in-Err-bare_file-clause-reads
returns-in-Err-bare_file-clause-reads g c =
    bare_reads_until c.tell-in-Err-bare_file.result (map string_bytes c.args.words.now) (g.F.Files.holds c.args.files.now)
    (g.F.Files.asked c.args.files.now) (g.F.Files.asked c.bare_file.new.files) c.in-Ok-Ok-Bare.request c.in-Err-bare_file.failure
    c.tell-in-Err-bare_file.ensures.status (search rules) c.in-Err-bare_file.ensures.reads_until

pub returns-in-Err-trace_request-clause-stopped : goal.returns-in-Err-trace_request-clause-stopped
returns-in-Err-trace_request-clause-stopped g c two =
    trace_stopped (map string_bytes c.args.words.now) (g.F.Files.holds c.args.files.now) (g.F.Files.lacks c.args.files.now) 2
    (g.W.Write.contents c.args.out.now) (g.W.Write.contents c.trace_request.new.out) _ c.in-Ok-Ok-Trace.request c.in-Err-trace_request.failure
    (sym c.tell-in-Err-trace_request.ensures.status ∙ two) (search rules) c.in-Err-trace_request.ensures.err (search rules)

pub returns-in-Err-trace_request-clause-failed : goal.returns-in-Err-trace_request-clause-failed
returns-in-Err-trace_request-clause-failed g c three =
    inr (inl (trace_stopped (map string_bytes c.args.words.now) (g.F.Files.holds c.args.files.now) (g.F.Files.lacks c.args.files.now) 3
    (g.W.Write.contents c.args.out.now) (g.W.Write.contents c.trace_request.new.out) _ c.in-Ok-Ok-Trace.request c.in-Err-trace_request.failure
    (sym c.tell-in-Err-trace_request.ensures.status ∙ three) (search rules) c.in-Err-trace_request.ensures.err (search rules)))

pub returns-in-Ok-run_request-clause-done : goal.returns-in-Ok-run_request-clause-done
returns-in-Ok-run_request-clause-done g c is =
    let asks = asks_run (map string_bytes c.args.words.now) c.wish_of.result c.in-Ok-Ok-Run.field-0 c.in-Ok-Ok-Run.is c.in-Ok-Ok-Run.field-0-0
    c.in-Ok-Ok-Run.request c.in-Ok-Ok-Run.field-0-is c.in-Ok-Ok-Run.field-0-0-is c.wish_of.ensures.run in
    run_done (map string_bytes c.args.words.now) (g.F.Files.holds c.args.files.now) c.in-Ok-run_request.outcome (g.W.Write.contents c.args.out.now)
    (g.W.Write.contents c.run_request.new.out) c.in-Ok-Ok-Run.request asks c.in-Ok-run_request.ensures.ok _ c.tell_outcome.ensures.told _
    (sym c.tell_outcome.ensures.status ∙ is)

pub returns-in-Ok-run_request-clause-unended : goal.returns-in-Ok-run_request-clause-unended
returns-in-Ok-run_request-clause-unended g c is =
    let asks = asks_run (map string_bytes c.args.words.now) c.wish_of.result c.in-Ok-Ok-Run.field-0 c.in-Ok-Ok-Run.is c.in-Ok-Ok-Run.field-0-0
    c.in-Ok-Ok-Run.request c.in-Ok-Ok-Run.field-0-is c.in-Ok-Ok-Run.field-0-0-is c.wish_of.ensures.run in
    run_unended (map string_bytes c.args.words.now) (g.F.Files.holds c.args.files.now) c.in-Ok-run_request.outcome (g.W.Write.contents c.args.out.now)
    (g.W.Write.contents c.run_request.new.out) c.in-Ok-Ok-Run.request asks c.in-Ok-run_request.ensures.ok _ c.tell_outcome.ensures.told
    (sym c.tell_outcome.ensures.status ∙ is)

pub returns-in-Ok-run_request-clause-cut : goal.returns-in-Ok-run_request-clause-cut
returns-in-Ok-run_request-clause-cut g c is =
    let asks = asks_run (map string_bytes c.args.words.now) c.wish_of.result c.in-Ok-Ok-Run.field-0 c.in-Ok-Ok-Run.is c.in-Ok-Ok-Run.field-0-0
    c.in-Ok-Ok-Run.request c.in-Ok-Ok-Run.field-0-is c.in-Ok-Ok-Run.field-0-0-is c.wish_of.ensures.run in
    run_cut_by (map string_bytes c.args.words.now) (g.F.Files.holds c.args.files.now) c.in-Ok-run_request.outcome (g.W.Write.contents c.args.out.now)
    (g.W.Write.contents c.run_request.new.out) c.in-Ok-Ok-Run.request asks c.in-Ok-run_request.ensures.ok (sym c.tell_outcome.ensures.status ∙ is)

pub returns-in-Ok-run_request-clause-failed : goal.returns-in-Ok-run_request-clause-failed
returns-in-Ok-run_request-clause-failed g c is =
    let asks = asks_run (map string_bytes c.args.words.now) c.wish_of.result c.in-Ok-Ok-Run.field-0 c.in-Ok-Ok-Run.is c.in-Ok-Ok-Run.field-0-0
    c.in-Ok-Ok-Run.request c.in-Ok-Ok-Run.field-0-is c.in-Ok-Ok-Run.field-0-0-is c.wish_of.ensures.run in
    inr (inr (run_much (map string_bytes c.args.words.now) (g.F.Files.holds c.args.files.now) c.in-Ok-run_request.outcome
    (g.W.Write.contents c.args.out.now) (g.W.Write.contents c.run_request.new.out) c.in-Ok-Ok-Run.request asks c.in-Ok-run_request.ensures.ok _
    c.tell_outcome.ensures.told (sym c.tell_outcome.ensures.status ∙ is)))

pub returns-in-Ok-run_request-clause-silent : goal.returns-in-Ok-run_request-clause-silent
returns-in-Ok-run_request-clause-silent g c is none =
    let asks = asks_run (map string_bytes c.args.words.now) c.wish_of.result c.in-Ok-Ok-Run.field-0 c.in-Ok-Ok-Run.is c.in-Ok-Ok-Run.field-0-0
    c.in-Ok-Ok-Run.request c.in-Ok-Ok-Run.field-0-is c.in-Ok-Ok-Run.field-0-0-is c.wish_of.ensures.run in
    c.tell_outcome.ensures.silent (run_untold (map string_bytes c.args.words.now) (g.F.Files.holds c.args.files.now) c.in-Ok-run_request.outcome
    (g.W.Write.contents c.args.out.now) (g.W.Write.contents c.run_request.new.out) c.in-Ok-Ok-Run.request asks c.in-Ok-run_request.ensures.ok
    (none.run c.in-Ok-Ok-Run.request asks) (sym c.tell_outcome.ensures.status ∙ is))

pub returns-in-Ok-run_request-clause-reads : goal.returns-in-Ok-run_request-clause-reads
returns-in-Ok-run_request-clause-reads g c =
    let asks = asks_run (map string_bytes c.args.words.now) c.wish_of.result c.in-Ok-Ok-Run.field-0 c.in-Ok-Ok-Run.is c.in-Ok-Ok-Run.field-0-0
    c.in-Ok-Ok-Run.request c.in-Ok-Ok-Run.field-0-is c.in-Ok-Ok-Run.field-0-0-is c.wish_of.ensures.run in
    run_reads c.tell_outcome.result (map string_bytes c.args.words.now) (g.F.Files.holds c.args.files.now) (g.F.Files.asked c.args.files.now)
    (g.F.Files.asked c.run_request.new.files) c.in-Ok-Ok-Run.request asks c.in-Ok-run_request.ensures.reads

pub returns-in-Ok-trace_request-clause-done : goal.returns-in-Ok-trace_request-clause-done
returns-in-Ok-trace_request-clause-done g c is =
    let asks = asks_trace (map string_bytes c.args.words.now) c.wish_of.result c.in-Ok-Ok-Trace.field-0 c.in-Ok-Ok-Trace.is c.in-Ok-Ok-Trace.field-0-0
    c.in-Ok-Ok-Trace.request c.in-Ok-Ok-Trace.field-0-is c.in-Ok-Ok-Trace.field-0-0-is c.wish_of.ensures.trace in
    trace_done (map string_bytes c.args.words.now) (g.F.Files.holds c.args.files.now) c.in-Ok-trace_request.outcome (g.W.Write.contents c.args.out.now)
    (g.W.Write.contents c.trace_request.new.out) c.in-Ok-Ok-Trace.request asks c.in-Ok-trace_request.ensures.ok _
    c.tell_outcome-in-Ok-trace_request.ensures.told _ (sym c.tell_outcome-in-Ok-trace_request.ensures.status ∙ is)

pub returns-in-Ok-trace_request-clause-unended : goal.returns-in-Ok-trace_request-clause-unended
returns-in-Ok-trace_request-clause-unended g c is =
    let asks = asks_trace (map string_bytes c.args.words.now) c.wish_of.result c.in-Ok-Ok-Trace.field-0 c.in-Ok-Ok-Trace.is c.in-Ok-Ok-Trace.field-0-0
    c.in-Ok-Ok-Trace.request c.in-Ok-Ok-Trace.field-0-is c.in-Ok-Ok-Trace.field-0-0-is c.wish_of.ensures.trace in
    trace_unended (map string_bytes c.args.words.now) (g.F.Files.holds c.args.files.now) c.in-Ok-trace_request.outcome (g.W.Write.contents c.args.out.now)
    (g.W.Write.contents c.trace_request.new.out) c.in-Ok-Ok-Trace.request asks c.in-Ok-trace_request.ensures.ok _
    c.tell_outcome-in-Ok-trace_request.ensures.told (sym c.tell_outcome-in-Ok-trace_request.ensures.status ∙ is)

pub returns-in-Ok-trace_request-clause-cut : goal.returns-in-Ok-trace_request-clause-cut
returns-in-Ok-trace_request-clause-cut g c is =
    let asks = asks_trace (map string_bytes c.args.words.now) c.wish_of.result c.in-Ok-Ok-Trace.field-0 c.in-Ok-Ok-Trace.is c.in-Ok-Ok-Trace.field-0-0
    c.in-Ok-Ok-Trace.request c.in-Ok-Ok-Trace.field-0-is c.in-Ok-Ok-Trace.field-0-0-is c.wish_of.ensures.trace in
    absurd (trace_never_much (map string_bytes c.args.words.now) (g.F.Files.holds c.args.files.now) c.in-Ok-trace_request.outcome
    (g.W.Write.contents c.args.out.now) (g.W.Write.contents c.trace_request.new.out) c.in-Ok-Ok-Trace.request asks c.in-Ok-trace_request.ensures.ok
    (sym c.tell_outcome-in-Ok-trace_request.ensures.status ∙ is))

pub returns-in-Ok-trace_request-clause-failed : goal.returns-in-Ok-trace_request-clause-failed
returns-in-Ok-trace_request-clause-failed g c is =
    let asks = asks_trace (map string_bytes c.args.words.now) c.wish_of.result c.in-Ok-Ok-Trace.field-0 c.in-Ok-Ok-Trace.is c.in-Ok-Ok-Trace.field-0-0
    c.in-Ok-Ok-Trace.request c.in-Ok-Ok-Trace.field-0-is c.in-Ok-Ok-Trace.field-0-0-is c.wish_of.ensures.trace in
    absurd (trace_never_much (map string_bytes c.args.words.now) (g.F.Files.holds c.args.files.now) c.in-Ok-trace_request.outcome
    (g.W.Write.contents c.args.out.now) (g.W.Write.contents c.trace_request.new.out) c.in-Ok-Ok-Trace.request asks c.in-Ok-trace_request.ensures.ok
    (sym c.tell_outcome-in-Ok-trace_request.ensures.status ∙ is))

pub returns-in-Ok-trace_request-clause-asked : goal.returns-in-Ok-trace_request-clause-asked
returns-in-Ok-trace_request-clause-asked g c done =
    let asks = asks_trace (map string_bytes c.args.words.now) c.wish_of.result c.in-Ok-Ok-Trace.field-0 c.in-Ok-Ok-Trace.is c.in-Ok-Ok-Trace.field-0-0
    c.in-Ok-Ok-Trace.request c.in-Ok-Ok-Trace.field-0-is c.in-Ok-Ok-Trace.field-0-0-is c.wish_of.ensures.trace in
    inr (inr (inr (inr (inr (inl (c.in-Ok-Ok-Trace.request, asks))))))

pub returns-in-Ok-trace_request-clause-silent : goal.returns-in-Ok-trace_request-clause-silent
returns-in-Ok-trace_request-clause-silent g c is none =
    let asks = asks_trace (map string_bytes c.args.words.now) c.wish_of.result c.in-Ok-Ok-Trace.field-0 c.in-Ok-Ok-Trace.is c.in-Ok-Ok-Trace.field-0-0
    c.in-Ok-Ok-Trace.request c.in-Ok-Ok-Trace.field-0-is c.in-Ok-Ok-Trace.field-0-0-is c.wish_of.ensures.trace in
    c.tell_outcome-in-Ok-trace_request.ensures.silent (trace_untold (map string_bytes c.args.words.now) (g.F.Files.holds c.args.files.now)
    c.in-Ok-trace_request.outcome (g.W.Write.contents c.args.out.now) (g.W.Write.contents c.trace_request.new.out) c.in-Ok-Ok-Trace.request asks
    c.in-Ok-trace_request.ensures.ok (none.trace c.in-Ok-Ok-Trace.request asks) (sym c.tell_outcome-in-Ok-trace_request.ensures.status ∙ is))

pub returns-in-Ok-trace_request-clause-reads : goal.returns-in-Ok-trace_request-clause-reads
returns-in-Ok-trace_request-clause-reads g c =
    let asks = asks_trace (map string_bytes c.args.words.now) c.wish_of.result c.in-Ok-Ok-Trace.field-0 c.in-Ok-Ok-Trace.is c.in-Ok-Ok-Trace.field-0-0
    c.in-Ok-Ok-Trace.request c.in-Ok-Ok-Trace.field-0-is c.in-Ok-Ok-Trace.field-0-0-is c.wish_of.ensures.trace in
    trace_reads c.tell_outcome-in-Ok-trace_request.result (map string_bytes c.args.words.now) (g.F.Files.holds c.args.files.now)
    (g.F.Files.asked c.args.files.now) (g.F.Files.asked c.trace_request.new.files) c.in-Ok-Ok-Trace.request asks c.in-Ok-trace_request.ensures.reads

pub returns-in-Err-run_demo-clause-unended : goal.returns-in-Err-run_demo-clause-unended
returns-in-Err-run_demo-clause-unended g c is = absurd (no_fault_is_unended (fault_number c.in-Err-run_demo.fault) (sym c.tell.ensures.status ∙ is))

pub returns-in-Err-run_request-clause-unended : goal.returns-in-Err-run_request-clause-unended
returns-in-Err-run_request-clause-unended g c is =
    absurd (no_fault_is_unended (failure_number c.in-Err-run_request.failure) (sym c.tell-in-Err-run_request.ensures.status ∙ is))

pub returns-in-Err-trace_request-clause-unended : goal.returns-in-Err-trace_request-clause-unended
returns-in-Err-trace_request-clause-unended g c is =
    absurd (no_fault_is_unended (failure_number c.in-Err-trace_request.failure) (sym c.tell-in-Err-trace_request.ensures.status ∙ is))

pub returns-in-Err-list_file-clause-unended : goal.returns-in-Err-list_file-clause-unended
returns-in-Err-list_file-clause-unended g c is =
    absurd (no_fault_is_unended (failure_number c.in-Err-list_file.unlisted) (sym c.tell-in-Err-list_file.ensures.status ∙ is))

pub returns-in-Err-bare_file-clause-unended : goal.returns-in-Err-bare_file-clause-unended
returns-in-Err-bare_file-clause-unended g c is =
    absurd (no_fault_is_unended (failure_number c.in-Err-bare_file.failure) (sym c.tell-in-Err-bare_file.ensures.status ∙ is))

pub returns-in-Err-check_files-clause-unended : goal.returns-in-Err-check_files-clause-unended
returns-in-Err-check_files-clause-unended g c is =
    absurd (no_fault_is_unended (failure_number c.in-Err-check_files.refused.failure) (sym c.tell_refused.ensures.status ∙ is))

pub returns-in-Ok-Err-Kind-clause-taken : goal.returns-in-Ok-Err-Kind-clause-taken
returns-in-Ok-Err-Kind-clause-taken g c asks =
    absurd (asks_nothing (map string_bytes c.args.words.now) c.wish_of.result c.in-Ok-Err-Kind.field-0 c.in-Ok-Err-Kind.is c.in-Ok-Err-Kind.field-0-0
    c.in-Ok-Err-Kind.field-0-is c.wish_of.ensures.none asks)

pub returns-in-Ok-Err-Kind-clause-alone : goal.returns-in-Ok-Err-Kind-clause-alone
returns-in-Ok-Err-Kind-clause-alone g c program same =
    absurd (asks_nothing (map string_bytes c.args.words.now) c.wish_of.result c.in-Ok-Err-Kind.field-0 c.in-Ok-Err-Kind.is c.in-Ok-Err-Kind.field-0-0
    c.in-Ok-Err-Kind.field-0-is c.wish_of.ensures.none (inl (alone program _ same)))

pub returns-in-Ok-Err-Memory-clause-taken : goal.returns-in-Ok-Err-Memory-clause-taken
returns-in-Ok-Err-Memory-clause-taken g c asks =
    absurd (asks_nothing (map string_bytes c.args.words.now) c.wish_of.result c.in-Ok-Err-Memory.field-0 c.in-Ok-Err-Memory.is c.in-Ok-Err-Memory.field-0-0
    c.in-Ok-Err-Memory.field-0-is c.wish_of.ensures.none asks)

pub returns-in-Ok-Err-Memory-clause-alone : goal.returns-in-Ok-Err-Memory-clause-alone
returns-in-Ok-Err-Memory-clause-alone g c program same =
    absurd (asks_nothing (map string_bytes c.args.words.now) c.wish_of.result c.in-Ok-Err-Memory.field-0 c.in-Ok-Err-Memory.is c.in-Ok-Err-Memory.field-0-0
    c.in-Ok-Err-Memory.field-0-is c.wish_of.ensures.none (inl (alone program _ same)))

pub returns-in-Ok-Err-Memory-clause-memory : goal.returns-in-Ok-Err-Memory-clause-memory
returns-in-Ok-Err-Memory-clause-memory g c one taken misnames =
    told_so c.send-in-Ok-Err-Memory.result (g.E.Output.contents c.args.err.now) (g.E.Output.contents c.send-in-Ok-Err-Memory.new.out)
    (g.E.Output.answers c.args.err.now) (g.E.Output.answers c.send-in-Ok-Err-Memory.new.out)
    (codes "dsmon: --memory takes P:ADDRESS:COUNT, as 1:00410000:8, at most eight times\n") c.send-in-Ok-Err-Memory.ensures.ok
    c.send-in-Ok-Err-Memory.ensures.err c.send-in-Ok-Err-Memory.ensures.once

pub returns-in-Ok-Err-Bare-clause-taken : goal.returns-in-Ok-Err-Bare-clause-taken
returns-in-Ok-Err-Bare-clause-taken g c asks =
    absurd (asks_nothing (map string_bytes c.args.words.now) c.wish_of.result c.in-Ok-Err-Bare.field-0 c.in-Ok-Err-Bare.is c.in-Ok-Err-Bare.field-0-0
    c.in-Ok-Err-Bare.field-0-is c.wish_of.ensures.none asks)

pub returns-in-Ok-Err-Bare-clause-alone : goal.returns-in-Ok-Err-Bare-clause-alone
returns-in-Ok-Err-Bare-clause-alone g c program same =
    absurd (asks_nothing (map string_bytes c.args.words.now) c.wish_of.result c.in-Ok-Err-Bare.field-0 c.in-Ok-Err-Bare.is c.in-Ok-Err-Bare.field-0-0
    c.in-Ok-Err-Bare.field-0-is c.wish_of.ensures.none (inl (alone program _ same)))

pub run_request-requires : goal.run_request-requires
run_request-requires g c =
    let asks = asks_run (map string_bytes c.args.words.now) c.wish_of.result c.in-Ok-Ok-Run.field-0 c.in-Ok-Ok-Run.is c.in-Ok-Ok-Run.field-0-0
    c.in-Ok-Ok-Run.request c.in-Ok-Ok-Run.field-0-is c.in-Ok-Ok-Run.field-0-0-is c.wish_of.ensures.run in
    asks.names.extras.windows

pub trace_request-requires : goal.trace_request-requires
trace_request-requires g c =
    let asks = asks_trace (map string_bytes c.args.words.now) c.wish_of.result c.in-Ok-Ok-Trace.field-0 c.in-Ok-Ok-Trace.is c.in-Ok-Ok-Trace.field-0-0
    c.in-Ok-Ok-Trace.request c.in-Ok-Ok-Trace.field-0-is c.in-Ok-Ok-Trace.field-0-0-is c.wish_of.ensures.trace in
    asks.names.extras.windows

pub returns-in-Ok-Over-clause-asked : goal.returns-in-Ok-Over-clause-asked
returns-in-Ok-Over-clause-asked g c done =
    let asks = asks_debug (map string_bytes c.args.words.now) c.wish_of.result c.in-Ok-Ok-Debug.field-0 c.in-Ok-Ok-Debug.is c.in-Ok-Ok-Debug.field-0-0
    c.in-Ok-Ok-Debug.request c.in-Ok-Ok-Debug.field-0-is c.in-Ok-Ok-Debug.field-0-0-is c.wish_of.ensures.debug in
    inr (inr (inr (inr (inr (inr (inl (c.in-Ok-Ok-Debug.request, asks)))))))

pub returns-in-Ok-Unread-clause-asked : goal.returns-in-Ok-Unread-clause-asked
returns-in-Ok-Unread-clause-asked g c done =
    let asks = asks_debug (map string_bytes c.args.words.now) c.wish_of.result c.in-Ok-Ok-Debug.field-0 c.in-Ok-Ok-Debug.is c.in-Ok-Ok-Debug.field-0-0
    c.in-Ok-Ok-Debug.request c.in-Ok-Ok-Debug.field-0-is c.in-Ok-Ok-Debug.field-0-0-is c.wish_of.ensures.debug in
    inr (inr (inr (inr (inr (inr (inl (c.in-Ok-Ok-Debug.request, asks)))))))

pub returns-in-Err-debug_files-clause-asked : goal.returns-in-Err-debug_files-clause-asked
returns-in-Err-debug_files-clause-asked g c done =
    let asks = asks_debug (map string_bytes c.args.words.now) c.wish_of.result c.in-Ok-Ok-Debug.field-0 c.in-Ok-Ok-Debug.is c.in-Ok-Ok-Debug.field-0-0
    c.in-Ok-Ok-Debug.request c.in-Ok-Ok-Debug.field-0-is c.in-Ok-Ok-Debug.field-0-0-is c.wish_of.ensures.debug in
    inr (inr (inr (inr (inr (inr (inl (c.in-Ok-Ok-Debug.request, asks)))))))

pub returns-in-Ok-Over-clause-done : goal.returns-in-Ok-Over-clause-done
returns-in-Ok-Over-clause-done g c zero =
    let asks = asks_debug (map string_bytes c.args.words.now) c.wish_of.result c.in-Ok-Ok-Debug.field-0 c.in-Ok-Ok-Debug.is c.in-Ok-Ok-Debug.field-0-0
    c.in-Ok-Ok-Debug.request c.in-Ok-Ok-Debug.field-0-is c.in-Ok-Ok-Debug.field-0-0-is c.wish_of.ensures.debug in
    let held = subst (λ (ending : Ending). HasDebugged ending (g.F.Files.holds c.args.files.now) c.in-Ok-Ok-Debug.request (pipes (g.R.Read.remaining c.args.input.now) (g.R.Read.remaining c.debug_files.new.input) (g.W.Write.contents c.args.out.now) (g.W.Write.contents c.debug_files.new.out))) c.in-Ok-Over.field-0-is c.in-Ok-Over.ensures.ok in
    debug_done (map string_bytes c.args.words.now) (g.F.Files.holds c.args.files.now) c.in-Ok-Ok-Debug.request (g.W.Write.contents c.args.out.now) (g.W.Write.contents c.debug_files.new.out) asks (stream (g.R.Read.remaining c.args.input.now) (g.R.Read.remaining c.debug_files.new.input)) _ held

pub returns-in-Ok-Over-clause-reads : goal.returns-in-Ok-Over-clause-reads
returns-in-Ok-Over-clause-reads g c =
    let asks = asks_debug (map string_bytes c.args.words.now) c.wish_of.result c.in-Ok-Ok-Debug.field-0 c.in-Ok-Ok-Debug.is c.in-Ok-Ok-Debug.field-0-0
    c.in-Ok-Ok-Debug.request c.in-Ok-Ok-Debug.field-0-is c.in-Ok-Ok-Debug.field-0-0-is c.wish_of.ensures.debug in
    debug_reads 0 (map string_bytes c.args.words.now) (g.F.Files.holds c.args.files.now) (g.F.Files.asked c.args.files.now) (g.F.Files.asked c.debug_files.new.files) c.in-Ok-Ok-Debug.request asks c.in-Ok-Over.ensures.reads

pub returns-in-Ok-Unread-clause-reads : goal.returns-in-Ok-Unread-clause-reads
returns-in-Ok-Unread-clause-reads g c =
    let asks = asks_debug (map string_bytes c.args.words.now) c.wish_of.result c.in-Ok-Ok-Debug.field-0 c.in-Ok-Ok-Debug.is c.in-Ok-Ok-Debug.field-0-0
    c.in-Ok-Ok-Debug.request c.in-Ok-Ok-Debug.field-0-is c.in-Ok-Ok-Debug.field-0-0-is c.wish_of.ensures.debug in
    debug_reads c.tell_unread.result (map string_bytes c.args.words.now) (g.F.Files.holds c.args.files.now) (g.F.Files.asked c.args.files.now) (g.F.Files.asked c.debug_files.new.files) c.in-Ok-Ok-Debug.request asks c.in-Ok-Unread.ensures.reads

pub returns-in-Ok-Unread-clause-cut : goal.returns-in-Ok-Unread-clause-cut
returns-in-Ok-Unread-clause-cut g c three =
    let asks = asks_debug (map string_bytes c.args.words.now) c.wish_of.result c.in-Ok-Ok-Debug.field-0 c.in-Ok-Ok-Debug.is c.in-Ok-Ok-Debug.field-0-0
    c.in-Ok-Ok-Debug.request c.in-Ok-Ok-Debug.field-0-is c.in-Ok-Ok-Debug.field-0-0-is c.wish_of.ensures.debug in
    let held = subst (λ (ending : Ending). HasDebugged ending (g.F.Files.holds c.args.files.now) c.in-Ok-Ok-Debug.request (pipes (g.R.Read.remaining c.args.input.now) (g.R.Read.remaining c.debug_files.new.input) (g.W.Write.contents c.args.out.now) (g.W.Write.contents c.debug_files.new.out))) c.in-Ok-Unread.field-0-is c.in-Ok-Unread.ensures.ok in
    unheard_cut (map string_bytes c.args.words.now) (g.F.Files.holds c.args.files.now) c.in-Ok-Ok-Debug.request (g.W.Write.contents c.args.out.now) (g.W.Write.contents c.debug_files.new.out) asks (g.R.Read.remaining c.args.input.now) (g.R.Read.remaining c.debug_files.new.input) held

pub returns-in-Ok-Unread-clause-failed : goal.returns-in-Ok-Unread-clause-failed
returns-in-Ok-Unread-clause-failed g c three =
    let asks = asks_debug (map string_bytes c.args.words.now) c.wish_of.result c.in-Ok-Ok-Debug.field-0 c.in-Ok-Ok-Debug.is c.in-Ok-Ok-Debug.field-0-0
    c.in-Ok-Ok-Debug.request c.in-Ok-Ok-Debug.field-0-is c.in-Ok-Ok-Debug.field-0-0-is c.wish_of.ensures.debug in
    let held = subst (λ (ending : Ending). HasDebugged ending (g.F.Files.holds c.args.files.now) c.in-Ok-Ok-Debug.request (pipes (g.R.Read.remaining c.args.input.now) (g.R.Read.remaining c.debug_files.new.input) (g.W.Write.contents c.args.out.now) (g.W.Write.contents c.debug_files.new.out))) c.in-Ok-Unread.field-0-is c.in-Ok-Unread.ensures.ok in
    inr (inl (unheard_stopped (map string_bytes c.args.words.now) (g.F.Files.holds c.args.files.now) c.in-Ok-Ok-Debug.request (g.W.Write.contents c.args.out.now) (g.W.Write.contents c.debug_files.new.out) asks (g.F.Files.lacks c.args.files.now) (g.R.Read.remaining c.args.input.now) (g.R.Read.remaining c.debug_files.new.input) 3 _ refl held c.tell_unread.ensures.told))

pub returns-in-Err-debug_files-clause-reads : goal.returns-in-Err-debug_files-clause-reads
returns-in-Err-debug_files-clause-reads g c =
    let asks = asks_debug (map string_bytes c.args.words.now) c.wish_of.result c.in-Ok-Ok-Debug.field-0 c.in-Ok-Ok-Debug.is c.in-Ok-Ok-Debug.field-0-0
    c.in-Ok-Ok-Debug.request c.in-Ok-Ok-Debug.field-0-is c.in-Ok-Ok-Debug.field-0-0-is c.wish_of.ensures.debug in
    debug_reads_until c.tell-in-Err-debug_files.result (map string_bytes c.args.words.now) (g.F.Files.holds c.args.files.now) (g.F.Files.asked c.args.files.now) (g.F.Files.asked c.debug_files.new.files) c.in-Ok-Ok-Debug.request c.in-Err-debug_files.failure
    c.tell-in-Err-debug_files.ensures.status asks c.in-Err-debug_files.ensures.reads_until

pub returns-in-Err-debug_files-clause-cut : goal.returns-in-Err-debug_files-clause-cut
returns-in-Err-debug_files-clause-cut g c three =
    let asks = asks_debug (map string_bytes c.args.words.now) c.wish_of.result c.in-Ok-Ok-Debug.field-0 c.in-Ok-Ok-Debug.is c.in-Ok-Ok-Debug.field-0-0
    c.in-Ok-Ok-Debug.request c.in-Ok-Ok-Debug.field-0-is c.in-Ok-Ok-Debug.field-0-0-is c.wish_of.ensures.debug in
    debug_cut (map string_bytes c.args.words.now) (g.F.Files.holds c.args.files.now) c.in-Ok-Ok-Debug.request (g.W.Write.contents c.args.out.now) (g.W.Write.contents c.debug_files.new.out) asks (g.F.Files.lacks c.args.files.now) c.in-Err-debug_files.failure c.in-Err-debug_files.ensures.err

pub returns-in-Err-debug_files-clause-stopped : goal.returns-in-Err-debug_files-clause-stopped
returns-in-Err-debug_files-clause-stopped g c two =
    let asks = asks_debug (map string_bytes c.args.words.now) c.wish_of.result c.in-Ok-Ok-Debug.field-0 c.in-Ok-Ok-Debug.is c.in-Ok-Ok-Debug.field-0-0
    c.in-Ok-Ok-Debug.request c.in-Ok-Ok-Debug.field-0-is c.in-Ok-Ok-Debug.field-0-0-is c.wish_of.ensures.debug in
    debug_stopped (map string_bytes c.args.words.now) (g.F.Files.holds c.args.files.now) c.in-Ok-Ok-Debug.request (g.W.Write.contents c.args.out.now) (g.W.Write.contents c.debug_files.new.out) asks (g.F.Files.lacks c.args.files.now) c.in-Err-debug_files.failure 2 _ (sym c.tell-in-Err-debug_files.ensures.status ∙ two) c.in-Err-debug_files.ensures.err c.tell-in-Err-debug_files.ensures.told

pub returns-in-Err-debug_files-clause-failed : goal.returns-in-Err-debug_files-clause-failed
returns-in-Err-debug_files-clause-failed g c three =
    let asks = asks_debug (map string_bytes c.args.words.now) c.wish_of.result c.in-Ok-Ok-Debug.field-0 c.in-Ok-Ok-Debug.is c.in-Ok-Ok-Debug.field-0-0
    c.in-Ok-Ok-Debug.request c.in-Ok-Ok-Debug.field-0-is c.in-Ok-Ok-Debug.field-0-0-is c.wish_of.ensures.debug in
    inr (inl (debug_stopped (map string_bytes c.args.words.now) (g.F.Files.holds c.args.files.now) c.in-Ok-Ok-Debug.request (g.W.Write.contents c.args.out.now) (g.W.Write.contents c.debug_files.new.out) asks (g.F.Files.lacks c.args.files.now) c.in-Err-debug_files.failure 3 _ (sym c.tell-in-Err-debug_files.ensures.status ∙ three) c.in-Err-debug_files.ensures.err c.tell-in-Err-debug_files.ensures.told))

pub returns-in-Err-debug_files-clause-unread : goal.returns-in-Err-debug_files-clause-unread
returns-in-Err-debug_files-clause-unread g c two =
    debug_unwritten (g.F.Files.holds c.args.files.now) (g.F.Files.lacks c.args.files.now) c.in-Ok-Ok-Debug.request c.in-Err-debug_files.failure (g.W.Write.contents c.args.out.now) (g.W.Write.contents c.debug_files.new.out) (sym c.tell-in-Err-debug_files.ensures.status ∙ two) c.in-Err-debug_files.ensures.err

pub returns-in-Err-debug_files-clause-done : goal.returns-in-Err-debug_files-clause-done
returns-in-Err-debug_files-clause-done g c zero = absurd (no_fault_is_done (failure_number c.in-Err-debug_files.failure) (sym c.tell-in-Err-debug_files.ensures.status ∙ zero))

pub returns-in-Err-debug_files-clause-unended : goal.returns-in-Err-debug_files-clause-unended
returns-in-Err-debug_files-clause-unended g c is = absurd (no_fault_is_unended (failure_number c.in-Err-debug_files.failure) (sym c.tell-in-Err-debug_files.ensures.status ∙ is))

pub returns-in-Ok-Unread-clause-taken : goal.returns-in-Ok-Unread-clause-taken
returns-in-Ok-Unread-clause-taken g c asked one = let e : 3 ≡ 1 = sym c.tell_unread.ensures.status ∙ one in omega (arith, e)

pub returns-in-Ok-Unread-clause-alone : goal.returns-in-Ok-Unread-clause-alone
returns-in-Ok-Unread-clause-alone g c program same one = let e : 3 ≡ 1 = sym c.tell_unread.ensures.status ∙ one in omega (arith, e)

pub returns-in-Ok-Unread-clause-refused : goal.returns-in-Ok-Unread-clause-refused
returns-in-Ok-Unread-clause-refused g c one = absurd (let e : 3 ≡ 1 = sym c.tell_unread.ensures.status ∙ one in omega (arith, e))

pub returns-in-Ok-Unread-clause-unasked : goal.returns-in-Ok-Unread-clause-unasked
returns-in-Ok-Unread-clause-unasked g c one = absurd (let e : 3 ≡ 1 = sym c.tell_unread.ensures.status ∙ one in omega (arith, e))

pub returns-in-Ok-Unread-clause-kind : goal.returns-in-Ok-Unread-clause-kind
returns-in-Ok-Unread-clause-kind g c one taken named = absurd (let e : 3 ≡ 1 = sym c.tell_unread.ensures.status ∙ one in omega (arith, e))

pub returns-in-Ok-Unread-clause-memory : goal.returns-in-Ok-Unread-clause-memory
returns-in-Ok-Unread-clause-memory g c one taken misnamed = absurd (let e : 3 ≡ 1 = sym c.tell_unread.ensures.status ∙ one in omega (arith, e))

pub returns-in-Ok-Unread-clause-done : goal.returns-in-Ok-Unread-clause-done
returns-in-Ok-Unread-clause-done g c zero = absurd (let e : 3 ≡ 0 = sym c.tell_unread.ensures.status ∙ zero in omega (arith, e))

pub returns-in-Ok-Unread-clause-unended : goal.returns-in-Ok-Unread-clause-unended
returns-in-Ok-Unread-clause-unended g c four = absurd (let e : 3 ≡ 4 = sym c.tell_unread.ensures.status ∙ four in omega (arith, e))

pub returns-in-Ok-Unread-clause-unread : goal.returns-in-Ok-Unread-clause-unread
returns-in-Ok-Unread-clause-unread g c two = absurd (let e : 3 ≡ 2 = sym c.tell_unread.ensures.status ∙ two in omega (arith, e))

pub returns-in-Ok-Unread-clause-stopped : goal.returns-in-Ok-Unread-clause-stopped
returns-in-Ok-Unread-clause-stopped g c two = absurd (let e : 3 ≡ 2 = sym c.tell_unread.ensures.status ∙ two in omega (arith, e))

pub returns-in-Ok-Unread-clause-silent : goal.returns-in-Ok-Unread-clause-silent
returns-in-Ok-Unread-clause-silent g c zero none = absurd (let e : 3 ≡ 0 = sym c.tell_unread.ensures.status ∙ zero in omega (arith, e))

pub returns-in-Ok-Written-bare_file-clause-reads : goal.returns-in-Ok-Written-bare_file-clause-reads
returns-in-Ok-Written-bare_file-clause-reads g c =
    bare_reads _ (map string_bytes c.args.words.now) (g.F.Files.holds c.args.files.now) (g.F.Files.asked c.args.files.now)
    (g.F.Files.asked c.bare_file.new.files) c.in-Ok-Ok-Bare.request (search rules) c.in-Ok-Written-bare_file.ensures.reads

pub returns-in-Ok-Faults-bare_file-clause-reads : goal.returns-in-Ok-Faults-bare_file-clause-reads
returns-in-Ok-Faults-bare_file-clause-reads g c =
    bare_reads _ (map string_bytes c.args.words.now) (g.F.Files.holds c.args.files.now) (g.F.Files.asked c.args.files.now)
    (g.F.Files.asked c.bare_file.new.files) c.in-Ok-Ok-Bare.request (search rules) c.in-Ok-Faults-bare_file.ensures.reads

pub returns-in-Err-bare_file-clause-stopped : goal.returns-in-Err-bare_file-clause-stopped
returns-in-Err-bare_file-clause-stopped g c two =
    bare_stopped (map string_bytes c.args.words.now) (g.F.Files.holds c.args.files.now) (g.F.Files.lacks c.args.files.now) 2
    (g.W.Write.contents c.args.out.now) (g.W.Write.contents c.bare_file.new.out) _ c.in-Ok-Ok-Bare.request c.in-Err-bare_file.failure
    (sym c.tell-in-Err-bare_file.ensures.status ∙ two) (search rules) c.in-Err-bare_file.ensures.err (search rules)

pub returns-in-Err-bare_file-clause-failed : goal.returns-in-Err-bare_file-clause-failed
returns-in-Err-bare_file-clause-failed g c three =
    inr (inl (bare_stopped (map string_bytes c.args.words.now) (g.F.Files.holds c.args.files.now) (g.F.Files.lacks c.args.files.now) 3
    (g.W.Write.contents c.args.out.now) (g.W.Write.contents c.bare_file.new.out) _ c.in-Ok-Ok-Bare.request c.in-Err-bare_file.failure
    (sym c.tell-in-Err-bare_file.ensures.status ∙ three) (search rules) c.in-Err-bare_file.ensures.err (search rules)))

pub returns-in-Ok-Err-Bare-clause-bare : goal.returns-in-Ok-Err-Bare-clause-bare
returns-in-Ok-Err-Bare-clause-bare g c one taken named =
    told_so c.send-in-Ok-Err-Bare.result (g.E.Output.contents c.args.err.now) (g.E.Output.contents c.send-in-Ok-Err-Bare.new.out)
    (g.E.Output.answers c.args.err.now) (g.E.Output.answers c.send-in-Ok-Err-Bare.new.out)
    bare_words_line c.send-in-Ok-Err-Bare.ensures.ok c.send-in-Ok-Err-Bare.ensures.err c.send-in-Ok-Err-Bare.ensures.once

pub returns-in-Ok-explain_files-clause-asked : goal.returns-in-Ok-explain_files-clause-asked
returns-in-Ok-explain_files-clause-asked g c done =
    let asks = asks_explain (map string_bytes c.args.words.now) c.wish_of.result c.in-Ok-Ok-Explain.field-0 c.in-Ok-Ok-Explain.is c.in-Ok-Ok-Explain.field-0-0
    c.in-Ok-Ok-Explain.request c.in-Ok-Ok-Explain.field-0-is c.in-Ok-Ok-Explain.field-0-0-is c.wish_of.ensures.explain in
    inr (inr (inr (inr (inr (inr (inr (c.in-Ok-Ok-Explain.request, asks)))))))

pub returns-in-Err-explain_files-clause-asked : goal.returns-in-Err-explain_files-clause-asked
returns-in-Err-explain_files-clause-asked g c done =
    let asks = asks_explain (map string_bytes c.args.words.now) c.wish_of.result c.in-Ok-Ok-Explain.field-0 c.in-Ok-Ok-Explain.is c.in-Ok-Ok-Explain.field-0-0
    c.in-Ok-Ok-Explain.request c.in-Ok-Ok-Explain.field-0-is c.in-Ok-Ok-Explain.field-0-0-is c.wish_of.ensures.explain in
    inr (inr (inr (inr (inr (inr (inr (c.in-Ok-Ok-Explain.request, asks)))))))

pub returns-in-Ok-explain_files-clause-done : goal.returns-in-Ok-explain_files-clause-done
returns-in-Ok-explain_files-clause-done g c zero =
    let asks = asks_explain (map string_bytes c.args.words.now) c.wish_of.result c.in-Ok-Ok-Explain.field-0 c.in-Ok-Ok-Explain.is c.in-Ok-Ok-Explain.field-0-0
    c.in-Ok-Ok-Explain.request c.in-Ok-Ok-Explain.field-0-is c.in-Ok-Ok-Explain.field-0-0-is c.wish_of.ensures.explain in
    explain_done (map string_bytes c.args.words.now) (g.F.Files.holds c.args.files.now) c.in-Ok-Ok-Explain.request (g.W.Write.contents c.args.out.now) (g.W.Write.contents c.explain_files.new.out) asks (stream (g.R.Read.remaining c.args.input.now) (g.R.Read.remaining c.args.input.now)) _ c.in-Ok-explain_files.ensures.ok

pub returns-in-Ok-explain_files-clause-reads : goal.returns-in-Ok-explain_files-clause-reads
returns-in-Ok-explain_files-clause-reads g c =
    let asks = asks_explain (map string_bytes c.args.words.now) c.wish_of.result c.in-Ok-Ok-Explain.field-0 c.in-Ok-Ok-Explain.is c.in-Ok-Ok-Explain.field-0-0
    c.in-Ok-Ok-Explain.request c.in-Ok-Ok-Explain.field-0-is c.in-Ok-Ok-Explain.field-0-0-is c.wish_of.ensures.explain in
    explain_reads 0 (map string_bytes c.args.words.now) (g.F.Files.holds c.args.files.now) (g.F.Files.asked c.args.files.now) (g.F.Files.asked c.explain_files.new.files) c.in-Ok-Ok-Explain.request asks c.in-Ok-explain_files.ensures.reads

pub returns-in-Err-explain_files-clause-reads : goal.returns-in-Err-explain_files-clause-reads
returns-in-Err-explain_files-clause-reads g c =
    let asks = asks_explain (map string_bytes c.args.words.now) c.wish_of.result c.in-Ok-Ok-Explain.field-0 c.in-Ok-Ok-Explain.is c.in-Ok-Ok-Explain.field-0-0
    c.in-Ok-Ok-Explain.request c.in-Ok-Ok-Explain.field-0-is c.in-Ok-Ok-Explain.field-0-0-is c.wish_of.ensures.explain in
    explain_reads_until c.tell-in-Err-explain_files.result (map string_bytes c.args.words.now) (g.F.Files.holds c.args.files.now) (g.F.Files.asked c.args.files.now) (g.F.Files.asked c.explain_files.new.files) c.in-Ok-Ok-Explain.request c.in-Err-explain_files.failure
    c.tell-in-Err-explain_files.ensures.status asks c.in-Err-explain_files.ensures.reads_until

pub returns-in-Err-explain_files-clause-cut : goal.returns-in-Err-explain_files-clause-cut
returns-in-Err-explain_files-clause-cut g c three =
    let asks = asks_explain (map string_bytes c.args.words.now) c.wish_of.result c.in-Ok-Ok-Explain.field-0 c.in-Ok-Ok-Explain.is c.in-Ok-Ok-Explain.field-0-0
    c.in-Ok-Ok-Explain.request c.in-Ok-Ok-Explain.field-0-is c.in-Ok-Ok-Explain.field-0-0-is c.wish_of.ensures.explain in
    explain_cut (map string_bytes c.args.words.now) (g.F.Files.holds c.args.files.now) c.in-Ok-Ok-Explain.request (g.W.Write.contents c.args.out.now) (g.W.Write.contents c.explain_files.new.out) asks (g.F.Files.lacks c.args.files.now) c.in-Err-explain_files.failure c.in-Err-explain_files.ensures.err

pub returns-in-Err-explain_files-clause-stopped : goal.returns-in-Err-explain_files-clause-stopped
returns-in-Err-explain_files-clause-stopped g c two =
    let asks = asks_explain (map string_bytes c.args.words.now) c.wish_of.result c.in-Ok-Ok-Explain.field-0 c.in-Ok-Ok-Explain.is c.in-Ok-Ok-Explain.field-0-0
    c.in-Ok-Ok-Explain.request c.in-Ok-Ok-Explain.field-0-is c.in-Ok-Ok-Explain.field-0-0-is c.wish_of.ensures.explain in
    explain_stopped (map string_bytes c.args.words.now) (g.F.Files.holds c.args.files.now) c.in-Ok-Ok-Explain.request (g.W.Write.contents c.args.out.now) (g.W.Write.contents c.explain_files.new.out) asks (g.F.Files.lacks c.args.files.now) c.in-Err-explain_files.failure 2 _ (sym c.tell-in-Err-explain_files.ensures.status ∙ two) c.in-Err-explain_files.ensures.err c.tell-in-Err-explain_files.ensures.told

pub returns-in-Err-explain_files-clause-failed : goal.returns-in-Err-explain_files-clause-failed
returns-in-Err-explain_files-clause-failed g c three =
    let asks = asks_explain (map string_bytes c.args.words.now) c.wish_of.result c.in-Ok-Ok-Explain.field-0 c.in-Ok-Ok-Explain.is c.in-Ok-Ok-Explain.field-0-0
    c.in-Ok-Ok-Explain.request c.in-Ok-Ok-Explain.field-0-is c.in-Ok-Ok-Explain.field-0-0-is c.wish_of.ensures.explain in
    inr (inl (explain_stopped (map string_bytes c.args.words.now) (g.F.Files.holds c.args.files.now) c.in-Ok-Ok-Explain.request (g.W.Write.contents c.args.out.now) (g.W.Write.contents c.explain_files.new.out) asks (g.F.Files.lacks c.args.files.now) c.in-Err-explain_files.failure 3 _ (sym c.tell-in-Err-explain_files.ensures.status ∙ three) c.in-Err-explain_files.ensures.err c.tell-in-Err-explain_files.ensures.told))

pub returns-in-Err-explain_files-clause-unread : goal.returns-in-Err-explain_files-clause-unread
returns-in-Err-explain_files-clause-unread g c two =
    explain_unwritten (g.F.Files.holds c.args.files.now) (g.F.Files.lacks c.args.files.now) c.in-Ok-Ok-Explain.request c.in-Err-explain_files.failure (g.W.Write.contents c.args.out.now) (g.W.Write.contents c.explain_files.new.out) (sym c.tell-in-Err-explain_files.ensures.status ∙ two) c.in-Err-explain_files.ensures.err

pub returns-in-Err-explain_files-clause-done : goal.returns-in-Err-explain_files-clause-done
returns-in-Err-explain_files-clause-done g c zero =
    absurd (no_fault_is_done (failure_number c.in-Err-explain_files.failure) (sym c.tell-in-Err-explain_files.ensures.status ∙ zero))

pub returns-in-Err-explain_files-clause-unended : goal.returns-in-Err-explain_files-clause-unended
returns-in-Err-explain_files-clause-unended g c is =
    absurd (no_fault_is_unended (failure_number c.in-Err-explain_files.failure) (sym c.tell-in-Err-explain_files.ensures.status ∙ is))

pub returns-in-Ok-Written-bare_file-clause-asked : goal.returns-in-Ok-Written-bare_file-clause-asked
returns-in-Ok-Written-bare_file-clause-asked g c done =
    let asks = asks_bare (map string_bytes c.args.words.now) c.wish_of.result c.in-Ok-Ok-Bare.field-0 c.in-Ok-Ok-Bare.is c.in-Ok-Ok-Bare.field-0-0
    c.in-Ok-Ok-Bare.request c.in-Ok-Ok-Bare.field-0-is c.in-Ok-Ok-Bare.field-0-0-is c.wish_of.ensures.bare in
    inr (inr (inr (inr (inl (c.in-Ok-Ok-Bare.request, asks)))))

pub returns-in-Ok-Faults-bare_file-clause-asked : goal.returns-in-Ok-Faults-bare_file-clause-asked
returns-in-Ok-Faults-bare_file-clause-asked g c done =
    let asks = asks_bare (map string_bytes c.args.words.now) c.wish_of.result c.in-Ok-Ok-Bare.field-0 c.in-Ok-Ok-Bare.is c.in-Ok-Ok-Bare.field-0-0
    c.in-Ok-Ok-Bare.request c.in-Ok-Ok-Bare.field-0-is c.in-Ok-Ok-Bare.field-0-0-is c.wish_of.ensures.bare in
    inr (inr (inr (inr (inl (c.in-Ok-Ok-Bare.request, asks)))))

pub returns-in-Err-bare_file-clause-asked : goal.returns-in-Err-bare_file-clause-asked
returns-in-Err-bare_file-clause-asked g c done =
    let asks = asks_bare (map string_bytes c.args.words.now) c.wish_of.result c.in-Ok-Ok-Bare.field-0 c.in-Ok-Ok-Bare.is c.in-Ok-Ok-Bare.field-0-0
    c.in-Ok-Ok-Bare.request c.in-Ok-Ok-Bare.field-0-is c.in-Ok-Ok-Bare.field-0-0-is c.wish_of.ensures.bare in
    inr (inr (inr (inr (inl (c.in-Ok-Ok-Bare.request, asks)))))

pub returns-in-Ok-Written-bare_file-clause-done : goal.returns-in-Ok-Written-bare_file-clause-done
returns-in-Ok-Written-bare_file-clause-done g c zero =
    let asks = asks_bare (map string_bytes c.args.words.now) c.wish_of.result c.in-Ok-Ok-Bare.field-0 c.in-Ok-Ok-Bare.is c.in-Ok-Ok-Bare.field-0-0
    c.in-Ok-Ok-Bare.request c.in-Ok-Ok-Bare.field-0-is c.in-Ok-Ok-Bare.field-0-0-is c.wish_of.ensures.bare in
    let runs = subst (λ (came : Listing). RunsOrIsFaulty came (g.F.Files.holds c.args.files.now) c.in-Ok-Ok-Bare.request (g.W.Write.contents c.args.out.now) (g.W.Write.contents c.bare_file.new.out)) c.in-Ok-Written-bare_file.field-0-is c.in-Ok-Written-bare_file.ensures.ok in
    inr (inr (inr (inr (inl (c.in-Ok-Ok-Bare.request, asks, runs)))))

pub returns-in-Err-run_request-clause-failed : goal.returns-in-Err-run_request-clause-failed
returns-in-Err-run_request-clause-failed g c three =
    let asks = asks_run (map string_bytes c.args.words.now) c.wish_of.result c.in-Ok-Ok-Run.field-0 c.in-Ok-Ok-Run.is c.in-Ok-Ok-Run.field-0-0
    c.in-Ok-Ok-Run.request c.in-Ok-Ok-Run.field-0-is c.in-Ok-Ok-Run.field-0-0-is c.wish_of.ensures.run in
    inr (inl (inr (inl (
      c.in-Ok-Ok-Run.request,
      asks,
      record {
        failure = c.in-Err-run_request.failure;
        has = sym c.tell-in-Err-run_request.ensures.status ∙ three;
        so = c.in-Err-run_request.ensures.err;
        told = c.tell-in-Err-run_request.ensures.told;
      },
    ))))

pub returns-in-Ok-Err-Kind-clause-kind : goal.returns-in-Ok-Err-Kind-clause-kind
returns-in-Ok-Err-Kind-clause-kind g c one taken misnames named =
    told_so c.send.result (g.E.Output.contents c.args.err.now) (g.E.Output.contents c.send.new.out)
    (g.E.Output.answers c.args.err.now) (g.E.Output.answers c.send.new.out)
    (codes "dsmon: --only takes end, calls, denials, switches or units\n") c.send.ensures.ok
    c.send.ensures.err c.send.ensures.once
