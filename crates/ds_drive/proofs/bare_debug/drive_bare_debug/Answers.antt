use Rattle.std.proofs.Common.{◌∙◌, ap, map, rules, string_bytes, subst}
use Rattle.std.specs.Prelude.{Result, Ok}
use Rattle.ds_gdb.specs.Serving.{pipes}
use Rattle.ds_gdb.specs.declared.serving.Ending.{Ending}
use Rattle.ds_drive.specs.declared.refused.FaultySource.{FaultySource}
use Rattle.ds_drive.specs.Inner.BareDebugged.{IsBareSession}
use Rattle.ds_drive.proofs.BareDebugging.{session_faulty, session_reads_until, session_unheard}
use Rattle.ds_drive.proofs.bare_debug.drive_bare_debug.Goals as goal

pub returns-in-Ok-Ok-Unread-clause-stopped : goal.returns-in-Ok-Ok-Unread-clause-stopped
returns-in-Ok-Ok-Unread-clause-stopped g c is =
    session_unheard (map string_bytes c.args.words.now) (g.F.Files.holds c.args.files.now) (g.F.Files.lacks c.args.files.now) c.in-Ok-Some.start
    (pipes (g.R.Read.remaining c.args.input.now) (g.R.Read.remaining c.debug_bare_file.new.input) (g.W.Write.contents c.args.out.now) (g.W.Write.contents c.debug_bare_file.new.out))
    _ (search rules) c.in-Ok-Ok-Unread.field-0 c.tell_unread.result
    (c.in-Ok-Ok-Unread.field-0-is ∙ ap (λ (x : Ending). Ok x) c.in-Ok-Ok-Unread.field-0-0-is) c.tell_unread.ensures.status c.in-Ok-Ok-Unread.ensures.ok c.tell_unread.ensures.told

pub returns-in-Ok-Err-clause-stopped : goal.returns-in-Ok-Err-clause-stopped
returns-in-Ok-Err-clause-stopped g c is =
    let p = pipes (g.R.Read.remaining c.args.input.now) (g.R.Read.remaining c.debug_bare_file.new.input) (g.W.Write.contents c.args.out.now) (g.W.Write.contents c.debug_bare_file.new.out) in
    let so = subst (λ (x : Result Ending FaultySource). IsBareSession x (g.F.Files.holds c.args.files.now) c.in-Ok-Some.start p) c.in-Ok-Err.field-0-is c.in-Ok-Err.ensures.ok in
    session_faulty (map string_bytes c.args.words.now) (g.F.Files.holds c.args.files.now) (g.F.Files.lacks c.args.files.now) c.in-Ok-Some.start p _ (search rules)
    c.in-Ok-Err.source c.tell_faults.result c.tell_faults.ensures.status so.0 so.1 c.tell_faults.ensures.told

pub returns-in-Err-debug_bare_file-clause-reads : goal.returns-in-Err-debug_bare_file-clause-reads
returns-in-Err-debug_bare_file-clause-reads g c =
    session_reads_until c.tell.result (map string_bytes c.args.words.now) (g.F.Files.asked c.args.files.now) (g.F.Files.asked c.debug_bare_file.new.files)
    c.in-Ok-Some.start c.in-Err-debug_bare_file.failure c.tell.ensures.status (search rules) c.in-Err-debug_bare_file.ensures.reads_until
