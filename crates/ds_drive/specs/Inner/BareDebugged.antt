-- What a session with a debugger over a run on the bare machine writes, and what is left where there is none.
use Rattle.std.specs.Prelude.{ℕ, List, Result, Ok, Err}
use Rattle.ds_bare_debug.specs.Serving.{IsUntouched}
use Rattle.ds_gdb.specs.Serving.{Pipes}
use Rattle.ds_gdb.specs.declared.serving.Ending.{Ending}
use Rattle.ds_words.specs.declared.words.BareStart.{BareStart}
use Rattle.ds_drive.specs.declared.refused.FaultySource.{FaultySource}
use Rattle.ds_drive.specs.BareDebugged.{HasDebuggedBare}
use Rattle.ds_drive.specs.BareRuns.{HasBareFaults}

-- what comes of it: it was held to this end; or the faults are all that the source has, and nothing is read or written
abbrev pub IsBareSession : Result Ending FaultySource → (List ℕ → List ℕ → Type 0) → BareStart → Pipes → Type 0
IsBareSession (Ok ending) holds start p = HasDebuggedBare ending holds start p
IsBareSession (Err source) holds start p = HasBareFaults holds start source.text.items source.faults.items × IsUntouched p
