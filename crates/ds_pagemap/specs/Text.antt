-- The text that is written of a state.
use Rattle.std.specs.Prelude.{ℕ, List, length, flat_map}
use Rattle.ds_log.specs.Text.{line_text}
use Rattle.ds_log.specs.Report.{report_text}
use Rattle.ds_pagemap.specs.Machine.{State}

-- what is written of a state: its consoles, its log and its time
abbrev pub state_text : State → List ℕ
state_text m = report_text m.consoles (length m.log) (flat_map line_text m.log) m.time
