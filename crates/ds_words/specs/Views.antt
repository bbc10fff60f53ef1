-- Which lines of a trace are told.
use Rattle.std.specs.Prelude.{ℕ, Bool, true, false, not, ◌&&◌, nat_le, nat_lt, [], Option, Some, None}
use Rattle.ds_listing.specs.declared.names.RegisterNames.TheVariants.{Numbers}
use Rattle.ds_words.specs.Sets.{has_process}
use Rattle.ds_words.specs.declared.processes.Processes.{Processes}
use Rattle.ds_words.specs.declared.view.Only.{Only}
use Rattle.ds_words.specs.declared.view.Only.TheVariants.{End, Calls, Denials, Switches, Units}
use Rattle.ds_words.specs.declared.view.View.{View}

-- all lines, with registers by their numbers, and without their sources
abbrev pub whole : View
whole = record { from = 0; to = None; processes = None; only = None; processor = false; entries = false; names = Numbers; source = false; pages = record { ref_ptr = (0, 0); now = [] } }

-- whether the end alone is told
abbrev pub is_end : Option Only → Bool
is_end (Some End) = true
is_end other = false

-- whether anything that happens is told
abbrev pub has_lines : View → Bool
has_lines v = not (is_end v.only)

-- whether a time, or a number of an instruction, is before the end of what is told
abbrev pub is_before : Option ℕ → ℕ → Bool
is_before None began = true
is_before (Some to) began = nat_lt began to

-- whether a turn that began at a time is told
abbrev pub shows_turn : View → ℕ → Bool
shows_turn v began = nat_le v.from began && is_before v.to began

-- whether a process is among those that are named; where none is, each is
abbrev pub is_named : Option Processes → ℕ → Bool
is_named None p = true
is_named (Some named) p = has_process named p

-- whether a process is told of
abbrev pub shows_process : View → ℕ → Bool
shows_process v p = is_named v.processes p

-- whether units are told, by whether they are calls
abbrev pub tells_unit : Option Only → Bool → Bool
tells_unit None call = true
tells_unit (Some Units) call = true
tells_unit (Some Calls) call = call
tells_unit other call = false

-- whether denials are told
abbrev pub tells_denials : Option Only → Bool
tells_denials None = true
tells_denials (Some Denials) = true
tells_denials other = false

-- whether switches are told
abbrev pub tells_switches : Option Only → Bool
tells_switches None = true
tells_switches (Some Switches) = true
tells_switches other = false

-- whether all kinds are told
abbrev pub tells_all : Option Only → Bool
tells_all None = true
tells_all (Some only) = false

-- whether the lines of a process's unit are told, by whether it is a call
abbrev pub shows_unit : View → ℕ → Bool → Bool
shows_unit v p call = tells_unit v.only call && shows_process v p

-- whether it is told what was denied to a process
abbrev pub shows_denials : View → ℕ → Bool
shows_denials v p = tells_denials v.only && shows_process v p

-- whether it is told which process runs, and how each stands
abbrev pub shows_switches : View → Bool
shows_switches v = tells_switches v.only

-- whether it is told which entries there are: where anything that happens is told, and that is wanted
abbrev pub shows_entries : View → Bool
shows_entries v = has_lines v && v.entries

-- whether it is told what else happens at a boundary
abbrev pub shows_rest : View → Bool
shows_rest v = tells_all v.only
