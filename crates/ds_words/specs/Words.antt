-- What the program's words ask for, over what clap reads of its command line.
use Rattle.std.specs.Prelude.{◌≡◌, ◌⊎◌, ◌<◌, ◌≤◌, ◌^◌, ⊤, ℕ, Bool, List, [], ◌∷◌, Option, Some, None, true, false, codes, option_map}
use Rattle.std.specs.Str.Parse.{IsNumeral, digits_value, without_leading_plus}
use Rattle.std.specs.List.{All}
use Rattle.clap.specs.Words.{App, Row, Rule, Text, all_of, fault_of, first_of, many_of, one_of, new_app, new_rule, subcommand_of, with_rule, with_subcommand}
use Rattle.ds_words.specs.declared.words.BareRequest.{BareRequest}
use Rattle.ds_words.specs.declared.words.BareStart.{BareStart}
use Rattle.ds_words.specs.declared.words.CheckRequest.{CheckRequest}
use Rattle.ds_words.specs.declared.words.ListRequest.{ListRequest}
use Rattle.ds_words.specs.declared.view.Only.{Only}
use Rattle.ds_words.specs.declared.view.Only.TheVariants.{End, Calls, Denials, Switches, Units}
use Rattle.ds_listing.specs.declared.names.RegisterNames.{RegisterNames}
use Rattle.ds_listing.specs.declared.names.RegisterNames.TheVariants.{Common, Numbers}
use Rattle.ds_words.specs.declared.view.View.{View}
use Rattle.ds_words.specs.declared.processes.Processes.{Processes}
use Rattle.ds_words.specs.Sets.{processes_numbered}
use Rattle.ds_words.specs.declared.spans.Span.{Span}
use Rattle.ds_words.specs.declared.bare_view.BareOnly.{BareOnly}
use Rattle.ds_words.specs.declared.bare_view.BareOnly.TheVariants as bare_only
use Rattle.ds_words.specs.declared.bare_view.BareView.{BareView}
use Rattle.ds_words.specs.Spans.{IsSpan, spans_in, WriteSpans}
use Rattle.ds_words.specs.Windows.{IsWindow, WriteWindows, windows_in}
use Rattle.ds_words.specs.declared.windows.Window.{Window}
use Rattle.ds_words.specs.declared.words.ExplainRequest.{ExplainRequest}
use Rattle.ds_words.specs.declared.words.Extras.{Extras}
use Rattle.ds_words.specs.declared.words.Request.{Request}
use Rattle.ds_words.specs.declared.words.RunRequest.{RunRequest}
use Rattle.ds_words.specs.declared.words.TraceRequest.{TraceRequest}
use Rattle.clap.specs.declared.builder.action.ArgAction.TheVariants.{Append, SetTrue}
use Rattle.clap.specs.declared.builder.value_parser.ValueParser.TheVariants.{Unsigned}

-- an argument that has to be there
abbrev pub required_rule : Text → Rule
required_rule id = record (new_rule id) { required = true }

-- a flag that stands among the words or does not
abbrev pub flag_rule : Text → Rule
flag_rule id = record (new_rule id) { long = Some id; action = Some SetTrue }

-- `--memory` with what is wanted of memory, as often as is wanted
abbrev pub texts_rule : Text → Rule
texts_rule id = record (new_rule id) { long = Some (codes "memory"); action = Some Append }

-- N, from 0 to 1000000000
abbrev pub time_rule : Rule
time_rule = record (required_rule (codes "N")) { parser = Some (Unsigned 0 1000000000) }

-- `--random R`, from 0 to 255, and 63 where it is left out
abbrev pub random_rule : Rule
random_rule = record (new_rule (codes "R")) {
  long = Some (codes "random");
  parser = Some (Unsigned 0 255);
  defaults = codes "63" ∷ [];
}

-- with `POLICY INPUT`
abbrev pub of_files : App → App
of_files app = with_rule (with_rule app (required_rule (codes "POLICY"))) (required_rule (codes "INPUT"))

-- `--inside`
abbrev pub inside_rule : Rule
inside_rule = flag_rule (codes "inside")

-- with `POLICY INPUT N [--random R] [--inside]`
abbrev pub of_run : App → App
of_run app = with_rule (with_rule (with_rule (of_files app) time_rule) random_rule) inside_rule

-- `--must-end`
abbrev pub must_end_rule : Rule
must_end_rule = flag_rule (codes "must-end")

-- `--memory P:ADDRESS:COUNT`, as often as is wanted
abbrev pub memory_rule : Rule
memory_rule = texts_rule (codes "P:ADDRESS:COUNT")

-- `--summary`
abbrev pub summary_rule : Rule
summary_rule = flag_rule (codes "summary")

-- with `[--must-end] [--memory P:ADDRESS:COUNT].. [--summary]`
abbrev pub of_end : App → App
of_end app = with_rule (with_rule (with_rule app must_end_rule) memory_rule) summary_rule

-- `--most BYTES`, from 0 to 18446744073709551615
abbrev pub most_rule : Rule
most_rule = record (new_rule (codes "BYTES")) { long = Some (codes "most"); parser = Some (Unsigned 0 18446744073709551615) }

-- `run POLICY INPUT N [--random R] [--inside] [--must-end] [--memory P:ADDRESS:COUNT].. [--summary] [--most BYTES]`
abbrev pub run_app : App
run_app = with_rule (of_end (of_run (new_app (codes "run")))) most_rule

-- `--from T`, a time from 0 to 1000000000, and 0 where it is left out
abbrev pub from_rule : Rule
from_rule = record (new_rule (codes "FROM")) {
  long = Some (codes "from");
  value_names = 1;
  parser = Some (Unsigned 0 1000000000);
  defaults = codes "0" ∷ [];
}

-- `--to T`, a time from 0 to 1000000000
abbrev pub to_rule : Rule
to_rule = record (new_rule (codes "TO")) { long = Some (codes "to"); value_names = 1; parser = Some (Unsigned 0 1000000000) }

-- `--process P`, from 1 to 100, as often as is wanted
abbrev pub process_rule : Rule
process_rule = record (new_rule (codes "P")) { long = Some (codes "process"); action = Some Append; parser = Some (Unsigned 1 100) }

-- `--only KIND`
abbrev pub only_rule : Rule
only_rule = record (new_rule (codes "KIND")) { long = Some (codes "only") }

-- `--processor`
abbrev pub processor_rule : Rule
processor_rule = flag_rule (codes "processor")

-- `--entries`
abbrev pub entries_rule : Rule
entries_rule = flag_rule (codes "entries")

-- with `[--from T] [--to T] [--process P]..`
abbrev pub of_turns : App → App
of_turns app = with_rule (with_rule (with_rule app from_rule) to_rule) process_rule

-- `--source`
abbrev pub source_rule : Rule
source_rule = flag_rule (codes "source")

-- `--names`
abbrev pub names_rule : Rule
names_rule = flag_rule (codes "names")

-- with `[--only KIND] [--processor] [--entries]`
abbrev pub of_lines : App → App
of_lines app = with_rule (with_rule (with_rule app only_rule) processor_rule) entries_rule

-- with `[--source] [--names]`
abbrev pub of_sources : App → App
of_sources app = with_rule (with_rule app source_rule) names_rule

-- `trace POLICY INPUT N [--random R] [--inside] [--must-end] [--memory P:ADDRESS:COUNT].. [--summary] [--from T] [--to T] [--process P].. [--only KIND] [--processor] [--entries] [--source] [--names]`
abbrev pub trace_app : App
trace_app = of_sources (of_lines (of_turns (of_end (of_run (new_app (codes "trace"))))))

-- `--words`
abbrev pub words_rule : Rule
words_rule = flag_rule (codes "words")

-- `list FILE [--words] [--names]`
abbrev pub list_app : App
list_app = with_rule (with_rule (with_rule (new_app (codes "list")) (required_rule (codes "FILE"))) words_rule) names_rule

-- the command line with no command yet: one is wanted, and there is a version
abbrev pub bare_app : App
bare_app = record { top = record (new_app (codes "dsmon")).top { has_version = true; subcommand_required = true }; subs = [] }

-- the command line with the commands that read files
abbrev pub files_app : App
files_app = with_subcommand (with_subcommand (with_subcommand bare_app run_app.top) trace_app.top) list_app.top

-- `--notes-as-faults`
abbrev pub notes_rule : Rule
notes_rule = flag_rule (codes "notes-as-faults")

-- `check POLICY [INPUT] [--notes-as-faults] [--inside]`
abbrev pub check_app : App
check_app = with_rule (with_rule (with_rule (with_rule (new_app (codes "check"))
    (required_rule (codes "POLICY"))) (new_rule (codes "INPUT"))) notes_rule) inside_rule

-- `--quiet`
abbrev pub quiet_rule : Rule
quiet_rule = flag_rule (codes "quiet")

-- `--keys INPUT`
abbrev pub keys_rule : Rule
keys_rule = record (new_rule (codes "INPUT")) { long = Some (codes "keys") }

-- `--matches`
abbrev pub matches_rule : Rule
matches_rule = flag_rule (codes "matches")

-- `--counts`
abbrev pub counts_rule : Rule
counts_rule = flag_rule (codes "counts")

-- `--memory ADDRESS:COUNT`, as often as is wanted
abbrev pub spans_rule : Rule
spans_rule = texts_rule (codes "ADDRESS:COUNT")

-- with `[--from K] [--to K] [--only KIND]`
abbrev pub of_numbers : App → App
of_numbers app = with_rule (with_rule (with_rule app from_rule) to_rule) only_rule

-- with `[--matches] [--counts] [--memory ADDRESS:COUNT]..`
abbrev pub of_looks : App → App
of_looks app = with_rule (with_rule (with_rule app matches_rule) counts_rule) spans_rule

-- `bare SOURCE N [--random R] [--quiet] [--keys INPUT] [--from K] [--to K] [--only KIND] [--matches] [--counts] [--memory ADDRESS:COUNT].. [--names]`
abbrev pub machine_app : App
machine_app = with_rule (of_looks (of_numbers (with_rule (with_rule (with_rule (with_rule (with_rule (new_app (codes "bare"))
    (required_rule (codes "SOURCE"))) time_rule) random_rule) quiet_rule) keys_rule))) names_rule

-- `debug POLICY INPUT N [--random R] [--inside]`
abbrev pub debug_app : App
debug_app = of_run (new_app (codes "debug"))

-- `--line K`, from 1 to 18446744073709551615
abbrev pub line_rule : Rule
line_rule = record (new_rule (codes "K")) { long = Some (codes "line"); parser = Some (Unsigned 1 18446744073709551615) }

-- `explain POLICY INPUT N [--random R] [--inside] [--line K]`
abbrev pub explain_app : App
explain_app = with_rule (of_run (new_app (codes "explain"))) line_rule

-- the whole command line
abbrev pub dsmon_app : App
dsmon_app = with_subcommand (with_subcommand (with_subcommand (with_subcommand (with_subcommand files_app check_app.top) machine_app.top) (new_app (codes "demo")).top) debug_app.top) explain_app.top

-- the command that the words name
abbrev pub command_named : List Text → Option Text
command_named words = option_map (λ p. p.0) (subcommand_of dsmon_app words)

-- clap takes the words, and they name the demonstration
pub record AsksForDemo (words : List Text) : Type 0 where
  pub taken : fault_of dsmon_app words ≡ []
  pub named : command_named words ≡ Some (codes "demo")

-- a word, with a plus before it or without, writes in decimal digits the number, which has at most so many bits
abbrev pub IsNumber : ℕ → Option Text → ℕ → Type 0
IsNumber bits None n = ⊥
IsNumber bits (Some text) n = IsNumeral 10 (without_leading_plus text) × (digits_value 10 (without_leading_plus text) ≡ n) × (n < 2 ^ bits)

-- a flag stands among the words where this is true, and does not where it is false
pub record IsFlagged (flag : Text) (rows : List Row) (given : Bool) : Type 0 where
  pub there : one_of flag rows ≡ Some (codes "true") → given ≡ true
  pub absent : one_of flag rows ≡ Some (codes "false") → given ≡ false

-- what stands after `run`, `trace`, `debug` or `explain` names the files and the numbers of a run, and says whether its sources have to be inside
pub record NamesRun (rows : List Row) (request : Request) : Type 0 where
  pub policy : first_of (codes "POLICY") rows ≡ Some request.policy.now
  pub input : first_of (codes "INPUT") rows ≡ Some request.input.now
  pub time : IsNumber 64 (one_of (codes "N") rows) request.most_time
  pub random : IsNumber 8 (one_of (codes "R") rows) request.random
  pub inside : IsFlagged (codes "inside") rows request.inside

-- a number that may be left out: there is one where there is a word, which writes it
abbrev pub IsGiven : ℕ → Option Text → Option ℕ → Type 0
IsGiven bits None given = given ≡ None
IsGiven bits (Some text) None = ⊥
IsGiven bits (Some text) (Some n) = IsNumber bits (Some text) n

-- the windows that texts write, where there are texts
abbrev pub NamesMemory : Option (List Text) → List Window → Type 0
NamesMemory None windows = windows ≡ []
NamesMemory (Some texts) windows = WriteWindows texts windows

-- what stands after `run` or `trace` says what is wanted of the run beside its text
pub record NamesExtras (rows : List Row) (extras : Extras) : Type 0 where
  pub must_end : IsFlagged (codes "must-end") rows extras.must_end
  pub memory : NamesMemory (all_of (codes "P:ADDRESS:COUNT") rows) (windows_in extras.memory)
  pub windows : All IsWindow (windows_in extras.memory)
  pub summary : IsFlagged (codes "summary") rows extras.summary

-- what stands after `run` names a run, what is wanted beside its text, and how many bytes that may have
pub record NamesAskedRun (rows : List Row) (request : RunRequest) : Type 0 where
  pub run : NamesRun rows request.run
  pub extras : NamesExtras rows request.extras
  pub most : IsGiven 64 (one_of (codes "BYTES") rows) request.most

-- clap takes the words, and they ask for such a run
pub record AsksForRun (words : List Text) (request : RunRequest) : Type 0 where
  pub taken : fault_of dsmon_app words ≡ []
  pub rows : List Row
  pub named : subcommand_of dsmon_app words ≡ Some (codes "run", rows)
  pub names : NamesAskedRun rows request

-- texts write numbers of at most so many bits, each the number at its place
abbrev pub AreNumbers : ℕ → List Text → List ℕ → Type 0
AreNumbers bits [] [] = ⊤
AreNumbers bits [] (n ∷ rest) = ⊥
AreNumbers bits (text ∷ texts) [] = ⊥
AreNumbers bits (text ∷ texts) (n ∷ rest) = IsNumber bits (Some text) n × AreNumbers bits texts rest

-- texts write the numbers of these processes
pub record WriteProcesses (texts : List Text) (processes : Processes) : Type 0 where
  pub numbers : List ℕ
  pub written : AreNumbers 32 texts numbers
  pub are : processes ≡ processes_numbered numbers

-- the processes that are named: those whose numbers the texts write, where there are texts
abbrev pub NamesProcesses : Option (List Text) → Option Processes → Type 0
NamesProcesses None named = named ≡ None
NamesProcesses (Some texts) None = ⊥
NamesProcesses (Some texts) (Some processes) = WriteProcesses texts processes

-- the word for the one kind of line that is told
abbrev pub kind_word : Only → Text
kind_word End = codes "end"
kind_word Calls = codes "calls"
kind_word Denials = codes "denials"
kind_word Switches = codes "switches"
kind_word Units = codes "units"

-- registers are called by their common names where `--names` stands among the words, and by their numbers where it does not
pub record CallsRegisters (rows : List Row) (names : RegisterNames) : Type 0 where
  pub common : one_of (codes "names") rows ≡ Some (codes "true") → names ≡ Common
  pub numbers : one_of (codes "names") rows ≡ Some (codes "false") → names ≡ Numbers

-- what stands after `trace` says which lines are told, and how
pub record NamesView (rows : List Row) (view : View) : Type 0 where
  pub from : IsNumber 64 (one_of (codes "FROM") rows) view.from
  pub to : IsGiven 32 (one_of (codes "TO") rows) view.to
  pub processes : NamesProcesses (many_of (codes "P") rows) view.processes
  pub only : first_of (codes "KIND") rows ≡ option_map kind_word view.only
  pub processor : one_of (codes "processor") rows ≡ Some (codes "true") → view.processor ≡ true
  pub lines : one_of (codes "processor") rows ≡ Some (codes "false") → view.processor ≡ false
  pub entries : one_of (codes "entries") rows ≡ Some (codes "true") → view.entries ≡ true
  pub rest : one_of (codes "entries") rows ≡ Some (codes "false") → view.entries ≡ false
  pub source : IsFlagged (codes "source") rows view.source
  pub names : CallsRegisters rows view.names
  pub pages : view.pages.now ≡ []

-- what stands after `trace` names a run and what is wanted beside its text, and says which lines are told
pub record NamesTrace (rows : List Row) (request : TraceRequest) : Type 0 where
  pub run : NamesRun rows request.run
  pub extras : NamesExtras rows request.extras
  pub view : NamesView rows request.view

-- clap takes the words, and they ask for these lines of the trace of a run of these files and numbers
pub record AsksForTrace (words : List Text) (request : TraceRequest) : Type 0 where
  pub taken : fault_of dsmon_app words ≡ []
  pub rows : List Row
  pub named : subcommand_of dsmon_app words ≡ Some (codes "trace", rows)
  pub names : NamesTrace rows request

-- what stands after `list` names the file, and says whether it holds words and how registers are called
pub record NamesList (rows : List Row) (request : ListRequest) : Type 0 where
  pub file : first_of (codes "FILE") rows ≡ Some request.file.now
  pub words : one_of (codes "words") rows ≡ Some (codes "true") → request.words ≡ true
  pub source : one_of (codes "words") rows ≡ Some (codes "false") → request.words ≡ false
  pub names : CallsRegisters rows request.names

-- clap takes the words, and they ask for the listing of this file
pub record AsksForList (words : List Text) (request : ListRequest) : Type 0 where
  pub taken : fault_of dsmon_app words ≡ []
  pub rows : List Row
  pub named : subcommand_of dsmon_app words ≡ Some (codes "list", rows)
  pub names : NamesList rows request

-- what stands after `check` names the policy, and the input where one is wanted, and says whether
-- notes are faults and whether sources have to be inside
pub record NamesCheck (rows : List Row) (request : CheckRequest) : Type 0 where
  pub policy : first_of (codes "POLICY") rows ≡ Some request.policy.now
  pub input : first_of (codes "INPUT") rows ≡ option_map (λ s. s.now) request.input
  pub faults : one_of (codes "notes-as-faults") rows ≡ Some (codes "true") → request.notes_as_faults ≡ true
  pub notes : one_of (codes "notes-as-faults") rows ≡ Some (codes "false") → request.notes_as_faults ≡ false
  pub inside : IsFlagged (codes "inside") rows request.inside

-- clap takes the words, and they ask what this policy and this input mean
pub record AsksForCheck (words : List Text) (request : CheckRequest) : Type 0 where
  pub taken : fault_of dsmon_app words ≡ []
  pub rows : List Row
  pub named : subcommand_of dsmon_app words ≡ Some (codes "check", rows)
  pub names : NamesCheck rows request

-- the word for the one kind of instruction that `bare` tells
abbrev pub bare_kind_word : BareOnly → Text
bare_kind_word bare_only.End = codes "end"
bare_kind_word bare_only.Exceptions = codes "exceptions"
bare_kind_word bare_only.Tlb = codes "tlb"
bare_kind_word bare_only.Devices = codes "devices"

-- the spans that texts write, where there are texts
abbrev pub NamesSpans : Option (List Text) → List Span → Type 0
NamesSpans None spans = spans ≡ []
NamesSpans (Some texts) spans = WriteSpans texts spans

-- what stands after `bare` says what is told
pub record NamesBareFlags (rows : List Row) (view : BareView) : Type 0 where
  pub quiet : IsFlagged (codes "quiet") rows view.quiet
  pub from : IsNumber 64 (one_of (codes "FROM") rows) view.from
  pub to : IsGiven 32 (one_of (codes "TO") rows) view.to
  pub only : first_of (codes "KIND") rows ≡ option_map bare_kind_word view.only
  pub matches : IsFlagged (codes "matches") rows view.matches
  pub counts : IsFlagged (codes "counts") rows view.counts
  pub memory : NamesSpans (all_of (codes "ADDRESS:COUNT") rows) (spans_in view.memory)
  pub spans : All IsSpan (spans_in view.memory)
  pub names : CallsRegisters rows view.names

-- and its window does not end before it begins
pub record NamesBareView (rows : List Row) (view : BareView) : Type 0 where
  pub flags : NamesBareFlags rows view
  pub forward : (to : ℕ) → view.to ≡ Some to → view.from ≤ to

-- words name the source of a run on the bare machine, its numbers, and an input where one is wanted
pub record NamesBareStart (rows : List Row) (start : BareStart) : Type 0 where
  pub source : first_of (codes "SOURCE") rows ≡ Some start.source.now
  pub most : IsNumber 32 (one_of (codes "N") rows) start.most
  pub random : IsNumber 8 (one_of (codes "R") rows) start.random
  pub keys : first_of (codes "INPUT") rows ≡ option_map (λ s. s.now) start.keys

-- what stands after `bare` names that, and says what is told
pub record NamesBare (rows : List Row) (request : BareRequest) : Type 0 where
  pub start : NamesBareStart rows request.start
  pub view : NamesBareView rows request.view

-- clap takes the words, and they ask for a run of this source on the bare machine
pub record AsksForBare (words : List Text) (request : BareRequest) : Type 0 where
  pub taken : fault_of dsmon_app words ≡ []
  pub rows : List Row
  pub named : subcommand_of dsmon_app words ≡ Some (codes "bare", rows)
  pub names : NamesBare rows request

-- clap takes the words, and they ask for a session with a debugger over a run of these files and numbers
pub record AsksForDebug (words : List Text) (request : Request) : Type 0 where
  pub taken : fault_of dsmon_app words ≡ []
  pub rows : List Row
  pub named : subcommand_of dsmon_app words ≡ Some (codes "debug", rows)
  pub names : NamesRun rows request

-- what stands after `explain` names a run, and the line of its log that is explained, where one is wanted alone
pub record NamesExplain (rows : List Row) (request : ExplainRequest) : Type 0 where
  pub run : NamesRun rows request.run
  pub line : IsGiven 64 (one_of (codes "K") rows) request.line

-- clap takes the words, and they ask why the log of a run of these files and numbers has this line, or each of its lines
pub record AsksForExplain (words : List Text) (request : ExplainRequest) : Type 0 where
  pub taken : fault_of dsmon_app words ≡ []
  pub rows : List Row
  pub named : subcommand_of dsmon_app words ≡ Some (codes "explain", rows)
  pub names : NamesExplain rows request

-- the words ask for the demonstration, for a run of files, for a listing, for a check, for a run
-- on the bare machine, for the trace of a run of files, for a session with a debugger or for an explained log
abbrev pub AsksForSomething : List Text → Type 0
AsksForSomething words =
    AsksForDemo words ⊎ (((request : RunRequest) × AsksForRun words request)
    ⊎ (((request : ListRequest) × AsksForList words request)
    ⊎ (((request : CheckRequest) × AsksForCheck words request)
    ⊎ (((request : BareRequest) × AsksForBare words request)
    ⊎ (((request : TraceRequest) × AsksForTrace words request)
    ⊎ (((request : Request) × AsksForDebug words request)
    ⊎ ((request : ExplainRequest) × AsksForExplain words request)))))))

-- what stands after `run` or `trace` wants memory by texts that write no windows, or too many
pub record MisnamesMemory (words : List Text) : Type 0 where
  pub rows : List Row
  pub named : (subcommand_of dsmon_app words ≡ Some (codes "run", rows)) ⊎ (subcommand_of dsmon_app words ≡ Some (codes "trace", rows))
  pub none : (windows : List Window) → ¬ NamesMemory (all_of (codes "P:ADDRESS:COUNT") rows) windows
