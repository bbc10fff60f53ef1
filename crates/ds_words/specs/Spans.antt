-- Words of memory that are wanted at the end of a run on the bare machine, and the texts that write them.
use Rattle.std.specs.Prelude.{◌≡◌, ◌<◌, ◌≤◌, ◌+◌, ◌*◌, ◌%◌, ◌^◌, ℕ, List, Option, Some, length, option_and_then, option_map, take}
use Rattle.std.specs.List.{AllZip, after_first, before_first}
use Rattle.clap.specs.Words.{Text}
use Rattle.ds_words.specs.declared.spans.Span.{Span}
use Rattle.ds_words.specs.declared.spans.Spans.{Spans}
use Rattle.ds_words.specs.Windows.{window_address, digits_of, is_colon}

-- the spans that are kept
abbrev pub spans_in : Spans → List Span
spans_in s = take s.count s.all

-- there may be such a span: some whole words, of which the last ends with memory or before
pub record IsSpan (s : Span) : Type 0 where
  pub aligned : s.address % 4 ≡ 0
  pub some : 0 < s.count
  pub few : s.count ≤ 1024
  pub within : s.address + 4 * s.count ≤ 2 ^ 23

-- these numbers as a span, where both are there
abbrev pub span_by : Option ℕ → Option ℕ → Option Span
span_by address count = option_and_then (λ a. option_map (λ n. record { address = a; count = n }) count) address

-- ADDRESS:COUNT as numbers: its parts stand around the first colon
abbrev pub written_span : Text → Option Span
written_span text = span_by (window_address (before_first is_colon text)) (digits_of 10 10 (after_first is_colon text))

-- a text writes a span that there may be
pub record WritesSpan (text : Text) (s : Span) : Type 0 where
  pub written : written_span text ≡ Some s
  pub good : IsSpan s

-- texts write spans, each the one at its place, and there are at most eight
pub record WriteSpans (texts : List Text) (spans : List Span) : Type 0 where
  pub each : AllZip WritesSpan texts spans
  pub few : length spans ≤ 8
