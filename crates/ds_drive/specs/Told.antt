-- What standard error is told: of a failure, of a fault of a source, and of a check that is refused.
use Rattle.std.specs.Prelude.{ℕ, ◌-◌, List, [], ◌∷◌, ◌++◌, Option, None, Some, codes, decimal, option_map, slice_get, take}
use Rattle.std.specs.Option.{option_or}
use Rattle.ds_asm.specs.declared.fault.SourceFault.{SourceFault}
use Rattle.ds_asm.specs.declared.fault.SourceFault.TheVariants.{Syntax, UnknownLabel, DoubleLabel, Range, TooLong}
use Rattle.ds_asm.specs.Assembling.{source_fault_line, source_fault_name, source_fault_number}
use Rattle.ds_check.specs.declared.places.Place.{Place}
use Rattle.ds_check.specs.Carets.{caret_line, place_shown}
use Rattle.ds_check.specs.Lines.{line_at, shown_line}
use Rattle.ds_check.specs.Mending.{mended}
use Rattle.ds_policy_reasons.specs.CausePlaces.{cause_place}
use Rattle.ds_policy.specs.declared.events.cause.InputCause.{InputCause}
use Rattle.ds_policy_reasons.specs.Texts.{input_cause_text, policy_reason_text}
use Rattle.ds_policy.specs.declared.cause.PolicyReason.{PolicyReason}
use Rattle.ds_policy.specs.declared.cause.PolicyReason.TheVariants as reason
use Rattle.ds_source_reasons.specs.Carets.{caret_place}
use Rattle.ds_source_reasons.specs.Missing.{last_word, last_word_place, like_label, missing_text}
use Rattle.ds_source_reasons.specs.Told.{FaultReason, after_line, after_lines, fault_text, line_in, fault_reason_at}
use Rattle.ds_station.specs.declared.fault.Fault.{Fault}
use Rattle.ds_station.specs.declared.fault.Fault.TheVariants as fault
use Rattle.ds_drive.specs.declared.failure.Failure.{Failure}
use Rattle.ds_drive.specs.declared.failure.Failure.TheVariants as failure
use Rattle.ds_drive.specs.declared.refused.FaultyInput.{FaultyInput}
use Rattle.ds_drive.specs.declared.refused.FaultyPolicy.{FaultyPolicy}
use Rattle.ds_drive.specs.declared.refused.FaultySource.{FaultySource}
use Rattle.ds_drive.specs.declared.refused.Refused.{Refused}
use Rattle.ds_drive.specs.Failures.{failure_number}
use Rattle.ds_drive.specs.Hints.{policy_hint, source_hint}
use Rattle.ds_drive.specs.Names.{shown_name}

-- a source fault's number and name
abbrev pub fault_name : SourceFault → List ℕ
fault_name fault = decimal (source_fault_number fault) ++ (codes " " ++ (source_fault_name fault ++ codes " "))

-- what its line begins with: some words, its number and name, and some words before the place
abbrev pub fault_head : List ℕ → List ℕ → SourceFault → List ℕ
fault_head front place fault = front ++ (fault_name fault ++ (place ++ codes " "))

-- how many lines of a source were passed, and what stands after them
pub record Passed : Type 0 where
  pub lines : ℕ
  pub rest : List ℕ

-- all of a source, of which no line was passed
abbrev pub none_passed : List ℕ → Passed
none_passed text = record { lines = 0; rest = text }

-- how many lines stand between those that were passed and the line of a fault
abbrev pub count_between : Passed → SourceFault → ℕ
count_between p fault = source_fault_line fault - p.lines - 1

-- the reason of a fault after those lines
abbrev pub reason_after : Passed → SourceFault → Option FaultReason
reason_after p fault = fault_reason_at (count_between p fault) fault p.rest

-- the lines up to that of a fault were passed, too
abbrev pub pass : Passed → SourceFault → Passed
pass p fault = record { lines = source_fault_line fault; rest = after_line (after_lines (count_between p fault) p.rest) }

-- what stands at the end of a fault's line: the first line of its reason's words, where it has a reason
abbrev pub at_end : Option FaultReason → List ℕ
at_end None = []
at_end (Some why) = codes ": " ++ line_in (fault_text why)

-- a caret below a place of a shown line, where there is one
abbrev pub caret_below : List ℕ → Option ℕ → List ℕ
caret_below line None = []
caret_below line (Some place) = caret_line (take place line)

-- where what is wrong with a line stands though its fault has no reason: the label that no line has
abbrev pub plain_place : List ℕ → SourceFault → Option ℕ
plain_place line (Syntax n) = None
plain_place line (UnknownLabel n) = Some (last_word_place line)
plain_place line (DoubleLabel n) = None
plain_place line (Range n) = None
plain_place line (TooLong n) = None

-- where what is wrong with a line stands: what its reason quotes, or the label that no line has
abbrev pub wrong_place : List ℕ → Option FaultReason → SourceFault → Option ℕ
wrong_place line None fault = plain_place line fault
wrong_place line (Some why) fault = caret_place why line

-- what is said of a label that no line has, which is the last word of this line
abbrev pub missing_in : List ℕ → List ℕ → List ℕ
missing_in text line = missing_text (last_word line) (like_label text (last_word line))

-- what is said of the label that a line names and no line has, where that is the fault
abbrev pub label_told : List ℕ → List ℕ → SourceFault → List ℕ
label_told text line (Syntax n) = []
label_told text line (UnknownLabel n) = missing_in text line
label_told text line (DoubleLabel n) = []
label_told text line (Range n) = []
label_told text line (TooLong n) = []

-- a text, where there is one
abbrev pub text_or_none : Option (List ℕ) → List ℕ
text_or_none None = []
text_or_none (Some text) = text

-- how a fault is mended: the words of its reason after their first line, or those of its number
abbrev pub mending_of : Option FaultReason → SourceFault → List ℕ
mending_of None fault = text_or_none (mended (source_fault_number fault))
mending_of (Some why) fault = after_line (fault_text why)

-- a caret below what is wrong with a line, where that has a place, and what is said of the label that no line has
abbrev pub told_below : List ℕ → List ℕ → Option FaultReason → SourceFault → List ℕ
told_below text line why fault = caret_below line (wrong_place line why fault) ++ label_told text line fault

-- the line of a source that is at fault, and what is told below it
abbrev pub fault_shown_in : List ℕ → Option FaultReason → SourceFault → List ℕ
fault_shown_in text why fault = shown_line text (source_fault_line fault) ++ told_below text (line_at text (source_fault_line fault)) why fault

-- the line that tells of a fault: what it begins with, the number of the source's line, and the reason; and below it the source's line with a caret, and how the fault is mended
abbrev pub fault_line : List ℕ → List ℕ → List ℕ → Option FaultReason → SourceFault → List ℕ
fault_line front place text why fault =
    fault_head front place fault ++ (decimal (source_fault_line fault) ++ (at_end why ++ (codes "\n" ++ (fault_shown_in text why fault ++ mending_of why fault))))

-- the lines that tell of faults of a source after some lines, each with its reason
unfoldable pub told_lines : List ℕ → List ℕ → List ℕ → Passed → List SourceFault → List ℕ
told_lines front place text p [] = []
told_lines front place text p (fault ∷ faults) = fault_line front place text (reason_after p fault) fault ++ told_lines front place text (pass p fault) faults

-- the faults of a file with this source, as a listing tells them, and that it is a policy where it reads as one
abbrev pub listed_faults : List ℕ → List ℕ → List SourceFault → List ℕ
listed_faults file text faults = told_lines (codes "dsmon: ") (shown_name file) text (none_passed text) faults ++ source_hint text

-- the number and name of a source's fault, the source's name, and the line
abbrev pub source_fault_words : List ℕ → SourceFault → List ℕ
source_fault_words name f = fault_name f ++ (name ++ (codes " " ++ decimal (source_fault_line f)))

-- the number and name of a fault, and the number or name that it carries
abbrev pub fault_words : Fault → List ℕ
fault_words fault.BadRandom = codes "1 BadRandom"
fault_words (fault.InSource name f) = source_fault_words name f
fault_words fault.BadToml = codes "8 BadToml"
fault_words (fault.BadRule number) = codes "9 BadRule " ++ decimal number
fault_words (fault.Limit key) = codes "10 Limit " ++ key.now
fault_words (fault.InputFault line) = codes "20 InputFault " ++ decimal line
fault_words fault.Stuck = codes "21 Stuck"
fault_words fault.Failed = codes "22 Failed"
fault_words fault.WriteFault = codes "23 WriteFault"
fault_words (fault.NoSource name) = codes "24 NoSource " ++ name
fault_words fault.Memory = codes "25 Memory"

-- and of a failure
abbrev pub failure_words : Failure → List ℕ
failure_words (failure.UnreadableFile name) = codes "26 Unreadable " ++ shown_name name.now
failure_words (failure.UnreadableSource name) = codes "26 Unreadable " ++ name
failure_words (failure.NoProcess process) = codes "12 NoProcess " ++ decimal process
failure_words (failure.Fault f) = fault_words f

-- the line that tells of a failure
abbrev pub failure_line : Failure → List ℕ
failure_line f = codes "dsmon: " ++ (failure_words f ++ codes "\n")

-- the line that tells of a place in a policy
abbrev pub place_line : Place → List ℕ
place_line p = codes "in line " ++ (decimal p.line ++ (codes ", column " ++ (decimal p.column ++ codes " of the policy\n")))

-- where a policy is at fault, and its line with a caret there, where it is
abbrev pub policy_shown : Option FaultyPolicy → List ℕ
policy_shown None = []
policy_shown (Some policy) = place_line policy.place ++ place_shown policy.text.items policy.place

-- the source's line of a first fault with the caret below it, where there is one
abbrev pub fault_shown : List ℕ → Option SourceFault → List ℕ
fault_shown text None = []
fault_shown text (Some fault) = fault_shown_in text (reason_after (none_passed text) fault) fault

-- the line of the first fault of a source that is at fault, where one is
abbrev pub source_shown : Option FaultySource → List ℕ
source_shown None = []
source_shown (Some source) = fault_shown source.text.items (slice_get source.faults.items 0)

-- the faults after the first, each with its reason and its line
abbrev pub others_told : List ℕ → List SourceFault → List ℕ
others_told text [] = []
others_told text (first ∷ others) = told_lines (codes "and ") (codes "in line") text (pass (none_passed text) first) others

-- of a source that is at fault, where one is
abbrev pub others_shown : Option FaultySource → List ℕ
others_shown None = []
others_shown (Some source) = others_told source.text.items source.faults.items

-- a caret below what is wrong with a line of an input, where that has a place
abbrev pub cause_below : List ℕ → Option InputCause → List ℕ
cause_below line None = []
cause_below line (Some cause) = caret_below line (cause_place cause line)

-- the line of an input with this number, and the caret below it
abbrev pub cause_shown : List ℕ → ℕ → Option InputCause → List ℕ
cause_shown text number cause = shown_line text number ++ cause_below (line_at text number) cause

-- the line of an input that is at fault with the caret below it, where it is
abbrev pub input_shown : Option FaultyInput → List ℕ
input_shown None = []
input_shown (Some input) = cause_shown input.text.items input.line input.cause

-- the reason of the first fault of a source, where there is one
abbrev pub first_fault_reason : List ℕ → Option SourceFault → Option FaultReason
first_fault_reason text None = None
first_fault_reason text (Some first) = reason_after (none_passed text) first

-- why the first line of a source is at fault, where one is
abbrev pub why_source : Option FaultySource → Option (List ℕ)
why_source None = None
why_source (Some source) = option_map fault_text (first_fault_reason source.text.items (slice_get source.faults.items 0))

-- which process or which page of a policy a reason is of; a rule's number stands in the line of the failure
abbrev pub which_of : PolicyReason → List ℕ
which_of (reason.Process number cause) = codes "in process " ++ (decimal number ++ codes " of the policy\n")
which_of (reason.Page number cause) = codes "in page " ++ (decimal number ++ codes " of the policy\n")
which_of other = []

-- the words of a policy's reason, with what to write
abbrev pub why_policy : PolicyReason → List ℕ
why_policy why = which_of why ++ policy_reason_text why

-- the words of what is wrong with a line of an input, where it is known
abbrev pub why_input : Option FaultyInput → Option (List ℕ)
why_input None = None
why_input (Some input) = option_map input_cause_text input.cause

-- why a check is refused, where a reason is known: of a source, of a policy, or of an input
abbrev pub reason_told : Refused → Option (List ℕ)
reason_told r = option_or (why_source r.source) (option_or (option_map why_policy r.reason) (why_input r.input))

-- that reason with what to write; or how a refusal of this number is mended, where no reason is known
abbrev pub reason_or_mending : Refused → List ℕ
reason_or_mending r = text_or_none (option_or (reason_told r) (mended (failure_number r.failure)))

-- the same, and what is told of the policy besides
abbrev pub why_told : Refused → List ℕ
why_told r = reason_or_mending r ++ policy_hint r.policy r.reason

-- what is told of a check that is refused below the failure's line: the place in the policy, and the line of the policy, of the source or of the input with a caret; the reason and how it is mended; and the other faults of the source
abbrev pub below_text : Refused → List ℕ
below_text r = policy_shown r.policy ++ (source_shown r.source ++ (input_shown r.input ++ (why_told r ++ others_shown r.source)))

-- what is told of words after `bare` that clap takes, though they ask for nothing
abbrev pub bare_words_line : List ℕ
bare_words_line = codes "dsmon: bare: --only takes exceptions, tlb, devices or end; --to is not below --from; --memory takes ADDRESS:COUNT, as 00500000:8, at most eight times\n"
