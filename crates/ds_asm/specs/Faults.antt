-- All faults of a source.
use Rattle.std.specs.Prelude.{ℕ, ◌+◌, List, [], ◌∷◌, ◌++◌, Option, Some, None, option_map, Result, Ok, Err}
use Rattle.std.specs.Option.{option_to_list}
use Rattle.std.specs.Result.{result_err}
use Rattle.ds_asm.specs.declared.cause.Cause.{Cause}
use Rattle.ds_asm.specs.declared.fault.SourceFault.{SourceFault}
use Rattle.ds_asm.specs.declared.syntax.SyntaxCause.{SyntaxCause}
use Rattle.ds_asm.specs.Lines.{Statement, Line, line_of}
use Rattle.ds_asm.specs.Assembly.{Labels, Layout, empty_layout, label_address, statement_size, fault_at, labelled, laid_line, laid_lines, line_bytes, lines_of}

-- the label of a line, if it can be read and has one
abbrev pub label_in : Result Line SyntaxCause → Option (List ℕ)
label_in (Err cause) = None
label_in (Ok line) = line.label

-- how many bytes a statement has, where there is one
abbrev pub optional_size : Option Statement → ℕ
optional_size None = 0
optional_size (Some s) = statement_size s

-- how many bytes a line has; one that can't be read has none
abbrev pub size_in : Result Line SyntaxCause → ℕ
size_in (Err cause) = 0
size_in (Ok line) = optional_size line.statement

-- the fault of line n, if it has one, by what came of it
abbrev pub fault_in : {A : Type 0} → ℕ → Result A Cause → List SourceFault
fault_in n r = option_to_list (option_map (fault_at n) (result_err r))

-- labels with one more, or as they are where that can't be
abbrev pub or_kept : Result Labels Cause → Labels → Labels
or_kept (Ok more) labels = more
or_kept (Err cause) labels = labels

-- the labels after a line, whatever else is wrong in it
abbrev pub labels_past : Result Line SyntaxCause → Layout → Labels
labels_past (Err cause) l = l.labels
labels_past (Ok line) l = or_kept (labelled l.size line.label l.labels) l.labels

-- the layout after a good line; after one at fault the image begins anew, so that a wrong place and
-- too many bytes are told once
abbrev pub layout_past : Result Layout Cause → Labels → Layout
layout_past (Ok more) labels = more
layout_past (Err cause) labels = record { labels = labels; size = 0 }

-- the faults of lines in the first pass, at most one of each line, of which the first is line n
abbrev pub first_faults : ℕ → Layout → List (List ℕ) → List SourceFault
first_faults n l [] = []
first_faults n l (line ∷ lines) =
    fault_in n (laid_line (line_of line) l)
    ++ first_faults (n + 1) (layout_past (laid_line (line_of line) l) (labels_past (line_of line) l)) lines

-- their faults in the second pass, of which the first line stands at a place of the image
abbrev pub second_faults : ℕ → (List ℕ → Option ℕ) → ℕ → List (List ℕ) → List SourceFault
second_faults n find at [] = []
second_faults n find at (line ∷ lines) =
    fault_in n (line_bytes find at (line_of line))
    ++ second_faults (n + 1) find (at + size_in (line_of line)) lines

-- the faults of the second pass over what the first has laid out, or those of the first
abbrev pub faults_by : Result Layout SourceFault → List (List ℕ) → List SourceFault
faults_by (Ok layout) lines = second_faults 1 (label_address layout.labels) 0 lines
faults_by (Err fault) lines = first_faults 1 empty_layout lines

-- all faults of a source: those of the first pass, or, where it has none, those of the second
abbrev pub all_faults : List ℕ → List SourceFault
all_faults text = faults_by (laid_lines 1 empty_layout (lines_of text)) (lines_of text)
