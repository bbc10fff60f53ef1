-- A line has a reason exactly where it can't be read, or its statement is refused.
use Rattle.std.proofs.Common.{◌≡◌, refl, ℕ, Bool, true, false, List, Option, Some, None, Result, Ok, Err, is_some}
use Rattle.ds_word.specs.OptionBinding.{◌>>=◌}
use Rattle.ds_asm.specs.Assembly.{bounds_in, first_cause, has_reserved, is_word_aligned}
use Rattle.ds_asm.specs.Lines.{Line, Statement, line_of}
use Rattle.ds_asm.specs.declared.number.Bounds.{Bounds}
use Rattle.ds_asm.specs.declared.syntax.SyntaxCause.{SyntaxCause}
use Rattle.ds_source_reasons.specs.Ranges.{cause_in, range_by, statement_cause}
use Rattle.ds_source_reasons.specs.Inner.Reasons.{range_reason_of}

-- each cause against a statement has a reason
first_told : (at : ℕ) (line : List ℕ) (b : Option Bounds) (aligned reserved : Bool)
    → is_some (first_cause b aligned reserved >>= range_by at line) ≡ is_some (first_cause b aligned reserved)
first_told at line (Some b) aligned reserved = refl
first_told at line None false reserved = refl
first_told at line None true true = refl
first_told at line None true false = refl

statement_told : (at : ℕ) (line : List ℕ) (s : Option Statement) → is_some (statement_cause at s >>= range_by at line) ≡ is_some (statement_cause at s)
statement_told at line None = refl
statement_told at line (Some s) = first_told at line (bounds_in s) (is_word_aligned at s) (has_reserved s)

told_in : (at : ℕ) (line : List ℕ) (x : Result Line SyntaxCause) → is_some (cause_in at x >>= range_by at line) ≡ is_some (cause_in at x)
told_in at line (Err why) = refl
told_in at line (Ok said) = statement_told at line said.statement

-- a line's statement has a reason exactly where the assembler has a cause to refuse it at its place
pub range_exact : (at : ℕ) (line : List ℕ) → is_some (range_reason_of at line) ≡ is_some (cause_in at (line_of line))
unfolding range_reason_of
range_exact at line = told_in at line (line_of line)
