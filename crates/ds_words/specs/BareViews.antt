-- Which instructions of a run on the bare machine are told.
use Rattle.std.specs.Prelude.{ℕ, Bool, true, false, not, ◌&&◌, nat_le, Option, Some}
use Rattle.ds_words.specs.declared.bare_view.BareOnly.{BareOnly}
use Rattle.ds_words.specs.declared.bare_view.BareOnly.TheVariants.{End}
use Rattle.ds_words.specs.declared.bare_view.BareView.{BareView}
use Rattle.ds_words.specs.Views.{is_before}

-- whether the end alone is told
abbrev pub is_end : Option BareOnly → Bool
is_end (Some End) = true
is_end other = false

-- whether anything may be told of the instruction with a number
abbrev pub reaches : BareView → ℕ → Bool
reaches v number = not v.quiet && not (is_end v.only) && nat_le v.from number && is_before v.to number
