-- Which instructions of a run on the bare machine are told.
use Rattle.std.specs.Prelude.{◌≡◌, ℕ, true, false, [], None}
use Rattle.ds_words.specs.declared.bare_view.BareView.{BareView}
use Rattle.ds_words.specs.Spans.{spans_in}
use Rattle.ds_listing.specs.declared.names.RegisterNames.TheVariants.{Numbers}
use Rattle.ds_words.specs.BareViews.{reaches}

-- all instructions are told, and nothing more of the end than there always is
pub record IsWhole (v : BareView) : Type 0 where
  pub each : (number : ℕ) → reaches v number ≡ true
  pub kind : v.only ≡ None
  pub matches : v.matches ≡ false
  pub counts : v.counts ≡ false
  pub memory : spans_in v.memory ≡ []
  pub names : v.names ≡ Numbers
