-- What a command takes with one more argument.
use Rattle.std.proofs.Common.{◌≡◌, ◌∙◌, ap, Bool, false, ◌||◌}
use Rattle.std.specs.Prelude.{IfOk, Result, Ok, Err}
use Rattle.clap.specs.Words.{AddsArg, App, Rule, app_of, rule_of, with_rule}
use Rattle.clap.specs.declared.builder.arg.Arg.{Arg}
use Rattle.clap.specs.declared.builder.command.Command.{Command}
use Rattle.clap.specs.declared.builder.command.Command.TheViews.{out-Command as fields_of}

module _ (old new : Command) (a : Arg) (adds : AddsArg old a new) (local : a.global ≡ false) where
  -- it takes what it took before, and the argument
  pub added : (app : App) (rule : Rule) → app_of old ≡ app → rule_of a ≡ rule → app_of new ≡ with_rule app rule
  added app rule before is = adds.shape local ∙ (ap (λ (x : App). with_rule x (rule_of a)) before ∙ ap (λ (x : Rule). with_rule app x) is)

  -- no argument of it is global
  pub still_local : (fields_of old).has_globals ≡ false → (fields_of new).has_globals ≡ false
  still_local before = adds.globals ∙ (ap (λ (x : Bool). x || a.global) before ∙ local)

-- so where there was memory for it
pub if_added : {E : Type 0} (r : Result Command E) (old : Command) (a : Arg) → IfOk r (λ new. AddsArg old a new) → a.global ≡ false
    → (app : App) (rule : Rule) → app_of old ≡ app → rule_of a ≡ rule → IfOk r (λ new. app_of new ≡ with_rule app rule)
if_added (Ok new) old a adds local app rule before is = added old new a adds local app rule before is
if_added (Err e) old a adds local app rule before is = tt

pub if_local : {E : Type 0} (r : Result Command E) (old : Command) (a : Arg) → IfOk r (λ new. AddsArg old a new) → a.global ≡ false
    → (fields_of old).has_globals ≡ false → IfOk r (λ new. (fields_of new).has_globals ≡ false)
if_local (Ok new) old a adds local before = still_local old new a adds local before
if_local (Err e) old a adds local before = tt
