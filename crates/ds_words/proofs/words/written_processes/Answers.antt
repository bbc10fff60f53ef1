use Rattle.std.proofs.Common.{◌∙◌, List, ap, sym, subst}
use Rattle.std.specs.Str.Parse.{ParsesUnsigned, ExplainsUnsignedError, HasUnsignedDigitsIfOk}
use Rattle.clap.specs.Words.{Text, values_left}
use Rattle.ds_words.specs.Words.{WriteProcesses}
use Rattle.ds_words.proofs.Numbers.{none_written, more_written, none_is_written}
use Rattle.ds_words.proofs.words.written_processes.Goals as goal

pub loop-number-init : goal.loop-number-init
loop-number-init c = none_written _ _ c.none-processes.ensures

pub loop-number-preserved : goal.loop-number-preserved
loop-number-preserved c =
    more_written (λ bs r. ParsesUnsigned 32 10 bs r × ExplainsUnsignedError 10 bs r × HasUnsignedDigitsIfOk bs r) _ _ _ _ _ c.in-Some.number c.in_ok-ok.field-0 (λ t x g. g.0)
    c.loop-number.invariant c.in-Some.ensures.steps (sym c.ok.ensures.value ∙ c.in_ok-ok.was) c.with-processes.ensures

pub returns-in_err-ok-clause-none : goal.returns-in_err-ok-clause-none
returns-in_err-ok-clause-none c is processes write =
    let same = ap values_left c.into_iter-number-iterator.ensures.into_iter_gives in
    none_is_written (λ bs r. ParsesUnsigned 32 10 bs r × ExplainsUnsignedError 10 bs r × HasUnsignedDigitsIfOk bs r) _ _ _ _ processes c.in-Some.number (λ t x g. g.0)
    c.loop-number.invariant c.in-Some.ensures.steps (sym c.ok.ensures.value ∙ c.in_err-ok.was) (subst (λ (texts : List Text). WriteProcesses texts processes) (sym same) write)
