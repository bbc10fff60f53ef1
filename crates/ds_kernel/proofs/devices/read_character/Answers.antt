use Rattle.std.proofs.Common.{ℕ, ap, ◌∙◌, Result}
use Rattle.std.specs.Result.{result_unwrap_or}
use Rattle.ds_dev.specs.declared.fault.BusError.{BusError}
use Rattle.ds_kernel.proofs.Silo.{word_tells}
use Rattle.ds_kernel.proofs.devices.read_character.Goals as goal

pub returns-clause-value : goal.returns-clause-value
returns-clause-value c =
    word_tells c.args.bus.now.serial c.unwrap_or-word.result c.requires.lines
    (c.unwrap_or-word.ensures ∙ ap (λ (r : Result ℕ BusError). result_unwrap_or r 0) c.load.ensures.value) c.if-word-eq0.false
