use Rattle.std.proofs.Common.{◌∙◌, ap, arith}
use Rattle.ds_tables.specs.Places.{Places}
use Rattle.ds_tables.specs.Tables.{entry_word}
use Rattle.ds_tables.proofs.PlaceLemmas.{none_placed}
use Rattle.ds_tables.proofs.Map.{none_words}
use Rattle.ds_tables.proofs.tables.Tables.new.Goals as goal

pub invariant_of-result : goal.invariant_of-result
invariant_of-result c = rw c.empty_rows-else-processes-lt-PROCESSES.ensures (none_placed 100 (omega arith))

pub returns-else-processes-lt-PROCESSES-clause-words : goal.returns-else-processes-lt-PROCESSES-clause-words
returns-else-processes-lt-PROCESSES-clause-words c =
    λ memory empty q other. ap (λ (t : Places). entry_word memory t q other) c.empty_rows-else-processes-lt-PROCESSES.ensures ∙ none_words memory 100 q other empty
