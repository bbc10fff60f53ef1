use Rattle.ds_refinement.proofs.NoNewPairs.{all_forgotten_pairs, same_pairs, joined_pairs, flushed_pairs, forgotten_pairs, written_pairs, rewritten_pairs}
use Rattle.ds_refinement.proofs.pairs.no_pair_is_new.Goals as goal

pub returns-clause-same : goal.returns-clause-same
returns-clause-same c = same_pairs

pub returns-clause-joined : goal.returns-clause-joined
returns-clause-joined c = joined_pairs

pub returns-clause-flushed : goal.returns-clause-flushed
returns-clause-flushed c = flushed_pairs

pub returns-clause-forgotten : goal.returns-clause-forgotten
returns-clause-forgotten c = forgotten_pairs

pub returns-clause-written : goal.returns-clause-written
returns-clause-written c = written_pairs

pub returns-clause-rewritten : goal.returns-clause-rewritten
returns-clause-rewritten c = rewritten_pairs

pub returns-clause-family : goal.returns-clause-family
returns-clause-family c = all_forgotten_pairs
