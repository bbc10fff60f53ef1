use Rattle.ds_grants.proofs.Forgets.{buffer_changed}
use Rattle.ds_grants.proofs.buffer_laws.a_buffer_forgets_what_changed.Goals as goal

pub returns : goal.returns
returns c = λ entries s g h t u p address changed k. buffer_changed g h t u p address changed entries s k
