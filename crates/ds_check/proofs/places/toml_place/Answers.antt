use Rattle.std.proofs.Common.{refl, sym}
use Rattle.std.proofs.lemmas.Bool.{false≢true}
use Rattle.toml.specs.View.{table_view}
use Rattle.ds_policy.proofs.Documents.{document_some, document_none}
use Rattle.ds_check.proofs.places.toml_place.Goals as goal
use Rattle.ds_check.proofs.places.toml_place.Goals.{in-Ok, in-Err+in-Some, in-Err+in-None}

pub returns-clause-refused : goal.returns-clause-refused
returns-clause-refused c = elim c.match-table_from_slice.branch [
  | in-Ok w ↦ rw (w.result-is, document_some c.args.text.now (table_view w.in-Ok.field-0) w.in-Ok.ensures.ok.0 w.in-Ok.ensures.ok.1) refl
  | in-Err+in-Some w ↦ rw (w.result-is, document_none c.args.text.now (w.in-Err.ensures.refused (λ m. false≢true (sym (w.in-Some.ensures.none.1 m))))) refl
  | in-Err+in-None w ↦ rw w.result-is tt
]
