use Rattle.std.proofs.Common.{◌≡◌, ◌≢◌, ◌∙◌, sym, subst}
use Rattle.std.specs.Prelude.{Option, IfSome}
use Rattle.ds_pages.specs.declared.operation.OperationKind.{OperationKind}
use Rattle.ds_pages.specs.declared.operation.OperationKind.TheVariants as kinds
use Rattle.ds_pages.specs.Inner.Does.{single}
use Rattle.ds_ahead.proofs.run.through_any_slot.Goals as goal

pub through_slot-requires-clause-single : goal.through_slot-requires-clause-single
through_slot-requires-clause-single g c =
    let alone : c.does.result ≡ single c.in-Some.kind = subst (λ (o : Option OperationKind). IfSome o (λ kind. c.does.result ≡ single kind)) c.in-Some.is c.kind_done.ensures.single in
    sym c.does.ensures.value ∙ alone

pub through_slot-requires-clause-some : goal.through_slot-requires-clause-some
through_slot-requires-clause-some g c = subst (λ (o : Option OperationKind). IfSome o (λ kind. kind ≢ kinds.Other)) c.in-Some.is c.kind_done.ensures.some
