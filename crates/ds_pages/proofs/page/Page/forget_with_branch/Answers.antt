use Rattle.std.proofs.Common.{◌-◌, arith, ap, ◌∙◌, sym}
use Rattle.ds_pages.specs.Inner.Does.{has_slot}
use Rattle.ds_pages.specs.Inner.Places.{does_at}
use Rattle.ds_pages.specs.Inner.Page.{KnownPageState, knows}
use Rattle.ds_pages.proofs.Pages.{branch_forgotten, others_stay}
use Rattle.ds_pages.proofs.page.Page.forget_with_branch.Goals.{then-i-gt0+then-has_slot, else-i-gt0, else-i-gt0-via-then-i-gt0+else-has_slot, else-i-gt0-via-else-i-gt0}
use Rattle.ds_pages.proofs.page.Page.forget_with_branch.Goals as goal

pub returns-clause-branch : goal.returns-clause-branch
returns-clause-branch c k next = elim c.if-i-gt0.branch [
  | then-i-gt0+then-has_slot w ↦ branch_forgotten c.args.self.now w.forget_operation.new.self c.forget_operation-2.new.self c.args.i k next
      (sym (ap (λ (s : KnownPageState). has_slot (does_at s.places (c.args.i - 1))) w.self.view_is) ∙ (sym (ap has_slot w.does.ensures) ∙ (sym w.has_slot.ensures ∙ w.if-has_slot.true)))
      w.forget_operation.ensures.unknown (λ n apart. c.forget_operation-2.ensures.others n apart ∙ ap (λ (s : KnownPageState). knows s n) w.self-is)
  | else-i-gt0 w ↦ elim w.else-i-gt0.branch [
    | else-i-gt0-via-then-i-gt0+else-has_slot x ↦ others_stay c.args.self.now c.forget_operation-2.new.self c.args.i k next
        (sym (ap (λ (s : KnownPageState). has_slot (does_at s.places (c.args.i - 1))) x.self.view_is) ∙ (sym (ap has_slot x.does.ensures) ∙ (sym x.has_slot.ensures ∙ x.if-has_slot.false)))
        (λ n apart. c.forget_operation-2.ensures.others n apart ∙ ap (λ (s : KnownPageState). knows s n) w.self-is)
    | else-i-gt0-via-else-i-gt0 x ↦ absurd (omega arith)
  ]
]
