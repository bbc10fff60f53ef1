-- Labels among operands, as the code has them.
use Rattle.std.proofs.Common.{◌≡◌, ap, refl, List, [], ◌∷◌, map, ◌||◌}
use Rattle.std.specs.List.{list_any}
use Rattle.ds_asm.specs.declared.form.Operand.{Operand}
use Rattle.ds_asm.specs.Inner.Forms.{operand_of}
use Rattle.ds_listing.specs.Texts.{is_label, has_label}

pub labels_alike : (os : List Operand) → list_any (λ o. is_label (operand_of o)) os ≡ has_label (map operand_of os)
labels_alike [] = refl
labels_alike (o ∷ os) = ap (λ b. is_label (operand_of o) || b) (labels_alike os)
