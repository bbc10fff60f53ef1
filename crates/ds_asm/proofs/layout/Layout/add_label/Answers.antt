use Rattle.std.proofs.Common.{◌≡◌, ◌∙◌, ◌+◌, sym, ap, refl, ◌∷◌, Bool, false, true, not, is_some, option_map}
use Rattle.ds_asm.specs.Assembly.{label_address, origin}
use Rattle.ds_asm.proofs.SourceLines.{labelled_new}
use Rattle.ds_asm.proofs.layout.Layout.add_label.Goals as goal

pub returns-in-None-clause-said : goal.returns-in-None-clause-said
returns-in-None-clause-said c = λ labels h. (labels, rw c.in-None.is refl, h)

not_false : (b : Bool) → true ≡ not b → b ≡ false
not_false true is = is
not_false false is = refl

pub returns-clause-said : goal.returns-clause-said
returns-clause-said c = λ labels h.
    let is_new : c.in_ok-is_new.is_new ≡ true = c.if-not-is_new.false in
    let new : is_some (label_address labels c.in-Some.name.now) ≡ false = ap is_some (sym (h c.in-Some.name.now)) ∙ not_false _ (sym is_new ∙ c.in_ok-is_new.ensures.new) in (
      (c.in-Some.name.now, origin + c.args.self.now.size) ∷ labels,
      labelled_new c.args.self.now.size (option_map (λ t. t.now) c.args.label) c.in-Some.name.now labels (ap (option_map (λ t. t.now)) c.in-Some.is) new,
      c.in_ok-is_new.ensures.added is_new labels h,
    )
