use Rattle.std.proofs.Common.{rules, ◌≡◌, List, [], ◌∷◌, map, length, get_or, ap, ◌∙◌, arith}
use Rattle.ds_monitor.proofs.consoles.ConsolesClone.clone.Goals as goal

-- of a list of four, one by one
four : {X Y : Type 0} (f : X → Y) (xs : List X) (a b c d : X) (i j k l : Y) → length xs ≡ 4
    → a ≡ get_or xs 0 a → b ≡ get_or xs 1 b → c ≡ get_or xs 2 c → d ≡ get_or xs 3 d
    → i ≡ f a → j ≡ f b → k ≡ f c → l ≡ f d → i ∷ j ∷ k ∷ l ∷ [] ≡ map f xs
four {X} {Y} f (p ∷ q ∷ r ∷ s ∷ []) a b c d i j k l size at0 at1 at2 at3 is0 is1 is2 is3 =
    ap (λ (y : Y). y ∷ j ∷ k ∷ l ∷ []) (is0 ∙ ap f at0)
    ∙ (ap (λ (y : Y). f p ∷ y ∷ k ∷ l ∷ []) (is1 ∙ ap f at1)
    ∙ (ap (λ (y : Y). f p ∷ f q ∷ y ∷ l ∷ []) (is2 ∙ ap f at2)
    ∙ ap (λ (y : Y). f p ∷ f q ∷ f r ∷ y ∷ []) (is3 ∙ ap f at3)))
four f [] a b c d i j k l size at0 at1 at2 at3 is0 is1 is2 is3 = absurd (omega (arith, size))
four f (p ∷ []) a b c d i j k l size at0 at1 at2 at3 is0 is1 is2 is3 = absurd (omega (arith, size))
four f (p ∷ q ∷ []) a b c d i j k l size at0 at1 at2 at3 is0 is1 is2 is3 = absurd (omega (arith, size))
four f (p ∷ q ∷ r ∷ []) a b c d i j k l size at0 at1 at2 at3 is0 is1 is2 is3 = absurd (omega (arith, size))
four f (p ∷ q ∷ r ∷ s ∷ t ∷ xs) a b c d i j k l size at0 at1 at2 at3 is0 is1 is2 is3 = absurd (omega (arith, size))

pub returns : goal.returns
returns c = record {
  cases = four (λ v. v.items) c.args.self.now.texts c.index-self-0.result c.index-self-1.result c.index-self-2.result c.index-self-3.result
      c.in_ok-copied.field-0.items c.in_ok-copied-2.field-0.items c.in_ok-copied-3.field-0.items c.in_ok-copied-4.field-0.items
      (omega arith) c.index-self-0.is c.index-self-1.is c.index-self-2.is c.index-self-3.is
      (search rules) (search rules) (search rules) (search rules);
}
