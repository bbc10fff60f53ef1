-- Positions of a run.
use Rattle.std.proofs.Common.{◌≡◌, ℕ, zero, suc, ◌+◌, refl, sym, ap, ◌∙◌, arith}
use Rattle.ds_bare_debug.specs.Positions.{BareRun, Position, position_after, first_position, onward, position}

pub onward_done : (p : Position) → (onward p).done ≡ p.done + 1
unfolding onward
onward_done p = refl

-- one more
pub after_more : (p : Position) (k : ℕ) → onward (position_after p k) ≡ position_after p (suc k)
unfolding position_after
after_more p k = refl

-- none
pub after_none : (p : Position) → p ≡ position_after p 0
unfolding position_after
after_none p = refl

after_here : (p : Position) → position_after p 0 ≡ p
unfolding position_after
after_here p = refl

-- how many instructions are done
pub done_after : (p : Position) (k : ℕ) → (position_after p k).done ≡ p.done + k
done_after p zero = let none : p.done ≡ p.done + 0 = omega arith in ap (λ (q : Position). q.done) (after_here p) ∙ none
done_after p (suc k) =
    let more : p.done + k + 1 ≡ p.done + suc k = omega arith in
    ap (λ (q : Position). q.done) (sym (after_more p k)) ∙ (onward_done (position_after p k) ∙ (ap (λ (n : ℕ). n + 1) (done_after p k) ∙ more))

-- of a run
pub done_at : (r : BareRun) (k : ℕ) → (position r k).done ≡ k
done_at r k = let same : 0 + k ≡ k = omega arith in done_after (first_position r) k ∙ same
