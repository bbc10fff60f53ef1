-- Steps of a run: nothing, half a turn, a touch.
use Rattle.std.proofs.Common.{◌≡◌, ℕ, [], ◌∷◌, Bool, true, false, cond, refl, sym, ap, ◌∙◌}
use Rattle.ds_pagemap.specs.Machine.{State, touched}
use Rattle.ds_pagemap.specs.Run.{half_turn, goes_on, go, after, Reaches}
use Rattle.ds_pagemap.proofs.Touches.{touch_first-owed, touched_again, goes_on_touched}

half_touched : (b : Bool) (m : State) → half_turn b (touched true m) ≡ half_turn true m
unfolding half_turn
half_touched b m = rw (touched_again b m, touch_first-owed m m.ready) refl

-- a touch counts as that of the half turn after it
pub half_after_touch : (b c : Bool) (m : State) → (d : Bool) × (half_turn b (touched c m) ≡ half_turn d m)
half_after_touch b true m = (true, half_touched b m)
half_after_touch b false m = (b, refl)

-- two touches count as one
pub touched_or : (b c : Bool) (m : State) → (d : Bool) × (touched b (touched c m) ≡ touched d m)
touched_or b true m = (true, touched_again b m)
touched_or b false m = (b, refl)

-- a run may have made no step
pub reaches_start : (n : ℕ) (m : State) → Reaches n m m
unfolding after
reaches_start n m = record { choices = []; early = false; comes_to = refl }

-- it goes on by half a turn
pub reaches_half : (n : ℕ) (m t : State) (touch : Bool) → Reaches n m t → goes_on n t ≡ true → Reaches n m (half_turn touch t)
unfolding after
reaches_half n m t touch r on =
    let a = after n r.choices m in
    let d = half_after_touch touch r.early a in
    let goes : goes_on n a ≡ true = sym (goes_on_touched n r.early a) ∙ (ap (goes_on n) (sym r.comes_to) ∙ on) in
    let next : half_turn touch t ≡ half_turn d.0 a = ap (half_turn touch) r.comes_to ∙ d.1 in
    let went : go n d.0 a ≡ half_turn d.0 a = ap (λ x. cond x (half_turn d.0 a) a) goes in
    record { choices = d.0 ∷ r.choices; early = false; comes_to = next ∙ sym went }

-- and by a touch
pub reaches_touch : (n : ℕ) (m t : State) (b : Bool) → Reaches n m t → Reaches n m (touched b t)
reaches_touch n m t b r =
    let d = touched_or b r.early (after n r.choices m) in
    record { choices = r.choices; early = d.0; comes_to = ap (touched b) r.comes_to ∙ d.1 }
