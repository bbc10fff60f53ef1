-- One step of a definition that goes over the items of an array.
use Rattle.std.proofs.Common.{◌≡◌, ℕ, ◌+◌, ◌<◌, ◌≤◌, List, [], ◌∷◌, ◌++◌, length, get_or, drop, Result, Ok, Err}
use Rattle.std.proofs.lemmas.List.{drop_all}
use Rattle.toml.specs.Data.{Data}
use Rattle.toml.specs.declared.value.Value.{Value}
use Rattle.toml.specs.View.{view, items_view}
use Rattle.toml.proofs.Views.{items_view-drop}
use Rattle.ds_policy.specs.declared.cause.PolicyReason.{PolicyReason}
use Rattle.ds_policy.specs.PolicyText.{each_of}

pub each_more : {X C : Type 0} (one : List X → Data → Result X C) (tell : ℕ → C → PolicyReason) (done : List X) (vs : List Value) (i : ℕ) (v : Value) (x : X)
    → i < length vs → v ≡ get_or vs i v → one done (view v) ≡ Ok x
    → each_of one tell done (items_view (drop i vs)) ≡ each_of one tell (done ++ x ∷ []) (items_view (drop (i + 1) vs))
unfolding each_of
each_more one tell done vs i v x h is found = rw (items_view-drop vs i v h, ← is, found)

pub each_refused : {X C : Type 0} (one : List X → Data → Result X C) (tell : ℕ → C → PolicyReason) (done : List X) (vs : List Value) (i : ℕ) (v : Value) (cause : C)
    → i < length vs → v ≡ get_or vs i v → one done (view v) ≡ Err cause
    → each_of one tell done (items_view (drop i vs)) ≡ Err (tell (length done + 1) cause)
unfolding each_of
each_refused one tell done vs i v cause h is found = rw (items_view-drop vs i v h, ← is, found)

pub each_end : {X C : Type 0} (one : List X → Data → Result X C) (tell : ℕ → C → PolicyReason) (done : List X) (vs : List Value) (i : ℕ)
    → length vs ≤ i → each_of one tell done (items_view (drop i vs)) ≡ Ok done
unfolding each_of
each_end one tell done vs i h = rw (drop_all i vs h)
