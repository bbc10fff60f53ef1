-- Commands that are due, one after another.
use Rattle.std.proofs.Common.{◌≡◌, ◌∙◌, ℕ, ◌+◌, ◌<◌, ◌≤◌, Bool, true, false, cond, List, [], ◌∷◌, ◌++◌, append_assoc, length, drop, get_or, nat_le, sym, ap}
use Rattle.std.proofs.lemmas.List.{append-nil, drop_all, drop_more}
use Rattle.ds_policy.specs.declared.command.TimedCommand.{TimedCommand}
use Rattle.ds_trace.specs.Boundaries.{due_by}

module _ (time : ℕ) (cs : List TimedCommand) (i : ℕ) (items whole : List TimedCommand) (so : items ++ due_by time (drop i cs) ≡ whole) where
  module _ (c : TimedCommand) (within : i < length cs) where
    -- what is due from one on
    here : due_by time (drop i cs) ≡ cond (nat_le (get_or cs i c).time time) (get_or cs i c ∷ due_by time (drop (i + 1) cs)) []
    here = ap (due_by time) (drop_more cs i c within)

    -- one that is due
    pub due_more : (new : List TimedCommand) → nat_le (get_or cs i c).time time ≡ true → new ≡ items ++ get_or cs i c ∷ [] → new ++ due_by time (drop (i + 1) cs) ≡ whole
    due_more new is adds =
        let rest : List TimedCommand = due_by time (drop (i + 1) cs) in
        ap (λ (l : List TimedCommand). l ++ rest) adds
        ∙ (append_assoc items (get_or cs i c ∷ []) rest
        ∙ (sym (ap (λ (l : List TimedCommand). items ++ l) (here ∙ ap (λ (b : Bool). cond b (get_or cs i c ∷ rest) []) is)) ∙ so))

    -- one that is not, with all after it
    pub due_none : nat_le (get_or cs i c).time time ≡ false → items ≡ whole
    due_none is =
        sym (append-nil items)
        ∙ (sym (ap (λ (l : List TimedCommand). items ++ l) (here ∙ ap (λ (b : Bool). cond b (get_or cs i c ∷ due_by time (drop (i + 1) cs)) []) is)) ∙ so)

  -- none is left
  pub due_all : length cs ≤ i → items ≡ whole
  due_all past = sym (append-nil items) ∙ (sym (ap (λ (l : List TimedCommand). items ++ due_by time l) (drop_all i cs past)) ∙ so)
