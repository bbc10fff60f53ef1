-- The next character of an input, told.
use Rattle.std.proofs.Common.{◌≡◌, ◌∙◌, ap, sym, ℕ, ◌+◌, List, [], ◌∷◌, ◌++◌, drop, append_assoc}
use Rattle.std.specs.Prelude.{Option, Some, None, is_some}
use Rattle.std.specs.List.{slice_get}
use Rattle.std.proofs.lemmas.Bool.{true≢false}
use Rattle.std.proofs.lemmas.List.{drop-drop}
use Rattle.ds_policy.specs.declared.command.Character.{Character}
use Rattle.ds_policy.specs.declared.policy.PolicyPage.{PolicyPage}
use Rattle.ds_check.specs.declared.due.Due.{Due}
use Rattle.ds_check.specs.Coming.{events_from, step_text, step_count}

abbrev character_or : Character → Option Character → Character
character_or other None = other
character_or other (Some c) = c

-- what is told of it is written, and of the others is not
pub event_more : (pages : List PolicyPage) (last : Option Character) (ks : List Due) (cs : List Character) (c : Character) (done n : ℕ) (sheet more whole : List ℕ)
    → slice_get cs 0 ≡ Some c → n ≡ step_count last (drop done ks) c → more ≡ sheet ++ step_text pages last (drop done ks) c
    → sheet ++ events_from pages last (drop done ks) cs ≡ whole
    → more ++ events_from pages (Some c) (drop (done + n) ks) (drop 1 cs) ≡ whole
event_more pages last ks [] c done n sheet more whole found few text is = absurd (true≢false (ap is_some (sym found)))
event_more pages last ks (d ∷ cs) c done n sheet more whole found few text is =
    let same : d ≡ c = ap (character_or d) found in
    ap (λ (xs : List ℕ). xs ++ events_from pages (Some c) (drop (done + n) ks) cs) text
    ∙ (append_assoc sheet (step_text pages last (drop done ks) c) (events_from pages (Some c) (drop (done + n) ks) cs)
    ∙ (ap (λ (xs : List Due). sheet ++ (step_text pages last (drop done ks) c ++ events_from pages (Some c) xs cs)) (sym (drop-drop n done ks) ∙ ap (λ (k : ℕ). drop k (drop done ks)) few)
    ∙ (ap (λ (x : Character). sheet ++ (step_text pages last (drop done ks) x ++ events_from pages (Some x) (drop (step_count last (drop done ks) x) (drop done ks)) cs)) (sym same)
    ∙ is)))
