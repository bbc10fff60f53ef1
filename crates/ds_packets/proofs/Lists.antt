-- One word of a list of actions, or of features.
use Rattle.std.proofs.Common.{◌≡◌, sym, ◌∙◌, ap, ℕ, Bool, true, false, ◌&&◌, ◌||◌, is_some, List, Option, Some, None}
use Rattle.std.specs.List.{list_all, list_any}
use Rattle.ds_packets.specs.declared.packet.Action.{Action}
use Rattle.ds_packets.specs.Words.{before, parts}
use Rattle.ds_packets.specs.Inner.Words.{later}
use Rattle.ds_packets.specs.Packets.{chosen, first_action, is_feature, or_else, step_of}
use Rattle.ds_packets.proofs.Parts.{left_parts, parts_step}

-- whether all words are actions
abbrev pub are_steps : List (List ℕ) → Bool
are_steps words = list_all (λ word. is_some (step_of word)) words

pub steps_go_on : (text : List ℕ) (more : Option (List ℕ)) → more ≡ later text → is_some (step_of (before 59 text)) ≡ true → are_steps (left_parts more) ≡ are_steps (parts text)
steps_go_on text more is good = ap (λ o. are_steps (left_parts o)) is ∙ sym (ap are_steps (parts_step text) ∙ ap (λ b. b && are_steps (left_parts (later text))) good)

pub steps_end : (text : List ℕ) → is_some (step_of (before 59 text)) ≡ false → are_steps (parts text) ≡ false
steps_end text bad = ap are_steps (parts_step text) ∙ ap (λ b. b && are_steps (left_parts (later text))) bad

pub choice_goes_on : (process : ℕ) (text : List ℕ) (more : Option (List ℕ)) → more ≡ later text → chosen process (before 59 text) ≡ None → first_action (left_parts more) process ≡ first_action (parts text) process
choice_goes_on process text more is none = ap (λ o. first_action (left_parts o) process) is ∙ sym (ap (λ ws. first_action ws process) (parts_step text) ∙ ap (λ a. or_else a (first_action (left_parts (later text)) process)) none)

pub choice_ends : (process : ℕ) (text : List ℕ) (action : Action) → chosen process (before 59 text) ≡ Some action → first_action (parts text) process ≡ Some action
choice_ends process text action some = ap (λ ws. first_action ws process) (parts_step text) ∙ ap (λ a. or_else a (first_action (left_parts (later text)) process)) some

-- whether one word is this feature
abbrev pub has_feature : List (List ℕ) → Bool
has_feature words = list_any is_feature words

pub feature_goes_on : (text : List ℕ) (more : Option (List ℕ)) → more ≡ later text → is_feature (before 59 text) ≡ false → has_feature (left_parts more) ≡ has_feature (parts text)
feature_goes_on text more is other = ap (λ o. has_feature (left_parts o)) is ∙ sym (ap has_feature (parts_step text) ∙ ap (λ b. b || has_feature (left_parts (later text))) other)

pub feature_ends : (text : List ℕ) → is_feature (before 59 text) ≡ true → has_feature (parts text) ≡ true
feature_ends text is = ap has_feature (parts_step text) ∙ ap (λ b. b || has_feature (left_parts (later text))) is
