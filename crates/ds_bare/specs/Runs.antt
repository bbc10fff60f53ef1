-- A run of the bare machine, and its text.
use Rattle.std.specs.Prelude.{◌≡◌, ◌≢◌, ◌≤◌, ℕ, zero, suc, ◌+◌, if◌then◌else◌, List, [], ◌++◌, Option, Some, None}
use Rattle.std.specs.Io.KnownBytes.{Appends}
use Rattle.ds_policy.specs.declared.command.Character.{Character}
use Rattle.ds_words.specs.declared.bare_view.BareView.{BareView}
use Rattle.ds_words.specs.BareViews.{reaches}
use Rattle.ds_bare.specs.declared.ending.Ending.{Ending}
use Rattle.ds_bare.specs.declared.ending.Ending.TheVariants.{Counted}
use Rattle.ds_bare.specs.Machine.{Machine, counted, machine_at_start, fed, next_step, stepped, settled_machine}
use Rattle.ds_bare.specs.Endings.{ending_of, word_at_pc}
use Rattle.ds_bare.specs.Steps.{before_word, others}
use Rattle.ds_bare.specs.Shows.{lines_shown}
use Rattle.ds_bare.specs.Ends.{end_text}

-- the machine after one more instruction, when so many are done
unfoldable pub turned : ℕ → Machine → Machine
turned k m = settled_machine (counted (word_at_pc (fed k m).core (fed k m).bus) (next_step (fed k m)).event (stepped (fed k m)))

-- the lines of that instruction: with it, the characters before it and the tick after it
unfoldable pub turn_text : BareView → ℕ → Machine → List ℕ
turn_text v k m = lines_shown v (k + 1) (before_word (fed k m).core (others m.core m.bus) (word_at_pc (fed k m).core (fed k m).bus)) (next_step (fed k m)).event (turned k m).core (turned k m).bus

-- what is told of it
unfoldable pub step_told : BareView → ℕ → Machine → List ℕ
step_told v k m = if reaches v (k + 1) then turn_text v k m else []

-- why the run ends with it, if it does
unfoldable pub ending_at : ℕ → Machine → Option Ending
ending_at k m = ending_of (fed k m)

-- the end, where there is one, else what comes after
abbrev pub end_or : BareView → Option Ending → ℕ → Machine → List ℕ → List ℕ
end_or v None k m rest = rest
end_or v (Some e) k m rest = end_text v e k m

-- the text of at most so many instructions more, when so many are done
abbrev pub run_from : BareView → ℕ → ℕ → Machine → List ℕ
run_from v zero k m = end_text v Counted k m
run_from v (suc n) k m = step_told v k m ++ end_or v (ending_at k m) (k + 1) (turned k m) (run_from v n (k + 1) (turned k m))

-- why the same instructions end
abbrev pub end_or_later : Option Ending → Ending → Ending
end_or_later None later = later
end_or_later (Some e) later = e

abbrev pub ending_from : ℕ → ℕ → Machine → Ending
ending_from zero k m = Counted
ending_from (suc n) k m = end_or_later (ending_at k m) (ending_from n (k + 1) (turned k m))

-- the text of a run of an image
unfoldable pub bare_text : BareView → List ℕ → ℕ → ℕ → List Character → List ℕ
bare_text v image random n keys = run_from v n 0 (machine_at_start image random keys)

-- the machine after the first so many instructions
abbrev pub machine_after : ℕ → Machine → Machine
machine_after zero m = m
machine_after (suc k) m = turned k (machine_after k m)

-- what is told of the first so many instructions
abbrev pub steps_told : BareView → ℕ → Machine → List ℕ
steps_told v zero m = []
steps_told v (suc k) m = steps_told v k m ++ step_told v k (machine_after k m)

-- a run of at most n instructions was cut between two of them: what is told of the first ones is written, and the rest of its text is not
pub record IsCutBetween (old new : Option (List ℕ)) (v : BareView) (n : ℕ) (m : Machine) : Type 0 where
  pub done : ℕ
  pub within : done ≤ n
  pub written : Appends old new (steps_told v done m)
  pub rest : List ℕ
  pub goes_on : steps_told v done m ++ rest ≡ run_from v n 0 m
  pub unwritten : rest ≢ []
