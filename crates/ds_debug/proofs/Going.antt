-- A run that goes forward, turn by turn.
use Rattle.std.proofs.Common.{◌≡◌, ℕ, ◌+◌, ◌≤◌, Bool, true, false, List, [], ◌∷◌, length, Option, None, refl, sym, ap, subst, ◌∙◌, arith}
use Rattle.std.specs.Prelude.{◌||◌, ◌&&◌, nat_lt, not, is_some}
use Rattle.std.proofs.lemmas.Bool.Decides.{nat_tests}
use Rattle.ds_pagemap.specs.Machine.{first}
use Rattle.ds_pagemap.specs.Run.{is_over}
use Rattle.ds_refinement.specs.Held.{Held}
use Rattle.ds_refinement.specs.Real.{RealPath}
use Rattle.ds_refinement.specs.Runs.{held_goes_on}
use Rattle.ds_refinement.specs.Inner.Runs.{RunsWithin}
use Rattle.ds_refinement.proofs.RunSteps.{within_start}
use Rattle.ds_station.proofs.InPieces.{no_steps}
use Rattle.ds_debug.specs.Goals.{Goal, stop_after}
use Rattle.ds_debug.specs.Watches.{all_seen}
use Rattle.ds_debug.specs.declared.watches.Seen.{Seen}
use Rattle.ds_debug.specs.Forward.{HasPassed, IsOnward, stop_between}
use Rattle.ds_debug.specs.Inner.Answering.{is_back}
use Rattle.ds_debug.specs.declared.goals.Stop.{Stop}
use Rattle.ds_debug.specs.declared.session.Course.{Course}
use Rattle.ds_debug.specs.declared.session.Course.TheVariants as course
use Rattle.ds_packets.specs.declared.packet.Action.{Action}

-- at first no turn has passed
pub none_passed : (g : Goal) (n : ℕ) (h : Held) → HasPassed g n h h
none_passed g n h = record { path = []; passes = refl }

-- what stops after a turn, by what was looked at before it
pub stop_told : (g : Goal) (last new : Held) (runner : Option ℕ) (logged : ℕ) (seen : List Seen) (stop : Option Stop)
    → runner ≡ first last.kept.state.ready → logged ≡ length last.kept.log → seen ≡ all_seen last g.watchpoints → stop ≡ stop_after g.aim runner logged seen new → stop_between g last new ≡ stop
stop_told g last new runner logged seen stop runs had saw is =
    ap (λ (r : Option ℕ). stop_after g.aim r (length last.kept.log) (all_seen last g.watchpoints) new) (sym runs)
    ∙ (ap (λ (l : ℕ). stop_after g.aim runner l (all_seen last g.watchpoints) new) (sym had)
    ∙ (ap (λ (s : List Seen). stop_after g.aim runner logged s new) (sym saw) ∙ sym is))

-- one more turn has passed
pub one_passed : (g : Goal) (n : ℕ) (old last new : Held) → HasPassed g n old last → IsOnward n last new → stop_between g last new ≡ None → HasPassed g n old new
one_passed g n old last new passed turn none = record { path = last ∷ passed.path; passes = (turn, none, passed.passes) }

-- where time is left and the run does not go on, nobody is left
over_by : (owed early before alive : Bool) → (owed || (early && alive)) ≡ false → early ≡ true → (owed || (before && alive)) ≡ false
over_by true early before alive is on = absurd (cc)
over_by false false before alive is on = absurd (cc)
over_by false true true alive is on = is
over_by false true false alive is on = refl

in_time : (t k : ℕ) → t ≤ k → nat_lt t (k + 1) ≡ true
in_time t k le = grind (arith, nat_tests)

-- a run in which no time has passed is over
pub still_over : (n k : ℕ) (h : Held) → h.kept.state.time ≤ k → held_goes_on (k + 1) h ≡ false → held_goes_on n h ≡ false
still_over n k h le is =
    over_by (is_some h.kept.state.owed) (nat_lt h.kept.state.time (k + 1)) (nat_lt h.kept.state.time n) (not (is_over h.kept.state)) is (in_time h.kept.state.time k le)

past : (t n : ℕ) → n ≤ t → nat_lt t n ≡ false
past t n le = grind (arith, nat_tests)

late_by : (owed early alive : Bool) → owed ≡ false → early ≡ false → (owed || (early && alive)) ≡ false
late_by true early alive is late = absurd (cc)
late_by false true alive is late = absurd (cc)
late_by false false alive is late = refl

-- so is one whose time is over
pub time_over : (n : ℕ) (h : Held) → h.kept.state.owed ≡ None → n ≤ h.kept.state.time → held_goes_on n h ≡ false
time_over n h whole le = late_by (is_some h.kept.state.owed) (nat_lt h.kept.state.time n) (not (is_over h.kept.state)) (ap is_some whole) (past h.kept.state.time n le)

-- a run that has not gone on
pub still_within : (n : ℕ) (old new : Held) → new ≡ old → RunsWithin n old new
still_within n old new is = subst (λ (h : Held). RunsWithin n old h) (sym is) (within_start n old)

-- takes no step
pub still_real : (old new : Held) → new ≡ old → RealPath old new
still_real old new is = subst (λ (h : Held). RealPath old h) (sym is) (no_steps old)

-- where the way is back
pub back_is_back : (by : Course) (action : Action) → by ≡ course.Backward action → is_back by ≡ false → ⊥
back_is_back by action is onward = let no : true ≡ false = sym (ap is_back is) ∙ onward in cc
