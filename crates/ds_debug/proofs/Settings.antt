-- The process that a session looks at has a small number.
use Rattle.std.proofs.Common.{◌≡◌, ℕ, zero, suc, ◌+◌, ◌<◌, ◌≤◌, Bool, true, false, cond, length, Option, Some, refl, arith}
use Rattle.std.proofs.lemmas.Bool.Decides.{nat_tests}
use Rattle.ds_packets.specs.declared.packet.Who.{Who}
use Rattle.ds_packets.specs.declared.packet.Who.TheVariants as who
use Rattle.ds_pagemap.specs.Machine.{State, has_ended, process_of}
use Rattle.ds_refinement.specs.Held.{Held}
use Rattle.ds_station.specs.Outcome.{first_unended, unended_from}
use Rattle.ds_station.specs.declared.outcome.Unended.{Unended}
use Rattle.ds_debug.specs.Answers.{are_there, is_there}
use Rattle.ds_debug.specs.Sights.{sight_held}
use Rattle.ds_debug.specs.Sessions.{named_or}

there_small : (h : Held) (p : ℕ) → length h.kept.state.processes ≤ 100 → is_there (sight_held h) p ≡ true → p < 256
there_small h p few there = grind (arith, nat_tests)

-- one that is named and there
pub named_small : (h : Held) (w : Who) (p : ℕ) → p < 256 → length h.kept.state.processes ≤ 100 → are_there (sight_held h) w ≡ true → named_or w p < 256
named_small h who.Any p small few there = small
named_small h who.All p small few there = small
named_small h (who.Process q) p small few there = there_small h q few there

-- one of so many, by whether it has ended
within_by : (b : Bool) (p n : ℕ) (u here : Unended) (later : Option Unended) → here.process ≡ p → (Some u ≡ later → u.process < p + 1 + n) → Some u ≡ cond b later (Some here) → u.process < p + suc n
within_by true p n u here later at rest is = let low = rest is in omega (arith, low)
within_by false p n u here later at rest is = let same : u.process ≡ here.process = cc in omega (arith, same, at)

-- the first of so many that has not ended is one of them
unended_within : (m : State) (p n : ℕ) (u : Unended) → Some u ≡ unended_from m p n → u.process < p + n
unended_within m p zero u is = absurd (cc)
unended_within m p (suc n) u is =
    within_by (has_ended (process_of m p).standing) p n u (record { process = p; standing = (process_of m p).standing }) (unended_from m (p + 1) n) refl (unended_within m (p + 1) n u) is

-- so it is small
pub unended_small : (m : State) (u : Unended) → Some u ≡ first_unended m → length m.processes ≤ 100 → u.process < 256
unended_small m u is few = let within = unended_within m 1 (length m.processes) u is in omega (arith, within, few)
