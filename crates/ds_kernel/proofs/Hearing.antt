-- Where no device asks for the processor nothing was received, and nobody wakes.
use Rattle.std.proofs.Common.{◌≡◌, ℕ, zero, suc, ◌+◌, ◌≤◌, Bool, true, false, cond, List, [], ◌∷◌, ◌++◌, length, map, refl, sym, ap, ◌∙◌, arith, nat_lt, nat_le}
use Rattle.std.specs.Prelude.{not, ◌&&◌, ◌||◌, ◌%◌}
use Rattle.std.proofs.lemmas.Bool.Decides.{nat_tests}
use Rattle.ds_dev.specs.declared.serial.Character.{Character as Received}
use Rattle.ds_dev.specs.Serial.{SerialState, has_received, received}
use Rattle.ds_dev.specs.Clock.{clock_requests}
use Rattle.ds_dev.specs.Bus.{BusState, with_serial, is_enabled}
use Rattle.ds_dev.specs.Inner.Bus.{asks}
use Rattle.ds_policy.specs.declared.command.Character.{Character}
use Rattle.ds_pagemap.specs.Machine.{State, made_ready}
use Rattle.ds_pagemap.specs.Boundary.{woken}
use Rattle.ds_pagemap_laws.specs.Due.{NobodyWakes, come}
use Rattle.ds_refinement.specs.Held.{Kept}
use Rattle.ds_monitor.specs.Inner.Kept.{kept_after}
use Rattle.ds_kernel.specs.Inner.Devices.{TellsReceived, all_received, typed, emptied, lost_after}
use Rattle.ds_kernel.specs.Inner.Attended.{heard, bus_at}

no_items : {X : Type 0} (xs : List X) → nat_lt 0 (length xs) ≡ false → xs ≡ []
no_items [] e = refl
no_items (x ∷ xs) e = (let none : length (x ∷ xs) ≤ 0 = grind (arith, nat_tests) in absurd (omega (arith, none)))

not_received : (some on enabled clock : Bool) → on ≡ true → enabled ≡ true → ((some && on) && enabled) || clock ≡ false → some ≡ false
not_received false on enabled clock a b e = refl
not_received true true true clock a b e = absurd (cc)
not_received true true false clock a b e = absurd (cc)
not_received true false enabled clock a b e = absurd (cc)

-- the lines ask where something was received
pub none_heard : (b : BusState) → TellsReceived b → asks b ≡ false → b.serial.silo ≡ []
none_heard b tells none = no_items b.serial.silo (not_received (has_received b.serial) b.serial.receiver_interrupts (is_enabled b.system) (clock_requests b.clock) tells.serial tells.system none)

none_woken : (m : State) (p n : ℕ) → NobodyWakes m → woken m p n ≡ m
none_woken m p zero asleep = refl
none_woken m p (suc n) asleep = ap (λ (b : Bool). woken (cond b (made_ready m p) m) (p + 1) n) (asleep p) ∙ none_woken m (p + 1) n asleep

pub quiet_kept : (k : Kept) (silo : List Received) → silo ≡ [] → NobodyWakes k.state → k ≡ kept_after (heard (map typed silo)) k
quiet_kept k silo none asleep =
    ap (λ (m : State). record k { state = m }) (sym (none_woken k.state 1 (length k.state.processes) asleep))
    ∙ ap (λ (xs : List Received). kept_after (heard (map typed xs)) k) (sym none)

pub quiet_bus : (b : BusState) → b.serial.silo ≡ [] → b ≡ with_serial b (emptied b.serial)
quiet_bus b none =
    ap (λ (xs : List Received). with_serial b (record b.serial { silo = xs })) none
    ∙ ap (λ (xs : List Received). with_serial b (record b.serial { silo = []; overrun = lost_after xs b.serial.overrun })) (sym none)

-- a character that comes in changes no setting
one_received : (d : SerialState) (line byte : ℕ) → (received d line byte).1.receiver_interrupts ≡ d.receiver_interrupts
one_received d line byte = by d.master_scan (nat_le 64 (length d.silo))
  where
    by : (on full : Bool) → (cond {A = Bool × SerialState} (not on) (false, d) (cond full (false, record d { overrun = true }) (true, record d { silo = d.silo ++ record { line = line % 4; byte = byte } ∷ [] }))).1.receiver_interrupts ≡ d.receiver_interrupts
    by false full = refl
    by true true = refl
    by true false = refl

pub still_tells : (d : SerialState) (cs : List Character) → (all_received d cs).receiver_interrupts ≡ d.receiver_interrupts
still_tells d [] = refl
still_tells d (c ∷ rest) = still_tells (received d c.line c.byte).1 rest ∙ one_received d c.line c.byte

-- what came in up to a boundary changes none
pub arrived_tells : (b at : BusState) (k : Kept) → at ≡ bus_at b k → TellsReceived b → TellsReceived at
arrived_tells b at k is tells = record {
  serial = ap (λ (x : BusState). x.serial.receiver_interrupts) is ∙ (still_tells b.serial (come k.state) ∙ tells.serial);
  system = ap (λ (x : BusState). is_enabled x.system) is ∙ tells.system;
}
