-- What comes in at a boundary, and what is read.
use Rattle.std.proofs.Common.{◌≡◌, ℕ, ◌<◌, Bool, true, false, cond, List, [], ◌∷◌, ◌++◌, length, length-set, map, Some, None, refl, sym, ap, ap₂, ◌∙◌, arith}
use Rattle.std.specs.Prelude.{nat_lt, slice_get, slice_set, slice_index_or}
use Rattle.std.specs.List.{All}
use Rattle.std.proofs.lemmas.List.Elements.{All-tail}
use Rattle.ds_dev.specs.declared.serial.Character.{Character as Received}
use Rattle.ds_dev.specs.Serial.{SerialState, read_silo, taken}
use Rattle.ds_dev.specs.Bus.{BusState, with_serial}
use Rattle.ds_policy.specs.declared.command.Character.{Character}
use Rattle.ds_pagemap.specs.Boundary.{queued, all_queued}
use Rattle.ds_pagemap_laws.specs.Due.{come}
use Rattle.ds_monitor.specs.declared.monitor.Monitor.{Monitor}
use Rattle.ds_monitor.specs.Inner.Kept.{kept_of}
use Rattle.ds_kernel.specs.declared.devices.Typed.{Typed}
use Rattle.ds_kernel.specs.declared.parts.Parts.{Parts}
use Rattle.ds_kernel.specs.Inner.Devices.{IsOfLine, all_received, typed, oldest, emptied, lost_after}
use Rattle.ds_kernel.specs.Inner.Attended.{to_come}
use Rattle.ds_policy.specs.InputFacts.{comes_at}
use Rattle.ds_policy.specs.Value.{InputValue}
use Rattle.ds_monitor.proofs.Coming.{none_come, all_stay}

-- where all that is left comes later, all that is due has come in
pub received_is : {L : Type 0} (old last : Parts L) (left : InputValue)
    → last ≡ record old { bus = with_serial old.bus last.bus.serial; monitor = record old.monitor { due = record old.monitor.due { characters = last.monitor.due.characters } } }
    → left ≡ last.monitor.due → All (λ (c : Character). last.monitor.time < comes_at c) last.monitor.due.characters
    → all_received last.bus.serial (come (kept_of last.monitor).state) ≡ all_received old.bus.serial (come (kept_of old.monitor).state)
    → to_come (kept_of last.monitor).state ≡ to_come (kept_of old.monitor).state
    → record last { monitor = record last.monitor { due = left } }
    ≡ record old { bus = with_serial old.bus (all_received old.bus.serial (come (kept_of old.monitor).state)); monitor = record old.monitor { due = record old.monitor.due { characters = to_come (kept_of old.monitor).state } } }
received_is {L = L} old last left rest same later received to =
    let none : come (kept_of last.monitor).state ≡ [] = none_come comes_at last.monitor.time last.monitor.due.characters later in
    let serial : last.bus.serial ≡ all_received old.bus.serial (come (kept_of old.monitor).state) = sym (ap (all_received last.bus.serial) none) ∙ received in
    let stay : to_come (kept_of last.monitor).state ≡ last.monitor.due.characters = all_stay comes_at last.monitor.time last.monitor.due.characters later in
    ap (λ (i : InputValue). record last { monitor = record last.monitor { due = i } }) same
    ∙ (rest
    ∙ ap₂ (λ (d : SerialState) (cs : List Character). record old { bus = with_serial old.bus d; monitor = record old.monitor { due = record old.monitor.due { characters = cs } } }) serial (sym stay ∙ to))

none_left : (silo : List Received) → oldest silo ≡ None → silo ≡ []
none_left [] e = refl
none_left (c ∷ rest) e = absurd (cc)

nothing_taken : (d : SerialState) → d.silo ≡ [] → (read_silo d).1 ≡ d
nothing_taken d e = by d.silo e
  where
    by : (silo : List Received) → silo ≡ [] → (taken (record d { silo = silo }) (slice_get silo 0)).1 ≡ record d { silo = silo }
    by [] e = refl
    by (c ∷ rest) e = absurd (cc)

emptied_none : (d : SerialState) → d.silo ≡ [] → emptied d ≡ d
emptied_none d e = ap (λ (silo : List Received). record d { silo = []; overrun = lost_after silo d.overrun }) e ∙ ap (λ (silo : List Received). record d { silo = silo }) (sym e)

-- where the silo has no character left, all that was received is read
pub drained_is : {L : Type 0} (old last new : Parts L)
    → last ≡ record old { bus = with_serial old.bus last.bus.serial; monitor = record old.monitor { queues = last.monitor.queues } }
    → new ≡ record last { bus = with_serial last.bus (read_silo last.bus.serial).1 }
    → oldest last.bus.serial.silo ≡ None → emptied last.bus.serial ≡ emptied old.bus.serial
    → all_queued last.monitor.queues.items (map typed last.bus.serial.silo) ≡ all_queued old.monitor.queues.items (map typed old.bus.serial.silo)
    → (new.bus ≡ with_serial old.bus (emptied old.bus.serial)) × (new.monitor.queues.items ≡ all_queued old.monitor.queues.items (map typed old.bus.serial.silo))
drained_is {L = L} old last new rest is none serial queues =
    let empty : last.bus.serial.silo ≡ [] = none_left last.bus.serial.silo none in
    let same : new ≡ last = is ∙ ap (λ (d : SerialState). record last { bus = with_serial last.bus d }) (nothing_taken last.bus.serial empty) in (
      ap (λ (x : Parts L). x.bus) (same ∙ rest) ∙ ap (with_serial old.bus) (sym (emptied_none last.bus.serial empty) ∙ serial),
      ap (λ (x : Parts L). x.monitor.queues.items) same ∙ (ap (λ (silo : List Received). all_queued last.monitor.queues.items (map typed silo)) (sym empty) ∙ queues),
    )

-- A character that is read goes to its queue.

abbrev afterwards : SerialState → List Received → SerialState
afterwards d silo = (taken (record d { silo = silo }) (slice_get silo 0)).1

queued_by : (ch : Typed) (silo : List Received) (d : SerialState) (queues : List (List ℕ)) (time : ℕ) → oldest silo ≡ Some ch
    → all_queued (queued queues (record { time = time; line = ch.line; byte = ch.byte })) (map typed (afterwards d silo).silo) ≡ all_queued queues (map typed silo)
queued_by ch [] d queues time e = absurd (cc)
queued_by ch (c ∷ rest) d queues time e =
    let same : record { line = c.line; byte = c.byte } ≡ ch = cc in
    ap (λ (x : Typed). all_queued (queued queues (record { time = time; line = x.line; byte = x.byte })) (map typed rest)) (sym same)

none_lost : (silo : List Received) → lost_after silo false ≡ false
none_lost [] = refl
none_lost (c ∷ rest) = refl

emptied_by : (ch : Typed) (silo : List Received) (d : SerialState) → oldest silo ≡ Some ch → emptied (afterwards d silo) ≡ emptied (record d { silo = silo })
emptied_by ch [] d e = absurd (cc)
emptied_by ch (c ∷ rest) d e = ap (λ (lost : Bool). record d { silo = []; overrun = lost }) (none_lost rest)

lines_by : (ch : Typed) (silo : List Received) (d : SerialState) → oldest silo ≡ Some ch → All IsOfLine silo → All IsOfLine (afterwards d silo).silo
lines_by ch [] d e all = absurd (cc)
lines_by ch (c ∷ rest) d e all = All-tail IsOfLine c rest all

shorter_by : (ch : Typed) (silo : List Received) (d : SerialState) → oldest silo ≡ Some ch → length (afterwards d silo).silo < length silo
shorter_by ch [] d e = absurd (cc)
shorter_by ch (c ∷ rest) d e = omega arith

as_many : (b : Bool) (queues : List (List ℕ)) (i : ℕ) (q : List ℕ) → length (cond b (slice_set queues i q) queues) ≡ length queues
as_many true queues i q = length-set queues i q
as_many false queues i q = refl

pub queued_long : (queues : List (List ℕ)) (c : Character) → length (queued queues c) ≡ length queues
queued_long queues c = as_many (nat_lt (length (slice_index_or queues c.line [])) 256) queues c.line (slice_index_or queues c.line [] ++ c.byte ∷ [])

module _ (d : SerialState) (ch : Typed) (is : oldest d.silo ≡ Some ch) where
  pub queued_next : (queues : List (List ℕ)) (time : ℕ) → all_queued (queued queues (record { time = time; line = ch.line; byte = ch.byte })) (map typed (read_silo d).1.silo) ≡ all_queued queues (map typed d.silo)
  queued_next queues time = queued_by ch d.silo d queues time is

  pub emptied_next : emptied (read_silo d).1 ≡ emptied d
  emptied_next = emptied_by ch d.silo d is

  pub lines_next : All IsOfLine d.silo → All IsOfLine (read_silo d).1.silo
  lines_next all = lines_by ch d.silo d is all

  pub shorter : length (read_silo d).1.silo < length d.silo
  shorter = shorter_by ch d.silo d is

pub read_rest : {L : Type 0} (old last : Parts L) (b : BusState) (m : Monitor) (d : SerialState)
    → last ≡ record old { bus = with_serial old.bus last.bus.serial; monitor = record old.monitor { queues = last.monitor.queues } }
    → b ≡ with_serial last.bus d → m ≡ record last.monitor { queues = m.queues }
    → record last { bus = b; monitor = m } ≡ record old { bus = with_serial old.bus b.serial; monitor = record old.monitor { queues = m.queues } }
read_rest {L = L} old last b m d rest bus monitor =
    let same : b ≡ with_serial last.bus b.serial = bus ∙ ap (with_serial last.bus) (sym (ap (λ (x : BusState). x.serial) bus)) in
    ap₂ (λ (x : BusState) (y : Monitor). record last { bus = x; monitor = y }) same monitor
    ∙ ap (λ (x : Parts L). record x { bus = with_serial x.bus b.serial; monitor = record x.monitor { queues = m.queues } }) rest
