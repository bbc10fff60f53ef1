-- Characters that come in at a boundary, and are read out of the silo.
use Rattle.std.proofs.Common.{◌≡◌, ℕ, ◌+◌, ◌%◌, ◌<◌, ◌≤◌, Bool, true, false, cond, not, nat_le, List, [], ◌∷◌, ◌++◌, length, length-append, map, take, refl, sym, ap, ◌∙◌, arith}
use Rattle.std.specs.List.{All}
use Rattle.std.proofs.lemmas.Bool.Decides.{nat_tests}
use Rattle.std.proofs.lemmas.List.{append-nil, append_assoc, take_all, take-map, take-append-le}
use Rattle.std.proofs.lemmas.List.Elements.{All-head, All-tail}
use Rattle.ds_dev.specs.declared.serial.Character.{Character as Received}
use Rattle.ds_dev.specs.Serial.{SerialState, received}
use Rattle.ds_policy.specs.declared.command.Character.{Character}
use Rattle.ds_pagemap.specs.Boundary.{queued, all_queued}
use Rattle.ds_kernel.specs.Inner.Devices.{all_received, typed, lost_after, emptied}

-- a character as the silo has it
abbrev pub as_received : Character → Received
as_received c = record { line = c.line % 4; byte = c.byte }

-- the lines after a character, by whether the silo is full
abbrev pub by_room : Bool → SerialState → Character → SerialState
by_room true d c = record d { overrun = true }
by_room false d c = record d { silo = d.silo ++ as_received c ∷ [] }

pub received_one : (d : SerialState) (c : Character) → d.master_scan ≡ true → (received d c.line c.byte).1 ≡ by_room (nat_le 64 (length d.silo)) d c
received_one d c on = by d.master_scan (nat_le 64 (length d.silo)) on
  where
    by : (scan full : Bool) → scan ≡ true → (cond {A = Bool × SerialState} (not scan) (false, d) (cond {A = Bool × SerialState} full (false, record d { overrun = true }) (true, record d { silo = d.silo ++ as_received c ∷ [] }))).1 ≡ by_room full d c
    by true true e = refl
    by true false e = refl
    by false full e = absurd (cc)

full_is : (n : ℕ) → n ≤ 64 → nat_le 64 n ≡ true → n ≡ 64
full_is n few e = (let most : 64 ≤ n = grind (arith, nat_tests) in omega (arith, few, most))

room_is : (n : ℕ) → nat_le 64 n ≡ false → n + 1 ≤ 64
room_is n e = grind (arith, nat_tests)

full_take : (xs ys : List Received) → length xs ≡ 64 → take 64 (xs ++ ys) ≡ xs
full_take xs ys long =
    let few : 64 ≤ length xs = omega (arith, long) in
    let all : length xs ≤ 64 = omega (arith, long) in
    take-append-le 64 xs ys few ∙ take_all 64 xs all

one_longer : (xs : List Received) (x : Received) → nat_le 64 (length xs) ≡ false → length (xs ++ x ∷ []) ≤ 64
one_longer xs x e = (let room : length xs + 1 ≤ 64 = room_is (length xs) e in omega (arith, room, length-append xs (x ∷ [])))

-- the silo has the first 64, after what it had
pub silo_of : (d : SerialState) (cs : List Character) → d.master_scan ≡ true → length d.silo ≤ 64 → (all_received d cs).silo ≡ take 64 (d.silo ++ map as_received cs)
silo_of d [] on few = sym (ap (take 64) (append-nil d.silo) ∙ take_all 64 d.silo few)
silo_of d (c ∷ rest) on few = ap (λ (x : SerialState). (all_received x rest).silo) (received_one d c on) ∙ by (nat_le 64 (length d.silo)) refl (λ x. silo_of x rest)
  where
    by : (full : Bool) → nat_le 64 (length d.silo) ≡ full → ((x : SerialState) → x.master_scan ≡ true → length x.silo ≤ 64 → (all_received x rest).silo ≡ take 64 (x.silo ++ map as_received rest))
        → (all_received (by_room full d c) rest).silo ≡ take 64 (d.silo ++ as_received c ∷ map as_received rest)
    by true e more =
        let long : length d.silo ≡ 64 = full_is (length d.silo) few e in
        more (by_room true d c) on few ∙ (full_take d.silo (map as_received rest) long ∙ sym (full_take d.silo (as_received c ∷ map as_received rest) long))
    by false e more =
        more (by_room false d c) on (one_longer d.silo (as_received c) e) ∙ ap (take 64) (append_assoc d.silo (as_received c ∷ []) (map as_received rest))

-- once all is read, the lines are as they were before they received
pub emptied_all : (d : SerialState) (cs : List Character) → d.master_scan ≡ true → length d.silo ≤ 64 → (d.silo ≡ [] → d.overrun ≡ false)
    → emptied (all_received d cs) ≡ record d { silo = []; overrun = false }
emptied_all d [] on few none = ap (λ (b : Bool). record d { silo = []; overrun = b }) (by d.silo d.overrun none)
  where
    by : (silo : List Received) (lost : Bool) → (silo ≡ [] → lost ≡ false) → lost_after silo lost ≡ false
    by [] lost none = none refl
    by (c ∷ rest) lost none = refl
emptied_all d (c ∷ rest) on few none = ap (λ (x : SerialState). emptied (all_received x rest)) (received_one d c on) ∙ by (nat_le 64 (length d.silo)) refl (λ x. emptied_all x rest)
  where
    empty_length : (xs : List Received) → xs ≡ [] → length xs ≡ 0
    empty_length xs e = ap length e

    by : (full : Bool) → nat_le 64 (length d.silo) ≡ full
        → ((x : SerialState) → x.master_scan ≡ true → length x.silo ≤ 64 → (x.silo ≡ [] → x.overrun ≡ false) → emptied (all_received x rest) ≡ record x { silo = []; overrun = false })
        → emptied (all_received (by_room full d c) rest) ≡ record d { silo = []; overrun = false }
    by true e more =
        let long : length d.silo ≡ 64 = full_is (length d.silo) few e in
        more (by_room true d c) on few (λ none. (let no : length d.silo ≡ 0 = empty_length d.silo none in absurd (omega (arith, no, long))))
    by false e more =
        more (by_room false d c) on (one_longer d.silo (as_received c) e)
        (λ none. (let no : length (d.silo ++ as_received c ∷ []) ≡ 0 = empty_length (d.silo ++ as_received c ∷ []) none in absurd (omega (arith, no, length-append d.silo (as_received c ∷ [])))))

-- What is read goes to the queues of its lines.

low_line : (n : ℕ) → n < 4 → n % 4 ≡ n
low_line n low = omega (arith, low)

-- the queues take what was received as they take what came in
pub typed_alike : (queues : List (List ℕ)) (cs : List Character) → All (λ (c : Character). c.line < 4) cs → all_queued queues (map typed (map as_received cs)) ≡ all_queued queues cs
typed_alike queues [] low = refl
typed_alike queues (c ∷ rest) low =
    ap (λ (n : ℕ). all_queued (queued queues (record { time = c.time; line = n; byte = c.byte })) (map typed (map as_received rest))) (low_line c.line (All-head (λ (x : Character). x.line < 4) c rest low))
    ∙ typed_alike (queued queues c) rest (All-tail (λ (x : Character). x.line < 4) c rest low)

pub first_typed : (n : ℕ) (cs : List Character) → map typed (take n (map as_received cs)) ≡ map typed (map as_received (take n cs))
first_typed n cs = ap (map typed) (take-map as_received n cs)
