-- What a touch leaves, and that a second one adds nothing.
use Rattle.std.proofs.Common.{◌≡◌, ℕ, ◌-◌, List, [], ◌∷◌, Bool, true, false, refl, ap, ◌∙◌, arith, set}
use Rattle.std.proofs.lemmas.List.{set-set, set_comm}
use Rattle.ds_isa.specs.Registers.{settled}
use Rattle.ds_pagemap.specs.Machine.{State, Process, no_process, has_ended, touched_process, touch_first, touched}
use Rattle.ds_pagemap.specs.Run.{is_over, goes_on}
use Rattle.ds_pagemap.proofs.Lists.{set_again, list_all-set}

sets_again : (xs : List ℕ) (a b : ℕ) → set (set (set (set xs 26 a) 27 b) 26 a) 27 b ≡ set (set xs 26 a) 27 b
sets_again xs a b =
    let apart : ◌≡◌ {A = ℕ} 27 26 → ⊥ = λ (e : ◌≡◌ {A = ℕ} 27 26). omega arith in
    let e : set (set (set xs 26 a) 27 b) 26 a ≡ set (set (set xs 26 a) 26 a) 27 b = set_comm (set xs 26 a) 27 26 b a apart in
    let f : set (set xs 26 a) 26 a ≡ set xs 26 a = set-set xs 26 a a in
    ap (λ (ys : List ℕ). set ys 27 b) e ∙ (set-set (set (set xs 26 a) 26 a) 27 b b ∙ ap (λ (ys : List ℕ). set ys 27 b) f)

pub touched_process_again : (q : Process) → touched_process (touched_process q) ≡ touched_process q
touched_process_again q = ap (λ (general : List ℕ). record q { registers = record (settled q.registers) { general = general } }) (sets_again q.registers.general 0 q.pc)

-- the ready list is as before
pub touch_first-ready : (m : State) (ready : List ℕ) → (touch_first m ready).ready ≡ m.ready
touch_first-ready m [] = refl
touch_first-ready m (p ∷ rest) = refl

touch_first_again : (m : State) (ready : List ℕ) → touch_first (touch_first m ready) ready ≡ touch_first m ready
touch_first_again m [] = refl
touch_first_again m (p ∷ rest) = ap (λ (ps : List Process). record m { processes = ps }) (set_again touched_process touched_process_again m.processes (p - 1) no_process)

-- a touch after a touch changes nothing
pub touched_again : (b : Bool) (m : State) → touched b (touched true m) ≡ touched true m
touched_again true m = rw (touch_first-ready m m.ready) (touch_first_again m m.ready)
touched_again false m = refl

-- whether a boundary is owed is as before
pub touch_first-owed : (m : State) (ready : List ℕ) → (touch_first m ready).owed ≡ m.owed
touch_first-owed m [] = refl
touch_first-owed m (p ∷ rest) = refl

pub touch_first-time : (m : State) (ready : List ℕ) → (touch_first m ready).time ≡ m.time
touch_first-time m [] = refl
touch_first-time m (p ∷ rest) = refl

pub touched-time : (b : Bool) (m : State) → (touched b m).time ≡ m.time
touched-time true m = touch_first-time m m.ready
touched-time false m = refl

touch_first-log : (m : State) (ready : List ℕ) → (touch_first m ready).log ≡ m.log
touch_first-log m [] = refl
touch_first-log m (p ∷ rest) = refl

pub touched-log : (b : Bool) (m : State) → (touched b m).log ≡ m.log
touched-log true m = touch_first-log m m.ready
touched-log false m = refl

touch_first-is_over : (m : State) (ready : List ℕ) → is_over (touch_first m ready) ≡ is_over m
touch_first-is_over m [] = refl
touch_first-is_over m (p ∷ rest) = list_all-set (λ (q : Process). has_ended q.standing) touched_process (λ q. refl) m.processes (p - 1) no_process

-- a run goes on from a touched state just where it does from the state itself
pub goes_on_touched : (n : ℕ) (b : Bool) (m : State) → goes_on n (touched b m) ≡ goes_on n m
goes_on_touched n true m = rw (touch_first-owed m m.ready, touch_first-time m m.ready, touch_first-is_over m m.ready) refl
goes_on_touched n false m = refl
