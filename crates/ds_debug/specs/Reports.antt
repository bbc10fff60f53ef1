-- What is told in words: how far a run has come, and how each process stands.
use Rattle.std.specs.Prelude.{codes, decimal, ℕ, ◌+◌, ◌&&◌, Bool, nat_lt, is_some, if◌then◌else◌, List, ◌++◌}
use Rattle.ds_text.specs.Digits.{hex8}
use Rattle.ds_procs.specs.declared.process.Standing.{Standing}
use Rattle.ds_procs.specs.declared.process.Standing.TheVariants.{Ready, Waiting, Parked, Ended}
use Rattle.ds_pagemap.specs.Boundary.{is_first}
use Rattle.ds_gdb.specs.Each.{each}
use Rattle.ds_gdb.specs.Replies.{time_words}
use Rattle.ds_debug.specs.Sights.{Sight}

-- how a process stands
abbrev pub standing_text : Standing → List ℕ
standing_text Ready = codes "ready"
standing_text Waiting = codes "waiting"
standing_text Parked = codes "parked"
standing_text Ended = codes "ended"

-- whether it is the one that runs
abbrev pub is_runner : Sight → ℕ → Bool
is_runner s p = is_first s.runner p

-- a process by how it stands and where, and whether it runs
abbrev pub process_line : ℕ → Standing → ℕ → Bool → List ℕ
process_line p standing pc runs = decimal p ++ codes " " ++ standing_text standing ++ codes " " ++ hex8 pc ++ (if runs then codes " runs\n" else codes "\n")

-- the process after so many others
abbrev pub listed_process : Sight → ℕ → List ℕ
listed_process s i = process_line (i + 1) (s.standing (i + 1)) (s.registers (i + 1)).pc (is_runner s (i + 1))

-- all processes
abbrev pub processes_text : Sight → List ℕ
processes_text s = each (listed_process s) 0 s.count

-- a process in words
abbrev pub thread_words : ℕ → Standing → Bool → List ℕ
thread_words p standing runs = codes "process " ++ decimal p ++ codes " " ++ standing_text standing ++ (if runs then codes ", runs" else codes "")

-- time is left of a run for n, and a process has not ended
abbrev pub is_going : ℕ → Sight → Bool
is_going n s = nat_lt s.time n && is_some s.unended

-- how far a run for n has come
abbrev pub time_text : ℕ → Sight → List ℕ
time_text n s = time_words s.time n (is_going n s)
