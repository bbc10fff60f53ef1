-- Processes as gdb names them: each has one thread.
use Rattle.std.specs.Prelude.{codes, ℕ, ◌+◌, ◌==◌, if◌then◌else◌, List, ◌++◌}
use Rattle.ds_gdb.specs.Each.{each}
use Rattle.ds_gdb.specs.Digits.{number_text}

-- the name of the thread of a process
abbrev pub thread_text : ℕ → List ℕ
thread_text p = codes "p" ++ number_text p ++ codes ".1"

-- what stands before the name of the process after so many others
abbrev pub mark_before : ℕ → List ℕ
mark_before i = if i == 0 then codes "m" else codes ","

-- the name of the process after so many others, in a list
abbrev pub listed_thread : ℕ → List ℕ
listed_thread i = mark_before i ++ thread_text (i + 1)

-- the names of so many processes
abbrev pub threads_text : ℕ → List ℕ
threads_text count = each listed_thread 0 count
