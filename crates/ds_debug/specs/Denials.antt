-- What a line of the log tells of a denial, as a signal.
use Rattle.std.specs.Prelude.{codes, bytes_eq, ℕ, ◌||◌, if◌then◌else◌, List, Option, Some, None}
use Rattle.ds_packets.specs.Words.{after_mark, before}

-- what comes after three words
abbrev pub after_three : List ℕ → List ℕ
after_three line = after_mark 32 (after_mark 32 (after_mark 32 line))

-- the seventh word of a line: of a denial the code of its exception; the line of a refused command has five
abbrev pub seventh_word : List ℕ → List ℕ
seventh_word line = before 32 (after_three (after_three line))

-- the signal of an exception: SIGSEGV where nothing is granted, SIGBUS of an address, SIGILL, SIGTRAP, SIGFPE, SIGSYS
abbrev pub signal_by : List ℕ → Option ℕ
signal_by code =
    if bytes_eq code (codes "1") || bytes_eq code (codes "2") || bytes_eq code (codes "3") then Some 11
    else if bytes_eq code (codes "4") || bytes_eq code (codes "5") then Some 10
    else if bytes_eq code (codes "10") || bytes_eq code (codes "11") then Some 4
    else if bytes_eq code (codes "9") then Some 5
    else if bytes_eq code (codes "12") then Some 8
    else if bytes_eq code (codes "8") then Some 12
    else None

-- that of the first line that came to the log, if it is that of a denial
abbrev pub signal_told : List ℕ → Option ℕ
signal_told grown = signal_by (seventh_word (before 10 grown))
