-- The words of rights and of commands.
use Rattle.std.specs.Prelude.{codes, ℕ, List}

-- no right
abbrev pub none_word : List ℕ
none_word = codes "none"

-- the right to load and to fetch
abbrev pub read_word : List ℕ
read_word = codes "read"

-- the right to store too
abbrev pub write_word : List ℕ
write_word = codes "write"

-- an entry is made
abbrev pub grant_word : List ℕ
grant_word = codes "grant"

-- an entry is left its right to read
abbrev pub narrow_word : List ℕ
narrow_word = codes "narrow"

-- an entry's right is taken
abbrev pub revoke_word : List ℕ
revoke_word = codes "revoke"

-- an entry is removed
abbrev pub drop_word : List ℕ
drop_word = codes "drop"

-- a parked process becomes ready
abbrev pub resume_word : List ℕ
resume_word = codes "resume"

-- a process is ended
abbrev pub stop_word : List ℕ
stop_word = codes "stop"
