-- The call that registers ask for.
use Rattle.std.specs.Prelude.{ℕ, ◌%◌, ◌==◌, if◌then◌else◌, List, slice_index}
use Rattle.ds_procs.specs.declared.call.Call.{Call}
use Rattle.ds_procs.specs.declared.call.Call.TheVariants.{Exit, Put, Get, Yield, Time, Own, Give, Take, Drop, Wait, Unknown}

-- register 2 has the call's number, registers 4 to 7 its arguments
abbrev pub call_of : List ℕ → Call
call_of r =
    let n = slice_index r 2 in
    let a = slice_index r 4 in
    let b = slice_index r 5 in
    if n == 0 then Exit else
    if n == 1 then Put (a % 256) else
    if n == 2 then Get else
    if n == 3 then Yield else
    if n == 4 then Time else
    if n == 5 then Own else
    if n == 6 then Give a b (slice_index r 6) (slice_index r 7) else
    if n == 7 then Take a b else
    if n == 8 then Drop a else
    if n == 9 then Wait else Unknown
