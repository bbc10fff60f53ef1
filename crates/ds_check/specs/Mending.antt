-- How a refusal is mended, by its number.
use Rattle.std.specs.Prelude.{ℕ, ◌==◌, if◌then◌else◌, List, Option, None, Some}
use Rattle.ds_check.specs.declared.refusals.TheConstants.{BAD_RANDOM, SYNTAX, UNKNOWN_LABEL, DOUBLE_LABEL, RANGE, TOO_LONG, BAD_TOML, BAD_RULE, LIMIT, INPUT_FAULT, NO_SOURCE, MEMORY, UNREADABLE}

-- the words of the constant that has the refusal's name
abbrev pub mended : ℕ → Option (List ℕ)
mended n =
    if n == 1 then Some BAD_RANDOM.now
    else if n == 3 then Some SYNTAX.now
    else if n == 4 then Some UNKNOWN_LABEL.now
    else if n == 5 then Some DOUBLE_LABEL.now
    else if n == 6 then Some RANGE.now
    else if n == 7 then Some TOO_LONG.now
    else if n == 8 then Some BAD_TOML.now
    else if n == 9 then Some BAD_RULE.now
    else if n == 10 then Some LIMIT.now
    else if n == 20 then Some INPUT_FAULT.now
    else if n == 24 then Some NO_SOURCE.now
    else if n == 25 then Some MEMORY.now
    else if n == 26 then Some UNREADABLE.now
    else None
