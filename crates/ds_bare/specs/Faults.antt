-- Refusals, and what is written by then.
use Rattle.std.specs.Prelude.{ℕ, Bool, true, false, ◌&&◌, nat_le, nat_lt, Result, Ok, Err}
use Rattle.ds_bare.specs.declared.fault.BareFault.{BareFault}
use Rattle.ds_bare.specs.declared.fault.BareFault.TheVariants.{BadRandom, WriteFault, Memory}

-- whether Random may start at a slot: the first eight are wired
abbrev pub may_start : ℕ → Bool
may_start random = nat_le 8 random && nat_lt random 64

-- whether a run had begun that was cut off
abbrev pub is_cut : BareFault → Bool
is_cut BadRandom = false
is_cut WriteFault = true
is_cut Memory = true

-- a result says that a write failed
abbrev pub is_unwritten : {T : Type 0} → Result T BareFault → Bool
is_unwritten (Ok x) = false
is_unwritten (Err BadRandom) = false
is_unwritten (Err WriteFault) = true
is_unwritten (Err Memory) = false
