-- What a line says: a label, a statement, both or nothing.
use Rattle.std.specs.Prelude.{None}
use Rattle.ds_asm.specs.Lines.{Line}

-- a line that says nothing
abbrev pub nothing : Line
nothing = record { label = None; statement = None }
