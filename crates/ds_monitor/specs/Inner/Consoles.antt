-- The four console texts, and their room.
use Rattle.std.specs.Prelude.{ℕ, ◌<◌, List, map}
use Rattle.ds_monitor.specs.declared.consoles.Consoles.{Consoles}

-- the texts of the consoles, in the order of their lines
abbrev pub texts_of : Consoles → List (List ℕ)
texts_of c = map (λ v. v.items) c.texts

-- one more byte needs no memory, whichever its line
abbrev pub HasRoom : Consoles → Type 0
HasRoom c = 0 < c.room
