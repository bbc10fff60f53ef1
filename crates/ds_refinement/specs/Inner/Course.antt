-- A unit as it goes on: where it is, which pages it asks for, what the buffer has, and what is counted.
use Rattle.ds_refinement.specs.Course.{UnitPages}

-- the pages after a touch
abbrev pub after_touch : UnitPages → UnitPages
after_touch pages = record pages { access = pages.touched }
