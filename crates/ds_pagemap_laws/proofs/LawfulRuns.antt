-- A run from a lawful state stays among lawful states.
use Rattle.std.proofs.Common.{ℕ, Bool, true, false, cond, List, [], ◌∷◌, sym, subst}
use Rattle.std.specs.Prelude.{is_some}
use Rattle.ds_pagemap.specs.Machine.{State, touched}
use Rattle.ds_pagemap.specs.Unit.{unit}
use Rattle.ds_pagemap.specs.Boundary.{boundary}
use Rattle.ds_pagemap.specs.Run.{half_turn, goes_on, after, Reaches}
use Rattle.ds_pagemap_laws.specs.Lawful.{IsLawful}
use Rattle.ds_pagemap_laws.proofs.LawfulBoundaries.{boundary_lawful}
use Rattle.ds_pagemap_laws.proofs.LawfulUnits.{unit_lawful, touched_lawful}

half_by : (owed : Bool) (m : State) → IsLawful m → IsLawful (cond owed (boundary m) (unit m))
half_by true m k = boundary_lawful m k
half_by false m k = unit_lawful m k

half_of : (owed b : Bool) (m : State) → IsLawful m → IsLawful (cond owed (boundary (touched b m)) (unit (touched b m)))
half_of owed b m k = half_by owed (touched b m) (touched_lawful b m k)

pub half_lawful : (b : Bool) (m : State) → IsLawful m → IsLawful (half_turn b m)
unfolding half_turn
half_lawful b m k = half_of (is_some m.owed) b m k

go_by : (on b : Bool) (m : State) → IsLawful m → IsLawful (cond on (half_turn b m) m)
go_by true b m k = half_lawful b m k
go_by false b m k = k

after_lawful : (n : ℕ) (choices : List Bool) (m : State) → IsLawful m → IsLawful (after n choices m)
unfolding after
after_lawful n [] m k = k
after_lawful n (touch ∷ earlier) m k = go_by (goes_on n (after n earlier m)) touch (after n earlier m) (after_lawful n earlier m k)

pub reaches_lawful : (n : ℕ) (m t : State) → Reaches n m t → IsLawful m → IsLawful t
reaches_lawful n m t r k = subst IsLawful (sym r.comes_to) (touched_lawful r.early (after n r.choices m) (after_lawful n r.choices m k))
