-- Names that are looked up.
use Rattle.std.specs.Prelude.{◌≡◌, ℕ, List, Option, is_some}
use Rattle.std.specs.Ordering.{nat_cmp}
use Rattle.std.specs.Cmp.Lexicographic.{slice_cmp}
use Rattle.std.specs.BTreeMap.{get_by}
use Rattle.ds_policy.specs.declared.names.Names.{Names}
use Rattle.ds_policy.specs.declared.policy.PolicyPage.{PolicyPage}
use Rattle.ds_policy.specs.PolicyParts.{page_named}
use Rattle.ds_policy.specs.Document.{is_among}

-- the number that is held for a name
abbrev pub held_number : Names → List ℕ → Option ℕ
held_number m name = get_by (λ k. slice_cmp nat_cmp name k.now) m.numbers

-- each page's name is held with the number of the first page that has it
abbrev pub AreNamed : Names → List PolicyPage → Type 0
AreNamed m pages = (name : List ℕ) → held_number m name ≡ page_named pages name

-- these names are held, and no others
abbrev pub AreHeld : Names → List (List ℕ) → Type 0
AreHeld m names = (name : List ℕ) → is_some (held_number m name) ≡ is_among names name
