-- How many entries name a page, and what a change of the entries does to it.
use Rattle.std.specs.Prelude.{◌≡◌, ℕ, ◌+◌, List, [], ◌∷◌, length, slice_index, Option, Some, None, if◌then◌else◌}
use Rattle.ds_policy.specs.declared.grant.Entry.{Entry}
use Rattle.ds_policy.specs.declared.grant.Grant.{Grant}
use Rattle.ds_policy.specs.Pages.{Table, names}

-- one where it names the page
abbrev pub one_if_named : ℕ → Option ℕ → ℕ
one_if_named page named = if names page named then 1 else 0

-- the page that is granted, if one is
abbrev pub page_of : Option Grant → Option ℕ
page_of None = None
page_of (Some g) = g.page

-- how many entries of a process name a page
abbrev pub holders_in : ℕ → List Entry → ℕ
holders_in page [] = 0
holders_in page (e ∷ rest) = one_if_named page e.grant.page + holders_in page rest

-- how many entries of the table name a page
abbrev pub holders_of : Table → ℕ → ℕ
holders_of [] page = 0
holders_of (entries ∷ rest) page = holders_in page entries + holders_of rest page

-- one more for the page that is named, if one is
pub record AreOneMore (named : Option ℕ) (old new : List ℕ) : Type 0 where
  pub each : (page : ℕ) → slice_index new page ≡ slice_index old page + one_if_named page named
  pub size : length new ≡ length old

-- one fewer for the page that is named, if one is
pub record AreOneFewer (named : Option ℕ) (old new : List ℕ) : Type 0 where
  pub each : (page : ℕ) → slice_index new page + one_if_named page named ≡ slice_index old page
  pub size : length new ≡ length old
