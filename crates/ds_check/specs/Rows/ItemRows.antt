-- Worked places of keys and items.
use Rattle.std.specs.Prelude.{codes, refl, ◌≡◌, ℕ, List, [], ◌∷◌, ◌++◌, map, Option, None, Some}
use Rattle.ds_check.specs.declared.items.Items.TheVariants.{Processes, Rules}
use Rattle.ds_check.specs.declared.places.Place.{Place}
use Rattle.ds_check.specs.Items.{item_place, root_key_place}

abbrev at : ℕ → ℕ → Option Place
at line column = Some (record { line = line; column = column })

-- a comment begins no rule
pub rules_with_headers : map (λ k. item_place (codes "version = 1\n[[rule]]\nprocess = 1\n# [[rule]]\n  [[rule]] # two\n[[rule]]") Rules k None) (1 ∷ 2 ∷ 3 ∷ 4 ∷ [])
    ≡ at 2 1 ∷ at 5 3 ∷ at 6 1 ∷ None ∷ []
rules_with_headers = refl

abbrev tables : List ℕ
tables = codes "page = 1\n[[page]]\n  name = \"a\"\nnames = 2\n[[rule]]\nprocess=1\npage\t= \"a\"\n[[page]]\n# name\n[[process]]\nstart = 0\n"

-- a key that is longer is another, and one below the next header is the next item's
pub keys_of_items : map (λ key. item_place (codes "version = 1\n" ++ tables) Rules 1 (Some key)) (codes "page" ∷ codes "process" ∷ codes "proc" ∷ codes "name" ∷ [])
    ≡ at 8 1 ∷ at 7 1 ∷ at 6 1 ∷ at 6 1 ∷ []
keys_of_items = refl

-- the key of a rule is no array of processes
pub items_with_headers : item_place tables Processes 1 (Some (codes "start")) ≡ at 11 1
items_with_headers = refl

-- the tables of other arrays are none of it, and a line may have several that are
pub items_of_an_array : map (λ k. item_place (codes "page = [{ name = 1 }]\n\n rule = [{ process = 1 }, {\nprocess = 2 },\n\t\t{ process = 3 }]\n") Rules k (Some (codes "right"))) (1 ∷ 2 ∷ 3 ∷ 4 ∷ [])
    ≡ at 3 10 ∷ at 3 27 ∷ at 5 3 ∷ None ∷ []
items_of_an_array = refl

-- root keys stand before the tables
pub root_keys : map (root_key_place (codes "version=1\n\n frames = 4\n[[process]]\nrate = 3\n")) (codes "version" ∷ codes "frames" ∷ codes "rate" ∷ codes "v" ∷ [])
    ≡ at 1 1 ∷ at 3 2 ∷ None ∷ None ∷ []
root_keys = refl
