-- Worked rows, by computation.
use Rattle.std.specs.Prelude.{◌≡◌, ℕ, Bool, true, false, List, [], ◌∷◌, map, Option, Some, None, refl}
use Rattle.ds_words.specs.Sets.{processes_numbered}
use Rattle.ds_words.specs.declared.view.Only.{Only}
use Rattle.ds_words.specs.declared.view.Only.TheVariants.{End, Calls, Denials, Switches, Units}
use Rattle.ds_words.specs.Views.{is_named, shows_entries, shows_process, whole}

-- whether processes 1 to 4 are told of where these numbers are named
abbrev told : List ℕ → List Bool
told numbers = map (is_named (Some (processes_numbered numbers))) (1 ∷ 2 ∷ 3 ∷ 4 ∷ [])

pub each_that_is_named_is_told_of : told (1 ∷ 3 ∷ []) ≡ true ∷ false ∷ true ∷ false ∷ []
each_that_is_named_is_told_of = refl

pub neither_order_nor_repetition_means_anything : processes_numbered (3 ∷ 1 ∷ 3 ∷ []) ≡ processes_numbered (1 ∷ 3 ∷ [])
neither_order_nor_repetition_means_anything = refl

pub numbers_that_no_process_has_name_none : told (0 ∷ 101 ∷ 5000 ∷ []) ≡ false ∷ false ∷ false ∷ false ∷ []
numbers_that_no_process_has_name_none = refl

pub the_last_process_can_be_named : is_named (Some (processes_numbered (100 ∷ []))) 100 ≡ true
the_last_process_can_be_named = refl

pub where_none_is_named_all_are_told_of : shows_process whole 4 ≡ true
where_none_is_named_all_are_told_of = refl

-- whether entries are told with each kind of line, and with all
abbrev with_kinds : Bool → List Bool
with_kinds entries =
    map (λ (only : Option Only). shows_entries (record whole { only = only; entries = entries }))
    (None ∷ Some Units ∷ Some Calls ∷ Some Denials ∷ Some Switches ∷ Some End ∷ [])

pub entries_come_with_each_kind_of_line : with_kinds true ≡ true ∷ true ∷ true ∷ true ∷ true ∷ false ∷ []
entries_come_with_each_kind_of_line = refl

pub entries_come_where_they_are_wanted_alone : with_kinds false ≡ false ∷ false ∷ false ∷ false ∷ false ∷ false ∷ []
entries_come_where_they_are_wanted_alone = refl
