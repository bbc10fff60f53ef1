-- Worked statuses and names, and orders of reading.
use Rattle.std.specs.Prelude.{codes, refl, ◌≡◌, ⊤, ℕ, List, [], ◌∷◌, None, Some, map, replicate}
use Rattle.ds_drive.specs.Reading.{AreInOrder, AskedFile}
use Rattle.ds_drive.specs.declared.files.FileFault.TheVariants as file
use Rattle.ds_drive.specs.Names.{shown_name}
use Rattle.ds_drive.specs.Statuses.{fault_status}

pub refused_input_has_status_2 : map fault_status (1 ∷ 3 ∷ 4 ∷ 5 ∷ 6 ∷ 7 ∷ 8 ∷ 9 ∷ 10 ∷ 12 ∷ 20 ∷ 24 ∷ 26 ∷ []) ≡ replicate 13 2
refused_input_has_status_2 = refl

pub faults_of_the_run_have_status_3 : map fault_status (21 ∷ 22 ∷ 23 ∷ 25 ∷ []) ≡ replicate 4 3
faults_of_the_run_have_status_3 = refl

-- a line feed, an escape character, and the last control character
pub a_name_stays_in_its_line : map shown_name ((97 ∷ 10 ∷ 98 ∷ []) ∷ (27 ∷ 91 ∷ 127 ∷ []) ∷ []) ≡ codes "a\\nb" ∷ codes "\\x1b[\\x7f" ∷ []
unfolding shown_name
a_name_stays_in_its_line = refl

-- a blank, a backslash, and a letter with an accent
pub other_names_are_as_they_are : shown_name (32 ∷ 92 ∷ 195 ∷ 169 ∷ []) ≡ 32 ∷ 92 ∷ 195 ∷ 169 ∷ []
unfolding shown_name
other_names_are_as_they_are = refl

-- the first was read, and the second can't be
pub files_are_asked_for_in_their_order : AreInOrder (λ unread. unread ≡ Some (codes "b", file.Unreadable)) (codes "a" ∷ codes "b" ∷ codes "c" ∷ []) ((codes "a", None) ∷ (codes "b", Some file.Unreadable) ∷ [])
files_are_asked_for_in_their_order = (refl, (refl, refl, refl))

-- the second is not asked for first, nor any after one that was not read
pub others_are_not_asked_for : (AreInOrder (λ unread. ⊤) ((1 ∷ []) ∷ (2 ∷ []) ∷ []) (((2 ∷ []), None) ∷ []) → ◌≡◌ {A = List ℕ} (2 ∷ []) (1 ∷ []))
    × (AreInOrder (λ unread. ⊤) ((1 ∷ []) ∷ (2 ∷ []) ∷ []) (((1 ∷ []), Some file.Unreadable) ∷ ((2 ∷ []), None) ∷ []) → ◌≡◌ {A = List AskedFile} (((2 ∷ []), None) ∷ []) [])
others_are_not_asked_for = (λ order. order.0, λ order. order.1)
