-- Worked rows: when two slots begin to match each other.
use Rattle.std.specs.Prelude.{◌≡◌, ℕ, Bool, refl, true, false}
use Rattle.ds_tlb.specs.declared.entry.Entry.{Entry}
use Rattle.ds_bare.specs.Begun.{begins}

-- an entry of page 00410000 in an address space, or in all
abbrev of_space : ℕ → Bool → Entry
of_space number all = record { vpn = 0x410; asid = number; pfn = 0; n = false; d = false; v = true; g = all }

pub one_that_goes_on_to_match_does_not_begin_to : begins (of_space 1 false) (of_space 1 true) (of_space 1 false) ≡ false
one_that_goes_on_to_match_does_not_begin_to = refl

pub another_address_space_begins_to_match : begins (of_space 2 false) (of_space 1 false) (of_space 1 false) ≡ true
another_address_space_begins_to_match = refl

pub one_of_all_address_spaces_begins_to_match : begins (of_space 2 false) (of_space 2 true) (of_space 1 false) ≡ true
one_of_all_address_spaces_begins_to_match = refl

pub one_that_ceases_to_match_is_not_told : begins (of_space 1 false) (of_space 2 false) (of_space 1 false) ≡ false
one_that_ceases_to_match_is_not_told = refl
