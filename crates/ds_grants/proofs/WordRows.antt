-- What holds of pages and frames at the ends of their ranges: each row is a theorem about the
-- definitions alone.
use Rattle.std.proofs.Common.{◌≡◌, ℕ, ◌*◌, ◌^◌, true, false, List, [], ◌∷◌, Some, None, refl, ap, arith, inl, inr}
use Rattle.std.specs.Prelude.{slice_set}
use Rattle.std.proofs.lemmas.Map.Keys.{IsDistinct-head}
use Rattle.ds_tlb.specs.declared.entry.Entry.{Entry}
use Rattle.ds_mem.specs.Memory.{frame_of}
use Rattle.ds_policy.specs.declared.grant.Right.TheVariants.{Nothing, Read}
use Rattle.ds_grants.specs.State.{GrantsState}
use Rattle.ds_grants.specs.Inner.State.{with_grant}
use Rattle.ds_tables.specs.Places.{Places}
use Rattle.ds_tables.specs.Tables.{entry_word}
use Rattle.ds_grants.specs.Words.{granted_word, WordsHold}
use Rattle.ds_grants.specs.Buffer.{IsMapped}
use Rattle.ds_grants.specs.Copies.{HasKeys}
use Rattle.ds_grants.specs.Inner.Represented.{IsLow, IsHigh, HasRegion}
use Rattle.ds_grants.specs.Sound.{AreLaidOut}
use Rattle.ds_grants.specs.Inner.Sound.{IsAtPage, has_same_address, IsGoodRow}
use Rattle.ds_grants.specs.Rows.{grant, entry, grants}

pub the_last_users_page_has_its_word : (memory : List ℕ) (t : Places) (g : GrantsState) → WordsHold memory t g → entry_word memory t 1 (0x7FFFF * 2 ^ 12) ≡ granted_word g 1 0x7FFFF
the_last_users_page_has_its_word memory t g k = k.words 1 0x7FFFF (omega arith) (omega arith)

pub a_table_has_512_pages : IsMapped 0xC0200 → ⊥
a_table_has_512_pages (inl user) = absurd (omega (arith, user))
a_table_has_512_pages (inr table) = let last = table.1 in absurd (omega (arith, last))

pub its_last_page_is_of_the_last_region : IsMapped 0xC01FF
its_last_page_is_of_the_last_region = inr (omega arith, omega arith)

pub a_fifth_region_may_not_be_used : HasRegion (with_grant grants 2 0x01000000 (grant Nothing None)) 2 0x01400000 → ⊥
a_fifth_region_may_not_be_used e = absurd cc

pub the_first_page_is_as_it_was : (old new : List ℕ) → IsLow old new → frame_of new 402 ≡ frame_of old 402
the_first_page_is_as_it_was old new low = low.1 402 (inr (omega arith))

pub the_vectors_are_as_they_were : (old new : List ℕ) → IsLow old new → frame_of new 0 ≡ frame_of old 0
the_vectors_are_as_they_were old new low = low.1 0 (inl (omega arith))

pub the_last_table_is_as_it_was : (old new : List ℕ) → IsHigh old new → frame_of new 401 ≡ frame_of old 401
the_last_table_is_as_it_was old new high = high.1 401 (omega arith)

pub two_pages_alone_lie_apart : AreLaidOut (record grants { lies = slice_set grants.lies 0 1 }) → ⊥
two_pages_alone_lie_apart k =
    let no : false ≡ true = k.alone 0 1 (omega arith) (omega arith) refl refl (λ (e : ◌≡◌ {A = ℕ} 0 1). absurd (omega (arith, e))) refl in
    absurd cc

pub an_entry_is_at_a_page : IsAtPage (entry 0x00400010 Read (Some 0)) → ⊥
an_entry_is_at_a_page k = let whole = k.whole in absurd (omega (arith, whole))

pub two_entries_have_two_addresses : IsGoodRow (entry 0x00400000 Read (Some 0) ∷ entry 0x00400000 Read (Some 1) ∷ []) → ⊥
two_entries_have_two_addresses k =
    let first = IsDistinct-head has_same_address (entry 0x00400000 Read (Some 0)) (entry 0x00400000 Read (Some 1) ∷ []) k.places in
    let no : true ≡ false = first.0 in
    absurd cc

pub an_entry_of_another_page_has_another_key : (e f : Entry) → e.vpn ≡ 1 → f.vpn ≡ 2 → HasKeys (e ∷ []) (f ∷ []) → ⊥
an_entry_of_another_page_has_another_key e f one two keys =
    let g = keys 0 e refl in
    let same : Some f ≡ Some g.0 = g.1 in
    let alike : f ≡ g.0 = cc in
    let page : f.vpn ≡ g.0.vpn = ap (λ (x : Entry). x.vpn) alike in
    let stays = g.2 in
    absurd (omega (arith, page, stays, one, two))
