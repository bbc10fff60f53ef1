-- What is represented where the pages that entries name lie as before.
use Rattle.std.proofs.Common.{◌≡◌, ℕ, ◌-◌, ◌*◌, ◌^◌, ◌==◌, Bool, true, false, cond, List, length, Option, Some, None, refl, sym, ap, ap₂, ◌∙◌, inl, inr}
use Rattle.std.specs.Prelude.{nat_lt, slice_set}
use Rattle.std.specs.List.{list_any}
use Rattle.std.proofs.lemmas.Bool.{cases_eq, false≢true}
use Rattle.std.proofs.lemmas.List.{get_or-set_other}
use Rattle.ds_tlb.specs.declared.entry.Entry as tlb
use Rattle.ds_tlb.specs.Words.{entry_of}
use Rattle.ds_policy.specs.declared.grant.Entry.{Entry}
use Rattle.ds_policy.specs.declared.grant.Grant.{Grant}
use Rattle.ds_policy.specs.Pages.{Table, names, entries_of, entry_at}
use Rattle.ds_tables.specs.Places.{Places, region_of, page_of_table}
use Rattle.ds_asid.specs.Spaces.{Spaces}
use Rattle.ds_grants.specs.State.{GrantsState, is_live}
use Rattle.ds_grants.specs.Inner.State.{place_of_page}
use Rattle.ds_grants.specs.Words.{word_of_grant, granted_word}
use Rattle.ds_grants.specs.Buffer.{hi_of, read_only, lo_of}
use Rattle.ds_grants.specs.Represented.{TablesHaveWords, IsRepresented}
use Rattle.ds_grants.proofs.HolderCounts.{itself}
use Rattle.ds_grants.proofs.Living.{found_lives}
use Rattle.ds_grants.proofs.Puts.{word_by_place}

-- the word of an entry is the same where its page lies at the same place
same_words : (g h : GrantsState) (p a : ℕ) (o : Option Grant) → entry_at h.table p a ≡ o
    → ((p a : ℕ) (grant : Grant) → entry_at h.table p a ≡ Some grant → place_of_page h grant.page ≡ place_of_page g grant.page) → word_of_grant h o ≡ word_of_grant g o
same_words g h p a None is places = refl
same_words g h p a (Some grant) is places = word_by_place g h grant.right grant.page (places p a grant is)

-- words depend on the table, and on where the pages lie that its entries name
pub by_table : (memory : List ℕ) (t : Places) (g h : GrantsState) → h.table ≡ g.table
    → ((p a : ℕ) (grant : Grant) → entry_at h.table p a ≡ Some grant → place_of_page h grant.page ≡ place_of_page g grant.page) → TablesHaveWords memory t g → TablesHaveWords memory t h
by_table memory t g h same places k = record {
  words = record {
    words = λ p vpn live user. k.words.words p vpn live user ∙ (ap (λ (x : Table). word_of_grant g (entry_at x p (vpn * 2 ^ 12))) (sym same) ∙ sym (same_words g h p (vpn * 2 ^ 12) (entry_at h.table p (vpn * 2 ^ 12)) refl places));
    regions = λ p r live. k.words.regions p r live ∙ ap (λ (x : Table). list_any (λ (e : Entry). region_of e.address == r) (entries_of x p)) (sym same);
    distinct = k.words.distinct;
    same = k.words.same ∙ ap (λ (x : Table). length x) (sym same);
  };
  places = k.places;
  empty = k.empty;
}

-- and so is what the buffer has
pub lies_elsewhere : (entries : List tlb.Entry) (memory : List ℕ) (t : Places) (s : Spaces) (g h : GrantsState) → h.table ≡ g.table
    → ((p a : ℕ) (grant : Grant) → entry_at h.table p a ≡ Some grant → place_of_page h grant.page ≡ place_of_page g grant.page)
    → IsRepresented entries memory t s g → IsRepresented entries memory t s h
lies_elsewhere entries memory t s g h same places k =
    let words = by_table memory t g h same places (record { words = k.words; places = k.places; empty = k.empty }) in
    record {
      buffer = record {
        few = k.buffer.few;
        single = k.buffer.single;
        apart = k.buffer.apart;
        own = k.buffer.own;
        backed = λ slot e p at live some number.
            let b = k.buffer.backed slot e p at live some number in
            record { mapped = b.mapped; words = b.words ∙ ap (entry_of (hi_of e.vpn e.asid)) (sym (lo_same p e.vpn)) };
        used = k.buffer.used;
      };
      words = words.words;
      places = k.places;
      empty = k.empty;
      spaces = k.spaces;
    }
  where
    word_same : (p vpn : ℕ) → granted_word h p vpn ≡ granted_word g p vpn
    word_same p vpn = same_words g h p (vpn * 2 ^ 12) (entry_at h.table p (vpn * 2 ^ 12)) refl places ∙ ap (λ (x : Table). word_of_grant g (entry_at x p (vpn * 2 ^ 12))) same

    lo_same : (p vpn : ℕ) → lo_of h t p vpn ≡ lo_of g t p vpn
    lo_same p vpn = ap (λ (w : ℕ). cond (nat_lt vpn (2 ^ 19)) w (read_only (page_of_table t p (vpn - 0xC0000)))) (word_same p vpn)

-- a page that doesn't live may lie anywhere
pub free_elsewhere : (g : GrantsState) (n frame : ℕ) → is_live g n ≡ false → (p a : ℕ) (grant : Grant) → entry_at g.table p a ≡ Some grant
    → place_of_page (record g { lies = slice_set g.lies n frame; shared = slice_set g.shared n true }) grant.page ≡ place_of_page g grant.page
free_elsewhere g n frame free p a grant is = by_page grant.page (λ (named : names n grant.page ≡ true). false≢true (sym free ∙ found_lives g p a grant n is named))
  where
    by_page : (page : Option ℕ) → (names n page ≡ true → ⊥) → place_of_page (record g { lies = slice_set g.lies n frame; shared = slice_set g.shared n true }) page ≡ place_of_page g page
    by_page None other = refl
    by_page (Some q) other = elim (cases_eq q n) [
      | inl same ↦ absurd (other (ap (λ (x : ℕ). x == n) same ∙ itself n))
      | inr apart ↦ ap₂ (λ (f : ℕ) (b : Bool). Some (record { frame = f; shared = b })) (get_or-set_other g.lies n q frame 0 apart) (get_or-set_other g.shared n q true false apart)
    ]
