-- Fields of an entry that is made of a page, an address space and EntryLo.
use Rattle.std.proofs.Common.{◌≡◌, ℕ, ◌+◌, ◌-◌, ◌*◌, ◌/◌, ◌%◌, ◌^◌, ◌<◌, ◌==◌, Bool, true, false, cond, Option, Some, None, refl, ap, ◌∙◌, arith, inl, inr}
use Rattle.std.specs.Prelude.{◌&&◌, not, nat_lt, slice_index}
use Rattle.std.proofs.lemmas.Bool.Decides.{nat_tests}
use Rattle.ds_word.specs.Word.{bits, bit}
use Rattle.ds_tlb.specs.Words.{entry_of}
use Rattle.ds_policy.specs.declared.grant.Grant.{Grant}
use Rattle.ds_policy.specs.declared.grant.Right.{Right}
use Rattle.ds_policy.specs.declared.grant.Right.TheVariants.{Nothing, Read, Write}
use Rattle.ds_policy.specs.Pages.{entry_at}
use Rattle.ds_policy.specs.Grants.{is_some_right, is_write}
use Rattle.ds_grants.specs.State.{GrantsState, frame_of_page, is_shared}
use Rattle.ds_tables.specs.Places.{Places, page_of_table}
use Rattle.ds_grants.specs.Words.{page_word, word_of_right, word_of_grant, granted_word}
use Rattle.ds_grants.specs.Buffer.{hi_of, read_only, lo_of, IsMapped}
use Rattle.ds_grants.specs.Inner.Buffer.{entry_for}

-- the keys that an entry of two words has
pub has_page : (vpn asid lo : ℕ) → vpn < 2 ^ 20 → asid < 64 → (entry_of (hi_of vpn asid) lo).vpn ≡ vpn
has_page vpn asid lo a b = omega arith

pub has_space : (vpn asid lo : ℕ) → vpn < 2 ^ 20 → asid < 64 → (entry_of (hi_of vpn asid) lo).asid ≡ asid
has_space vpn asid lo a b = omega arith

pub mapped_small : (vpn : ℕ) → IsMapped vpn → vpn < 2 ^ 20
mapped_small vpn (inl low) = omega arith
mapped_small vpn (inr table) = let high = table.1 in omega arith

-- It answers in no other address space.

not_global : (w : ℕ) → w / 256 % 2 ≡ 0 → (bits w 8 1 == 1) ≡ false
not_global w e = let z : bits w 8 1 ≡ 0 = e in ap (λ (n : ℕ). n == 1) z

page_own : (frame : ℕ) (d : Bool) → (bits (frame * 2 ^ 12 + bit 10 d + bit 9 true) 8 1 == 1) ≡ false
page_own frame true = not_global (frame * 2 ^ 12 + bit 10 true + bit 9 true) (omega arith)
page_own frame false = not_global (frame * 2 ^ 12 + bit 10 false + bit 9 true) (omega arith)

own_by_right : (g : GrantsState) (right : Right) (page : ℕ) → (bits (word_of_right g right (Some page)) 8 1 == 1) ≡ false
own_by_right g Nothing page = refl
own_by_right g Read page = page_own (frame_of_page g page) false
own_by_right g Write page = page_own (frame_of_page g page) (not (is_shared g page))

own_by_page : (g : GrantsState) (right : Right) (page : Option ℕ) → (bits (word_of_right g right page) 8 1 == 1) ≡ false
own_by_page g right None = refl
own_by_page g right (Some q) = own_by_right g right q

own_by_grant : (g : GrantsState) (o : Option Grant) → (bits (word_of_grant g o) 8 1 == 1) ≡ false
own_by_grant g None = refl
own_by_grant g (Some grant) = own_by_page g grant.right grant.page

read_only_own : (frame : ℕ) → (bits (read_only frame) 8 1 == 1) ≡ false
read_only_own frame = not_global (read_only frame) (omega arith)

own_by_half : (b : Bool) (w v : ℕ) → (bits w 8 1 == 1) ≡ false → (bits v 8 1 == 1) ≡ false → (bits (cond b w v) 8 1 == 1) ≡ false
own_by_half true w v e f = e
own_by_half false w v e f = f

pub lo_own : (hi : ℕ) (g : GrantsState) (t : Places) (p vpn : ℕ) → (entry_of hi (lo_of g t p vpn)).g ≡ false
lo_own hi g t p vpn = own_by_half (nat_lt vpn (2 ^ 19)) (granted_word g p vpn) (read_only (page_of_table t p (vpn - 0xC0000))) (own_by_grant g (entry_at g.table p (vpn * 2 ^ 12))) (read_only_own (page_of_table t p (vpn - 0xC0000)))

-- EntryLo by the half that a page lies in.

pub user_lo : (g : GrantsState) (t : Places) (p vpn : ℕ) → vpn < 2 ^ 19 → lo_of g t p vpn ≡ granted_word g p vpn
user_lo g t p vpn user = let low : nat_lt vpn (2 ^ 19) ≡ true = grind (arith, nat_tests) in ap (λ (b : Bool). cond b (granted_word g p vpn) (read_only (page_of_table t p (vpn - 0xC0000)))) low

pub table_lo : (g : GrantsState) (t : Places) (p r : ℕ) → lo_of g t p (0xC0000 + r) ≡ read_only (page_of_table t p r)
table_lo g t p r =
    let high : nat_lt (0xC0000 + r) (2 ^ 19) ≡ false = grind (arith, nat_tests) in
    let same : 0xC0000 + r - 0xC0000 ≡ r = omega arith in
    ap (λ (b : Bool). cond b (granted_word g p (0xC0000 + r)) (read_only (page_of_table t p (0xC0000 + r - 0xC0000)))) high ∙ ap (λ (n : ℕ). read_only (page_of_table t p n)) same

-- The entry of a page that is granted.

-- EntryLo of a frame with the flags that a page has
flags_of_word : (frame : ℕ) (writes : Bool) → let w = frame * 2 ^ 12 + bit 10 writes + bit 9 true in
    (bits w 12 20 ≡ frame % 2 ^ 20) × ((bits w 11 1 == 1) ≡ false) × ((bits w 10 1 == 1) ≡ writes) × ((bits w 9 1 == 1) ≡ true) × ((bits w 8 1 == 1) ≡ false)
flags_of_word frame true = (omega arith, grind (arith, nat_tests), grind (arith, nat_tests), grind (arith, nat_tests), grind (arith, nat_tests))
flags_of_word frame false = (omega arith, grind (arith, nat_tests), grind (arith, nat_tests), grind (arith, nat_tests), grind (arith, nat_tests))

-- the page-table word of a page with a right
pub granted_lo : (g : GrantsState) (p vpn page : ℕ) (grant : Grant) → entry_at g.table p (vpn * 2 ^ 12) ≡ Some grant → grant.page ≡ Some page → is_some_right grant.right ≡ true → granted_word g p vpn ≡ page_word g page grant.right
granted_lo g p vpn page grant at named right =
    ap (word_of_grant g) at ∙ (ap (word_of_right g grant.right) named ∙ ap (λ (b : Bool). cond b (page_word g page grant.right) 0) right)

page_fields : (g : GrantsState) (vpn asid page : ℕ) (right : Right) → vpn < 2 ^ 20 → asid < 64 → slice_index g.lies page < 1024
    → entry_of (hi_of vpn asid) (page_word g page right) ≡ record { vpn = vpn; asid = asid; pfn = frame_of_page g page; n = false; d = is_write right && not (is_shared g page); v = true; g = false }
page_fields g vpn asid page right low few small =
    let w = page_word g page right in
    let flags = flags_of_word (frame_of_page g page) (is_write right && not (is_shared g page)) in
    let frame : bits w 12 20 ≡ frame_of_page g page = flags.0 ∙ omega arith in
    rw (has_page vpn asid (page_word g page right) low few, has_space vpn asid (page_word g page right) low few, frame, flags.1, flags.2, flags.3, flags.4) refl

-- the entry that maps a page with a right, by its fields
pub granted_fields : (g : GrantsState) (t : Places) (p asid vpn page : ℕ) (grant : Grant) → vpn < 2 ^ 19 → asid < 64 → slice_index g.lies page < 1024
    → entry_at g.table p (vpn * 2 ^ 12) ≡ Some grant → grant.page ≡ Some page → is_some_right grant.right ≡ true
    → entry_for g t p asid vpn ≡ record { vpn = vpn; asid = asid; pfn = frame_of_page g page; n = false; d = is_write grant.right && not (is_shared g page); v = true; g = false }
granted_fields g t p asid vpn page grant user few small at named right =
    ap (entry_of (hi_of vpn asid)) (user_lo g t p vpn user ∙ granted_lo g p vpn page grant at named right) ∙ page_fields g vpn asid page grant.right (omega (arith, user)) few small
