-- A byte that a process may load is one of the word that it may read.
use Rattle.std.proofs.Common.{◌≡◌, ℕ, suc, ◌+◌, ◌-◌, ◌*◌, ◌%◌, ◌^◌, ◌<◌, ◌≤◌, ◌==◌, nat_le, Bool, true, false, cond, not, List, [], ◌∷◌, ◌++◌, Option, Some, None, option_map, append_assoc, refl, sym, ap, ◌∙◌, arith}
use Rattle.std.proofs.lemmas.Bool.Decides.{nat_tests}
use Rattle.std.proofs.lemmas.List.{append-nil}
use Rattle.std.specs.Prelude.{slice_index}
use Rattle.ds_word.specs.Word.{bits}
use Rattle.ds_word.specs.Bytes.{word_at}
use Rattle.ds_isa.specs.declared.instr.Kind.TheVariants.{Load}
use Rattle.ds_policy.specs.declared.access.Rule.TheVariants.{A, K}
use Rattle.ds_policy.specs.declared.access.Verdict.{Verdict}
use Rattle.ds_policy.specs.declared.access.Verdict.TheVariants.{Denied}
use Rattle.ds_policy.specs.declared.grant.Grant.{Grant}
use Rattle.ds_policy.specs.declared.grant.Right.{Right}
use Rattle.ds_policy.specs.declared.grant.Right.TheVariants.{Nothing, Read, Write}
use Rattle.ds_policy.specs.Pages.{Pages, Table, allowed_on, by_entry, by_right, bytes_of, entry_at, page_address}
use Rattle.ds_policy.specs.Grants.{PageState}
use Rattle.ds_station.specs.Reads.{word_on, word_read}
use Rattle.ds_debug.specs.Memory.{before_others, byte_of, byte_on, byte_read, bytes_readable_from}

-- The address of the word.

aligned_there : (a : ℕ) → ((a - a % 4) % 4 == 0) ≡ true
aligned_there a = let none : (a - a % 4) % 4 ≡ 0 = omega arith in ap (λ (n : ℕ). n == 0) none

high_there : (a : ℕ) (high : Bool) → nat_le (2 ^ 31) a ≡ high → nat_le (2 ^ 31) (a - a % 4) ≡ high
high_there a true is = grind (arith, nat_tests)
high_there a false is = grind (arith, nat_tests)

page_there : (a : ℕ) → page_address (a - a % 4) ≡ page_address a
page_there a = omega arith

offset_there : (a : ℕ) → (a - a % 4) % 4096 ≡ a % 4096 - a % 4
offset_there a = omega arith

-- what the table answers to a load, by whether the address is aligned, and is in the upper half
abbrev verdict_by : Table → ℕ → Bool → Bool → ℕ → ℕ → Verdict
verdict_by t p aligned high page offset = cond (not aligned) (Denied A 4) (cond high (Denied K 4) (by_entry (entry_at t p page) Load offset))

-- The byte of a word.

-- the word at a place, by where it begins
abbrev word_from : List ℕ → ℕ → ℕ
word_from bytes q = slice_index bytes q + 2 ^ 8 * slice_index bytes (q + 1) + 2 ^ 16 * slice_index bytes (q + 2) + 2 ^ 24 * slice_index bytes (q + 3)

byte_there : (bytes : List ℕ) (o a : ℕ) → o % 4 ≡ a % 4 → byte_of (word_at bytes (o - a % 4)) a ≡ byte_of (word_at bytes o) o
byte_there bytes o a same =
    let at : o - a % 4 - (o - a % 4) % 4 ≡ o - o % 4 = omega (arith, same) in
    ap (λ (q : ℕ). bits (word_from bytes q) (8 * (a % 4)) 8) at ∙ ap (λ (r : ℕ). bits (word_at bytes o) (8 * r) 8) (sym same)

on_page : (pages : Pages) (page : Option ℕ) (o a : ℕ) → o % 4 ≡ a % 4 → option_map (λ w. byte_of w a) (word_on pages (allowed_on page (o - a % 4))) ≡ byte_on pages (allowed_on page o)
on_page pages None o a same = refl
on_page pages (Some page) o a same = ap (λ (b : ℕ). Some b) (byte_there (bytes_of pages page) o a same)

by_grant : (pages : Pages) (right : Right) (g : Grant) (o a : ℕ) → o % 4 ≡ a % 4 → option_map (λ w. byte_of w a) (word_on pages (by_right right Load g (o - a % 4))) ≡ byte_on pages (by_right right Load g o)
by_grant pages Nothing g o a same = refl
by_grant pages Read g o a same = on_page pages g.page o a same
by_grant pages Write g o a same = on_page pages g.page o a same

by_found : (pages : Pages) (e : Option Grant) (o a : ℕ) → o % 4 ≡ a % 4 → option_map (λ w. byte_of w a) (word_on pages (by_entry e Load (o - a % 4))) ≡ byte_on pages (by_entry e Load o)
by_found pages None o a same = refl
by_found pages (Some g) o a same = by_grant pages g.right g o a same

by_half : (pages : Pages) (t : Table) (p a : ℕ) (high : Bool)
    → option_map (λ w. byte_of w a) (word_on pages (cond high (Denied K 4) (by_entry (entry_at t p (page_address a)) Load (a % 4096 - a % 4)))) ≡ byte_on pages (cond high (Denied K 4) (by_entry (entry_at t p (page_address a)) Load (a % 4096)))
by_half pages t p a true = refl
by_half pages t p a false = by_found pages (entry_at t p (page_address a)) (a % 4096) a (omega arith)

-- a byte is that of the word around it
pub byte_by_word : (s : PageState) (p a : ℕ) → option_map (λ w. byte_of w a) (word_read s p (a - a % 4)) ≡ byte_read s p a
byte_by_word s p a =
    let by : Verdict → Option ℕ = λ (v : Verdict). option_map (λ w. byte_of w a) (word_on s.pages v) in
    let high = nat_le (2 ^ 31) a in
    ap (λ (b : Bool). by (verdict_by s.table p b (nat_le (2 ^ 31) (a - a % 4)) (page_address (a - a % 4)) ((a - a % 4) % 4096))) (aligned_there a)
    ∙ (ap (λ (b : Bool). by (verdict_by s.table p true b (page_address (a - a % 4)) ((a - a % 4) % 4096))) (high_there a high refl)
    ∙ (ap (λ (q : ℕ). by (verdict_by s.table p true high q ((a - a % 4) % 4096))) (page_there a)
    ∙ (ap (λ (o : ℕ). by (verdict_by s.table p true high (page_address a) o)) (offset_there a)
    ∙ by_half s.pages s.table p a high)))

pub byte_some : (s : PageState) (p a w : ℕ) → Some w ≡ word_read s p (a - a % 4) → Some (byte_of w a) ≡ byte_read s p a
byte_some s p a w is = ap (option_map (λ w. byte_of w a)) is ∙ byte_by_word s p a

pub byte_none : (s : PageState) (p a : ℕ) → None ≡ word_read s p (a - a % 4) → None ≡ byte_read s p a
byte_none s p a is = ap (option_map (λ w. byte_of w a)) is ∙ byte_by_word s p a

-- in the upper half there is none
high_none : (s : PageState) (p a : ℕ) (high : Bool) → high ≡ true → None ≡ byte_on s.pages (cond high (Denied K 4) (by_entry (entry_at s.table p (page_address a)) Load (a % 4096)))
high_none s p a true is = refl
high_none s p a false is = absurd (cc)

pub byte_past : (s : PageState) (p a : ℕ) → 2 ^ 32 ≤ a → None ≡ byte_read s p a
byte_past s p a past = high_none s p a (nat_le (2 ^ 31) a) (grind (arith, nat_tests))

-- Bytes, one after another.

one_left : (count i : ℕ) → i < count → count - i ≡ suc (count - (i + 1))
one_left count i within = omega (arith, within)

bytes_step : (s : PageState) (p a n : ℕ) → before_others (byte_read s p a) (bytes_readable_from s p (a + 1) n) ≡ bytes_readable_from s p a (suc n)
unfolding bytes_readable_from
bytes_step s p a n = refl

bytes_none : (s : PageState) (p a : ℕ) → [] ≡ bytes_readable_from s p a 0
unfolding bytes_readable_from
bytes_none s p a = refl

-- at first all of them are left
pub bytes_start : (s : PageState) (p a count : ℕ) → bytes_readable_from s p (a + 0) (count - 0) ≡ bytes_readable_from s p a count
bytes_start s p a count =
    let here : a + 0 ≡ a = omega arith in
    let all : count - 0 ≡ count = omega arith in
    ap (λ (x : ℕ). bytes_readable_from s p x (count - 0)) here ∙ ap (bytes_readable_from s p a) all

-- what is left begins with the next
left_first : (s : PageState) (p a i count : ℕ) (o : Option ℕ) → i < count → o ≡ byte_read s p (a + i) → bytes_readable_from s p (a + i) (count - i) ≡ before_others o (bytes_readable_from s p (a + (i + 1)) (count - (i + 1)))
left_first s p a i count o within is =
    let next : a + i + 1 ≡ a + (i + 1) = omega arith in
    let left : ℕ = count - (i + 1) in
    ap (bytes_readable_from s p (a + i)) (one_left count i within)
    ∙ (sym (bytes_step s p (a + i) left)
    ∙ (ap (λ (x : Option ℕ). before_others x (bytes_readable_from s p (a + i + 1) left)) (sym is)
    ∙ ap (λ (x : ℕ). before_others o (bytes_readable_from s p x left)) next))

-- with one more taken
pub bytes_more : (s : PageState) (p a i count b : ℕ) (before all : List ℕ) → i < count → Some b ≡ byte_read s p (a + i) → before ++ bytes_readable_from s p (a + i) (count - i) ≡ all
    → (before ++ b ∷ []) ++ bytes_readable_from s p (a + (i + 1)) (count - (i + 1)) ≡ all
bytes_more s p a i count b before all within is left =
    append_assoc before (b ∷ []) (bytes_readable_from s p (a + (i + 1)) (count - (i + 1)))
    ∙ (ap (λ (x : List ℕ). before ++ x) (sym (left_first s p a i count (Some b) within is)) ∙ left)

-- or none is there
pub bytes_stop : (s : PageState) (p a i count : ℕ) (before all : List ℕ) → i < count → None ≡ byte_read s p (a + i) → before ++ bytes_readable_from s p (a + i) (count - i) ≡ all → before ≡ all
bytes_stop s p a i count before all within is left =
    sym (append-nil before) ∙ (ap (λ (x : List ℕ). before ++ x) (sym (left_first s p a i count None within is)) ∙ left)

-- or none is left
pub bytes_end : (s : PageState) (p a i count : ℕ) (before all : List ℕ) → count ≤ i → before ++ bytes_readable_from s p (a + i) (count - i) ≡ all → before ≡ all
bytes_end s p a i count before all past left =
    let none : 0 ≡ count - i = omega (arith, past) in
    sym (append-nil before) ∙ (ap (λ (x : List ℕ). before ++ x) (bytes_none s p (a + i)) ∙ (ap (λ (n : ℕ). before ++ bytes_readable_from s p (a + i) n) none ∙ left))
