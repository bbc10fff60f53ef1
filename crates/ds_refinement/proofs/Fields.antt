-- Fields of the words that an exception and the handler move: EntryHi, Context and page-table words.
use Rattle.std.proofs.Common.{◌≡◌, ℕ, ◌+◌, ◌-◌, ◌*◌, ◌/◌, ◌%◌, ◌^◌, ◌<◌, Bool, true, false, Option, Some, None, refl, arith}
use Rattle.std.specs.Prelude.{not}
use Rattle.ds_word.specs.Word.{bits, bit}
use Rattle.ds_cp0.specs.System.{with_field}
use Rattle.ds_policy.specs.declared.grant.Grant.{Grant}
use Rattle.ds_policy.specs.declared.grant.Right.{Right}
use Rattle.ds_policy.specs.declared.grant.Right.TheVariants.{Nothing, Read, Write}
use Rattle.ds_policy.specs.Pages.{entry_at}
use Rattle.ds_grants.specs.State.{GrantsState, is_shared, frame_of_page}
use Rattle.ds_grants.specs.Sound.{NamesPages}
use Rattle.ds_grants.specs.Words.{word_of_right, word_of_grant, granted_word}
use Rattle.ds_grants.specs.Buffer.{hi_of}

-- the address space that EntryHi names

pub space_in : (vpn asid : ℕ) → asid < 64 → bits (hi_of vpn asid) 6 6 ≡ asid
space_in vpn asid few = omega arith

pub space_set : (w asid : ℕ) → w % 2 ^ 12 ≡ asid * 2 ^ 6 → asid < 64 → bits w 6 6 ≡ asid
space_set w asid e few = omega arith

-- What an exception puts into EntryHi and Context.

pub hi_entered : (w a asid : ℕ) → w % 2 ^ 12 ≡ asid * 2 ^ 6 → w < 2 ^ 32 → a < 2 ^ 31 → with_field w 12 20 (bits a 12 20) ≡ hi_of (a / 2 ^ 12) asid
hi_entered w a asid e small user = omega arith

pub context_entered : (w a : ℕ) → w / 2 ^ 21 ≡ 0x600 → w % 4 ≡ 0 → a < 2 ^ 31 → with_field w 2 19 (bits a 12 19) ≡ 0xC0000000 + 4 * (a / 2 ^ 12)
context_entered w a e f user = omega arith

pub hi_low : (w v : ℕ) → with_field w 12 20 v % 2 ^ 12 ≡ w % 2 ^ 12
hi_low w v = omega arith

pub hi_small : (w v : ℕ) → w < 2 ^ 32 → with_field w 12 20 v < 2 ^ 32
hi_small w v e = omega arith

pub context_high : (w v : ℕ) → with_field w 2 19 v / 2 ^ 21 ≡ w / 2 ^ 21
context_high w v = omega arith

pub context_low : (w v : ℕ) → with_field w 2 19 v % 4 ≡ w % 4
context_low w v = omega arith

-- of the page of a table, which lies in the kernel's half
pub hi_nested : (vpn asid : ℕ) → vpn < 2 ^ 19 → asid < 64 → with_field (hi_of vpn asid) 12 20 (bits (0xC0000000 + 4 * vpn) 12 20) ≡ hi_of (0xC0000 + vpn / 1024) asid
hi_nested vpn asid a b = omega arith

pub page_of_hi : (vpn asid : ℕ) → asid < 64 → hi_of vpn asid / 2 ^ 12 ≡ vpn
page_of_hi vpn asid few = omega arith

pub table_of_hi : (r asid : ℕ) → r < 512 → asid < 64 → bits (hi_of (0xC0000 + r) asid) 12 20 ≡ 0xC0000 + r
table_of_hi r asid a b = omega arith

pub region_of_hi : (r asid : ℕ) → r < 512 → asid < 64 → bits (hi_of (0xC0000 + r) asid) 12 20 - 0xC0000 ≡ r
region_of_hi r asid a b = omega arith

-- A word of what is granted has 32 bits, of which the low eight are 0.

pub record IsWord (w : ℕ) : Type 0 where
  pub small : w < 2 ^ 32
  pub low : w % 256 ≡ 0

page_is_word : (frame : ℕ) (d : Bool) → frame < 2 ^ 20 → IsWord (frame * 2 ^ 12 + bit 10 d + bit 9 true)
page_is_word frame true few = record { small = omega arith; low = omega arith }
page_is_word frame false few = record { small = omega arith; low = omega arith }

zero_is_word : IsWord 0
zero_is_word = record { small = omega arith; low = refl }

by_right : (g : GrantsState) (right : Right) (page : ℕ) → frame_of_page g page < 2 ^ 20 → IsWord (word_of_right g right (Some page))
by_right g Nothing page few = zero_is_word
by_right g Read page few = page_is_word (frame_of_page g page) false few
by_right g Write page few = page_is_word (frame_of_page g page) (not (is_shared g page)) few

by_page : (g : GrantsState) (right : Right) (page : Option ℕ) → ((q : ℕ) → page ≡ Some q → frame_of_page g q < 2 ^ 20) → IsWord (word_of_right g right page)
by_page g right None few = zero_is_word
by_page g right (Some q) few = by_right g right q (few q refl)

by_grant : (g : GrantsState) (o : Option Grant) → ((grant : Grant) (q : ℕ) → o ≡ Some grant → grant.page ≡ Some q → frame_of_page g q < 2 ^ 20) → IsWord (word_of_grant g o)
by_grant g None few = zero_is_word
by_grant g (Some grant) few = by_page g grant.right grant.page (λ q is. few grant q refl is)

pub word_is_word : (g : GrantsState) (p vpn : ℕ) → NamesPages g → IsWord (granted_word g p vpn)
word_is_word g p vpn names = by_grant g (entry_at g.table p (vpn * 2 ^ 12)) (λ grant q at is. (let below = names.named p (vpn * 2 ^ 12) q grant at is in let within = names.layout.within q below in let few = names.frames in omega (arith, within, few)))
