-- The instruction of a process lies in a page that lives.
use Rattle.std.proofs.Common.{◌≡◌, ℕ, ◌%◌, ◌^◌, ◌<◌, ◌≤◌, Bool, true, false, cond, List, length, not, nat_le, Option, Some, None, refl, sym, ap, ◌∙◌, arith}
use Rattle.std.specs.Prelude.{unwrap_or}
use Rattle.ds_word.specs.Bytes.{word_at}
use Rattle.ds_isa.specs.declared.instr.Kind.{Kind}
use Rattle.ds_isa.specs.declared.instr.Kind.TheVariants.{Fetch, Load, Store}
use Rattle.ds_isa.specs.declared.instr.Size.{Size}
use Rattle.ds_isa.specs.declared.instr.Size.TheVariants.{Word}
use Rattle.ds_isa.specs.Access.{access_size, is_aligned}
use Rattle.ds_isa.specs.Instruction.{instruction_of}
use Rattle.ds_isa.specs.declared.instr.Instr.{Instr}
use Rattle.ds_policy.specs.declared.access.Verdict.{Verdict}
use Rattle.ds_policy.specs.declared.access.Verdict.TheVariants.{Allowed, Denied}
use Rattle.ds_policy.specs.declared.access.Rule.TheVariants.{K, A}
use Rattle.ds_policy.specs.declared.grant.Grant.{Grant}
use Rattle.ds_policy.specs.declared.grant.Right.{Right}
use Rattle.ds_policy.specs.declared.grant.Right.TheVariants.{Nothing, Read, Write}
use Rattle.ds_policy.specs.Pages.{decide, address_code, allowed_on, by_right, by_entry, entry_at, page_address}
use Rattle.ds_grants.specs.State.{GrantsState, is_live, frame_of_page, page_state}
use Rattle.ds_grants.specs.Sound.{NamesPages}
use Rattle.ds_refinement.specs.Told.{size_on, size_at}
use Rattle.ds_refinement.proofs.Frames.{word_of_page}
use Rattle.ds_refinement.proofs.Lookups.{named_page_lives}
use Rattle.ds_kernel.specs.Inner.Places.{place_by, place_in_memory}

allowed_option : (named : Option ℕ) (o page offset : ℕ) → allowed_on named o ≡ Allowed page offset → (named ≡ Some page) × (offset ≡ o)
allowed_option None o page offset is = absurd cc
allowed_option (Some q) o page offset is = (cc, cc)

allowed_right : (right : Right) (access : Kind) (g : Grant) (o page offset : ℕ) → by_right right access g o ≡ Allowed page offset → (g.page ≡ Some page) × (offset ≡ o)
allowed_right Nothing access g o page offset is = absurd cc
allowed_right Read Fetch g o page offset is = allowed_option g.page o page offset is
allowed_right Read Load g o page offset is = allowed_option g.page o page offset is
allowed_right Read Store g o page offset is = absurd cc
allowed_right Write access g o page offset is = allowed_option g.page o page offset is

-- a page that the table allows is the one that the entry of its address names
allowed_tests : (aligned high : Bool) (found : Option Grant) (access : Kind) (o page offset : ℕ)
    → cond (not aligned) (Denied A (address_code access)) (cond high (Denied K (address_code access)) (by_entry found access o)) ≡ Allowed page offset
    → (grant : Grant) × (found ≡ Some grant) × (grant.page ≡ Some page) × (offset ≡ o)
allowed_tests false high found access o page offset is = absurd cc
allowed_tests true true found access o page offset is = absurd cc
allowed_tests true false None access o page offset is = absurd cc
allowed_tests true false (Some grant) access o page offset is = let r = allowed_right grant.right access grant o page offset is in (grant, refl, r.0, r.1)

-- the page and the offset of an access that the table allows
pub record IsOnPage (g : GrantsState) (p : ℕ) (address page offset : ℕ) : Type 0 where
  pub lives : is_live g page ≡ true
  pub low : page < g.frames
  pub few : g.frames ≤ 1024
  pub at : offset ≡ address % 4096

pub allowed_page : (g : GrantsState) (p : ℕ) (access : Kind) (size : Size) (address page offset : ℕ) → NamesPages g → decide g.table p access size address ≡ Allowed page offset → IsOnPage g p address page offset
allowed_page g p access size address page offset names is =
    let r = allowed_tests (is_aligned size address) (nat_le (2 ^ 31) address) (entry_at g.table p (page_address address)) access (address % 4096) page offset is in record {
      lives = named_page_lives g p (page_address address) page r.0 r.1 r.2;
      low = names.named p (page_address address) page r.0 r.1 r.2;
      few = names.frames;
      at = r.3;
    }

-- the size that the instruction in memory at a place asks for
abbrev pub size_in : List ℕ → Option ℕ → Size
size_in memory None = Word
size_in memory (Some place) = unwrap_or (access_size (instruction_of (word_at memory place))) Word

size_by : (g : GrantsState) (memory : List ℕ) (p address : ℕ) → NamesPages g → length memory ≡ 2 ^ 23 → (v : Verdict) → decide g.table p Fetch Word address ≡ v
    → size_on (page_state g memory).pages v ≡ size_in memory (place_by g v)
size_by g memory p address names large (Denied rule code) is = refl
size_by g memory p address names large (Allowed page offset) is =
    let on = allowed_page g p Fetch Word address page offset names is in
    let at = on.at in
    ap (λ (w : ℕ). unwrap_or (access_size (instruction_of w)) Word) (sym (word_of_page g memory page offset on.lives on.low names large (omega arith)))

-- the size that an instruction asks for is told by its word in memory
pub size_by_place : (g : GrantsState) (memory : List ℕ) (p address : ℕ) → NamesPages g → length memory ≡ 2 ^ 23 → size_at (page_state g memory) p address ≡ size_in memory (place_in_memory g p address)
size_by_place g memory p address names large = size_by g memory p address names large (decide g.table p Fetch Word address) refl

-- which is what is answered where the place is known
pub size_found : (g : GrantsState) (memory : List ℕ) (p address place : ℕ) (instr : Instr) (size : Option Size) (answer : Size) → NamesPages g → length memory ≡ 2 ^ 23 → place_in_memory g p address ≡ Some place
    → instr ≡ instruction_of (word_at memory place) → size ≡ access_size instr → answer ≡ unwrap_or size Word → answer ≡ size_at (page_state g memory) p address
size_found g memory p address place instr size answer names large at i s a =
    a ∙ ap (λ (o : Option Size). unwrap_or o Word) (s ∙ ap access_size i) ∙ sym (size_by_place g memory p address names large ∙ ap (size_in memory) at)

-- the table lets nobody fetch from a page beyond those that may live
pub fetched_low : (g : GrantsState) (p : ℕ) (access : Kind) (size : Size) (address page offset : ℕ) → NamesPages g → decide g.table p access size address ≡ Allowed page offset → page < g.frames
fetched_low g p access size address page offset names is = (allowed_page g p access size address page offset names is).low

-- which lie in frames of memory
pub frame_small : (g : GrantsState) (page frame : ℕ) → NamesPages g → page < g.frames → frame ≡ frame_of_page g page → frame < 1426
frame_small g page frame names low is =
    let there = names.layout.within page low in
    let few = names.frames in
    omega (arith, there, few, is)
