-- Pages, the permission table, and what it answers to an access.
use Rattle.std.specs.Prelude.{ℕ, ◌+◌, ◌-◌, ◌%◌, ◌^◌, Bool, false, ◌||◌, not, nat_lt, nat_le, ◌==◌, if◌then◌else◌, List, [], ◌∷◌, filter, slice_set, slice_index_or, Option, Some, None}
use Rattle.std.specs.List.{list_any}
use Rattle.ds_policy.specs.declared.grant.Right.{Right}
use Rattle.ds_policy.specs.declared.grant.Right.TheVariants.{Nothing, Read, Write}
use Rattle.ds_isa.specs.declared.instr.Kind.{Kind}
use Rattle.ds_isa.specs.declared.instr.Kind.TheVariants.{Fetch, Load, Store}
use Rattle.ds_isa.specs.declared.instr.Size.{Size}
use Rattle.ds_isa.specs.Access.{is_aligned}
use Rattle.ds_policy.specs.declared.access.Rule.TheVariants.{Number, K, A}
use Rattle.ds_policy.specs.declared.grant.Grant.{Grant}
use Rattle.ds_policy.specs.declared.grant.Entry.{Entry}
use Rattle.ds_policy.specs.declared.access.Verdict.{Verdict}
use Rattle.ds_policy.specs.declared.access.Verdict.TheVariants.{Allowed, Denied}

-- each process's entries, no two at one address; process p's are at p - 1
abbrev pub Table : Type 0
Table = List (List Entry)

-- the bytes of each page that lives, by its number
abbrev pub Pages : Type 0
Pages = List (Option (List ℕ))

-- the entries of process p
abbrev pub entries_of : Table → ℕ → List Entry
entries_of table p = slice_index_or table (p - 1) []

-- what the entries grant at an address
abbrev pub found : List Entry → ℕ → Option Grant
found [] address = None
found (e ∷ rest) address = if e.address == address then Some e.grant else found rest address

-- the entries with this grant at an address: in place of the one there, or at the end
abbrev pub put : List Entry → ℕ → Grant → List Entry
put [] address g = record { address = address; grant = g } ∷ []
put (e ∷ rest) address g = if e.address == address then record { address = address; grant = g } ∷ rest else e ∷ put rest address g

-- what the table grants process p at an address
abbrev pub entry_at : Table → ℕ → ℕ → Option Grant
entry_at table p address = found (entries_of table p) address

-- the table with this grant of process p at an address
abbrev pub with_entry : Table → ℕ → ℕ → Grant → Table
with_entry table p address g = slice_set table (p - 1) (put (entries_of table p) address g)

-- the table without an entry of process p at an address, all others as they are
abbrev pub erased_entry : Table → ℕ → ℕ → Table
erased_entry table p address = slice_set table (p - 1) (filter (λ e. not (e.address == address)) (entries_of table p))

-- it names this page
abbrev pub names : ℕ → Option ℕ → Bool
names page None = false
names page (Some q) = q == page

-- an entry names the page
abbrev pub is_named_by : Table → ℕ → Bool
is_named_by table page = list_any (λ es. list_any (λ e. names page e.grant.page) es) table

-- where the page of an address begins
abbrev pub page_address : ℕ → ℕ
page_address address = address - address % 4096

-- the exception code of an address that may not be used: AdES 5, else AdEL 4
abbrev pub address_code : Kind → ℕ
address_code Store = 5
address_code Load = 4
address_code Fetch = 4

-- the exception code where nothing is granted: TLBS 3, else TLBL 2
abbrev pub miss_code : Kind → ℕ
miss_code Store = 3
miss_code Load = 2
miss_code Fetch = 2

-- an entry with a right has a page
abbrev pub allowed_on : Option ℕ → ℕ → Verdict
allowed_on (Some page) offset = Allowed page offset
allowed_on None offset = Denied (Number 0) 0

-- what a grant answers, by its right
abbrev pub by_right : Right → Kind → Grant → ℕ → Verdict
by_right Nothing kind g offset = Denied (Number g.rule) (miss_code kind)
by_right Read Store g offset = Denied (Number g.rule) 1
by_right Read Load g offset = allowed_on g.page offset
by_right Read Fetch g offset = allowed_on g.page offset
by_right Write kind g offset = allowed_on g.page offset

-- what the entry at the address answers, if there is one
abbrev pub by_entry : Option Grant → Kind → ℕ → Verdict
by_entry None kind offset = Denied (Number 0) (miss_code kind)
by_entry (Some g) kind offset = by_right g.right kind g offset

-- what the table answers to an access
abbrev pub decide : Table → ℕ → Kind → Size → ℕ → Verdict
decide table p kind size address =
    if not (is_aligned size address) then Denied A (address_code kind)
    else if nat_le (2 ^ 31) address then Denied K (address_code kind)
    else by_entry (entry_at table p (page_address address)) kind (address % 4096)

-- the bytes of page n, none where it doesn't live
abbrev pub bytes_of : Pages → ℕ → List ℕ
bytes_of pages n = bytes (slice_index_or pages n None)
  where
    bytes : Option (List ℕ) → List ℕ
    bytes None = []
    bytes (Some b) = b

-- how many pages live
abbrev pub count_live : Pages → ℕ
count_live [] = 0
count_live (None ∷ rest) = count_live rest
count_live (Some b ∷ rest) = count_live rest + 1

-- the least number that no live page has
abbrev pub fresh : Pages → ℕ
fresh [] = 0
fresh (None ∷ rest) = 0
fresh (Some b ∷ rest) = fresh rest + 1

-- the page lives if the policy or an entry names it
abbrev pub kept : Pages → Table → ℕ → ℕ → Pages
kept [] table named at = []
kept (b ∷ rest) table named at = (if nat_lt at named || is_named_by table at then b else None) ∷ kept rest table named (at + 1)
