-- Worked rows of the checks of a policy at their bounds.
use Rattle.std.specs.Prelude.{codes, refl, ◌≡◌, ℕ, zero, suc, ◌+◌, ◌*◌, ◌/◌, ◌%◌, pos, negsuc, nat_lt, Float, Bool, true, false, List, [], ◌∷◌, ◌++◌, length, map, Option, Some, None, option_map, Result, Ok, Err, is_some, if◌then◌else◌}
use Rattle.toml.specs.Data.{Data, string, integer, boolean, float, array, table, Items, no_items, item, member, no_members}
use Rattle.toml.specs.Parse.{parse_document}
use Rattle.toml.proofs.OnLiterals.{toml_on_literals}
use Rattle.ds_policy.specs.declared.policy.PolicyPage.{PolicyPage}
use Rattle.ds_policy.specs.declared.grant.Right.{Right}
use Rattle.ds_policy.specs.declared.grant.Right.TheVariants.{Nothing, Read, Write}
use Rattle.ds_policy.specs.Document.{items_between}
use Rattle.ds_policy.specs.declared.cause.PolicyReason.{PolicyReason}
use Rattle.ds_policy.specs.declared.cause.PolicyReason.TheVariants.{ProcessCount, PageCount, Rule}
use Rattle.ds_policy.specs.declared.cause.RuleCause.{RuleCause}
use Rattle.ds_policy.specs.declared.cause.RuleCause.TheVariants.{BadProcess, BadAddress, BadPage, BadGive, BadUntil, PageOfNone, UntilOfNone, SamePlace, TooManyRules, FifthRegion}
use Rattle.ds_policy.specs.PolicyParts.{policy_process_of, source_of, page_of, new_page, grant_of, rule_of, beside, new_rule, rate_of}
use Rattle.ds_policy.specs.PolicyText.{each_of, processes_of, pages_of, rules_from}

-- so many items, of which the first is that of this number
abbrev items_from : (ℕ → Data) → ℕ → ℕ → Items
items_from one first zero = no_items
items_from one first (suc n) = item (one first) (items_from one (first + 1) n)

-- an array of so many items, numbered from 0
abbrev array_of : (ℕ → Data) → ℕ → Data
array_of one n = array (items_from one 0 n)

-- how many there are, or why they are refused
abbrev count : {X : Type 0} → Result (List X) PolicyReason → Result ℕ PolicyReason
count (Ok xs) = Ok (length xs)
count (Err reason) = Err reason

pub no_rate_is_0 : rate_of None ≡ Some 0
no_rate_is_0 = refl

pub a_rate_is_0_or_from_3_to_15 : map (λ n. rate_of (Some (integer n))) (negsuc 0 ∷ pos 0 ∷ pos 1 ∷ pos 2 ∷ pos 3 ∷ pos 15 ∷ pos 16 ∷ pos 4294967299 ∷ [])
    ≡ None ∷ Some 0 ∷ None ∷ None ∷ Some 3 ∷ Some 15 ∷ None ∷ None ∷ []
a_rate_is_0_or_from_3_to_15 = refl

pub a_boolean_is_no_rate : rate_of (Some (boolean false)) ≡ None
a_boolean_is_no_rate = refl

pub a_float_is_no_rate : (x : Float) → rate_of (Some (float x)) ≡ None
a_float_is_no_rate x = refl

-- a process's table in the document, with this start
abbrev process_from : ℕ → Data
process_from start = table (member (codes "line") (integer (pos 3)) (member (codes "start") (integer (pos start)) no_members))

-- so many processes, each with a start of its own
abbrev processes : ℕ → Result ℕ PolicyReason
processes n = count (processes_of (Some (array_of process_from n)))

pub there_are_1_to_100_processes : map processes (0 ∷ 1 ∷ 100 ∷ 101 ∷ [])
    ≡ Err ProcessCount ∷ Ok 1 ∷ Ok 100 ∷ Err ProcessCount ∷ []
unfolding policy_process_of each_of processes_of
there_are_1_to_100_processes = refl

-- one of 36 characters, the decimal digits and then the letters from a
abbrev character_of : ℕ → ℕ
character_of n = if nat_lt n 10 then 48 + n else 87 + n

-- a page's table in the document, with a name of two characters made of n
abbrev page_from : ℕ → Data
page_from n = table (member (codes "name") (string (character_of (n / 36) ∷ character_of (n % 36) ∷ [])) no_members)

-- under so many frames so many pages, each with a name of its own
abbrev pages : ℕ → ℕ → Result ℕ PolicyReason
pages frames n = count (pages_of frames (Some (array_of page_from n)))

pub there_are_as_many_pages_as_frames_at_most : pages 1 0 ∷ pages 1 1 ∷ pages 1 2 ∷ pages 16 16 ∷ pages 16 17 ∷ []
    ≡ Ok 0 ∷ Ok 1 ∷ Err PageCount ∷ Ok 16 ∷ Err PageCount ∷ []
unfolding source_of page_of new_page each_of pages_of
there_are_as_many_pages_as_frames_at_most = refl

pub there_may_be_1024_pages : pages 1024 1024 ≡ Ok 1024
unfolding source_of page_of new_page each_of pages_of
there_may_be_1024_pages = refl

pub an_array_may_have_999_items_where_that_is_its_limit : map (λ n. is_some (items_between 0 999 (array_of (λ i. integer (pos i)) n))) (1 ∷ 999 ∷ 1000 ∷ [])
    ≡ true ∷ true ∷ false ∷ []
an_array_may_have_999_items_where_that_is_its_limit = refl

-- Rules, each with its process and its address.

-- the page `data`
abbrev data_page : List PolicyPage
data_page = record { name = codes "data"; source = None } ∷ []

-- a rule's table in the document, of a process at an address
abbrev rule_at : ℕ × ℕ → Data
rule_at place = table (member (codes "address") (integer (pos place.1)) (member (codes "page") (string (codes "data")) (member (codes "process") (integer (pos place.0)) (member (codes "right") (string (codes "read")) no_members))))

-- rules of these processes at these addresses
abbrev rules_at : List (ℕ × ℕ) → Items
rules_at [] = no_items
rules_at (place ∷ places) = item (rule_at place) (rules_at places)

-- how many rules there are, where two processes and one page are named, or which is refused
abbrev rules : List (ℕ × ℕ) → Result ℕ PolicyReason
rules places = count (rules_from 1 2 data_page (rules_at places))

-- one page after the other, so many
abbrev places_from : ℕ → ℕ → List (ℕ × ℕ)
places_from first zero = []
places_from first (suc n) = (1, first * 4096) ∷ places_from (first + 1) n

pub no_rule_is_the_257th_of_its_process : map (λ last. rules (places_from 0 256 ++ last)) ([] ∷ ((2, 0) ∷ []) ∷ ((2, 0) ∷ (1, 256 * 4096) ∷ []) ∷ ((1, 4096) ∷ []) ∷ [])
    ≡ Ok 256 ∷ Ok 257 ∷ Err (Rule 258 TooManyRules) ∷ Err (Rule 257 SamePlace) ∷ []
unfolding grant_of rule_of beside new_rule each_of
no_rule_is_the_257th_of_its_process = refl

-- places of process 1 in four regions
abbrev four_regions : List (ℕ × ℕ)
four_regions = (1, 0) ∷ (1, 0x00400000) ∷ (1, 0x7FFFF000) ∷ (1, 0x00BFF000) ∷ []

pub no_rule_opens_a_fifth_region_of_its_process : map (λ last. rules (four_regions ++ last ∷ [])) ((1, 0x00001000) ∷ (1, 0x003FF000) ∷ (1, 0x7FC00000) ∷ (1, 0x7FBFF000) ∷ (1, 0x00C00000) ∷ (2, 0x00C00000) ∷ [])
    ≡ Ok 5 ∷ Ok 5 ∷ Ok 5 ∷ Err (Rule 5 FifthRegion) ∷ Err (Rule 5 FifthRegion) ∷ Ok 5 ∷ []
unfolding grant_of rule_of beside new_rule each_of
no_rule_opens_a_fifth_region_of_its_process = refl

pub no_two_rules_have_one_process_and_address : map (λ second. rules ((1, 4096) ∷ second ∷ [])) ((1, 4096) ∷ (2, 4096) ∷ (1, 8192) ∷ (3, 4096) ∷ (1, 4097) ∷ [])
    ≡ Err (Rule 2 SamePlace) ∷ Ok 2 ∷ Ok 2 ∷ Err (Rule 2 BadProcess) ∷ Err (Rule 2 BadAddress) ∷ []
unfolding grant_of rule_of beside new_rule each_of
no_two_rules_have_one_process_and_address = refl

-- the page, the flag and the end that keys say under a right, if they are a document
abbrev granted : Right → List ℕ → Option (Result (Option ℕ × Bool × Option ℕ) RuleCause)
granted right keys = option_map (grant_of data_page right) (parse_document keys)

pub a_rule_without_a_right_has_no_page : map (granted Nothing) (codes "right = \"none\"" ∷ codes "page = \"data\"" ∷ codes "give = false" ∷ codes "until = 1" ∷ [])
    ≡ Some (Ok (None, false, None)) ∷ Some (Err PageOfNone) ∷ Some (Err PageOfNone) ∷ Some (Err UntilOfNone) ∷ []
unfolding toml_on_literals grant_of
a_rule_without_a_right_has_no_page = refl

pub a_rule_to_read_has_a_page : map (granted Read) (codes "page = \"data\"" ∷ codes "page = \"data\"\ngive = false" ∷ codes "page = \"data\"\ngive = 1" ∷ codes "page = \"more\"" ∷ [])
    ≡ Some (Ok (Some 0, false, None)) ∷ Some (Ok (Some 0, false, None)) ∷ Some (Err BadGive) ∷ Some (Err BadPage) ∷ []
unfolding toml_on_literals grant_of
a_rule_to_read_has_a_page = refl

pub a_rule_to_write_has_a_page : map (granted Write) (codes "page = \"data\"\ngive = true" ∷ codes "give = true" ∷ [])
    ≡ Some (Ok (Some 0, true, None)) ∷ Some (Err BadPage) ∷ []
unfolding toml_on_literals grant_of
a_rule_to_write_has_a_page = refl

pub a_rule_may_have_an_end : map (λ end. granted Write (codes "page = \"data\"\nuntil = " ++ end)) (codes "1" ∷ codes "1000000000" ∷ codes "0" ∷ codes "1000000001" ∷ codes "-1" ∷ codes "true" ∷ [])
    ≡ Some (Ok (Some 0, false, Some 1)) ∷ Some (Ok (Some 0, false, Some 1000000000)) ∷ Some (Err BadUntil) ∷ Some (Err BadUntil) ∷ Some (Err BadUntil) ∷ Some (Err BadUntil) ∷ []
unfolding toml_on_literals grant_of
a_rule_may_have_an_end = refl
