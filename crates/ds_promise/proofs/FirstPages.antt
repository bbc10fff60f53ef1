-- The pages of the first state of a run are whole.
use Rattle.std.proofs.Common.{◌≡◌, ℕ, zero, suc, ◌+◌, ◌-◌, ◌*◌, ◌<◌, ◌≤◌, true, List, [], ◌∷◌, ◌++◌, length, length-append, map, drop, Option, Some, None, Result, Ok, Err, refl, ap, ◌∙◌, subst, arith}
use Rattle.std.specs.Prelude.{codes, nat_le, nat_lt, ◌&&◌, replicate, slice_index_or, is_some, IfSome}
use Rattle.std.specs.List.{All}
use Rattle.std.proofs.lemmas.List.{length-replicate, length-take-le}
use Rattle.std.proofs.lemmas.List.Elements.{All-head, All-tail}
use Rattle.ds_asm.specs.Images.{page_of_image}
use Rattle.ds_policy.specs.declared.policy.PolicyPage.{PolicyPage}
use Rattle.ds_policy.specs.declared.policy.PolicyRule.{PolicyRule}
use Rattle.ds_policy.specs.declared.policy.Source.{Source}
use Rattle.ds_policy.specs.declared.grant.Grant.{Grant}
use Rattle.ds_policy.specs.Value.{PolicyValue, InputValue}
use Rattle.ds_policy.specs.Pages.{Pages, Table, found}
use Rattle.ds_policy.specs.Grants.{is_some_right}
use Rattle.ds_policy.specs.FirstTable.{with_rule, with_rules, granted_by}
use Rattle.ds_policy.specs.PolicyFacts.{IsGoodRule, IsGoodPolicy}
use Rattle.ds_policy.specs.InputFacts.{AreGoodCommands}
use Rattle.ds_policy.specs.InputText.{input_of}
use Rattle.ds_policy.specs.PolicyParts.{sources_of}
use Rattle.ds_policy.proofs.GoodInput.{input_good}
use Rattle.ds_policy.proofs.PolicyRead.{policy_good}
use Rattle.ds_word.proofs.ResultBinding.{bind_ok}
use Rattle.ds_pagemap.specs.Machine.{State}
use Rattle.ds_pagemap.specs.First.{source_bytes, image_named, first_state}
use Rattle.ds_pagemap.specs.Inputs.{Limit, BadRandom, Sources, check, input_read, images_from, inputs, inputs_under, inputs_under_by}
use Rattle.ds_pagemap_laws.proofs.FirstStates.{made}
use Rattle.ds_promise.specs.Stores.{live_page}
use Rattle.ds_promise.specs.Families.{HaveOwnAddresses, AllHaveOwnAddresses}
use Rattle.ds_promise.specs.Whole.{Lives, HasWholePages}
use Rattle.ds_promise.proofs.Stores.{none_is_not_some}
use Rattle.ds_promise.proofs.Entries.{false_is_not_true}
use Rattle.ds_promise.proofs.Tables.{AllGrants, with_entry_all, with_entry_table}

-- Bytes.

part_size : (image : List ℕ) (k : ℕ) → length (page_of_image image k) ≡ 4096
part_size image k =
    length-take-le 4096 (drop (4096 * k) image ++ replicate 4096 0)
    (long (length (drop (4096 * k) image)) (length {A = ℕ} (replicate 4096 0)) (length (drop (4096 * k) image ++ replicate 4096 0)) (length-replicate {A = ℕ} 4096 0) (length-append (drop (4096 * k) image) (replicate 4096 0)))
  where
    long : (a b c : ℕ) → b ≡ 4096 → c ≡ a + b → 4096 ≤ c
    long a b c e f = omega (arith, e, f)

source_size : (names images : List (List ℕ)) (s : Option Source) → length (source_bytes names images s) ≡ 4096
source_size names images None = length-replicate {A = ℕ} 4096 0
source_size names images (Some s) = part_size (image_named names images s.name) s.part

module _ (names images : List (List ℕ)) where
  -- the pages that a policy lists, and room for the others
  abbrev listed : List PolicyPage → ℕ → Pages
  listed pages more = map (λ (page : PolicyPage). Some (source_bytes names images page.source)) pages ++ replicate more None

  room_is_free : (more i : ℕ) (bytes : List ℕ) → live_page (replicate more None) i ≡ Some bytes → length bytes ≡ 4096
  room_is_free zero i bytes e = none_is_not_some bytes e
  room_is_free (suc more) zero bytes e = none_is_not_some bytes e
  room_is_free (suc more) (suc i) bytes e = room_is_free more i bytes e

  one_list : (a b : List ℕ) → ◌≡◌ {A = Option (List ℕ)} (Some a) (Some b) → b ≡ a
  one_list a b e = cc

  listed_size : (pages : List PolicyPage) (more i : ℕ) (bytes : List ℕ) → live_page (listed pages more) i ≡ Some bytes → length bytes ≡ 4096
  listed_size [] more i bytes e = room_is_free more i bytes e
  listed_size (page ∷ pages) more zero bytes e = ap (λ (b : List ℕ). length b) (one_list (source_bytes names images page.source) bytes e) ∙ source_size names images page.source
  listed_size (page ∷ pages) more (suc i) bytes e = listed_size pages more i bytes e

  listed_lives : (pages : List PolicyPage) (more i : ℕ) → i < length pages → Lives (listed pages more) i
  listed_lives [] more i e = absurd (omega (arith, e))
  listed_lives (page ∷ pages) more zero e = (source_bytes names images page.source, refl)
  listed_lives (page ∷ pages) more (suc i) e = listed_lives pages more i (omega (arith, e))

-- Entries.

-- a grant with a right names one of so many pages
record NamesOne (pages : ℕ) (g : Grant) : Type 0 where
  page : ℕ
  names : g.page ≡ Some page
  below : page < pages

abbrev IfRight : ℕ → Grant → Type 0
IfRight pages g = is_some_right g.right ≡ true → NamesOne pages g

one_of : (pages : ℕ) (o : Option ℕ) → is_some o ≡ true → IfSome o (λ n. n < pages) → (page : ℕ) × (o ≡ Some page) × (page < pages)
one_of pages None e below = false_is_not_true e
one_of pages (Some page) e below = (page, refl, below)

rule_names : (processes pages n : ℕ) (r : PolicyRule) → IsGoodRule processes pages r → IfRight pages (granted_by n r)
rule_names processes pages n r good some = let o = one_of pages r.page (good.right ∙ some) good.page in record { page = o.0; names = o.1; below = o.2 }

rules_name : (processes pages : ℕ) (t : Table) (n : ℕ) (rules : List PolicyRule) → All (IsGoodRule processes pages) rules → AllGrants (IfRight pages) t → AllGrants (IfRight pages) (with_rules t n rules)
rules_name processes pages t n [] good all = all
rules_name processes pages t n (r ∷ rest) good all =
    rules_name processes pages (with_rule t n r) (n + 1) rest (All-tail (IsGoodRule processes pages) r rest good)
    (with_entry_all (IfRight pages) t r.process r.address (granted_by n r) all (rule_names processes pages n r (All-head (IsGoodRule processes pages) r rest good)))

pub no_entry_yet : (n i a : ℕ) (g : Grant) → found (slice_index_or (replicate n []) i []) a ≡ Some g → ⊥
no_entry_yet zero i a g e = none e
  where
    none : ◌≡◌ {A = Option Grant} None (Some g) → ⊥
    none e = cc
no_entry_yet (suc n) zero a g e = none e
  where
    none : ◌≡◌ {A = Option Grant} None (Some g) → ⊥
    none e = cc
no_entry_yet (suc n) (suc i) a g e = no_entry_yet n i a g e

none_twice : (n i : ℕ) → HaveOwnAddresses (slice_index_or (replicate n []) i [])
none_twice zero i = tt
none_twice (suc n) zero = tt
none_twice (suc n) (suc i) = none_twice n i

rules_once : (t : Table) (n : ℕ) (rules : List PolicyRule) → AllHaveOwnAddresses t → AllHaveOwnAddresses (with_rules t n rules)
rules_once t n [] own = own
rules_once t n (r ∷ rest) own = rules_once (with_rule t n r) (n + 1) rest (with_entry_table t r.process r.address (granted_by n r) own)

-- First states.

pub first_whole : (policy : PolicyValue) (images : List (List ℕ)) (events : InputValue) → All (IsGoodRule (length policy.processes) (length policy.pages)) policy.rules → AreGoodCommands (length policy.pages) events.commands → HasWholePages (first_state policy images events)
first_whole policy images events rules commands =
    let names = sources_of policy.pages in
    let more : ℕ = policy.frames - length policy.pages in
    record {
      memory = record {
        sizes = λ page bytes e. listed_size names images policy.pages more page bytes e;
        named = λ page below. listed_lives names images policy.pages more page below;
        granted = λ p a g e right.
            let one = rules_name (length policy.processes) (length policy.pages) (replicate (length policy.processes) []) 1 policy.rules rules (λ q b h f. absurd (no_entry_yet (length policy.processes) (q - 1) b h f)) p a g e right in
            record { page = one.page; names = one.names; lives = listed_lives names images policy.pages more one.page one.below };
        places = rules_once (replicate (length policy.processes) []) 1 policy.rules (λ q. none_twice (length policy.processes) (q - 1));
      };
      commands = commands;
    }

pub inputs_whole : (text : List ℕ) (sources : Sources) (input : List ℕ) (n random : ℕ) (m : State) → inputs text sources input n random ≡ Ok m → HasWholePages m
unfolding inputs
inputs_whole text sources input n random m h =
    let it = made first_state text sources input n random m h in
    let good = policy_good text it.policy it.policy_is in
    subst HasWholePages it.is (first_whole it.policy it.images it.events good.rules.good (input_good it.policy.pages input it.events it.events_are).1)

-- Under a policy that was read before.

-- what a first state was made of
pub record IsMadeUnder (policy : PolicyValue) (sources : Sources) (input : List ℕ) (m : State) : Type 0 where
  pub images : List (List ℕ)
  pub events : InputValue
  pub images_are : images_from sources [] (sources_of policy.pages) ≡ Ok images
  pub events_are : input_of policy.pages input ≡ Ok events
  pub is : first_state policy images events ≡ m

input_said : (r : Result InputValue ℕ) (e : InputValue) → input_read r ≡ Ok e → r ≡ Ok e
input_said (Ok i) e h = let same : i ≡ e = cc in ap Ok same
input_said (Err line) e h = cc

pub made_under : (policy : PolicyValue) (sources : Sources) (input : List ℕ) (n random : ℕ) (m : State) → inputs_under policy sources input n random ≡ Ok m → IsMadeUnder policy sources input m
unfolding inputs_under inputs_under_by
made_under policy sources input n random m h =
    let (images, h2, b) = bind_ok (images_from sources [] (sources_of policy.pages)) _ m h in
    let (events, h3, c) = bind_ok (input_read (input_of policy.pages input)) _ m b in
    let (few, h4, d) = bind_ok (check (nat_le n 1000000000) (Limit (codes "n"))) _ m c in
    let (good, h5, e) = bind_ok (check (nat_le 8 random && nat_lt random 64) BadRandom) _ m d in
    record { images = images; events = events; images_are = h2; events_are = input_said (input_of policy.pages input) events h3; is = (let same : first_state policy images events ≡ m = cc in same) }

pub under_whole : (policy : PolicyValue) (sources : Sources) (input : List ℕ) (n random : ℕ) (m : State) → IsGoodPolicy policy → inputs_under policy sources input n random ≡ Ok m → HasWholePages m
under_whole policy sources input n random m good h =
    let it = made_under policy sources input n random m h in
    subst HasWholePages it.is (first_whole policy it.images it.events good.rules.good (input_good policy.pages input it.events it.events_are).1)
