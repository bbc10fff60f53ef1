-- Entries of the buffer that are written anew, one after the other.
use Rattle.std.proofs.Common.{◌≡◌, ◌≢◌, ℕ, ◌/◌, ◌^◌, ◌<◌, ◌≤◌, ◌⊎◌, ◌==◌, Bool, true, false, List, [], ◌∷◌, Option, Some, None, refl, sym, ap, ap₂, subst, ◌∙◌, arith, inl, inr, set, length-set}
use Rattle.std.specs.List.{All}
use Rattle.std.specs.Prelude.{◌&&◌, ◌||◌, slice_get, slice_set}
use Rattle.std.proofs.lemmas.Bool.{cases_Bool, cases_eq}
use Rattle.std.proofs.lemmas.List.{get_or-set_same}
use Rattle.std.proofs.lemmas.Option.{slice_get-get_or, slice_get_within}
use Rattle.std.proofs.lemmas.Bool.Decides.{nat_tests}
use Rattle.ds_word.specs.Word.{bits}
use Rattle.ds_tlb.specs.declared.entry.Entry.{Entry}
use Rattle.ds_tlb.specs.Entries.{matches, find}
use Rattle.ds_tlb.specs.Singles.{match_each_other, IsSingle}
use Rattle.ds_tlb.specs.Words.{entry_of}
use Rattle.ds_tlb.proofs.Bits.{read_set_other}
use Rattle.ds_tlb.proofs.Matches.{found_matches, entry_of_match}
use Rattle.ds_tables.specs.Places.{Places}
use Rattle.ds_asid.specs.Spaces.{Spaces, AreApart, space_number}
use Rattle.ds_asid.specs.Inner.Spaces.{number_held}
use Rattle.ds_asid.proofs.Apart.{none_held, some_held, held_some}
use Rattle.ds_grants.specs.Buffer.{hi_of}
use Rattle.ds_grants.specs.Copies.{AreRewritten, HasKeys}
use Rattle.ds_grants.specs.Inner.Rewords.{with_lo, rewritten, found_rewritten, with_entry_lo}
use Rattle.ds_grants.proofs.Fields.{has_page, has_space}
use Rattle.ds_grants.proofs.Translations.{at_set, set_single, found_there}
use Rattle.ds_grants.proofs.WordsAnew.{Words, Key, is_hit, IsKey, first_of, rest_of, same_number, both_true}

-- the buffer once what it has of the keys is written anew
abbrev pub refreshed : List Entry → Spaces → Words → List Key → List Entry
refreshed entries s new [] = entries
refreshed entries s new (key ∷ rest) = refreshed (with_entry_lo entries (key.address / 2 ^ 12) (number_held s key.process) (new key.process (key.address / 2 ^ 12))) s new rest

-- a word answers in its own address space alone
abbrev pub AreOwn : Words → Type 0
AreOwn words = (p vpn : ℕ) → vpn < 2 ^ 19 → (bits (words p vpn) 8 1 == 1) ≡ false

-- with another EntryLo it is the entry of its page and address space
is_entry : (e : Entry) (w : ℕ) → e.vpn < 2 ^ 20 → e.asid < 64 → with_lo e w ≡ entry_of (hi_of e.vpn e.asid) w
is_entry e w a b = sym (ap₂ (λ (v n : ℕ). with_lo (record e { vpn = v; asid = n }) w) (has_page e.vpn e.asid w a b) (has_space e.vpn e.asid w a b))

keys_of : (vpn asid : ℕ) (e : Entry) → e.g ≡ false → matches vpn asid e ≡ true → (e.vpn ≡ vpn) × (e.asid ≡ asid)
keys_of vpn asid e g m = (grind (arith, nat_tests), grind (arith, nat_tests))

matches_itself : (e : Entry) (vpn asid : ℕ) → e.vpn ≡ vpn → e.asid ≡ asid → matches vpn asid e ≡ true
matches_itself e vpn asid a b = grind (arith, nat_tests)

page_matched : (vpn asid : ℕ) (e : Entry) → matches vpn asid e ≡ true → e.vpn ≡ vpn
page_matched vpn asid e m = grind (arith, nat_tests)

match_by_keys : (e f x : Entry) → e.g ≡ false → f.g ≡ false → x.g ≡ false → x.vpn ≡ e.vpn → x.asid ≡ e.asid → match_each_other e f ≡ true → match_each_other x f ≡ true
match_by_keys e f x a b c p q m = grind (arith, nat_tests)

page_number : (a : ℕ) → a < 2 ^ 31 → a / 2 ^ 12 < 2 ^ 19
page_number a e = omega arith

-- Keys stay.

-- an entry that is worded anew keeps its key
pub keys_reworded : (entries : List Entry) (slot : ℕ) (old e : Entry) → slice_get entries slot ≡ Some old → e.vpn ≡ old.vpn → e.asid ≡ old.asid → HasKeys entries (slice_set entries slot e)
keys_reworded entries slot old e is page space other f at = by_cases (cases_eq other slot)
  where
    by_cases : (other ≡ slot) ⊎ (other ≢ slot) → (g : Entry) × (slice_get (slice_set entries slot e) other ≡ Some g) × (g.vpn ≡ f.vpn) × (g.asid ≡ f.asid)
    by_cases (inl here) =
        let within = slice_get_within entries slot old is in
        let size = length-set entries slot e in
        let same : Some f ≡ Some old = sym at ∙ (ap (slice_get entries) here ∙ is) in
        let alike : f ≡ old = cc in
        let there : slice_get (set entries slot e) slot ≡ Some e = slice_get-get_or (set entries slot e) slot e (omega arith) ∙ ap (λ (x : Entry). Some x) (get_or-set_same entries slot e e within) in
        (e, ap (slice_get (set entries slot e)) here ∙ there, page ∙ ap (λ (x : Entry). x.vpn) (sym alike), space ∙ ap (λ (x : Entry). x.asid) (sym alike))
    by_cases (inr apart) = (f, read_set_other entries slot other e apart ∙ at, refl, refl)

-- so do keys after keys
pub keys_again : (old between new : List Entry) → HasKeys old between → HasKeys between new → HasKeys old new
keys_again old between new first second slot e at =
    let f = first slot e at in
    let g = second slot f.0 f.1 in
    (g.0, g.1, g.2 ∙ f.2, g.3 ∙ f.3)

keys_same : (entries : List Entry) → HasKeys entries entries
keys_same entries = λ slot e at. (e, at, refl, refl)

lo_keys : (entries : List Entry) (slot w : ℕ) (o : Option Entry) → slice_get entries slot ≡ o → AreRewritten entries (rewritten entries slot w o)
lo_keys entries slot w None at = (keys_same entries, refl)
lo_keys entries slot w (Some e) at = (keys_reworded entries slot e (with_lo e w) at refl refl, length-set entries slot (with_lo e w))

found_keys : (entries : List Entry) (w : ℕ) (o : Option ℕ) → AreRewritten entries (found_rewritten entries w o)
found_keys entries w None = (keys_same entries, refl)
found_keys entries w (Some slot) = lo_keys entries slot w (slice_get entries slot) refl

pub entry_keys : (entries : List Entry) (vpn : ℕ) (held : Option ℕ) (w : ℕ) → AreRewritten entries (with_entry_lo entries vpn held w)
entry_keys entries vpn None w = (keys_same entries, refl)
entry_keys entries vpn (Some asid) w = found_keys entries w (find entries vpn asid)

pub same_keys : (entries : List Entry) → AreRewritten entries entries
same_keys entries = (keys_same entries, refl)

pub more_keys : (old between new : List Entry) → AreRewritten old between → AreRewritten between new → AreRewritten old new
more_keys old between new a b = (keys_again old between new a.0 b.0, b.1 ∙ a.1)

-- While keys are still to come, an entry of one of them may be of the old word.
pub record HasBetween (first entries : List Entry) (s : Spaces) (old new : Words) (keys : List Key) : Type 0 where
  pub single : IsSingle entries
  pub own : (slot : ℕ) (e : Entry) → slice_get entries slot ≡ Some e → e.g ≡ false
  pub backed : (slot : ℕ) (e : Entry) (p : ℕ) → slice_get entries slot ≡ Some e → 0 < p → 0 < e.asid → space_number s p ≡ e.asid → e.vpn < 2 ^ 19
      → (e ≡ entry_of (hi_of e.vpn e.asid) (new p e.vpn)) ⊎ ((is_hit p e.vpn keys ≡ true) × (e ≡ entry_of (hi_of e.vpn e.asid) (old p e.vpn)))
  -- what is of no user's page stands where it stood
  pub tables : (slot : ℕ) (e : Entry) → slice_get first slot ≡ Some e → 2 ^ 19 ≤ e.vpn → slice_get entries slot ≡ Some e

module _ (first entries : List Entry) (s : Spaces) (old new : Words) (key : Key) (keys : List Key) (t : Places) (apart : AreApart s) (owned : AreOwn new) (k : IsKey t new key) (b : HasBetween first entries s old new (key ∷ keys)) where
  abbrev vpn : ℕ
  vpn = key.address / 2 ^ 12

  abbrev w : ℕ
  w = new key.process vpn

  small : vpn < 2 ^ 19
  small = page_number key.address k.user

  -- what is still hit, or not
  later : (p v : ℕ) → (p ≡ key.process → v ≡ key.address / 2 ^ 12 → ⊥) → is_hit p v (key ∷ keys) ≡ true → is_hit p v keys ≡ true
  later p v other hit = by ((p == key.process) && (v == key.address / 2 ^ 12)) refl
    where
      by : (here : Bool) → ((p == key.process) && (v == key.address / 2 ^ 12)) ≡ here → is_hit p v keys ≡ true
      by true is = let both = both_true (p == key.process) (v == key.address / 2 ^ 12) is in absurd (other (same_number p key.process both.0) (same_number v (key.address / 2 ^ 12) both.1))
      by false is = sym (ap (λ (x : Bool). x || is_hit p v keys) is) ∙ hit

  stays : (slot : ℕ) (f : Entry) (p : ℕ) → slice_get entries slot ≡ Some f → 0 < p → 0 < f.asid → space_number s p ≡ f.asid → f.vpn < 2 ^ 19 → (p ≡ key.process → f.vpn ≡ vpn → ⊥)
      → (f ≡ entry_of (hi_of f.vpn f.asid) (new p f.vpn)) ⊎ ((is_hit p f.vpn keys ≡ true) × (f ≡ entry_of (hi_of f.vpn f.asid) (old p f.vpn)))
  stays slot f p at live some number user other = elim (b.backed slot f p at live some number user) [
    | inl done ↦ inl done
    | inr waits ↦ inr (later p f.vpn other waits.0, waits.1)
  ]

  -- no entry of the key's stands there
  none_there : ((slot : ℕ) (f : Entry) → slice_get entries slot ≡ Some f → 0 < f.asid → space_number s key.process ≡ f.asid → f.vpn ≡ vpn → ⊥) → HasBetween first entries s old new keys
  none_there none = record {
    single = b.single;
    own = b.own;
    backed = λ slot f p at live some number user. stays slot f p at live some number user (λ own same. none slot f at some (sym (ap (space_number s) own) ∙ number) same);
    tables = b.tables;
  }

  turned_match : (f x : Entry) → match_each_other x f ≡ true → match_each_other f x ≡ true
  turned_match f x m = grind (arith, nat_tests)

  -- one does
  one_there : (asid here : ℕ) (was : Entry) → space_number s key.process ≡ asid → 0 < asid → Some here ≡ find entries vpn asid → slice_get entries here ≡ Some was → (was.vpn ≡ vpn) × (was.asid ≡ asid)
      → HasBetween first (slice_set entries here (with_lo was w)) s old new keys
  one_there asid here was held some is stood keyed = record {
    single = set_single entries here (with_lo was w) b.single (λ j f at m. b.single.same_slot j here f was at stood (turned_match f was (match_by_keys (with_lo was w) f was (owned key.process vpn small) (b.own j f at) (b.own here was stood) refl refl m)));
    own = λ slot f at. elim (at_set entries here slot (with_lo was w) f at) [
      | inl there ↦ ap (λ (x : Entry). x.g) there.1 ∙ owned key.process vpn small
      | inr there ↦ b.own slot f there.1
    ];
    backed = λ slot f p at live has number user. elim (at_set entries here slot (with_lo was w) f at) [
      | inl there ↦
          let page : f.vpn ≡ was.vpn = ap (λ (x : Entry). x.vpn) there.1 in
          let space : f.asid ≡ was.asid = ap (λ (x : Entry). x.asid) there.1 in
          let owner : p ≡ key.process = apart.apart p key.process (subst (λ (n : ℕ). 0 < n) (sym number) has) (number ∙ (space ∙ (keyed.1 ∙ sym held))) in
          let low = small in let used = apart.used p in let high = apart.high in
          let few : was.asid < 64 = omega (arith, used, high, number, space) in
          let within : was.vpn < 2 ^ 20 = omega (arith, user, page) in
          inl (there.1 ∙ (is_entry was w within few
          ∙ (ap₂ (λ (v a : ℕ). entry_of (hi_of v a) w) (sym page) (sym space)
          ∙ ap₂ (λ (q v : ℕ). entry_of (hi_of f.vpn f.asid) (new q v)) (sym owner) (sym (page ∙ keyed.0)))))
      | inr there ↦ stays slot f p there.1 live has number user (λ own same. (let hit : Some here ≡ Some slot = is ∙ found_there entries vpn asid slot f (find entries vpn asid) b.single refl there.1 (matches_itself f vpn asid same (sym number ∙ (ap (space_number s) own ∙ held))) in let at_here : slot ≡ here = cc in there.0 at_here))
    ];
    tables = λ slot e at high. read_set_other entries here slot (with_lo was w) (λ (same : ◌≡◌ {A = ℕ} slot here).
        (let there : slice_get entries here ≡ Some e = ap (slice_get entries) (sym same) ∙ b.tables slot e at high in
        let of : Some was ≡ Some e = sym stood ∙ there in
        let it : was ≡ e = cc in
        let page : e.vpn ≡ vpn = ap (λ (x : Entry). x.vpn) (sym it) ∙ keyed.0 in
        let low = small in omega (arith, page, high, low))) ∙ b.tables slot e at high;
  }

  by_found : (asid : ℕ) (found : Option ℕ) → space_number s key.process ≡ asid → 0 < asid → found ≡ find entries vpn asid → HasBetween first (found_rewritten entries w found) s old new keys
  by_found asid None held some is = none_there (λ slot f at has number same. (let hit : None ≡ Some slot = is ∙ found_there entries vpn asid slot f (find entries vpn asid) b.single refl at (matches_itself f vpn asid same (sym number ∙ held)) in absurd cc))
  by_found asid (Some here) held some is =
      let stood = entry_of_match vpn asid entries here (found_matches vpn asid entries here (sym is)) in
      subst (λ (o : Option Entry). HasBetween first (rewritten entries here w o) s old new keys) (sym stood.1)
      (one_there asid here stood.0 held some is stood.1 (keys_of vpn asid stood.0 (b.own here stood.0 stood.1) stood.2))

  pub by_held : (held : Option ℕ) → number_held s key.process ≡ held → HasBetween first (with_entry_lo entries vpn held w) s old new keys
  by_held None none = none_there (λ slot f at has number same. (let zero_there : space_number s key.process ≡ 0 = none_held s key.process none in omega (arith, zero_there, number, has)))
  by_held (Some asid) some = by_found asid (find entries vpn asid) (some_held s key.process asid some) (held_some s key.process asid some) refl

between : (first entries : List Entry) (s : Spaces) (old new : Words) (keys : List Key) (t : Places) → AreApart s → AreOwn new → All (IsKey t new) keys → HasBetween first entries s old new keys → HasBetween first (refreshed entries s new keys) s old new []
between first entries s old new [] t apart owned all b = b
between first entries s old new (key ∷ keys) t apart owned all b =
    between first (with_entry_lo entries (key.address / 2 ^ 12) (number_held s key.process) (new key.process (key.address / 2 ^ 12))) s old new keys t apart owned (rest_of (IsKey t new) key keys all)
    (by_held first entries s old new key keys t apart owned (first_of (IsKey t new) key keys all) b (number_held s key.process) refl)

-- what a buffer has of users' pages is of these words
pub record HasEntries (first entries : List Entry) (s : Spaces) (words : Words) : Type 0 where
  pub single : IsSingle entries
  pub own : (slot : ℕ) (e : Entry) → slice_get entries slot ≡ Some e → e.g ≡ false
  pub backed : (slot : ℕ) (e : Entry) (p : ℕ) → slice_get entries slot ≡ Some e → 0 < p → 0 < e.asid → space_number s p ≡ e.asid → e.vpn < 2 ^ 19 → e ≡ entry_of (hi_of e.vpn e.asid) (words p e.vpn)
  pub tables : (slot : ℕ) (e : Entry) → slice_get first slot ≡ Some e → 2 ^ 19 ≤ e.vpn → slice_get entries slot ≡ Some e

pub entries_written : (entries : List Entry) (s : Spaces) (old new : Words) (keys : List Key) (t : Places) → AreApart s → AreOwn new → All (IsKey t new) keys
    → HasEntries entries entries s old → ((p vpn : ℕ) → 0 < p → is_hit p vpn keys ≡ false → new p vpn ≡ old p vpn)
    → HasEntries entries (refreshed entries s new keys) s new
entries_written entries s old new keys t apart owned all h same =
    let begin : HasBetween entries entries s old new keys = record {
      single = h.single;
      own = h.own;
      backed = λ slot e p at live some number user.
          let is = h.backed slot e p at live some number user in
          elim (cases_Bool (is_hit p e.vpn keys)) [
            | inl hit ↦ inr (hit, is)
            | inr miss ↦ inl (is ∙ ap (entry_of (hi_of e.vpn e.asid)) (sym (same p e.vpn live miss)))
          ];
      tables = h.tables;
    } in
    let last = between entries entries s old new keys t apart owned all begin in
    record {
      single = last.single;
      own = last.own;
      backed = λ slot e p at live some number user. elim (last.backed slot e p at live some number user) [
        | inl done ↦ done
        | inr waits ↦ (let no : false ≡ true = waits.0 in absurd cc)
      ];
      tables = last.tables;
    }
