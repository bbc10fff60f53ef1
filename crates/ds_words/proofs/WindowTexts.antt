-- Texts that write windows of memory, one after the other.
use Rattle.std.proofs.Common.{◌≡◌, ◌∙◌, ◌++◌, ◌<◌, ◌≤◌, ◌+◌, ℕ, List, [], ◌∷◌, zero, suc, sym, ap, refl, subst, arith, map, take, length, slice_index_or, Bor}
use Rattle.std.specs.List.{All, AllZip}
use Rattle.std.proofs.lemmas.List.{get_or-map, map_more}
use Rattle.std.proofs.lemmas.Slice.Zip.{AllZip-long, all_zipped_more}
use Rattle.std.specs.Prelude.{IfSome, None, Option, Some, option_map}
use Rattle.clap.specs.Words.{Text, all_of, matched_of, raw_values, rows_of}
use Rattle.clap.specs.declared.parser.matches.Found.{Found}
use Rattle.clap.proofs.WalkLemmas.{raw_values-rows}
use Rattle.ds_words.specs.Words.{NamesMemory}
use Rattle.ds_words.specs.declared.windows.Windows.{Windows}
use Rattle.ds_words.specs.Windows.{IsWindow, WriteWindows, WritesWindow, windows_in}
use Rattle.ds_words.specs.declared.windows.Window.{Window}

abbrev texts_in : List (Bor Text) → List Text
texts_in texts = map (λ t. t.now) texts

-- each window that is written may be
pub written_good : (texts : List Text) (windows : List Window) → AllZip WritesWindow texts windows → All IsWindow windows
written_good [] [] each k d below = absurd (omega (arith, below))
written_good [] (w ∷ rest) each k d below = absurd each
written_good (t ∷ texts) [] each k d below = absurd each
written_good (t ∷ texts) (w ∷ rest) each zero d below = each.0.good
written_good (t ∷ texts) (w ∷ rest) each (suc k) d below = written_good texts rest each.1 k d (omega (arith, below))

long : (texts : List (Bor Text)) → length (texts_in texts) ≡ length texts
long [] = refl
long (t ∷ texts) = let rest = long texts in omega (arith, rest)

module _ {W : Type 0} (Writes : Text → W → Type 0) where
  -- of texts that write values, the one at a place does
  text_writes : (texts : List Text) (values : List W) (i : ℕ) (d : Text) → AllZip Writes texts values → i < length texts
      → (w : W) × Writes (slice_index_or texts i d) w
  text_writes [] [] i d each below = absurd (omega (arith, below))
  text_writes [] (w ∷ rest) i d each below = absurd each
  text_writes (t ∷ texts) [] i d each below = absurd each
  text_writes (t ∷ texts) (w ∷ rest) zero d each below = (w, each.0)
  text_writes (t ∷ texts) (w ∷ rest) (suc i) d each below = text_writes texts rest i d each.1 (omega (arith, below))

  -- one more text is read
  pub read_on : (texts : List (Bor Text)) (values more : List W) (i : ℕ) (d : Bor Text) (w : W) → i < length texts
      → AllZip Writes (map (λ t. t.now) (take i texts)) values → Writes (slice_index_or texts i d).now w → more ≡ values ++ w ∷ []
      → AllZip Writes (map (λ t. t.now) (take (i + 1) texts)) more
  read_on texts values more i d w below each one is =
      rw (is, map_more (λ (t : Bor Text). t.now) texts i d below) (all_zipped_more Writes (map (λ t. t.now) (take i texts)) values (slice_index_or texts i d).now w each one)

  -- a text that writes no value is none of those that do
  pub not_read : (texts : List (Bor Text)) (values : List W) (i : ℕ) (d : Bor Text) → i < length texts → AllZip Writes (map (λ t. t.now) texts) values
      → ((w : W) → Writes (slice_index_or texts i d).now w → ⊥) → ⊥
  not_read texts values i d below each none =
      let found = text_writes (texts_in texts) values i d.now each (let same = long texts in omega (arith, same, below)) in
      none found.0 (subst (λ (t : Text). Writes t found.0) (get_or-map (λ (t : Bor Text). t.now) texts i d d.now below) found.1)

  -- more than eight texts write no eight values
  pub no_room : (texts : List (Bor Text)) (values : List W) (i : ℕ) → i < length texts → 8 ≤ i → AllZip Writes (map (λ t. t.now) texts) values → length values ≤ 8 → ⊥
  no_room texts values i below full each few =
      let same = AllZip-long Writes (texts_in texts) values each in
      let as_many = long texts in
      absurd (omega (arith, same, as_many, few, below, full))

-- texts that were found are those of the rows
pub strings_found : (f : Found) (id : Text) (r : Option (Bor (List (Bor Text)))) (texts : Bor (List (Bor Text)))
    → option_map (λ s. map (λ v. v.now) s.now) r ≡ option_map raw_values (matched_of f id) → r ≡ Some texts → all_of id (rows_of f) ≡ Some (map (λ t. t.now) texts.now)
strings_found f id r texts found is =
    sym (raw_values-rows f id) ∙ (sym found ∙ ap (λ (x : Option (Bor (List (Bor Text)))). option_map (λ s. map (λ v. v.now) s.now) x) is)

-- no texts of the rows
pub strings_wanting : (f : Found) (id : Text) (r : Option (Bor (List (Bor Text))))
    → option_map (λ s. map (λ v. v.now) s.now) r ≡ option_map raw_values (matched_of f id) → r ≡ None → all_of id (rows_of f) ≡ None
strings_wanting f id r found is =
    sym (raw_values-rows f id) ∙ (sym found ∙ ap (λ (x : Option (Bor (List (Bor Text)))). option_map (λ s. map (λ v. v.now) s.now) x) is)

-- what is read of the texts is what they name
pub memory_read : (f : Found) (id : Text) (texts : List (Bor Text)) (q : Option Windows) → all_of id (rows_of f) ≡ Some (map (λ t. t.now) texts)
    → IfSome q (λ w. WriteWindows (map (λ t. t.now) texts) (windows_in w)) → IfSome q (λ w. NamesMemory (all_of id (rows_of f)) (windows_in w))
memory_read f id texts None given write = tt
memory_read f id texts (Some w) given write = subst (λ (o : Option (List Text)). NamesMemory o (windows_in w)) (sym given) write

-- where they can't be read, they name none
pub memory_unread : (f : Found) (id : Text) (texts : List (Bor Text)) (windows : List Window) → all_of id (rows_of f) ≡ Some (map (λ t. t.now) texts)
    → (WriteWindows (map (λ t. t.now) texts) windows → ⊥) → NamesMemory (all_of id (rows_of f)) windows → ⊥
memory_unread f id texts windows given none names = none (subst (λ (o : Option (List Text)). NamesMemory o windows) given names)

-- where there are no texts, no window is named
pub memory_absent : (f : Found) (id : Text) (windows : List Window) → all_of id (rows_of f) ≡ None → windows ≡ [] → NamesMemory (all_of id (rows_of f)) windows
memory_absent f id windows given is = subst (λ (o : Option (List Text)). NamesMemory o windows) (sym given) is
