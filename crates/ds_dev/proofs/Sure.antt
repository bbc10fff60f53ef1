-- Memory with its pages, when something in it changes.
use Rattle.std.proofs.Common.{◌≡◌, ◌≢◌, inl, inr, ℕ, ◌+◌, ◌*◌, ◌/◌, ◌<◌, ◌%◌, Bool, true, false, List, Option, Some, None, length, slice_set, replicate, refl, sym, ap, ◌∙◌, subst, arith, length-set}
use Rattle.std.proofs.lemmas.Bool.{cases_eq, cases_lt, false≢true}
use Rattle.std.proofs.lemmas.List.{get_or-set_same, get_or-set_other, get_or_past, get_or-replicate, length-replicate}
use Rattle.std.specs.Prelude.{Box, slice_index_or}
use Rattle.std.specs.Global.{Global}
use Rattle.ds_isa.specs.declared.instr.Size.{Size}
use Rattle.ds_word.specs.Bytes.{word_at}
use Rattle.ds_pages.specs.Inner.Page.{KnownPageState, HoldsWords}
use Rattle.ds_dev.specs.Bus.{memory_store}
use Rattle.ds_dev.specs.Inner.Bus.{alignment}
use Rattle.ds_dev.specs.Inner.Known.{Room, room_of, with_room, HoldsFrame, IsKnown}
use Rattle.ds_dev.proofs.Stores.{word_at-memory_store_apart, length-memory_store}

-- what is read past the end, or where the default was put, is the default
cleared : {X : Type 0} (xs : List X) (i : ℕ) (d : X) → slice_index_or (slice_set xs i d) i d ≡ d
cleared xs i d = elim (cases_lt i (length xs)) [
  | inl inside ↦ get_or-set_same xs i d d inside
  | inr past ↦ get_or_past (slice_set xs i d) i d (omega (arith, past, length-set xs i d))
]

-- true is not false
true_is_not_false : {X : Type 0} (b : Bool) → b ≡ true → b ≡ false → X
true_is_not_false b is is_not = absurd (false≢true (sym is_not ∙ is))

-- a room after another one changed
other_room : (rooms : Option (List Room)) (f g : ℕ) (room : Room) → g ≢ f → room_of (with_room rooms f room) g ≡ room_of rooms g
other_room None f g room apart = refl
other_room (Some rooms) f g room apart = get_or-set_other rooms f g room None apart

-- a room that was emptied
empty_room : (rooms : Option (List Room)) (f : ℕ) → room_of (with_room rooms f None) f ≡ None
empty_room None f = refl
empty_room (Some rooms) f = cleared rooms f None

-- an empty room holds any frame's words
empty_holds : (room : Room) (memory : List ℕ) (f : ℕ) → room ≡ None → HoldsFrame room memory f
empty_holds room memory f is = subst (λ (r : Room). HoldsFrame r memory f) (sym is) tt

-- a room whose page was put there, where it is one
filled_holds : (rooms : Option (List Room)) (memory : List ℕ) (f : ℕ) (page : Box KnownPageState Global) → HoldsWords page.value memory (4096 * f)
    → HoldsFrame (room_of (with_room rooms f (Some page)) f) memory f
filled_holds None memory f page holds = tt
filled_holds (Some rooms) memory f page holds = elim (cases_lt f (length rooms)) [
  | inl inside ↦ subst (λ (r : Room). HoldsFrame r memory f) (sym (get_or-set_same rooms f (Some page) None inside)) holds
  | inr past ↦ empty_holds _ memory f (get_or_past (slice_set rooms f (Some page)) f None (omega (arith, past, length-set rooms f (Some page))))
]

-- the page of a frame is taken out
pub taken : (memory : List ℕ) (rooms : Option (List Room)) (sure : List Bool) (f : ℕ) → IsKnown memory rooms sure → IsKnown memory (with_room rooms f None) sure
taken memory rooms sure f known = record {
  size = known.size;
  holds = λ g is. elim (cases_eq g f) [
    | inl same ↦ empty_holds _ memory g (ap (λ (n : ℕ). room_of (with_room rooms f None) n) same ∙ empty_room rooms f)
    | inr other ↦ subst (λ (r : Room). HoldsFrame r memory g) (sym (other_room rooms f g None other)) (known.holds g is)
  ];
}

-- a page that holds the words of its frame is given back
pub given : (memory : List ℕ) (rooms : Option (List Room)) (sure : List Bool) (f : ℕ) (page : Box KnownPageState Global) → HoldsWords page.value memory (4096 * f)
    → IsKnown memory rooms sure → IsKnown memory (with_room rooms f (Some page)) (slice_set sure f true)
given memory rooms sure f page holds known = record {
  size = known.size;
  holds = λ g is. elim (cases_eq g f) [
    | inl same ↦ subst (λ (n : ℕ). HoldsFrame (room_of (with_room rooms f (Some page)) n) memory n) (sym same) (filled_holds rooms memory f page holds)
    | inr other ↦ subst (λ (r : Room). HoldsFrame r memory g) (sym (other_room rooms f g (Some page) other)) (known.holds g (sym (get_or-set_other sure f g true false other) ∙ is))
  ];
}

-- nothing is sure
pub nothing_sure : (memory : List ℕ) (rooms : Option (List Room)) (n : ℕ) → length memory ≡ 8388608 → IsKnown memory rooms (replicate n false)
nothing_sure memory rooms n long = record {
  size = long;
  holds = λ f is. true_is_not_false _ is (never n f);
}
  where
    never : (n f : ℕ) → slice_index_or (replicate n false) f false ≡ false
    never n f = elim (cases_lt f n) [
      | inl inside ↦ get_or-replicate n f false false inside
      | inr past ↦ get_or_past (replicate n false) f false (omega (arith, past, length-replicate n false))
    ]

-- a frame whose words stay
still_holds : (room : Room) (memory other : List ℕ) (f : ℕ) → ((k : ℕ) → k < 1024 → word_at other (4096 * f + 4 * k) ≡ word_at memory (4096 * f + 4 * k))
    → HoldsFrame room memory f → HoldsFrame room other f
still_holds None memory other f same holds = tt
still_holds (Some page) memory other f same holds = λ k inside. holds k inside ∙ sym (same k inside)

-- a store, after which the page of its frame is not sure
pub stored : (memory : List ℕ) (rooms : Option (List Room)) (sure : List Bool) (a v : ℕ) (size : Size) → a < 8388608 → a % alignment size ≡ 0
    → IsKnown memory rooms sure → IsKnown (memory_store memory a size v) rooms (slice_set sure (a / 4096) false)
stored memory rooms sure a v size inside aligned known = record {
  size = length-memory_store memory a v size known.size inside;
  holds = λ g is. elim (cases_eq g (a / 4096)) [
    | inl same ↦ true_is_not_false _ is (ap (λ (n : ℕ). slice_index_or (slice_set sure (a / 4096) false) n false) same ∙ cleared sure (a / 4096) false)
    | inr other ↦ still_holds (room_of rooms g) memory (memory_store memory a size v) g
        (λ k few. word_at-memory_store_apart memory a (4096 * g + 4 * k) v size known.size inside aligned (apart g k few other))
        (known.holds g (sym (get_or-set_other sure (a / 4096) g false false other) ∙ is))
  ];
}
  where
    apart : (g k : ℕ) → k < 1024 → g ≢ a / 4096 → (4096 * g + 4 * k) / 4096 ≢ a / 4096
    apart g k few other = λ (e : ◌≡◌ {A = ℕ} ((4096 * g + 4 * k) / 4096) (a / 4096)). other (omega arith)
