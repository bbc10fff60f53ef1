-- Look-ups in a TOML document.
use Rattle.std.specs.Prelude.{ℕ, pos, Bool, true, ◌&&◌, ◌+◌, nat_le, bytes_eq, List, Option, Some, None, option_and_then, if◌then◌else◌}
use Rattle.std.specs.Str.{is_utf8}
use Rattle.std.specs.List.{list_any}
use Rattle.ds_word.specs.OptionBinding.{◌>>=◌}
use Rattle.toml.specs.Data.{Data, integer, Items, no_items, item, Members, no_members, member, get_member, as_array, as_str}
use Rattle.toml.specs.Parse.{parse_document}

-- the root table of a text in UTF-8
abbrev pub document : List ℕ → Option Members
document text = if is_utf8 text then parse_document text else None

-- the text is one of these
abbrev pub is_among : List (List ℕ) → List ℕ → Bool
is_among texts text = list_any (λ x. bytes_eq x text) texts

-- no key but these
abbrev pub has_only : List (List ℕ) → Members → Bool
has_only keys no_members = true
has_only keys (member k d ms) = is_among keys k && has_only keys ms

-- an integer from low to high
abbrev pub number_in : ℕ → ℕ → Data → Option ℕ
number_in low high (integer (pos n)) = if nat_le low n && nat_le n high then Some n else None
number_in low high _ = None

-- the integer at a key
abbrev pub number_at : List ℕ → ℕ → ℕ → Members → Option ℕ
number_at key low high ms = option_and_then (number_in low high) (get_member key ms)

-- the text at a key
abbrev pub text_at : List ℕ → Members → Option (List ℕ)
text_at key ms = option_and_then as_str (get_member key ms)

-- how many items there are
abbrev pub item_count : Items → ℕ
item_count no_items = 0
item_count (item d ds) = item_count ds + 1

-- an array of at least low and at most high items
abbrev pub items_between : ℕ → ℕ → Data → Option Items
items_between low high d = do
  ds ← as_array d
  if nat_le low (item_count ds) && nat_le (item_count ds) high then Some ds else None

-- no items where there is no array, else at most high
abbrev pub items_if : ℕ → Option Data → Option Items
items_if high None = Some no_items
items_if high (Some d) = items_between 0 high d
