-- Documents in UTF-8, and how many items an array has.
use Rattle.std.proofs.Common.{◌≡◌, ℕ, List, [], ◌∷◌, length, Some, None, refl, IsUtf8, inl, inr, arith}
use Rattle.std.proofs.lemmas.Bool.{cases_Bool}
use Rattle.std.specs.Str.{is_utf8}
use Rattle.std.proofs.lemmas.Str.{IsUtf8-from_is_utf8, is_utf8-from_IsUtf8}
use Rattle.toml.specs.Data.{Members}
use Rattle.toml.specs.Parse.{parse_document}
use Rattle.toml.specs.declared.value.Value.{Value}
use Rattle.toml.specs.View.{items_view}
use Rattle.ds_policy.specs.Document.{document, item_count}

pub document_some : (text : List ℕ) (ms : Members) → IsUtf8 text → parse_document text ≡ Some ms → document text ≡ Some ms
document_some text ms u p = rw (is_utf8-from_IsUtf8 text u, p)

pub document_none : (text : List ℕ) → (IsUtf8 text → parse_document text ≡ None) → document text ≡ None
document_none text h =
    elim (cases_Bool (is_utf8 text)) [
      | inl held ↦ rw (held, h (IsUtf8-from_is_utf8 text held))
      | inr failed ↦ rw failed
    ]

pub item_count_view : (vs : List Value) → item_count (items_view vs) ≡ length vs
item_count_view [] = refl
item_count_view (v ∷ vs) = omega (arith, item_count_view vs)
