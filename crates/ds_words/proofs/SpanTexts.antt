-- Texts that write spans of memory of the bare machine.
use Rattle.std.proofs.Common.{◌≡◌, List, [], ◌∷◌, zero, suc, sym, subst, arith, map, Bor}
use Rattle.std.specs.List.{All, AllZip}
use Rattle.std.specs.Prelude.{IfSome, None, Option, Some}
use Rattle.clap.specs.Words.{Text, all_of, rows_of}
use Rattle.clap.specs.declared.parser.matches.Found.{Found}
use Rattle.ds_words.specs.declared.spans.Span.{Span}
use Rattle.ds_words.specs.declared.spans.Spans.{Spans}
use Rattle.ds_words.specs.Spans.{IsSpan, spans_in, WriteSpans, WritesSpan}
use Rattle.ds_words.specs.Words.{NamesSpans}

-- each span that is written may be
pub spans_good : (texts : List Text) (spans : List Span) → AllZip WritesSpan texts spans → All IsSpan spans
spans_good [] [] each k d below = absurd (omega (arith, below))
spans_good [] (s ∷ rest) each k d below = absurd each
spans_good (t ∷ texts) [] each k d below = absurd each
spans_good (t ∷ texts) (s ∷ rest) each zero d below = each.0.good
spans_good (t ∷ texts) (s ∷ rest) each (suc k) d below = spans_good texts rest each.1 k d (omega (arith, below))

-- what is read of the texts is what they name
pub spans_read : (f : Found) (id : Text) (texts : List (Bor Text)) (q : Option Spans) → all_of id (rows_of f) ≡ Some (map (λ t. t.now) texts)
    → IfSome q (λ s. WriteSpans (map (λ t. t.now) texts) (spans_in s)) → IfSome q (λ s. NamesSpans (all_of id (rows_of f)) (spans_in s))
spans_read f id texts None given write = tt
spans_read f id texts (Some s) given write = subst (λ (o : Option (List Text)). NamesSpans o (spans_in s)) (sym given) write

-- where they can't be read, they name none
pub spans_unread : (f : Found) (id : Text) (texts : List (Bor Text)) (spans : List Span) → all_of id (rows_of f) ≡ Some (map (λ t. t.now) texts)
    → (WriteSpans (map (λ t. t.now) texts) spans → ⊥) → NamesSpans (all_of id (rows_of f)) spans → ⊥
spans_unread f id texts spans given none names = none (subst (λ (o : Option (List Text)). NamesSpans o spans) given names)

-- where there are no texts, no span is named
pub spans_absent : (f : Found) (id : Text) (spans : List Span) → all_of id (rows_of f) ≡ None → spans ≡ [] → NamesSpans (all_of id (rows_of f)) spans
spans_absent f id spans given is = subst (λ (o : Option (List Text)). NamesSpans o spans) (sym given) is
