-- A stream of bytes is heard one by one, and in chunks, as it is heard at once.
use Rattle.std.proofs.Common.{◌≡◌, ℕ, Bool, true, false, List, [], ◌∷◌, ◌++◌, Option, Result, append_assoc, append-nil, refl, sym, ap, subst, ◌∙◌}
use Rattle.ds_packets.specs.Scanning.{came, scanned}
use Rattle.ds_packets.specs.Scans.{Scan, Between}
use Rattle.ds_packets.specs.Streams.{all_came, as_list}
use Rattle.ds_packets.specs.Inner.Streams.{Piece, Splits, all_said}
use Rattle.ds_packets.proofs.Pieces.{came_pieces}
use Rattle.ds_packets.specs.declared.scan.PacketFault.{PacketFault}
use Rattle.ds_gdb.specs.Streams.{ExchangeState, Hears, HearsAll, HearsBy, HearsLive, HearsOne, StreamState, scan_through}

-- what comes of bytes, and then of more
pub came_both : (s : Scan) (xs ys : List ℕ) → all_came s (xs ++ ys) ≡ all_came s xs ++ all_came (scan_through s xs) ys
came_both s [] ys = refl
came_both s (x ∷ xs) ys =
    ap (λ (rest : List (Result (List ℕ) PacketFault)). as_list (came s x) ++ rest) (came_both (scanned s x) xs ys)
    ∙ sym (append_assoc (as_list (came s x)) (all_came (scanned s x) xs) (all_came (scan_through (scanned s x) xs) ys))

pub scan_both : (s : Scan) (xs ys : List ℕ) → scan_through s (xs ++ ys) ≡ scan_through (scan_through s xs) ys
scan_both s [] ys = refl
scan_both s (x ∷ xs) ys = scan_both (scanned s x) xs ys

module _ {S : Type 0} (A : List ℕ → S → S → List ℕ → Type 0) where
  -- nothing is written of nothing
  pub nothing_heard : (e : ExchangeState S) (text : List ℕ) → HearsAll A [] e e text text
  nothing_heard e text = record { same = refl; told = sym (append-nil text) }

  -- what is heard of some, and then of more
  pub heard_both : (xs ys : List (Result (List ℕ) PacketFault)) (a b c : ExchangeState S) (before text after : List ℕ) → HearsAll A xs a b before text → HearsAll A ys b c text after → HearsAll A (xs ++ ys) a c before after
  heard_both [] ys a b c before text after m h =
      let same : text ≡ before = m.told ∙ append-nil before in
      subst (λ (e : ExchangeState S). HearsAll A ys e c before after) m.same (subst (λ (t : List ℕ). HearsAll A ys b c t after) same h)
  heard_both (x ∷ xs) ys a b c before text after g h = (g.0, g.1, g.2, heard_both xs ys g.0 b c g.1 text after g.3 h)

  -- a session that has ended hears nothing
  pub ended_hears : (item : Result (List ℕ) PacketFault) (e : ExchangeState S) (text : List ℕ) → e.ended ≡ true → HearsOne A item e e text text
  ended_hears item e text ended = subst (λ (b : Bool). HearsBy A b item e e text text) (sym ended) (record { same = refl; told = sym (append-nil text) })

  -- one that has not hears what came
  pub live_hears : (item : Result (List ℕ) PacketFault) (old new : ExchangeState S) (before after : List ℕ) → old.ended ≡ false → HearsLive A item old new before after → HearsOne A item old new before after
  live_hears item old new before after live h = subst (λ (b : Bool). HearsBy A b item old new before after) (sym live) h

  -- one is all of itself
  pub one_heard : (item : Result (List ℕ) PacketFault) (old new : ExchangeState S) (before after : List ℕ) → HearsOne A item old new before after → HearsAll A (item ∷ []) old new before after
  one_heard item old new before after h = (new, after, h, nothing_heard new after)

  -- what is heard of a chunk, and then of the next
  pub chunks_join : (xs ys : List ℕ) (a b c : StreamState S) (before text after : List ℕ) → Hears A xs a b before text → Hears A ys b c text after → Hears A (xs ++ ys) a c before after
  chunks_join xs ys a b c before text after g h = record {
    scan = h.scan ∙ (ap (λ (s : Scan). scan_through s ys) g.scan ∙ sym (scan_both a.scan xs ys));
    heard =
        subst (λ (items : List (Result (List ℕ) PacketFault)). HearsAll A items a.exchange c.exchange before after) (sym (came_both a.scan xs ys))
        (heard_both (all_came a.scan xs) (all_came (scan_through a.scan xs) ys) a.exchange b.exchange c.exchange before text after g.heard
        (subst (λ (s : Scan). HearsAll A (all_came s ys) b.exchange c.exchange text after) g.scan h.heard));
  }

  -- a byte with which something comes, or nothing does
  pub byte_heard : (s : Scan) (b : ℕ) (o : Option (Result (List ℕ) PacketFault)) (old new : ExchangeState S) (before after : List ℕ) → o ≡ came s b → HearsAll A (as_list o) old new before after → HearsAll A (all_came s (b ∷ [])) old new before after
  byte_heard s b o old new before after is h =
      subst (λ (items : List (Result (List ℕ) PacketFault)). HearsAll A items old new before after) (sym (append-nil (as_list (came s b)))) (subst (λ (p : Option (Result (List ℕ) PacketFault)). HearsAll A (as_list p) old new before after) is h)

  -- one byte more of a stream
  pub one_more : (bytes : List ℕ) (b : ℕ) (o : Option (Result (List ℕ) PacketFault)) (old last new : StreamState S) (before text after : List ℕ) → Hears A bytes old last before text → o ≡ came last.scan b → new.scan ≡ scanned last.scan b
      → HearsAll A (as_list o) last.exchange new.exchange text after → Hears A (bytes ++ b ∷ []) old new before after
  one_more bytes b o old last new before text after g is scan h =
      chunks_join bytes (b ∷ []) old last new before text after g (record { scan = scan; heard = byte_heard last.scan b o last.exchange new.exchange text after is h })

  -- what is heard of a whole stream is what its pieces say
  pub pieces_heard : (stream : List ℕ) (pieces : List Piece) (rest : Scan) (old new : StreamState S) (before after : List ℕ) → old.scan ≡ Between → Splits stream pieces rest → Hears A stream old new before after
      → HearsAll A (all_said pieces) old.exchange new.exchange before after
  pieces_heard stream pieces rest old new before after begins splits h =
      let said : all_came old.scan stream ≡ all_said pieces =
      ap (λ (s : Scan). all_came s stream) begins ∙ (ap (all_came Between) splits.whole ∙ came_pieces pieces rest splits.each splits.cut) in
      subst (λ (items : List (Result (List ℕ) PacketFault)). HearsAll A items old.exchange new.exchange before after) said h.heard
