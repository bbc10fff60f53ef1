-- What comes of a stream is what its pieces say, and each stream is such pieces.
use Rattle.std.proofs.Common.{◌≡◌, ◌≢◌, sym, ◌∙◌, ap, refl, ℕ, ◌+◌, ◌<◌, ◌≤◌, true, false, nat_lt, List, [], ◌∷◌, ◌++◌, length, Err, arith, append_assoc, append-nil, length-append, inl, inr, subst}
use Rattle.std.proofs.lemmas.Bool.{ne_eqb}
use Rattle.std.proofs.lemmas.Bool.Decides.{eqb_tells, nat_tests}
use Rattle.std.specs.List.{AllByRecursion}
use Rattle.ds_packets.specs.declared.scan.PacketFault.TheVariants.{Long}
use Rattle.ds_packets.specs.Scans.{Scan, Between, Within, Ended, Half}
use Rattle.ds_packets.specs.Streams.{all_came}
use Rattle.ds_packets.specs.Inner.Streams.{Piece, Passed, Framed, TooLong, bytes_of, IsText, IsPiece, said, so_far, IsCut, stream_of, all_said, IsSplit}

room_left : (n : ℕ) → n < 4096 → nat_lt n 4096 ≡ true
room_left n h = grind (arith, nat_tests)

room_gone : (n : ℕ) → 4096 ≤ n → nat_lt n 4096 ≡ false
room_gone n h = grind (arith, nat_tests)

-- a text of a packet comes with nothing
pub came_text : (done text rest : List ℕ) → IsText text → length done + length text ≤ 4096
    → all_came (Within done) (text ++ rest) ≡ all_came (Within (done ++ text)) rest
came_text done [] rest plain room = ap (λ t. all_came (Within t) rest) (sym (append-nil done))
came_text done (b ∷ text) rest plain room =
    rw (ne_eqb b 35 plain.0, room_left (length done) (omega arith))
    (came_text (done ++ b ∷ []) text rest plain.1 (omega (arith, length-append done (b ∷ []))) ∙ ap (λ t. all_came (Within t) rest) (append_assoc done (b ∷ []) text))

-- a text of 4,097 bytes is too long
pub too_long : (done text rest : List ℕ) → IsText text → length done ≤ 4096 → length done + length text ≡ 4097 → all_came (Within done) (text ++ rest) ≡ Err Long ∷ all_came Between rest
too_long done [] rest plain room size = absurd (omega arith)
too_long done (b ∷ text) rest plain room size =
    elim (eqb_tells (length done) 4096) [
      | inl full ↦ last text (omega arith) (omega (arith, full.1))
      | inr short ↦
          let few : length done < 4096 = omega (arith, short.1) in
          rw (ne_eqb b 35 plain.0, room_left (length done) few)
          (too_long (done ++ b ∷ []) text rest plain.1 (omega (arith, length-append done (b ∷ []))) (omega (arith, length-append done (b ∷ []))))
    ]
  where
    last : (more : List ℕ) → length more ≡ 0 → 4096 ≤ length done → all_came (Within done) (b ∷ (more ++ rest)) ≡ Err Long ∷ all_came Between rest
    last [] none full = rw (ne_eqb b 35 plain.0, room_gone (length done) full) refl
    last (c ∷ more) none full = absurd (omega arith)

-- what comes of one piece is what it says, and after it the stream is between packets
pub came_piece : (piece : Piece) (rest : List ℕ) → IsPiece piece → all_came Between (bytes_of piece ++ rest) ≡ said piece ++ all_came Between rest
came_piece (Passed b) rest is = rw (ne_eqb b 36 is) refl
came_piece (Framed text high low) rest is =
    ap (all_came (Within [])) (append_assoc text (35 ∷ high ∷ low ∷ []) rest) ∙ came_text [] text (35 ∷ high ∷ low ∷ rest) is.1 (omega (arith, is.0))
came_piece (TooLong text) rest is = too_long [] text rest is.1 (omega arith) (omega (arith, is.0))

-- what comes of a packet that is not whole is nothing
pub came_cut : (rest : Scan) → IsCut rest → all_came Between (so_far rest) ≡ []
came_cut Between is = refl
came_cut (Within text) is = ap (all_came (Within [])) (sym (append-nil text)) ∙ came_text [] text [] is.1 (omega (arith, is.0))
came_cut (Ended text) is = came_text [] text (35 ∷ []) is.1 (omega (arith, is.0))
came_cut (Half text high) is = came_text [] text (35 ∷ high ∷ []) is.1 (omega (arith, is.0))

-- what comes of a stream is what its pieces say
pub came_pieces : (pieces : List Piece) (rest : Scan) → AllByRecursion IsPiece pieces → IsCut rest → all_came Between (stream_of pieces rest) ≡ all_said pieces
came_pieces [] rest each cut = came_cut rest cut
came_pieces (piece ∷ pieces) rest each cut = came_piece piece (stream_of pieces rest) each.0 ∙ ap (λ more. said piece ++ more) (came_pieces pieces rest each.1 cut)

-- with one piece before them
one_more : (piece : Piece) (stream : List ℕ) → IsPiece piece → IsSplit stream → IsSplit (bytes_of piece ++ stream)
one_more piece stream is split = record {
  pieces = piece ∷ split.pieces;
  rest = split.rest;
  splits = record { whole = ap (λ more. bytes_of piece ++ more) split.splits.whole; each = (is, split.splits.each); cut = split.splits.cut };
}

text_more : (text : List ℕ) (b : ℕ) → IsText text → b ≢ 35 → IsText (text ++ b ∷ [])
text_more [] b plain is = (is, tt)
text_more (c ∷ text) b plain is = (plain.0, text_more text b plain.1 is)

-- bytes of a packet, of which one comes from the stream
onward : (text front : List ℕ) (b : ℕ) (stream : List ℕ) → 36 ∷ ((text ++ (front ++ b ∷ [])) ++ stream) ≡ 36 ∷ ((text ++ front) ++ b ∷ stream)
onward text front b stream = ap (λ more. 36 ∷ more) (append_assoc text (front ++ b ∷ []) stream ∙ (ap (λ more. text ++ more) (append_assoc front (b ∷ []) stream) ∙ sym (append_assoc text front (b ∷ stream))))

onward_text : (text : List ℕ) (b : ℕ) (stream : List ℕ) → 36 ∷ ((text ++ b ∷ []) ++ stream) ≡ 36 ∷ (text ++ b ∷ stream)
onward_text text b stream = ap (λ more. 36 ∷ more) (append_assoc text (b ∷ []) stream)

size_more : (text : List ℕ) (b : ℕ) → length (text ++ b ∷ []) ≡ length text + 1
size_more text b = length-append text (b ∷ [])

-- each stream is pieces, and a packet that is not whole
pub split_from : (s : Scan) (stream : List ℕ) → IsCut s → IsSplit (so_far s ++ stream)
split_from s [] cut = record { pieces = []; rest = s; splits = record { whole = append-nil (so_far s); each = tt; cut = cut } }
split_from Between (b ∷ stream) cut =
    elim (eqb_tells b 36) [
      | inl dollar ↦ rw dollar.1 (split_from (Within []) stream (omega arith, tt))
      | inr other ↦ one_more (Passed b) stream other.1 (split_from Between stream tt)
    ]
split_from (Within text) (b ∷ stream) cut =
    elim (eqb_tells b 35) [
      | inl hash ↦ rw hash.1 (subst IsSplit (onward_text text 35 stream) (split_from (Ended text) stream cut))
      | inr other ↦ subst IsSplit (onward_text text b stream) (elim (eqb_tells (length text) 4096) [
        | inl full ↦ one_more (TooLong (text ++ b ∷ [])) stream (omega (arith, size_more text b, full.1), text_more text b cut.1 other.1) (split_from Between stream tt)
        | inr short ↦ split_from (Within (text ++ b ∷ [])) stream (omega (arith, size_more text b, short.1, cut.0), text_more text b cut.1 other.1)
      ])
    ]
split_from (Ended text) (b ∷ stream) cut = subst IsSplit (onward text (35 ∷ []) b stream) (split_from (Half text b) stream cut)
split_from (Half text high) (b ∷ stream) cut = subst IsSplit (onward text (35 ∷ high ∷ []) b stream) (one_more (Framed text high b) stream cut (split_from Between stream tt))
