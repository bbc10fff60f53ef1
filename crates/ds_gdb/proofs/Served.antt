-- What is written while bytes are read is what is heard of them, one after another.
use Rattle.std.proofs.Common.{◌≡◌, ◌⊎◌, inl, inr, ℕ, Bool, true, false, List, [], ◌∷◌, ◌++◌, append_assoc, append-nil, refl, sym, ap, subst, ◌∙◌}
use Rattle.std.specs.Prelude.{Option, Result, Ok, Err}
use Rattle.std.specs.Io.KnownBytes.{Appends, Consumes, Keeps}
use Rattle.std.proofs.KnownBytes.{Consumes-nil, Consumes-trans, Consumes-kept}
use Rattle.ds_text.specs.Sent.{AppendsPart}
use Rattle.ds_text.proofs.Sends.{appends_both, appends_none, part_before, part_after}
use Rattle.ds_packets.specs.Scanning.{came, scanned}
use Rattle.ds_packets.specs.Streams.{all_came, as_list}
use Rattle.ds_packets.specs.declared.scan.PacketFault.{PacketFault}
use Rattle.ds_gdb.specs.Serving.{ServedPart, Serves, ServesPart, WritesSo, pipes}
use Rattle.ds_gdb.specs.Inner.Serving.{IsCutAt, IsCutIn, WritesFront}
use Rattle.ds_gdb.specs.Streams.{AnswersWords, ExchangeState, Hears, HearsAll, HearsBy, HearsLive, HearsWords, StreamState, mark_text}
use Rattle.ds_gdb.proofs.Hearing.{byte_heard, chunks_join, ended_hears, live_hears, nothing_heard, one_heard}

-- What is answered does not depend on what was written before.

told_after : (p before text after : List ℕ) → after ≡ before ++ text → p ++ after ≡ (p ++ before) ++ text
told_after p before text after is = ap (λ (x : List ℕ). p ++ x) is ∙ sym (append_assoc p before text)

module _ {S : Type 0} (A : List ℕ → S → S → List ℕ → Type 0) where
  module _ (p : List ℕ) where
    pub words_after : (words : List ℕ) (old new : ExchangeState S) (before after : List ℕ) → AnswersWords A words old new before after → AnswersWords A words old new (p ++ before) (p ++ after)
    words_after words old new before after a = record { answers = record { text = a.answers.text; so = a.answers.so; told = told_after p before _ after a.answers.told }; rest = a.rest }

    live_past : (item : Result (List ℕ) PacketFault) (old new : ExchangeState S) (before after : List ℕ) → HearsLive A item old new before after → HearsLive A item old new (p ++ before) (p ++ after)
    live_past (Ok words) old new before after h =
        let mark : List ℕ = mark_text old.acknowledges 43 in
        subst (λ (x : List ℕ). AnswersWords A words old new x (p ++ after)) (sym (append_assoc p before mark)) (words_after words old new (before ++ mark) after h)
    live_past (Err fault) old new before after m = record { same = m.same; told = told_after p before _ after m.told }

    heard_after : (ended : Bool) (item : Result (List ℕ) PacketFault) (old new : ExchangeState S) (before after : List ℕ) → HearsBy A ended item old new before after → HearsBy A ended item old new (p ++ before) (p ++ after)
    heard_after true item old new before after m = record { same = m.same; told = told_after p before _ after m.told }
    heard_after false item old new before after h = live_past item old new before after h

    all_past : (items : List (Result (List ℕ) PacketFault)) (old new : ExchangeState S) (before after : List ℕ) → HearsAll A items old new before after → HearsAll A items old new (p ++ before) (p ++ after)
    all_past [] old new before after m = record { same = m.same; told = told_after p before _ after m.told }
    all_past (item ∷ items) old new before after g =
        (g.0, p ++ g.1, heard_after old.ended item old g.0 before g.1 g.2, all_past items g.0 new g.1 after g.3)

    -- so of a stream, after nothing
    pub hears_past : (bytes : List ℕ) (old new : StreamState S) (text : List ℕ) → Hears A bytes old new [] text → Hears A bytes old new p (p ++ text)
    hears_past bytes old new text h =
        let items : List (Result (List ℕ) PacketFault) = all_came old.scan bytes in
        record {
          scan = h.scan;
          heard = subst (λ (x : List ℕ). HearsAll A items old.exchange new.exchange x (p ++ text)) (append-nil p) (all_past items old.exchange new.exchange [] text h.heard);
        }

  -- bytes, and then more
  hears_both : (xs ys : List ℕ) (a b c : StreamState S) (s t : List ℕ) → Hears A xs a b [] s → Hears A ys b c [] t → Hears A (xs ++ ys) a c [] (s ++ t)
  hears_both xs ys a b c s t g h = chunks_join A xs ys a b c [] s (s ++ t) g (hears_past s ys b c t h)

  -- one byte, with which something comes or nothing
  hears_one : (b : ℕ) (o : Option (Result (List ℕ) PacketFault)) (old new : StreamState S) (text : List ℕ) → o ≡ came old.scan b → new.scan ≡ scanned old.scan b
      → HearsAll A (as_list o) old.exchange new.exchange [] text → Hears A (b ∷ []) old new [] text
  hears_one b o old new text is scan h = record { scan = scan; heard = byte_heard A old.scan b o old.exchange new.exchange [] text is h }

  -- What is written.

  -- a packet is acknowledged and answered
  pub words_written : (words : List ℕ) (old new : ExchangeState S) (w0 w1 w2 : Option (List ℕ)) (text : List ℕ) → Appends w0 w1 (mark_text old.acknowledges 43) → AnswersWords A words old new [] text → Appends w1 w2 text
      → WritesSo (HearsWords A words old new []) w0 w2
  words_written words old new w0 w1 w2 text marked answers written =
      let mark : List ℕ = mark_text old.acknowledges 43 in
      record {
        text = mark ++ text;
        so = subst (λ (x : List ℕ). AnswersWords A words old new x (mark ++ text)) (append-nil mark) (words_after mark words old new [] text answers);
        written = appends_both w0 w1 w2 mark text marked written;
      }

  -- it is acknowledged, and then memory or the run gives out
  pub words_unanswered : (words : List ℕ) (old : ExchangeState S) (w0 w1 : Option (List ℕ)) → Appends w0 w1 (mark_text old.acknowledges 43) → IsCutAt A words old w0 w1
  words_unanswered words old w0 w1 marked = inl (record { part = mark_text old.acknowledges 43; rest = []; whole = append-nil _; appends = marked })

  -- it is acknowledged and answered, and the answer goes out in part
  pub words_cut : (words : List ℕ) (old new : ExchangeState S) (w0 w1 w2 : Option (List ℕ)) (text : List ℕ) → Appends w0 w1 (mark_text old.acknowledges 43) → AnswersWords A words old new [] text → AppendsPart w1 w2 text → IsCutAt A words old w0 w2
  words_cut words old new w0 w1 w2 text marked answers written =
      let mark : List ℕ = mark_text old.acknowledges 43 in
      inr (
        new,
        record {
          text = mark ++ text;
          so = subst (λ (x : List ℕ). AnswersWords A words old new x (mark ++ text)) (append-nil mark) (words_after mark words old new [] text answers);
          written = part_after w0 w1 w2 mark text marked written;
        },
      )

  module _ (item : Result (List ℕ) PacketFault) (old : ExchangeState S) where
    -- a session that has ended hears nothing
    pub ended_written : (w : Option (List ℕ)) → old.ended ≡ true → WritesSo (HearsAll A (item ∷ []) old old []) w w
    ended_written w ended = record { text = []; so = one_heard A item old old [] [] (ended_hears A item old [] ended); written = appends_none w }

    -- one that has not hears what came
    pub live_written : (new : ExchangeState S) (w0 w1 : Option (List ℕ)) → old.ended ≡ false → WritesSo (HearsLive A item old new []) w0 w1 → WritesSo (HearsAll A (item ∷ []) old new []) w0 w1
    live_written new w0 w1 live w = record { text = w.text; so = one_heard A item old new [] w.text (live_hears A item old new [] w.text live w.so); written = w.written }

    -- and what is written then in part
    pub live_cut : (w0 w1 : Option (List ℕ)) → old.ended ≡ false → AppendsPart w0 w1 (mark_text old.acknowledges 43) ⊎ ((new : ExchangeState S) × WritesFront (HearsLive A item old new []) w0 w1) → IsCutIn A (item ∷ []) old w0 w1
    live_cut w0 w1 live (inl m) = inl m
    live_cut w0 w1 live (inr f) = inr (f.0, record { text = f.1.text; so = one_heard A item old f.0 [] f.1.text (live_hears A item old f.0 [] f.1.text live f.1.so); written = f.1.written })

  -- what is refused
  pub refused_written : (fault : PacketFault) (old : ExchangeState S) (w0 w1 : Option (List ℕ)) → Appends w0 w1 (mark_text old.acknowledges 45) → WritesSo (HearsLive A (Err fault) old old []) w0 w1
  refused_written fault old w0 w1 written = record { text = mark_text old.acknowledges 45; so = record { same = refl; told = refl }; written = written }

  pub refused_cut : (fault : PacketFault) (old : ExchangeState S) (w0 w1 : Option (List ℕ)) → AppendsPart w0 w1 (mark_text old.acknowledges 45)
      → AppendsPart w0 w1 (mark_text old.acknowledges 43) ⊎ ((new : ExchangeState S) × WritesFront (HearsLive A (Err fault) old new []) w0 w1)
  refused_cut fault old w0 w1 written = inr (old, record { text = mark_text old.acknowledges 45; so = record { same = refl; told = refl }; written = written })

  -- nothing came
  pub none_written : (e : ExchangeState S) (w : Option (List ℕ)) → WritesSo (HearsAll A [] e e []) w w
  none_written e w = record { text = []; so = nothing_heard A e []; written = appends_none w }

  -- of no bytes nothing is written
  pub stream_begins : (s : StreamState S) (w : Option (List ℕ)) → WritesSo (Hears A [] s s []) w w
  stream_begins s w = record { text = []; so = record { scan = refl; heard = nothing_heard A s.exchange [] }; written = appends_none w }

  module _ (bytes : List ℕ) (b : ℕ) (o : Option (Result (List ℕ) PacketFault)) (old last : StreamState S) (w0 w1 w2 : Option (List ℕ)) where
    -- one byte more
    pub stream_goes_on : (new : StreamState S) → WritesSo (Hears A bytes old last []) w0 w1 → o ≡ came last.scan b → new.scan ≡ scanned last.scan b
        → WritesSo (HearsAll A (as_list o) last.exchange new.exchange []) w1 w2 → WritesSo (Hears A (bytes ++ b ∷ []) old new []) w0 w2
    stream_goes_on new g is scan h = record {
      text = g.text ++ h.text;
      so = hears_both bytes (b ∷ []) old last new g.text h.text g.so (hears_one b o last new h.text is scan h.so);
      written = appends_both w0 w1 w2 g.text h.text g.written h.written;
    }

    -- or it is not answered whole
    pub stream_is_cut : (rest all : List ℕ) → bytes ++ b ∷ rest ≡ all → WritesSo (Hears A bytes old last []) w0 w1 → o ≡ came last.scan b → IsCutIn A (as_list o) last.exchange w1 w2 → ServedPart A all old w0 w2
    stream_is_cut rest all whole g is (inl m) = record {
      some = bytes;
      rest = b ∷ rest;
      whole = whole;
      last = last;
      text = g.text;
      hears = g.so;
      written = part_after w0 w1 w2 g.text (mark_text last.exchange.acknowledges 43) g.written m;
    }
    stream_is_cut rest all whole g is (inr f) =
        let new : StreamState S = record { scan = scanned last.scan b; exchange = f.0 } in
        record {
          some = bytes ++ b ∷ [];
          rest = rest;
          whole = append_assoc bytes (b ∷ []) rest ∙ whole;
          last = new;
          text = g.text ++ f.1.text;
          hears = hears_both bytes (b ∷ []) old last new g.text f.1.text g.so (hears_one b o last new f.1.text is refl f.1.so);
          written = part_before w0 w2 (g.text ++ f.1.text) (mark_text f.0.acknowledges 43) (part_after w0 w1 w2 g.text f.1.text g.written f.1.written);
        }

  -- What is read.

  -- nothing yet
  pub serving_begins : (s : StreamState S) (r w : Option (List ℕ)) → Serves A s s (pipes r r w w)
  serving_begins s r w = record { bytes = []; read = Consumes-nil r; heard = stream_begins s w }

  module _ (a b : StreamState S) (r0 r1 r2 w0 w1 w2 : Option (List ℕ)) where
    -- some more, and what is answered to it
    pub serving_goes_on : (c : StreamState S) → Serves A a b (pipes r0 r1 w0 w1) → Serves A b c (pipes r1 r2 w1 w2) → Serves A a c (pipes r0 r2 w0 w2)
    serving_goes_on c g h = record {
      bytes = g.bytes ++ h.bytes;
      read = Consumes-trans r0 r1 r2 g.bytes h.bytes g.read h.read;
      heard = record {
        text = g.heard.text ++ h.heard.text;
        so = hears_both g.bytes h.bytes a b c g.heard.text h.heard.text g.heard.so h.heard.so;
        written = appends_both w0 w1 w2 g.heard.text h.heard.text g.heard.written h.heard.written;
      };
    }

    -- or it is not answered whole
    pub serving_is_cut : Serves A a b (pipes r0 r1 w0 w1) → ServesPart A b (pipes r1 r2 w1 w2) → ServesPart A a (pipes r0 r2 w0 w2)
    serving_is_cut g h = record {
      bytes = g.bytes ++ h.bytes;
      read = Consumes-trans r0 r1 r2 g.bytes h.bytes g.read h.read;
      part = record {
        some = g.bytes ++ h.part.some;
        rest = h.part.rest;
        whole = append_assoc g.bytes h.part.some h.part.rest ∙ ap (λ (x : List ℕ). g.bytes ++ x) h.part.whole;
        last = h.part.last;
        text = g.heard.text ++ h.part.text;
        hears = hears_both g.bytes h.part.some a b h.part.last g.heard.text h.part.text g.heard.so h.part.hears;
        written =
            let mark : List ℕ = mark_text h.part.last.exchange.acknowledges 43 in
            subst (AppendsPart w0 w2) (sym (append_assoc g.heard.text h.part.text mark)) (part_after w0 w1 w2 g.heard.text (h.part.text ++ mark) g.heard.written h.part.written);
      };
    }

  -- bytes that were read are answered
  pub some_served : (bytes : List ℕ) (a b : StreamState S) (r0 r1 w0 w1 : Option (List ℕ)) → Consumes r0 r1 bytes → WritesSo (Hears A bytes a b []) w0 w1 → Serves A a b (pipes r0 r1 w0 w1)
  some_served bytes a b r0 r1 w0 w1 read heard = record { bytes = bytes; read = read; heard = heard }

  pub some_cut : (bytes : List ℕ) (a : StreamState S) (r0 r1 w0 w1 : Option (List ℕ)) → Consumes r0 r1 bytes → ServedPart A bytes a w0 w1 → ServesPart A a (pipes r0 r1 w0 w1)
  some_cut bytes a r0 r1 w0 w1 read part = record { bytes = bytes; read = read; part = part }

  -- a read that failed
  pub none_served : (s : StreamState S) (r0 r1 w : Option (List ℕ)) → Keeps r0 r1 → Serves A s s (pipes r0 r1 w w)
  none_served s r0 r1 w kept = record { bytes = []; read = Consumes-kept r0 r0 r1 [] (Consumes-nil r0) kept; heard = stream_begins s w }
