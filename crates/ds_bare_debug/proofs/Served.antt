-- What is written is a function of the run and of the bytes that are read.
use Rattle.std.proofs.Common.{◌≡◌, inl, inr, ℕ, Bool, true, false, List, [], ◌∷◌, ◌++◌, append_assoc, append-nil, refl, sym, ap, subst, ◌∙◌}
use Rattle.std.specs.Prelude.{Option, Result, Ok, Err}
use Rattle.std.specs.Io.KnownBytes.{Appends}
use Rattle.std.proofs.KnownBytes.{Consumes-nil, Keeps-refl}
use Rattle.ds_text.specs.Sent.{AppendsPart}
use Rattle.ds_packets.specs.Packets.{packet_of}
use Rattle.ds_packets.specs.Scanning.{start}
use Rattle.ds_packets.specs.Streams.{all_came}
use Rattle.ds_packets.specs.declared.scan.PacketFault.{PacketFault}
use Rattle.ds_text.proofs.Sends.{appends_none}
use Rattle.ds_bare.specs.Faults.{is_cut, may_start}
use Rattle.ds_bare.specs.declared.fault.BareFault.{BareFault}
use Rattle.ds_bare.specs.declared.fault.BareFault.TheVariants.{BadRandom, WriteFault, Memory}
use Rattle.ds_gdb.specs.Serving.{EndsSo, Pipes, Serves, ServesPart, pipes, stream_of}
use Rattle.ds_gdb.specs.Streams.{AnswersWords, ExchangeState, Hears, HearsAll, HearsBy, HearsLive, StreamState, after_words, mark_text}
use Rattle.ds_gdb.specs.declared.serving.Ending.{Ending}
use Rattle.ds_gdb.specs.declared.serving.Ending.TheVariants.{Over, Unread}
use Rattle.ds_bare_debug.specs.Positions.{BareRun}
use Rattle.ds_bare_debug.specs.Serving.{BareDebugEndsBy, CutsBareDebug, DebugsBare, EndsSession, IsUntouched, after_item, after_items, after_live, exchange_at, item_text, items_text, live_text, session_acknowledges, session_text}
use Rattle.ds_bare_debug.specs.Sessions.{BareSession, session_begun, data_text}
use Rattle.ds_bare_debug.specs.Inner.Serving.{BareReplies}

-- the exchange after something, and the text that was written
record Said (new after_all : ExchangeState BareSession) (before after text : List ℕ) : Type 0 where
  now : new ≡ after_all
  told : after ≡ before ++ text

-- a packet of these words
words_said : (words : List ℕ) (old new : ExchangeState BareSession) (before after : List ℕ) → AnswersWords BareReplies words old new (before ++ mark_text old.acknowledges 43) after
    → Said new (after_live (Ok words) old) before after (live_text (Ok words) old)
words_said words old new before after a =
    let mark : List ℕ = mark_text old.acknowledges 43 in
    record {
      now = a.rest ∙ ap (λ (s : BareSession). after_words (packet_of words) (record old { session = s })) a.answers.so.now;
      told = a.answers.told ∙ (ap (λ (t : List ℕ). (before ++ mark) ++ t) a.answers.so.told ∙ append_assoc before mark (data_text words old.session));
    }

live_said : (item : Result (List ℕ) PacketFault) (old new : ExchangeState BareSession) (before after : List ℕ) → HearsLive BareReplies item old new before after → Said new (after_live item old) before after (live_text item old)
live_said (Ok words) old new before after h = words_said words old new before after h
live_said (Err fault) old new before after m = record { now = m.same; told = m.told }

one_said : (ended : Bool) (item : Result (List ℕ) PacketFault) (old new : ExchangeState BareSession) (before after : List ℕ) → HearsBy BareReplies ended item old new before after
    → Said new (after_item ended item old) before after (item_text ended item old)
one_said true item old new before after m = record { now = m.same; told = m.told }
one_said false item old new before after h = live_said item old new before after h

items_none : (e : ExchangeState BareSession) (before : List ℕ) → Said e (after_items [] e) before before (items_text [] e)
unfolding after_items items_text
items_none e before = record { now = refl; told = sym (append-nil before) }

after_first : (item : Result (List ℕ) PacketFault) (items : List (Result (List ℕ) PacketFault)) (e : ExchangeState BareSession) → after_items items (after_item e.ended item e) ≡ after_items (item ∷ items) e
unfolding after_items
after_first item items e = refl

text_first : (item : Result (List ℕ) PacketFault) (items : List (Result (List ℕ) PacketFault)) (e : ExchangeState BareSession) → item_text e.ended item e ++ items_text items (after_item e.ended item e) ≡ items_text (item ∷ items) e
unfolding items_text
text_first item items e = refl

-- all that came
all_said : (items : List (Result (List ℕ) PacketFault)) (old new : ExchangeState BareSession) (before after : List ℕ) → HearsAll BareReplies items old new before after → Said new (after_items items old) before after (items_text items old)
all_said [] old new before after m =
    let none : Said old (after_items [] old) before before (items_text [] old) = items_none old before in
    record { now = m.same ∙ none.now; told = m.told ∙ (append-nil before ∙ none.told) }
all_said (item ∷ items) old new before after h =
    let first : Said h.0 (after_item old.ended item old) before h.1 (item_text old.ended item old) = one_said old.ended item old h.0 before h.1 h.2 in
    let rest : Said new (after_items items h.0) h.1 after (items_text items h.0) = all_said items h.0 new h.1 after h.3 in
    record {
      now = rest.now ∙ (ap (after_items items) first.now ∙ after_first item items old);
      told =
          rest.told ∙ (ap (λ (x : List ℕ). x ++ items_text items h.0) first.told
          ∙ (append_assoc before (item_text old.ended item old) (items_text items h.0)
          ∙ (ap (λ (e : ExchangeState BareSession). before ++ (item_text old.ended item old ++ items_text items e)) first.now
          ∙ ap (λ (x : List ℕ). before ++ x) (text_first item items old))));
    }

module _ (r : BareRun) (s : BareSession) (stream : StreamState BareSession) (p : Pipes) (starts : may_start r.random ≡ true) (begins : s ≡ session_begun r) (is : stream ≡ stream_of s) where
  at_start : stream ≡ stream_of (session_begun r)
  at_start = is ∙ ap (λ (x : BareSession). stream_of x) begins

  -- what a session hears of bytes
  heard_said : (bytes : List ℕ) (last : StreamState BareSession) (text : List ℕ) → Hears BareReplies bytes stream last [] text → Said last.exchange (after_items (all_came start bytes) (exchange_at r)) [] text (session_text r bytes)
  heard_said bytes last text h =
      let here : Hears BareReplies bytes (stream_of (session_begun r)) last [] text = subst (λ (x : StreamState BareSession). Hears BareReplies bytes x last [] text) at_start h in
      all_said (all_came start bytes) (exchange_at r) last.exchange [] text here.heard

  ends_so : (ending : Ending) (last : StreamState BareSession) (bytes : List ℕ) → last.exchange ≡ after_items (all_came start bytes) (exchange_at r) → EndsSo ending last p → EndsSession ending r bytes p
  ends_so Over last bytes same (inl ended) = inl (ap (λ (e : ExchangeState BareSession). e.ended) (sym same) ∙ ended)
  ends_so Over last bytes same (inr nothing) = inr nothing
  ends_so Unread last bytes same ends = tt

  -- it was held to its end
  pub bare_held : (ending : Ending) (last : StreamState BareSession) → Serves BareReplies stream last p → EndsSo ending last p → DebugsBare ending r p
  bare_held ending last serves ends =
      let said : Said last.exchange (after_items (all_came start serves.bytes) (exchange_at r)) [] serves.heard.text (session_text r serves.bytes) = heard_said serves.bytes last serves.heard.text serves.heard.so in
      record {
        starts = starts;
        bytes = serves.bytes;
        read = serves.read;
        written = subst (Appends p.old p.new) said.told serves.heard.written;
        ends = ends_so ending last serves.bytes said.now ends;
      }

  -- or it was cut short
  pub bare_cut : ServesPart BareReplies stream p → CutsBareDebug r p
  bare_cut serves =
      let part = serves.part in
      let said : Said part.last.exchange (after_items (all_came start part.some) (exchange_at r)) [] part.text (session_text r part.some) = heard_said part.some part.last part.text part.hears in
      record {
        starts = starts;
        bytes = serves.bytes;
        read = serves.read;
        some = part.some;
        rest = part.rest;
        whole = part.whole;
        written =
            subst (λ (e : ExchangeState BareSession). AppendsPart p.old p.new (session_text r part.some ++ mark_text e.acknowledges 43)) said.now
            (subst (λ (t : List ℕ). AppendsPart p.old p.new (t ++ mark_text part.last.exchange.acknowledges 43)) said.told part.written);
      }

-- nothing was read or written
kept_both : (x y : Option (List ℕ)) → IsUntouched (pipes x x y y)
kept_both x y = (Keeps-refl x, Keeps-refl y)

-- a run that was refused, or whose memory ran out before it
pub bare_refused : (r : BareRun) (f : BareFault) (x y : Option (List ℕ)) → is_cut f ≡ may_start r.random → BareDebugEndsBy f r (pipes x x y y)
bare_refused r BadRandom x y is = (sym is, kept_both x y)
bare_refused r WriteFault x y is = record {
  starts = sym is;
  bytes = [];
  read = Consumes-nil x;
  some = [];
  rest = [];
  whole = refl;
  written = record { part = []; rest = session_text r [] ++ mark_text (session_acknowledges r []) 43; whole = refl; appends = appends_none y };
}
bare_refused r Memory x y is = inl (kept_both x y)
