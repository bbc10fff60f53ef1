use Rattle.std.proofs.Common.{◌≡◌, ◌⊎◌, ℕ, false, List, [], sym, ap, subst, ◌∙◌}
use Rattle.std.specs.Prelude.{Option, Result}
use Rattle.std.specs.Io.KnownBytes.{Appends}
use Rattle.ds_text.specs.Sent.{AppendsPart}
use Rattle.ds_text.proofs.Sends.{err_gives, ok_gives}
use Rattle.ds_packets.specs.declared.scan.PacketFault.{PacketFault}
use Rattle.ds_gdb.specs.Serving.{WritesSo}
use Rattle.ds_gdb.specs.Inner.Serving.{IsCutAt, WritesFront}
use Rattle.ds_gdb.specs.Streams.{ExchangeState, HearsLive, HearsWords, mark_text}
use Rattle.ds_gdb.proofs.Served.{ended_written, live_cut, live_written, refused_cut, refused_written}
use Rattle.ds_gdb.proofs.stream.Exchange.serve_item.Goals as goal

-- what is written in part, of one that has not ended
abbrev CutLive : {S : Type 0} → (List ℕ → S → S → List ℕ → Type 0) → Result (List ℕ) PacketFault → ExchangeState S → Option (List ℕ) → Option (List ℕ) → Type 0
CutLive {S} A item old w0 w1 = AppendsPart w0 w1 (mark_text old.acknowledges 43) ⊎ ((new : ExchangeState S) × WritesFront (HearsLive A item old new []) w0 w1)

pub returns-then-self-clause-ok : goal.returns-then-self-clause-ok
returns-then-self-clause-ok g c =
    ended_written g.T.Target.answers c.args.item c.args.self.now (g.W.Write.contents c.args.out.now) (sym (ap (λ (e : ExchangeState g.row.T.Denot). e.ended) c.self.view_is) ∙ c.if-self.true)

pub returns-in-Ok-clause-ok : goal.returns-in-Ok-clause-ok
returns-in-Ok-clause-ok g c =
    let old : ExchangeState g.row.T.Denot = c.args.self.now in
    let new : ExchangeState g.row.T.Denot = c.serve_words.new.self in
    let w0 : Option (List ℕ) = g.W.Write.contents c.args.out.now in
    let w1 : Option (List ℕ) = g.W.Write.contents c.serve_words.new.out in
    let live : old.ended ≡ false = sym (ap (λ (e : ExchangeState g.row.T.Denot). e.ended) c.self.view_is) ∙ c.if-self.false in
    ok_gives c.serve_words.result
    (λ w. live_written g.T.Target.answers c.args.item old new w0 w1 live
    (subst (λ (r : Result (List ℕ) PacketFault). WritesSo (HearsLive g.T.Target.answers r old new []) w0 w1) (sym c.in-Ok.is)
    (subst (λ (words : List ℕ). WritesSo (HearsWords g.T.Target.answers words old new []) w0 w1) c.as_slice.ensures.held w))) c.serve_words.ensures.ok

pub returns-in-Ok-clause-err : goal.returns-in-Ok-clause-err
returns-in-Ok-clause-err g c =
    let old : ExchangeState g.row.T.Denot = c.args.self.now in
    let w0 : Option (List ℕ) = g.W.Write.contents c.args.out.now in
    let w1 : Option (List ℕ) = g.W.Write.contents c.serve_words.new.out in
    let live : old.ended ≡ false = sym (ap (λ (e : ExchangeState g.row.T.Denot). e.ended) c.self.view_is) ∙ c.if-self.false in
    err_gives c.serve_words.result
    (λ w. live_cut g.T.Target.answers c.args.item old w0 w1 live
    (subst (λ (r : Result (List ℕ) PacketFault). CutLive g.T.Target.answers r old w0 w1) (sym c.in-Ok.is)
    (subst (λ (words : List ℕ). IsCutAt g.T.Target.answers words old w0 w1) c.as_slice.ensures.held w))) c.serve_words.ensures.err

pub returns-in-Err-clause-ok : goal.returns-in-Err-clause-ok
returns-in-Err-clause-ok g c =
    let old : ExchangeState g.row.T.Denot = c.args.self.now in
    let w0 : Option (List ℕ) = g.W.Write.contents c.args.out.now in
    let w1 : Option (List ℕ) = g.W.Write.contents c.send_mark.new.out in
    let live : old.ended ≡ false = sym (ap (λ (e : ExchangeState g.row.T.Denot). e.ended) c.self.view_is) ∙ c.if-self.false in
    ok_gives c.send_mark.result
    (λ w. live_written g.T.Target.answers c.args.item old old w0 w1 live
    (subst (λ (r : Result (List ℕ) PacketFault). WritesSo (HearsLive g.T.Target.answers r old old []) w0 w1) (sym c.in-Err.is)
    (refused_written g.T.Target.answers c.in-Err.field-0 old w0 w1 (subst (λ (e : ExchangeState g.row.T.Denot). Appends w0 w1 (mark_text e.acknowledges 45)) c.self.view_is w)))) c.send_mark.ensures.ok

pub returns-in-Err-clause-err : goal.returns-in-Err-clause-err
returns-in-Err-clause-err g c =
    let old : ExchangeState g.row.T.Denot = c.args.self.now in
    let w0 : Option (List ℕ) = g.W.Write.contents c.args.out.now in
    let w1 : Option (List ℕ) = g.W.Write.contents c.send_mark.new.out in
    let live : old.ended ≡ false = sym (ap (λ (e : ExchangeState g.row.T.Denot). e.ended) c.self.view_is) ∙ c.if-self.false in
    err_gives c.send_mark.result
    (λ w. live_cut g.T.Target.answers c.args.item old w0 w1 live
    (subst (λ (r : Result (List ℕ) PacketFault). CutLive g.T.Target.answers r old w0 w1) (sym c.in-Err.is)
    (refused_cut g.T.Target.answers c.in-Err.field-0 old w0 w1 (subst (λ (e : ExchangeState g.row.T.Denot). AppendsPart w0 w1 (mark_text e.acknowledges 45)) c.self.view_is w)))) c.send_mark.ensures.err
