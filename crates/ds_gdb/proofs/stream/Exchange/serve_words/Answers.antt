use Rattle.std.proofs.Common.{inl, ℕ, List, subst}
use Rattle.std.specs.Prelude.{Option}
use Rattle.std.specs.Io.KnownBytes.{Appends}
use Rattle.ds_text.specs.Sent.{AppendsPart}
use Rattle.ds_text.proofs.Sends.{err_gives, ok_gives}
use Rattle.ds_gdb.specs.Streams.{AnswersWords, ExchangeState, mark_text}
use Rattle.ds_gdb.proofs.Served.{words_cut, words_unanswered, words_written}
use Rattle.ds_gdb.proofs.stream.Exchange.serve_words.Goals as goal

pub returns-in-Err-clause-err : goal.returns-in-Err-clause-err
returns-in-Err-clause-err g c =
    inl (subst (λ (e : ExchangeState g.row.T.Denot). AppendsPart (g.W.Write.contents c.args.out.now) (g.W.Write.contents c.send_mark.new.out) (mark_text e.acknowledges 43)) c.self.view_is c.in-Err.ensures.err)

pub returns-in-Err-answer_words-clause-err : goal.returns-in-Err-answer_words-clause-err
returns-in-Err-answer_words-clause-err g c =
    let w0 : Option (List ℕ) = g.W.Write.contents c.args.out.now in
    let w1 : Option (List ℕ) = g.W.Write.contents c.send_mark.new.out in
    words_unanswered g.T.Target.answers c.args.words.now c.args.self.now w0 w1 (subst (λ (e : ExchangeState g.row.T.Denot). Appends w0 w1 (mark_text e.acknowledges 43)) c.self.view_is c.in-Ok.ensures.ok)

pub returns-clause-ok : goal.returns-clause-ok
returns-clause-ok g c =
    let old : ExchangeState g.row.T.Denot = c.args.self.now in
    let new : ExchangeState g.row.T.Denot = c.answer_words.new.self in
    let text : List ℕ = c.answer_words.new.out.items in
    let w0 : Option (List ℕ) = g.W.Write.contents c.args.out.now in
    let w1 : Option (List ℕ) = g.W.Write.contents c.send_mark.new.out in
    let w2 : Option (List ℕ) = g.W.Write.contents c.send_now.new.out in
    ok_gives c.send_now.result
    (λ written. words_written g.T.Target.answers c.args.words.now old new w0 w1 w2 text
    (subst (λ (e : ExchangeState g.row.T.Denot). Appends w0 w1 (mark_text e.acknowledges 43)) c.self.view_is c.in-Ok.ensures.ok)
    (subst (λ (t : List ℕ). AnswersWords g.T.Target.answers c.args.words.now old new t text) c.new-text.ensures.items c.in-Ok-answer_words.ensures)
    (subst (Appends w1 w2) c.deref.ensures.value written)) c.send_now.ensures.ok

pub returns-clause-err : goal.returns-clause-err
returns-clause-err g c =
    let old : ExchangeState g.row.T.Denot = c.args.self.now in
    let new : ExchangeState g.row.T.Denot = c.answer_words.new.self in
    let text : List ℕ = c.answer_words.new.out.items in
    let w0 : Option (List ℕ) = g.W.Write.contents c.args.out.now in
    let w1 : Option (List ℕ) = g.W.Write.contents c.send_mark.new.out in
    let w2 : Option (List ℕ) = g.W.Write.contents c.send_now.new.out in
    err_gives c.send_now.result
    (λ written. words_cut g.T.Target.answers c.args.words.now old new w0 w1 w2 text
    (subst (λ (e : ExchangeState g.row.T.Denot). Appends w0 w1 (mark_text e.acknowledges 43)) c.self.view_is c.in-Ok.ensures.ok)
    (subst (λ (t : List ℕ). AnswersWords g.T.Target.answers c.args.words.now old new t text) c.new-text.ensures.items c.in-Ok-answer_words.ensures)
    (subst (AppendsPart w1 w2) c.deref.ensures.value written)) c.send_now.ensures.err
