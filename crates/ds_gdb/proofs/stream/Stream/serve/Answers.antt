use Rattle.std.proofs.Common.{◌≡◌, ◌++◌, ◌+◌, ℕ, List, [], ◌∷◌, append_assoc, get_or, take, drop, sym, ap, subst, ◌∙◌}
use Rattle.std.proofs.lemmas.List.{take-append-drop, take_more}
use Rattle.std.specs.Prelude.{Option}
use Rattle.ds_gdb.specs.Serving.{WritesSo}
use Rattle.ds_gdb.specs.Streams.{Hears, StreamState}
use Rattle.ds_gdb.proofs.Served.{stream_begins, stream_goes_on, stream_is_cut}
use Rattle.ds_gdb.proofs.stream.Stream.serve.Goals as goal

pub loop-byte-init : goal.loop-byte-init
loop-byte-init g c =
    let inside : StreamState g.row.T.Denot = record { scan = c.self.inside.scanner; exchange = c.self.inside.exchange } in
    let w : Option (List ℕ) = g.W.Write.contents c.args.out.now in
    subst (λ (s : StreamState g.row.T.Denot). WritesSo (Hears g.T.Target.answers [] s inside []) w w) c.self.view_is (stream_begins g.T.Target.answers inside w)

pub loop-byte-preserved : goal.loop-byte-preserved
loop-byte-preserved g c =
    let bytes : List ℕ = c.args.bytes.now in
    let last : StreamState g.row.T.Denot = record { scan = c.loop-byte.self-inside.scanner; exchange = c.loop-byte.self-inside.exchange } in
    let new : StreamState g.row.T.Denot = record { scan = c.take-came.new.self; exchange = c.serve_came.new.self } in
    let w0 : Option (List ℕ) = g.W.Write.contents c.args.out.now in
    let w2 : Option (List ℕ) = g.W.Write.contents c.serve_came.new.out in
    subst (λ (heard : List ℕ). WritesSo (Hears g.T.Target.answers heard c.args.self.now new []) w0 w2) (sym (take_more bytes c.loop-byte.byte-index 0 c.loop-byte-test.true))
    (stream_goes_on g.T.Target.answers (take c.loop-byte.byte-index bytes) (get_or bytes c.loop-byte.byte-index 0) c.take-came.result c.args.self.now last w0 (g.W.Write.contents c.loop-byte.out) w2 new
    c.loop-byte.invariant c.take-came.ensures.came c.take-came.ensures.place c.in-Ok.ensures.ok)

pub returns-in-Err-clause-err : goal.returns-in-Err-clause-err
returns-in-Err-clause-err g c =
    let bytes : List ℕ = c.args.bytes.now in
    let i : ℕ = c.loop-byte.byte-index in
    let b : ℕ = get_or bytes i 0 in
    let last : StreamState g.row.T.Denot = record { scan = c.loop-byte.self-inside.scanner; exchange = c.loop-byte.self-inside.exchange } in
    let whole : take i bytes ++ b ∷ drop (i + 1) bytes ≡ bytes =
    sym (append_assoc (take i bytes) (b ∷ []) (drop (i + 1) bytes))
    ∙ (ap (λ (x : List ℕ). x ++ drop (i + 1) bytes) (sym (take_more bytes i 0 c.loop-byte-test.true)) ∙ take-append-drop (i + 1) bytes) in
    stream_is_cut g.T.Target.answers (take i bytes) b c.take-came.result c.args.self.now last (g.W.Write.contents c.args.out.now) (g.W.Write.contents c.loop-byte.out) (g.W.Write.contents c.serve_came.new.out)
    (drop (i + 1) bytes) bytes whole c.loop-byte.invariant c.take-came.ensures.came c.in-Err.ensures.err
