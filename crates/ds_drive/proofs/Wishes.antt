-- What words ask for, by what was read of them.
use Rattle.std.proofs.Common.{◌≡◌, ◌∙◌, List, ap, subst}
use Rattle.std.specs.Prelude.{Result, Ok, Err, IfOk}
use Rattle.clap.specs.Words.{Text}
use Rattle.ds_words.specs.Words.{AsksForBare, AsksForDebug, AsksForExplain, AsksForRun, AsksForSomething, AsksForTrace}
use Rattle.ds_words.specs.declared.words.BareRequest.{BareRequest}
use Rattle.ds_words.specs.declared.words.ExplainRequest.{ExplainRequest}
use Rattle.ds_words.specs.declared.words.Request.{Request}
use Rattle.ds_words.specs.declared.words.RunRequest.{RunRequest}
use Rattle.ds_words.specs.declared.words.TraceRequest.{TraceRequest}
use Rattle.ds_words.specs.declared.words.Untaken.{Untaken}
use Rattle.ds_words.specs.declared.words.Wish.{Wish}
use Rattle.ds_words.specs.declared.words.Wish.TheVariants as wish

-- what is so by an answer is so of its value
if_ok_is : {T E : Type 0} (P : T → Type 0) (r : Result T E) (x : T) → r ≡ Ok x → IfOk r P → P x
if_ok_is {T} {E} P r x is so = subst (λ (y : Result T E). IfOk y P) is so

module _ {E : Type 0} (words : List Text) (r : Result (Result Wish Untaken) E) (w : Result Wish Untaken) (is : r ≡ Ok w) where
  -- for a run
  pub asks_run : (v : Wish) (request : RunRequest) → w ≡ Ok v → v ≡ wish.Run request → IfOk r (λ x. (q : RunRequest) → x ≡ Ok (wish.Run q) → AsksForRun words q) → AsksForRun words request
  asks_run v request some which so =
      if_ok_is (λ (x : Result Wish Untaken). (q : RunRequest) → x ≡ Ok (wish.Run q) → AsksForRun words q) r w is so request (some ∙ ap (λ (y : Wish). Ok y) which)

  -- for a trace
  pub asks_trace : (v : Wish) (request : TraceRequest) → w ≡ Ok v → v ≡ wish.Trace request → IfOk r (λ x. (q : TraceRequest) → x ≡ Ok (wish.Trace q) → AsksForTrace words q) → AsksForTrace words request
  asks_trace v request some which so =
      if_ok_is (λ (x : Result Wish Untaken). (q : TraceRequest) → x ≡ Ok (wish.Trace q) → AsksForTrace words q) r w is so request (some ∙ ap (λ (y : Wish). Ok y) which)

  -- for a run on the bare machine
  pub asks_bare : (v : Wish) (request : BareRequest) → w ≡ Ok v → v ≡ wish.Bare request → IfOk r (λ x. (q : BareRequest) → x ≡ Ok (wish.Bare q) → AsksForBare words q) → AsksForBare words request
  asks_bare v request some which so =
      if_ok_is (λ (x : Result Wish Untaken). (q : BareRequest) → x ≡ Ok (wish.Bare q) → AsksForBare words q) r w is so request (some ∙ ap (λ (y : Wish). Ok y) which)

  -- for a session with a debugger
  pub asks_debug : (v : Wish) (request : Request) → w ≡ Ok v → v ≡ wish.Debug request → IfOk r (λ x. (q : Request) → x ≡ Ok (wish.Debug q) → AsksForDebug words q) → AsksForDebug words request
  asks_debug v request some which so =
      if_ok_is (λ (x : Result Wish Untaken). (q : Request) → x ≡ Ok (wish.Debug q) → AsksForDebug words q) r w is so request (some ∙ ap (λ (y : Wish). Ok y) which)

  -- for an explained log
  pub asks_explain : (v : Wish) (request : ExplainRequest) → w ≡ Ok v → v ≡ wish.Explain request → IfOk r (λ x. (q : ExplainRequest) → x ≡ Ok (wish.Explain q) → AsksForExplain words q) → AsksForExplain words request
  asks_explain v request some which so =
      if_ok_is (λ (x : Result Wish Untaken). (q : ExplainRequest) → x ≡ Ok (wish.Explain q) → AsksForExplain words q) r w is so request (some ∙ ap (λ (y : Wish). Ok y) which)

  -- for nothing
  pub asks_nothing : (cause : Untaken) → w ≡ Err cause → IfOk r (λ x. (e : Untaken) → x ≡ Err e → AsksForSomething words → ⊥) → AsksForSomething words → ⊥
  asks_nothing cause none so = if_ok_is (λ (x : Result Wish Untaken). (e : Untaken) → x ≡ Err e → AsksForSomething words → ⊥) r w is so cause none
