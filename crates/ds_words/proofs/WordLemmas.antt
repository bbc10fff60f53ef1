-- What clap makes of the program's command line.
use Rattle.std.proofs.Common.{◌≡◌, ◌∙◌, sym, ap, subst, inl, inr, refl, codes, ℕ, List, [], ◌∷◌, slice_index, arith}
use Rattle.std.specs.Prelude.{◌⊎◌, Err, IsOkAnd, MatchResult, Ok, Option, None, Result, Some, is_ok, option_map}
use Rattle.std.proofs.lemmas.Bool.{true≢false}
use Rattle.clap.specs.Words.{HasKind, IsAmong, Row, Text, all_of, fault_of, kind_of, many_of, subcommand_of}
use Rattle.clap.specs.declared.error.Error.{Error}
use Rattle.clap.specs.declared.error.kind.ErrorKind.TheVariants.{OutOfMemory}
use Rattle.clap.proofs.OnLiterals.{clap_on_literals}
use Rattle.ds_words.specs.declared.words.BareRequest.{BareRequest}
use Rattle.ds_words.specs.declared.words.CheckRequest.{CheckRequest}
use Rattle.ds_words.specs.declared.words.ExplainRequest.{ExplainRequest}
use Rattle.ds_words.specs.declared.words.ListRequest.{ListRequest}
use Rattle.ds_words.specs.declared.words.Request.{Request}
use Rattle.ds_words.specs.declared.words.RunRequest.{RunRequest}
use Rattle.ds_words.specs.declared.words.TraceRequest.{TraceRequest}
use Rattle.ds_words.specs.declared.words.Untaken.{Untaken}
use Rattle.ds_words.specs.declared.words.Wish.{Wish}
use Rattle.ds_words.specs.declared.windows.Window.{Window}
use Rattle.ds_words.specs.Words.{AsksForDemo, AsksForSomething, NamesAskedRun, NamesBare, NamesCheck, NamesExplain, NamesList, NamesMemory, NamesRun, NamesTrace, MisnamesMemory, command_named, dsmon_app}

-- the one word `demo` asks for the demonstration, whatever the program's own name is
pub alone : (program : Text) (words : List Text) → words ≡ program ∷ codes "demo" ∷ []
    → AsksForDemo words
unfolding clap_on_literals
alone program words same = rw same (record { taken = refl; named = refl })

-- what stands after each `--process` is read, in the order of the words
pub each_process : (words : List Text)
    → words ≡ codes "dsmon" ∷ codes "trace" ∷ codes "p" ∷ codes "i" ∷ codes "9" ∷ codes "--process" ∷ codes "3" ∷ codes "--process=1" ∷ []
    → option_map (λ p. many_of (codes "P") p.1) (subcommand_of dsmon_app words) ≡ Some (Some (codes "3" ∷ codes "1" ∷ []))
unfolding clap_on_literals
each_process words same = rw same refl

-- what stands after each `--memory` is kept as it is written, in the order of the words
pub each_memory : (words : List Text)
    → words ≡ codes "dsmon" ∷ codes "run" ∷ codes "p" ∷ codes "i" ∷ codes "9" ∷ codes "--memory" ∷ codes "1:410000:2" ∷ codes "--memory=2:0x400000:1" ∷ []
    → option_map (λ p. all_of (codes "P:ADDRESS:COUNT") p.1) (subcommand_of dsmon_app words)
    ≡ Some (Some (codes "1:410000:2" ∷ codes "2:0x400000:1" ∷ []))
unfolding clap_on_literals
each_memory words same = rw same refl

-- clap takes words that ask for something
pub taken : (words : List Text) → AsksForSomething words → fault_of dsmon_app words ≡ []
taken words (inl demo) = demo.taken
taken words (inr (inl run)) = run.1.taken
taken words (inr (inr (inl list))) = list.1.taken
taken words (inr (inr (inr (inl check)))) = check.1.taken
taken words (inr (inr (inr (inr (inl bare))))) = bare.1.taken
taken words (inr (inr (inr (inr (inr (inl trace)))))) = trace.1.taken
taken words (inr (inr (inr (inr (inr (inr (inl debug))))))) = debug.1.taken
taken words (inr (inr (inr (inr (inr (inr (inr explain))))))) = explain.1.taken

-- where the words ask for something, clap fails for memory alone
pub only_memory_fails : (words : List Text) (e : Error) → AsksForSomething words
    → HasKind (fault_of dsmon_app words) e → kind_of e ≡ OutOfMemory
only_memory_fails words e asked (inl memory) = memory
only_memory_fails words e asked (inr among) =
    absurd (subst (IsAmong (kind_of e)) (taken words asked) among)

-- so where they ask for the demonstration
pub fails_for_memory : (words : List Text) (e : Error) → AsksForDemo words
    → HasKind (fault_of dsmon_app words) e → kind_of e ≡ OutOfMemory
fails_for_memory words e asked has = only_memory_fails words e (inl asked) has

abbrev cause_or : Untaken → Result Wish Untaken → Untaken
cause_or cause (Ok wish) = cause
cause_or cause (Err other) = other

abbrev first_letter : Option (Text × List Row) → ℕ
first_letter None = 0
first_letter (Some p) = slice_index p.0 0

abbrev rows_in : Option (Text × List Row) → List Row
rows_in None = []
rows_in (Some p) = p.1

abbrev third_letter_of : Option Text → ℕ
third_letter_of None = 0
third_letter_of (Some t) = slice_index t 2

abbrev first_letter_of : Option Text → ℕ
first_letter_of None = 0
first_letter_of (Some t) = slice_index t 0

abbrev name_in : Option (Text × List Row) → Option Text
name_in named = option_map (λ p. p.0) named

-- words that name this command ask for what stands after it, and for nothing else
pub asks_run : (words : List Text) (rows : List Row) → subcommand_of dsmon_app words ≡ Some (codes "run", rows)
    → ((request : RunRequest) → NamesAskedRun rows request → ⊥) → AsksForSomething words → ⊥
asks_run words rows named none (inl demo) = let e : 114 ≡ 100 = ap first_letter_of (sym (ap name_in named) ∙ demo.named) in omega (arith, e)
asks_run words rows named none (inr (inl run)) = none run.0 (subst (λ (x : List Row). NamesAskedRun x run.0) (sym (ap rows_in (sym named ∙ run.1.named))) run.1.names)
asks_run words rows named none (inr (inr (inl list))) = let e : 114 ≡ 108 = ap first_letter (sym named ∙ list.1.named) in omega (arith, e)
asks_run words rows named none (inr (inr (inr (inl check)))) = let e : 114 ≡ 99 = ap first_letter (sym named ∙ check.1.named) in omega (arith, e)
asks_run words rows named none (inr (inr (inr (inr (inl bare))))) = let e : 114 ≡ 98 = ap first_letter (sym named ∙ bare.1.named) in omega (arith, e)
asks_run words rows named none (inr (inr (inr (inr (inr (inl trace)))))) = let e : 114 ≡ 116 = ap first_letter (sym named ∙ trace.1.named) in omega (arith, e)
asks_run words rows named none (inr (inr (inr (inr (inr (inr (inl debug))))))) = let e : 114 ≡ 100 = ap first_letter (sym named ∙ debug.1.named) in omega (arith, e)
asks_run words rows named none (inr (inr (inr (inr (inr (inr (inr explain))))))) = let e : 114 ≡ 101 = ap first_letter (sym named ∙ explain.1.named) in omega (arith, e)

pub asks_list : (words : List Text) (rows : List Row) → subcommand_of dsmon_app words ≡ Some (codes "list", rows)
    → ((request : ListRequest) → NamesList rows request → ⊥) → AsksForSomething words → ⊥
asks_list words rows named none (inl demo) = let e : 108 ≡ 100 = ap first_letter_of (sym (ap name_in named) ∙ demo.named) in omega (arith, e)
asks_list words rows named none (inr (inl run)) = let e : 108 ≡ 114 = ap first_letter (sym named ∙ run.1.named) in omega (arith, e)
asks_list words rows named none (inr (inr (inl list))) = none list.0 (subst (λ (x : List Row). NamesList x list.0) (sym (ap rows_in (sym named ∙ list.1.named))) list.1.names)
asks_list words rows named none (inr (inr (inr (inl check)))) = let e : 108 ≡ 99 = ap first_letter (sym named ∙ check.1.named) in omega (arith, e)
asks_list words rows named none (inr (inr (inr (inr (inl bare))))) = let e : 108 ≡ 98 = ap first_letter (sym named ∙ bare.1.named) in omega (arith, e)
asks_list words rows named none (inr (inr (inr (inr (inr (inl trace)))))) = let e : 108 ≡ 116 = ap first_letter (sym named ∙ trace.1.named) in omega (arith, e)
asks_list words rows named none (inr (inr (inr (inr (inr (inr (inl debug))))))) = let e : 108 ≡ 100 = ap first_letter (sym named ∙ debug.1.named) in omega (arith, e)
asks_list words rows named none (inr (inr (inr (inr (inr (inr (inr explain))))))) = let e : 108 ≡ 101 = ap first_letter (sym named ∙ explain.1.named) in omega (arith, e)

pub asks_check : (words : List Text) (rows : List Row) → subcommand_of dsmon_app words ≡ Some (codes "check", rows)
    → ((request : CheckRequest) → NamesCheck rows request → ⊥) → AsksForSomething words → ⊥
asks_check words rows named none (inl demo) = let e : 99 ≡ 100 = ap first_letter_of (sym (ap name_in named) ∙ demo.named) in omega (arith, e)
asks_check words rows named none (inr (inl run)) = let e : 99 ≡ 114 = ap first_letter (sym named ∙ run.1.named) in omega (arith, e)
asks_check words rows named none (inr (inr (inl list))) = let e : 99 ≡ 108 = ap first_letter (sym named ∙ list.1.named) in omega (arith, e)
asks_check words rows named none (inr (inr (inr (inl check)))) = none check.0 (subst (λ (x : List Row). NamesCheck x check.0) (sym (ap rows_in (sym named ∙ check.1.named))) check.1.names)
asks_check words rows named none (inr (inr (inr (inr (inl bare))))) = let e : 99 ≡ 98 = ap first_letter (sym named ∙ bare.1.named) in omega (arith, e)
asks_check words rows named none (inr (inr (inr (inr (inr (inl trace)))))) = let e : 99 ≡ 116 = ap first_letter (sym named ∙ trace.1.named) in omega (arith, e)
asks_check words rows named none (inr (inr (inr (inr (inr (inr (inl debug))))))) = let e : 99 ≡ 100 = ap first_letter (sym named ∙ debug.1.named) in omega (arith, e)
asks_check words rows named none (inr (inr (inr (inr (inr (inr (inr explain))))))) = let e : 99 ≡ 101 = ap first_letter (sym named ∙ explain.1.named) in omega (arith, e)

pub asks_bare : (words : List Text) (rows : List Row) → subcommand_of dsmon_app words ≡ Some (codes "bare", rows)
    → ((request : BareRequest) → NamesBare rows request → ⊥) → AsksForSomething words → ⊥
asks_bare words rows named none (inl demo) = let e : 98 ≡ 100 = ap first_letter_of (sym (ap name_in named) ∙ demo.named) in omega (arith, e)
asks_bare words rows named none (inr (inl run)) = let e : 98 ≡ 114 = ap first_letter (sym named ∙ run.1.named) in omega (arith, e)
asks_bare words rows named none (inr (inr (inl list))) = let e : 98 ≡ 108 = ap first_letter (sym named ∙ list.1.named) in omega (arith, e)
asks_bare words rows named none (inr (inr (inr (inl check)))) = let e : 98 ≡ 99 = ap first_letter (sym named ∙ check.1.named) in omega (arith, e)
asks_bare words rows named none (inr (inr (inr (inr (inl bare))))) = none bare.0 (subst (λ (x : List Row). NamesBare x bare.0) (sym (ap rows_in (sym named ∙ bare.1.named))) bare.1.names)
asks_bare words rows named none (inr (inr (inr (inr (inr (inl trace)))))) = let e : 98 ≡ 116 = ap first_letter (sym named ∙ trace.1.named) in omega (arith, e)
asks_bare words rows named none (inr (inr (inr (inr (inr (inr (inl debug))))))) = let e : 98 ≡ 100 = ap first_letter (sym named ∙ debug.1.named) in omega (arith, e)
asks_bare words rows named none (inr (inr (inr (inr (inr (inr (inr explain))))))) = let e : 98 ≡ 101 = ap first_letter (sym named ∙ explain.1.named) in omega (arith, e)

pub asks_trace : (words : List Text) (rows : List Row) → subcommand_of dsmon_app words ≡ Some (codes "trace", rows)
    → ((request : TraceRequest) → NamesTrace rows request → ⊥) → AsksForSomething words → ⊥
asks_trace words rows named none (inl demo) = let e : 116 ≡ 100 = ap first_letter_of (sym (ap name_in named) ∙ demo.named) in omega (arith, e)
asks_trace words rows named none (inr (inl run)) = let e : 116 ≡ 114 = ap first_letter (sym named ∙ run.1.named) in omega (arith, e)
asks_trace words rows named none (inr (inr (inl list))) = let e : 116 ≡ 108 = ap first_letter (sym named ∙ list.1.named) in omega (arith, e)
asks_trace words rows named none (inr (inr (inr (inl check)))) = let e : 116 ≡ 99 = ap first_letter (sym named ∙ check.1.named) in omega (arith, e)
asks_trace words rows named none (inr (inr (inr (inr (inl bare))))) = let e : 116 ≡ 98 = ap first_letter (sym named ∙ bare.1.named) in omega (arith, e)
asks_trace words rows named none (inr (inr (inr (inr (inr (inl trace)))))) = none trace.0 (subst (λ (x : List Row). NamesTrace x trace.0) (sym (ap rows_in (sym named ∙ trace.1.named))) trace.1.names)
asks_trace words rows named none (inr (inr (inr (inr (inr (inr (inl debug))))))) = let e : 116 ≡ 100 = ap first_letter (sym named ∙ debug.1.named) in omega (arith, e)
asks_trace words rows named none (inr (inr (inr (inr (inr (inr (inr explain))))))) = let e : 116 ≡ 101 = ap first_letter (sym named ∙ explain.1.named) in omega (arith, e)

pub asks_debug : (words : List Text) (rows : List Row) → subcommand_of dsmon_app words ≡ Some (codes "debug", rows)
    → ((request : Request) → NamesRun rows request → ⊥) → AsksForSomething words → ⊥
asks_debug words rows named none (inl demo) = let e : 98 ≡ 109 = ap third_letter_of (sym (ap name_in named) ∙ demo.named) in omega (arith, e)
asks_debug words rows named none (inr (inl run)) = let e : 100 ≡ 114 = ap first_letter (sym named ∙ run.1.named) in omega (arith, e)
asks_debug words rows named none (inr (inr (inl list))) = let e : 100 ≡ 108 = ap first_letter (sym named ∙ list.1.named) in omega (arith, e)
asks_debug words rows named none (inr (inr (inr (inl check)))) = let e : 100 ≡ 99 = ap first_letter (sym named ∙ check.1.named) in omega (arith, e)
asks_debug words rows named none (inr (inr (inr (inr (inl bare))))) = let e : 100 ≡ 98 = ap first_letter (sym named ∙ bare.1.named) in omega (arith, e)
asks_debug words rows named none (inr (inr (inr (inr (inr (inl trace)))))) = let e : 100 ≡ 116 = ap first_letter (sym named ∙ trace.1.named) in omega (arith, e)
asks_debug words rows named none (inr (inr (inr (inr (inr (inr (inl debug))))))) = none debug.0 (subst (λ (x : List Row). NamesRun x debug.0) (sym (ap rows_in (sym named ∙ debug.1.named))) debug.1.names)
asks_debug words rows named none (inr (inr (inr (inr (inr (inr (inr explain))))))) = let e : 100 ≡ 101 = ap first_letter (sym named ∙ explain.1.named) in omega (arith, e)

pub asks_explain : (words : List Text) (rows : List Row) → subcommand_of dsmon_app words ≡ Some (codes "explain", rows)
    → ((request : ExplainRequest) → NamesExplain rows request → ⊥) → AsksForSomething words → ⊥
asks_explain words rows named none (inl demo) = let e : 101 ≡ 100 = ap first_letter_of (sym (ap name_in named) ∙ demo.named) in omega (arith, e)
asks_explain words rows named none (inr (inl run)) = let e : 101 ≡ 114 = ap first_letter (sym named ∙ run.1.named) in omega (arith, e)
asks_explain words rows named none (inr (inr (inl list))) = let e : 101 ≡ 108 = ap first_letter (sym named ∙ list.1.named) in omega (arith, e)
asks_explain words rows named none (inr (inr (inr (inl check)))) = let e : 101 ≡ 99 = ap first_letter (sym named ∙ check.1.named) in omega (arith, e)
asks_explain words rows named none (inr (inr (inr (inr (inl bare))))) = let e : 101 ≡ 98 = ap first_letter (sym named ∙ bare.1.named) in omega (arith, e)
asks_explain words rows named none (inr (inr (inr (inr (inr (inl trace)))))) = let e : 101 ≡ 116 = ap first_letter (sym named ∙ trace.1.named) in omega (arith, e)
asks_explain words rows named none (inr (inr (inr (inr (inr (inr (inl debug))))))) = let e : 101 ≡ 100 = ap first_letter (sym named ∙ debug.1.named) in omega (arith, e)
asks_explain words rows named none (inr (inr (inr (inr (inr (inr (inr explain))))))) = none explain.0 (subst (λ (x : List Row). NamesExplain x explain.0) (sym (ap rows_in (sym named ∙ explain.1.named))) explain.1.names)

-- words that name no command of the eight ask for nothing
pub asks_nothing : (words : List Text) (named : Option Text) → command_named words ≡ named
    → (named ≡ Some (codes "demo") → ⊥) → (named ≡ Some (codes "run") → ⊥) → (named ≡ Some (codes "check") → ⊥) → (named ≡ Some (codes "list") → ⊥) → (named ≡ Some (codes "bare") → ⊥) → (named ≡ Some (codes "trace") → ⊥) → (named ≡ Some (codes "debug") → ⊥) → (named ≡ Some (codes "explain") → ⊥)
    → AsksForSomething words → ⊥
asks_nothing words named is demo run check list bare trace debug explain (inl asked) = demo (sym is ∙ asked.named)
asks_nothing words named is demo run check list bare trace debug explain (inr (inl asked)) = run (sym is ∙ ap name_in asked.1.named)
asks_nothing words named is demo run check list bare trace debug explain (inr (inr (inl asked))) = list (sym is ∙ ap name_in asked.1.named)
asks_nothing words named is demo run check list bare trace debug explain (inr (inr (inr (inl asked)))) = check (sym is ∙ ap name_in asked.1.named)
asks_nothing words named is demo run check list bare trace debug explain (inr (inr (inr (inr (inl asked))))) = bare (sym is ∙ ap name_in asked.1.named)
asks_nothing words named is demo run check list bare trace debug explain (inr (inr (inr (inr (inr (inl asked)))))) = trace (sym is ∙ ap name_in asked.1.named)
asks_nothing words named is demo run check list bare trace debug explain (inr (inr (inr (inr (inr (inr (inl asked))))))) = debug (sym is ∙ ap name_in asked.1.named)
asks_nothing words named is demo run check list bare trace debug explain (inr (inr (inr (inr (inr (inr (inr asked))))))) = explain (sym is ∙ ap name_in asked.1.named)

-- words that name another command don't name the bare machine
pub no_machine : (words : List Text) (name : Text) (rows : List Row) → subcommand_of dsmon_app words ≡ Some (name, rows) → (slice_index name 0 ≡ 98 → ⊥)
    → command_named words ≡ Some (codes "bare") → ⊥
no_machine words name rows named other is = other (ap first_letter_of (sym (ap name_in named) ∙ is))

-- those that want no words of memory that there may be name a run or a trace
pub misnamed_no_machine : (words : List Text) → MisnamesMemory words → command_named words ≡ Some (codes "bare") → ⊥
misnamed_no_machine words m is = by_name m.named
  where
    by_name : (subcommand_of dsmon_app words ≡ Some (codes "run", m.rows)) ⊎ (subcommand_of dsmon_app words ≡ Some (codes "trace", m.rows)) → ⊥
    by_name (inl run) = no_machine words (codes "run") m.rows run (λ e. let no : 114 ≡ 98 = e in absurd (omega (arith, no))) is
    by_name (inr trace) = no_machine words (codes "trace") m.rows trace (λ e. let no : 116 ≡ 98 = e in absurd (omega (arith, no))) is

-- the cause that is told is that for which nothing was read
pub same_cause : {A : Type 0} (of : A → Wish) (q : Result A Untaken) (r : Result Wish Untaken) (cause : Untaken)
    → MatchResult q (λ x. IsOkAnd r (λ y. y ≡ of x)) (λ e. r ≡ Err e) → r ≡ Err cause → q ≡ Err cause
same_cause of (Ok x) (Ok y) cause cases is = absurd (true≢false (ap is_ok is))
same_cause of (Ok x) (Err e) cause cases is = absurd cases
same_cause of (Err e) r cause cases is = ap (λ (x : Result Wish Untaken). Err (cause_or e x)) (sym cases ∙ is)

-- what stands after the words' command wants memory by texts that write no windows
pub misnamed : (words : List Text) (rows : List Row)
    → (subcommand_of dsmon_app words ≡ Some (codes "run", rows)) ⊎ (subcommand_of dsmon_app words ≡ Some (codes "trace", rows))
    → ((memory : List Window) → NamesMemory (all_of (codes "P:ADDRESS:COUNT") rows) memory → ⊥) → MisnamesMemory words
misnamed words rows named none = record { rows = rows; named = named; none = none }

same_rows : (words : List Text) (m : MisnamesMemory words) (name : Text) (rows : List Row) → subcommand_of dsmon_app words ≡ Some (name, rows) → rows ≡ m.rows
same_rows words m name rows named = elim m.named as (λ n. rows ≡ m.rows) [
  | inl run ↦ ap rows_in (sym named ∙ run)
  | inr trace ↦ ap rows_in (sym named ∙ trace)
]

-- where the windows are written, none is misnamed
pub well_named : (words : List Text) (name : Text) (rows : List Row) → subcommand_of dsmon_app words ≡ Some (name, rows)
    → (memory : List Window) × NamesMemory (all_of (codes "P:ADDRESS:COUNT") rows) memory → MisnamesMemory words → ⊥
well_named words name rows named memory m =
    m.none memory.0 (subst (λ (x : List Row). NamesMemory (all_of (codes "P:ADDRESS:COUNT") x) memory.0) (same_rows words m name rows named) memory.1)
