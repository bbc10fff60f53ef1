-- What the words after `--process` name.
use Rattle.std.proofs.Common.{◌≡◌, ◌∙◌, ◌++◌, ◌<◌, ◌^◌, ℕ, List, [], ◌∷◌, sym, ap, refl, subst, append_assoc, append-nil}
use Rattle.std.specs.Prelude.{Option, Some, None, Result, Ok, Err, is_some, option_map}
use Rattle.std.specs.Result.{result_ok}
use Rattle.std.specs.Str.Parse.{ParsesUnsigned}
use Rattle.std.proofs.lemmas.Bool.{true≢false}
use Rattle.std.proofs.lemmas.List.Sums.{fold-append}
use Rattle.clap.specs.Words.{StepsValues, Text, many_of, matched_of, rows_of, typed_values, values_left}
use Rattle.clap.specs.declared.parser.matches.Found.{Found}
use Rattle.clap.specs.declared.parser.matches.ValuesRef.{ValuesRef}
use Rattle.clap.proofs.WalkLemmas.{typed_values-rows}
use Rattle.ds_words.specs.declared.processes.Processes.{Processes}
use Rattle.ds_words.specs.Sets.{no_processes, joined_process}
use Rattle.ds_words.specs.Words.{AreNumbers, IsNumber, NamesProcesses, WriteProcesses}

-- of all texts those that are no longer left write the numbers of these processes
pub record HaveWritten (all left : List Text) (processes : Processes) : Type 0 where
  pub texts : List Text
  pub split : texts ++ left ≡ all
  pub of : WriteProcesses texts processes

-- at the start none is written
pub none_written : (all : List Text) (none : Processes) → none ≡ no_processes → HaveWritten all all none
none_written all none is = record { texts = []; split = refl; of = record { numbers = []; written = tt; are = is } }

one_more : (bits : ℕ) (texts : List Text) (text : Text) (numbers : List ℕ) (n : ℕ) → AreNumbers bits texts numbers → IsNumber bits (Some text) n
    → AreNumbers bits (texts ++ text ∷ []) (numbers ++ n ∷ [])
one_more bits [] text [] n are is = (is, tt)
one_more bits [] text (m ∷ rest) n are is = absurd are
one_more bits (t ∷ texts) text [] n are is = absurd are
one_more bits (t ∷ texts) text (m ∷ rest) n are is = (are.0, one_more bits texts text rest n are.1 is)

ok_of : {E : Type 0} (r : Result ℕ E) (n : ℕ) → result_ok r ≡ Some n → r ≡ Ok n
ok_of (Ok m) n is = search is
ok_of (Err e) n is = search is

-- one more text is read
pub more_written : {E : Type 0} (gives : List ℕ → Result ℕ E → Type 0) (all left rest : List Text) (processes more : Processes) (r : Result ℕ E) (n : ℕ)
    → ((t : List ℕ) (x : Result ℕ E) → gives t x → ParsesUnsigned 32 10 t x)
    → HaveWritten all left processes → StepsValues gives left rest (Some r) → result_ok r ≡ Some n
    → more ≡ joined_process processes n → HaveWritten all rest more
more_written gives all [] rest processes more r n parses have steps is adds = absurd steps
more_written gives all (text ∷ left) rest processes more r n parses have steps is adds =
    let p = parses text (Ok n) (subst (gives text) (ok_of r n is) steps.0) in
    record {
      texts = have.texts ++ text ∷ [];
      split = ap (λ (xs : List Text). (have.texts ++ text ∷ []) ++ xs) steps.1 ∙ (append_assoc have.texts (text ∷ []) left ∙ have.split);
      of = record {
        numbers = have.of.numbers ++ n ∷ [];
        written = one_more 32 have.texts text have.of.numbers n have.of.written (p.0.0, sym p.1, subst (λ (m : ℕ). m < 2 ^ 32) (sym p.1) p.0.1);
        are = adds ∙ (ap (λ (s : Processes). joined_process s n) have.of.are ∙ sym (fold-append joined_process no_processes have.of.numbers (n ∷ [])));
      };
    }

-- at the end all is written
pub all_written : {E : Type 0} (gives : List ℕ → Result ℕ E → Type 0) (all left rest : List Text) (processes : Processes)
    → HaveWritten all left processes → StepsValues gives left rest None → WriteProcesses all processes
all_written gives all [] rest processes have steps =
    subst (λ (xs : List Text). WriteProcesses xs processes) (sym (append-nil have.texts) ∙ have.split) have.of
all_written gives all (text ∷ left) rest processes have steps = absurd steps

at_seam : (bits : ℕ) (texts : List Text) (text : Text) (left : List Text) (numbers : List ℕ) → AreNumbers bits (texts ++ text ∷ left) numbers
    → (n : ℕ) × IsNumber bits (Some text) n
at_seam bits [] text left [] are = absurd are
at_seam bits [] text left (n ∷ numbers) are = (n, are.0)
at_seam bits (t ∷ texts) text left [] are = absurd are
at_seam bits (t ∷ texts) text left (m ∷ numbers) are = at_seam bits texts text left numbers are.1

-- a text that is no number is none of those of processes
pub none_is_written : {E : Type 0} (gives : List ℕ → Result ℕ E → Type 0) (all left rest : List Text) (read processes : Processes) (r : Result ℕ E)
    → ((t : List ℕ) (x : Result ℕ E) → gives t x → ParsesUnsigned 32 10 t x)
    → HaveWritten all left read → StepsValues gives left rest (Some r) → result_ok r ≡ None
    → WriteProcesses all processes → ⊥
none_is_written gives all [] rest read processes r parses have steps is write = absurd steps
none_is_written gives all (text ∷ left) rest read processes (Ok n) parses have steps is write = true≢false (ap is_some is)
none_is_written gives all (text ∷ left) rest read processes (Err e) parses have steps is write =
    let number = at_seam 32 have.texts text left write.numbers (subst (λ (xs : List Text). AreNumbers 32 xs write.numbers) (sym have.split) write.written) in
    parses text (Err e) steps.0 (number.1.0, subst (λ (m : ℕ). m < 2 ^ 32) (sym number.1.1) number.1.2)

-- texts that were found are those of the rows
pub texts_found : (f : Found) (id : Text) (r : Option (ValuesRef ℕ)) (numbers : ValuesRef ℕ) → option_map values_left r ≡ option_map typed_values (matched_of f id)
    → r ≡ Some numbers → many_of id (rows_of f) ≡ Some (values_left numbers)
texts_found f id r numbers found is = sym (typed_values-rows f id) ∙ (sym found ∙ ap (option_map values_left) is)

-- no texts of the rows
pub texts_wanting : (f : Found) (id : Text) (r : Option (ValuesRef ℕ)) → option_map values_left r ≡ option_map typed_values (matched_of f id)
    → r ≡ None → many_of id (rows_of f) ≡ None
texts_wanting f id r found is = sym (typed_values-rows f id) ∙ (sym found ∙ ap (option_map values_left) is)

-- texts that write the numbers of no processes name none
pub none_named : (texts : List Text) (named : Option Processes) → ((processes : Processes) → WriteProcesses texts processes → ⊥) → NamesProcesses (Some texts) named → ⊥
none_named texts None none names = names
none_named texts (Some processes) none names = none processes names
