-- What is told to a place that takes bytes.
use Rattle.std.proofs.Common.{◌≡◌, ℕ, true, false, List, [], ◌++◌, append-nil, refl, subst, sym}
use Rattle.std.specs.Prelude.{Option, Result, Ok, Err, OnOk, OnErr, is_err}
use Rattle.std.specs.Io.KnownBytes.{Appends}
use Rattle.ds_text.specs.Sent.{WriterAnswers, AppendsPart, IsAskedOnce}
use Rattle.ds_text.proofs.Sends.{appends_both, appends_none, asked_both, part_after, part_before}
use Rattle.ds_bare.proofs.CutBetween.{asked_none}
use Rattle.ds_drive.specs.declared.faults.Untold.{Untold}
use Rattle.ds_drive.specs.declared.faults.Untold.TheVariants.{Unwritten, NoMemory}
use Rattle.ds_drive.specs.Listening.{IsToldText, TellsSome, listener}
use Rattle.ds_drive.specs.Inner.Listening.{is_unwritten}

-- all of a text is a front of it
pub whole_part : (old new : Option (List ℕ)) (text : List ℕ) → Appends old new text → AppendsPart old new text
whole_part old new text all = record { part = text; rest = []; whole = append-nil text; appends = all }

-- a text was told
tells_all : (old new : Option (List ℕ)) (before after : Option WriterAnswers) (text : List ℕ) → IsAskedOnce before after false → Appends old new text → IsToldText (listener old new before after) text
tells_all old new before after text once all = record { failed = false; once = once; front = whole_part old new text all; whole = λ good. all }

-- or a front of it
tells_front : (old new : Option (List ℕ)) (before after : Option WriterAnswers) (text : List ℕ) → IsAskedOnce before after true → AppendsPart old new text → IsToldText (listener old new before after) text
tells_front old new before after text once part = record { failed = true; once = once; front = part; whole = λ good. absurd cc }

-- by what a writer of it answered
pub told_so : {T E : Type 0} (r : Result T E) (old new : Option (List ℕ)) (before after : Option WriterAnswers) (text : List ℕ)
    → OnOk r (Appends old new text) → OnErr r (AppendsPart old new text) → IsAskedOnce before after (is_err r) → IsToldText (listener old new before after) text
told_so (Ok x) old new before after text all part once = tells_all old new before after text once all
told_so (Err e) old new before after text all part once = tells_front old new before after text once part

-- a text is told before what another writer told, or failed to
pub told_after : {T : Type 0} (r : Result T Untold) (old mid new : Option (List ℕ)) (before between after : Option WriterAnswers) (text afterwards : List ℕ)
    → Appends old mid text → IsAskedOnce before between false
    → OnOk r (Appends mid new afterwards) → OnErr r (AppendsPart mid new afterwards) → IsAskedOnce between after (is_unwritten r) → TellsSome (listener old new before after) text afterwards
told_after (Ok x) old mid new before between after text afterwards first asked all part once = record {
  told = afterwards;
  untold = [];
  all = append-nil afterwards;
  tells = tells_all old new before after (text ++ afterwards) (asked_both before between after false asked once) (appends_both old mid new text afterwards first all);
}
told_after (Err Unwritten) old mid new before between after text afterwards first asked all part once = record {
  told = afterwards;
  untold = [];
  all = append-nil afterwards;
  tells = tells_front old new before after (text ++ afterwards) (asked_both before between after true asked once) (part_after old mid new text afterwards first part);
}
told_after (Err NoMemory) old mid new before between after text afterwards first asked all part once = record {
  told = part.part;
  untold = part.rest;
  all = part.whole;
  tells = tells_all old new before after (text ++ part.part) (asked_both before between after false asked once) (appends_both old mid new text part.part first part.appends);
}

-- or by that writer alone
pub told_some : {T : Type 0} (r : Result T Untold) (old new : Option (List ℕ)) (before after : Option WriterAnswers) (text : List ℕ)
    → OnOk r (Appends old new text) → OnErr r (AppendsPart old new text) → IsAskedOnce before after (is_unwritten r) → TellsSome (listener old new before after) [] text
told_some r old new before after text all part once = told_after r old old new before before after [] text (appends_none old) (asked_none before) all part once

-- its writer failed in the first text
pub told_first : (old new : Option (List ℕ)) (before after : Option WriterAnswers) (text afterwards : List ℕ) → AppendsPart old new text → IsAskedOnce before after true → TellsSome (listener old new before after) text afterwards
told_first old new before after text afterwards part once = record {
  told = afterwards;
  untold = [];
  all = append-nil afterwards;
  tells = tells_front old new before after (text ++ afterwards) once (part_before old new text afterwards part);
}

-- nothing was told, for want of memory
pub told_nothing : (known : Option (List ℕ)) (answers : Option WriterAnswers) (text : List ℕ) → TellsSome (listener known known answers answers) [] text
told_nothing known answers text = record {
  told = [];
  untold = text;
  all = refl;
  tells = tells_all known known answers answers [] (asked_none answers) (appends_none known);
}

-- nor where there is nothing to tell
pub untold : (known : Option (List ℕ)) (answers : Option WriterAnswers) (text : List ℕ) → text ≡ [] → IsToldText (listener known known answers answers) text
untold known answers text none = subst (IsToldText (listener known known answers answers)) (sym none) (tells_all known known answers answers [] (asked_none answers) (appends_none known))
