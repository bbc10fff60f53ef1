-- Lines that are told one after the other, and what is written of them.
use Rattle.std.proofs.Common.{◌≡◌, ℕ, suc, ◌-◌, ◌<◌, List, [], ◌∷◌, ◌++◌, take, drop, refl, sym, ap, subst, ◌∙◌, arith, append_assoc, length, ne_eqb, zero, Bool, true, false, Option, Result, Ok, Err}
use Rattle.std.proofs.lemmas.List.{append-nil}
use Rattle.std.proofs.lemmas.Bool.{and_parts, true≢false}
use Rattle.std.proofs.lemmas.Bool.Decides.{nat_tests}
use Rattle.std.specs.Prelude.{◌==◌, ◌&&◌, not, nat_lt, flat_map, OnOk}
use Rattle.std.specs.Io.KnownBytes.{Appends}
use Rattle.ds_asm.specs.Assembly.{lines_of}
use Rattle.ds_text.specs.Sent.{AppendsPart}
use Rattle.ds_log.specs.Text.{line_text}
use Rattle.ds_pagemap.specs.Inputs.{Refusal}
use Rattle.ds_pagemap.specs.Machine.{State}
use Rattle.ds_refinement.specs.Held.{Held}
use Rattle.ds_refinement.specs.Runs.{RunsTo}
use Rattle.ds_refinement.specs.Stands.{Stands}
use Rattle.ds_station.specs.Headline.{Begins}
use Rattle.ds_explain.specs.Chosen.{chosen_end_text, most_of, skipped}
use Rattle.ds_explain.specs.Explained.{Explains, ExplainsLog, HasLog, Tells, WritesExplained, WritesExplainedPart}
use Rattle.ds_explain.specs.Moments.{AreTold, Moments, told_text}
use Rattle.ds_explain.specs.Inner.Moments.{IsTold, moments}
use Rattle.ds_log_reasons.specs.Sentences.{Context, Placed, placed}
use Rattle.ds_explain.specs.declared.chosen.Chosen.{Chosen}

-- The test of whether a line is left.

is_over : (a b : Bool) → a ≡ true → b ≡ true → (a && b) ≡ false → ⊥
is_over true true p q over = absurd (true≢false over)
is_over true false p q over = absurd (true≢false (sym q))
is_over false b p q over = absurd (true≢false (sym p))

not_true : (b : Bool) → not b ≡ true → b ≡ false
not_true true is = sym is
not_true false is = refl

positive : (n : ℕ) → nat_lt 0 n ≡ true → 0 < n
positive n is = grind (arith, nat_tests)

counted : (n : ℕ) → nat_lt 0 (suc n) ≡ true
counted n = grind (arith, nat_tests)

-- where it holds, some are to be told, and some are left
pub some_left : (left : ℕ) (rest : List ℕ) → (nat_lt 0 left && not (length rest == 0)) ≡ true → (0 < left) × ((length rest == 0) ≡ false)
some_left left rest is =
    let (a, b) = and_parts (nat_lt 0 left) (not (length rest == 0)) is in
    (positive left a, not_true (length rest == 0) b)

none_left : (left : ℕ) (rest : List ℕ) → (nat_lt 0 left && not (length rest == 0)) ≡ false → take left (lines_of rest) ≡ []
none_left zero rest over = refl
none_left (suc k) [] over = refl
none_left (suc k) (b ∷ rest) over = absurd (is_over (nat_lt 0 (suc k)) (not (length (b ∷ rest) == 0)) (counted k) (ap not (ne_eqb (length (b ∷ rest)) 0 (omega arith))) over)

module _ (x : Placed) (n : ℕ) (first h next : Held) (all : List (List ℕ)) (written : List ℕ) where
  -- one line more is told
  pub told_more : (left : ℕ) (rest line afterwards more : List ℕ) → 0 < left → lines_of rest ≡ line ∷ lines_of afterwards → IsTold x n line h next written more
      → ((later : List ℕ) → AreTold x n h (take left (lines_of rest)) later → AreTold x n first all (written ++ later))
      → (later : List ℕ) → AreTold x n next (take (left - 1) (lines_of afterwards)) later → AreTold x n first all (more ++ later)
  told_more left rest line afterwards more some is (at, last, runs, adds) before later are =
      let number : left ≡ suc (left - 1) = omega (arith, some) in
      let e : take left (lines_of rest) ≡ line ∷ take (left - 1) (lines_of afterwards) = ap (take left) is ∙ ap (λ (k : ℕ). take k (line ∷ lines_of afterwards)) number in
      let m : Moments = moments at last next in
      let whole = before (told_text x line m ++ later) (subst (λ (ls : List (List ℕ)). AreTold x n h ls (told_text x line m ++ later)) (sym e) (m, later, runs, refl, are)) in
      subst (AreTold x n first all) (sym (ap (λ (t : List ℕ). t ++ later) adds ∙ append_assoc written (told_text x line m) later)) whole

  -- no line is left
  pub told_all : (lines : List (List ℕ)) → lines ≡ []
      → ((later : List ℕ) → AreTold x n h lines later → AreTold x n first all (written ++ later))
      → AreTold x n first all written
  told_all lines none before =
      subst (AreTold x n first all) (append-nil written) (before [] (subst (λ (ls : List (List ℕ)). AreTold x n h ls []) (sym none) refl))

  -- no line is left, by the test of it
  pub told_end : (left : ℕ) (rest : List ℕ) → (nat_lt 0 left && not (length rest == 0)) ≡ false
      → ((later : List ℕ) → AreTold x n h (take left (lines_of rest)) later → AreTold x n first all (written ++ later))
      → AreTold x n first all written
  told_end left rest over before = told_all (take left (lines_of rest)) (none_left left rest over) before

-- the log of a run that came to its end
pub has_log : (n : ℕ) (read : Result State Refusal) (s t : Held) (log : List ℕ) → Begins read (Stands s) → RunsTo n s t
    → ((m : State) → Stands t m → log ≡ flat_map line_text m.log) → Begins read (HasLog n log)
has_log n read s t log b runs shows =
    let u = runs.runs b.0 b.2 in (b.0, b.1, record { last = u.0; ends = u.1; logged = shows u.0 u.2 })

-- what is told of lines by a station that begins the run
pub tells_from : (x : Placed) (n : ℕ) (read : Result State Refusal) (s : Held) (lines : List (List ℕ)) (text : List ℕ) → Begins read (Stands s)
    → AreTold x n s lines text → Begins read (Tells x n lines text)
tells_from x n read s lines text b told = (b.0, b.1, record { start = s; stands = b.2; told = told })

-- with what is said of the others
pub explains_from : (x : Context) (c : Chosen) (n : ℕ) (read : Result State Refusal) (log part told text : List ℕ) → lines_of part ≡ drop (skipped c) (lines_of log)
    → Begins read (Tells (placed x) n (take (most_of c) (lines_of part)) told) → text ≡ told ++ chosen_end_text c (lines_of log)
    → Begins read (Explains x c n (lines_of log) text)
explains_from x c n read log part told text is b all = (
  b.0,
  b.1,
  record {
    lines_told = told;
    tells = subst (λ (ls : List (List ℕ)). Tells (placed x) n (take (most_of c) ls) told b.0) is b.2;
    all = all;
  },
)

abbrev value_or : State → Result State Refusal → State
value_or m (Ok x) = x
value_or m (Err e) = m

-- what is read to one value and to another is one value
one_value : (a b : State) (read : Result State Refusal) → read ≡ Ok a → read ≡ Ok b → a ≡ b
one_value a b read p q = ap (value_or a) (sym p ∙ q)

-- of the log of the run
pub explains_log : (x : Context) (c : Chosen) (n : ℕ) (read : Result State Refusal) (log text : List ℕ) → Begins read (HasLog n log)
    → Begins read (Explains x c n (lines_of log) text) → Begins read (ExplainsLog x c n text)
explains_log x c n read log text a b =
    let same : b.0 ≡ a.0 = one_value b.0 a.0 read b.1 a.1 in
    (a.0, a.1, record { log = log; logged = a.2; explains = subst (Explains x c n (lines_of log) text) same b.2 })

pub explained_whole : (x : Context) (c : Chosen) (n : ℕ) (read : Result State Refusal) (text : List ℕ) (old new : Option (List ℕ)) → Begins read (ExplainsLog x c n text)
    → Appends old new text → Begins read (WritesExplained x c old new n)
explained_whole x c n read text old new b written = (b.0, b.1, record { text = text; explains = b.2; written = written })

pub explained_part : (x : Context) (c : Chosen) (n : ℕ) (read : Result State Refusal) (text : List ℕ) (old new : Option (List ℕ)) → Begins read (ExplainsLog x c n text)
    → AppendsPart old new text → Begins read (WritesExplainedPart x c old new n)
explained_part x c n read text old new b written = (b.0, b.1, record { text = text; explains = b.2; written = written })

-- where an answer comes, what follows of what is known then
pub gives : {T E P Q : Type 0} (r : Result T E) → (P → Q) → OnOk r P → OnOk r Q
gives (Ok x) f p = f p
gives (Err e) f p = tt
