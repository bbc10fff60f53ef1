-- A run to an earlier time is the beginning of a run, so a run goes in pieces.
use Rattle.std.proofs.Common.{◌≡◌, ℕ, ◌+◌, ◌-◌, ◌*◌, ◌/◌, ◌≤◌, ◌<◌, inr, Bool, true, false, cond, List, [], ◌∷◌, refl, sym, ap, subst, ◌∙◌, arith, Option, None, Result}
use Rattle.std.specs.Io.KnownBytes.{Appends}
use Rattle.std.specs.Prelude.{◌||◌, ◌&&◌, nat_lt, not, is_some}
use Rattle.std.proofs.lemmas.Bool.Decides.{nat_tests}
use Rattle.ds_pagemap.specs.Machine.{State}
use Rattle.ds_pagemap.specs.Inputs.{Refusal}
use Rattle.ds_pagemap.specs.Run.{half_turn, goes_on, is_over, after, Reaches}
use Rattle.ds_pagemap.proofs.Runs.{reaches_half, reaches_touch}
use Rattle.ds_refinement.specs.Held.{Held}
use Rattle.ds_refinement.specs.Real.{RealPath}
use Rattle.ds_refinement.specs.Runs.{RunsTo, held_goes_on}
use Rattle.ds_refinement.specs.Inner.Runs.{RunsWithin}
use Rattle.ds_refinement.specs.Stands.{Stands}
use Rattle.ds_refinement.proofs.Joined.{path_join}
use Rattle.ds_refinement.proofs.RunSteps.{to_end}
use Rattle.ds_station.specs.Headline.{Begins, BeginsWith, Loaded, held_text}
use Rattle.ds_station.specs.Pieces.{ComesReally, PieceComesTo, IsFewAfter, PassesIn, piece, size_by, size_held, size_of_state}
use Rattle.ds_station.specs.Inner.Pieces.{WritesUpTo}
use Rattle.ds_station.specs.Inner.Runs.{IsCut}
use Rattle.ds_station.proofs.Headlines.{consoles_stand, never_owed, owed_stands, text_alike}
use Rattle.ds_station.proofs.Outcomes.{writes_by}
use Rattle.ds_station.proofs.Runs.{path_keeps}
use Rattle.ds_station.specs.declared.pieces.Extent.{Extent}
use Rattle.ds_station.specs.declared.pieces.Extent.TheVariants.{Whole, TooMuch}
use Rattle.ds_station.specs.declared.fault.Fault.{Fault}

-- what is early for an earlier time is early
widened : (owed early before alive : Bool) → (early ≡ true → before ≡ true) → (owed || (early && alive)) ≡ true → (owed || (before && alive)) ≡ true
widened true early before alive more is = refl
widened false false before alive more is = absurd (cc)
widened false true before alive more is = ap (λ (b : Bool). b && alive) (more refl) ∙ is

earlier : (t k n : ℕ) → k ≤ n → nat_lt t k ≡ true → nat_lt t n ≡ true
earlier t k n le is = grind (arith, nat_tests)

-- a run that goes on to an earlier time goes on
goes_wider : (k n : ℕ) (m : State) → k ≤ n → goes_on k m ≡ true → goes_on n m ≡ true
goes_wider k n m le is = widened (is_some m.owed) (nat_lt m.time k) (nat_lt m.time n) (not (is_over m)) (earlier m.time k n le) is

pub held_goes_wider : (k n : ℕ) (h : Held) → k ≤ n → held_goes_on k h ≡ true → held_goes_on n h ≡ true
held_goes_wider k n h le is = widened (is_some h.kept.state.owed) (nat_lt h.kept.state.time k) (nat_lt h.kept.state.time n) (not (is_over h.kept.state)) (earlier h.kept.state.time k n le) is

-- by a half turn more of a run to an earlier time, if that goes on
reaches_next : (k n : ℕ) → k ≤ n → (m t : State) (touch on : Bool) → goes_on k t ≡ on → Reaches n m t → Reaches n m (cond on (half_turn touch t) t)
reaches_next k n le m t touch true goes r = reaches_half n m t touch r (goes_wider k n t le goes)
reaches_next k n le m t touch false goes r = r

-- by so many half turns more
reaches_on : (k n : ℕ) → k ≤ n → (m t : State) (choices : List Bool) → Reaches n m t → Reaches n m (after k choices t)
unfolding after
reaches_on k n le m t [] r = r
reaches_on k n le m t (touch ∷ rest) r = reaches_next k n le m (after k rest t) touch (goes_on k (after k rest t)) refl (reaches_on k n le m t rest r)

-- what a run has reached, and one to an earlier time from there
pub reaches_join : (k n : ℕ) → k ≤ n → (m t u : State) → Reaches n m t → Reaches k t u → Reaches n m u
reaches_join k n le m t u r s = subst (Reaches n m) (sym s.comes_to) (reaches_touch n m (after k s.choices t) s.early (reaches_on k n le m t s.choices r))

pub within_join : (k n : ℕ) → k ≤ n → (old between new : Held) → RunsWithin n old between → RunsWithin k between new → RunsWithin n old new
within_join k n le old between new a b = record {
  runs = λ m k'.
      let t = a.runs m k' in
      let u = b.runs t.0 t.2 in
      (u.0, reaches_join k n le m t.0 u.0 t.1 u.1, u.2);
}

-- a run that came to its end has reached it
pub to_within : (n : ℕ) (old new : Held) → RunsTo n old new → RunsWithin n old new
to_within n old new r = record { runs = λ m k. let u = r.runs m k in (u.0, u.1.reached, u.2) }

-- a run that was cut short after a path
pub cut_join : (f : Fault) (old between new : Held) → RealPath old between → IsCut f between new → IsCut f old new
cut_join f old between new path cut = record { last = cut.last; path = path_join old between cut.last path cut.path; refused = cut.refused; marked = cut.marked }

-- the path of no step
pub no_steps : (h : Held) → RealPath h h
no_steps h = record { path = []; through = refl }

-- a run that doesn't go on owes nothing
pub over_whole : (n : ℕ) (h : Held) → held_goes_on n h ≡ false → h.kept.state.owed ≡ None
over_whole n h over = never_owed h.kept.state.owed (nat_lt h.kept.state.time n && not (is_over h.kept.state)) over

-- no step of a path fails
pub path_failed : (old new : Held) → RealPath old new → new.own.failed ≡ old.own.failed
path_failed old new r = path_keeps old new r.path r.through

-- a piece ends before the run does
pub piece_within : (n number : ℕ) → number < n / piece + 1 → number * piece ≤ n
piece_within n number early = omega (arith, early)

-- and all pieces but the last are behind where no whole one is left
pub pieces_after : (n number : ℕ) → n / piece + 1 ≤ number → n ≤ number * piece
pieces_after n number late = omega (arith, late)

-- One piece more.

pub few_of : (most size : ℕ) → nat_lt most size ≡ false → size ≤ most
few_of most size is = grind (arith, nat_tests)

much_of : (most size : ℕ) → nat_lt most size ≡ true → most < size
much_of most size is = grind (arith, nat_tests)

-- the run for one more piece, or for what is left, has passed so many bytes
pub passes : (n most number until : ℕ) (old before new : Held) → 0 < number → RealPath old before → IsFewAfter most (number - 1) old before → until ≤ n → until ≤ number * piece
    → RunsTo until before new → held_goes_on until new ≡ false → nat_lt most (size_held new) ≡ true → PassesIn n most old new
passes n most number until old before new some path few early within runs over much = record {
  before = before;
  path = path;
  pieces = number - 1;
  few = few;
  until = until;
  early = early;
  within = omega (arith, some, within);
  runs = runs;
  whole = over_whole until new over;
  much = much_of most (size_held new) much;
}

-- or it hasn't
pub few_more : (most number : ℕ) (old new : Held) → held_goes_on (number * piece) new ≡ false → nat_lt most (size_held new) ≡ false → IsFewAfter most (number + 1 - 1) old new
few_more most number old new over few =
    let back : number ≡ number + 1 - 1 = omega arith in
    subst (λ (k : ℕ). IsFewAfter most k old new) back (inr (over, few_of most (size_held new) few))

-- What is written of it.

-- the bytes that a station holds are those of each state that it stands for
pub size_alike : (h : Held) (m : State) → Stands h m → size_held h ≡ size_of_state m
size_alike h m k =
    ap (λ (cs : List (List ℕ)). size_by cs h.kept.log) (sym (consoles_stand h m k))
    ∙ ap (size_by m.consoles) (sym k.agrees.kept.log)

-- by how far it went
pub writes_up_to : (extent : Extent) (n most : ℕ) (read : Result State Refusal) (s t : Held) (old new : Option (List ℕ)) → Begins read (Stands s) → RunsWithin n s t → PieceComesTo extent n most s t → Appends old new (held_text t) → Begins read (WritesUpTo extent most t old new n)
writes_up_to Whole n most read s t old new b within c a =
    let w = writes_by old new n read s t b (to_end n s t within c.over) a in
    (w.0, w.1, record { by = w.2; few = subst (λ (size : ℕ). size ≤ most) (size_alike t w.2.last w.2.stands) c.few })
writes_up_to TooMuch n most read s t old new b within c a =
    let u = within.runs b.0 b.2 in (
      b.0,
      b.1,
      record {
        last = u.0;
        reached = u.1;
        whole = owed_stands t u.0 u.2 ∙ c.whole;
        much = subst (λ (size : ℕ). most < size) (size_alike t u.0 u.2) c.much;
        stands = u.2;
        written = subst (Appends old new) (text_alike t u.0 u.2) a;
      },
    )

-- what the processor did
pub comes_really : (extent : Extent) (n most start : ℕ) (read : Result Loaded Refusal) (s t : Held) → Begins read (BeginsWith start s) → RealPath s t → PieceComesTo extent n most s t → Begins read (ComesReally extent n most start t)
comes_really extent n most start read s t b path c = (b.0, b.1, record { first = s; begins = b.2; path = path; comes = c })
