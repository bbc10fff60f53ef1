-- A run that is under way: a part of its text is written, and the rest of it is to come.
use Rattle.std.proofs.Common.{◌≡◌, ◌∙◌, ap, refl, sym, subst, ℕ, suc, ◌+◌, ◌-◌, ◌<◌, List, [], ◌++◌, append_assoc, arith}
use Rattle.std.specs.Prelude.{Option, Some, None}
use Rattle.std.specs.Io.KnownBytes.{Appends}
use Rattle.ds_text.specs.Sent.{AppendsPart}
use Rattle.ds_text.proofs.Sends.{appends_none, appends_both, part_after, part_before}
use Rattle.ds_words.specs.declared.bare_view.BareView.{BareView}
use Rattle.ds_bare.specs.declared.ending.Ending.{Ending}
use Rattle.ds_bare.specs.declared.ending.Ending.TheVariants.{Counted}
use Rattle.ds_bare.specs.Machine.{Machine}
use Rattle.ds_bare.specs.Ends.{end_text}
use Rattle.ds_bare.specs.Runs.{end_or, end_or_later, ending_at, ending_from, run_from, step_told, turned}
use Rattle.ds_bare.specs.Inner.Runs.{IsUnderWay}

-- nothing is written yet
pub under_way_first : (a : Option (List ℕ)) (whole : List ℕ) → IsUnderWay a a whole whole
under_way_first a whole = record { written = []; appends = appends_none a; goes_on = refl }

-- a piece more
pub under_way_more : (a b d : Option (List ℕ)) (piece rest whole : List ℕ) → IsUnderWay a b (piece ++ rest) whole → Appends b d piece → IsUnderWay a d rest whole
under_way_more a b d piece rest whole u p = record {
  written = u.written ++ piece;
  appends = appends_both a b d u.written piece u.appends p;
  goes_on = append_assoc u.written piece rest ∙ u.goes_on;
}

-- the last piece
pub under_way_last : (a b d : Option (List ℕ)) (piece whole : List ℕ) → IsUnderWay a b piece whole → Appends b d piece → Appends a d whole
under_way_last a b d piece whole u p = subst (Appends a d) u.goes_on (appends_both a b d u.written piece u.appends p)

-- a part of the next piece
pub under_way_part : (a b d : Option (List ℕ)) (piece rest whole : List ℕ) → IsUnderWay a b (piece ++ rest) whole → AppendsPart b d piece → AppendsPart a d whole
under_way_part a b d piece rest whole u p = subst (AppendsPart a d) u.goes_on (part_after a b d u.written (piece ++ rest) u.appends (part_before b d piece rest p))

-- a part of the last piece
pub under_way_last_part : (a b d : Option (List ℕ)) (piece whole : List ℕ) → IsUnderWay a b piece whole → AppendsPart b d piece → AppendsPart a d whole
under_way_last_part a b d piece whole u p = subst (AppendsPart a d) u.goes_on (part_after a b d u.written piece u.appends p)

-- nothing at all is a part
pub part_none : (a : Option (List ℕ)) (text : List ℕ) → AppendsPart a a text
part_none a text = record { part = []; rest = text; whole = refl; appends = appends_none a }

-- the text of so many instructions, by the first of them
pub run_first : (q : BareView) (n k : ℕ) (m : Machine) → k < n → run_from q (n - k) k m ≡ step_told q k m ++ end_or q (ending_at k m) (k + 1) (turned k m) (run_from q (n - (k + 1)) (k + 1) (turned k m))
run_first q n k m l = let e : n - k ≡ suc (n - (k + 1)) = omega arith in rw e refl

-- and why they end
pub ending_first : (n k : ℕ) (m : Machine) → k < n → ending_from (n - k) k m ≡ end_or_later (ending_at k m) (ending_from (n - (k + 1)) (k + 1) (turned k m))
ending_first n k m l = let e : n - k ≡ suc (n - (k + 1)) = omega arith in rw e refl

-- a text that is under way, and an instruction more
under_way_turn : (a b d : Option (List ℕ)) (q : BareView) (n k : ℕ) (m : Machine) (whole : List ℕ) → k < n → IsUnderWay a b (run_from q (n - k) k m) whole → Appends b d (step_told q k m) → IsUnderWay a d (end_or q (ending_at k m) (k + 1) (turned k m) (run_from q (n - (k + 1)) (k + 1) (turned k m))) whole
under_way_turn a b d q n k m whole l u p = under_way_more a b d (step_told q k m) _ whole (subst (λ (rest : List ℕ). IsUnderWay a b rest whole) (run_first q n k m l) u) p

-- after which it goes on
pub turn_goes_on : (a b d : Option (List ℕ)) (q : BareView) (n k : ℕ) (m m2 : Machine) (e : Option Ending) (whole : List ℕ) → k < n → IsUnderWay a b (run_from q (n - k) k m) whole → Appends b d (step_told q k m) → e ≡ ending_at k m → m2 ≡ turned k m → e ≡ None → IsUnderWay a d (run_from q (n - (k + 1)) (k + 1) m2) whole
turn_goes_on a b d q n k m m2 e whole l u p ends same none =
    subst (λ (x : Machine). IsUnderWay a d (run_from q (n - (k + 1)) (k + 1) x) whole) (sym same)
    (subst (λ (x : Option Ending). IsUnderWay a d (end_or q x (k + 1) (turned k m) (run_from q (n - (k + 1)) (k + 1) (turned k m))) whole) (sym ends ∙ none)
    (under_way_turn a b d q n k m whole l u p))

-- or with which it ends
turn_ends : (a b d : Option (List ℕ)) (q : BareView) (n k : ℕ) (m m2 : Machine) (o : Option Ending) (e : Ending) (whole : List ℕ) → k < n → IsUnderWay a b (run_from q (n - k) k m) whole → Appends b d (step_told q k m) → o ≡ ending_at k m → m2 ≡ turned k m → o ≡ Some e → IsUnderWay a d (end_text q e (k + 1) m2) whole
turn_ends a b d q n k m m2 o e whole l u p ends same some =
    subst (λ (x : Machine). IsUnderWay a d (end_text q e (k + 1) x) whole) (sym same)
    (subst (λ (x : Option Ending). IsUnderWay a d (end_or q x (k + 1) (turned k m) (run_from q (n - (k + 1)) (k + 1) (turned k m))) whole) (sym ends ∙ some)
    (under_way_turn a b d q n k m whole l u p))

-- and is told to its end
pub end_told : (a b d f : Option (List ℕ)) (q : BareView) (n k : ℕ) (m m2 : Machine) (o : Option Ending) (e : Ending) (whole : List ℕ) → k < n → IsUnderWay a b (run_from q (n - k) k m) whole → Appends b d (step_told q k m) → o ≡ ending_at k m → m2 ≡ turned k m → o ≡ Some e → Appends d f (end_text q e (k + 1) m2) → Appends a f whole
end_told a b d f q n k m m2 o e whole l u p ends same some r = under_way_last a d f (end_text q e (k + 1) m2) whole (turn_ends a b d q n k m m2 o e whole l u p ends same some) r

-- or is cut off there
pub end_cut : (a b d f : Option (List ℕ)) (q : BareView) (n k : ℕ) (m m2 : Machine) (o : Option Ending) (e : Ending) (whole : List ℕ) → k < n → IsUnderWay a b (run_from q (n - k) k m) whole → Appends b d (step_told q k m) → o ≡ ending_at k m → m2 ≡ turned k m → o ≡ Some e → AppendsPart d f (end_text q e (k + 1) m2) → AppendsPart a f whole
end_cut a b d f q n k m m2 o e whole l u p ends same some r = under_way_last_part a d f (end_text q e (k + 1) m2) whole (turn_ends a b d q n k m m2 o e whole l u p ends same some) r

-- or was cut off in the instruction's line
pub turn_cut : (a b d : Option (List ℕ)) (q : BareView) (n k : ℕ) (m : Machine) (whole : List ℕ) → k < n → IsUnderWay a b (run_from q (n - k) k m) whole → AppendsPart b d (step_told q k m) → AppendsPart a d whole
turn_cut a b d q n k m whole l u p = under_way_part a b d (step_told q k m) _ whole (subst (λ (rest : List ℕ). IsUnderWay a b rest whole) (run_first q n k m l) u) p

-- when all instructions are done
all_done : (a b : Option (List ℕ)) (q : BareView) (n k : ℕ) (m : Machine) (whole : List ℕ) → k ≡ n → IsUnderWay a b (run_from q (n - k) k m) whole → IsUnderWay a b (end_text q Counted n m) whole
all_done a b q n k m whole same u =
    let none : n - k ≡ 0 = omega (arith, same) in
    subst (λ (x : ℕ). IsUnderWay a b (end_text q Counted x m) whole) same (subst (λ (left : ℕ). IsUnderWay a b (run_from q left k m) whole) none u)

pub all_told : (a b d : Option (List ℕ)) (q : BareView) (n k : ℕ) (m : Machine) (whole : List ℕ) → k ≡ n → IsUnderWay a b (run_from q (n - k) k m) whole → Appends b d (end_text q Counted n m) → Appends a d whole
all_told a b d q n k m whole same u r = under_way_last a b d (end_text q Counted n m) whole (all_done a b q n k m whole same u) r

pub all_cut : (a b d : Option (List ℕ)) (q : BareView) (n k : ℕ) (m : Machine) (whole : List ℕ) → k ≡ n → IsUnderWay a b (run_from q (n - k) k m) whole → AppendsPart b d (end_text q Counted n m) → AppendsPart a d whole
all_cut a b d q n k m whole same u r = under_way_last_part a b d (end_text q Counted n m) whole (all_done a b q n k m whole same u) r

-- why it ends
pub ending_goes_on : (n k : ℕ) (m m2 : Machine) (e : Option Ending) (last : Ending) → k < n → ending_from (n - k) k m ≡ last → e ≡ ending_at k m → m2 ≡ turned k m → e ≡ None → ending_from (n - (k + 1)) (k + 1) m2 ≡ last
ending_goes_on n k m m2 e last l before ends same none =
    ap (λ (x : Machine). ending_from (n - (k + 1)) (k + 1) x) same
    ∙ (ap (λ (x : Option Ending). end_or_later x (ending_from (n - (k + 1)) (k + 1) (turned k m))) (sym none ∙ ends)
    ∙ (sym (ending_first n k m l) ∙ before))

pub ending_here : (n k : ℕ) (m : Machine) (o : Option Ending) (e last : Ending) → k < n → ending_from (n - k) k m ≡ last → o ≡ ending_at k m → o ≡ Some e → e ≡ last
ending_here n k m o e last l before ends some =
    ap (λ (x : Option Ending). end_or_later x (ending_from (n - (k + 1)) (k + 1) (turned k m))) (sym some ∙ ends)
    ∙ (sym (ending_first n k m l) ∙ before)
