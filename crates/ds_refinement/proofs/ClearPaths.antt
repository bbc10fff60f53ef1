-- Clear paths: a step, one after the other, and those inside a unit.
use Rattle.std.proofs.Common.{◌≡◌, ◌⊎◌, ◌<◌, ◌≤◌, ◌++◌, Bool, true, false, List, [], ◌∷◌, Option, None, inl, inr, refl, sym, ap, subst, ◌∙◌, arith}
use Rattle.std.specs.Prelude.{is_some, not}
use Rattle.ds_word.specs.Word.{truth}
use Rattle.ds_pagemap.specs.declared.turn.Turn.{Turn}
use Rattle.ds_refinement.specs.declared.step.Step.{Step}
use Rattle.ds_refinement.specs.declared.step.Step.TheVariants.{Inside, Unit as Ends, Boundary, Over}
use Rattle.ds_refinement.specs.Held.{Held}
use Rattle.ds_refinement.specs.Real.{IsReal, RealPath, Through}
use Rattle.ds_refinement.specs.Steps.{Follows, Moves, ticks_of}
use Rattle.ds_refinement.specs.Inner.Clear.{AreMet, ClearPath, IsClearOf, IsMet}
use Rattle.ds_refinement.proofs.Joined.{through_both}

pub clear_step : (marks : List Bool) (kind : Step) (old new : Held) → Follows kind old new → Moves kind old new → IsReal old new → ClearPath marks old new
clear_step marks kind old new f m r = record { path = old ∷ []; through = ((kind, f, m, r), refl); met = (inl refl, tt) }

-- what a later path meets
met_on : (marks : List Bool) (old between h : Held) → IsMet marks old between → IsMet marks between h → IsMet marks old h
met_on marks old between h at (inl same) = subst (IsMet marks old) (sym same) at
met_on marks old between h at (inr clear) = inr clear

met_both : (marks : List Bool) (old between : Held) → IsMet marks old between → (afterwards before : List Held) → AreMet marks between afterwards → AreMet marks old before → AreMet marks old (afterwards ++ before)
met_both marks old between at [] before a b = b
met_both marks old between at (h ∷ afterwards) before a b = (met_on marks old between h at a.0, met_both marks old between at afterwards before a.1 b)

pub clear_join : (marks : List Bool) (old between new : Held) → ClearPath marks old between → IsMet marks old between → ClearPath marks between new → ClearPath marks old new
clear_join marks old between new a at b = record {
  path = b.path ++ a.path;
  through = through_both old between new a.path b.path a.through b.through;
  met = met_both marks old between at b.path a.path b.met a.met;
}

-- Inside a unit.

some_ticks : (slot : Bool) → 1 ≤ ticks_of slot
some_ticks true = omega arith
some_ticks false = omega arith

times_grow : (kind : Step) (last new : Held) → Moves kind last new → last.kept.state.time ≤ new.kept.state.time
times_grow Inside last new m = omega (arith, m.2)
times_grow Ends last new m = omega (arith, m.2)
times_grow Boundary last new m = omega (arith, m.2)
times_grow Over last new m = (let same : new.kept.state.time ≡ last.kept.state.time = ap (λ (h : Held). h.kept.state.time) m in omega (arith, same))

-- where a path stands that began in a unit: in it, or at a later time
abbrev InUnit : Held → Held → Type 0
InUnit old h = ((h.kept.state.owed ≡ None) × (0 < h.own.spent) × (h.kept.state.time ≡ old.kept.state.time)) ⊎ (old.kept.state.time < h.kept.state.time)

on_in_unit : (kind : Step) (old last new : Held) → InUnit old last → Moves kind last new → InUnit old new
on_in_unit Inside old last new (inl here) m = inl (m.1, omega (arith, m.3, here.1), m.2 ∙ here.2)
on_in_unit Ends old last new (inl here) m = inr (omega (arith, m.2, here.2, some_ticks last.core.slot))
on_in_unit Boundary old last new (inl here) m =
    let one : truth (not (is_some last.kept.state.owed)) ≡ 1 = ap (λ (o : Option Turn). truth (not (is_some o))) here.0 in
    inr (omega (arith, m.2, here.2, one))
on_in_unit Over old last new (inl here) m = subst (InUnit old) (sym m) (inl here)
on_in_unit kind old last new (inr later) m = (let grows = times_grow kind last new m in inr (omega (arith, later, grows)))

in_unit : (old : Held) → old.kept.state.owed ≡ None → 0 < old.own.spent → (path : List Held) (new : Held) → Through old path new → InUnit old new
in_unit old owed some [] new t = subst (InUnit old) (sym t) (inl (owed, some, refl))
in_unit old owed some (last ∷ before) new t = on_in_unit t.0.0 old last new (in_unit old owed some before last t.1) t.0.2

met_by : (marks : List Bool) (old last : Held) → InUnit old last → last.kept.state.time ≤ old.kept.state.time → IsClearOf marks last
met_by marks old last (inl here) early = λ none rests ready. absurd (omega (arith, here.1, rests))
met_by marks old last (inr later) early = absurd (omega (arith, later, early))

met_inside : (marks : List Bool) (old : Held) → old.kept.state.owed ≡ None → 0 < old.own.spent → (path : List Held) (new : Held) → Through old path new → new.kept.state.time ≤ old.kept.state.time → AreMet marks old path
met_inside marks old owed some [] new t same = tt
met_inside marks old owed some (last ∷ before) new t same =
    let grows = times_grow t.0.0 last new t.0.2 in
    let early : last.kept.state.time ≤ old.kept.state.time = omega (arith, grows, same) in
    (inr (met_by marks old last (in_unit old owed some before last t.1) early), met_inside marks old owed some before last t.1 early)

-- a path in a unit that has begun, on which no time passes, is clear
pub clear_inside : (marks : List Bool) (old new : Held) → old.kept.state.owed ≡ None → 0 < old.own.spent → new.kept.state.time ≤ old.kept.state.time → RealPath old new → ClearPath marks old new
clear_inside marks old new owed some same p = record { path = p.path; through = p.through; met = met_inside marks old owed some p.path new p.through same }
