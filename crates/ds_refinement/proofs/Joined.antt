-- Paths of steps that are real.
use Rattle.std.proofs.Common.{◌≡◌, ◌⊎◌, ℕ, ◌++◌, true, false, List, [], ◌∷◌, inl, inr, refl, sym, subst, ◌∙◌}
use Rattle.std.specs.Prelude.{IsSome}
use Rattle.ds_core.specs.declared.event.Event.{Event}
use Rattle.ds_core.specs.declared.event.Event.TheVariants.{Retired, Branched, Raised}
use Rattle.ds_core.specs.Core as core
use Rattle.ds_core.specs.Effect as effect
use Rattle.ds_policy.specs.declared.access.Access.{Access}
use Rattle.ds_policy.specs.declared.access.Verdict.{Verdict}
use Rattle.ds_policy.specs.declared.access.Verdict.TheVariants.{Allowed, Denied}
use Rattle.ds_policy.specs.Grants.{PageState}
use Rattle.ds_policy.specs.Pages.{decide}
use Rattle.ds_grants.specs.State.{page_state}
use Rattle.ds_refinement.specs.declared.cause.Cause.{Cause}
use Rattle.ds_refinement.specs.declared.cause.Cause.TheVariants as cause
use Rattle.ds_refinement.specs.declared.step.Step.{Step}
use Rattle.ds_refinement.specs.Held.{Held}
use Rattle.ds_refinement.specs.Inner.Stands.{IsSound}
use Rattle.ds_refinement.specs.Steps.{Follows, Moves}
use Rattle.ds_refinement.specs.Inner.Services.{after_event, after_word}
use Rattle.ds_refinement.specs.Told.{told}
use Rattle.ds_refinement.specs.Copying.{AwaitsCopy}
use Rattle.ds_refinement.specs.Pairs.{HasNoNewPairs}
use Rattle.ds_refinement.specs.Units.{EndsUnit, has_left_user, is_served}
use Rattle.ds_refinement.specs.Real.{GoesBack, GoesBackBy, HasUnit, IsReal, MayGoBack, RealPath, EndsFirstUnit, Through}
use Rattle.ds_refinement.proofs.Late.{told_store}

pub one_step : (kind : Step) (old new : Held) → Follows kind old new → Moves kind old new → IsReal old new → RealPath old new
one_step kind old new f m r = record { path = old ∷ []; through = ((kind, f, m, r), refl) }

pub through_both : (old between new : Held) (before afterwards : List Held) → Through old before between → Through between afterwards new → Through old (afterwards ++ before) new
through_both old between new before [] a b = subst (Through old before) (sym b) a
through_both old between new before (last ∷ afterwards) a b = (b.0, through_both old between last before afterwards a b.1)

pub path_join : (old between new : Held) → RealPath old between → RealPath between new → RealPath old new
path_join old between new a b = record { path = b.path ++ a.path; through = through_both old between new a.path b.path a.through b.through }

-- a state is left that the station stands for
pub after : (step : Step) (old new : Held) → IsSound old → Follows step old new → IsSound new
after step old new s f = let t = f.follows s.state s.stands in record { state = t.0; stands = t.2 }

sound_through : (old new : Held) (path : List Held) → IsSound old → Through old path new → IsSound new
sound_through old new [] s t = subst IsSound (sym t) s
sound_through old new (last ∷ before) s t = after t.0.0 last new (sound_through old last before s t.1) t.0.1

pub path_sound : (old new : Held) → IsSound old → RealPath old new → IsSound new
path_sound old new s r = sound_through old new r.path s r.through

-- A step of the processor that serves nothing is asked only to be one.
taken : (h new : Held) (event : Event) → HasUnit h → is_served h.core ≡ false → effect.step h.core h.bus ≡ (record { event = event; core = new.core; bus = new.bus }) → IsReal h new
taken h new event has user is = record {
  instruction = λ unit other. (event, is);
  service = λ unit served. (let no : false ≡ true = sym user ∙ served in absurd (cc));
  random = λ all. (let no : false ≡ true = sym user ∙ all has in absurd (cc));
  pairs = λ all. (let no : false ≡ true = sym user ∙ all has in absurd (cc));
}

-- an instruction of a unit
pub instruction_real : (e : Event) (h : Held) (s : core.Step) → HasUnit h → is_served h.core ≡ false → effect.step h.core h.bus ≡ (record { event = e; core = s.core; bus = s.bus }) → IsReal h (after_event e h s)
instruction_real Retired h s has user is = taken h (after_event Retired h s) Retired has user is
instruction_real Branched h s has user is = taken h (after_event Branched h s) Branched has user is
instruction_real (Raised code) h s has user is = taken h (after_event (Raised code) h s) (Raised code) has user is

-- a word of the handler
pub word_real : (h : Held) → HasUnit h → is_served h.core ≡ false → IsReal h (after_word h (effect.step h.core h.bus))
word_real h has user = taken h (after_word h (effect.step h.core h.bus)) (effect.step h.core h.bus).event has user refl

-- a service that ends its unit, where the exception came from user mode and what was told ends it
pub end_real : (h new : Held) (p : ℕ) (rest : List ℕ) (why : Cause) → h.kept.state.ready ≡ p ∷ rest → is_served h.core ≡ true → has_left_user h.core ≡ true
    → told h.core.system (page_state h.kept.grants h.bus.memory) p ≡ why → EndsUnit (page_state h.kept.grants h.bus.memory) p h.core.system.bad_vaddr why
    → IsSome new.kept.state.owed → new.core.random ≡ h.core.random → HasNoNewPairs h.core.entries new.core.entries → IsReal h new
end_real h new p rest why ready served left is ends owed random pairs = record {
  instruction = λ has other. (let no : true ≡ false = sym served ∙ other in absurd (cc));
  service = λ has at. inl (record {
    owed = owed;
    left = left;
    stops = subst (λ (ps : List ℕ). EndsFirstUnit ps h) (sym ready)
        (subst (λ (w : Cause). EndsUnit (page_state h.kept.grants h.bus.memory) p h.core.system.bad_vaddr w) (sym is) ends);
  });
  random = λ has. random;
  pairs = λ has. pairs;
}

-- a service that goes back, where a store waits for a copy
pub copy_real : (h new : Held) (p : ℕ) (rest : List ℕ) → h.kept.state.ready ≡ p ∷ rest → is_served h.core ≡ true → AwaitsCopy h.core.system h.kept.grants p
    → GoesBack h new → new.core.random ≡ h.core.random → HasNoNewPairs h.core.entries new.core.entries → IsReal h new
copy_real h new p rest ready served waits back random pairs = record {
  instruction = λ has other. (let no : true ≡ false = sym served ∙ other in absurd (cc));
  service = λ has at. inr (record {
    may = inr (subst (λ (ps : List ℕ). GoesBackBy ps h) (sym ready) (
      subst (λ (w : Cause). MayGoBack (page_state h.kept.grants h.bus.memory) p h.core.system.bad_vaddr w)
          (sym (told_store h.core.system h.kept.grants p waits (page_state h.kept.grants h.bus.memory))) (waits.page, waits.offset, waits.allowed),
      waits,
    ));
    back = back;
  });
  random = λ has. random;
  pairs = λ has. pairs;
}

-- a service that goes back after a double miss
pub double_real : (h new : Held) → is_served h.core ≡ true → has_left_user h.core ≡ false → GoesBack h new → new.core.random ≡ h.core.random → HasNoNewPairs h.core.entries new.core.entries → IsReal h new
double_real h new served nested back random pairs = record {
  instruction = λ has other. (let no : true ≡ false = sym served ∙ other in absurd (cc));
  service = λ has at. inr (record { may = inl nested; back = back });
  random = λ has. random;
  pairs = λ has. pairs;
}

-- What was told ends a unit or lets it go on.

by_verdict : (s : PageState) (p bad : ℕ) (access : Access) (v : Verdict) → decide s.table p access.kind access.size bad ≡ v → EndsUnit s p bad (cause.Access access) ⊎ MayGoBack s p bad (cause.Access access)
by_verdict s p bad access (Allowed page offset) is = inr (page, offset, is)
by_verdict s p bad access (Denied rule code) is = inl (rule, code, is)

pub ends_or_goes_back : (s : PageState) (p bad : ℕ) (why : Cause) → EndsUnit s p bad why ⊎ MayGoBack s p bad why
ends_or_goes_back s p bad (cause.Access access) = by_verdict s p bad access (decide s.table p access.kind access.size bad) refl
ends_or_goes_back s p bad (cause.Fault code) = inl tt
ends_or_goes_back s p bad cause.Call = inl tt

pub never_both : (s : PageState) (p bad : ℕ) (why : Cause) → EndsUnit s p bad why → MayGoBack s p bad why → ⊥
never_both s p bad (cause.Access access) ends back = let no : Denied ends.0 ends.1 ≡ Allowed back.0 back.1 = sym ends.2 ∙ back.2 in absurd (cc)
never_both s p bad (cause.Fault code) ends back = back
never_both s p bad cause.Call ends back = back
