-- What is read of a station.
use Rattle.std.proofs.Common.{◌≡◌, ℕ, ◌+◌, ◌*◌, ◌^◌, ◌<◌, ◌≤◌, List, [], ◌∷◌, length, Option, Some, None, sym, ap, subst, ◌∙◌, arith}
use Rattle.std.specs.Prelude.{IfSome}
use Rattle.std.specs.List.{All}
use Rattle.std.proofs.lemmas.List.Elements.{All-head}
use Rattle.ds_procs.specs.declared.process.Standing.TheVariants.{Ready}
use Rattle.ds_pagemap.specs.Machine.{State, first, process_of}
use Rattle.ds_pagemap_laws.specs.Lawful.{IsReady}
use Rattle.ds_word.specs.Bytes.{word_at}
use Rattle.ds_isa.specs.declared.instr.Kind.{Kind}
use Rattle.ds_isa.specs.declared.instr.Size.TheVariants.{Word}
use Rattle.ds_policy.specs.declared.access.Verdict.TheVariants.{Allowed, Denied}
use Rattle.ds_policy.specs.declared.access.Rule.{Rule}
use Rattle.ds_policy.specs.Pages.{decide}
use Rattle.ds_grants.specs.State.{GrantsState, frame_of_page, page_state, pages_in}
use Rattle.ds_grants.specs.Sound.{NamesPages}
use Rattle.ds_refinement.specs.Held.{Held}
use Rattle.ds_refinement.specs.Inner.Stands.{IsSound}
use Rattle.ds_refinement.proofs.Frames.{word_of_page}
use Rattle.ds_refinement.proofs.Tallied.{ranges_of}
use Rattle.ds_kernel.proofs.Fetching.{allowed_page}
use Rattle.ds_station.specs.Reads.{word_for, word_on}

-- the word in a page that may be accessed so
pub word_found : (g : GrantsState) (memory : List ℕ) (kind : Kind) (p address page offset place : ℕ) → NamesPages g → length memory ≡ 2 ^ 23 → decide g.table p kind Word address ≡ Allowed page offset → place ≡ frame_of_page g page * 4096 + offset
    → Some (word_at memory place) ≡ word_for kind (page_state g memory) p address
word_found g memory kind p address page offset place names large is at =
    let on = allowed_page g p kind Word address page offset names is in
    let low = on.at in
    ap (λ (x : ℕ). Some (word_at memory x)) at
    ∙ (ap (λ (w : ℕ). Some w) (word_of_page g memory page offset on.lives on.low names large (omega (arith, low)))
    ∙ ap (word_on (pages_in g memory)) (sym is))

-- or there is none
pub word_denied : (g : GrantsState) (memory : List ℕ) (kind : Kind) (p address : ℕ) (rule : Rule) (code : ℕ) → decide g.table p kind Word address ≡ Denied rule code → None ≡ word_for kind (page_state g memory) p address
word_denied g memory kind p address rule code is = ap (word_on (pages_in g memory)) (sym is)

-- the first of those that are ready has a seat
pub first_seat : (m : State) (ready : List ℕ) (o : Option ℕ) → All (IsReady m) ready → o ≡ first ready → IfSome o (λ p. (0 < p) × (p ≤ length m.processes))
first_seat m [] None all is = tt
first_seat m [] (Some p) all is = absurd (cc)
first_seat m (q ∷ rest) None all is = tt
first_seat m (q ∷ rest) (Some p) all is =
    let head = All-head (IsReady m) q rest all in
    let same : q ≡ p = cc in
    subst (λ (x : ℕ). (0 < x) × (x ≤ length m.processes)) same (head.0, head.1)

-- and is ready
pub first_stands : (m : State) (ready : List ℕ) (o : Option ℕ) → All (IsReady m) ready → o ≡ first ready → IfSome o (λ p. (process_of m p).standing ≡ Ready)
first_stands m [] None all is = tt
first_stands m [] (Some p) all is = absurd (cc)
first_stands m (q ∷ rest) None all is = tt
first_stands m (q ∷ rest) (Some p) all is =
    let head = All-head (IsReady m) q rest all in
    let same : q ≡ p = cc in
    subst (λ (x : ℕ). (process_of m x).standing ≡ Ready) same head.2

-- the buffer has 64 slots
pub all_slots : (h : Held) → IsSound h → length h.core.entries ≡ 64
all_slots h s = (ranges_of h s.state s.stands).size
