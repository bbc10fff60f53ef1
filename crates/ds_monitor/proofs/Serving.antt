-- Services, and one after the other.
use Rattle.std.proofs.Common.{◌≡◌, ◌∙◌, ℕ, List, [], ◌++◌, flat_map, sym, ap, ap₂, arith, length-append}
use Rattle.std.proofs.lemmas.List.{append-nil, append_assoc}
use Rattle.std.proofs.lemmas.Grind.{flat_map-append}
use Rattle.ds_policy.specs.Grants.{PageState}
use Rattle.ds_log.specs.declared.line.Line.{Line}
use Rattle.ds_log.specs.Text.{line_text}
use Rattle.ds_grants.specs.State.{page_state}
use Rattle.ds_pagemap.specs.Machine.{State}
use Rattle.ds_refinement.specs.Held.{Kept, no_memory}
use Rattle.ds_refinement.specs.Inner.Held.{whole}
use Rattle.ds_refinement.specs.Inner.Services.{IsBare, Serves}
use Rattle.ds_monitor.specs.Inner.Blind.{IsBlind}
use Rattle.ds_monitor.specs.Inner.Kept.{kept_after}

bare_state : (m : State) → IsBare m → m ≡ record m { memory = no_memory; log = [] }
bare_state m b = ap₂ (λ (s : PageState) (l : List Line). record m { memory = s; log = l }) b.memory b.log

-- what is done blindly leaves a bare state bare
pub bare_after : (f : State → State) (m : State) → IsBlind f → IsBare m → IsBare (f m)
bare_after f m blind b =
    let e : f m ≡ record (f m) { memory = no_memory; log = [] } = ap f (bare_state m b) ∙ blind m no_memory [] in
    record { memory = ap (λ (s : State). s.memory) e; log = ap (λ (s : State). s.log) e }

-- what is done blindly serves
pub blind_serves : (f : State → State) (k : Kept) (memory : List ℕ) → IsBlind f → IsBare k.state → Serves f k memory (kept_after f k) memory
blind_serves f k memory blind b = record {
  lines = [];
  state = λ log. blind k.state (page_state k.grants memory) log ∙ ap (λ (l : List Line). whole (kept_after f k) memory l) (sym (append-nil log));
  bare = bare_after f k.state blind b;
  text = sym (append-nil k.log);
  count = omega arith;
}

-- one service after another
pub serves_then : (f g : State → State) (a b c : Kept) (x y z : List ℕ) → Serves f a x b y → Serves g b y c z → Serves (λ (m : State). g (f m)) a x c z
serves_then f g a b c x y z s t = record {
  lines = s.lines ++ t.lines;
  state = λ log. ap g (s.state log) ∙ (t.state (log ++ s.lines) ∙ ap (λ (l : List Line). whole c z l) (append_assoc log s.lines t.lines));
  bare = t.bare;
  text = t.text ∙ (ap (λ (l : List ℕ). l ++ flat_map line_text t.lines) s.text ∙ (append_assoc a.log (flat_map line_text s.lines) (flat_map line_text t.lines) ∙ ap (λ (l : List ℕ). a.log ++ l) (sym (flat_map-append line_text s.lines t.lines))));
  count = omega (arith, s.count, t.count, length-append s.lines t.lines);
}

-- a service is what does the same
pub serves_as : (f g : State → State) (a c : Kept) (x z : List ℕ) → ((log : List Line) → g (whole a x log) ≡ f (whole a x log)) → Serves f a x c z → Serves g a x c z
serves_as f g a c x z same s = record {
  lines = s.lines;
  state = λ log. same log ∙ s.state log;
  bare = s.bare;
  text = s.text;
  count = s.count;
}
