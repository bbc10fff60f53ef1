-- The lines of an account, one after another.
use Rattle.std.proofs.Common.{◌≡◌, ℕ, suc, ◌+◌, ◌-◌, ◌<◌, List, ◌++◌, append_assoc, sym, ap, ◌∙◌, arith}
use Rattle.ds_procs.specs.declared.process.Standing.{Standing}
use Rattle.ds_pagemap.specs.Machine.{process_of}
use Rattle.ds_refinement.specs.Held.{Held}
use Rattle.ds_station.specs.Reads.{address_held}
use Rattle.ds_trace.specs.Accounts.{all_stand, stands_text}

-- the line of one more process
pub stand_more : (lines : List (List ℕ)) (h : Held) (p count : ℕ) (line new : List ℕ) (s : Standing) (pc : ℕ) (whole : List ℕ) → p < count + 1 → line ++ all_stand lines h p (count + 1 - p) ≡ whole → new ≡ line ++ stands_text lines p s pc
    → s ≡ (process_of h.kept.state p).standing → pc ≡ address_held h p → new ++ all_stand lines h (p + 1) (count + 1 - (p + 1)) ≡ whole
stand_more lines h p count line new s pc whole within before adds is at =
    let rest : List ℕ = all_stand lines h (p + 1) (count + 1 - (p + 1)) in
    let left : count + 1 - p ≡ suc (count + 1 - (p + 1)) = omega (arith, within) in
    let text : stands_text lines p s pc ≡ stands_text lines p (process_of h.kept.state p).standing (address_held h p) =
    ap (λ (x : Standing). stands_text lines p x pc) is ∙ ap (stands_text lines p (process_of h.kept.state p).standing) at in
    ap (λ (l : List ℕ). l ++ rest) (adds ∙ ap (λ (l : List ℕ). line ++ l) text)
    ∙ (append_assoc line (stands_text lines p (process_of h.kept.state p).standing (address_held h p)) rest
    ∙ (sym (ap (λ (n : ℕ). line ++ all_stand lines h p n) left) ∙ before))
