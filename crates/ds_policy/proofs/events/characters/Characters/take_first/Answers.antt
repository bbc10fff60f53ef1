use Rattle.std.proofs.Common.{◌≡◌, ◌∙◌, ◌+◌, ◌^◌, ◌<◌, ◌≤◌, sym, ap, subst, List, [], length, drop, Some, arith, rules}
use Rattle.std.specs.Prelude.{slice_index_or, slice_get}
use Rattle.ds_policy.specs.declared.command.Character.{Character}
use Rattle.ds_policy.specs.declared.events.characters.KeyLine.{KeyLine}
use Rattle.ds_policy.proofs.KeyLineSteps.{byte_within, none_left, first_left, next_line, lines_next, lines_stay}
use Rattle.ds_policy.proofs.events.characters.Characters.take_first.Goals as goal
use Rattle.ds_policy.proofs.events.characters.Characters.take_first.Goals.{then-self-line, else-self-line}

pub returns-in_err-line-clause-value : goal.returns-in_err-line-clause-value
returns-in_err-line-clause-value c =
    let ls : List KeyLine = c.self.inside.lines.items in
    let all : c.deref.result.now ≡ ls = c.deref.ensures.value in
    let past : length ls ≤ c.self.inside.over = subst (λ (xs : List KeyLine). length xs ≤ c.self.inside.over) all (search rules) in
    let none : c.args.self.now ≡ [] = sym c.self.view_is ∙ none_left c.self.inside.taken c.self.inside.over ls c.self.inside.bytes.items past in
    c.from_residual.ensures ∙ ap (λ (xs : List Character). slice_get xs 0) (sym none)

pub returns-in_err-line-clause-rest : goal.returns-in_err-line-clause-rest
returns-in_err-line-clause-rest c =
    let ls : List KeyLine = c.self.inside.lines.items in
    let all : c.deref.result.now ≡ ls = c.deref.ensures.value in
    let past : length ls ≤ c.self.inside.over = subst (λ (xs : List KeyLine). length xs ≤ c.self.inside.over) all (search rules) in
    let none : c.args.self.now ≡ [] = sym c.self.view_is ∙ none_left c.self.inside.taken c.self.inside.over ls c.self.inside.bytes.items past in
    none ∙ ap (λ (xs : List Character). drop 1 xs) (sym none)

pub index-byte-requires : goal.index-byte-requires
index-byte-requires c =
    let ls : List KeyLine = c.self.inside.lines.items in
    let all : c.deref.result.now ≡ ls = c.deref.ensures.value in
    let within : c.self.inside.over < length ls = subst (λ (xs : List KeyLine). c.self.inside.over < length xs) all c.in_ok-line.ensures.lookup.3.0 in
    let is : c.in_ok-line.field-0.now ≡ slice_index_or ls c.self.inside.over c.in_ok-line.field-0.now = subst (λ (xs : List KeyLine). c.in_ok-line.field-0.now ≡ slice_index_or xs c.self.inside.over c.in_ok-line.field-0.now) all c.in_ok-line.ensures.lookup.1 in
    let inside = byte_within c.self.inside.taken c.self.inside.over ls c.self.inside.bytes.items c.in_ok-line.field-0.now within is c.self.invariant.1 in
    omega (arith, c.self.inside.bytes.ok.0)

pub overflow_add-self : goal.overflow_add-self
overflow_add-self c =
    let ls : List KeyLine = c.self.inside.lines.items in
    let all : c.deref.result.now ≡ ls = c.deref.ensures.value in
    let within : c.self.inside.over < length ls = subst (λ (xs : List KeyLine). c.self.inside.over < length xs) all c.in_ok-line.ensures.lookup.3.0 in
    let is : c.in_ok-line.field-0.now ≡ slice_index_or ls c.self.inside.over c.in_ok-line.field-0.now = subst (λ (xs : List KeyLine). c.in_ok-line.field-0.now ≡ slice_index_or xs c.self.inside.over c.in_ok-line.field-0.now) all c.in_ok-line.ensures.lookup.1 in
    let inside = byte_within c.self.inside.taken c.self.inside.over ls c.self.inside.bytes.items c.in_ok-line.field-0.now within is c.self.invariant.1 in
    let fits : c.self.inside.taken + 1 < 2 ^ 64 = omega (arith, c.self.inside.bytes.ok.0, c.self.inside.bytes.ok.1, c.self.inside.bytes.small) in
    search rules

pub invariant_of-self : goal.invariant_of-self
invariant_of-self c =
    let ls : List KeyLine = c.self.inside.lines.items in
    let all : c.deref.result.now ≡ ls = c.deref.ensures.value in
    let within : c.self.inside.over < length ls = subst (λ (xs : List KeyLine). c.self.inside.over < length xs) all c.in_ok-line.ensures.lookup.3.0 in
    let is : c.in_ok-line.field-0.now ≡ slice_index_or ls c.self.inside.over c.in_ok-line.field-0.now = subst (λ (xs : List KeyLine). c.in_ok-line.field-0.now ≡ slice_index_or xs c.self.inside.over c.in_ok-line.field-0.now) all c.in_ok-line.ensures.lookup.1 in
    (omega arith, lines_next c.self.inside.taken c.self.inside.over ls c.self.inside.bytes.items c.in_ok-line.field-0.now within is c.self.invariant.1 (search rules))

pub invariant_of-self-else-self-line : goal.invariant_of-self-else-self-line
invariant_of-self-else-self-line c =
    let ls : List KeyLine = c.self.inside.lines.items in
    let all : c.deref.result.now ≡ ls = c.deref.ensures.value in
    let within : c.self.inside.over < length ls = subst (λ (xs : List KeyLine). c.self.inside.over < length xs) all c.in_ok-line.ensures.lookup.3.0 in
    let is : c.in_ok-line.field-0.now ≡ slice_index_or ls c.self.inside.over c.in_ok-line.field-0.now = subst (λ (xs : List KeyLine). c.in_ok-line.field-0.now ≡ slice_index_or xs c.self.inside.over c.in_ok-line.field-0.now) all c.in_ok-line.ensures.lookup.1 in
    (c.self.invariant.0, lines_stay c.self.inside.taken c.self.inside.over ls c.self.inside.bytes.items c.in_ok-line.field-0.now within is c.self.invariant.1 (search rules))

pub returns-clause-value : goal.returns-clause-value
returns-clause-value c =
    let ls : List KeyLine = c.self.inside.lines.items in
    let all : c.deref.result.now ≡ ls = c.deref.ensures.value in
    let within : c.self.inside.over < length ls = subst (λ (xs : List KeyLine). c.self.inside.over < length xs) all c.in_ok-line.ensures.lookup.3.0 in
    let is : c.in_ok-line.field-0.now ≡ slice_index_or ls c.self.inside.over c.in_ok-line.field-0.now = subst (λ (xs : List KeyLine). c.in_ok-line.field-0.now ≡ slice_index_or xs c.self.inside.over c.in_ok-line.field-0.now) all c.in_ok-line.ensures.lookup.1 in
    let first = first_left c.self.inside.taken c.self.inside.over ls c.self.inside.bytes.items c.in_ok-line.field-0.now c.index-byte.result.now within is (search rules) c.self.invariant.1 in
    ap (λ (x : Character). Some x) c.character.ensures ∙ ap (λ (xs : List Character). slice_get xs 0) (sym first ∙ c.self.view_is)

pub returns-clause-rest : goal.returns-clause-rest
returns-clause-rest c =
    let ls : List KeyLine = c.self.inside.lines.items in
    let all : c.deref.result.now ≡ ls = c.deref.ensures.value in
    let within : c.self.inside.over < length ls = subst (λ (xs : List KeyLine). c.self.inside.over < length xs) all c.in_ok-line.ensures.lookup.3.0 in
    let is : c.in_ok-line.field-0.now ≡ slice_index_or ls c.self.inside.over c.in_ok-line.field-0.now = subst (λ (xs : List KeyLine). c.in_ok-line.field-0.now ≡ slice_index_or xs c.self.inside.over c.in_ok-line.field-0.now) all c.in_ok-line.ensures.lookup.1 in
    let first = first_left c.self.inside.taken c.self.inside.over ls c.self.inside.bytes.items c.in_ok-line.field-0.now c.index-byte.result.now within is (search rules) c.self.invariant.1 in
    let rest = ap (λ (xs : List Character). drop 1 xs) (sym first ∙ c.self.view_is) in
    elim c.if-self-line.branch [
      | then-self-line w ↦ w.self-is ∙ sym (next_line (c.self.inside.taken + 1) c.self.inside.over ls c.self.inside.bytes.items c.in_ok-line.field-0.now within is (search rules)) ∙ rest
      | else-self-line w ↦ w.self-is ∙ rest
    ]
