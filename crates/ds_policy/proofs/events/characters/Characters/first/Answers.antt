use Rattle.std.proofs.Common.{◌≡◌, ◌∙◌, ◌<◌, ◌≤◌, sym, ap, subst, List, [], length, Some, arith, rules}
use Rattle.std.specs.Prelude.{slice_index_or, slice_get}
use Rattle.ds_policy.specs.declared.command.Character.{Character}
use Rattle.ds_policy.specs.declared.events.characters.KeyLine.{KeyLine}
use Rattle.ds_policy.proofs.KeyLineSteps.{byte_within, none_left, first_left}
use Rattle.ds_policy.proofs.events.characters.Characters.first.Goals as goal

pub returns-in_err-line : goal.returns-in_err-line
returns-in_err-line c =
    let ls : List KeyLine = c.self.inside.lines.items in
    let all : c.deref.result.now ≡ ls = c.deref.ensures.value in
    let past : length ls ≤ c.self.inside.over = subst (λ (xs : List KeyLine). length xs ≤ c.self.inside.over) all (search rules) in
    let none : c.args.self.now ≡ [] = sym c.self.view_is ∙ none_left c.self.inside.taken c.self.inside.over ls c.self.inside.bytes.items past in
    c.from_residual.ensures ∙ ap (λ (xs : List Character). slice_get xs 0) (sym none)

pub index-requires : goal.index-requires
index-requires c =
    let ls : List KeyLine = c.self.inside.lines.items in
    let all : c.deref.result.now ≡ ls = c.deref.ensures.value in
    let within : c.self.inside.over < length ls = subst (λ (xs : List KeyLine). c.self.inside.over < length xs) all c.in_ok-line.ensures.lookup.3.0 in
    let is : c.in_ok-line.line.now ≡ slice_index_or ls c.self.inside.over c.in_ok-line.line.now = subst (λ (xs : List KeyLine). c.in_ok-line.line.now ≡ slice_index_or xs c.self.inside.over c.in_ok-line.line.now) all c.in_ok-line.ensures.lookup.1 in
    let inside = byte_within c.self.inside.taken c.self.inside.over ls c.self.inside.bytes.items c.in_ok-line.line.now within is c.self.invariant.1 in
    omega (arith, c.self.inside.bytes.ok.0)

pub returns : goal.returns
returns c =
    let ls : List KeyLine = c.self.inside.lines.items in
    let all : c.deref.result.now ≡ ls = c.deref.ensures.value in
    let within : c.self.inside.over < length ls = subst (λ (xs : List KeyLine). c.self.inside.over < length xs) all c.in_ok-line.ensures.lookup.3.0 in
    let is : c.in_ok-line.line.now ≡ slice_index_or ls c.self.inside.over c.in_ok-line.line.now = subst (λ (xs : List KeyLine). c.in_ok-line.line.now ≡ slice_index_or xs c.self.inside.over c.in_ok-line.line.now) all c.in_ok-line.ensures.lookup.1 in
    let first = first_left c.self.inside.taken c.self.inside.over ls c.self.inside.bytes.items c.in_ok-line.line.now c.index.result.now within is (search rules) c.self.invariant.1 in
    ap (λ (x : Character). Some x) c.character.ensures ∙ ap (λ (xs : List Character). slice_get xs 0) (sym first ∙ c.self.view_is)
