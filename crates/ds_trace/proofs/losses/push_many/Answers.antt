use Rattle.std.proofs.Common.{◌≡◌, ◌∙◌, List, ℕ, ◌++◌, ap, codes, refl}
use Rattle.std.specs.Prelude.{decimal}
use Rattle.std.specs.String.{string_bytes}
use Rattle.ds_trace.proofs.Adding.{gives, joined, pushed}
use Rattle.ds_trace.proofs.losses.push_many.Goals as goal

pub returns : goal.returns
returns c =
    let old : List ℕ = string_bytes c.args.text.now in
    let one : List ℕ = string_bytes c.push_decimal.new.text in
    let two : List ℕ = string_bytes c.push_total.new.line in
    let three : List ℕ = string_bytes c.push_total-2.new.line in
    let four : List ℕ = string_bytes c.push_str.new.self in
    let many : List ℕ = decimal c.args.lost.count in
    let on : List ℕ = codes " characters lost on console " in
    let line : List ℕ = decimal c.args.line in
    let at : List ℕ = codes ", the first at time " in
    let first : List ℕ = decimal c.args.lost.first in
    gives c.push_str.result
    (λ (is : four ≡ three ++ codes "\n").
    joined old (many ++ on ++ line ++ at ++ first) (codes "\n") three four
    (joined old (many ++ on ++ line ++ at) first (two ++ at) three
    (joined old (many ++ on ++ line) at two (two ++ at)
    (joined old (many ++ on) line (one ++ on) two (joined old many on one (one ++ on) c.in_ok-push_decimal.ensures refl)
    (c.in_ok-push_total.ensures ∙ ap (λ (n : ℕ). one ++ on ++ decimal n) c.from.ensures)) refl)
    c.in_ok-push_total-2.ensures) is)
    (pushed c.push_str.result four (three ++ codes "\n") three c.push_str.ensures.bytes)
