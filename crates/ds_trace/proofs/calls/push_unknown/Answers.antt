use Rattle.std.proofs.Common.{◌≡◌, ◌∙◌, ap, ℕ, List, ◌++◌, codes, decimal}
use Rattle.std.specs.String.{string_bytes}
use Rattle.ds_trace.proofs.Adding.{gives, joined, pushed}
use Rattle.ds_trace.proofs.calls.push_unknown.Goals as goal

pub returns : goal.returns
returns c =
    let old : List ℕ = string_bytes c.args.line.now in
    let one : List ℕ = string_bytes c.push_str.new.self in
    let two : List ℕ = string_bytes c.push_decimal.new.text in
    let three : List ℕ = string_bytes c.push_str-2.new.self in
    let begins : List ℕ = codes "  unknown " in
    let number : List ℕ = decimal c.args.number in
    let says : List ℕ = codes ": no call has this number" in
    gives c.push_str-2.result
    (λ (is : three ≡ two ++ says).
    joined old (begins ++ number) says two three
    (joined old begins number one two c.in_ok-push_str.ensures.bytes (c.in_ok-push_decimal.ensures ∙ ap (λ (n : ℕ). one ++ decimal n) c.from.ensures)) is)
    (pushed c.push_str-2.result three (two ++ says) two c.push_str-2.ensures.bytes)
