use Rattle.std.proofs.Common.{◌≡◌, ℕ, List, ◌++◌}
use Rattle.std.specs.String.{string_bytes}
use Rattle.ds_trace.specs.Losses.{lost_by, lost_line, none_lost}
use Rattle.ds_trace.proofs.Adding.{gives, joined}
use Rattle.ds_trace.proofs.losses.push_all_lost.Goals as goal

pub returns : goal.returns
returns c =
    let lost : ℕ → List ℕ = λ line. lost_line line (lost_by c.args.all.now line none_lost c.args.losses.now) in
    let one : List ℕ = string_bytes c.push_lost_by.new.text in
    let two : List ℕ = string_bytes c.push_lost_by-2.new.text in
    let three : List ℕ = string_bytes c.push_lost_by-3.new.text in
    let four : List ℕ = string_bytes c.push_lost_by-4.new.text in
    let old : List ℕ = string_bytes c.args.text.now in
    gives c.push_lost_by-4.result
    (λ (is : four ≡ three ++ lost 3).
    joined old (lost 0 ++ lost 1 ++ lost 2) (lost 3) three four
    (joined old (lost 0 ++ lost 1) (lost 2) two three (joined old (lost 0) (lost 1) one two c.in_ok-push_lost_by.ensures c.in_ok-push_lost_by-2.ensures) c.in_ok-push_lost_by-3.ensures) is)
    c.push_lost_by-4.ensures
