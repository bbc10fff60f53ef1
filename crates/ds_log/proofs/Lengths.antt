-- A line fits in the 64 bytes that are reserved for it.
use Rattle.std.proofs.Common.{◌≤◌, length, arith, length-append}
use Rattle.std.proofs.lemmas.Fmt.{length-decimal-le, length-decimal-le_wide}
use Rattle.ds_text.proofs.Lengths.{length-hex8}
use Rattle.ds_policy.specs.declared.access.Rule.{Rule}
use Rattle.ds_policy.specs.declared.access.Rule.TheVariants.{Number, K, A, I}
use Rattle.ds_log.specs.declared.line.Line.{Line}
use Rattle.ds_log.specs.declared.line.Line.TheVariants.{Denial, Refused}
use Rattle.ds_log.specs.declared.line.Denied.{Denied}
use Rattle.ds_log.specs.declared.line.Denied.TheVariants as denied
use Rattle.ds_log.specs.Text.{line_text, kind_text, rule_text}
use Rattle.ds_log.specs.Inner.Length.{IsShort, IsShortRule}

length-kind_text-le : (kind : Denied) → length (kind_text kind) ≤ 5
length-kind_text-le denied.Fetch = omega arith
length-kind_text-le denied.Load = omega arith
length-kind_text-le denied.Store = omega arith
length-kind_text-le denied.Exec = omega arith
length-kind_text-le denied.Give = omega arith

length-rule_text-le : (rule : Rule) → IsShortRule rule → length (rule_text rule) ≤ 11
length-rule_text-le (Number n) short = let digits = length-decimal-le 10 n (omega arith) short (omega arith) in omega (arith, digits)
length-rule_text-le K short = omega arith
length-rule_text-le A short = omega arith
length-rule_text-le I short = omega arith

-- a line of short numbers has at most 64 bytes
pub length-line_text-le : (line : Line) → IsShort line → length (line_text line) ≤ 64
length-line_text-le (Denial time process pc kind addr rule code) short =
    let t = length-decimal-le 10 time (omega arith) short.0 (omega arith) in
    let p = length-decimal-le 10 process (omega arith) short.1 (omega arith) in
    let k = length-kind_text-le kind in
    let r = length-rule_text-le rule short.2 in
    let d = length-decimal-le 5 code (omega arith) short.3 (omega arith) in
    let w = length-hex8 pc in
    let a = length-hex8 addr in
    simp length-append (omega (arith, t, p, k, r, d, w, a))
length-line_text-le (Refused time command number) short =
    let t = length-decimal-le_wide 20 time (omega arith) short.0 (omega arith) in
    let c = length-decimal-le 10 command (omega arith) short.1 (omega arith) in
    let n = length-decimal-le 10 number (omega arith) short.2 (omega arith) in
    simp length-append (omega (arith, t, c, n))
