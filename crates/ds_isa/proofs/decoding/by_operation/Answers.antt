use Rattle.std.proofs.Common.{arith, ◌≡◌, ℕ, nat_eq, false}
use Rattle.std.proofs.lemmas.Bool.{ne_eqb}
use Rattle.ds_word.specs.Word.{bits}
use Rattle.ds_isa.proofs.decoding.by_operation.Goals as goal

pub returns-in_default-clause-value : goal.returns-in_default-clause-value
returns-in_default-clause-value c =
    let o : ℕ = bits c.args.word 26 6 in
    let n0 : nat_eq o 0 ≡ false = ne_eqb o 0 (omega arith) in
    let n1 : nat_eq o 1 ≡ false = ne_eqb o 1 (omega arith) in
    let n2 : nat_eq o 2 ≡ false = ne_eqb o 2 (omega arith) in
    let n3 : nat_eq o 3 ≡ false = ne_eqb o 3 (omega arith) in
    let n4 : nat_eq o 4 ≡ false = ne_eqb o 4 (omega arith) in
    let n5 : nat_eq o 5 ≡ false = ne_eqb o 5 (omega arith) in
    let n6 : nat_eq o 6 ≡ false = ne_eqb o 6 (omega arith) in
    let n7 : nat_eq o 7 ≡ false = ne_eqb o 7 (omega arith) in
    let n8 : nat_eq o 8 ≡ false = ne_eqb o 8 (omega arith) in
    let n9 : nat_eq o 9 ≡ false = ne_eqb o 9 (omega arith) in
    let n10 : nat_eq o 10 ≡ false = ne_eqb o 10 (omega arith) in
    let n11 : nat_eq o 11 ≡ false = ne_eqb o 11 (omega arith) in
    let n12 : nat_eq o 12 ≡ false = ne_eqb o 12 (omega arith) in
    let n13 : nat_eq o 13 ≡ false = ne_eqb o 13 (omega arith) in
    let n14 : nat_eq o 14 ≡ false = ne_eqb o 14 (omega arith) in
    let n15 : nat_eq o 15 ≡ false = ne_eqb o 15 (omega arith) in
    let n16 : nat_eq o 16 ≡ false = ne_eqb o 16 (omega arith) in
    let n32 : nat_eq o 32 ≡ false = ne_eqb o 32 (omega arith) in
    let n33 : nat_eq o 33 ≡ false = ne_eqb o 33 (omega arith) in
    let n34 : nat_eq o 34 ≡ false = ne_eqb o 34 (omega arith) in
    let n35 : nat_eq o 35 ≡ false = ne_eqb o 35 (omega arith) in
    let n36 : nat_eq o 36 ≡ false = ne_eqb o 36 (omega arith) in
    let n37 : nat_eq o 37 ≡ false = ne_eqb o 37 (omega arith) in
    let n38 : nat_eq o 38 ≡ false = ne_eqb o 38 (omega arith) in
    let n40 : nat_eq o 40 ≡ false = ne_eqb o 40 (omega arith) in
    let n41 : nat_eq o 41 ≡ false = ne_eqb o 41 (omega arith) in
    let n42 : nat_eq o 42 ≡ false = ne_eqb o 42 (omega arith) in
    let n43 : nat_eq o 43 ≡ false = ne_eqb o 43 (omega arith) in
    let n46 : nat_eq o 46 ≡ false = ne_eqb o 46 (omega arith) in
    simp (n0, n1, n2, n3, n4, n5, n6, n7, n8, n9, n10, n11, n12, n13, n14, n15, n16, n32, n33, n34, n35, n36, n37, n38, n40, n41, n42, n43, n46) (grind arith)
