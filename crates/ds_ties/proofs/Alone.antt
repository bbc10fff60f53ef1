-- Where nothing ties a process to the others it is alone.
use Rattle.std.proofs.Common.{◌≡◌, ◌≢◌, ℕ, zero, suc, ◌+◌, ◌-◌, ◌<◌, ◌≤◌, Bool, true, false, cond, not, ◌==◌, List, [], ◌∷◌, map, length, Option, Some, None, refl, sym, ap, ap₂, ◌∙◌, subst, arith, inl, inr}
use Rattle.std.specs.Prelude.{◌&&◌, nat_lt, nat_le, is_none, option_map, slice_index_or}
use Rattle.std.specs.Option.{option_or}
use Rattle.std.specs.List.{list_all}
use Rattle.std.proofs.lemmas.Bool.{cases_Bool}
use Rattle.std.proofs.lemmas.Bool.Decides.{nat_tests}
use Rattle.std.proofs.lemmas.List.{length-map}
use Rattle.ds_procs.specs.declared.process.Standing.TheVariants.{Ready}
use Rattle.ds_policy.specs.declared.command.TimedCommand.{TimedCommand}
use Rattle.ds_policy.specs.declared.grant.Entry.{Entry}
use Rattle.ds_policy.specs.declared.policy.PolicyProcess.{PolicyProcess}
use Rattle.ds_policy.specs.FirstTable.{table_of}
use Rattle.ds_policy.specs.Pages.{Table, entries_of}
use Rattle.ds_policy.specs.Value.{InputValue, PolicyValue}
use Rattle.ds_pagemap.specs.First.{first_process, first_state}
use Rattle.ds_alone.specs.Tests.{is_lasting, is_elsewhere, are_elsewhere, others_elsewhere, shares_nothing, leaves_alone, hears_nothing, is_alone, lets_give, nobody_may_give}
use Rattle.ds_ties.specs.declared.ties.Tie.{Tie}
use Rattle.ds_ties.specs.declared.ties.Tie.TheVariants.{Ends, Shares, MayGive, LetsGive}
use Rattle.ds_ties.specs.Ties.{ending_rule, shared_rule, shared_with, shared_among, giving_rule, giving_among, commanded_tie, letting_command, tie_of}

none_or : {A : Type 0} (a b : Option A) → is_none (option_or a b) ≡ (is_none a && is_none b)
none_or None b = refl
none_or (Some x) b = refl

none_map : {A B : Type 0} (f : A → B) (a : Option A) → is_none (option_map f a) ≡ is_none a
none_map f None = refl
none_map f (Some x) = refl

-- a search that ends at the first that is none of these
none_if : {A : Type 0} (b c : Bool) (x : A) (rest : Option A) → is_none rest ≡ c → is_none (cond (not b) (Some x) rest) ≡ (b && c)
none_if true c x rest e = e
none_if false c x rest e = refl

-- one that ends at the first that is one of these
none_unless : {A : Type 0} (b c : Bool) (x : A) (rest : Option A) → is_none rest ≡ c → is_none (cond b (Some x) rest) ≡ (not b && c)
none_unless true c x rest e = refl
none_unless false c x rest e = e

none_ends : (es : List Entry) → is_none (ending_rule es) ≡ list_all (λ e. is_lasting e.grant) es
none_ends [] = refl
none_ends (e ∷ es) = none_if (is_lasting e.grant) _ e.grant.rule (ending_rule es) (none_ends es)

none_shared : (mine es : List Entry) → is_none (shared_rule mine es) ≡ are_elsewhere mine es
none_shared mine [] = refl
none_shared mine (e ∷ es) = none_if (is_elsewhere mine e.grant) _ e.grant.rule (shared_rule mine es) (none_shared mine es)

none_gives : (es : List Entry) → is_none (giving_rule es) ≡ list_all (λ e. not e.grant.give) es
none_gives [] = refl
none_gives (e ∷ es) = none_unless e.grant.give _ e.grant.rule (giving_rule es) (none_gives es)

none_may_give : (rows : Table) → is_none (giving_among rows) ≡ list_all (λ row. list_all (λ e. not e.grant.give) row) rows
none_may_give [] = refl
none_may_give (es ∷ rows) = none_or (giving_rule es) (giving_among rows) ∙ ap₂ (λ (a b : Bool). a && b) (none_gives es) (none_may_give rows)

none_commanded : (table : Table) (p : ℕ) (cs : List TimedCommand) → is_none (commanded_tie table p cs) ≡ list_all (λ c. leaves_alone table p c.command) cs
none_commanded table p [] = refl
none_commanded table p (c ∷ cs) = none_if (leaves_alone table p c.command) _ _ (commanded_tie table p cs) (none_commanded table p cs)

none_lets : (cs : List TimedCommand) → is_none (letting_command cs) ≡ list_all (λ c. not (lets_give c.command)) cs
none_lets [] = refl
none_lets (c ∷ cs) = none_unless (lets_give c.command) _ c.number (letting_command cs) (none_lets cs)

-- Other processes.

another : (mine es : List Entry) (p n : ℕ) → (n == p) ≡ false → is_none (shared_with mine p n es) ≡ are_elsewhere mine es
another mine es p n apart = ap (λ (b : Bool). is_none (cond b None (shared_rule mine es))) apart ∙ none_shared mine es

itself : (mine es : List Entry) (p n : ℕ) → (n == p) ≡ true → is_none (shared_with mine p n es) ≡ true
itself mine es p n same = ap (λ (b : Bool). is_none (cond b None (shared_rule mine es))) same

-- those after process p
none_after : (mine : List Entry) (p n : ℕ) (rows : Table) → p < n → is_none (shared_among mine p n rows) ≡ list_all (are_elsewhere mine) rows
none_after mine p n [] h = refl
none_after mine p n (es ∷ rows) h =
    none_or (shared_with mine p n es) (shared_among mine p (n + 1) rows)
    ∙ ap₂ (λ (a b : Bool). a && b) (another mine es p n (apart n p h)) (none_after mine p (n + 1) rows (omega (arith, h)))
  where
    apart : (n p : ℕ) → p < n → (n == p) ≡ false
    apart n p h = grind (arith, nat_tests)

none_among : (mine : List Entry) (i n : ℕ) (rows : Table) → is_none (shared_among mine (n + i) n rows) ≡ others_elsewhere mine i rows
none_among mine i n [] = refl
none_among mine zero n (es ∷ rows) =
    none_or (shared_with mine (n + 0) n es) (shared_among mine (n + 0) (n + 1) rows)
    ∙ ap₂ (λ (a b : Bool). a && b) (itself mine es (n + 0) n (same n)) (none_after mine (n + 0) (n + 1) rows (omega arith))
  where
    same : (n : ℕ) → (n == n + 0) ≡ true
    same n = grind (arith, nat_tests)
none_among mine (suc i) n (es ∷ rows) =
    none_or (shared_with mine (n + suc i) n es) (shared_among mine (n + suc i) (n + 1) rows)
    ∙ ap₂ (λ (a b : Bool). a && b) (another mine es (n + suc i) n (apart n i))
    (ap (λ (k : ℕ). is_none (shared_among mine k (n + 1) rows)) (next n i) ∙ none_among mine i (n + 1) rows)
  where
    apart : (n i : ℕ) → (n == n + suc i) ≡ false
    apart n i = grind (arith, nat_tests)

    next : (n i : ℕ) → n + suc i ≡ n + 1 + i
    next n i = omega arith

none_others : (mine : List Entry) (p : ℕ) (table : Table) → 0 < p → is_none (shared_among mine p 1 table) ≡ others_elsewhere mine (p - 1) table
none_others mine p table above = ap (λ (k : ℕ). is_none (shared_among mine k 1 table)) (back p above) ∙ none_among mine (p - 1) 1 table
  where
    back : (p : ℕ) → 0 < p → p ≡ 1 + (p - 1)
    back p h = omega (arith, h)

-- All of them.

none_of : (table : Table) (cs : List TimedCommand) (p : ℕ) → 0 < p → is_none (tie_of table cs p)
    ≡ (list_all (λ e. is_lasting e.grant) (entries_of table p) && (others_elsewhere (entries_of table p) (p - 1) table && (list_all (λ c. leaves_alone table p c.command) cs
    && (list_all (λ row. list_all (λ e. not e.grant.give) row) table && list_all (λ c. not (lets_give c.command)) cs))))
none_of table cs p above =
    let mine = entries_of table p in
    let and : Bool → Bool → Bool = λ (a b : Bool). a && b in
    let five : is_none (option_map LetsGive (letting_command cs)) ≡ list_all (λ c. not (lets_give c.command)) cs = none_map LetsGive (letting_command cs) ∙ none_lets cs in
    let four : is_none (option_map MayGive (giving_among table)) ≡ list_all (λ row. list_all (λ e. not e.grant.give) row) table = none_map MayGive (giving_among table) ∙ none_may_give table in
    let two : is_none (option_map Shares (shared_among mine p 1 table)) ≡ others_elsewhere mine (p - 1) table = none_map Shares (shared_among mine p 1 table) ∙ none_others mine p table above in
    let one : is_none (option_map Ends (ending_rule mine)) ≡ list_all (λ e. is_lasting e.grant) mine = none_map Ends (ending_rule mine) ∙ none_ends mine in
    none_or (option_map Ends (ending_rule mine)) _ ∙ ap₂ and one
    (none_or (option_map Shares (shared_among mine p 1 table)) _ ∙ ap₂ and two
    (none_or (commanded_tie table p cs) _ ∙ ap₂ and (none_commanded table p cs)
    (none_or (option_map MayGive (giving_among table)) _ ∙ ap₂ and four five)))

ordered : (there a b c d e f : Bool) → there ≡ true → ((a && (b && (c && (d && e)))) && f) ≡ ((there && ((a && b) && (c && f))) && (d && e))
ordered true true true true true true true is = refl
ordered true true true true true true false is = refl
ordered true true true true true false true is = refl
ordered true true true true true false false is = refl
ordered true true true true false e true is = refl
ordered true true true true false e false is = refl
ordered true true true false d e f is = refl
ordered true true false c d e f is = refl
ordered true false b c d e f is = refl
ordered false a b c d e f is = absurd (cc)

pub nothing_ties : (listens : Bool) (policy : PolicyValue) (images : List (List ℕ)) (input : InputValue) (p : ℕ) → 0 < p → p ≤ length policy.processes
    → (is_none (tie_of (table_of policy) input.commands p) && hears_nothing listens p (first_state policy images input))
    ≡ (is_alone listens p (first_state policy images input) && nobody_may_give (first_state policy images input))
nothing_ties listens policy images input p above within =
    let m = first_state policy images input in
    ap (λ (b : Bool). b && hears_nothing listens p m) (none_of (table_of policy) input.commands p above)
    ∙ ordered (nat_lt 0 p && nat_le p (length m.processes)) (list_all (λ e. is_lasting e.grant) (entries_of (table_of policy) p)) (others_elsewhere (entries_of (table_of policy) p) (p - 1) (table_of policy))
    (list_all (λ c. leaves_alone (table_of policy) p c.command) input.commands) (list_all (λ row. list_all (λ e. not e.grant.give) row) (table_of policy)) (list_all (λ c. not (lets_give c.command)) input.commands)
    (hears_nothing listens p m) here
  where
    in_it : (p n : ℕ) → 0 < p → p ≤ n → (nat_lt 0 p && nat_le p n) ≡ true
    in_it p n a b = grind (arith, nat_tests)

    many : length (map first_process policy.processes) ≡ length policy.processes
    many = length-map policy.processes first_process

    here : (nat_lt 0 p && nat_le p (length (map first_process policy.processes))) ≡ true
    here = ap (λ (n : ℕ). nat_lt 0 p && nat_le p n) many ∙ in_it p (length policy.processes) above within
