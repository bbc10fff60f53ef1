-- What passes the tests is alone, and what has the same holdings seems alike.
use Rattle.std.proofs.Common.{◌≡◌, ◌≢◌, ℕ, zero, suc, ◌-◌, ◌<◌, ◌≤◌, Bool, true, false, cond, not, ◌==◌, List, [], ◌∷◌, map, length, Option, Some, None, refl, sym, ap, ◌∙◌, subst, arith, inl, inr}
use Rattle.std.specs.Prelude.{◌&&◌, nat_lt, nat_le, is_none, slice_index_or}
use Rattle.std.specs.List.{All, list_any, list_all}
use Rattle.std.proofs.lemmas.Bool.{cases_Bool}
use Rattle.std.proofs.lemmas.Bool.Decides.{nat_tests}
use Rattle.std.proofs.lemmas.List.Elements.{All-nil, All-cons}
use Rattle.ds_procs.specs.declared.process.Standing.TheVariants.{Waiting}
use Rattle.ds_policy.specs.declared.command.Character.{Character}
use Rattle.ds_policy.specs.declared.command.Command.{Command}
use Rattle.ds_policy.specs.declared.command.Command.TheVariants as command
use Rattle.ds_policy.specs.declared.command.TimedCommand.{TimedCommand}
use Rattle.ds_policy.specs.declared.grant.Grant.{Grant}
use Rattle.ds_policy.specs.declared.grant.Entry.{Entry}
use Rattle.ds_policy.specs.Pages.{Pages, Table, entries_of, found, names}
use Rattle.ds_policy.specs.Grants.{is_some_right}
use Rattle.ds_pagemap.specs.Machine.{State, process_of, is_waiting}
use Rattle.ds_pagemap.specs.Calls.{queue_of}
use Rattle.ds_pagemap.specs.Laws.{process_named}
use Rattle.ds_promise.specs.Stores.{live_page}
use Rattle.ds_promise.proofs.Entries.{false_is_not_true, or_first, or_second, one_grant, no_grant_found}
use Rattle.ds_alone.specs.Alone.{IsLasting, HasPage, SharesNothing, GrantsElsewhere, LeavesAlone, HasSilentLine, HearsNothing, IsAlone, SeemsAlike}
use Rattle.ds_alone.specs.Tests.{is_lasting, have_page, is_page_of, is_elsewhere, are_elsewhere, others_elsewhere, shares_nothing, grants_elsewhere, leaves_alone, has_silent_line, hears_nothing, is_alone, Holdings, bytes_named, holdings}

pub both : (a b : Bool) → (a && b) ≡ true → (a ≡ true) × (b ≡ true)
both true b e = (refl, e)
both false b e = false_is_not_true e

pub is_not : (b : Bool) → not b ≡ true → b ≡ false
is_not true e = false_is_not_true e
is_not false e = refl

-- Rows.

-- what all entries meet, an entry that is found meets
pub found_all : (k : Grant → Bool) (es : List Entry) (b : ℕ) (g : Grant) → list_all (λ (e : Entry). k e.grant) es ≡ true → found es b ≡ Some g → k g ≡ true
found_all k [] b g all e = no_grant_found g e
found_all k (x ∷ es) b g all e =
    let parts = both (k x.grant) (list_all (λ (y : Entry). k y.grant) es) all in
    elim (cases_Bool (x.address == b)) [
      | inl here ↦ subst (λ (h : Grant). k h ≡ true) (sym (one_grant x.grant g (subst (λ (c : Bool). cond c (Some x.grant) (found es b) ≡ Some g) here e))) parts.0
      | inr there ↦ found_all k es b g parts.1 (subst (λ (c : Bool). cond c (Some x.grant) (found es b) ≡ Some g) there e)
    ]

-- what an entry that is found meets, some entry meets
found_any : (k : Grant → Bool) (es : List Entry) (b : ℕ) (g : Grant) → found es b ≡ Some g → k g ≡ true → list_any (λ (e : Entry). k e.grant) es ≡ true
found_any k [] b g e h = no_grant_found g e
found_any k (x ∷ es) b g e h = elim (cases_Bool (x.address == b)) [
  | inl here ↦ or_first (k x.grant) (list_any (λ (y : Entry). k y.grant) es) (subst (λ (y : Grant). k y ≡ true) (one_grant x.grant g (subst (λ (c : Bool). cond c (Some x.grant) (found es b) ≡ Some g) here e)) h)
  | inr there ↦ or_second (k x.grant) (list_any (λ (y : Entry). k y.grant) es) (found_any k es b g (subst (λ (c : Bool). cond c (Some x.grant) (found es b) ≡ Some g) there e) h)
]

-- a page that process p has is one of its entries'
has_one : (t : Table) (p page : ℕ) → HasPage t p page → have_page (entries_of t p) page ≡ true
has_one t p page h = found_any (λ (g : Grant). is_some_right g.right && names page g.page) (entries_of t p) h.address h.grant h.held (and_so (is_some_right h.grant.right) (names page h.grant.page) h.right (ap (names page) h.names ∙ itself page))
  where
    itself : (page : ℕ) → (page == page) ≡ true
    itself page = grind (arith, nat_tests)

    and_so : (a b : Bool) → a ≡ true → b ≡ true → (a && b) ≡ true
    and_so true b e f = f
    and_so false b e f = e

pub all_rows : (f : List Entry → Bool) → f [] ≡ true → (rows : Table) (j : ℕ) → list_all f rows ≡ true → f (slice_index_or rows j []) ≡ true
all_rows f none [] j all = none
all_rows f none (row ∷ rows) zero all = (both (f row) (list_all f rows) all).0
all_rows f none (row ∷ rows) (suc j) all = all_rows f none rows j (both (f row) (list_all f rows) all).1

other_row : (mine : List Entry) (i j : ℕ) (rows : Table) → others_elsewhere mine i rows ≡ true → j ≢ i → are_elsewhere mine (slice_index_or rows j []) ≡ true
other_row mine i j [] all apart = refl
other_row mine zero zero (row ∷ rows) all apart = absurd (apart refl)
other_row mine zero (suc j) (row ∷ rows) all apart = all_rows (are_elsewhere mine) refl rows j all
other_row mine (suc i) zero (row ∷ rows) all apart = (both (are_elsewhere mine row) (others_elsewhere mine i rows) all).0
other_row mine (suc i) (suc j) (row ∷ rows) all apart = other_row mine i j rows (both (are_elsewhere mine row) (others_elsewhere mine i rows) all).1 (λ (e : ◌≡◌ {A = ℕ} j i). apart (ap suc e))

apart_from : (mine : List Entry) (g : Grant) (page : ℕ) → is_elsewhere mine g ≡ true → is_some_right g.right ≡ true → g.page ≡ Some page → have_page mine page ≡ true → ⊥
apart_from mine g page e right names has = no (is_some_right g.right) (is_page_of mine g.page) e right (ap (is_page_of mine) names ∙ has)
  where
    no : (a b : Bool) → not (a && b) ≡ true → a ≡ true → b ≡ true → ⊥
    no true true e f g = false_is_not_true e
    no true false e f g = false_is_not_true g
    no false b e f g = false_is_not_true f

pub found_alone : (p : ℕ) (t : Table) → 0 < p → shares_nothing p t ≡ true → SharesNothing p t
found_alone p t above e = record {
  own = λ b g held. lasting g (found_all is_lasting mine b g parts.0 held);
  others = λ q page q_above apart has theirs. apart_from mine theirs.grant page
      (found_all (is_elsewhere mine) (entries_of t q) theirs.address theirs.grant (other_row mine (p - 1) (q - 1) t parts.1 (rows q q_above apart)) theirs.held)
      theirs.right theirs.names (has_one t p page has);
}
  where
    mine : List Entry
    mine = entries_of t p

    parts : (list_all (λ (x : Entry). is_lasting x.grant) mine ≡ true) × (others_elsewhere mine (p - 1) t ≡ true)
    parts = both (list_all (λ (x : Entry). is_lasting x.grant) mine) (others_elsewhere mine (p - 1) t) e

    none : {A : Type 0} (o : Option A) → is_none o ≡ true → o ≡ None
    none None e = refl
    none (Some x) e = false_is_not_true e

    zero_is : (n : ℕ) → (n == 0) ≡ true → n ≡ 0
    zero_is n e = grind (arith, nat_tests)

    lasting : (g : Grant) → is_lasting g ≡ true → IsLasting g
    lasting g e =
        let one = both (g.giver == 0) (is_none g.parent && is_none g.until) e in
        let two = both (is_none g.parent) (is_none g.until) one.1 in
        record { giver = zero_is g.giver one.0; parent = none g.parent two.0; until = none g.until two.1 }

    rows : (q : ℕ) → 0 < q → q ≢ p → q - 1 ≢ p - 1
    rows q q_above apart = λ (is : ◌≡◌ {A = ℕ} (q - 1) (p - 1)). apart (same q p q_above above is)
      where
        same : (q p : ℕ) → 0 < q → 0 < p → q - 1 ≡ p - 1 → q ≡ p
        same q p x y e = omega (arith, x, y, e)

grants_found : (t : Table) (p : ℕ) (c : Command) → grants_elsewhere (entries_of t p) c ≡ true → GrantsElsewhere t p c
grants_found t p (command.Grant q a page right give) e = λ has. false_is_not_true (sym (is_not (have_page (entries_of t p) page) e) ∙ has_one t p page has)
grants_found t p (command.Narrow q a) e = tt
grants_found t p (command.Revoke q a) e = tt
grants_found t p (command.Drop q a) e = tt
grants_found t p (command.Resume q) e = tt
grants_found t p (command.Stop q) e = tt

commands_found : (t : Table) (p : ℕ) (cs : List TimedCommand) → list_all (λ (c : TimedCommand). leaves_alone t p c.command) cs ≡ true → All (λ (c : TimedCommand). LeavesAlone t p c.command) cs
commands_found t p [] e = All-nil (λ (c : TimedCommand). LeavesAlone t p c.command)
commands_found t p (c ∷ rest) e =
    let one = both (leaves_alone t p c.command) (list_all (λ (c : TimedCommand). leaves_alone t p c.command) rest) e in
    let two = both (not (process_named c.command == p)) (grants_elsewhere (entries_of t p) c.command) one.0 in
    All-cons (λ (c : TimedCommand). LeavesAlone t p c.command) c rest
    (record { another = another (process_named c.command) p (is_not (process_named c.command == p) two.0); grants = grants_found t p c.command two.1 })
    (commands_found t p rest one.1)
  where
    another : (q p : ℕ) → (q == p) ≡ false → p ≢ q
    another q p e = λ (is : ◌≡◌ {A = ℕ} p q). same q p e is
      where
        same : (q p : ℕ) → (q == p) ≡ false → p ≡ q → ⊥
        same q p e is = absurd (grind (arith, nat_tests))

-- Lines.

of_other_lines : (l : ℕ) (cs : List Character) → list_all (λ (c : Character). not (c.line == l)) cs ≡ true → All (λ (c : Character). c.line ≢ l) cs
of_other_lines l [] e = All-nil (λ (c : Character). c.line ≢ l)
of_other_lines l (c ∷ rest) e =
    let one = both (not (c.line == l)) (list_all (λ (c : Character). not (c.line == l)) rest) e in
    All-cons (λ (c : Character). c.line ≢ l) c rest (another c.line l (is_not (c.line == l) one.0)) (of_other_lines l rest one.1)
  where
    another : (a b : ℕ) → (a == b) ≡ false → a ≢ b
    another a b e = λ (is : ◌≡◌ {A = ℕ} a b). same a b e is
      where
        same : (a b : ℕ) → (a == b) ≡ false → a ≡ b → ⊥
        same a b e is = absurd (grind (arith, nat_tests))

found_silent : (p : ℕ) (m : State) → has_silent_line p m ≡ true → HasSilentLine p m
found_silent p m e =
    let parts = both (length (queue_of m p) == 0) (list_all (λ (c : Character). not (c.line == (process_of m p).line)) m.characters) e in
    record { queue = none (queue_of m p) parts.0; coming = of_other_lines (process_of m p).line m.characters parts.1 }
  where
    none : (queue : List ℕ) → (length queue == 0) ≡ true → queue ≡ []
    none [] e = refl
    none (byte ∷ rest) e = absurd (some (length rest) e)
      where
        some : (n : ℕ) → (suc n == 0) ≡ true → ⊥
        some n e = absurd (grind (arith, nat_tests))

found_unheard : (listens : Bool) (p : ℕ) (m : State) → hears_nothing listens p m ≡ true → HearsNothing listens p m
found_unheard true p m e = found_silent p m e
found_unheard false p m e = λ (w : (process_of m p).standing ≡ Waiting). false_is_not_true (sym (is_not (is_waiting (process_of m p).standing) e) ∙ ap is_waiting w)

pub is_found_alone : (listens : Bool) (p : ℕ) (m : State) → is_alone listens p m ≡ true → IsAlone listens p m
is_found_alone listens p m e =
    let one = both (nat_lt 0 p && nat_le p (length m.processes)) _ e in
    let two = both (nat_lt 0 p) (nat_le p (length m.processes)) one.0 in
    let three = both (shares_nothing p m.memory.table) _ one.1 in
    let four = both (list_all (λ (c : TimedCommand). leaves_alone m.memory.table p c.command) m.commands) _ three.1 in
    let above = less 0 p two.0 in
    record {
      above = above;
      here = within p (length m.processes) two.1;
      shares = found_alone p m.memory.table above three.0;
      commands = commands_found m.memory.table p m.commands four.0;
      hears = found_unheard listens p m four.1;
    }
  where
    less : (a b : ℕ) → nat_lt a b ≡ true → a < b
    less a b e = grind (arith, nat_tests)

    within : (a b : ℕ) → nat_le a b ≡ true → a ≤ b
    within a b e = grind (arith, nat_tests)

-- Views.

named_alike : (ps qs : Pages) (es : List Entry) (a page : ℕ) (g : Grant) → map (λ (e : Entry). bytes_named ps e.grant.page) es ≡ map (λ (e : Entry). bytes_named qs e.grant.page) es → found es a ≡ Some g → g.page ≡ Some page → live_page ps page ≡ live_page qs page
named_alike ps qs [] a page g same e names = no_grant_found g e
named_alike ps qs (x ∷ es) a page g same e names = elim (cases_Bool (x.address == a)) [
  | inl here ↦
      let is : g ≡ x.grant = one_grant x.grant g (subst (λ (c : Bool). cond c (Some x.grant) (found es a) ≡ Some g) here e) in
      let at : x.grant.page ≡ Some page = ap (λ (h : Grant). h.page) (sym is) ∙ names in
      sym (ap (bytes_named ps) at) ∙ (first_same _ _ _ _ same ∙ ap (bytes_named qs) at)
  | inr there ↦ named_alike ps qs es a page g (rest_same _ _ _ _ same) (subst (λ (c : Bool). cond c (Some x.grant) (found es a) ≡ Some g) there e) names
]
  where
    first_same : (a b : Option (List ℕ)) (xs ys : List (Option (List ℕ))) → ◌≡◌ {A = List (Option (List ℕ))} (a ∷ xs) (b ∷ ys) → a ≡ b
    first_same a b xs ys e = cc

    rest_same : (a b : Option (List ℕ)) (xs ys : List (Option (List ℕ))) → ◌≡◌ {A = List (Option (List ℕ))} (a ∷ xs) (b ∷ ys) → xs ≡ ys
    rest_same a b xs ys e = cc

pub seen_alike : (p : ℕ) (m t : State) → 0 < p → p ≤ length m.processes → p ≤ length t.processes → holdings p m ≡ holdings p t → SeemsAlike p m t
seen_alike p m t above here there e =
    let entries : entries_of m.memory.table p ≡ entries_of t.memory.table p = ap (λ (v : Holdings). v.entries) e in
    let pages : map (λ (x : Entry). bytes_named m.memory.pages x.grant.page) (entries_of m.memory.table p) ≡ map (λ (x : Entry). bytes_named t.memory.pages x.grant.page) (entries_of m.memory.table p) =
    ap (λ (v : Holdings). v.pages) e ∙ ap (map (λ (x : Entry). bytes_named t.memory.pages x.grant.page)) (sym entries) in
    record {
      look = record {
        above = above;
        here = here;
        there = there;
        registers = ap (λ (v : Holdings). v.registers) e;
        pc = ap (λ (v : Holdings). v.pc) e;
        entries = λ a. ap (λ (es : List Entry). found es a) entries;
        pages = λ a page g held right names. named_alike m.memory.pages t.memory.pages (entries_of m.memory.table p) a page g pages held names;
        room = ap (λ (v : Holdings). v.frames) e;
      };
      standing = ap (λ (v : Holdings). v.standing) e;
    }
