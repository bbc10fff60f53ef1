-- The lines of entries of the permission table.
use Rattle.std.specs.Prelude.{codes, decimal, ℕ, zero, suc, ◌+◌, ◌==◌, ◌&&◌, Bool, true, false, if◌then◌else◌, is_some, List, [], ◌∷◌, ◌++◌, Option, Some, None}
use Rattle.ds_policy.specs.declared.grant.Entry.{Entry}
use Rattle.ds_policy.specs.declared.grant.EntryPlace.{EntryPlace}
use Rattle.ds_policy.specs.declared.grant.Grant.{Grant}
use Rattle.ds_policy.specs.declared.grant.Right.{Right}
use Rattle.ds_policy.specs.declared.grant.Right.TheVariants.{Nothing, Read, Write}
use Rattle.ds_policy.specs.Pages.{Table, entries_of, found}
use Rattle.ds_policy.specs.Words.{right_word}
use Rattle.ds_words.specs.declared.view.View.{View}
use Rattle.ds_words.specs.Views.{shows_process}
use Rattle.ds_trace.specs.Boundaries.{entry_place_text}
use Rattle.ds_trace.specs.Changes.{same_first}

-- what may be done
unfoldable pub right_text : Right → List ℕ
right_text right = codes " " ++ right_word right

-- a page, by its number from 1
abbrev pub page_text : Option ℕ → List ℕ
page_text None = []
page_text (Some page) = codes " page " ++ decimal (page + 1)

-- when the right ends
abbrev pub until_text : Option ℕ → List ℕ
until_text None = []
until_text (Some time) = codes " until " ++ decimal time

-- whether the process may give it on
abbrev pub give_text : Bool → List ℕ
give_text true = codes " give"
give_text false = []

-- the process that gave it; 0 stands for the policy and the operator
abbrev pub giver_text : ℕ → List ℕ
giver_text p = if p == 0 then [] else codes " giver " ++ decimal p

-- the entry that it was shared from
abbrev pub parent_text : Option EntryPlace → List ℕ
parent_text None = []
parent_text (Some place) = codes " parent" ++ entry_place_text place.process place.address

-- all that is granted
abbrev pub grant_text : Grant → List ℕ
grant_text g =
    right_text g.right ++ page_text g.page ++ codes " rule " ++ decimal g.rule
    ++ until_text g.until ++ give_text g.give ++ giver_text g.giver ++ parent_text g.parent

-- the line of an entry of a process from a time on, with these words
abbrev pub entry_line : ℕ → ℕ → ℕ → List ℕ → List ℕ
entry_line time p address words = decimal time ++ codes " entry" ++ entry_place_text p address ++ words ++ codes "\n"

-- What is granted alike.

abbrev pub same_right : Right → Right → Bool
same_right Nothing Nothing = true
same_right Read Read = true
same_right Write Write = true
same_right r s = false

abbrev pub same_leave : Bool → Bool → Bool
same_leave true b = b
same_leave false true = false
same_leave false false = true

abbrev pub same_place : Option EntryPlace → Option EntryPlace → Bool
same_place None None = true
same_place (Some a) (Some b) = (a.process == b.process) && (a.address == b.address)
same_place a b = false

-- all of it is
abbrev pub same_grant : Grant → Grant → Bool
same_grant g k =
    same_right g.right k.right && (same_first g.page k.page && ((g.rule == k.rule) && (same_leave g.give k.give
    && ((g.giver == k.giver) && (same_place g.parent k.parent && same_first g.until k.until)))))

-- what was granted before, if anything was, is granted still
abbrev pub is_still : Option Grant → Grant → Bool
is_still None g = false
is_still (Some before) g = same_grant before g

-- Changes.

-- the line of an entry that is new or otherwise than before, by what was granted there before
abbrev pub new_line : ℕ → ℕ → Option Grant → Entry → List ℕ
new_line time p before e = if is_still before e.grant then [] else entry_line time p e.address (grant_text e.grant)

-- the line of an entry that has gone, by what is granted there now
abbrev pub gone_line : ℕ → ℕ → Option Grant → Entry → List ℕ
gone_line time p after e = if is_some after then [] else entry_line time p e.address (codes " gone")

-- those of the entries of a process, by all that it had before
abbrev pub new_text : ℕ → ℕ → List Entry → List Entry → List ℕ
new_text time p before [] = []
new_text time p before (e ∷ rest) = new_line time p (found before e.address) e ++ new_text time p before rest

-- those of the entries that it had before, by all that it has now
abbrev pub gone_text : ℕ → ℕ → List Entry → List Entry → List ℕ
gone_text time p after [] = []
gone_text time p after (e ∷ rest) = gone_line time p (found after e.address) e ++ gone_text time p after rest

-- what has changed of the entries of a process that is told of
abbrev pub changed_text : View → ℕ → ℕ → List Entry → List Entry → List ℕ
changed_text v time p before after =
    if shows_process v p then gone_text time p after before ++ new_text time p before after else []

-- that of so many processes, the first of which has this number
abbrev pub tables_from : View → ℕ → Table → Table → ℕ → ℕ → List ℕ
tables_from v time before after p zero = []
tables_from v time before after p (suc n) =
    changed_text v time p (entries_of before p) (entries_of after p) ++ tables_from v time before after (p + 1) n

-- what has changed from a table to another: no process has a number above 100
unfoldable pub tables_text : View → ℕ → Table → Table → List ℕ
tables_text v time before after = tables_from v time before after 1 100
