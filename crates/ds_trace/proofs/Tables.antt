-- The lines of entries, process by process.
use Rattle.std.proofs.Common.{◌≡◌, ◌∙◌, ℕ, suc, ◌+◌, ◌-◌, ◌<◌, List, [], ◌∷◌, ◌++◌, append_assoc, length, drop, sym, ap, arith}
use Rattle.std.proofs.lemmas.List.{drop_more}
use Rattle.ds_policy.specs.declared.grant.Entry.{Entry}
use Rattle.ds_policy.specs.Pages.{Table, entries_of}
use Rattle.ds_words.specs.declared.view.View.{View}
use Rattle.ds_trace.specs.Entries.{changed_text, tables_from}

-- those of one more process
pub tables_more : (v : View) (time : ℕ) (before after : Table) (p : ℕ) (line new whole : List ℕ) (was is : List Entry) → p < 101 → was ≡ entries_of before p → is ≡ entries_of after p
    → new ≡ line ++ changed_text v time p was is → line ++ tables_from v time before after p (101 - p) ≡ whole
    → new ++ tables_from v time before after (p + 1) (101 - (p + 1)) ≡ whole
tables_more v time before after p line new whole was is within old now adds so =
    let rest : List ℕ = tables_from v time before after (p + 1) (101 - (p + 1)) in
    let left : 101 - p ≡ suc (101 - (p + 1)) = omega (arith, within) in
    let text : changed_text v time p was is ≡ changed_text v time p (entries_of before p) (entries_of after p) =
    ap (λ (es : List Entry). changed_text v time p es is) old ∙ ap (changed_text v time p (entries_of before p)) now in
    ap (λ (l : List ℕ). l ++ rest) (adds ∙ ap (λ (l : List ℕ). line ++ l) text)
    ∙ (append_assoc line (changed_text v time p (entries_of before p) (entries_of after p)) rest
    ∙ (sym (ap (λ (n : ℕ). line ++ tables_from v time before after p n) left) ∙ so))

-- The entries of processes, one after another.

-- those of a process, and those of the processes after it
rows_from : (table : Table) (p : ℕ) → 0 < p → p < length table + 1 → drop (p - 1) table ≡ entries_of table p ∷ drop (p + 1 - 1) table
rows_from table p above within =
    drop_more table (p - 1) [] (omega (arith, above, within))
    ∙ ap (λ (n : ℕ). entries_of table p ∷ drop n table) (omega (arith, above))

-- those of one more
pub rows_more : (table : Table) (p : ℕ) (old new whole : Table) (es : List Entry) → 0 < p → p < length table + 1 → es ≡ entries_of table p → new ≡ old ++ es ∷ []
    → old ++ drop (p - 1) table ≡ whole → new ++ drop (p + 1 - 1) table ≡ whole
rows_more table p old new whole es above within is adds before =
    let rest : Table = drop (p + 1 - 1) table in
    ap (λ (l : Table). l ++ rest) (adds ∙ ap (λ (x : List Entry). old ++ x ∷ []) is)
    ∙ (append_assoc old (entries_of table p ∷ []) rest
    ∙ (sym (ap (λ (l : Table). old ++ l) (rows_from table p above within)) ∙ before))
