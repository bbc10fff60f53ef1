use Rattle.std.proofs.Common.{◌≡◌, ℕ, ◌+◌, ◌-◌, ◌*◌, ◌/◌, ◌^◌, ◌<◌, ap, ◌∙◌, arith}
use Rattle.ds_word.specs.Word.{bits}
use Rattle.ds_tlb.specs.Words.{entry_of}
use Rattle.ds_tables.specs.Places.{page_of_table}
use Rattle.ds_grants.specs.Buffer.{read_only}
use Rattle.ds_kernel.specs.declared.parts.Parts.{Parts}
use Rattle.ds_kernel.proofs.parts.Parts.table_entry.Goals as goal

pub returns : goal.returns
returns g c =
    let old = c.args.self.now in
    let p = c.args.process in
    let hi = c.read-hi.result in
    let small : hi < 2 ^ 32 = c.read-hi.type_inv in
    let same : hi ≡ old.core.system.entry_hi = c.read-hi.ensures ∙ ap (λ (x : Parts g.row.L.Denot). x.core.system.entry_hi) c.self.view_is in
    let region : hi / 4096 - 0xC0000 ≡ bits hi 12 20 - 0xC0000 = omega (arith, small) in
    let frame : c.page_of_table-frame.result ≡ page_of_table old.monitor.tables p (bits hi 12 20 - 0xC0000) =
    c.page_of_table-frame.ensures.value
    ∙ (ap (λ (x : Parts g.row.L.Denot). page_of_table x.monitor.tables p (hi / 4096 - 0xC0000)) c.self.view_is ∙ ap (λ (r : ℕ). page_of_table old.monitor.tables p r) region) in
    c.of_words.ensures
    ∙ (ap (λ (n : ℕ). entry_of hi (n * 2 ^ 12 + 2 ^ 9)) frame
    ∙ ap (λ (n : ℕ). entry_of n (read_only (page_of_table old.monitor.tables p (bits n 12 20 - 0xC0000)))) same)
