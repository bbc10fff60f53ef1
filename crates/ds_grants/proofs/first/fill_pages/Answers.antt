use Rattle.std.proofs.Common.{◌≡◌, ◌∙◌, sym, ap, ℕ, List, length, arith}
use Rattle.ds_mem.specs.Memory.{frame_of}
use Rattle.ds_grants.proofs.FirstPages.{filled_more, page_bytes}
use Rattle.ds_grants.proofs.first.fill_pages.Goals as goal

pub loop-i-preserved : goal.loop-i-preserved
loop-i-preserved c =
    let size : length (frame_of c.loop-i.memory c.frame_in_memory.result) ≡ 4096 = ap (λ (bytes : List ℕ). length bytes) (sym c.frame_mut.ensures.value) ∙ c.frame_mut.ensures.size in
    let long : length c.fill_page.new.page ≡ 4096 = c.fill_page.auto.page ∙ c.frame_mut.ensures.size in
    let bytes = c.fill_page.ensures ∙ page_bytes c.args.names.now c.args.images.now c.args.pages.now c.loop-i.i c.index-pages-i.result (omega arith) c.index-pages-i.is in
    filled_more _ c.loop-i.i c.frame_in_memory.result c.args.memory.now c.loop-i.memory c.fill_page.new.page c.frame_in_memory.ensures long size bytes c.loop-i.invariant
