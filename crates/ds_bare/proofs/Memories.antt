-- Memory with a page of an image more.
use Rattle.std.proofs.Common.{◌≡◌, ◌∙◌, ap, sym, ℕ, suc, add-one, ◌+◌, List}
use Rattle.ds_mem.specs.Memory.{with_frame}
use Rattle.ds_asm.specs.Images.{page_of_image}
use Rattle.ds_bare.specs.Machine.{memory_with}

memory_next : (image memory : List ℕ) (page k : ℕ) (bytes : List ℕ) → memory ≡ memory_with image k → page ≡ k → bytes ≡ page_of_image image k → with_frame memory (1024 + page) bytes ≡ memory_with image (suc k)
unfolding memory_with
memory_next image memory page k bytes before same part =
    ap (λ (m : List ℕ). with_frame m (1024 + page) bytes) before
    ∙ (ap (λ (p : ℕ). with_frame (memory_with image k) (1024 + p) bytes) same
    ∙ ap (λ (b : List ℕ). with_frame (memory_with image k) (1024 + k) b) part)

pub memory_more : (image memory : List ℕ) (page k : ℕ) (bytes : List ℕ) → memory ≡ memory_with image k → page ≡ k → bytes ≡ page_of_image image k → with_frame memory (1024 + page) bytes ≡ memory_with image (k + 1)
memory_more image memory page k bytes before same part = memory_next image memory page k bytes before same part ∙ ap (memory_with image) (sym (add-one k))
