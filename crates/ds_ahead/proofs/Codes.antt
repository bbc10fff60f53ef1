-- A page of code that is known: what a fetch answers there.
use Rattle.std.proofs.Common.{◌≡◌, ℕ, ◌+◌, ◌/◌, ◌%◌, ◌<◌, ◌^◌, true, false, refl, sym, ap, ◌∙◌, arith}
use Rattle.std.specs.Prelude.{Ok, Some, ◌==◌}
use Rattle.ds_isa.specs.declared.instr.Kind.TheVariants.{Fetch}
use Rattle.ds_isa.specs.declared.instr.Size.TheVariants.{Word}
use Rattle.ds_tlb.specs.Inner.Frames.{base_of}
use Rattle.ds_amap.specs.Map.{at_physical}
use Rattle.ds_amap.proofs.Bases.{translate_by_base}
use Rattle.ds_cp0.specs.System.{asid_of}
use Rattle.ds_core.specs.Core.{CoreState}
use Rattle.ds_core.specs.Access.{mode_of, reached}
use Rattle.ds_ahead.specs.Inner.Code.{IsPageOf, KnowsPage}

is_word : (n : ℕ) → n % 4 ≡ 0 → (n % 4 == 0) ≡ true
is_word n is = rw is refl

-- a word of the page has its place in the page's frame
pub reaches_page : (c : CoreState) (vpn base place pc : ℕ) → KnowsPage vpn base c → pc ≡ c.pc → vpn < 2 ^ 32 → vpn ≡ pc / 2 ^ 12 → pc % 4 ≡ 0 → place ≡ base + pc % 2 ^ 12
    → reached c Fetch Word c.pc ≡ Ok (at_physical place)
reaches_page c vpn base place pc knows here some page aligned is =
    let whole : IsPageOf vpn base c = knows some in
    let low : c.pc < 2 ^ 31 = omega (arith, here, page, whole.mapped) in
    let word : c.pc % 4 ≡ 0 = ap (λ (n : ℕ). n % 4) (sym here) ∙ aligned in
    let frame : Some base ≡ base_of c.entries false (c.pc / 2 ^ 12) (asid_of c.system) =
    sym whole.frame ∙ ap (λ (n : ℕ). base_of c.entries false n (asid_of c.system)) (page ∙ ap (λ (n : ℕ). n / 2 ^ 12) here) in
    rw (word, is, here) (translate_by_base c.entries (asid_of c.system) (mode_of c.system) Fetch c.pc base low frame)
