-- What a refill at once leaves is what nine words leave.
use Rattle.std.proofs.Common.{◌≡◌, ℕ, ◌+◌, ◌%◌, ◌^◌, ◌<◌, true, false, List, refl, sym, ap, subst, ◌∙◌, length}
use Rattle.std.specs.Prelude.{slice_index, slice_set, None, Option, Ok}
use Rattle.ds_word.specs.Word.{word}
use Rattle.ds_word.specs.Bytes.{word_at}
use Rattle.ds_isa.specs.declared.instr.Late.{Late}
use Rattle.ds_isa.specs.declared.instr.Kind.TheVariants.{Load}
use Rattle.ds_isa.specs.Registers.{Registers}
use Rattle.ds_tlb.specs.declared.entry.Entry.{Entry}
use Rattle.ds_tlb.specs.Words.{entry_of}
use Rattle.ds_cp0.specs.System.{System, asid_of, returned}
use Rattle.ds_amap.specs.declared.map.Mode.TheVariants.{Kernel}
use Rattle.ds_amap.specs.Map.{translate, at_physical}
use Rattle.ds_dev.specs.Bus.{BusState, is_memory}
use Rattle.ds_core.specs.Core.{CoreState}
use Rattle.ds_refill.specs.Handler.{HasWords}
use Rattle.ds_refill.specs.Refill.{lent}
use Rattle.ds_refill.specs.Inner.Refill.{IsKernel, at_word, later, handler_events}
use Rattle.ds_refill.proofs.Whole.{word_0, word_1, word_2, word_3, word_4, word_5, word_6, word_7, word_8}
use Rattle.ds_refill.specs.Inner.Refills.{after_refill, CanLoad, RunsInside}
use Rattle.ds_refill.proofs.Lent.{lent_itself, is_at_word}

-- registers without a late load
none_late : (r : Registers) → r.late ≡ None → r ≡ lent r (slice_index r.general 26) (slice_index r.general 27) None
none_late r late = ap (λ (l : Option Late). record r { late = l }) late ∙ lent_itself r

-- the nine words, each of which begins in kernel mode at its address
whole_inside : (r : Registers) (x y : ℕ) (s : System) (es : List Entry) (random place w : ℕ) (b : BusState)
    → HasWords b.memory → IsKernel s → length r.general ≡ 32 → slice_index r.general 0 ≡ 0
    → s.context < 2 ^ 32 → s.context % 4 ≡ 0 → translate es (asid_of s) Kernel Load s.context ≡ Ok (at_physical place) → is_memory place ≡ true
    → word_at b.memory place ≡ w → w < 2 ^ 32 → w % 256 ≡ 0
    → RunsInside 0 handler_events (at_word 0x80000000 0x80000004 false (lent r x y None) s es random) b
    (at_word s.epc (word (s.epc + 4)) false (lent r 0 s.epc None) (returned (record s { entry_lo = w })) (slice_set es (later 6 random) (entry_of s.entry_hi w)) (later 9 random))
whole_inside r x y s es random place w b h k size zero within aligned reach here is small low =
    let t : System = record s { entry_lo = w } in
    let kt : IsKernel t = record { mode = k.mode; off = k.off } in (
      k.mode,
      refl,
      refl,
      (
        _,
        word_0 r x y s es random b h k size,
        refl,
        (
          k.mode,
          refl,
          refl,
          (
            _,
            word_1 r s.context y _ s es _ b h k size,
            refl,
            (
              k.mode,
              refl,
              refl,
              (
                _,
                word_2 r s.context s.epc y s es _ place w b h k size within aligned reach here is,
                refl,
                (
                  k.mode,
                  refl,
                  refl,
                  (
                    _,
                    word_3 r w s.epc _ s es _ b h k,
                    refl,
                    (
                      k.mode,
                      refl,
                      refl,
                      (
                        _,
                        word_4 r w s.epc s es _ b h k size small low,
                        refl,
                        (
                          k.mode,
                          refl,
                          refl,
                          (
                            _,
                            word_5 r w s.epc t es _ b h kt zero,
                            refl,
                            (
                              k.mode,
                              refl,
                              refl,
                              (
                                _,
                                word_6 r 0 s.epc t es _ b h kt,
                                refl,
                                (
                                  k.mode,
                                  refl,
                                  refl,
                                  (
                                    _,
                                    word_7 r 0 s.epc t _ _ b h kt size,
                                    refl,
                                    (
                                      k.mode,
                                      refl,
                                      refl,
                                      (
                                        _,
                                        word_8 r 0 s.epc s.epc t _ _ b h kt,
                                        refl,
                                        refl,
                                      ),
                                    ),
                                  ),
                                ),
                              ),
                            ),
                          ),
                        ),
                      ),
                    ),
                  ),
                ),
              ),
            ),
          ),
        ),
      ),
    )

pub at_once_runs : (c : CoreState) (b : BusState) (w : ℕ) → HasWords b.memory → IsKernel c.system → c.pc ≡ 0x80000000 → c.next ≡ 0x80000004 → c.slot ≡ false → c.registers.late ≡ None
    → length c.registers.general ≡ 32 → slice_index c.registers.general 0 ≡ 0 → CanLoad c b w → RunsInside 0 handler_events c b (after_refill c w)
at_once_runs c b w words kernel pc next slot late size nought can =
    let x : ℕ = slice_index c.registers.general 26 in
    let y : ℕ = slice_index c.registers.general 27 in
    let is : c ≡ at_word 0x80000000 0x80000004 false (lent c.registers x y None) c.system c.entries c.random =
    is_at_word c 0x80000000 0x80000004 false (lent c.registers x y None) pc next slot (none_late c.registers late) in
    subst (λ (d : CoreState). RunsInside 0 handler_events d b (after_refill c w)) (sym is)
    (whole_inside c.registers x y c.system c.entries c.random can.place w b words kernel size nought can.small can.whole can.reached can.memory can.read can.word can.low)
