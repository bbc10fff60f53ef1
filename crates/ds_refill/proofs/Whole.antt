-- A whole refill: nine words, from the vector back to the program.
use Rattle.std.proofs.Common.{◌≡◌, ◌≢◌, ℕ, ◌+◌, ◌*◌, ◌%◌, ◌^◌, ◌<◌, Bool, true, false, cond, List, refl, ap, ap₂, ◌∙◌, arith, set, length, length-set}
use Rattle.std.proofs.lemmas.List.{get_or-set_same, get_or-set_other, set-set, set_comm}
use Rattle.std.specs.Prelude.{slice_index, slice_set, not, nat_lt, ◌==◌, None, Option, Result, Ok, Err}
use Rattle.ds_word.specs.Word.{word, bits}
use Rattle.ds_isa.specs.declared.instr.Size.TheVariants.{Word}
use Rattle.ds_isa.specs.declared.instr.Late.{Late}
use Rattle.ds_isa.specs.Registers.{Registers, loaded}
use Rattle.ds_tlb.specs.declared.entry.Entry.{Entry}
use Rattle.ds_tlb.specs.Entries.{random_after}
use Rattle.ds_word.specs.Bytes.{word_at}
use Rattle.ds_cp0.specs.declared.exception.ExceptionCode.TheVariants.{LoadMiss}
use Rattle.ds_cp0.specs.System.{System, asid_of, entered, returned}
use Rattle.ds_isa.specs.declared.instr.Kind.TheVariants.{Load}
use Rattle.ds_amap.specs.declared.map.Mode.TheVariants.{User, Kernel}
use Rattle.ds_amap.specs.declared.map.Physical.{Physical}
use Rattle.ds_amap.specs.declared.map.Fault.{Fault}
use Rattle.ds_amap.specs.declared.map.Fault.TheVariants.{Address, Refill}
use Rattle.ds_amap.specs.Map.{translate, at_physical}
use Rattle.ds_dev.specs.Bus.{BusState, is_memory, answers, load}
use Rattle.ds_core.specs.declared.event.Event.TheVariants.{Branched, Raised}
use Rattle.ds_core.specs.Core.{at_next, with_tick}
use Rattle.ds_core.specs.Access.{mode_of, reached, load_answered, loaded_from}
use Rattle.ds_tlb.specs.Words.{entry_of}
use Rattle.ds_core.specs.Effect.{step}
use Rattle.ds_refill.specs.Handler.{HasWords}
use Rattle.ds_refill.specs.Refill.{late_of, lent}
use Rattle.ds_refill.specs.Inner.Refill.{table_miss, IsKernel, at_word, later, went, RunsBy, handler_events}
use Rattle.ds_refill.proofs.EachWord.{context_is_read, address_is_read, entry_is_loaded, nothing_is_done, entry_is_moved, register_is_cleared, entry_is_written, jump_is_taken, mode_is_popped}

apart : ◌≢◌ {A = ℕ} 27 26
apart = λ (e : ◌≡◌ {A = ℕ} 27 26). omega arith

other : ◌≢◌ {A = ℕ} 26 27
other = λ (e : ◌≡◌ {A = ℕ} 26 27). omega arith

-- Two registers of a list that are lent.

lend_26 : (g : List ℕ) (x y v : ℕ) → set (set (set g 26 x) 27 y) 26 v ≡ set (set g 26 v) 27 y
lend_26 g x y v = set_comm (set g 26 x) 27 26 y v apart ∙ ap (λ (l : List ℕ). set l 27 y) (set-set g 26 x v)

lend_27 : (g : List ℕ) (x y v : ℕ) → set (set (set g 26 x) 27 y) 27 v ≡ set (set g 26 x) 27 v
lend_27 g x y v = set-set (set g 26 x) 27 y v

in_26 : (g : List ℕ) (x y : ℕ) → length g ≡ 32 → slice_index (set (set g 26 x) 27 y) 26 ≡ x
in_26 g x y size = get_or-set_other (set g 26 x) 27 26 y 0 other ∙ get_or-set_same g 26 x 0 (omega arith)

in_27 : (g : List ℕ) (x y : ℕ) → length g ≡ 32 → slice_index (set (set g 26 x) 27 y) 27 ≡ y
in_27 g x y size = let same = length-set g 26 x in get_or-set_same (set g 26 x) 27 y 0 (omega arith)

in_0 : (g : List ℕ) (x y : ℕ) → slice_index (set (set g 26 x) 27 y) 0 ≡ slice_index g 0
in_0 g x y = get_or-set_other (set g 26 x) 27 0 y 0 (λ (e : ◌≡◌ {A = ℕ} 0 27). omega arith) ∙ get_or-set_other g 26 0 x 0 (λ (e : ◌≡◌ {A = ℕ} 0 26). omega arith)

-- What each word makes of a processor whose registers are lent.

pub word_0 : (r : Registers) (x y : ℕ) (s : System) (es : List Entry) (random : ℕ) (b : BusState) → HasWords b.memory → IsKernel s → length r.general ≡ 32
    → step (at_word 0x80000000 0x80000004 false (lent r x y None) s es random) b
    ≡ went (at_word 0x80000004 0x80000008 false (lent r s.context y (late_of 26 x)) s es (random_after 64 8 random)) b
word_0 r x y s es random b w k size =
    context_is_read (at_word 0x80000000 0x80000004 false (lent r x y None) s es random) b w k refl
    ∙ ap₂ (λ (g : List ℕ) (old : ℕ). went (at_word 0x80000004 0x80000008 false (record r { general = g; late = late_of 26 old }) s es (random_after 64 8 random)) b)
    (lend_26 r.general x y s.context) (in_26 r.general x y size)

pub word_1 : (r : Registers) (x y : ℕ) (late : Option Late) (s : System) (es : List Entry) (random : ℕ) (b : BusState) → HasWords b.memory → IsKernel s → length r.general ≡ 32
    → step (at_word 0x80000004 0x80000008 false (lent r x y late) s es random) b
    ≡ went (at_word 0x80000008 0x8000000C false (lent r x s.epc (late_of 27 y)) s es (random_after 64 8 random)) b
word_1 r x y late s es random b w k size =
    address_is_read (at_word 0x80000004 0x80000008 false (lent r x y late) s es random) b w k refl
    ∙ ap₂ (λ (g : List ℕ) (old : ℕ). went (at_word 0x80000008 0x8000000C false (record r { general = g; late = late_of 27 old }) s es (random_after 64 8 random)) b)
    (lend_27 r.general x y s.epc) (in_27 r.general x y size)

same_address : (n : ℕ) → n < 2 ^ 32 → word (n + 0) ≡ n
same_address n e = omega arith

pub word_2 : (r : Registers) (x y old : ℕ) (s : System) (es : List Entry) (random place w : ℕ) (b : BusState) → HasWords b.memory → IsKernel s → length r.general ≡ 32
    → x < 2 ^ 32 → x % 4 ≡ 0 → translate es (asid_of s) Kernel Load x ≡ Ok (at_physical place) → is_memory place ≡ true → word_at b.memory place ≡ w
    → step (at_word 0x80000008 0x8000000C false (lent r x y (late_of 27 old)) s es random) b
    ≡ went (at_word 0x8000000C 0x80000010 false (lent r w y (late_of 26 x)) s es (random_after 64 8 random)) b
word_2 r x y old s es random place w b h k size within aligned reach here is =
    let c = at_word 0x80000008 0x8000000C false (lent r x y (late_of 27 old)) s es random in
    entry_is_loaded c b h k refl
    ∙ ap (λ (n : ℕ). (let addr = word (n + 0) in with_tick (loaded_from c b Word addr (λ v. loaded c.registers 26 v) (reached c Load Word addr)))) (in_26 r.general x y size)
    ∙ ap (λ (addr : ℕ). with_tick (loaded_from c b Word addr (λ v. loaded c.registers 26 v) (reached c Load Word addr))) (same_address x within)
    ∙ ap (λ (m : ℕ). with_tick (loaded_from c b Word x (λ v. loaded c.registers 26 v) (cond (not (m == 0)) (Err Address) (translate es (asid_of s) (mode_of s) Load x)))) aligned
    ∙ ap (λ (u : Bool). with_tick (loaded_from c b Word x (λ v. loaded c.registers 26 v) (translate es (asid_of s) (cond u User Kernel) Load x))) k.mode
    ∙ ap (λ (p : Result Physical Fault). with_tick (loaded_from c b Word x (λ v. loaded c.registers 26 v) p)) reach
    ∙ ap (λ (p : Bool). with_tick (let a = cond p (answers b (word_at b.memory place)) (load b place Word) in load_answered c a.1 (λ v. loaded c.registers 26 v) a.0)) here
    ∙ ap (λ (v : ℕ). with_tick (at_next c b (loaded c.registers 26 v))) is
    ∙ ap₂ (λ (g : List ℕ) (before : ℕ). went (at_word 0x8000000C 0x80000010 false (record r { general = g; late = late_of 26 before }) s es (random_after 64 8 random)) b)
    (lend_26 r.general x y w) (in_26 r.general x y size)

-- no entry maps the page of the table: on to the service, the program's address in register 27

pub word_2_misses : (r : Registers) (x y old : ℕ) (s : System) (es : List Entry) (random : ℕ) (b : BusState) → HasWords b.memory → IsKernel s → length r.general ≡ 32
    → x < 2 ^ 32 → x % 4 ≡ 0 → nat_lt x (2 ^ 31) ≡ false → translate es (asid_of s) Kernel Load x ≡ Err Refill
    → step (at_word 0x80000008 0x8000000C false (lent r x y (late_of 27 old)) s es random) b
    ≡ record { event = Raised LoadMiss; core = at_word 0x80000080 0x80000084 false (lent r x y None) (entered s (table_miss x)) es (random_after 64 8 random); bus = b }
word_2_misses r x y old s es random b h k size within aligned high reach =
    let c = at_word 0x80000008 0x8000000C false (lent r x y (late_of 27 old)) s es random in
    entry_is_loaded c b h k refl
    ∙ ap (λ (n : ℕ). (let addr = word (n + 0) in with_tick (loaded_from c b Word addr (λ v. loaded c.registers 26 v) (reached c Load Word addr)))) (in_26 r.general x y size)
    ∙ ap (λ (addr : ℕ). with_tick (loaded_from c b Word addr (λ v. loaded c.registers 26 v) (reached c Load Word addr))) (same_address x within)
    ∙ ap (λ (m : ℕ). with_tick (loaded_from c b Word x (λ v. loaded c.registers 26 v) (cond (not (m == 0)) (Err Address) (translate es (asid_of s) (mode_of s) Load x)))) aligned
    ∙ ap (λ (u : Bool). with_tick (loaded_from c b Word x (λ v. loaded c.registers 26 v) (translate es (asid_of s) (cond u User Kernel) Load x))) k.mode
    ∙ ap (λ (p : Result Physical Fault). with_tick (loaded_from c b Word x (λ v. loaded c.registers 26 v) p)) reach
    ∙ ap (λ (low : Bool). (let at = cond low 0x80000000 0x80000080 in record { event = Raised LoadMiss; core = at_word at (word (at + 4)) false (lent r x y None) (entered s (table_miss x)) es (random_after 64 8 random); bus = b })) high

pub word_3 : (r : Registers) (x y : ℕ) (late : Option Late) (s : System) (es : List Entry) (random : ℕ) (b : BusState) → HasWords b.memory → IsKernel s
    → step (at_word 0x8000000C 0x80000010 false (lent r x y late) s es random) b
    ≡ went (at_word 0x80000010 0x80000014 false (lent r x y None) s es (random_after 64 8 random)) b
word_3 r x y late s es random b w k = nothing_is_done (at_word 0x8000000C 0x80000010 false (lent r x y late) s es random) b w k refl

whole_entry : (w : ℕ) → w < 2 ^ 32 → w % 256 ≡ 0 → bits w 8 24 * 2 ^ 8 ≡ w
whole_entry w a b = omega arith

pub word_4 : (r : Registers) (x y : ℕ) (s : System) (es : List Entry) (random : ℕ) (b : BusState) → HasWords b.memory → IsKernel s → length r.general ≡ 32
    → x < 2 ^ 32 → x % 256 ≡ 0
    → step (at_word 0x80000010 0x80000014 false (lent r x y None) s es random) b
    ≡ went (at_word 0x80000014 0x80000018 false (lent r x y None) (record s { entry_lo = x }) es (random_after 64 8 random)) b
word_4 r x y s es random b w k size within whole =
    entry_is_moved (at_word 0x80000010 0x80000014 false (lent r x y None) s es random) b w k refl
    ∙ ap (λ (n : ℕ). went (at_word 0x80000014 0x80000018 false (lent r x y None) (record s { entry_lo = bits n 8 24 * 2 ^ 8 }) es (random_after 64 8 random)) b) (in_26 r.general x y size)
    ∙ ap (λ (n : ℕ). went (at_word 0x80000014 0x80000018 false (lent r x y None) (record s { entry_lo = n }) es (random_after 64 8 random)) b) (whole_entry x within whole)

pub word_5 : (r : Registers) (x y : ℕ) (s : System) (es : List Entry) (random : ℕ) (b : BusState) → HasWords b.memory → IsKernel s → slice_index r.general 0 ≡ 0
    → step (at_word 0x80000014 0x80000018 false (lent r x y None) s es random) b
    ≡ went (at_word 0x80000018 0x8000001C false (lent r 0 y None) s es (random_after 64 8 random)) b
word_5 r x y s es random b w k zero =
    register_is_cleared (at_word 0x80000014 0x80000018 false (lent r x y None) s es random) b w k refl
    ∙ ap (λ (n : ℕ). went (at_word 0x80000018 0x8000001C false (record r { general = set (set (set r.general 26 x) 27 y) 26 (word (n + n)); late = None }) s es (random_after 64 8 random)) b) (in_0 r.general x y ∙ zero)
    ∙ ap (λ (g : List ℕ). went (at_word 0x80000018 0x8000001C false (record r { general = g; late = None }) s es (random_after 64 8 random)) b) (lend_26 r.general x y 0)

pub word_6 : (r : Registers) (x y : ℕ) (s : System) (es : List Entry) (random : ℕ) (b : BusState) → HasWords b.memory → IsKernel s
    → step (at_word 0x80000018 0x8000001C false (lent r x y None) s es random) b
    ≡ went (at_word 0x8000001C 0x80000020 false (lent r x y None) s (slice_set es random (entry_of s.entry_hi s.entry_lo)) (random_after 64 8 random)) b
word_6 r x y s es random b w k = entry_is_written (at_word 0x80000018 0x8000001C false (lent r x y None) s es random) b w k refl

pub word_7 : (r : Registers) (x y : ℕ) (s : System) (es : List Entry) (random : ℕ) (b : BusState) → HasWords b.memory → IsKernel s → length r.general ≡ 32
    → step (at_word 0x8000001C 0x80000020 false (lent r x y None) s es random) b
    ≡ record { event = Branched; core = at_word 0x80000020 y true (lent r x y None) s es (random_after 64 8 random); bus = b }
word_7 r x y s es random b w k size =
    jump_is_taken (at_word 0x8000001C 0x80000020 false (lent r x y None) s es random) b w k refl
    ∙ ap (λ (n : ℕ). record { event = Branched; core = at_word 0x80000020 n true (lent r x y None) s es (random_after 64 8 random); bus = b }) (in_27 r.general x y size)

pub word_8 : (r : Registers) (x y pc : ℕ) (s : System) (es : List Entry) (random : ℕ) (b : BusState) → HasWords b.memory → IsKernel s
    → step (at_word 0x80000020 pc true (lent r x y None) s es random) b
    ≡ went (at_word pc (word (pc + 4)) false (lent r x y None) (returned s) es (random_after 64 8 random)) b
word_8 r x y pc s es random b w k = mode_is_popped (at_word 0x80000020 pc true (lent r x y None) s es random) b w k refl

-- The whole of it.

pub whole : (r : Registers) (x y : ℕ) (s : System) (es : List Entry) (random place w : ℕ) (b : BusState)
    → HasWords b.memory → IsKernel s → length r.general ≡ 32 → slice_index r.general 0 ≡ 0
    → s.context < 2 ^ 32 → s.context % 4 ≡ 0 → translate es (asid_of s) Kernel Load s.context ≡ Ok (at_physical place) → is_memory place ≡ true
    → word_at b.memory place ≡ w → w < 2 ^ 32 → w % 256 ≡ 0
    → RunsBy handler_events (at_word 0x80000000 0x80000004 false (lent r x y None) s es random) b
    (at_word s.epc (word (s.epc + 4)) false (lent r 0 s.epc None) (returned (record s { entry_lo = w })) (slice_set es (later 6 random) (entry_of s.entry_hi w)) (later 9 random))
whole r x y s es random place w b h k size zero within aligned reach here is small low =
    let t : System = record s { entry_lo = w } in
    let kt : IsKernel t = record { mode = k.mode; off = k.off } in (
      _,
      word_0 r x y s es random b h k size,
      (
        _,
        word_1 r s.context y _ s es _ b h k size,
        (
          _,
          word_2 r s.context s.epc y s es _ place w b h k size within aligned reach here is,
          (
            _,
            word_3 r w s.epc _ s es _ b h k,
            (
              _,
              word_4 r w s.epc s es _ b h k size small low,
              (
                _,
                word_5 r w s.epc t es _ b h kt zero,
                (
                  _,
                  word_6 r 0 s.epc t es _ b h kt,
                  (
                    _,
                    word_7 r 0 s.epc t _ _ b h kt size,
                    (
                      _,
                      word_8 r 0 s.epc s.epc t _ _ b h kt,
                      refl,
                    ),
                  ),
                ),
              ),
            ),
          ),
        ),
      ),
    )
