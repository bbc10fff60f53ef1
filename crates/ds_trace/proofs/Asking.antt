-- How often a place is asked.
use Rattle.std.proofs.Common.{◌≡◌, false, refl, subst, sym}
use Rattle.std.specs.Prelude.{Option, Some, None, Result, Err}
use Rattle.ds_text.specs.Sent.{WriterAnswers, IsAskedOnce}
use Rattle.ds_station.specs.Faults.{is_unwritten}
use Rattle.ds_station.specs.declared.fault.Fault.{Fault}
use Rattle.ds_station.specs.declared.fault.Fault.TheVariants as fault
use Rattle.ds_station.proofs.Outcomes.{unwritten_alike}

-- it was not asked
pub asked_none : (a : Option WriterAnswers) → IsAskedOnce a a false
asked_none None = tt
asked_none (Some x) = λ going. (going, refl)

-- want of memory is no write that failed
pub asked_short : (T : Type 0) (f : Fault) (a b : Option WriterAnswers) → f ≡ fault.Memory → IsAskedOnce a b false → IsAskedOnce a b (is_unwritten {T = T} (Err f))
asked_short T f a b is once = subst (λ (x : Fault). IsAskedOnce a b (is_unwritten {T = T} (Err x))) (sym is) once

-- of an answer that would be of this kind
pub asked_short_of : {T : Type 0} (x : T) (f : Fault) (a b : Option WriterAnswers) → f ≡ fault.Memory → IsAskedOnce a b false → IsAskedOnce a b (is_unwritten {T = T} (Err f))
asked_short_of {T} x f a b is once = asked_short T f a b is once

-- it was asked as for another answer with the same fault
pub asked_same : {T : Type 0} (U : Type 0) (r : Result T Fault) (f : Fault) (a b : Option WriterAnswers) → r ≡ Err f → IsAskedOnce a b (is_unwritten r) → IsAskedOnce a b (is_unwritten {T = U} (Err f))
asked_same {T} U r f a b is once =
    subst (IsAskedOnce a b) (unwritten_alike T U f) (subst (λ (x : Result T Fault). IsAskedOnce a b (is_unwritten x)) is once)
