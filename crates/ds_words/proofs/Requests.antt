-- What the words after `run` name.
use Rattle.std.proofs.Common.{◌≡◌, ◌∙◌, ◌<◌, ◌≤◌, ◌^◌, ℕ, suc, List, [], sym, ap, refl, subst, arith, Bor}
use Rattle.std.proofs.Math.Nat.{lt_of_not-le}
use Rattle.std.specs.Prelude.{Option, Some, None, Result, Ok, Err, IfOk, IfSome, IsOkAnd, MatchResult, option_map, is_some, IsSomeAnd, MatchOption}
use Rattle.std.specs.Option.{ok_or}
use Rattle.std.specs.Result.{result_ok}
use Rattle.std.specs.Str.Parse.{ParsesUnsigned}
use Rattle.clap.specs.Words.{Text, first_of, first_value, one_of, one_text, rows_of, ReadsOne, TriesOne}
use Rattle.std.proofs.lemmas.Bool.{true≢false}
use Rattle.clap.proofs.WalkLemmas.{first_value-rows, one_text-rows}
use Rattle.clap.specs.declared.parser.matches.Found.{Found}
use Rattle.ds_words.specs.declared.view.Only.{Only}
use Rattle.ds_words.specs.declared.words.BareRequest.{BareRequest}
use Rattle.ds_words.specs.declared.words.TraceRequest.{TraceRequest}
use Rattle.ds_words.specs.declared.words.Untaken.{Untaken}
use Rattle.ds_words.specs.declared.words.Wish.{Wish}
use Rattle.ds_words.specs.declared.words.Wish.TheVariants.{Bare, Trace}
use Rattle.ds_words.specs.declared.bare_view.BareOnly.{BareOnly}
use Rattle.ds_words.specs.Words.{IsGiven, IsNumber, bare_kind_word, kind_word}

-- a word that was found is that of the rows
pub word_found : (f : Found) (id : Text) (r : Option (Bor (List ℕ))) (word : Bor (List ℕ)) → option_map (λ s. s.now) r ≡ first_value f id → r ≡ Some word → first_of id (rows_of f) ≡ Some word.now
word_found f id r word found is = sym (first_value-rows f id) ∙ (sym found ∙ ap (λ (x : Option (Bor (List ℕ))). option_map (λ s. s.now) x) is)

-- a word that is wanting is no word of the rows
pub word_wanting : (f : Found) (id word : Text) (r : Option (Bor (List ℕ))) → option_map (λ s. s.now) r ≡ first_value f id → r ≡ None → ¬ (first_of id (rows_of f) ≡ Some word)
word_wanting f id word r found is given =
    true≢false (ap is_some (sym given ∙ (sym (first_value-rows f id) ∙ (sym found ∙ ap (λ (x : Option (Bor (List ℕ))). option_map (λ s. s.now) x) is))))

number_in : {E : Type 0} (gives : List ℕ → Result ℕ E → Type 0) (k : ℕ) (f : Found) (id : Text) (r : Option ℕ) (n : ℕ) (o : Option (List ℕ))
    → ((t : List ℕ) (x : Result ℕ E) → gives t x → ParsesUnsigned k 10 t x)
    → (one_text f id ≡ None → r ≡ None)
    → ((t : List ℕ) → one_text f id ≡ Some t → ReadsOne gives t r)
    → r ≡ Some n → one_text f id ≡ o → IsNumber k o n
number_in gives k f id r n None parses none value is e = absurd (true≢false (ap is_some (sym is ∙ none e)))
number_in gives k f id r n (Some t) parses none value is e =
    let p = parses t (Ok n) (subst (λ (x : Option ℕ). ReadsOne gives t x) is (value t e)) in
    (p.0.0, sym p.1, subst (λ (m : ℕ). m < 2 ^ k) (sym p.1) p.0.1)

-- no word of the rows
pub no_word : (f : Found) (id : Text) (r : Option (Bor (List ℕ))) → option_map (λ s. s.now) r ≡ first_value f id → r ≡ None → first_of id (rows_of f) ≡ None
no_word f id r found is = sym (first_value-rows f id) ∙ (sym found ∙ ap (λ (x : Option (Bor (List ℕ))). option_map (λ s. s.now) x) is)

abbrev text_in : Option Text → Text
text_in None = []
text_in (Some text) = text

-- a word that stands for no kind names none, and one is named
pub no_kind : (o : Option Text) (word : Text) (only : Option Only) → o ≡ Some word → ((k : Only) → kind_word k ≡ word → ⊥) → o ≡ option_map kind_word only → ⊥
no_kind o word None is none names = true≢false (ap is_some (sym is ∙ names))
no_kind o word (Some k) is none names = none k (ap text_in (sym names ∙ is))

-- so of the kinds of `bare`
pub no_bare_kind : (o : Option Text) (word : Text) (only : Option BareOnly) → o ≡ Some word → ((k : BareOnly) → bare_kind_word k ≡ word → ⊥) → o ≡ option_map bare_kind_word only → ⊥
no_bare_kind o word None is none names = true≢false (ap is_some (sym is ∙ names))
no_bare_kind o word (Some k) is none names = none k (ap text_in (sym names ∙ is))

-- a number that was read is that of the rows' word
pub number_found : {E : Type 0} (gives : List ℕ → Result ℕ E → Type 0) (k : ℕ) (f : Found) (id : Text) (r : Option ℕ) (n : ℕ)
    → ((t : List ℕ) (x : Result ℕ E) → gives t x → ParsesUnsigned k 10 t x)
    → (one_text f id ≡ None → r ≡ None)
    → ((t : List ℕ) → one_text f id ≡ Some t → ReadsOne gives t r)
    → r ≡ Some n → IsNumber k (one_of id (rows_of f)) n
number_found gives k f id r n parses none value is = subst (λ (o : Option (List ℕ)). IsNumber k o n) (one_text-rows f id) (number_in gives k f id r n (one_text f id) parses none value is refl)

no_number_in : {E : Type 0} (gives : List ℕ → Result ℕ E → Type 0) (k : ℕ) (f : Found) (id : Text) (r : Option ℕ) (n : ℕ) (o : Option (List ℕ))
    → ((t : List ℕ) (x : Result ℕ E) → gives t x → ParsesUnsigned k 10 t x)
    → ((t : List ℕ) → one_text f id ≡ Some t → ReadsOne gives t r)
    → r ≡ None → one_text f id ≡ o → IsNumber k o n → ⊥
no_number_in gives k f id r n None parses value is e number = number
no_number_in gives k f id r n (Some t) parses value is e number =
    let p = subst (λ (x : Option ℕ). ReadsOne gives t x) is (value t e) in
    parses t (Err p.0) p.1 (number.0, subst (λ (m : ℕ). m < 2 ^ k) (sym number.1) number.2)

-- where no number was read, the rows' word is none
pub number_wanting : {E : Type 0} (gives : List ℕ → Result ℕ E → Type 0) (k : ℕ) (f : Found) (id : Text) (r : Option ℕ) (n : ℕ)
    → ((t : List ℕ) (x : Result ℕ E) → gives t x → ParsesUnsigned k 10 t x)
    → ((t : List ℕ) → one_text f id ≡ Some t → ReadsOne gives t r)
    → r ≡ None → IsNumber k (one_of id (rows_of f)) n → ⊥
number_wanting gives k f id r n parses value is number =
    no_number_in gives k f id r n (one_text f id) parses value is refl (subst (λ (o : Option (List ℕ)). IsNumber k o n) (sym (one_text-rows f id)) number)

given_in : {E : Type 0} (gives : List ℕ → Result ℕ E → Type 0) (k : ℕ) (f : Found) (id : Text) (r : Result (Option ℕ) E) (o : Option (List ℕ))
    → ((t : List ℕ) (x : Result ℕ E) → gives t x → ParsesUnsigned k 10 t x)
    → (one_text f id ≡ None → r ≡ Ok None)
    → ((t : List ℕ) → one_text f id ≡ Some t → TriesOne gives t r)
    → one_text f id ≡ o → IfSome (result_ok r) (IsGiven k o)
given_in gives k f id r None parses none value e = rw (none e) refl
given_in gives k f id (Ok None) (Some t) parses none value e = absurd (value t e)
given_in gives k f id (Ok (Some n)) (Some t) parses none value e =
    let p = parses t (Ok n) (value t e) in
    (p.0.0, sym p.1, subst (λ (m : ℕ). m < 2 ^ k) (sym p.1) p.0.1)
given_in gives k f id (Err x) (Some t) parses none value e = tt

-- a number that may be left out, as it was read, is that of the rows' word
pub given_found : {E : Type 0} (gives : List ℕ → Result ℕ E → Type 0) (k : ℕ) (f : Found) (id : Text) (r : Result (Option ℕ) E) (q : Option (Option ℕ))
    → ((t : List ℕ) (x : Result ℕ E) → gives t x → ParsesUnsigned k 10 t x)
    → (one_text f id ≡ None → r ≡ Ok None)
    → ((t : List ℕ) → one_text f id ≡ Some t → TriesOne gives t r)
    → q ≡ result_ok r → IfSome q (IsGiven k (one_of id (rows_of f)))
given_found gives k f id r q parses none value is = rw is (subst (λ (o : Option (List ℕ)). IfSome (result_ok r) (IsGiven k o)) (one_text-rows f id) (given_in gives k f id r (one_text f id) parses none value refl))

not_given_in : {E : Type 0} (gives : List ℕ → Result ℕ E → Type 0) (k : ℕ) (f : Found) (id : Text) (r : Result (Option ℕ) E) (o : Option (List ℕ)) (given : Option ℕ)
    → ((t : List ℕ) (x : Result ℕ E) → gives t x → ParsesUnsigned k 10 t x)
    → (one_text f id ≡ None → r ≡ Ok None)
    → ((t : List ℕ) → one_text f id ≡ Some t → TriesOne gives t r)
    → one_text f id ≡ o → result_ok r ≡ None → IsGiven k o given → ⊥
not_given_in gives k f id r None given parses none value e wanting is = true≢false (ap is_some (subst (λ (x : Result (Option ℕ) _). result_ok x ≡ None) (none e) wanting))
not_given_in gives k f id r (Some t) None parses none value e wanting is = is
not_given_in gives k f id (Ok got) (Some t) (Some n) parses none value e wanting is = true≢false (ap is_some wanting)
not_given_in gives k f id (Err x) (Some t) (Some n) parses none value e wanting is =
    parses t (Err x) (value t e) (is.0, subst (λ (m : ℕ). m < 2 ^ k) (sym is.1) is.2)

-- where the word could not be read, it writes no number, and there is one
pub given_wanting : {E : Type 0} (gives : List ℕ → Result ℕ E → Type 0) (k : ℕ) (f : Found) (id : Text) (r : Result (Option ℕ) E) (q : Option (Option ℕ)) (given : Option ℕ)
    → ((t : List ℕ) (x : Result ℕ E) → gives t x → ParsesUnsigned k 10 t x)
    → (one_text f id ≡ None → r ≡ Ok None)
    → ((t : List ℕ) → one_text f id ≡ Some t → TriesOne gives t r)
    → q ≡ result_ok r → q ≡ None → IsGiven k (one_of id (rows_of f)) given → ⊥
given_wanting gives k f id r q given parses none value is wanting number =
    not_given_in gives k f id r (one_text f id) given parses none value refl (sym is ∙ wanting) (subst (λ (o : Option (List ℕ)). IsGiven k o given) (sym (one_text-rows f id)) number)

-- a number is the same in more bits
pub widened : (q r : Option ℕ) → MatchOption q (r ≡ None) (λ x. IsSomeAnd r (λ y. y ≡ x)) → r ≡ q
widened None r is = is
widened (Some x) None is = absurd is
widened (Some x) (Some y) is = ap Some is

-- a trace that is asked for, or this one
trace_or : TraceRequest → Result Wish Untaken → TraceRequest
trace_or t (Ok (Trace x)) = x
trace_or t other = t

-- what holds of the trace that was read holds of that which is asked for
pub mapped_trace : (P : TraceRequest → Type 0) (q : Result TraceRequest Untaken) (r : Result Wish Untaken) (request : TraceRequest)
    → MatchResult q (λ x. IsOkAnd r (λ y. y ≡ Trace x)) (λ e. r ≡ Err e) → IfOk q P → r ≡ Ok (Trace request) → P request
unfolding trace_or
mapped_trace P (Err e) r request cases holds is = let no : Err e ≡ Ok (Trace request) = sym cases ∙ is in absurd (cc)
mapped_trace P (Ok x) (Err e) request cases holds is = absurd cases
mapped_trace P (Ok x) (Ok y) request cases holds is = subst P (ap (trace_or x) (sym (ap Ok cases) ∙ is)) holds

-- a run on the bare machine that is asked for, or this one
bare_or : BareRequest → Result Wish Untaken → BareRequest
bare_or b (Ok (Bare x)) = x
bare_or b other = b

-- what holds of the run that was read, if one was, holds of that which is asked for
pub mapped_bare : (P : BareRequest → Type 0) (q : Option BareRequest) (m : Option Wish) (r : Result Wish Untaken) (cause : Untaken) (request : BareRequest)
    → MatchOption q (m ≡ None) (λ x. IsSomeAnd m (λ y. y ≡ Bare x)) → r ≡ ok_or m cause → IfSome q P → r ≡ Ok (Bare request) → P request
unfolding bare_or
mapped_bare P None m r cause request cases or holds is = let no : Err cause ≡ Ok (Bare request) = sym (ap (λ (o : Option Wish). ok_or o cause) cases) ∙ (sym or ∙ is) in absurd (cc)
mapped_bare P (Some x) None r cause request cases or holds is = absurd cases
mapped_bare P (Some x) (Some y) r cause request cases or holds is = subst P (ap (bare_or x) (sym (ap Ok cases) ∙ (sym or ∙ is))) holds

-- a word writes one number
number_same : (k : ℕ) (o : Option Text) (n m : ℕ) → IsNumber k o n → IsNumber k o m → n ≡ m
number_same k None n m one other = absurd one
number_same k (Some text) n m one other = sym one.1 ∙ other.1

given_same : (k : ℕ) (o : Option Text) (g h : Option ℕ) → IsGiven k o g → IsGiven k o h → g ≡ h
given_same k None g h one other = one ∙ sym other
given_same k (Some text) None h one other = absurd one
given_same k (Some text) (Some n) None one other = absurd other
given_same k (Some text) (Some n) (Some m) one other = ap (λ (x : ℕ). Some x) (number_same k (Some text) n m one other)

-- a window that is read as one that ends before it begins is none of those that may be
pub is_backward : (o q : Option Text) (from first : ℕ) (to past : Option ℕ) → IsNumber 64 o from → IsGiven 32 q to → IsSomeAnd to (λ e. e < from)
    → IsNumber 64 o first → IsGiven 32 q past → ((e : ℕ) → past ≡ Some e → first ≤ e) → ⊥
is_backward o q from first None past read_from read_to ends names_from names_to forward = absurd ends
is_backward o q from first (Some e) past read_from read_to ends names_from names_to forward =
    let same : first ≡ from = number_same 64 o first from names_from read_from in
    let within : first ≤ e = forward e (given_same 32 q past (Some e) names_to read_to) in
    absurd (omega (arith, same, within, ends))

abbrev number_or : Option ℕ → ℕ
number_or None = 0
number_or (Some x) = x

-- one that is not ends where it begins or later
pub is_forward : (from : ℕ) (to : Option ℕ) → (IsSomeAnd to (λ e. e < from) → ⊥) → (e : ℕ) → to ≡ Some e → from ≤ e
is_forward from None not e is = absurd (true≢false (ap is_some (sym is)))
is_forward from (Some n) not e is =
    let same : n ≡ e = ap number_or is in
    let past : from < suc n = lt_of_not-le not in
    omega (arith, same, past)
