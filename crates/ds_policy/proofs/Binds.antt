-- What was answered by each step of a definition that answered.
use Rattle.std.proofs.Common.{◌≡◌, ℕ, ◌≤◌, ◌+◌, pos, Bool, true, false, not, List, Option, Some, None, option_and_then, Result, Ok, Err, IfOk, refl, arith, nat_le, ◌&&◌, if◌then◌else◌, negsuc, ◌++◌, ◌∷◌, [], subst, length, length-append}
use Rattle.std.proofs.lemmas.Bool.Decides.{nat_tests}
use Rattle.toml.specs.Data.{Data, string, integer, float, boolean, datetime, array, table, Items, no_items, item, Members, get_member, as_array}
use Rattle.ds_word.specs.ResultBinding.{◌>>=◌}
use Rattle.ds_word.proofs.ResultBinding.{bind_ok}
use Rattle.ds_policy.specs.Refusal.{or_else, check, told_as}
use Rattle.ds_policy.specs.Inner.Refusal.{IsUnread, IsRead}
use Rattle.ds_policy.specs.declared.unread.Unread.{Unread}
use Rattle.ds_policy.specs.declared.unread.Unread.TheVariants.{Reason, Memory}
use Rattle.ds_policy.specs.Document.{number_in, number_at, item_count, items_between, items_if}
use Rattle.ds_policy.specs.declared.cause.PolicyReason.{PolicyReason}
use Rattle.ds_policy.specs.PolicyText.{each_of}

pub bind_some : {A B : Type 0} (o : Option A) (f : A → Option B) (y : B) → option_and_then f o ≡ Some y → (x : A) × (o ≡ Some x) × (f x ≡ Some y)
bind_some None f y h = cc
bind_some (Some x) f y h = (x, refl, h)

pub not_true : (b : Bool) → not b ≡ true → b ≡ false
not_true false h = refl
not_true true h = cc

pub or_else_ok : {A R : Type 0} (o : Option A) (r : R) (x : A) → or_else o r ≡ Ok x → o ≡ Some x
or_else_ok None r x h = cc
or_else_ok (Some y) r x h = cc

pub bind_else : {A B R : Type 0} (o : Option A) (r : R) (f : A → Result B R) (y : B) → (or_else o r >>= f) ≡ Ok y → (x : A) × (o ≡ Some x) × (f x ≡ Ok y)
bind_else None r f y h = cc
bind_else (Some x) r f y h = (x, refl, h)

pub bind_check : {B R : Type 0} (b : Bool) (r : R) (f : Bool → Result B R) (y : B) → (check b r >>= f) ≡ Ok y → (b ≡ true) × (f true ≡ Ok y)
bind_check true r f y h = (refl, h)
bind_check false r f y h = cc

pub told_ok : {A R S : Type 0} (tell : R → S) (r : Result A R) (x : A) → told_as tell r ≡ Ok x → r ≡ Ok x
told_ok tell (Ok y) x h = cc
told_ok tell (Err e) x h = cc

-- what was not read is not read further on
pub unread_then : {A B R : Type 0} (e : Unread R) (r : Result A R) (f : A → Result B R) → IsUnread e r → IsUnread e (r >>= f)
unread_then (Reason why) r f h = rw h refl
unread_then Memory r f h = tt

-- what a function returned that read nothing
pub unread_at : {X Y R : Type 0} (seen : X → Y) (result : Result X (Unread R)) (e : Unread R) (read : Result Y R) → result ≡ Err e → IsUnread e read → IsRead seen result read
unread_at seen result e read is h = rw is h

pub both : (a b : Bool) → a && b ≡ true → (a ≡ true) × (b ≡ true)
both true b h = (refl, h)
both false b h = cc

pub ok_weaker : {X R : Type 0} (r : Result X R) (P Q : X → Type 0) → ((x : X) → P x → Q x) → IfOk r P → IfOk r Q
ok_weaker (Ok x) P Q weaker held = weaker x held
ok_weaker (Err e) P Q weaker held = tt

-- an integer from low to high is
pub number_in_range : (low high : ℕ) (d : Data) (n : ℕ) → number_in low high d ≡ Some n → (low ≤ n) × (n ≤ high)
number_in_range low high (integer (pos m)) n h = in_range (nat_le low m && nat_le m high) refl h
  where
    in_range : (b : Bool) → nat_le low m && nat_le m high ≡ b → (if b then Some m else None) ≡ Some n → (low ≤ n) × (n ≤ high)
    in_range true e g =
        let same : m ≡ n = cc in
        let (below, above) = both (nat_le low m) (nat_le m high) e in
        (grind (arith, nat_tests), grind (arith, nat_tests))
    in_range false e g = cc
number_in_range low high (integer (negsuc m)) n h = cc
number_in_range low high (string s) n h = cc
number_in_range low high (float x) n h = cc
number_in_range low high (boolean b) n h = cc
number_in_range low high (datetime t) n h = cc
number_in_range low high (array ds) n h = cc
number_in_range low high (table ms) n h = cc

pub number_at_range : (key : List ℕ) (low high : ℕ) (ms : Members) (n : ℕ) → number_at key low high ms ≡ Some n → (low ≤ n) × (n ≤ high)
number_at_range key low high ms n h =
    let (d, h1, h2) = bind_some (get_member key ms) (number_in low high) n h in
    number_in_range low high d n h2

-- what each step keeps holds in the end
module _ {X C : Type 0} (one : List X → Data → Result X C) (tell : ℕ → C → PolicyReason) (P : List X → Type 0) (step : (before : List X) (d : Data) (x : X) → P before → one before d ≡ Ok x → P (before ++ x ∷ [])) where
  pub each_keeps : (before : List X) (ds : Items) (xs : List X) → P before → each_of one tell before ds ≡ Ok xs → P xs
  unfolding each_of
  each_keeps before no_items xs p e = let same : before ≡ xs = cc in subst P same p
  each_keeps before (item d ds) xs p e =
      let (x, h1, more) = bind_ok (told_as (tell (length before + 1)) (one before d)) _ xs e in
      each_keeps (before ++ x ∷ []) ds xs (step before d x p (told_ok (tell (length before + 1)) (one before d) x h1)) more

-- as many values as items
pub each_counts : {X C : Type 0} (one : List X → Data → Result X C) (tell : ℕ → C → PolicyReason) (before : List X) (ds : Items) (xs : List X) → each_of one tell before ds ≡ Ok xs → length xs ≡ length before + item_count ds
unfolding each_of
each_counts one tell before no_items xs e = let same : before ≡ xs = cc in rw same (omega arith)
each_counts one tell before (item d ds) xs e =
    let (x, h1, good) = bind_ok (told_as (tell (length before + 1)) (one before d)) _ xs e in
    let more = each_counts one tell (before ++ x ∷ []) ds xs good in
    omega (arith, more, length-append before (x ∷ []))

pub items_within : (low high : ℕ) (d : Data) (ds : Items) → items_between low high d ≡ Some ds → (low ≤ item_count ds) × (item_count ds ≤ high)
items_within low high d ds h =
    let (es, h1, q) = bind_some (as_array d) _ ds h in
    by es (nat_le low (item_count es)) refl (nat_le (item_count es) high) refl q
  where
    by : (es : Items) (a : Bool) → nat_le low (item_count es) ≡ a → (b : Bool) → nat_le (item_count es) high ≡ b → (if a && b then Some es else None) ≡ Some ds → (low ≤ item_count ds) × (item_count ds ≤ high)
    by es true below true above g = let same : es ≡ ds = cc in rw (← same) (grind (arith, nat_tests), grind (arith, nat_tests))
    by es true below false above g = cc
    by es false below b above g = cc

pub items_if_within : (high : ℕ) (found : Option Data) (ds : Items) → items_if high found ≡ Some ds → item_count ds ≤ high
items_if_within high None ds h = let same : no_items ≡ ds = cc in rw (← same) (omega arith)
items_if_within high (Some d) ds h = (items_within 0 high d ds h).1
