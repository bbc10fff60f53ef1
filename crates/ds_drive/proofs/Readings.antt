-- Files that are read one after another.
use Rattle.std.proofs.Common.{◌≡◌, ◌∙◌, ◌<◌, ℕ, Bool, suc, List, [], ◌∷◌, ◌++◌, refl, sym, ap, subst, append-nil, append_assoc, length, get_or, take, inl, inr}
use Rattle.std.specs.Prelude.{Option, Some, None, Result, Ok, drop}
use Rattle.std.proofs.Math.Seq.{take-suc}
use Rattle.std.proofs.lemmas.List.{map-append, take-append-drop}
use Rattle.ds_drive.specs.declared.failure.Failure.{Failure}
use Rattle.ds_drive.specs.declared.failure.Failure.TheVariants as failure
use Rattle.ds_drive.specs.declared.files.FileFault.{FileFault}
use Rattle.ds_policy.specs.PolicyParts.{sources_of}
use Rattle.ds_policy.specs.PolicyText.{policy_of}
use Rattle.ds_policy.specs.Refusal.{PolicyRefusal}
use Rattle.ds_policy.specs.Value.{PolicyValue}
use Rattle.ds_drive.specs.Reading.{AskedFile, HasAsked, AreInOrder, ReadsAll, ReadsRunUntil, ReadsUntil, all_read, run_names, sources_in}
use Rattle.ds_drive.specs.Inner.Reading.{ReadsRun, TellsOf, TellsOfRun}

-- nothing more was asked for
pub none_asked : (known : Option (List AskedFile)) → HasAsked known known []
none_asked None = tt
none_asked (Some l) = ap (λ (x : List AskedFile). Some x) (sym (append-nil l))

-- one after the other
pub both_asked : (old mid new : Option (List AskedFile)) (first others : List AskedFile) → HasAsked old mid first → HasAsked mid new others → HasAsked old new (first ++ others)
both_asked None mid new first others a b = tt
both_asked (Some l) mid new first others a b =
    subst (λ (x : Option (List AskedFile)). HasAsked x new others → new ≡ Some (l ++ (first ++ others))) (sym a)
    (λ is. is ∙ ap (λ (x : List AskedFile). Some x) (append_assoc l first others)) b

-- some files were read, and then others
pub both_read : (first others : List (List ℕ)) (old mid new : Option (List AskedFile)) → ReadsAll first old mid → ReadsAll others mid new → ReadsAll (first ++ others) old new
both_read first others old mid new a b = record {
  has = subst (HasAsked old new) (sym (map-append (λ name. (name, None)) first others)) (both_asked old mid new (all_read first) (all_read others) a.has b.has);
}

-- one file was read
pub one_read : (name : List ℕ) (old new : Option (List AskedFile)) → HasAsked old new ((name, None) ∷ []) → ReadsAll (name ∷ []) old new
one_read name old new has = record { has = has }

-- none was to be read
pub none_read : (known : Option (List AskedFile)) → ReadsAll [] known known
none_read known = record { has = none_asked known }

-- one file was read, and then others
pub one_then_others : (name : List ℕ) (names : List (List ℕ)) (old mid new : Option (List AskedFile)) → ReadsAll (name ∷ []) old mid → ReadsAll names mid new → ReadsAll (name ∷ names) old new
one_then_others name names old mid new a b = both_read (name ∷ []) names old mid new a b

-- a list is what stands before a place, what is there, and the rest
parted : (names : List (List ℕ)) (k : ℕ) (d told : List ℕ) → k < length names → told ≡ get_or names k d → names ≡ take k names ++ (told ∷ drop (suc k) names)
parted names k d told within is =
    sym (take-append-drop (suc k) names)
    ∙ (ap (λ (x : List (List ℕ)). x ++ drop (suc k) names) (take-suc names k d within)
    ∙ (append_assoc (take k names) (get_or names k d ∷ []) (drop (suc k) names)
    ∙ ap (λ (x : List ℕ). take k names ++ (x ∷ drop (suc k) names)) (sym is)))

-- one more was read
pub one_more_read : (names : List (List ℕ)) (k : ℕ) (d told : List ℕ) (old mid new : Option (List AskedFile)) → k < length names → told ≡ get_or names k d
    → ReadsAll (take k names) old mid → HasAsked mid new ((told, None) ∷ []) → ReadsAll (take (suc k) names) old new
one_more_read names k d told old mid new within is before has =
    subst (λ (x : List (List ℕ)). ReadsAll x old new) (ap (λ (x : List ℕ). take k names ++ (x ∷ [])) is ∙ sym (take-suc names k d within))
    (both_read (take k names) (told ∷ []) old mid new before (one_read told mid new has))

module _ (P : Option (List ℕ × FileFault) → Type 0) where
  none_left : (names : List (List ℕ)) → P None → AreInOrder P names []
  none_left [] so = so
  none_left (name ∷ names) so = so

  none_of : (names : List (List ℕ)) → AreInOrder P names [] → P None
  none_of [] so = so
  none_of (name ∷ names) so = so

  in_order_more : (names more : List (List ℕ)) (asked : List AskedFile) → AreInOrder P names asked → AreInOrder P (names ++ more) asked
  in_order_more names more [] so = none_left (names ++ more) (none_of names so)
  in_order_more [] more (a ∷ asked) so = absurd so
  in_order_more (name ∷ names) more ((n, None) ∷ asked) so = (so.0, in_order_more names more asked so.1)
  in_order_more (name ∷ names) more ((n, Some fault) ∷ asked) so = so

  in_order_after : (first names : List (List ℕ)) (asked : List AskedFile) → AreInOrder P names asked → AreInOrder P (first ++ names) (all_read first ++ asked)
  in_order_after [] names asked so = so
  in_order_after (name ∷ first) names asked so = (refl, in_order_after first names asked so)

  -- they are the first of more
  pub more_to_read : (names more : List (List ℕ)) (old new : Option (List AskedFile)) → ReadsUntil P names old new → ReadsUntil P (names ++ more) old new
  more_to_read names more old new r = record { asked = r.asked; has = r.has; in_order = in_order_more names more r.asked r.in_order }

  -- some files were read, and then others up to some place
  pub all_then_until : (first names : List (List ℕ)) (old mid new : Option (List AskedFile)) → ReadsAll first old mid → ReadsUntil P names mid new → ReadsUntil P (first ++ names) old new
  all_then_until first names old mid new a r = record {
    asked = all_read first ++ r.asked;
    has = both_asked old mid new (all_read first) r.asked a.has r.has;
    in_order = in_order_after first names r.asked r.in_order;
  }

  -- no more were asked for
  pub read_no_more : (names : List (List ℕ)) (known : Option (List AskedFile)) → P None → ReadsUntil P names known known
  read_no_more names known so = record { asked = []; has = none_asked known; in_order = none_left names so }

  -- all were read
  pub read_all : (names : List (List ℕ)) (old new : Option (List AskedFile)) → ReadsAll names old new → P None → ReadsUntil P names old new
  read_all names old new a so = subst (λ (x : List (List ℕ)). ReadsUntil P x old new) (append-nil names) (all_then_until names [] old new new a (read_no_more [] new so))

  -- the next was not read
  pub unread_next : (name : List ℕ) (names : List (List ℕ)) (old new : Option (List AskedFile)) (fault : FileFault) → HasAsked old new ((name, Some fault) ∷ []) → P (Some (name, fault)) → ReadsUntil P (name ∷ names) old new
  unread_next name names old new fault has so = record { asked = (name, Some fault) ∷ []; has = has; in_order = (refl, refl, so) }

  -- nor was the one at a place, after those before it
  pub unread_there : (names : List (List ℕ)) (k : ℕ) (d told : List ℕ) (old mid new : Option (List AskedFile)) (fault : FileFault) → k < length names → told ≡ get_or names k d
      → ReadsAll (take k names) old mid → HasAsked mid new ((told, Some fault) ∷ []) → P (Some (told, fault)) → ReadsUntil P names old new
  unread_there names k d told old mid new fault within is before has so =
      subst (λ (x : List (List ℕ)). ReadsUntil P x old new) (sym (parted names k d told within is))
      (all_then_until (take k names) (told ∷ drop (suc k) names) old mid new before (unread_next told (drop (suc k) names) mid new fault has so))

  -- some were read, and no more were asked for
  pub read_so_far : (names : List (List ℕ)) (k : ℕ) (old new : Option (List AskedFile)) → ReadsAll (take k names) old new → P None → ReadsUntil P names old new
  read_so_far names k old new before so =
      subst (λ (x : List (List ℕ)). ReadsUntil P x old new) (take-append-drop k names)
      (all_then_until (take k names) (drop k names) old new new before (read_no_more (drop k names) new so))

  -- the first of some files was not read
  pub first_unread : (name : List ℕ) (names : List (List ℕ)) (old new : Option (List AskedFile)) → ReadsUntil P (name ∷ []) old new → ReadsUntil P (name ∷ names) old new
  first_unread name names old new r = more_to_read (name ∷ []) names old new r

  -- it was, and not all of the others were
  pub one_then_until : (name : List ℕ) (names : List (List ℕ)) (old mid new : Option (List AskedFile)) → ReadsAll (name ∷ []) old mid → ReadsUntil P names mid new → ReadsUntil P (name ∷ names) old new
  one_then_until name names old mid new a r = all_then_until (name ∷ []) names old mid new a r

  -- the one at a place was read after those before it, and no more were asked for
  pub read_as_far_as : (names : List (List ℕ)) (k : ℕ) (d told : List ℕ) (old mid new : Option (List AskedFile)) → k < length names → told ≡ get_or names k d
      → ReadsAll (take k names) old mid → HasAsked mid new ((told, None) ∷ []) → P None → ReadsUntil P names old new
  read_as_far_as names k d told old mid new within is before has so = read_so_far names (suc k) old new (one_more_read names k d told old mid new within is before has) so

module _ (P Q : Option (List ℕ × FileFault) → Type 0) (so : (unread : Option (List ℕ × FileFault)) → P unread → Q unread) where
  order_so : (names : List (List ℕ)) (asked : List AskedFile) → AreInOrder P names asked → AreInOrder Q names asked
  order_so [] [] order = so None order
  order_so (name ∷ names) [] order = so None order
  order_so [] (a ∷ asked) order = absurd order
  order_so (name ∷ names) ((n, None) ∷ asked) order = (order.0, order_so names asked order.1)
  order_so (name ∷ names) ((n, Some fault) ∷ asked) order = (order.0, order.1, so (Some (name, fault)) order.2)

  -- what holds of the file that was not read holds of it in other words
  pub until_so : (names : List (List ℕ)) (old new : Option (List AskedFile)) → ReadsUntil P names old new → ReadsUntil Q names old new
  until_so names old new r = record { asked = r.asked; has = r.has; in_order = order_so names r.asked r.in_order }

-- a failure that tells of a file tells of it where a run is read
as_of_run : (inside : Bool) (f : Failure) (unread : Option (List ℕ × FileFault)) → TellsOf f unread → TellsOfRun inside f unread
as_of_run inside (failure.UnreadableSource told) None none = absurd none
as_of_run inside (failure.UnreadableSource told) (Some u) tells = tells
as_of_run inside (failure.UnreadableFile told) unread tells = tells
as_of_run inside (failure.NoProcess process) unread tells = tells
as_of_run inside (failure.Fault x) unread tells = tells

-- so of files up to some place
pub until_of_run : (inside : Bool) (f : Failure) (names : List (List ℕ)) (old new : Option (List AskedFile)) → ReadsUntil (TellsOf f) names old new → ReadsUntil (TellsOfRun inside f) names old new
until_of_run inside f names old new r = until_so (TellsOf f) (TellsOfRun inside f) (as_of_run inside f) names old new r

-- the sources of a good policy
known_sources : (read : Result PolicyValue PolicyRefusal) (value : PolicyValue) (names : List (List ℕ)) → read ≡ Ok value → names ≡ sources_of value.pages → names ≡ sources_in read
known_sources read value names good are = are ∙ ap sources_in (sym good)

module _ (holds : List ℕ → List ℕ → Type 0) (policy : List ℕ) (input : List (List ℕ)) where
  until_names : (P : Option (List ℕ × FileFault) → Type 0) (text : List ℕ) (old mid new : Option (List AskedFile)) → holds policy text → ReadsAll (policy ∷ []) old mid → ReadsUntil P (input ++ sources_in (policy_of text)) mid new
      → ReadsRunUntil P holds policy input old new
  until_names P text old mid new held a r = record {
    names = run_names policy input text;
    named = inr (text, held, refl);
    until = one_then_until P policy (input ++ sources_in (policy_of text)) old mid new a r;
  }

  -- the policy's file was not read
  pub policy_unread_until : (inside : Bool) (f : Failure) (old new : Option (List AskedFile)) → ReadsUntil (TellsOf f) (policy ∷ []) old new → ReadsRunUntil (TellsOfRun inside f) holds policy input old new
  policy_unread_until inside f old new r = record { names = policy ∷ []; named = inl refl; until = until_of_run inside f (policy ∷ []) old new r }

  -- it was, and the input's was not
  pub input_unread_until : (inside : Bool) (f : Failure) (text : List ℕ) (old mid new : Option (List AskedFile)) → holds policy text → ReadsAll (policy ∷ []) old mid → ReadsUntil (TellsOf f) input mid new
      → ReadsRunUntil (TellsOfRun inside f) holds policy input old new
  input_unread_until inside f text old mid new held a r =
      until_names (TellsOfRun inside f) text old mid new held a (more_to_read (TellsOfRun inside f) input (sources_in (policy_of text)) mid new (until_of_run inside f input mid new r))

  -- both were, and no more were asked for
  pub both_read_until : (P : Option (List ℕ × FileFault) → Type 0) (text : List ℕ) (old mid new : Option (List AskedFile)) → holds policy text → ReadsAll (policy ∷ []) old mid → ReadsAll input mid new → P None
      → ReadsRunUntil P holds policy input old new
  both_read_until P text old mid new held a b so =
      until_names P text old mid new held a (all_then_until P input (sources_in (policy_of text)) mid new new b (read_no_more P (sources_in (policy_of text)) new so))

  -- both were, and not each source
  pub source_unread_until : (inside : Bool) (f : Failure) (text : List ℕ) (value : PolicyValue) (names : List (List ℕ)) (old mid late new : Option (List AskedFile)) → holds policy text → policy_of text ≡ Ok value → names ≡ sources_of value.pages
      → ReadsAll (policy ∷ []) old mid → ReadsAll input mid late → ReadsUntil (TellsOfRun inside f) names late new → ReadsRunUntil (TellsOfRun inside f) holds policy input old new
  source_unread_until inside f text value names old mid late new held good are a b r =
      until_names (TellsOfRun inside f) text old mid new held a (all_then_until (TellsOfRun inside f) input (sources_in (policy_of text)) mid late new b
      (subst (λ (x : List (List ℕ)). ReadsUntil (TellsOfRun inside f) x late new) (known_sources (policy_of text) value names good are) r))

  -- all were read
  pub run_read : (text : List ℕ) (value : PolicyValue) (names : List (List ℕ)) (old mid late new : Option (List AskedFile)) → holds policy text → policy_of text ≡ Ok value → names ≡ sources_of value.pages
      → ReadsAll (policy ∷ []) old mid → ReadsAll input mid late → ReadsAll names late new → ReadsRun holds policy input old new
  run_read text value names old mid late new held good are a b c = record {
    text = text;
    held = held;
    all = one_then_others policy (input ++ sources_in (policy_of text)) old mid new a (both_read input (sources_in (policy_of text)) mid late new b
        (subst (λ (x : List (List ℕ)). ReadsAll x late new) (known_sources (policy_of text) value names good are) c));
  }

  -- and then something else was refused
  pub run_read_until : (P : Option (List ℕ × FileFault) → Type 0) (old new : Option (List AskedFile)) → ReadsRun holds policy input old new → P None → ReadsRunUntil P holds policy input old new
  run_read_until P old new r so = record { names = run_names policy input r.text; named = inr (r.text, r.held, refl); until = read_all P (run_names policy input r.text) old new r.all so }

  -- all were read one after the other, and then something else was refused
  pub all_read_until : (P : Option (List ℕ × FileFault) → Type 0) (text : List ℕ) (value : PolicyValue) (names : List (List ℕ)) (old mid late new : Option (List AskedFile)) → holds policy text → policy_of text ≡ Ok value → names ≡ sources_of value.pages
      → ReadsAll (policy ∷ []) old mid → ReadsAll input mid late → ReadsAll names late new → P None → ReadsRunUntil P holds policy input old new
  all_read_until P text value names old mid late new held good are a b c so = run_read_until P old new (run_read text value names old mid late new held good are a b c) so
