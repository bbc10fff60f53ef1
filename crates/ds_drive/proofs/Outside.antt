-- Sources that have to be inside a folder.
use Rattle.std.proofs.Common.{◌≡◌, inl, inr, ℕ, Bool, true, false, List, [], ◌∷◌, refl, sym, ap, subst}
use Rattle.std.specs.Prelude.{Option, Some, None, Result, Ok, Err, IfErr, is_some, if◌then◌else◌}
use Rattle.std.proofs.lemmas.Bool.{true≢false}
use Rattle.ds_drive.specs.declared.failure.Failure.{Failure}
use Rattle.ds_drive.specs.declared.failure.Failure.TheVariants as failure
use Rattle.ds_drive.specs.Inner.Failures.{AreUnread, AreUntaken}
use Rattle.ds_drive.specs.Inside.{is_outside, outside_of}
use Rattle.ds_drive.specs.Reading.{AskedFile, ReadsUntil}
use Rattle.ds_drive.specs.Inner.Reading.{TellsOf, TellsOfRun}
use Rattle.ds_drive.proofs.Readings.{read_no_more, until_of_run}

abbrev name_or : Option (List ℕ) → List ℕ
name_or None = []
name_or (Some name) = name

found_by : (is : Bool) (inside : Bool) (name told : List ℕ) (rest : Option (List ℕ)) → is_outside inside name ≡ is → (rest ≡ Some told → is_outside inside told ≡ true)
    → ◌≡◌ {A = Option (List ℕ)} (if is then Some name else rest) (Some told) → is_outside inside told ≡ true
found_by true inside name told rest so others found = subst (λ (n : List ℕ). is_outside inside n ≡ true) (ap name_or found) so
found_by false inside name told rest so others found = others found

-- the source that is found leads out
found_outside : (inside : Bool) (names : List (List ℕ)) (told : List ℕ) → outside_of inside names ≡ Some told → is_outside inside told ≡ true
found_outside inside [] told found = absurd (true≢false (ap is_some (sym found)))
found_outside inside (name ∷ names) told found = found_by (is_outside inside name) inside name told (outside_of inside names) refl (λ more. found_outside inside names told more) found

-- then none was asked for
pub outside_unread : (inside : Bool) (names : List (List ℕ)) (told : List ℕ) (known : Option (List AskedFile)) → outside_of inside names ≡ Some told
    → ReadsUntil (TellsOfRun inside (failure.UnreadableSource told)) names known known
outside_unread inside names told known found = read_no_more (TellsOfRun inside (failure.UnreadableSource told)) names known (found_outside inside names told found)

-- and it is the reason
pub outside_untaken : (inside : Bool) (holds : List ℕ → List ℕ → Type 0) (lacks : List ℕ → Type 0) (names : List (List ℕ)) (told : List ℕ) → outside_of inside names ≡ Some told
    → AreUntaken inside holds lacks names (failure.UnreadableSource told)
outside_untaken inside holds lacks names told found = inl found

-- where none leads out, the files were asked for up to some place
pub unread_so_far : {T : Type 0} (inside : Bool) (r : Result T Failure) (names : List (List ℕ)) (old new : Option (List AskedFile))
    → IfErr r (λ f. ReadsUntil (TellsOf f) names old new) → IfErr r (λ f. ReadsUntil (TellsOfRun inside f) names old new)
unread_so_far inside (Ok x) names old new until = tt
unread_so_far inside (Err f) names old new until = until_of_run inside f names old new until

-- and one was not read
pub untaken : {T : Type 0} (inside : Bool) (holds : List ℕ → List ℕ → Type 0) (lacks : List ℕ → Type 0) (r : Result T Failure) (names : List (List ℕ)) → outside_of inside names ≡ None
    → IfErr r (AreUnread holds lacks names) → IfErr r (AreUntaken inside holds lacks names)
untaken inside holds lacks (Ok x) names none unread = tt
untaken inside holds lacks (Err f) names none unread = inr (none, unread)
