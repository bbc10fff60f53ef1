-- A form that is found by its name, as it is written.
use Rattle.std.proofs.Common.{◌≡◌, ◌∙◌, ap, sym, refl, inl, inr, ℕ, ◌<◌, ◌≤◌, false, bytes_eq, List, [], ◌∷◌, length, slice_index, map, Option, Some, None, Bor, option_map, arith}
use Rattle.std.specs.List.{filter, find}
use Rattle.std.proofs.lemmas.Bool.{cases_Bool}
use Rattle.ds_asm.specs.declared.form.Form.{Form}
use Rattle.ds_asm.specs.Forms.{Written, written_forms, begins_with, form_named}
use Rattle.ds_asm.specs.Inner.Forms.{written_of, forms_with}

find_written : (name : List ℕ) (fs : List Form) → option_map written_of (find (λ f. bytes_eq f.name.now name) fs) ≡ find (λ f. bytes_eq f.name name) (map written_of fs)
find_written name [] = refl
find_written name (f ∷ fs) = elim (cases_Bool (bytes_eq f.name.now name)) [
  | inl e ↦ rw e refl
  | inr e ↦ rw e (find_written name fs)
]

named_among : (name : List ℕ) (fs : List Form) (ws : List Written) → map written_of fs ≡ ws → option_map written_of (find (λ f. bytes_eq f.name.now name) fs) ≡ find (λ f. bytes_eq f.name name) ws
named_among name fs ws e = find_written name fs ∙ ap (λ (vs : List Written). find (λ f. bytes_eq f.name name) vs) e

seen_among : (r : Option (Bor Form)) (name : List ℕ) (fs : List Form) (ws : List Written) → option_map (λ f. f.now) r ≡ find (λ f. bytes_eq f.name.now name) fs → map written_of fs ≡ ws
    → option_map (λ f. written_of f.now) r ≡ find (λ f. bytes_eq f.name name) ws
seen_among None name fs ws h e = ap (option_map written_of) h ∙ named_among name fs ws e
seen_among (Some f) name fs ws h e = ap (option_map written_of) h ∙ named_among name fs ws e

-- A name is among the names that begin as it does.
pub begins_otherwise : (c : ℕ) (cs name : List ℕ) → begins_with c name ≡ false → bytes_eq name (c ∷ cs) ≡ false
begins_otherwise c cs [] e = refl
begins_otherwise c cs (x ∷ xs) e = rw e refl

find_with : (c : ℕ) (cs : List ℕ) (ws : List Written) → find (λ f. bytes_eq f.name (c ∷ cs)) ws ≡ find (λ f. bytes_eq f.name (c ∷ cs)) (filter (λ f. begins_with c f.name) ws)
find_with c cs [] = refl
find_with c cs (w ∷ ws) = elim (cases_Bool (begins_with c w.name)) [
  | inl one ↦ rw one (elim (cases_Bool (bytes_eq w.name (c ∷ cs))) [
    | inl e ↦ rw e refl
    | inr e ↦ rw e (find_with c cs ws)
  ])
  | inr more ↦ rw (more, begins_otherwise c cs w.name more) (find_with c cs ws)
]

pub seen_with : (r : Option (Bor Form)) (name : List ℕ) (fs : List Form) → 1 ≤ length name → option_map (λ f. f.now) r ≡ find (λ f. bytes_eq f.name.now name) fs → map written_of fs ≡ forms_with (slice_index name 0)
    → option_map (λ f. written_of f.now) r ≡ form_named name
unfolding form_named
seen_with r [] fs some h e = absurd (omega arith)
seen_with r (c ∷ cs) fs some h e = seen_among r (c ∷ cs) fs (forms_with c) h e ∙ sym (find_with c cs written_forms)

-- No form has an empty name.
pub nothing_named : (name : List ℕ) → length name < 1 → None ≡ form_named name
unfolding form_named
nothing_named [] none = refl
nothing_named (c ∷ cs) none = absurd (omega arith)
