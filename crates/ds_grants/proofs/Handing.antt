-- What is represented stays so when an address space number is handed out, and after a flush.
use Rattle.std.proofs.Common.{◌≡◌, ℕ, ◌<◌, ◌≤◌, Bool, true, false, cond, List, refl, sym, ap, ◌∙◌, arith, inl, inr}
use Rattle.std.specs.Prelude.{nat_lt, if◌then◌else◌}
use Rattle.std.proofs.lemmas.Bool.{cases_eq}
use Rattle.std.proofs.lemmas.Bool.Decides.{nat_tests}
use Rattle.ds_tlb.specs.declared.entry.Entry.{Entry}
use Rattle.ds_tlb.specs.Entries.{empty_entries}
use Rattle.ds_asid.specs.Spaces.{Spaces, AreApart, at_start, space_number, space_taken}
use Rattle.ds_asid.specs.Inner.Spaces.{after_take}
use Rattle.ds_asid.proofs.Apart.{start_apart, taken_there, taken_elsewhere, taken_apart}
use Rattle.ds_tables.specs.Places.{Places}
use Rattle.ds_grants.specs.State.{GrantsState}
use Rattle.ds_grants.specs.Buffer.{BufferHolds}
use Rattle.ds_grants.specs.Represented.{IsRepresented}
use Rattle.ds_grants.proofs.Fills.{empty_buffer}

-- nothing in the buffer is in an address space whose number is handed out now
taken_buffer : (entries : List Entry) (s : Spaces) (g : GrantsState) (t : Places) (p : ℕ) → AreApart s → p < 101 → BufferHolds entries s g t → BufferHolds entries (space_taken s p) g t
taken_buffer entries s g t p apart within k = record {
  few = k.few;
  single = k.single;
  apart = k.apart;
  own = k.own;
  backed = λ slot e q at live some number. elim (cases_eq q p) [
    | inl own ↦
        let is : space_number (space_taken s p) q ≡ s.next = ap (space_number (space_taken s p)) own ∙ taken_there s p apart within in
        let before = k.used slot e at some in
        absurd (omega (arith, is, number, before))
    | inr other ↦ k.backed slot e q at live some (sym (taken_elsewhere s p q other) ∙ number)
  ];
  used = λ slot e at some. (let before = k.used slot e at some in omega (arith, before));
}

taken_represented : (entries : List Entry) (memory : List ℕ) (t : Places) (s : Spaces) (g : GrantsState) (p : ℕ) → p < 101 → s.next < 64 → IsRepresented entries memory t s g → IsRepresented entries memory t (space_taken s p) g
taken_represented entries memory t s g p within left k = record {
  buffer = taken_buffer entries s g t p k.spaces within k.buffer;
  words = k.words;
  places = k.places;
  empty = k.empty;
  spaces = taken_apart s p k.spaces within left;
}

flushed_represented : (slots : ℕ) (entries : List Entry) (memory : List ℕ) (t : Places) (s : Spaces) (g : GrantsState) → slots ≤ 64 → IsRepresented entries memory t s g → IsRepresented (empty_entries slots) memory t at_start g
flushed_represented slots entries memory t s g few k = record {
  buffer = empty_buffer slots at_start g t few;
  words = k.words;
  places = k.places;
  empty = k.empty;
  spaces = start_apart;
}

pub handed_out : (slots : ℕ) (entries : List Entry) (memory : List ℕ) (t : Places) (s : Spaces) (g : GrantsState) (p : ℕ) → slots ≤ 64 → p ≤ 100 → IsRepresented entries memory t s g
    → IsRepresented (if nat_lt s.next 64 then entries else empty_entries slots) memory t (after_take s p) g
handed_out slots entries memory t s g p few within k = by (nat_lt s.next 64) (λ left. grind (arith, nat_tests))
  where
    by : (b : Bool) → (b ≡ true → s.next < 64) → IsRepresented (cond b entries (empty_entries slots)) memory t (cond b (space_taken s p) (space_taken at_start p)) g
    by true left = taken_represented entries memory t s g p (omega arith) (left refl) k
    by false left = taken_represented (empty_entries slots) memory t at_start g p (omega arith) (omega arith) (flushed_represented slots entries memory t s g few k)

-- so it is after a call that hands the number out
pub takes_number : {old new : List Entry} (slots : ℕ) {memory : List ℕ} {t : Places} {s later : Spaces} {g : GrantsState} (p : ℕ) → slots ≤ 64 → p ≤ 100
    → new ≡ (if nat_lt s.next 64 then old else empty_entries slots) → later ≡ after_take s p → IsRepresented old memory t s g → IsRepresented new memory t later g
takes_number {old} slots {memory} {t} {s} {g = g} p few within is space_taken k = rw (is, space_taken) (handed_out slots old memory t s g p few within k)
