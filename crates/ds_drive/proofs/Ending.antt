-- Runs that ended, or were left, and what follows.
use Rattle.std.proofs.Common.{◌≡◌, ◌∙◌, ◌⊎◌, inl, inr, ℕ, Bool, true, false, ◌||◌, List, [], refl, sym, ap, subst}
use Rattle.std.specs.Prelude.{Option, Some, None, Result, is_some}
use Rattle.std.specs.Io.KnownBytes.{Appends}
use Rattle.ds_text.specs.Sent.{AppendsPart}
use Rattle.ds_text.proofs.Sends.{appends_none, part_before, part_after}
use Rattle.ds_pagemap.specs.Inputs.{Refusal}
use Rattle.ds_pagemap.specs.Machine.{State}
use Rattle.ds_pagemap.specs.Text.{state_text}
use Rattle.ds_refinement.specs.Held.{Held}
use Rattle.ds_refinement.specs.Stands.{Stands}
use Rattle.ds_station.specs.Headline.{Along, Begins, EndsBy, Followed, Loaded, WritesPart, WritesReally}
use Rattle.ds_station.specs.Inner.Outcome.{WritesBy}
use Rattle.ds_station.specs.Pieces.{ComesReally}
use Rattle.ds_station.specs.Inner.Pieces.{WritesTooMuch, WritesUpTo, WritesWithin}
use Rattle.ds_station.specs.declared.fault.Fault.{Fault}
use Rattle.ds_station.specs.declared.fault.Fault.TheVariants as fault
use Rattle.ds_station.specs.declared.pieces.Extent.{Extent}
use Rattle.ds_station.specs.declared.pieces.Extent.TheVariants.{Whole, TooMuch}
use Rattle.ds_station.proofs.Headlines.{ended_whole, text_alike}
use Rattle.ds_trace.specs.Accounts.{account_text}
use Rattle.ds_trace.specs.Inner.Handed.{IsLate}
use Rattle.ds_trace.specs.Inner.Summed.{WritesSummed}
use Rattle.ds_words.specs.Windows.{windows_in}
use Rattle.ds_words.specs.declared.words.Extras.{Extras}
use Rattle.ds_words.specs.declared.words.RunRequest.{RunRequest}
use Rattle.ds_drive.specs.Failures.{EndsThenBy, WritesPartThen, asks_more}
use Rattle.ds_drive.specs.Outcomes.{IsFollowed, has_window, left, wants_more, where_asked}
use Rattle.ds_drive.specs.Ran.{EndsThen, IsLeft, IsWithin, run_summary, run_told, writing}
use Rattle.ds_drive.specs.Inner.Ran.{IsEnded}
use Rattle.ds_drive.specs.Windows.{windows_text}
use Rattle.ds_drive.specs.declared.outcome.Outcome.{Outcome}

-- nothing of a text is a front of it
pub part_nothing : (known : Option (List ℕ)) (text : List ℕ) → AppendsPart known known text
part_nothing known text = record { part = []; rest = text; whole = refl; appends = appends_none known }

-- a run of which is told has written its text
abbrev pub written_summed : {told : List ℕ} {h : Held} {old new : Option (List ℕ)} {n : ℕ} {read : Result State Refusal} → Begins read (WritesSummed told h old new n) → Begins read (WritesBy h old new n)
written_summed b = (b.0, b.1, record { last = b.2.last; ends = b.2.ends; stands = b.2.stands; written = b.2.written })

or_true : (b : Bool) → (b || true) ≡ true
or_true true = refl
or_true false = refl

-- who wants a summary wants more than the text
pub summary_wanted : (extras : Extras) → extras.summary ≡ true → wants_more extras ≡ true
summary_wanted extras wanted = ap (λ (b : Bool). extras.must_end || (b || has_window (windows_in extras.memory))) wanted ∙ or_true extras.must_end

module _ (request : RunRequest) where
  -- what is wanted of a run
  pub more_asked : wants_more request.extras ≡ true → asks_more request ≡ true
  more_asked wanted = ap (λ (b : Bool). b || is_some request.most) wanted

  pub bound_asked : (most : ℕ) → request.most ≡ Some most → asks_more request ≡ true
  bound_asked most bound = ap (λ (o : Option ℕ). wants_more request.extras || is_some o) bound ∙ or_true (wants_more request.extras)

  pub summary_asked : request.extras.summary ≡ true → asks_more request ≡ true
  summary_asked wanted = more_asked (summary_wanted request.extras wanted)

  -- where no summary is wanted, it has nothing
  pub no_summary : (choices : List Bool) (h : Held) (first : State) → request.extras.summary ≡ false → [] ≡ run_summary request choices h first
  no_summary choices h first none = ap (λ (b : Bool). where_asked b (run_told request.most request.run.most_time choices h first)) (sym none)

  -- where one is, it is what is told by what was counted
  pub counted_summary : (choices : List Bool) (h : Held) (first : State) (text : List ℕ) → request.most ≡ None → request.extras.summary ≡ true → text ≡ run_told None request.run.most_time choices h first → text ≡ run_summary request choices h first
  counted_summary choices h first text unbound wanted told =
      told
      ∙ (ap (λ (x : Option ℕ). run_told x request.run.most_time choices h first) (sym unbound)
      ∙ ap (λ (b : Bool). where_asked b (run_told request.most request.run.most_time choices h first)) (sym wanted))

  -- a front of the text of a run is one of that and of what follows
  pub part_then : (old new : Option (List ℕ)) (first : State) → WritesPart old new request.run.most_time first → WritesPartThen (windows_in request.extras.memory) old new request.run.most_time first
  part_then old new first w = record {
    last = w.last;
    prefix = w.prefix;
    written = part_before old new (state_text w.last) (windows_text w.last (windows_in request.extras.memory)) w.written;
  }

  -- a run ended by a fault
  pub ends_then_by : (f : Fault) (read : Result State Refusal) (old new : Option (List ℕ)) → EndsBy f read old new request.run.most_time → EndsThenBy f request read old new
  ends_then_by fault.Memory read old new ends = inl ends
  ends_then_by fault.WriteFault read old new b = (b.0, b.1, part_then old new b.0 b.2)
  ends_then_by f read old new ends = ends

  -- a fault came after a run
  late_then : (f : Fault) (read : Result State Refusal) (old new : Option (List ℕ)) → IsLate f → asks_more request ≡ true
      → Begins read (WritesPartThen (windows_in request.extras.memory) old new request.run.most_time) → EndsThenBy f request read old new
  late_then fault.Memory read old new late asked part = inr (asked, part)
  late_then fault.WriteFault read old new late asked part = part
  late_then f read old new none asked part = absurd none

  module _ (old between new : Option (List ℕ)) (h : Held) (follows : (m : State) → Stands h m → AppendsPart between new (windows_text m (windows_in request.extras.memory))) where
    ended_part : (first : State) → WritesBy h old between request.run.most_time first → WritesPartThen (windows_in request.extras.memory) old new request.run.most_time first
    ended_part first w = record {
      last = w.last;
      prefix = ended_whole request.run.most_time first w.last w.ends;
      written = part_after old between new (state_text w.last) (windows_text w.last (windows_in request.extras.memory)) w.written (follows w.last w.stands);
    }

    up_to_part : (extent : Extent) (most : ℕ) (first : State) → WritesUpTo extent most h old between request.run.most_time first → WritesPartThen (windows_in request.extras.memory) old new request.run.most_time first
    up_to_part Whole most first w = ended_part first w.by
    up_to_part TooMuch most first w = record {
      last = w.last;
      prefix = record { reached = w.reached; whole = w.whole };
      written = part_after old between new (state_text w.last) (windows_text w.last (windows_in request.extras.memory)) w.written (follows w.last w.stands);
    }

    -- so after a run that has ended
    pub late_ended : (f : Fault) (read : Result State Refusal) → IsLate f → asks_more request ≡ true → Begins read (WritesBy h old between request.run.most_time) → EndsThenBy f request read old new
    late_ended f read late asked b = late_then f read old new late asked (b.0, b.1, ended_part b.0 b.2)

    -- and after one under a bound
    pub late_bounded : (extent : Extent) (most : ℕ) (f : Fault) (read : Result State Refusal) → IsLate f → asks_more request ≡ true → Begins read (WritesUpTo extent most h old between request.run.most_time)
        → EndsThenBy f request read old new
    late_bounded extent most f read late asked b = late_then f read old new late asked (b.0, b.1, up_to_part extent most b.0 b.2)

  module _ (o : Outcome) (old between new : Option (List ℕ)) (h : Held) (summary : List ℕ) where
    -- this follows, whatever the state for which the station stands
    abbrev Follows : Extent → Type 0
    Follows extent = (m : State) → Stands h m → IsFollowed request.extras summary o between new (left extent h m)

    ends_then : (first : State) (w : WritesBy h old between request.run.most_time first) → IsWithin request.most w.last → summary ≡ run_summary request w.ends.reached.choices h first → Follows Whole
        → EndsThen request o (writing old between new) first
    ends_then first w few summed follows = record {
      station = h;
      last = w.last;
      ends = w.ends;
      few = few;
      stands = w.stands;
      written = w.written;
      followed = subst (λ (s : List ℕ). IsFollowed request.extras s o between new (left Whole h w.last)) summed (follows w.last w.stands);
    }

    -- a run without a bound has ended
    pub has_ended : (read : Result State Refusal) (begun : Result Loaded Refusal) → request.most ≡ None → (b : Begins read (WritesBy h old between request.run.most_time))
        → summary ≡ run_summary request b.2.ends.reached.choices h b.0
        → Begins begun (WritesReally Along old between request.run.most_time request.run.random) → Begins begun (WritesReally Followed old between request.run.most_time request.run.random)
        → Follows Whole → IsEnded request o old new read begun
    has_ended read begun unbound b summed real followed follows = (
      between,
      record {
        ends = (b.0, b.1, ends_then b.0 b.2 (subst (λ (most : Option ℕ). IsWithin most b.2.last) (sym unbound) tt) summed follows);
        real = λ none. real;
        followed = followed;
      },
    )

    module _ (most : ℕ) (bound : request.most ≡ Some most) (summed : summary ≡ where_asked request.extras.summary (account_text request.run.most_time h)) (read : Result State Refusal) (begun : Result Loaded Refusal) where
      -- under a bound the summary is the account
      bounded_summary : (choices : List Bool) (first : State) → summary ≡ run_summary request choices h first
      bounded_summary choices first = summed ∙ ap (λ (x : Option ℕ). where_asked request.extras.summary (run_told x request.run.most_time choices h first)) (sym bound)

      real_within : (l : Loaded) (first : State) → WritesBy h old between request.run.most_time first → ComesReally Whole request.run.most_time most request.run.random h l
          → WritesReally Followed old between request.run.most_time request.run.random l
      real_within l first w comes = record {
        first = comes.first;
        begins = comes.begins;
        last = h;
        path = comes.path;
        over = comes.comes.over;
        written = subst (Appends old between) (sym (text_alike h w.last w.stands)) w.written;
      }

      ended_within : Begins read (WritesWithin most h old between request.run.most_time) → Begins begun (ComesReally Whole request.run.most_time most request.run.random h) → Follows Whole
          → IsEnded request o old new read begun
      ended_within b comes follows = (
        between,
        record {
          ends = (b.0, b.1, ends_then b.0 b.2.by (subst (λ (x : Option ℕ). IsWithin x b.2.by.last) (sym bound) b.2.few) (bounded_summary b.2.by.ends.reached.choices b.0) follows);
          real = λ none. absurd (let no : None ≡ Some most = sym none ∙ bound in cc);
          followed = (comes.0, comes.1, real_within comes.0 b.0 b.2.by comes.2);
        },
      )

      left_with : Begins read (WritesTooMuch most h old between request.run.most_time) → Begins begun (ComesReally TooMuch request.run.most_time most request.run.random h) → Follows TooMuch
          → IsLeft request o old new read begun
      left_with b comes follows = record {
        between = between;
        left = record {
          most = most;
          bound = bound;
          station = h;
          leaves = (
            b.0,
            b.1,
            record {
              last = b.2.last;
              reached = b.2.reached;
              whole = b.2.whole;
              much = b.2.much;
              stands = b.2.stands;
              written = b.2.written;
              followed = subst (λ (s : List ℕ). IsFollowed request.extras s o between new (left TooMuch h b.2.last)) (bounded_summary b.2.reached.choices b.0) (follows b.2.last b.2.stands);
            },
          );
          real = comes;
        };
      }

      -- a run under a bound has ended, or was left
      pub has_come : (extent : Extent) → Begins read (WritesUpTo extent most h old between request.run.most_time) → Begins begun (ComesReally extent request.run.most_time most request.run.random h) → Follows extent
          → IsEnded request o old new read begun ⊎ IsLeft request o old new read begun
      has_come Whole b comes follows = inl (ended_within b comes follows)
      has_come TooMuch b comes follows = inr (left_with b comes follows)
