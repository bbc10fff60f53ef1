-- What is true of each input that was read: each event keeps it.
use Rattle.std.proofs.Common.{◌≡◌, ◌∙◌, sym, ap, subst, refl, ℕ, ◌+◌, ◌*◌, ◌-◌, ◌<◌, ◌≤◌, ◌&&◌, Bool, true, false, nat_le, nat_lt, codes, bytes_eq, List, [], ◌∷◌, ◌++◌, length, Some, None, Result, if◌then◌else◌, Ok, Err, arith, inl, inr, append-nil, append_assoc, length-append}
use Rattle.ds_text.specs.Words.{read_word, write_word, grant_word, narrow_word, revoke_word, drop_word, resume_word, stop_word}
use Rattle.std.proofs.lemmas.List.{get_or_append_left, get_or_push}
use Rattle.std.proofs.lemmas.List.Elements.{All-nil, All-push, All-weaker, All-get_or}
use Rattle.std.proofs.lemmas.List.Sorted.{IsNonDecreasingBy-push, IsNonDecreasingBy-short}
use Rattle.std.proofs.lemmas.Bool.{cases_Bool, cases_lt}
use Rattle.std.proofs.lemmas.Bool.Decides.{nat_tests}
use Rattle.std.specs.List.{All}
use Rattle.std.specs.List.Sorted.{IsNonDecreasingBy}
use Rattle.ds_policy.specs.declared.command.Command.{Command}
use Rattle.ds_policy.specs.declared.command.Command.TheVariants.{Grant, Narrow, Revoke, Drop, Resume, Stop}
use Rattle.ds_policy.specs.declared.command.TimedCommand.{TimedCommand}
use Rattle.ds_policy.specs.declared.command.Character.{Character}
use Rattle.ds_policy.specs.declared.events.cause.InputCause.{InputCause}
use Rattle.ds_policy.specs.declared.events.cause.InputCause.TheVariants.{BadTime, UnknownPage, BadRight, BadGive, BadLine, BadBytes}
use Rattle.ds_policy.specs.declared.events.cause.InputReason.{InputReason}
use Rattle.ds_policy.specs.declared.events.event.Event.{Event}
use Rattle.ds_policy.specs.declared.events.event.Event.TheVariants.{Order, Input}
use Rattle.ds_policy.specs.declared.events.event.TimedEvent.{TimedEvent}
use Rattle.ds_policy.specs.declared.grant.Right.{Right}
use Rattle.ds_policy.specs.declared.grant.Right.TheVariants.{Read, Write}
use Rattle.ds_policy.specs.declared.policy.PolicyPage.{PolicyPage}
use Rattle.ds_policy.specs.Grants.{is_some_right}
use Rattle.ds_policy.specs.PolicyParts.{page_named}
use Rattle.ds_word.specs.Digits.{digit_of, digits_from}
use Rattle.ds_word.specs.ResultBinding.{◌>>=◌}
use Rattle.ds_word.proofs.ResultBinding.{bind_ok}
use Rattle.ds_policy.specs.InputNumbers.{decimal_of, written_bytes}
use Rattle.ds_policy.specs.InputLines.{words_of, console_line_of, right_of, entry_place_of, grant_command, grant_with_give, grant_command_of, entry_in, process_in, keys_of, command_of, event_in, timed_event_of}
use Rattle.ds_policy.specs.InputText.{Said, nothing_said, characters_of, with_event, follows, order_cause, with_timed, is_skipped, with_words, reason_at, with_line, with_lines, lines_of, input_in, read_input, input_of}
use Rattle.ds_policy.specs.InputFacts.{has_time, comes_at, IsGoodCommand, AreGoodCommands}
use Rattle.ds_policy.specs.Inner.InputFacts.{IsGoodCharacter, AreNumbered, IsGoodInput}
use Rattle.ds_policy.specs.Value.{InputValue}
use Rattle.ds_policy.proofs.Binds.{bind_some, bind_else, bind_check, told_ok, both}
use Rattle.ds_policy.proofs.GoodPolicy.{page_within}

-- a number read within a limit is within it
digits_within : (base limit n : ℕ) (cs : List ℕ) (m : ℕ) → n ≤ limit → digits_from base limit n cs ≡ Some m → m ≤ limit
unfolding digits_from
digits_within base limit n [] m within h = let same : n ≡ m = cc in omega arith
digits_within base limit n (c ∷ cs) m within h =
    let (d, found, more) = bind_some (digit_of base c) _ m h in
    elim (cases_Bool (nat_le (n * base + d) limit)) [
      | inl fits ↦ digits_within base limit (n * base + d) cs m (grind (arith, nat_tests)) (rw fits at more)
      | inr past ↦ let none : None ≡ Some m = rw past at more in cc
    ]

decimal_within : (limit : ℕ) (word : List ℕ) (m : ℕ) → decimal_of limit word ≡ Some m → m ≤ limit
decimal_within limit word m h = elim (cases_Bool (nat_le 1 (length word) && nat_le (length word) 10)) [
  | inl fits ↦ digits_within 10 limit 0 word m (omega arith) (rw fits at h)
  | inr past ↦ let none : None ≡ Some m = rw past at h in cc
]

-- a command is good for so many pages, and characters come in on one of four lines
abbrev pub IsGoodFor : ℕ → Event → Type 0
IsGoodFor pages (Order c) = IsGoodCommand pages c
IsGoodFor pages (Input line keys) = line ≤ 3

line_within : (word : List ℕ) (line : ℕ) → console_line_of word ≡ Some line → line ≤ 3
line_within [] line h = cc
line_within (c ∷ []) line h = elim (cases_Bool (nat_le 48 c && nat_le c 51)) [
  | inl fits ↦
      let (low, high) = both (nat_le 48 c) (nat_le c 51) fits in
      let same : Some (c - 48) ≡ Some line = rw fits at h in
      let is : c - 48 ≡ line = cc in
      grind (arith, nat_tests)
  | inr past ↦ let none : None ≡ Some line = rw past at h in cc
]
line_within (c ∷ b ∷ rest) line h = cc

keys_good : (pages : ℕ) (words : List (List ℕ)) (e : Event) → keys_of words ≡ Ok e → IsGoodFor pages e
unfolding keys_of
keys_good pages [] e h = cc
keys_good pages (l ∷ []) e h = cc
keys_good pages (l ∷ digits ∷ []) e h =
    let (line, h1, a) = bind_else (console_line_of l) BadLine _ e h in
    let (keys, h2, b) = bind_else (written_bytes digits) BadBytes _ e a in
    let same : Input line keys ≡ e = cc in
    subst (IsGoodFor pages) same (line_within l line h1)
keys_good pages (l ∷ digits ∷ more ∷ rest) e h = cc

right_given : (word : List ℕ) (right : Right) → right_of word ≡ Some right → is_some_right right ≡ true
right_given word right h = elim (cases_Bool (bytes_eq word read_word)) [
  | inl read ↦ let same : Some Read ≡ Some right = rw read at h in let is : Read ≡ right = cc in subst (λ r. is_some_right r ≡ true) is refl
  | inr other ↦ elim (cases_Bool (bytes_eq word write_word)) [
    | inl write ↦ let same : Some Write ≡ Some right = rw (other, write) at h in let is : Write ≡ right = cc in subst (λ r. is_some_right r ≡ true) is refl
    | inr neither ↦ let none : None ≡ Some right = rw (other, neither) at h in cc
  ]
]

granted_good : (pages : List PolicyPage) (p a name r : List ℕ) (give : Bool) (c : Command) → grant_command pages p a name r give ≡ Ok c → IsGoodCommand (length pages) c
unfolding grant_command
granted_good pages p a name r give c h =
    let (place, h1, i) = bind_ok (entry_place_of p a) _ c h in
    let (page, h2, j) = bind_else (page_named pages name) UnknownPage _ c i in
    let (right, h3, k) = bind_else (right_of r) BadRight _ c j in
    let same : Grant place.process place.address page right give ≡ c = cc in
    subst (IsGoodCommand (length pages)) same (page_within pages name page h2, right_given r right h3)

given_good : (pages : List PolicyPage) (p a name r word : List ℕ) (c : Command) → grant_with_give pages p a name r word ≡ Ok c → IsGoodCommand (length pages) c
unfolding grant_with_give
given_good pages p a name r word c h =
    let (d, h1, i) = bind_ok (grant_command pages p a name r true) _ c h in
    let (known, j) = bind_check (bytes_eq word (codes "give")) BadGive _ c i in
    let same : d ≡ c = cc in
    subst (IsGoodCommand (length pages)) same (granted_good pages p a name r true d h1)

grant_good : (pages : List PolicyPage) (words : List (List ℕ)) (c : Command) → grant_command_of pages words ≡ Ok c → IsGoodCommand (length pages) c
unfolding grant_command_of
grant_good pages [] c h = cc
grant_good pages (p ∷ []) c h = cc
grant_good pages (p ∷ a ∷ []) c h = cc
grant_good pages (p ∷ a ∷ name ∷ []) c h = cc
grant_good pages (p ∷ a ∷ name ∷ r ∷ []) c h = granted_good pages p a name r false c h
grant_good pages (p ∷ a ∷ name ∷ r ∷ word ∷ []) c h = given_good pages p a name r word c h
grant_good pages (p ∷ a ∷ name ∷ r ∷ word ∷ more ∷ rest) c h = cc

-- a command is good that is made of what is read
made_good : {X : Type 0} (pages : ℕ) (r : Result X InputCause) (make : X → Command) (c : Command) → ((x : X) → IsGoodCommand pages (make x))
    → (r >>= (λ x. Ok (make x))) ≡ Ok c → IsGoodCommand pages c
made_good pages r make c good h =
    let (x, h1, a) = bind_ok r _ c h in
    let same : make x ≡ c = cc in
    subst (IsGoodCommand pages) same (good x)

-- what holds of both holds of either
by_verb : {R : Type 0} (verb : Bool) (one other x : R) (P : Type 0) → (one ≡ x → P) → (other ≡ x → P) → (if verb then one else other) ≡ x → P
by_verb true one other x P this that h = this h
by_verb false one other x P this that h = that h

command_good : (pages : List PolicyPage) (verb : List ℕ) (words : List (List ℕ)) (c : Command) → command_of pages verb words ≡ Ok c → IsGoodCommand (length pages) c
unfolding command_of
command_good pages verb words c h =
    let n = length pages in
    by_verb (bytes_eq verb grant_word) _ _ _ _ (grant_good pages words c)
    (by_verb (bytes_eq verb narrow_word) _ _ _ _ (made_good n (entry_in words) (λ e. Narrow e.process e.address) c (λ e. tt))
    (by_verb (bytes_eq verb revoke_word) _ _ _ _ (made_good n (entry_in words) (λ e. Revoke e.process e.address) c (λ e. tt))
    (by_verb (bytes_eq verb drop_word) _ _ _ _ (made_good n (entry_in words) (λ e. Drop e.process e.address) c (λ e. tt))
    (by_verb (bytes_eq verb resume_word) _ _ _ _ (made_good n (process_in words) (λ p. Resume p) c (λ p. tt))
    (by_verb (bytes_eq verb stop_word) _ _ _ _ (made_good n (process_in words) (λ p. Stop p) c (λ p. tt)) (λ none. cc)))))) h

event_is_good : (pages : List PolicyPage) (words : List (List ℕ)) (e : Event) → event_in pages words ≡ Ok e → IsGoodFor (length pages) e
event_is_good pages [] e h = cc
event_is_good pages (verb ∷ words) e h =
    by_verb (bytes_eq verb (codes "key")) _ _ _ _ (keys_good (length pages) words e)
    (λ ordered.
    let (c, h1, a) = bind_ok (command_of pages verb words) _ e ordered in
    let same : Order c ≡ e = cc in
    subst (IsGoodFor (length pages)) same (command_good pages verb words c h1)) h

record IsGoodEvent (pages : ℕ) (e : TimedEvent) : Type 0 where
  time : e.time ≤ 1000000000
  good : IsGoodFor pages e.event

event_good : (pages : List PolicyPage) (words : List (List ℕ)) (e : TimedEvent) → timed_event_of pages words ≡ Ok e → IsGoodEvent (length pages) e
unfolding timed_event_of
event_good pages [] e h = cc
event_good pages (t ∷ words) e h =
    let (time, h1, a) = bind_else (decimal_of 1000000000 t) BadTime _ e h in
    let (event, h2, b) = bind_ok (event_in pages words) _ e a in
    let same : record { time = time; event = event } ≡ e = ap (λ (o : Result TimedEvent InputCause). elim o as (λ x. TimedEvent) [ Ok x ↦ x | Err r ↦ e ]) b in
    subst (IsGoodEvent (length pages)) same (record { time = decimal_within 1000000000 t time h1; good = event_is_good pages words event h2 })

-- what lines have said under a policy of so many pages, and that nothing of it is later than the last event
pub record IsGood (pages : ℕ) (s : Said) : Type 0 where
  pub latest : s.latest ≤ 1000000000
  pub events : s.events ≤ 4096
  pub count : length s.commands ≤ s.events
  pub due : All (λ c. has_time c ≤ s.latest) s.commands
  pub commands : AreGoodCommands pages s.commands
  pub numbers : AreNumbered s.commands
  pub order : IsNonDecreasingBy has_time s.commands
  pub come : All (λ c. comes_at c ≤ s.latest) s.characters
  pub characters : All IsGoodCharacter s.characters
  pub character_order : IsNonDecreasingBy comes_at s.characters

-- one more at the end, no earlier than those before it
module _ {X : Type 0} (time : X → ℕ) where
  later : (xs : List X) (m t : ℕ) → m ≤ t → All (λ x. time x ≤ m) xs → All (λ x. time x ≤ t) xs
  later xs m t more all = All-weaker (λ x. time x ≤ m) (λ x. time x ≤ t) (λ x h. omega (arith, h, more)) xs all

  in_order : (xs : List X) (y : X) → All (λ x. time x ≤ time y) xs → IsNonDecreasingBy time xs → IsNonDecreasingBy time (xs ++ y ∷ [])
  in_order xs y all order = IsNonDecreasingBy-push time xs y order (λ d some. All-get_or (λ x. time x ≤ time y) xs (length xs - 1) d (omega arith) all)

numbered : (xs : List TimedCommand) (y : TimedCommand) → AreNumbered xs → y.number ≡ length xs + 1 → AreNumbered (xs ++ y ∷ [])
numbered xs y all last k d within = elim (cases_lt k (length xs)) [
  | inl before ↦ ap (λ (c : TimedCommand). c.number) (get_or_append_left xs (y ∷ []) d k before) ∙ all k d before
  | inr at ↦
      let same : length xs ≡ k = omega (arith, length-append xs (y ∷ []), at, within) in
      ap (λ (c : TimedCommand). c.number) (get_or_push xs y d k same) ∙ (last ∙ ap (λ n. n + 1) same)
]

order_keeps : (pages : ℕ) (s : Said) (t : ℕ) (c : Command) → IsGood pages s → s.latest ≤ t → t ≤ 1000000000 → s.events < 4096 → IsGoodCommand pages c → IsGood pages (with_event s t (Order c))
order_keeps pages s t c good after due room sound =
    let y : TimedCommand = record { time = t; number = length s.commands + 1; command = c } in
    let earlier = later has_time s.commands s.latest t after good.due in
    record {
      latest = due;
      events = omega arith;
      count = (let few = good.count in omega (arith, length-append s.commands (y ∷ [])));
      due = All-push (λ c. has_time c ≤ t) s.commands y earlier (omega arith);
      commands = All-push (λ (c : TimedCommand). IsGoodCommand pages c.command) s.commands y good.commands sound;
      numbers = numbered s.commands y good.numbers refl;
      order = in_order has_time s.commands y earlier good.order;
      come = later comes_at s.characters s.latest t after good.come;
      characters = good.characters;
      character_order = good.character_order;
    }

record AreGoodAt (t : ℕ) (cs : List Character) : Type 0 where
  come : All (λ c. comes_at c ≤ t) cs
  good : All IsGoodCharacter cs
  order : IsNonDecreasingBy comes_at cs

keys_keep : (t line : ℕ) (keys : List ℕ) (cs : List Character) → t ≤ 1000000000 → line ≤ 3 → AreGoodAt t cs → AreGoodAt t (cs ++ characters_of t line keys)
keys_keep t line [] cs due four good = subst (AreGoodAt t) (sym (append-nil cs)) good
keys_keep t line (b ∷ keys) cs due four good =
    let y : Character = record { time = t; line = line; byte = b } in
    let more = keys_keep t line keys (cs ++ y ∷ []) due four (record {
      come = All-push (λ c. comes_at c ≤ t) cs y good.come (omega arith);
      good = All-push IsGoodCharacter cs y good.good (record { time = due; line = four });
      order = in_order comes_at cs y good.come good.order;
    }) in
    subst (AreGoodAt t) (append_assoc cs (y ∷ []) (characters_of t line keys)) more

input_keeps : (pages : ℕ) (s : Said) (t line : ℕ) (keys : List ℕ) → IsGood pages s → s.latest ≤ t → t ≤ 1000000000 → s.events < 4096 → line ≤ 3 → IsGood pages (with_event s t (Input line keys))
input_keeps pages s t line keys good after due room four =
    let all = keys_keep t line keys s.characters due four (record {
      come = later comes_at s.characters s.latest t after good.come;
      good = good.characters;
      order = good.character_order;
    }) in
    record {
      latest = due;
      events = omega arith;
      count = (let few = good.count in omega arith);
      due = later has_time s.commands s.latest t after good.due;
      commands = good.commands;
      numbers = good.numbers;
      order = good.order;
      come = all.come;
      characters = all.good;
      character_order = all.order;
    }

event_keeps : (pages : ℕ) (s : Said) (t : ℕ) (e : Event) → IsGood pages s → s.latest ≤ t → t ≤ 1000000000 → s.events < 4096 → IsGoodFor pages e → IsGood pages (with_event s t e)
event_keeps pages s t (Order c) good after due room sound = order_keeps pages s t c good after due room sound
event_keeps pages s t (Input line keys) good after due room four = input_keeps pages s t line keys good after due room four

line_keeps : (pages : List PolicyPage) (s : Said) (n : ℕ) (line : List ℕ) (t : Said) → IsGood (length pages) s → with_line pages s n line ≡ Ok t → IsGood (length pages) t
unfolding with_line
line_keeps pages s n line t good h =
    by_verb (is_skipped line) _ _ _ _ (λ skipped. let is : s ≡ t = cc in subst (IsGood (length pages)) is good)
    (λ said.
    let (e, read, more) = bind_ok (timed_event_of pages (words_of line)) (with_timed s) t (told_ok (reason_at n line) (with_words pages s line) t said) in
    elim (cases_Bool (follows s e.time)) [
      | inl follow ↦
          let (after, room) = both (nat_le s.latest e.time) (nat_lt s.events 4096) follow in
          let same : Ok (with_event s e.time e.event) ≡ Ok t = rw follow at more in
          let is : with_event s e.time e.event ≡ t = cc in
          let sound = event_good pages (words_of line) e read in
          subst (IsGood (length pages)) is (event_keeps (length pages) s e.time e.event good (grind (arith, nat_tests)) sound.time (grind (arith, nat_tests)) sound.good)
      | inr may_not ↦ let none : Err (order_cause s e.time) ≡ Ok t = rw may_not at more in cc
    ]) h

lines_keep : (pages : List PolicyPage) (s : Said) (n : ℕ) (lines : List (List ℕ)) (t : Said) → IsGood (length pages) s → with_lines pages s n lines ≡ Ok t → IsGood (length pages) t
unfolding with_lines
lines_keep pages s n [] t good h = let same : s ≡ t = cc in subst (IsGood (length pages)) same good
lines_keep pages s n (line ∷ lines) t good h =
    let (next, h1, more) = bind_ok (with_line pages s n line) _ t h in
    lines_keep pages next (n + 1) lines t (line_keeps pages s n line next good h1) more

nothing_good : (pages : ℕ) → IsGood pages nothing_said
nothing_good pages = record {
  latest = omega arith;
  events = omega arith;
  count = omega arith;
  due = All-nil (λ c. has_time c ≤ 0);
  commands = All-nil (λ (c : TimedCommand). IsGoodCommand pages c.command);
  numbers = λ k d within. absurd (omega (arith, within));
  order = IsNonDecreasingBy-short has_time [] (omega arith);
  come = All-nil (λ c. comes_at c ≤ 0);
  characters = All-nil IsGoodCharacter;
  character_order = IsNonDecreasingBy-short comes_at [] (omega arith);
}

-- what is read of a text is good
pub good_input : (pages : List PolicyPage) (lines : List (List ℕ)) (t : Said) → with_lines pages nothing_said 1 lines ≡ Ok t → IsGoodInput (input_in t)
good_input pages lines t h =
    let good = lines_keep pages nothing_said 1 lines t (nothing_good (length pages)) h in
    record {
      count = (let few = good.count in let most = good.events in omega arith);
      due = later has_time t.commands t.latest 1000000000 good.latest good.due;
      numbers = good.numbers;
      order = good.order;
      characters = good.characters;
      character_order = good.character_order;
    }

-- and its commands are good for the policy's pages
pub good_commands : (pages : List PolicyPage) (lines : List (List ℕ)) (t : Said) → with_lines pages nothing_said 1 lines ≡ Ok t → AreGoodCommands (length pages) t.commands
good_commands pages lines t h = (lines_keep pages nothing_said 1 lines t (nothing_good (length pages)) h).commands

-- an input and its commands are good that a text says
pub input_good : (pages : List PolicyPage) (text : List ℕ) (i : InputValue) → input_of pages text ≡ Ok i → IsGoodInput i × AreGoodCommands (length pages) i.commands
input_good pages text i h =
    let (t, h1, a) = bind_ok (with_lines pages nothing_said 1 (lines_of text)) _ i (told_ok (λ (r : InputReason). r.line) (read_input pages text) i h) in
    let same : input_in t ≡ i = ap (λ (o : Result InputValue InputReason). elim o as (λ x. InputValue) [ Ok x ↦ x | Err r ↦ i ]) a in
    subst (λ (j : InputValue). IsGoodInput j × AreGoodCommands (length pages) j.commands) same (good_input pages (lines_of text) t h1, good_commands pages (lines_of text) t h1)
