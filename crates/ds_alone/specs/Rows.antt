-- A process among others, worked out: each row is a theorem about the definitions alone.
use Rattle.std.specs.Prelude.{◌≡◌, refl, codes, ℕ, Bool, true, false, List, [], ◌∷◌, ◌++◌, length, replicate, Option, Some, None}
use Prim.Native.String.{String}
use Rattle.ds_asm.specs.Assembly.{assembled}
use Rattle.ds_log.specs.declared.line.Line.TheVariants.{Denial}
use Rattle.ds_log.specs.declared.line.Denied.TheVariants as denied
use Rattle.ds_policy.specs.declared.access.Rule.TheVariants.{Number}
use Rattle.ds_policy.specs.declared.grant.Right.TheVariants.{Read, Write}
use Rattle.ds_policy.specs.declared.command.Command.TheVariants as command
use Rattle.ds_policy.specs.declared.command.TimedCommand.{TimedCommand}
use Rattle.ds_policy.specs.declared.command.Character.{Character}
use Rattle.ds_policy.specs.Value.{PolicyValue}
use Rattle.ds_pagemap.specs.Machine.{State}
use Rattle.ds_pagemap.specs.First.{first_state}
use Rattle.ds_pagemap.specs.Run.{after}
use Rattle.ds_pagemap.specs.Rows.{run_on_literals, source, image_or_none, at}
use Rattle.ds_alone.specs.Alone.{is_given_nothing}
use Rattle.ds_alone.specs.Consoles.{has_own_line, console_of}
use Rattle.ds_alone.specs.Deeds.{deeds, deeds_alone, asks_nothing_alone, stops_alone, puts}
use Rattle.ds_alone.specs.Log.{said_of, told_by}
use Rattle.ds_alone.specs.Tests.{is_alone, nobody_may_give, holdings}
use Rattle.ds_alone.specs.Touched.{doings, quiet_alone, puts_by}

-- Two processes on one line, each with its code at 0x00400000 and a page of data at 0x00410000; the rule
-- over the data of process 1 ends at a time, if it is one; what process 2 has for data may be another
-- page, and it may have leave to give it.
abbrev pub policy : ℕ → Option ℕ → ℕ → Bool → PolicyValue
policy rate until page give = record {
  frames = 16;
  rate = rate;
  processes = record { start = 0x00400000; line = 0 } ∷ record { start = 0x00400000; line = 0 } ∷ [];
  pages = record { name = codes "code"; source = Some (record { name = codes "one.s"; part = 0 }) } ∷ record { name = codes "data"; source = None }
      ∷ record { name = codes "other"; source = Some (record { name = codes "two.s"; part = 0 }) } ∷ record { name = codes "more"; source = None } ∷ [];
  rules = record { process = 1; address = 0x00400000; right = Read; page = Some 0; give = false; until = None } ∷ record { process = 1; address = 0x00410000; right = Write; page = Some 1; give = false; until = until }
      ∷ record { process = 2; address = 0x00400000; right = Read; page = Some 2; give = false; until = None } ∷ record { process = 2; address = 0x00410000; right = Write; page = Some page; give = give; until = None } ∷ [];
}

-- process 1 with one source and process 2 with another
abbrev pub pair : PolicyValue → List String → List String → List TimedCommand → List Character → State
pair policy one two commands characters = first_state policy (image_or_none (assembled (source one)) ∷ image_or_none (assembled (source two)) ∷ []) (record { commands = commands; characters = characters })

-- nothing is shared, nobody may give, and nothing comes in
abbrev pub plain : PolicyValue
plain = policy 3 None 3 false

-- it stores, yields, loads, puts what it loaded and a letter made of its own number, and ends
abbrev pub guest : List String
guest = "lui $8,0x41" ∷ "addiu $9,$0,65" ∷ "sw $9,0($8)" ∷ "addiu $2,$0,3" ∷ "syscall" ∷ "lw $4,0($8)" ∷ "addiu $2,$0,1" ∷ "syscall" ∷ "addiu $2,$0,5" ∷ "syscall" ∷ "addiu $4,$2,65" ∷ "addiu $2,$0,1" ∷ "syscall" ∷ "addiu $2,$0,0" ∷ "syscall" ∷ []

-- it stores at the same address, yields, puts a letter, and is denied
abbrev pub busy : List String
busy = "lui $8,0x41" ∷ "addiu $9,$0,90" ∷ "sw $9,0($8)" ∷ "addiu $2,$0,3" ∷ "syscall" ∷ "addiu $4,$0,90" ∷ "addiu $2,$0,1" ∷ "syscall" ∷ "lw $9,0($0)" ∷ []

-- it goes round and round
abbrev pub idle : List String
idle = "loop: beq $0,$0,loop" ∷ "nop" ∷ []

-- it ends at once
abbrev pub gone : List String
gone = "addiu $2,$0,0" ∷ "syscall" ∷ []

-- Whoever else is there, however long the periods are, and whatever comes in.

pub it_does_the_same_beside_another : deeds 1 200 60 (pair plain guest busy [] []) ≡ deeds 1 200 90 (pair plain guest idle [] [])
unfolding run_on_literals
it_does_the_same_beside_another = refl

pub it_does_the_same_in_other_periods_with_other_input : deeds 1 200 60 (pair plain guest busy [] []) ≡ deeds 1 300 70 (pair (policy 4 None 3 true) guest gone (at 3 1 (command.Stop 2) ∷ []) (record { time = 1; line = 0; byte = 7 } ∷ []))
unfolding run_on_literals
it_does_the_same_in_other_periods_with_other_input = refl

pub alone_it_puts_the_same : puts (deeds_alone 1 20 (pair plain guest idle [] [])) ≡ codes "AB"
unfolding run_on_literals
alone_it_puts_the_same = refl

pub it_puts_two_letters : puts (deeds 1 200 60 (pair plain guest busy [] [])) ≡ codes "AB"
unfolding run_on_literals
it_puts_two_letters = refl

-- fifteen units, the last of them its end
pub it_does_fifteen_units : length (deeds 1 200 60 (pair plain guest busy [] [])) ≡ 15
unfolding run_on_literals
it_does_fifteen_units = refl

-- a shorter run goes less far
pub it_comes_less_far : puts (deeds 1 200 20 (pair plain guest busy [] [])) ≡ []
unfolding run_on_literals
it_comes_less_far = refl

-- The tests say so beforehand.

pub it_is_alone : is_alone false 1 (pair plain guest busy [] []) ≡ true
unfolding run_on_literals
it_is_alone = refl

pub so_is_the_other : is_alone false 2 (pair plain guest busy [] []) ≡ true
unfolding run_on_literals
so_is_the_other = refl

pub nobody_gives : nobody_may_give (pair plain guest busy [] []) ≡ true
unfolding run_on_literals
nobody_gives = refl

pub it_asks_nothing : asks_nothing_alone false 1 20 (pair plain guest busy [] []) ≡ true
unfolding run_on_literals
it_asks_nothing = refl

pub it_stops : stops_alone 1 20 (pair plain guest busy [] []) ≡ true
unfolding run_on_literals
it_stops = refl

pub it_is_quiet : quiet_alone 1 20 (pair plain guest busy [] []) ≡ true
unfolding run_on_literals
it_is_quiet = refl

pub it_has_the_same : holdings 1 (pair plain guest busy [] []) ≡ holdings 1 (pair (policy 4 None 3 true) guest gone (at 3 1 (command.Stop 2) ∷ []) [])
unfolding run_on_literals
it_has_the_same = refl

-- Touched or not, but for its registers.

-- half of the half turns touched
abbrev some : List Bool
some = true ∷ false ∷ false ∷ true ∷ true ∷ true ∷ false ∷ true ∷ false ∷ false ∷ []

-- three in four touched
abbrev many : List Bool
many = true ∷ true ∷ false ∷ true ∷ []

pub touches_make_no_difference : doings 1 200 (some ++ some ++ some ++ some ++ some ++ some) (pair plain guest busy [] []) ≡ doings 1 200 (many ++ some ++ many ++ some ++ some ++ many ++ some ++ some) (pair plain guest gone [] [])
unfolding run_on_literals
touches_make_no_difference = refl

-- it puts a byte of register 27
abbrev looks : List String
looks = "srl $4,$27,16" ∷ "addiu $2,$0,1" ∷ "syscall" ∷ "addiu $2,$0,0" ∷ "syscall" ∷ []

pub a_touch_tells : puts_by (doings 1 200 (some ++ some ++ some) (pair plain looks gone [] [])) ≡ 64 ∷ []
unfolding run_on_literals
a_touch_tells = refl

pub who_is_not_touched_sees_none : puts_by (doings 1 200 (false ∷ some ++ some ++ some) (pair plain looks gone [] [])) ≡ 0 ∷ []
unfolding run_on_literals
who_is_not_touched_sees_none = refl

-- its first instruction loads at 0x2000 after what register 27 has
abbrev loads_by_it : List String
loads_by_it = "lw $8,0x2000($27)" ∷ []

pub so_does_its_own_unit : told_by (doings 1 200 (true ∷ false ∷ []) (pair plain loads_by_it gone [] [])) ≡ Denial 0 1 0x00400000 denied.Load 0x00402000 (Number 0) 2 ∷ []
unfolding run_on_literals
so_does_its_own_unit = refl

pub to_look_is_not_quiet : quiet_alone 1 20 (pair plain looks gone [] []) ≡ false
unfolding run_on_literals
to_look_is_not_quiet = refl

-- What stands on a line of its own, and what the log says of it.

-- the same two with lines of their own
abbrev apart : PolicyValue
apart = record plain { processes = record { start = 0x00400000; line = 2 } ∷ record { start = 0x00400000; line = 0 } ∷ [] }

pub it_has_its_own_line : has_own_line 1 (pair apart guest busy [] []) ≡ true
unfolding run_on_literals
it_has_its_own_line = refl

pub a_shared_line_is_none : has_own_line 1 (pair plain guest busy [] []) ≡ false
unfolding run_on_literals
a_shared_line_is_none = refl

pub it_stands_there : console_of 1 (after 200 (replicate 60 false) (pair apart guest busy [] [])) ≡ codes "AB"
unfolding run_on_literals
it_stands_there = refl

-- on a shared line the others write too
pub others_write_on_a_shared_line : console_of 1 (after 200 (replicate 60 false) (pair plain guest busy [] [])) ≡ codes "ABZ"
unfolding run_on_literals
others_write_on_a_shared_line = refl

-- it loads where nothing is granted
abbrev strays : List String
strays = "addiu $2,$0,3" ∷ "syscall" ∷ "lw $8,8($0)" ∷ []

pub the_log_says_that_it_strays : said_of 1 (after 200 (replicate 60 false) (pair plain strays busy [] [])).log ≡ Denial 0 1 0x00400008 denied.Load 8 (Number 0) 2 ∷ []
unfolding run_on_literals
the_log_says_that_it_strays = refl

pub so_it_does_beside_another : said_of 1 (after 200 (replicate 60 false) (pair plain strays gone [] [])).log ≡ Denial 0 1 0x00400008 denied.Load 8 (Number 0) 2 ∷ []
unfolding run_on_literals
so_it_does_beside_another = refl

-- Each premise is needed: what process 1 puts beside one process is not what it puts beside another.

-- it yields, asks for the time, and puts its low byte
abbrev asks_time : List String
asks_time = "addiu $2,$0,3" ∷ "syscall" ∷ "addiu $2,$0,4" ∷ "syscall" ∷ "addu $4,$2,$0" ∷ "addiu $2,$0,1" ∷ "syscall" ∷ "addiu $2,$0,0" ∷ "syscall" ∷ []

pub the_time_tells : puts (deeds 1 200 90 (pair plain asks_time busy [] [])) ≡ 8 ∷ []
unfolding run_on_literals
the_time_tells = refl

pub of_who_else_is_there : puts (deeds 1 200 90 (pair plain asks_time gone [] [])) ≡ 5 ∷ []
unfolding run_on_literals
of_who_else_is_there = refl

pub to_ask_the_time_is_to_ask : asks_nothing_alone false 1 20 (pair plain asks_time busy [] []) ≡ false
unfolding run_on_literals
to_ask_the_time_is_to_ask = refl

-- both have the page of data
pub a_shared_page_tells : puts (deeds 1 200 90 (pair (policy 3 None 1 false) guest busy [] [])) ≡ codes "ZB"
unfolding run_on_literals
a_shared_page_tells = refl

pub nothing_is_told_by_who_stores_nothing : puts (deeds 1 200 90 (pair (policy 3 None 1 false) guest gone [] [])) ≡ codes "AB"
unfolding run_on_literals
nothing_is_told_by_who_stores_nothing = refl

pub who_shares_a_page_is_not_alone : is_alone false 1 (pair (policy 3 None 1 false) guest busy [] []) ≡ false
unfolding run_on_literals
who_shares_a_page_is_not_alone = refl

-- it yields, loads from 0x00420000, and puts what it loaded
abbrev loads_there : List String
loads_there = "addiu $2,$0,3" ∷ "syscall" ∷ "lui $8,0x42" ∷ "lw $4,0($8)" ∷ "addiu $2,$0,1" ∷ "syscall" ∷ "addiu $2,$0,0" ∷ "syscall" ∷ []

-- it stores, gives process 1 its page there for reading, and ends
abbrev gives : List String
gives = "lui $4,0x41" ∷ "addiu $9,$0,90" ∷ "sw $9,0($4)" ∷ "addiu $5,$0,1" ∷ "lui $6,0x42" ∷ "addiu $7,$0,1" ∷ "addiu $2,$0,6" ∷ "syscall" ∷ "addiu $2,$0,3" ∷ "syscall" ∷ []

pub a_gift_tells : puts (deeds 1 200 90 (pair (policy 3 None 3 true) loads_there gives [] [])) ≡ codes "Z"
unfolding run_on_literals
a_gift_tells = refl

pub without_it_the_load_is_denied : puts (deeds 1 200 90 (pair (policy 3 None 3 true) loads_there busy [] [])) ≡ []
unfolding run_on_literals
without_it_the_load_is_denied = refl

pub a_gift_is_one : is_given_nothing 1 200 60 (pair (policy 3 None 3 true) loads_there gives [] []) ≡ false
unfolding run_on_literals
a_gift_is_one = refl

pub without_leave_it_is_none : is_given_nothing 1 200 60 (pair plain loads_there gives [] []) ≡ true
unfolding run_on_literals
without_leave_it_is_none = refl

pub who_has_leave_may_give : nobody_may_give (pair (policy 3 None 3 true) loads_there gives [] []) ≡ false
unfolding run_on_literals
who_has_leave_may_give = refl

-- its right to its data ends at 10
pub an_end_tells : puts (deeds 1 200 90 (pair (policy 3 (Some 10) 3 false) guest busy [] [])) ≡ []
unfolding run_on_literals
an_end_tells = refl

pub where_nobody_is_in_the_way_it_is_in_time : puts (deeds 1 200 90 (pair (policy 3 (Some 10) 3 false) guest gone [] [])) ≡ codes "AB"
unfolding run_on_literals
where_nobody_is_in_the_way_it_is_in_time = refl

pub what_ends_does_not_last : is_alone false 1 (pair (policy 3 (Some 10) 3 false) guest busy [] []) ≡ false
unfolding run_on_literals
what_ends_does_not_last = refl

-- the operator takes the right to its data at 10
abbrev taken : List TimedCommand
taken = at 10 1 (command.Revoke 1 0x00410000) ∷ []

pub a_command_tells : puts (deeds 1 200 90 (pair plain guest busy taken [])) ≡ []
unfolding run_on_literals
a_command_tells = refl

pub before_a_command_nothing_is_told : puts (deeds 1 200 90 (pair plain guest gone taken [])) ≡ codes "AB"
unfolding run_on_literals
before_a_command_nothing_is_told = refl

pub who_is_named_is_not_left_alone : is_alone false 1 (pair plain guest busy taken []) ≡ false
unfolding run_on_literals
who_is_named_is_not_left_alone = refl

-- it yields, gets a character, and puts it
abbrev gets : List String
gets = "addiu $2,$0,3" ∷ "syscall" ∷ "addiu $2,$0,2" ∷ "syscall" ∷ "addu $4,$2,$0" ∷ "addiu $2,$0,1" ∷ "syscall" ∷ "addiu $2,$0,0" ∷ "syscall" ∷ []

-- a letter comes in at 7
abbrev typed : List Character
typed = record { time = 7; line = 0; byte = 88 } ∷ []

pub a_character_tells : puts (deeds 1 200 90 (pair plain gets busy [] typed)) ≡ codes "X"
unfolding run_on_literals
a_character_tells = refl

pub how_long_it_took_to_come : puts (deeds 1 200 90 (pair plain gets gone [] typed)) ≡ 255 ∷ []
unfolding run_on_literals
how_long_it_took_to_come = refl

-- it yields, and gives process 2 a page that it may not give
abbrev offers : List String
offers = "addiu $2,$0,3" ∷ "syscall" ∷ "lui $4,0x41" ∷ "addiu $5,$0,2" ∷ "lui $6,0x42" ∷ "addiu $7,$0,1" ∷ "addiu $2,$0,6" ∷ "syscall" ∷ "addu $4,$2,$0" ∷ "addiu $2,$0,1" ∷ "syscall" ∷ "addiu $2,$0,0" ∷ "syscall" ∷ []

pub a_refusal_tells : puts (deeds 1 200 90 (pair plain offers busy [] [])) ≡ 15 ∷ []
unfolding run_on_literals
a_refusal_tells = refl

pub who_has_ended : puts (deeds 1 200 90 (pair plain offers gone [] [])) ≡ 12 ∷ []
unfolding run_on_literals
who_has_ended = refl

pub to_get_is_to_ask : asks_nothing_alone false 1 20 (pair plain gets busy [] typed) ≡ false
unfolding run_on_literals
to_get_is_to_ask = refl

pub to_give_is_to_ask : asks_nothing_alone false 1 20 (pair plain offers busy [] []) ≡ false
unfolding run_on_literals
to_give_is_to_ask = refl

-- it takes what process 2 has at 0x00410000, and ends
abbrev takes : List String
takes = "addiu $4,$0,2" ∷ "lui $5,0x41" ∷ "addiu $2,$0,7" ∷ "syscall" ∷ "addu $4,$2,$0" ∷ "addiu $2,$0,1" ∷ "syscall" ∷ "addiu $2,$0,0" ∷ "syscall" ∷ []

pub to_take_is_to_ask : asks_nothing_alone false 1 20 (pair plain takes busy [] []) ≡ false
unfolding run_on_literals
to_take_is_to_ask = refl

-- it waits for a character, and ends
abbrev waits : List String
waits = "addiu $2,$0,9" ∷ "syscall" ∷ "addiu $2,$0,0" ∷ "syscall" ∷ []

pub to_wait_is_to_ask : asks_nothing_alone false 1 20 (pair plain waits busy [] []) ≡ false
unfolding run_on_literals
to_wait_is_to_ask = refl

-- Where no character comes to its line it may ask for one.

pub to_get_tells_nothing_where_none_comes : asks_nothing_alone true 1 20 (pair plain gets busy [] []) ≡ true
unfolding run_on_literals
to_get_tells_nothing_where_none_comes = refl

pub to_wait_tells_nothing_either : asks_nothing_alone true 1 20 (pair plain waits busy [] []) ≡ true
unfolding run_on_literals
to_wait_tells_nothing_either = refl

pub its_line_is_silent : is_alone true 1 (pair plain gets busy [] []) ≡ true
unfolding run_on_literals
its_line_is_silent = refl

pub a_character_to_come_is_heard : is_alone true 1 (pair plain gets busy [] typed) ≡ false
unfolding run_on_literals
a_character_to_come_is_heard = refl

-- the letter comes in at 7 on another line
pub a_character_on_another_line_is_not : is_alone true 1 (pair plain gets busy [] (record { time = 7; line = 3; byte = 88 } ∷ [])) ≡ true
unfolding run_on_literals
a_character_on_another_line_is_not = refl

-- a letter is there before the run
pub a_character_that_waits_is_heard : is_alone true 1 (record (pair plain gets busy [] []) { queues = (88 ∷ []) ∷ [] ∷ [] ∷ [] ∷ [] }) ≡ false
unfolding run_on_literals
a_character_that_waits_is_heard = refl

pub without_characters_it_gets_the_same : deeds 1 200 90 (pair plain gets busy [] []) ≡ deeds 1 200 90 (pair plain gets gone [] [])
unfolding run_on_literals
without_characters_it_gets_the_same = refl

-- it waits for ever
pub who_waits_does_two_units : length (deeds 1 200 90 (pair plain waits busy [] [])) ≡ 2
unfolding run_on_literals
who_waits_does_two_units = refl

pub so_it_does_alone : length (deeds_alone 1 20 (pair plain waits busy [] [])) ≡ 2
unfolding run_on_literals
so_it_does_alone = refl

pub the_time_tells_all_the_same : asks_nothing_alone true 1 20 (pair plain asks_time busy [] []) ≡ false
unfolding run_on_literals
the_time_tells_all_the_same = refl

pub alone_it_does_fifteen_units : length (deeds_alone 1 20 (pair plain guest busy [] [])) ≡ 15
unfolding run_on_literals
alone_it_does_fifteen_units = refl

-- process 2 shares its page with itself
abbrev gives_itself : List String
gives_itself = "lui $4,0x41" ∷ "addiu $5,$0,2" ∷ "lui $6,0x42" ∷ "addiu $7,$0,1" ∷ "addiu $2,$0,6" ∷ "syscall" ∷ "addiu $2,$0,3" ∷ "syscall" ∷ []

pub a_gift_to_another_is_none : is_given_nothing 1 200 60 (pair (policy 3 None 3 true) loads_there gives_itself [] []) ≡ true
unfolding run_on_literals
a_gift_to_another_is_none = refl

pub who_is_granted_its_page_later_is_not_alone : is_alone false 1 (pair plain guest busy (at 9 1 (command.Grant 2 0x00420000 1 Read false) ∷ []) []) ≡ false
unfolding run_on_literals
who_is_granted_its_page_later_is_not_alone = refl

pub a_grant_of_another_page_is_of_others : is_alone false 1 (pair plain guest busy (at 9 1 (command.Grant 2 0x00420000 3 Read false) ∷ []) []) ≡ true
unfolding run_on_literals
a_grant_of_another_page_is_of_others = refl

pub a_command_may_let_give : nobody_may_give (pair plain guest busy (at 9 1 (command.Grant 2 0x00420000 3 Read true) ∷ []) []) ≡ false
unfolding run_on_literals
a_command_may_let_give = refl

pub it_sees_two_pages : length (holdings 1 (pair plain guest busy [] [])).pages ≡ 2
unfolding run_on_literals
it_sees_two_pages = refl
