-- What is made further of a first state.
use Rattle.std.specs.Prelude.{Result}
use Rattle.std.specs.Result.{result_map_both}
use Rattle.ds_pagemap.specs.Inputs.{Refusal}

-- what is made of an answer; a refusal stays the same refusal
abbrev pub further : {A B : Type 0} → (A → B) → Result A Refusal → Result B Refusal
further f r = result_map_both f (λ refusal. refusal) r
