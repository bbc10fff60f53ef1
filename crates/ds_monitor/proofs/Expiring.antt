-- Rights that end.
use Rattle.std.proofs.Common.{◌≡◌, ◌∙◌, ℕ, ◌<◌, List, [], sym, ap, arith}
use Rattle.std.proofs.lemmas.List.{append-nil}
use Rattle.ds_policy.specs.Grants.{PageState}
use Rattle.ds_policy.specs.Ends.{expired, NoneEndsBefore}
use Rattle.ds_log.specs.declared.line.Line.{Line}
use Rattle.ds_grants.specs.State.{GrantsState, page_state}
use Rattle.ds_tables.specs.Places.{Places}
use Rattle.ds_pagemap.proofs.Ends.{expired_same}
use Rattle.ds_refinement.specs.Held.{Kept}
use Rattle.ds_refinement.specs.Inner.Held.{whole}
use Rattle.ds_refinement.specs.Inner.Services.{IsBare, Serves}
use Rattle.ds_monitor.specs.Inner.Commands.{with_ends}

-- where what is granted is what is left of it, rights have ended
pub ends_serve : (now : ℕ) (k : Kept) (g : GrantsState) (t : Places) (ends : ℕ) (x y : List ℕ) → IsBare k.state → page_state g y ≡ expired (page_state k.grants x) now
    → Serves (with_ends now) k x (record k { grants = g; tables = t; ends = ends }) y
ends_serve now k g t ends x y b is = record {
  lines = [];
  state = λ log.
      ap (λ (s : PageState). record (whole k x log) { memory = s }) (sym is)
      ∙ ap (λ (l : List Line). whole (record k { grants = g; tables = t; ends = ends }) y l) (sym (append-nil log));
  bare = b;
  text = sym (append-nil k.log);
  count = omega arith;
}

-- before a time before which none ends, nothing is to be done
pub none_ends : (now : ℕ) (k : Kept) (x : List ℕ) → IsBare k.state → now < k.ends → NoneEndsBefore k.ends k.grants.table → Serves (with_ends now) k x k x
none_ends now k x b early before = ends_serve now k k.grants k.tables k.ends x x b (sym (expired_same (page_state k.grants x) now (before now early)))
