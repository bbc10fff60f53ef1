use Rattle.ds_promise.proofs.Renewal.{ended_out_of_reach}
use Rattle.ds_promise.proofs.ends.what_has_ended_is_out_of_reach_until_it_is_granted_anew.Goals as goal

pub returns : goal.returns
returns c = λ n choices m q address end g k in_time above held ends none whole late.
    ended_out_of_reach q address end above n choices m g k in_time held ends none whole late
