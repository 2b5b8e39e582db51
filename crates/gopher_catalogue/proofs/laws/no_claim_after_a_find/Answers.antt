use Rattle.gopher_catalogue.proofs.Legal.{FollowEachOther-take}
use Rattle.std.proofs.Common.{take}
use Rattle.gopher_catalogue.specs.Event.{Claimed}
use Rattle.gopher_catalogue.proofs.States.{waits_at}
use Rattle.gopher_catalogue.proofs.laws.no_claim_after_a_find.Goals as goal

pub returns : goal.returns
returns c opening events k number legal at' =
    (waits_at opening (take k events) (legal.0, FollowEachOther-take opening events k legal.1) 0 number (legal.1 k (Claimed number) at')).never_found
