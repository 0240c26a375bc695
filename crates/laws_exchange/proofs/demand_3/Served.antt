-- The request that a copy writes is answered by a 206 of the holes that it asks for, with nothing assumed.
use Rattle.rules_demands.specs.RequestServing.{RequestServed}
use Rattle.laws_reader.proofs.rules_kept.Demand1.{asking_always}
use Rattle.laws_exchange.proofs.completion.Served as asked

pub request_served : RequestServed
request_served = asked.request_served asking_always
