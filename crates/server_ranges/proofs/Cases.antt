-- The cases of the lists, by computation.
use mathlib.Core.Path.{refl}
use Rattle.rules_server.specs.Parts.{near}
use Rattle.server_ranges.specs.Cases.{ListingsAre}

pub listings_are : ListingsAre
unfolding near
listings_are = record {
  pairs = refl;
  counted = refl;
  shorter = refl;
  room_of_one = refl;
  room_of_many = refl;
  no_room = refl;
  for_one = refl;
  joined = refl;
  for_two = refl;
}
