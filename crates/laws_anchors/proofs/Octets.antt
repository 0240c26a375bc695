-- The classes of bytes are those of the literal table, by computation.
use mathlib.Core.Path.{refl}
use Rattle.rules_demands.specs.AnchorOctets.{octet_rows, lower_rows, ClassesAre, LowerIs}

pub classes_are : ClassesAre
unfolding octet_rows
classes_are = refl

pub lower_is : LowerIs
unfolding lower_rows
lower_is = refl
