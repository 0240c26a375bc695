-- A finished or refused reader takes nothing and repeats its report.
use mathlib.Core.Path.{refl}
use Rattle.rules_tablet.specs.Limits.{max_runs}
use Rattle.rules_tablet.specs.Calls.{feed_call, tablet_of}
use Rattle.rules_demands.specs.Demand1Reader.{RepeatsAlways}
use Rattle.laws_reader.proofs.rules_kept.Pieces.{over-feed}

pub repeats : RepeatsAlways
unfolding feed_call
repeats c p buffer l e o = rw (e, over-feed max_runs c.tag c.length l (tablet_of c p buffer) o) refl
