-- Demand 3 in the user's words.
use mathlib.Core.Path.{◌≡◌, refl}
use mathlib.Core.Bool.{Bool, true, false, not, ◌||◌, true≢false, false≢true}
use lib.Dec.{ltb, eqb}
use lib.ListN.{length}
use lib.Seq.{ext_get_or}
use borrow.Author.Tests.{eqb-true, ltb-false, le-leb, not-false}
use Rattle.rules_server.specs.Limits.{max_tag, max_file}
use Rattle.rules_server.specs.Tags.{is_strong}
use Rattle.rules_tablet.specs.Copies.{bad_opening}
use Rattle.rules_tablet.specs.Calls.{copy_ok, opened}
use Rattle.rules_demands.specs.Demand3Sessions.{run_calls}
use Rattle.rules_demands.specs.Demand3Corollary.{NeverMixedHolds, OpeningStarts}
use Rattle.laws_exchange.proofs.demand_3.Demand3.{demand_3}

pub never_mixed : NeverMixedHolds
never_mixed file tag s cs ss h =
    let x = (demand_3 file tag s cs ss h).kept in
    let e = run_calls cs s in
    record {
      held = x.again.right;
      whole = λ c. ext_get_or 0 e.buffer file x.again.buffer_length
          (λ p l. x.right p (rw (← x.again.buffer_length) l) (x.complete.0 c p (rw (← x.again.buffer_length) l)));
    }

or_false_left : (a b : Bool) → (a || b) ≡ false → a ≡ false
or_false_left true b e = e
or_false_left false b e = refl

or_false_right : (a b : Bool) → (a || b) ≡ false → b ≡ false
or_false_right true b e = absurd (true≢false e)
or_false_right false b e = e

pub opening_starts : OpeningStarts
unfolding bad_opening opened copy_ok
opening_starts file tag buffer e =
    let n = length file in
    let a = not (is_strong tag) in
    let b = ltb max_tag (length tag) in
    let c = not (eqb (length buffer) n) in
    let d = ltb max_file n in
    let ab : (a || b) ≡ false = or_false_left (a || b) c (or_false_left (a || b || c) d e) in
    let strong : is_strong tag ≡ true = not-false (is_strong tag) (or_false_left a b ab) in
    let short = ltb-false max_tag (length tag) (or_false_right a b ab) in
    let same = eqb-true (length buffer) n (not-false (eqb (length buffer) n) (or_false_right (a || b) c (or_false_left (a || b || c) d e))) in
    let small = ltb-false max_file n (or_false_right (a || b || c) d e) in
    record {
      rule = rw e (rw (strong, le-leb (length tag) max_tag short, le-leb n max_file small) refl);
      strong = strong;
      under_tag = rw e refl;
      of_length = rw e refl;
      buffer_length = same;
      right = λ p m. absurd (false≢true (rw e at m));
    }
