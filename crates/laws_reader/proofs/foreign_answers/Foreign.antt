-- An answer under another tag leaves what is held and the buffer as they were.
use Prim.Native.Nat.{ℕ}
use mathlib.Core.Path.{◌≡◌, refl}
use mathlib.Core.Bool.{Bool, true, false}
use mathlib.Core.List.{List, [], ◌∷◌, ◌++◌}
use Rattle.rules_server.specs.Tags.{is_strong}
use Rattle.rules_tablet.specs.Parsers.{Parser, parse, is_refused}
use Rattle.rules_tablet.specs.Feeding.{Tablet, is_over, feed_byte, feed}
use Rattle.rules_tablet.specs.Calls.{fresh}
use Rattle.rules_demands.specs.FeedingStored.{ForeignAlways}
use Rattle.laws_reader.proofs.foreign_answers.Quiet.{Quiet, in_status, quiet_event, quiet_step}

-- bytes that such a parser reads are not stored
quiet_feed : (lim : ℕ) (tag : List ℕ) (n : ℕ) (bytes rest : List ℕ) (t : Tablet) → is_strong tag ≡ true → Quiet tag t.parser (bytes ++ rest)
    → (feed lim tag n bytes t).tablet.held ≡ t.held
unfolding feed_byte
quiet_feed lim tag n [] rest t s q = refl
quiet_feed lim tag n (b ∷ bytes) rest t s q =
    over (is_over t.parser.stage) refl (λ h. quiet_feed lim tag n bytes rest (record { held = t.held; parser = next }) s h)
  where
    next : Parser
    next = parse tag n t.parser.stage b t.parser

    taken : (r : Bool) → is_refused next.stage ≡ r → is_over t.parser.stage ≡ false
        → (feed lim tag n bytes (record { held = t.held; parser = next })).tablet.held ≡ t.held
        → (feed lim tag n (b ∷ bytes) t).tablet.held ≡ t.held
    taken true r o h = rw (o, quiet_event q o, r)
    taken false r o h = rw (o, quiet_event q o, r) h

    over : (o : Bool) → is_over t.parser.stage ≡ o
        → (Quiet tag next (bytes ++ rest) → (feed lim tag n bytes (record { held = t.held; parser = next })).tablet.held ≡ t.held)
        → (feed lim tag n (b ∷ bytes) t).tablet.held ≡ t.held
    over true o h = rw o
    over false o h = taken (is_refused next.stage) refl o (h (quiet_step tag (bytes ++ rest) n b t.parser s o q))

-- the law of answers under another tag
pub foreign_always : ForeignAlways
unfolding fresh
foreign_always lim tag n bytes rest h s u = quiet_feed lim tag n bytes rest (record { held = h; parser = fresh }) s (in_status refl refl u)
