-- Bytes that the parser follows to the answer's end: one byte, and what comes before the rest.
use Prim.Native.Nat.{ℕ}
use mathlib.Core.Path.{◌≡◌, sym, subst}
use mathlib.Core.Bool.{false}
use mathlib.Core.List.{List, ◌∷◌}
use Rattle.rules_server.specs.Answers.{Cell}
use Rattle.rules_tablet.specs.Parsers.{Parser, event, is_refused}
use Rattle.rules_tablet.specs.Feeding.{is_over}
use Rattle.rules_tablet.specs.declared.Stage.TheVariants.{Finished}
use Rattle.rules_demands.specs.FeedingFollowed.{position_of, next, Tracks, after}

-- the parser follows these bytes, and behind the last it is at the end
abbrev pub Passes : List ℕ → ℕ → Parser → List Cell → Type 0
Passes tag n p cells = Tracks tag n p cells × ((after tag n p cells).stage ≡ Finished)

-- one byte that leads to q, and then the rest from q on
pub step : (tag : List ℕ) (n : ℕ) (p q : Parser) (c : Cell) (cs : List Cell) → next tag n p c ≡ q → is_over p.stage ≡ false → event p.stage ≡ position_of c
    → is_refused q.stage ≡ false
    → Passes tag n q cs → Passes tag n p (c ∷ cs)
step tag n p q c cs e o v r h =
    let k = subst (λ (x : Parser). Passes tag n x cs) (sym e) h in
    ((record { going = o; carries = v; allowed = subst (λ (x : Parser). is_refused x.stage ≡ false) (sym e) r }, k.0), k.1)
