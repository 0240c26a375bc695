-- What a slice of runs means in which the parts stand.
use Rattle.std.specs.Prelude.{ℕ, min, ◌≡◌, List, [], ◌∷◌, length, take}
use Rattle.rules_server.specs.declared.Run.{Run}
use Rattle.rules_server.specs.Limits.{max_specs}
use Rattle.rules_server.specs.Parts.{place}

-- for how many parts a slice has room
abbrev pub room_of : List Run → ℕ
room_of runs = min max_specs (length runs)

-- the first `count` of the runs are the parts, in their order; what stands behind them no definition fixes
abbrev pub listing : ℕ → List Run → List Run
listing count runs = take count runs

-- the parts are the runs l, and count is their number
pub record Lists (count : ℕ) (runs l : List Run) : Type 0 where
  pub parts : listing count runs ≡ l
  pub number : count ≡ length l

-- the runs placed one by one, each time with no more parts kept than there is room for
abbrev pub capped : ℕ → ℕ → List Run → List Run → List Run
capped room g [] done = done
capped room g (r ∷ rs) done = capped room g rs (take room (place g r done))
