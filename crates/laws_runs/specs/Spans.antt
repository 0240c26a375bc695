-- Spans of positions: several positions next to each other, inserted one by one, and how far a span can reach before it meets a member.
use Rattle.std.specs.Prelude.{ℕ, zero, suc, max, cond, List, [], ◌∷◌, leb}
use Rattle.rules_server.specs.declared.Run.{Run}
use Rattle.rules_tablet.specs.Runs.{insert}

-- the runs with the k positions from p on
abbrev pub insert_span : ℕ → ℕ → List Run → List Run
insert_span p zero rs = rs
insert_span p (suc k) rs = insert_span (suc p) k (insert p rs)

-- the first member from p on, or n where there is none
abbrev pub next_held : ℕ → ℕ → List Run → ℕ
next_held n p [] = n
next_held n p (r ∷ rs) = cond (leb p r.last) (max p r.first) (next_held n p rs)
