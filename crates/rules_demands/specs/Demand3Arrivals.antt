-- The rule on sets (document 01): positions arrive one by one; one that would make more runs than row 16 allows ends its answer's contribution.
use Rattle.std.specs.Prelude.{ℕ, suc, Bool, cond, List, [], ◌∷◌, ltb, length}
use Rattle.rules_server.specs.Answers.{Cell, own, from, Answer, head_then, own_then}
use Rattle.rules_tablet.specs.Runs.{maximal_runs, with}

-- a set of positions
abbrev pub Set : Type 0
Set = ℕ → Bool

-- an answer as the bytes that travel, each with its position in the file if it has one
unfoldable pub flat : Answer → List Cell
flat a = own_then (head_then a []) a.body

-- position p would make more than lim maximal runs of positions below n
unfoldable pub too_many : ℕ → ℕ → ℕ → Set → Bool
too_many lim n p set = ltb lim (length (maximal_runs n (with p set)))

-- the positions after the bytes of one answer: "its position is added, unless that makes more runs than row 16 allows: then that answer adds no more"
abbrev pub arrive : ℕ → ℕ → List Cell → Set → Set
arrive lim n [] set = set
arrive lim n (own b ∷ cs) set = arrive lim n cs set
arrive lim n (from p b ∷ cs) set = cond (too_many lim n p set) set (arrive lim n cs (with p set))

-- how many bytes come before the one that ends the answer's contribution
abbrev pub admitted : ℕ → ℕ → List Cell → Set → ℕ
admitted lim n [] set = 0
admitted lim n (own b ∷ cs) set = suc (admitted lim n cs set)
admitted lim n (from p b ∷ cs) set = cond (too_many lim n p set) 0 (suc (admitted lim n cs (with p set)))
