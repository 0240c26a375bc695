-- Sets of positions: what a spec asks for, what a body carries, and how parts lie to each other. Stated from document 01 and RFC 7233 section 2.1, and from no
-- definition of how parts are made.
use Rattle.std.specs.Prelude.{ℕ, zero, suc, ◌+◌, ◌≤◌, ◌<◌, ◌⊎◌, cond, eqb}
use mathlib.Core.List.{List, [], ◌∷◌, Memᴰ}
use Rattle.rules_server.specs.Ranges.{ByteSpec, span, onward, suffix}
use Rattle.rules_server.specs.Answers.{Cell, own, from}
use Rattle.rules_server.specs.declared.Run.{Run}

-- the spec asks for position p of n bytes: from first to last, from first on, or among the last so many
abbrev pub Asks : ℕ → ByteSpec → ℕ → Type 0
Asks n (span a b) p = (a ≤ p) × (p ≤ b) × (p < n)
Asks n (onward a) p = (a ≤ p) × (p < n)
Asks n (suffix k) p = (p < n) × (n ≤ p + k)

-- some listed spec asks for it
pub record Asked (n : ℕ) (ss : List ByteSpec) (p : ℕ) : Type 0 where
  pub spec : ByteSpec
  pub is_listed : Memᴰ spec ss
  pub asks : Asks n spec p

-- the spec ends before it begins
abbrev pub Backward : ByteSpec → Type 0
Backward (span a b) = b < a
Backward (onward a) = ⊥
Backward (suffix k) = ⊥

-- the spec is satisfiable in n bytes
abbrev pub Satisfiable : ℕ → ByteSpec → Type 0
Satisfiable n (span a b) = a < n
Satisfiable n (onward a) = a < n
Satisfiable n (suffix k) = 0 < k

-- some listed spec is so
pub record Some (P : ByteSpec → Type 0) (ss : List ByteSpec) : Type 0 where
  pub spec : ByteSpec
  pub is_listed : Memᴰ spec ss
  pub holds : P spec

-- a suffix of more than 0 bytes
abbrev pub NonzeroSuffix : ByteSpec → Type 0
NonzeroSuffix (span a b) = ⊥
NonzeroSuffix (onward a) = ⊥
NonzeroSuffix (suffix k) = 0 < k

-- the positions that a body's bytes carry, in the order in which they are sent
abbrev pub positions : List Cell → List ℕ
positions [] = []
positions (own b ∷ cs) = positions cs
positions (from p b ∷ cs) = p ∷ positions cs

-- how often p stands in a list
abbrev pub times : ℕ → List ℕ → ℕ
times p [] = 0
times p (x ∷ l) = cond (eqb x p) (suc (times p l)) (times p l)

abbrev pub Each : (Run → Type 0) → List Run → Type 0
Each P [] = Unit {0}
Each P (r ∷ rs) = P r × Each P rs

-- each run stands so to every later one
abbrev pub Pairs : (Run → Run → Type 0) → List Run → Type 0
Pairs R [] = Unit {0}
Pairs R (r ∷ rs) = Each (R r) rs × Pairs R rs

-- position p lies in the run r
abbrev pub In : ℕ → Run → Type 0
In p r = (r.first ≤ p) × (p ≤ r.last)

-- position p lies in one of the runs
abbrev pub Covers : ℕ → List Run → Type 0
Covers p [] = ⊥
Covers p (r ∷ rs) = In p r ⊎ Covers p rs

-- a run of positions of n bytes
pub record RunIn (n : ℕ) (r : Run) : Type 0 where
  pub ordered : r.first ≤ r.last
  pub inside : r.last < n

-- neither overlapping nor touching: at least one position lies between
abbrev pub Separate : Run → Run → Type 0
Separate r q = (suc r.last < q.first) ⊎ (suc q.last < r.first)

-- the spec asks for some position of n bytes, and for none outside the run
pub record LiesIn (n : ℕ) (r : Run) (s : ByteSpec) : Type 0 where
  pub position : ℕ
  pub asks : Asks n s position
  pub inside : (p : ℕ) → Asks n s p → (r.first ≤ p) × (p ≤ r.last)

-- the earliest spec inside the run stands at place i of the list
abbrev pub EarliestAt : ℕ → Run → List ByteSpec → ℕ → Type 0
EarliestAt n r [] i = ⊥
EarliestAt n r (s ∷ ss) zero = LiesIn n r s
EarliestAt n r (s ∷ ss) (suc i) = (LiesIn n r s → ⊥) × EarliestAt n r ss i
