-- Parts and their order (document 01): the positions that satisfiable specs ask for form maximal runs, in the order of the earliest listed spec inside each.
use Rattle.std.specs.Prelude.{ℕ, ◌+◌, ◌-◌, min, max, Bool, cond, ◌&&◌, List, [], ◌∷◌, leb}
use Rattle.rules_server.specs.Limits.{merge_gap}
use Rattle.rules_server.specs.Ranges.{ByteSpec, span, onward, suffix, satisfiable}
use Rattle.rules_server.specs.declared.Run.{Run}

-- the positions that a satisfiable spec asks for in n bytes: "its last is lowered to n-1 when absent or larger"; a suffix "longer than n means the whole file"
abbrev pub run_of : ℕ → ByteSpec → Run
run_of n (span a b) = record { first = a; last = min b (n - 1) }
run_of n (onward a) = record { first = a; last = n - 1 }
run_of n (suffix k) = record { first = n - k; last = n - 1 }

-- the runs of the satisfiable specs, in the order of the list
abbrev pub spec_runs : ℕ → List ByteSpec → List Run
spec_runs n [] = []
spec_runs n (s ∷ ss) = cond (satisfiable n s) (run_of n s ∷ spec_runs n ss) (spec_runs n ss)

-- r and q overlap, touch, or have fewer than g bytes between them
unfoldable pub near : ℕ → Run → Run → Bool
near g r q = leb q.first (r.last + g) && leb r.first (q.last + g)

-- from the first position of either to the last of either
abbrev pub hull : Run → Run → Run
hull r q = record { first = min r.first q.first; last = max r.last q.last }

-- r joined with those of qs that it meets, one after the other
abbrev pub joined : ℕ → Run → List Run → Run
joined g r [] = r
joined g r (q ∷ qs) = joined g (cond (near g r q) (hull r q) r) qs

-- those of qs that it does not meet
abbrev pub apart : ℕ → Run → List Run → List Run
apart g r [] = []
apart g r (q ∷ qs) = cond (near g r q) (apart g (hull r q) qs) (q ∷ apart g r qs)

-- r among the runs: it takes the place of the first that it meets, joined with all that it meets; else it goes last
abbrev pub place : ℕ → Run → List Run → List Run
place g r [] = r ∷ []
place g r (q ∷ qs) = cond (near g r q) (joined g (hull r q) qs ∷ apart g (hull r q) qs) (q ∷ place g r qs)

-- the runs placed one by one
abbrev pub gather : ℕ → List Run → List Run → List Run
gather g [] done = done
gather g (r ∷ rs) done = gather g rs (place g r done)

-- the parts of an answer for a file of n bytes
unfoldable pub parts_of : ℕ → List ByteSpec → List Run
unfolding near
parts_of n ss = gather merge_gap (spec_runs n ss) []
