-- The holes of a copy, as a list.
use Rattle.std.specs.Prelude.{ℕ, suc, ◌-◌, ◌≤◌, ◌≡◌, true, false, List, [], ◌++◌, length, take, drop, replicate, Result, Ok, Err}
use Rattle.rules_server.specs.declared.Run.{Run}
use Rattle.rules_tablet.specs.Limits.{max_runs}
use Rattle.rules_tablet.specs.Runs.{run, hole, holes}
use Rattle.rules_tablet.specs.Copies.{runs_of, copy_rule}
use Rattle.rules_tablet.specs.declared.Copy.{Copy}
use Rattle.copy.specs.declared.holes.HoleList.{HoleList}

-- the holes of a list of holes
abbrev pub holes_in : HoleList → List Run
holes_in h = take h.count h.runs

-- the count is that of the holes, and every place behind them is zero
pub record Clean (h : HoleList) : Type 0 where
  pub counted : h.count ≡ length (holes_in h)
  pub unused : drop h.count h.runs ≡ replicate (suc max_runs - h.count) (run 0 0)

-- the list m is the list h with the hole from a up to b
pub record WithHole (h : HoleList) (a b : ℕ) (m : HoleList) : Type 0 where
  pub holes : holes_in m ≡ holes_in h ++ hole a b []
  pub few : m.count ≤ suc h.count
  pub clean : Clean m

-- the list h has these holes
pub record Listed (list : List Run) (h : HoleList) : Type 0 where
  pub holes : holes_in h ≡ list
  pub clean : Clean h

-- the holes of a record that meets its rule: what they are, and every place of the list
pub record HolesOf (c : Copy) (h : HoleList) : Type 0 where
  pub rule : copy_rule c ≡ true
  pub holes : holes_in h ≡ holes c.length (runs_of c)
  pub clean : Clean h

-- the holes, or 19 for a record that breaks its rule
abbrev pub Holed : Copy → Result HoleList ℕ → Type 0
Holed c (Ok h) = HolesOf c h
Holed c (Err k) = (copy_rule c ≡ false) × (k ≡ 19)
