-- Digits with a mark behind them.
use Rattle.std.specs.Prelude.{ℕ, ◌&&◌, cond, List, Option, None, Some, length, get_or, ltb, eqb}
use Rattle.rules_server.specs.Ranges.{digits}

-- how many digits stand at the front, where there are some and the mark is behind them
abbrev pub digits_to : ℕ → List ℕ → Option ℕ
digits_to mark t =
    let k = length (digits t) in
    cond (ltb 0 k && ltb k (length t) && eqb (get_or t k 0) mark) (Some k) None
