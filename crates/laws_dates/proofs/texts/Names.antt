-- The names of days and months: their lengths, that none begins as a tag does, and that a month is read from its name.
-- Assumes nothing.
use Prim.Native.Nat.{ℕ, zero, suc, ◌≤◌, ◌<◌}
use mathlib.Core.Path.{◌≡◌, refl}
use mathlib.Core.Bool.{false}
use mathlib.Core.List.{List, [], ◌∷◌, ◌++◌}
use native.Mathlib.Omega.{arith}
use lib.ListN.{length}
use Rattle.rules_server.specs.Tags.{is_tag}
use Rattle.rules_server.specs.Dates.{day_name, long_day_name, month_name, month_named}

-- a property of each number below k
abbrev Below : ℕ → (ℕ → Type 0) → Type 0
Below zero P = Unit {0}
Below (suc k) P = P 0 × Below k (λ n. P (suc n))

below : (k : ℕ) (P : ℕ → Type 0) → Below k P → (n : ℕ) → n < k → P n
below zero P h n l = absurd (omega arith)
below (suc k) P h zero l = h.0
below (suc k) P h (suc n) l = below k (λ m. P (suc m)) h.1 n (omega arith)

-- a text of three bytes
pub record Three (l : List ℕ) : Type 0 where
  pub first : ℕ
  pub second : ℕ
  pub third : ℕ
  pub bytes : l ≡ first ∷ second ∷ third ∷ []

three : (l : List ℕ) → length l ≡ 3 → Three l
three [] e = absurd (omega arith)
three (a ∷ []) e = absurd (omega arith)
three (a ∷ b ∷ []) e = absurd (omega arith)
three (a ∷ b ∷ c ∷ []) e = record { first = a; second = b; third = c; bytes = refl }
three (a ∷ b ∷ c ∷ d ∷ l) e = absurd (omega arith)

-- the name of a day has three bytes
pub day_three : (w : ℕ) → w < 7 → Three (day_name w)
day_three w h = three (day_name w) (below 7 (λ n. length (day_name n) ≡ 3) (refl, (refl, (refl, (refl, (refl, (refl, (refl, tt))))))) w h)

-- its long name has at least six
pub long_day : (w : ℕ) → w < 7 → 6 ≤ length (long_day_name w)
long_day w h = below 7 (λ n. 6 ≤ length (long_day_name n)) (omega arith) w h

-- no tag begins with the name of a day
pub day_no_tag : (w : ℕ) → w < 7 → (r : List ℕ) → is_tag (day_name w ++ r) ≡ false
unfolding is_tag
day_no_tag w h r = below 7 (λ n. is_tag (day_name n ++ r) ≡ false) (refl, (refl, (refl, (refl, (refl, (refl, (refl, tt))))))) w h

pub long_no_tag : (w : ℕ) → w < 7 → (r : List ℕ) → is_tag (long_day_name w ++ r) ≡ false
unfolding is_tag
long_no_tag w h r = below 7 (λ n. is_tag (long_day_name n ++ r) ≡ false) (refl, (refl, (refl, (refl, (refl, (refl, (refl, tt))))))) w h

-- the name of a month has three bytes
pub month_three : (m : ℕ) → m < 13 → Three (month_name m)
month_three m h = three (month_name m) (below 13 (λ n. length (month_name n) ≡ 3) thirteen m h)
  where
    thirteen : Below 13 (λ n. length (month_name n) ≡ 3)
    thirteen = (refl, (refl, (refl, (refl, (refl, (refl, (refl, (refl, (refl, (refl, (refl, (refl, (refl, tt)))))))))))))

-- a month is read from its name
pub month_read : (m : ℕ) → 1 ≤ m → m ≤ 12 → month_named 12 (month_name m) ≡ m
month_read zero h l = absurd (omega arith)
month_read (suc m) h l = below 12 (λ n. month_named 12 (month_name (suc n)) ≡ suc n) twelve m (omega arith)
  where
    twelve : Below 12 (λ n. month_named 12 (month_name (suc n)) ≡ suc n)
    twelve = (refl, (refl, (refl, (refl, (refl, (refl, (refl, (refl, (refl, (refl, (refl, (refl, tt))))))))))))
