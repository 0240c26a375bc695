-- Laws of numbers in bytes, high byte first, for any count of bytes. Assumes nothing.
use Prim.Native.Nat.{ℕ, zero, suc, ◌+◌, ◌*◌, ◌/◌, ◌%◌, ◌^◌, ◌≤◌, ◌<◌}
use mathlib.Core.Path.{◌≡◌, refl, sym, ap, ap₂, ◌∙◌}
use mathlib.Core.List.{List, [], ◌∷◌, ◌++◌, append-nil}
use native.Mathlib.Nat.{pow-succ', mul_assoc, mul-le-mul_right, mul-one, one-mul}
use native.Mathlib.Omega.{arith}
use lib.ListN.{length, take, drop}
use Rattle.rules_server.specs.Numbers.{value_from, value_of, digits_of, in_bytes, AreBytes, NumberLaws}

-- ---- lists of bytes

-- two lists of bytes, one behind the other
pub bytes_append : (l m : List ℕ) → AreBytes l → AreBytes m → AreBytes (l ++ m)
bytes_append [] m h g = g
bytes_append (b ∷ l) m h g = (h.0, bytes_append l m h.1 g)

-- the first bytes
pub bytes_take : (k : ℕ) (l : List ℕ) → AreBytes l → AreBytes (take k l)
bytes_take zero l h = tt
bytes_take (suc k) [] h = tt
bytes_take (suc k) (b ∷ l) h = (h.0, bytes_take k l h.1)

-- the bytes behind them
pub bytes_drop : (k : ℕ) (l : List ℕ) → AreBytes l → AreBytes (drop k l)
bytes_drop zero l h = h
bytes_drop (suc k) [] h = tt
bytes_drop (suc k) (b ∷ l) h = bytes_drop k l h.1

-- ---- digits before other bytes

-- there are k of them
digits_long : (k n : ℕ) (l : List ℕ) → length (digits_of k n l) ≡ k + length l
digits_long zero n l = omega arith
digits_long (suc k) n l = omega (arith, digits_long k (n / 256) (n % 256 ∷ l))

-- they are bytes
digits_bytes : (k n : ℕ) (l : List ℕ) → AreBytes l → AreBytes (digits_of k n l)
digits_bytes zero n l h = h
digits_bytes (suc k) n l h = digits_bytes k (n / 256) (n % 256 ∷ l) (omega arith, h)

-- the bytes behind them are left as they are
digits-append : (k n : ℕ) (l m : List ℕ) → digits_of k n (l ++ m) ≡ digits_of k n l ++ m
digits-append zero n l m = refl
digits-append (suc k) n l m = digits-append k (n / 256) (n % 256 ∷ l) m

-- the digits of n are read as n
digits_back : (k n : ℕ) (l : List ℕ) → n < 256 ^ k → value_from 0 (digits_of k n l) ≡ value_from n l
digits_back zero n l h = let e : 0 ≡ n = omega arith in ap (λ (v : ℕ). value_from v l) e
digits_back (suc k) n l h =
    let e : n / 256 * 256 + n % 256 ≡ n = omega arith in
    digits_back k (n / 256) (n % 256 ∷ l) (omega (arith, pow-succ' 256 k)) ∙ ap (λ (v : ℕ). value_from v l) e

-- the digits of what bytes say behind v are those of v, and then these bytes
digits_of_value : (l : List ℕ) (k v : ℕ) (m : List ℕ) → AreBytes l → digits_of (k + length l) (value_from v l) m ≡ digits_of k v (l ++ m)
digits_of_value [] k v m h = let e : k + 0 ≡ k = omega arith in ap (λ (j : ℕ). digits_of j v m) e
digits_of_value (b ∷ l) k v m h =
    let e : k + suc (length l) ≡ suc k + length l = omega arith in
    let high : (v * 256 + b) / 256 ≡ v = omega arith in
    let low : (v * 256 + b) % 256 ≡ b = omega arith in
    ap (λ (j : ℕ). digits_of j (value_from (v * 256 + b) l) m) e ∙ digits_of_value l (suc k) (v * 256 + b) m h.1
    ∙ ap₂ (λ (a c : ℕ). digits_of k a (c ∷ (l ++ m))) high low

-- ---- the value of bytes

-- bytes behind others are read on from their value
pub value_append : (v : ℕ) (l m : List ℕ) → value_from v (l ++ m) ≡ value_from (value_from v l) m
value_append v [] m = refl
value_append v (b ∷ l) m = value_append (v * 256 + b) l m

-- bytes behind the digits of v stay below those of v + 1
value_below : (v : ℕ) (l : List ℕ) → AreBytes l → value_from v l < suc v * 256 ^ length l
value_below v [] h = omega (arith, mul-one (suc v))
value_below v (b ∷ l) h =
    let p = 256 ^ length l in
    let more : suc (v * 256 + b) * p ≤ suc v * 256 * p = mul-le-mul_right p (omega arith) in
    rw (pow-succ' 256 (length l)) (omega (arith, value_below (v * 256 + b) l h.1, mul_assoc (suc v) 256 p))

-- ---- a number in k bytes

-- it has k bytes
pub in_bytes_long : (k n : ℕ) → length (in_bytes k n) ≡ k
unfolding in_bytes
in_bytes_long k n = omega (arith, digits_long k n [])

-- they are bytes
pub in_bytes_lem : (k n : ℕ) → AreBytes (in_bytes k n)
unfolding in_bytes
in_bytes_lem k n = digits_bytes k n [] tt

-- one byte more: the last is the rest by 256
pub in_bytes-next : (k n : ℕ) → in_bytes (suc k) n ≡ in_bytes k (n / 256) ++ (n % 256 ∷ [])
unfolding in_bytes
in_bytes-next k n = digits-append k (n / 256) [] (n % 256 ∷ [])

-- a number is read back from its bytes
pub value_back : (k n : ℕ) → n < 256 ^ k → value_of (in_bytes k n) ≡ n
unfolding in_bytes
value_back k n h = digits_back k n [] h

-- bytes are those of their number
pub bytes_back : (l : List ℕ) → AreBytes l → in_bytes (length l) (value_of l) ≡ l
unfolding in_bytes
bytes_back l h =
    let e : length l ≡ 0 + length l = omega arith in
    ap (λ (k : ℕ). digits_of k (value_of l) []) e ∙ digits_of_value l 0 0 [] h ∙ append-nil l

-- k bytes are those of their number
pub bytes_back_in : (k : ℕ) (l : List ℕ) → AreBytes l → length l ≡ k → in_bytes k (value_of l) ≡ l
bytes_back_in k l h e = ap (λ (j : ℕ). in_bytes j (value_of l)) (sym e) ∙ bytes_back l h

-- the number of bytes is below the power of 256 by their count
pub bytes_below : (l : List ℕ) → AreBytes l → value_of l < 256 ^ length l
bytes_below l h = omega (arith, value_below 0 l h, one-mul (256 ^ length l))

-- and that of k bytes below 256 ^ k
pub bytes_below_in : (k : ℕ) (l : List ℕ) → AreBytes l → length l ≡ k → value_of l < 256 ^ k
bytes_below_in k l h e = rw (sym e) (bytes_below l h)

-- the bound of two bytes as a numeral
pub two_bytes : 256 ^ 2 ≡ 65536
two_bytes = refl

-- and that of eight
pub eight_bytes : 256 ^ 8 ≡ 18446744073709551616
eight_bytes = refl

-- the laws together
pub number_laws : NumberLaws
number_laws = record { long = in_bytes_long; bytes = in_bytes_lem; number_back = value_back; bytes_back = bytes_back; below = bytes_below }
