-- Laws of decimal numerals: the value by place, comparison by digits, the value against a limit, and the digits of a printed number.
use Prim.Native.Nat.{ℕ, zero, suc, ◌+◌, ◌-◌, ◌*◌, ◌/◌, ◌%◌, ◌^◌, ◌≤◌, ◌<◌}
use mathlib.Core.Path.{◌≡◌, refl, sym, ap, ◌∙◌}
use mathlib.Core.Bool.{Bool, true, false, ◌&&◌, true≢false, and-eq-true_iff, and_assoc}
use mathlib.Core.List.{List, [], ◌∷◌, ◌++◌}
use native.Mathlib.Nat.{add-mul, mul_assoc, pow-succ', zero-add, mul-one, pow-le-pow_right, mul-le-mul_right, le_refl}
use native.Mathlib.Omega.{arith}
use lib.Arith.{digits_lt}
use lib.Dec.{leb, ltb}
use lib.ListN.{length, get_or, take, drop, set, length-append, get_or-append}
use lib.Seq.{drop-cons, drop_at, set_split, append_snoc, length-take-le}
use native.Mathlib.Numerals.{add-one}
use borrow.Author.Tests.{lt-ltb, le-ltb, le-leb, leb-true, ltb-true, ltb-false}
use Rattle.rules_server.specs.Octets.{is_digit, is_nil, all}
use Rattle.rules_server.specs.Numerals.{digit, decimal, decimal_from, print, print_fuel}
use Rattle.rules_server.specs.NumeralOrder.{significant, first_less, by_digits}
use Rattle.rules_server.specs.NumeralLaws.{NumeralLaws}

-- the byte of the digit x is a digit
pub is_digit_lem : (x : ℕ) → x < 10 → is_digit (48 + x) ≡ true
is_digit_lem x h = rw (le-leb 48 (48 + x) (omega arith), le-leb (48 + x) 57 (omega arith))

-- and its value is x
pub digit_value : (x : ℕ) → x < 10 → digit (48 + x) ≡ x
digit_value x h = rw (is_digit_lem x h) (omega arith)

-- the value of a byte as a digit is at most 9
pub digit-small : (b : ℕ) → digit b ≤ 9
digit-small b = go (is_digit b) refl
  where
    go : (t : Bool) → is_digit b ≡ t → digit b ≤ 9
    go true e = rw e (omega (arith, leb-true b 57 ((and-eq-true_iff (leb 48 b) (leb b 57)).0 e).1))
    go false e = rw e (omega arith)

-- digits that follow others are read on from their value
pub decimal-append : (n : ℕ) (l m : List ℕ) → decimal_from n (l ++ m) ≡ decimal_from (decimal_from n l) m
decimal-append n [] m = refl
decimal-append n (b ∷ l) m = decimal-append (n * 10 + digit b) l m

-- a number read before l stands length l places higher
pub decimal_split : (n : ℕ) (l : List ℕ) → decimal_from n l ≡ n * 10 ^ length l + decimal l
decimal_split n [] = omega (arith, mul-one n)
decimal_split n (b ∷ l) =
    rw
    (decimal_split (n * 10 + digit b) l, decimal_split (0 * 10 + digit b) l, add-mul (n * 10) (digit b) (10 ^ length l), zero-add, pow-succ', mul_assoc)
    (omega arith)

-- the value of a numeral by its first digit
pub decimal_cons : (b : ℕ) (l : List ℕ) → decimal (b ∷ l) ≡ digit b * 10 ^ length l + decimal l
decimal_cons b l = decimal_split (0 * 10 + digit b) l ∙ rw zero-add

-- a numeral of k digits is below 10 ^ k
pub decimal_below : (l : List ℕ) → decimal l < 10 ^ length l
decimal_below [] = omega arith
decimal_below (b ∷ l) =
    rw (decimal_cons b l, pow-succ') (digits_lt (omega (arith, digit-small b)) (decimal_below l))

-- reading on never makes the number smaller
pub decimal_grows : (n : ℕ) (l : List ℕ) → n ≤ decimal_from n l
decimal_grows n [] = omega arith
decimal_grows n (b ∷ l) = omega (arith, decimal_grows (n * 10 + digit b) l)

-- zeros in front do not change the value
pub significant_value : (l : List ℕ) → decimal (significant l) ≡ decimal l
significant_value [] = refl
significant_value (b ∷ l) = go (ltb 0 (digit b)) refl (significant_value l)
  where
    go : (t : Bool) → ltb 0 (digit b) ≡ t → decimal (significant l) ≡ decimal l → decimal (significant (b ∷ l)) ≡ decimal (b ∷ l)
    go true e ih = rw e
    go false e ih = rw e (ih ∙ ap (λ n. decimal_from n l) (omega (arith, ltb-false 0 (digit b) e)))

-- a numeral that does not begin with 0 and has more than k digits is at least 10 ^ k
pub significant_floor : (l : List ℕ) (k : ℕ) → k < length (significant l) → 10 ^ k ≤ decimal (significant l)
significant_floor [] k h = omega arith
significant_floor (b ∷ l) k h = go (ltb 0 (digit b)) refl (significant_floor l k) h
  where
    go : (t : Bool) → ltb 0 (digit b) ≡ t → (k < length (significant l) → 10 ^ k ≤ decimal (significant l))
        → k < length (significant (b ∷ l)) → 10 ^ k ≤ decimal (significant (b ∷ l))
    go true e ih = rw (e, decimal_cons b l) λ i.
        let places : 10 ^ k ≤ 10 ^ length l = pow-le-pow_right (omega arith) (omega arith) in
        omega (arith, mul-le-mul_right (10 ^ length l) (ltb-true 0 (digit b) e))
    go false e ih = rw e ih

-- without zeros in front, fewer digits make a smaller number
pub fewer_digits : (p l : List ℕ) → length p < length (significant l) → decimal p < decimal (significant l)
fewer_digits p l h = omega (arith, decimal_below p, significant_floor l (length p) h)

-- the same number added on both sides does not change a comparison
ltb_shift : (a m n : ℕ) → ltb (a + m) (a + n) ≡ ltb m n
ltb_shift a m n = go (ltb m n) refl
  where
    go : (t : Bool) → ltb m n ≡ t → ltb (a + m) (a + n) ≡ ltb m n
    go true e = rw e (lt-ltb (a + m) (a + n) (omega (arith, ltb-true m n e)))
    go false e = rw e (le-ltb (a + m) (a + n) (omega (arith, ltb-false m n e)))

-- with as many digits and a smaller first one, a numeral is smaller
first_smaller : (x y : ℕ) (p q : List ℕ) → length p ≡ length q → digit x < digit y → decimal (x ∷ p) < decimal (y ∷ q)
first_smaller x y p q e h =
    rw (decimal_cons x p, decimal_cons y q, ← e) (omega (arith, digits_lt h (decimal_below p)))

-- numerals with the same count of digits: the first digit that differs decides
pub same-count : (p q : List ℕ) → length p ≡ length q → ltb (decimal p) (decimal q) ≡ first_less p q
same-count [] [] e = refl
same-count [] (y ∷ q) e = absurd (omega arith)
same-count (x ∷ p) [] e = absurd (omega arith)
same-count (x ∷ p) (y ∷ q) e = go (ltb (digit x) (digit y)) (ltb (digit y) (digit x)) refl refl (same-count p q (omega arith))
  where
    go : (s t : Bool) → ltb (digit x) (digit y) ≡ s → ltb (digit y) (digit x) ≡ t → ltb (decimal p) (decimal q) ≡ first_less p q
        → ltb (decimal (x ∷ p)) (decimal (y ∷ q)) ≡ first_less (x ∷ p) (y ∷ q)
    go true t f g ih = rw f (lt-ltb (decimal (x ∷ p)) (decimal (y ∷ q)) (first_smaller x y p q (omega arith) (ltb-true (digit x) (digit y) f)))
    go false true f g ih = rw (f, g) (le-ltb (decimal (x ∷ p)) (decimal (y ∷ q))
        (omega (arith, first_smaller y x q p (omega arith) (ltb-true (digit y) (digit x) g))))
    go false false f g ih =
        let d : digit x ≡ digit y = omega (arith, ltb-false (digit x) (digit y) f, ltb-false (digit y) (digit x) g) in
        let k : length p ≡ length q = omega arith in
        rw (f, g, decimal_cons x p, decimal_cons y q, d, k) (ltb_shift (digit y * 10 ^ length q) (decimal p) (decimal q) ∙ ih)

-- where a smaller count of digits makes a smaller number, the exact values compare as the digits do
compare_counts : (p q : List ℕ) → (length p < length q → decimal p < decimal q) → (length q < length p → decimal q < decimal p)
    → ltb (decimal p) (decimal q) ≡ by_digits p q
compare_counts p q h g = go (ltb (length p) (length q)) (ltb (length q) (length p)) refl refl
  where
    go : (s t : Bool) → ltb (length p) (length q) ≡ s → ltb (length q) (length p) ≡ t → ltb (decimal p) (decimal q) ≡ by_digits p q
    go true t e f = rw e (lt-ltb (decimal p) (decimal q) (h (ltb-true (length p) (length q) e)))
    go false true e f = rw (e, f) (le-ltb (decimal p) (decimal q) (omega (arith, g (ltb-true (length q) (length p) f))))
    go false false e f = rw (e, f) (same-count p q (omega (arith, ltb-false (length p) (length q) e, ltb-false (length q) (length p) f)))

-- the exact values of two numerals of any digit counts compare as their digits do once the zeros in front are passed over
pub compare_by_digits : (a b : List ℕ) → ltb (decimal a) (decimal b) ≡ by_digits (significant a) (significant b)
compare_by_digits a b =
    rw (← significant_value a, ← significant_value b)
    (compare_counts (significant a) (significant b) (fewer_digits (significant a) b) (fewer_digits (significant b) a))

-- a byte whose value is not 0 ends the zeros in front
pub zeros_end : (d : List ℕ) (i : ℕ) → i < length d → 0 < digit (get_or d i 0) → significant (drop i d) ≡ drop i d
zeros_end d i h g = rw (drop-cons d i 0 h, lt-ltb 0 (digit (get_or d i 0)) g)

-- a byte of value 0 is passed over
pub zeros_more : (d : List ℕ) (i : ℕ) → i < length d → digit (get_or d i 0) ≤ 0 → significant (drop (i + 1) d) ≡ significant (drop i d)
zeros_more d i h g = rw (drop-cons d i 0 h, le-ltb 0 (digit (get_or d i 0)) g, add-one i)

-- numerals compared from i on: a smaller digit at i decides
pub less_at : (p q : List ℕ) (i : ℕ) → i < length p → i < length q → digit (get_or p i 0) < digit (get_or q i 0)
    → first_less (drop i p) (drop i q) ≡ true
less_at p q i h g f = rw (drop-cons p i 0 h, drop-cons q i 0 g, lt-ltb (digit (get_or p i 0)) (digit (get_or q i 0)) f)

-- and so does a larger one
pub more_at : (p q : List ℕ) (i : ℕ) → i < length p → i < length q → digit (get_or q i 0) < digit (get_or p i 0)
    → first_less (drop i p) (drop i q) ≡ false
more_at p q i h g f =
    rw
    (drop-cons p i 0 h, drop-cons q i 0 g, le-ltb (digit (get_or p i 0)) (digit (get_or q i 0)) (omega arith), lt-ltb (digit (get_or q i 0)) (digit (get_or p i 0)) f)

-- where the digits at i are equal, those behind decide
pub same-at : (p q : List ℕ) (i : ℕ) → i < length p → i < length q → digit (get_or p i 0) ≡ digit (get_or q i 0)
    → first_less (drop i p) (drop i q) ≡ first_less (drop (i + 1) p) (drop (i + 1) q)
same-at p q i h g e =
    rw (
      drop-cons p i 0 h,
      drop-cons q i 0 g,
      add-one i,
      le-ltb (digit (get_or p i 0)) (digit (get_or q i 0)) (omega arith),
      le-ltb (digit (get_or q i 0))
          (digit (get_or p i 0)) (omega arith),
    )

-- the digit at i is read next
pub decimal-next : (n : ℕ) (d : List ℕ) (i : ℕ) → i < length d → decimal_from n (drop i d) ≡ decimal_from (n * 10 + digit (get_or d i 0)) (drop (i + 1) d)
decimal-next n d i h = rw (drop-cons d i 0 h, add-one i)

-- a number below ten is one digit, in any number of steps
steps_one : (k n : ℕ) → n < 10 → print_fuel k n ≡ (48 + n) ∷ []
steps_one zero n h = refl
steps_one (suc k) n h = rw (lt-ltb n 10 h, print_fuel)

-- any other takes a step for its last digit
steps_more : (k n : ℕ) → 10 ≤ n → print_fuel (suc k) n ≡ print_fuel k (n / 10) ++ ((48 + n % 10) ∷ [])
steps_more k n h = rw (le-ltb n 10 h, print_fuel)

-- more steps than n print no other digits
steps_enough : (j k n : ℕ) → n ≤ j → n ≤ k → print_fuel j n ≡ print_fuel k n
steps_enough zero k n h g = sym (steps_one k n (omega arith))
steps_enough (suc j) zero n h g = steps_one (suc j) n (omega arith)
steps_enough (suc j) (suc k) n h g =
    ap (λ l. elim (ltb n 10) [ true ↦ (48 + n) ∷ [] | false ↦ l ++ ((48 + n % 10) ∷ []) ]) (steps_enough j k (n / 10) (omega arith) (omega arith))

-- a number below ten is printed as one digit
pub print_one : (n : ℕ) → n < 10 → print n ≡ (48 + n) ∷ []
unfolding print
print_one n h = steps_one n n h

-- any other as the digits of its tenth, and its last digit
pub print_more : (n : ℕ) → 10 ≤ n → print n ≡ print (n / 10) ++ ((48 + n % 10) ∷ [])
unfolding print
print_more zero h = absurd (omega arith)
print_more (suc n) h =
    steps_more n (suc n) h ∙ rw (steps_enough n (suc n / 10) (suc n / 10) (omega arith) (omega arith))

-- what holds of numbers below ten, and of a number where it holds of its tenth, holds of every number
pub by_tenths : (P : ℕ → Type 0) → ((n : ℕ) → n < 10 → P n) → ((n : ℕ) → 10 ≤ n → P (n / 10) → P n) → (n : ℕ) → P n
by_tenths P small more n = go n n (le_refl n)
  where
    pick : (n : ℕ) (t : Bool) → ltb n 10 ≡ t → P (n / 10) → P n
    pick n true e p = small n (ltb-true n 10 e)
    pick n false e p = more n (ltb-false n 10 e) p

    go : (k n : ℕ) → n ≤ k → P n
    go zero n h = small n (omega arith)
    go (suc k) n h = pick n (ltb n 10) refl (go k (n / 10) (omega arith))

-- a printed number reads as itself
pub print-decimal : (n : ℕ) → decimal (print n) ≡ n
print-decimal =
    by_tenths (λ n. decimal (print n) ≡ n) (λ n h. rw (print_one n h, digit_value n h) (omega arith))
    (λ n h ih. rw (print_more n h, decimal-append 0 (print (n / 10)) ((48 + n % 10) ∷ []), ih, digit_value (n % 10) (omega arith)) (omega arith))

-- a test of all bytes of two strings
all-append : (p : ℕ → Bool) (l m : List ℕ) → all p (l ++ m) ≡ (all p l && all p m)
all-append p [] m = refl
all-append p (b ∷ l) m = rw (all-append p l m) (sym (and_assoc (p b) (all p l) (all p m)))

-- a printed number is digits alone
pub print-digits : (n : ℕ) → all is_digit (print n) ≡ true
print-digits =
    by_tenths (λ n. all is_digit (print n) ≡ true) (λ n h. rw (print_one n h, is_digit_lem n h))
    (λ n h ih. rw (print_more n h, all-append is_digit (print (n / 10)) ((48 + n % 10) ∷ []), ih, is_digit_lem (n % 10) (omega arith)))

-- a printed number has a digit
pub print-some : (n : ℕ) → is_nil (print n) ≡ false
print-some = by_tenths (λ n. is_nil (print n) ≡ false) (λ n h. rw (print_one n h)) (λ n h ih. rw (print_more n h) (last (48 + n % 10) (print (n / 10))))
  where
    last : (b : ℕ) (l : List ℕ) → is_nil (l ++ (b ∷ [])) ≡ false
    last b [] = refl
    last b (x ∷ l) = refl

-- "Numbers have no leading zeros": a printed number that is not 0 does not begin with a byte of value 0
pub print_no_zero : (n : ℕ) → 0 < n → 0 < digit (get_or (print n) 0 0)
print_no_zero =
    by_tenths (λ n. 0 < n → 0 < digit (get_or (print n) 0 0)) (λ n h g. rw (print_one n h, digit_value n h) g)
    (λ n h ih g. rw (print_more n h, get_or-append (print (n / 10)) ((48 + n % 10) ∷ []) 0 0 (some (print (n / 10)) (print-some (n / 10))))
    (ih (omega arith)))
  where
    some : (l : List ℕ) → is_nil l ≡ false → 0 < length l
    some [] e = absurd (true≢false e)
    some (b ∷ l) e = omega arith

-- a number has at most one digit more than its value
pub print-short : (n : ℕ) → length (print n) ≤ suc n
print-short =
    by_tenths (λ n. length (print n) ≤ suc n) (λ n h. rw (print_one n h) (omega arith))
    (λ n h ih. rw (print_more n h, length-append (print (n / 10)) ((48 + n % 10) ∷ [])) (omega arith))

-- a tenth of a number has one place less
pub tenth_below : (k n : ℕ) → n < 10 ^ suc k → n / 10 < 10 ^ k
tenth_below k n h = omega (arith, pow-succ' 10 k)

-- a number from ten on takes two places or more
pub two_places : (k n : ℕ) → 10 ≤ n → n < 10 ^ k → 1 < k
two_places zero n h g = absurd (omega arith)
two_places (suc zero) n h g = absurd (omega arith)
two_places (suc (suc k)) n h g = omega arith

-- a number below 10 ^ k has at most k digits
pub print-length : (k n : ℕ) → n < 10 ^ k → 0 < k → length (print n) ≤ k
print-length zero n h g = absurd (omega arith)
print-length (suc k) n h g = go (ltb n 10) refl (print-length k (n / 10) (tenth_below k n h))
  where
    go : (t : Bool) → ltb n 10 ≡ t → (0 < k → length (print (n / 10)) ≤ k) → length (print n) ≤ suc k
    go true e ih = rw (print_one n (ltb-true n 10 e)) (omega arith)
    go false e ih =
        let places : 1 < suc k = two_places (suc k) n (ltb-false n 10 e) h in
        rw (print_more n (ltb-false n 10 e), length-append (print (n / 10)) ((48 + n % 10) ∷ [])) (omega (arith, ih (omega arith)))

-- a byte put in front of those that stand from s on
pub put_before : (u l : List ℕ) (s b : ℕ) → 0 < s → s ≤ length l → u ++ drop (s - 1) (set l (s - 1) b) ≡ u ++ (b ∷ []) ++ drop s l
put_before u l s b h g =
    let e : suc (s - 1) ≡ s = omega arith in
    rw (
      set_split l (s - 1) b (omega arith),
      drop_at (take (s - 1) l) (b ∷ drop (suc (s - 1)) l) (s - 1) (length-take-le (s - 1) l (omega arith)),
      append_snoc u b
          (drop s l),
      e,
    )

-- what is stated of numerals
pub numeral_laws : NumeralLaws
numeral_laws = record {
  compares = compare_by_digits;
  prints_digits = print-digits;
  prints_some = print-some;
  reads_back = print-decimal;
  zero = print_one 0 (omega arith);
  no_zero = print_no_zero;
}
