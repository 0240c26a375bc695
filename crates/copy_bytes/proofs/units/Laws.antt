-- Laws of the units of a saved file: a unit that is refused, one that is right, and the numbers that stand at the front of bytes. Assumes nothing.
use Prim.Native.Nat.{ℕ, zero, suc, ◌+◌, ◌-◌, ◌≤◌, ◌<◌}
use mathlib.Core.Path.{◌≡◌, refl, sym, ap, ◌∙◌}
use mathlib.Core.Bool.{Bool, true, false, cond}
use mathlib.Core.List.{List, [], ◌∷◌}
use native.Mathlib.Omega.{arith}
use lib.Dec.{leb, ltb, eqb}
use lib.ListN.{length, get_or, take, drop, length-drop}
use lib.Seq.{drop-drop}
use borrow.Author.Tests.{lt-ltb, le-ltb, leb-true, ltb-false}
use Rattle.rules_server.specs.Limits.{max_file, max_tag}
use Rattle.rules_server.specs.Numbers.{value_of}
use Rattle.rules_server.specs.Octets.{same}
use Rattle.rules_server.specs.Tags.{is_strong}
use Rattle.rules_tablet.specs.Limits.{max_runs, version_one_runs}
use Rattle.rules_tablet.specs.SavedCopies.{most_runs, Draft, draft, SavedUnit, mark_unit, version_unit, tag_count_unit, tag_unit, length_unit, run_count_unit, unit_size}
use Rattle.rules_tablet.specs.SavedCopies.{unit_fault}
use Rattle.rules_tablet.specs.SavedCopies.{noted, unit_refusal, UnitsRead, units, refused_by, unless, read_units, blank_draft}
use Rattle.octets.specs.Numbers.{bytes_at, number_at, pair_at}
use Rattle.octets.proofs.strings.Laws.{drop-next}
use Rattle.std.proofs.Common.{Result, Ok, Err}
use Rattle.rules_server.specs.RefusalNumbers.{refusal_number, numbered}
use Rattle.rules_server.specs.declared.refusal.Refusal.{Refusal}
use Rattle.copy_bytes.specs.SavedFiles.{versioned, counted, refusal_in, TagRight, TagUnitsSay, NumbersRight, NumberUnitsSay}
use Rattle.copy_bytes.proofs.Refusals.{some_number}

-- ---- one unit

-- a unit that is not whole
pub unit_short : (d : Draft) (x : SavedUnit) (l : List ℕ) → length l < unit_size d x → unit_refusal d x l ≡ 29
unit_short d x l h = rw (lt-ltb (length l) (unit_size d x) h) refl

-- a whole unit is refused by what is wrong with it
pub unit_whole : (d : Draft) (x : SavedUnit) (l : List ℕ) → unit_size d x ≤ length l → unit_refusal d x l ≡ unit_fault d x (take (unit_size d x) l)
unit_whole d x l h = rw (le-ltb (length l) (unit_size d x) h) refl

-- a unit that is not refused is whole
pub whole_unit : (d : Draft) (x : SavedUnit) (l : List ℕ) → unit_refusal d x l ≡ 0 → unit_size d x ≤ length l
whole_unit d x l e = go (ltb (length l) (unit_size d x)) refl
  where
    go : (b : Bool) → ltb (length l) (unit_size d x) ≡ b → unit_size d x ≤ length l
    go true t =
        let q : ◌≡◌ {A = ℕ} (cond (ltb (length l) (unit_size d x)) 29 (unit_fault d x (take (unit_size d x) l))) 29 = rw t refl in
        absurd (omega (arith, sym q ∙ e))
    go false t = ltb-false (length l) (unit_size d x) t

-- nothing is wrong with it
pub right_unit : (d : Draft) (x : SavedUnit) (l : List ℕ) → unit_refusal d x l ≡ 0 → unit_fault d x (take (unit_size d x) l) ≡ 0
right_unit d x l e = sym (unit_whole d x l (whole_unit d x l e)) ∙ e

-- a refusal is what is read
unless-refused : (r : ℕ) (y : UnitsRead) → (r ≡ 0 → ⊥) → unless r y ≡ refused_by r
unless-refused zero y h = absurd (h refl)
unless-refused (suc k) y h = refl

-- units behind one that is refused are not read
pub stop : (x : SavedUnit) (xs : List SavedUnit) (d : Draft) (l : List ℕ) (r : ℕ) → r ≡ unit_refusal d x l → (r ≡ 0 → ⊥)
    → read_units (x ∷ xs) d l ≡ refused_by r
unfolding read_units
stop x xs d l r e h =
    let rest = read_units xs (noted d x (take (unit_size d x) l)) (drop (unit_size d x) l) in
    ap (λ (k : ℕ). unless k rest) (sym e) ∙ unless-refused r rest h

-- behind one that is right the next is read
pub step : (x : SavedUnit) (xs : List SavedUnit) (d : Draft) (l : List ℕ) → unit_refusal d x l ≡ 0
    → read_units (x ∷ xs) d l ≡ read_units xs (noted d x (take (unit_size d x) l)) (drop (unit_size d x) l)
unfolding read_units
step x xs d l e = ap (λ (k : ℕ). unless k (read_units xs (noted d x (take (unit_size d x) l)) (drop (unit_size d x) l))) e

-- behind the last unit
pub step_none : (d : Draft) (l : List ℕ) → read_units [] d l ≡ units d l
unfolding read_units
step_none d l = refl

-- ---- numbers at a place

-- bytes at a place, as far as the text goes
bytes_there : (k : ℕ) (l : List ℕ) (a i : ℕ) → a + i + k ≤ length l → bytes_at l a i k ≡ take k (drop (a + i) l)
bytes_there zero l a i h = refl
bytes_there (suc k) l a i h =
    let next : drop (a + i) l ≡ get_or l (a + i) 0 ∷ drop (a + i + 1) l = drop-next l (a + i) (omega arith) in
    let e : a + (i + 1) ≡ a + i + 1 = omega arith in
    let rest : bytes_at l a (i + 1) k ≡ take k (drop (a + i + 1) l) = bytes_there k l a (i + 1) (omega arith) ∙ ap (λ (m : ℕ). take k (drop m l)) e in
    ap (λ (t : List ℕ). get_or l (a + i) 0 ∷ t) rest ∙ sym (ap (take (suc k)) next)

-- the number of eight bytes at a place
pub number_there : (l : List ℕ) (a : ℕ) → a + 8 ≤ length l → number_at l a ≡ value_of (take 8 (drop a l))
unfolding number_at
number_there l a h = let e : a + 0 ≡ a = omega arith in
    ap value_of (bytes_there 8 l a 0 (omega arith) ∙ ap (λ (m : ℕ). take 8 (drop m l)) e)

-- that of two
pub pair_there : (l : List ℕ) (a : ℕ) → a + 2 ≤ length l → pair_at l a ≡ value_of (take 2 (drop a l))
unfolding pair_at
pair_there l a h = let e : a + 0 ≡ a = omega arith in
    ap value_of (bytes_there 2 l a 0 (omega arith) ∙ ap (λ (m : ℕ). take 2 (drop m l)) e)

-- that of one is the byte
pub byte_there : (l : List ℕ) (a : ℕ) → a + 1 ≤ length l → get_or l a 0 ≡ value_of (take 1 (drop a l))
byte_there l a h =
    let e : a + 0 ≡ a = omega arith in
    let one : value_of (get_or l (a + 0) 0 ∷ []) ≡ get_or l (a + 0) 0 = omega arith in
    ap (λ (m : ℕ). get_or l m 0) (sym e) ∙ sym one ∙ ap value_of (bytes_there 1 l a 0 (omega arith) ∙ ap (λ (m : ℕ). take 1 (drop m l)) e)

-- ---- what each unit says

pub mark_right : (l : List ℕ) → 3 ≤ length l → (b : Bool) → b ≡ same (take 3 l) (72 ∷ 76 ∷ 68 ∷ []) → b ≡ true → 0 ≡ unit_refusal blank_draft mark_unit l
mark_right l h b e t = rw (le-ltb (length l) 3 h, sym e ∙ t) refl

pub mark_wrong : (l : List ℕ) → 3 ≤ length l → (b : Bool) → b ≡ same (take 3 l) (72 ∷ 76 ∷ 68 ∷ []) → b ≡ false → 22 ≡ unit_refusal blank_draft mark_unit l
mark_wrong l h b e t = rw (le-ltb (length l) 3 h, sym e ∙ t) refl

pub tag_right : (l : List ℕ) (k : ℕ) → k ≤ length l → (b : Bool) → b ≡ is_strong (take (k - 0) l) → b ≡ true → 0 ≡ unit_refusal (counted k) tag_unit l
tag_right l k h b e t =
    let z : k - 0 ≡ k = omega arith in
    rw (le-ltb (length l) k h, sym (e ∙ ap (λ (m : ℕ). is_strong (take m l)) z) ∙ t) refl

pub tag_wrong : (l : List ℕ) (k : ℕ) → k ≤ length l → (b : Bool) → b ≡ is_strong (take (k - 0) l) → b ≡ false → 24 ≡ unit_refusal (counted k) tag_unit l
tag_wrong l k h b e t =
    let z : k - 0 ≡ k = omega arith in
    rw (le-ltb (length l) k h, sym (e ∙ ap (λ (m : ℕ). is_strong (take m l)) z) ∙ t) refl

-- a number whose test is passed, or not: of a unit of k bytes that is refused by w unless its value passes the test
pub value_judged : (l : List ℕ) (k w : ℕ) (p : ℕ → Bool) (v : ℕ) (b : Bool) → k ≤ length l → v ≡ value_of (take k l) → p v ≡ b
    → cond b 0 w ≡ cond (ltb (length l) k) 29 (cond (p (value_of (take k l))) 0 w)
value_judged l k w p v b h e t = rw (le-ltb (length l) k h, sym e, t) refl

-- a test that gives 0 is passed
passed : (b : Bool) (n : ℕ) → cond b 0 (suc n) ≡ 0 → b ≡ true
passed true n e = refl
passed false n e = absurd (omega arith)

-- ---- the units behind the tag

-- a file of a version has no more runs than a copy
most_few : (v : ℕ) → most_runs v ≤ max_runs
most_few v = go (eqb v 1)
  where
    go : (b : Bool) → cond b version_one_runs max_runs ≤ max_runs
    go true = omega arith
    go false = omega arith

-- the length is refused
pub length-refused : (v : ℕ) (rest : List ℕ) (r : ℕ) → r ≡ unit_refusal blank_draft length_unit rest → (r ≡ 0 → ⊥) → NumberUnitsSay v rest (Err r)
length-refused v rest r e h = λ k tag. stop length_unit (run_count_unit ∷ []) (draft v k tag 0 0 [] 0) rest r e h

-- the length is right
module _ (v : ℕ) (rest : List ℕ) (r : ℕ) (first : unit_refusal blank_draft length_unit rest ≡ 0)
    (e : r ≡ unit_refusal (versioned v) run_count_unit (drop 8 rest)) where
  goes_on : (k : ℕ) (tag : List ℕ) → read_units (length_unit ∷ run_count_unit ∷ []) (draft v k tag 0 0 [] 0) rest
      ≡ read_units (run_count_unit ∷ []) (draft v k tag (value_of (take 8 rest)) 0 [] 0) (drop 8 rest)
  goes_on k tag = step length_unit (run_count_unit ∷ []) (draft v k tag 0 0 [] 0) rest first

  numbers_right : r ≡ 0 → NumbersRight v rest
  numbers_right z =
      let second : unit_refusal (versioned v) run_count_unit (drop 8 rest) ≡ 0 = sym e ∙ z in
      let eight : 8 ≤ length rest = whole_unit blank_draft length_unit rest first in
      let two : 2 ≤ length (drop 8 rest) = whole_unit (versioned v) run_count_unit (drop 8 rest) second in
      let ten : 10 ≤ length rest = omega (arith, two, length-drop 8 rest) in
      let n : number_at rest 0 ≡ value_of (take 8 rest) = number_there rest 0 (omega arith) in
      let m : pair_at rest 8 ≡ value_of (take 2 (drop 8 rest)) = pair_there rest 8 (omega arith) in
      let below = leb-true (value_of (take 8 rest)) max_file (passed (leb (value_of (take 8 rest)) max_file) 24 (right_unit blank_draft length_unit rest first)) in
      let few = leb-true (value_of (take 2 (drop 8 rest))) (most_runs v)
      (passed (leb (value_of (take 2 (drop 8 rest))) (most_runs v)) 25 (right_unit (versioned v) run_count_unit (drop 8 rest) second)) in
      record {
        below = omega arith;
        few = omega (arith, m, few, most_few v);
        whole = ten;
        goes = λ k tag.
            goes_on k tag ∙ step run_count_unit [] (draft v k tag (value_of (take 8 rest)) 0 [] 0) (drop 8 rest) second
            ∙ step_none (draft v k tag (value_of (take 8 rest)) (value_of (take 2 (drop 8 rest))) [] 0) (drop 2 (drop 8 rest))
            ∙ (λ i. units (draft v k tag (sym n i) (sym m i) [] 0) (drop-drop 2 8 rest i));
      }

-- what is said of the count of runs is said of both
pub numbers-said : (v : ℕ) (rest : List ℕ) (first : unit_refusal blank_draft length_unit rest ≡ 0) (r : Result (Unit {0}) Refusal)
    → refusal_in r ≡ unit_refusal (versioned v) run_count_unit (drop 8 rest) → NumberUnitsSay v rest (numbered r)
numbers-said v rest first (Ok u) e = numbers_right v rest 0 first e refl
numbers-said v rest first (Err k) e = λ n tag.
    goes_on v rest (refusal_number k) first e n tag
    ∙ stop run_count_unit [] (draft v n tag (value_of (take 8 rest)) 0 [] 0) (drop 8 rest) (refusal_number k) e (some_number k)

-- ---- the units up to the tag

-- the mark is refused
pub mark-refused : (file : List ℕ) (r : ℕ) → r ≡ unit_refusal blank_draft mark_unit file → (r ≡ 0 → ⊥) → TagUnitsSay file (Err r)
mark-refused file r e h = λ xs. stop mark_unit (version_unit ∷ tag_count_unit ∷ tag_unit ∷ xs) blank_draft file r e h

-- the mark is right
module _ (file : List ℕ) (mark : unit_refusal blank_draft mark_unit file ≡ 0) where
  at-version : (xs : List SavedUnit) → read_units (mark_unit ∷ version_unit ∷ xs) blank_draft file ≡ read_units (version_unit ∷ xs) blank_draft (drop 3 file)
  at-version xs = step mark_unit (version_unit ∷ xs) blank_draft file mark

  -- the version is refused
  pub version-refused : (r : ℕ) → r ≡ unit_refusal blank_draft version_unit (drop 3 file) → (r ≡ 0 → ⊥) → TagUnitsSay file (Err r)
  version-refused r e h =
      λ xs. at-version (tag_count_unit ∷ tag_unit ∷ xs) ∙ stop version_unit (tag_count_unit ∷ tag_unit ∷ xs) blank_draft (drop 3 file) r e h

  -- the version is right
  module _ (version : unit_refusal blank_draft version_unit (drop 3 file) ≡ 0) where
    pub five : 5 ≤ length file
    five = omega (arith, whole_unit blank_draft mark_unit file mark, whole_unit blank_draft version_unit (drop 3 file) version, length-drop 3 file)

    abbrev v : ℕ
    v = pair_at file 3

    at-count : (xs : List SavedUnit) → read_units (mark_unit ∷ version_unit ∷ xs) blank_draft file ≡ read_units xs (versioned v) (drop 5 file)
    at-count xs =
        at-version xs ∙ step version_unit xs blank_draft (drop 3 file) version
        ∙ (λ i. read_units xs (versioned (sym (pair_there file 3 five) i)) (drop-drop 2 3 file i))

    -- the tag's count is refused
    pub count-refused : (r : ℕ) → r ≡ unit_refusal blank_draft tag_count_unit (drop 5 file) → (r ≡ 0 → ⊥) → TagUnitsSay file (Err r)
    count-refused r e h =
        λ xs. at-count (tag_count_unit ∷ tag_unit ∷ xs) ∙ stop tag_count_unit (tag_unit ∷ xs) (versioned v) (drop 5 file) r e h

    -- the tag's count is right
    module _ (count : unit_refusal blank_draft tag_count_unit (drop 5 file) ≡ 0) where
      pub six : 6 ≤ length file
      six = omega (arith, five, whole_unit blank_draft tag_count_unit (drop 5 file) count, length-drop 5 file)

      counts : get_or file 5 0 ≡ value_of (take 1 (drop 5 file))
      counts = byte_there file 5 six

      at-tag : (xs : List SavedUnit) → read_units (mark_unit ∷ version_unit ∷ tag_count_unit ∷ tag_unit ∷ xs) blank_draft file
          ≡ read_units (tag_unit ∷ xs) (draft v (get_or file 5 0) [] 0 0 [] 0) (drop 6 file)
      at-tag xs =
          at-count (tag_count_unit ∷ tag_unit ∷ xs) ∙ step tag_count_unit (tag_unit ∷ xs) (versioned v) (drop 5 file) count
          ∙ (λ i. read_units (tag_unit ∷ xs) (draft v (sym counts i) [] 0 0 [] 0) (drop-drop 1 5 file i))

      module _ (r : ℕ) (e : r ≡ unit_refusal (counted (get_or file 5 0)) tag_unit (drop 6 file)) where
        strong_tag : r ≡ 0 → TagRight file (get_or file 5 0)
        strong_tag z =
            let k = get_or file 5 0 in
            let right : unit_refusal (counted k) tag_unit (drop 6 file) ≡ 0 = sym e ∙ z in
            let long : k ≤ length (drop 6 file) = whole_unit (counted k) tag_unit (drop 6 file) right in
            let value = value_of (take 1 (drop 5 file)) in
            let short = leb-true value max_tag (passed (leb value max_tag) 23 (right_unit blank_draft tag_count_unit (drop 5 file) count)) in
            record {
              short = omega (arith, short, counts);
              strong = passed (is_strong (take k (drop 6 file))) 23 (right_unit (counted k) tag_unit (drop 6 file) right);
              whole = omega (arith, long, six, length-drop 6 file);
              goes = λ xs. at-tag xs ∙ step tag_unit xs (draft v k [] 0 0 [] 0) (drop 6 file) right
                  ∙ ap (read_units xs (draft v k (take k (drop 6 file)) 0 0 [] 0)) (drop-drop k 6 file);
            }

      pub tag-said_lem : (r : Result (Unit {0}) Refusal) → refusal_in r ≡ unit_refusal (counted (get_or file 5 0)) tag_unit (drop 6 file)
          → TagUnitsSay file (numbered r)
      tag-said_lem (Ok u) e = strong_tag 0 e refl
      tag-said_lem (Err k) e =
          λ xs. at-tag xs ∙ stop tag_unit xs (draft v (get_or file 5 0) [] 0 0 [] 0) (drop 6 file) (refusal_number k) e (some_number k)
