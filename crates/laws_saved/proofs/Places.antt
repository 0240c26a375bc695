-- The places of a file at which a unit begins: what is read from there on; a unit that is whole and right leads to the next place, and any other ends the
-- reading. Assumes nothing.
use Prim.Native.Nat.{ℕ, zero, suc, ◌-◌, ◌≤◌, ◌<◌}
use mathlib.Core.Path.{◌≡◌, refl, sym, ap, ap₂, ◌∙◌}
use mathlib.Core.Bool.{Bool, true, false, and-eq-true_iff}
use mathlib.Core.List.{List, [], ◌∷◌, ◌++◌}
use native.Mathlib.Nat.{sub-zero, sub_self}
use native.Mathlib.Omega.{arith}
use lib.Dec.{leb, eqb}
use lib.ListN.{length, take, drop, replicate, length-append}
use lib.Seq.{take_at, drop_at}
use borrow.Author.Tests.{leb-true, eqb-true, eqb-false, lt-ltb, le-ltb}
use Rattle.rules_server.specs.Numbers.{value_of}
use Rattle.rules_server.specs.declared.Run.{Run}
use Rattle.rules_tablet.specs.Limits.{max_runs}
use Rattle.rules_tablet.specs.SavedCopies.{SavedUnit, mark_unit, version_unit, tag_count_unit, tag_unit, length_unit, run_count_unit, run_unit, Draft, unit_size}
use Rattle.rules_tablet.specs.SavedCopies.{run_of, unit_fault, noted, unit_refusal, UnitsRead, units, refused_by, unless, read_units, SavedRead, refuses}
use Rattle.rules_tablet.specs.SavedCopies.{version, is_version, most_runs, draft, blank_draft, first_units, read_end, read_runs}
use Rattle.rules_demands.specs.SavedRefusals.{Version, one, two, number, runs_in, SavedPlace, at_mark, at_version, at_tag_count, at_tag, at_length, at_run_count, at_run}
use Rattle.rules_demands.specs.SavedRefusals.{size_at, UnitComes}
use Rattle.laws_saved.proofs.Tests.{by_test, passed}

-- ---- units in a row

-- a unit that is not whole
units_short : (x : SavedUnit) (xs : List SavedUnit) (d : Draft) (l : List ℕ) → length l < unit_size d x → read_units (x ∷ xs) d l ≡ refused_by 29
unfolding read_units
units_short x xs d l h = rw (lt-ltb (length l) (unit_size d x) h)

-- what is judged of a whole unit
whole : (x : SavedUnit) (d : Draft) (u l : List ℕ) → length u ≡ unit_size d x → unit_refusal d x (u ++ l) ≡ unit_fault d x u
whole x d u l s =
    rw (le-ltb (length (u ++ l)) (unit_size d x) (omega (arith, length-append u l)), take_at u l (unit_size d x) s)

-- what is read behind the first unit
abbrev read_behind : SavedUnit → List SavedUnit → Draft → List ℕ → UnitsRead
read_behind x xs d l = read_units xs (noted d x (take (unit_size d x) l)) (drop (unit_size d x) l)

-- a whole unit that is wrong
units_wrong : (x : SavedUnit) (xs : List SavedUnit) (d : Draft) (u l : List ℕ) (k : ℕ) → length u ≡ unit_size d x → unit_fault d x u ≡ suc k
    → read_units (x ∷ xs) d (u ++ l) ≡ refused_by (suc k)
unfolding read_units
units_wrong x xs d u l k s f = ap (λ (n : ℕ). unless n (read_behind x xs d (u ++ l))) (whole x d u l s ∙ f)

-- a whole unit that is right: the others are read behind it
units_right : (x : SavedUnit) (xs : List SavedUnit) (d : Draft) (u l : List ℕ) → length u ≡ unit_size d x → unit_fault d x u ≡ 0
    → read_units (x ∷ xs) d (u ++ l) ≡ read_units xs (noted d x u) l
unfolding read_units
units_right x xs d u l s f =
    ap (λ (n : ℕ). unless n (read_behind x xs d (u ++ l))) (whole x d u l s ∙ f)
    ∙ ap₂ (λ (t m : List ℕ). read_units xs (noted d x t) m) (take_at u l (unit_size d x) s) (drop_at u l (unit_size d x) s)

-- ---- places

-- where the next run may begin at the earliest behind runs, lo where there is none
abbrev pub behind : ℕ → List Run → ℕ
behind lo [] = lo
behind lo (r ∷ rs) = behind (suc (suc r.last)) rs

-- what is known behind a version, a tag, a length, a count of runs and runs
abbrev pub draft_of : Version → List ℕ → ℕ → ℕ → List Run → ℕ → Draft
draft_of v tag n count rs lo = draft (number v) (length tag) tag n count rs lo

-- the version of a number that loads
abbrev pub version_by : Bool → Version
version_by true = one
version_by false = two

abbrev pub version_of : ℕ → Version
version_of n = version_by (eqb n 1)

-- its number is that number
pub version-number : (n : ℕ) → is_version n ≡ true → number (version_of n) ≡ n
version-number n e =
    let h = (and-eq-true_iff (leb 1 n) (leb n version)).0 e in
    by_test (eqb n 1) (λ f. rw f (sym (eqb-true n 1 f))) λ f.
    rw f (omega (arith, eqb-false n 1 f, leb-true 1 n h.0, leb-true n version h.1))

-- a number of a version is a byte
pub number_byte : (v : Version) → number v < 256
number_byte one = omega arith
number_byte two = omega arith

-- the most runs under it are those of the table
pub most_runs_lem : (v : Version) → most_runs (number v) ≡ runs_in v
most_runs_lem one = refl
most_runs_lem two = refl

-- and no more than a copy may have
pub runs_few : (v : Version) → runs_in v ≤ max_runs
runs_few one = omega arith
runs_few two = omega arith

-- what the units before a place say
abbrev pub draft-at : SavedPlace → Draft
draft-at at_mark = blank_draft
draft-at at_version = blank_draft
draft-at (at_tag_count v) = draft (number v) 0 [] 0 0 [] 0
draft-at (at_tag v k) = draft (number v) k [] 0 0 [] 0
draft-at (at_length v tag) = draft_of v tag 0 0 [] 0
draft-at (at_run_count v tag n) = draft_of v tag n 0 [] 0
draft-at (at_run v tag n count rs) = draft_of v tag n count rs (behind 0 rs)

-- the unit at a place
abbrev pub unit_at : SavedPlace → SavedUnit
unit_at at_mark = mark_unit
unit_at at_version = version_unit
unit_at (at_tag_count v) = tag_count_unit
unit_at (at_tag v k) = tag_unit
unit_at (at_length v tag) = length_unit
unit_at (at_run_count v tag n) = run_count_unit
unit_at (at_run v tag n count rs) = run_unit

-- the units from a place on: those up to the count of runs, or the runs
abbrev pub units_from : SavedPlace → List SavedUnit
units_from at_mark = first_units
units_from at_version = drop 1 first_units
units_from (at_tag_count v) = drop 2 first_units
units_from (at_tag v k) = drop 3 first_units
units_from (at_length v tag) = drop 4 first_units
units_from (at_run_count v tag n) = drop 5 first_units
units_from (at_run v tag n count rs) = replicate (count - length rs) run_unit

-- what units from a place on are read as: the runs come behind the first units, the end behind the runs
abbrev pub go_on : SavedPlace → UnitsRead → SavedRead
go_on at_mark r = read_runs r
go_on at_version r = read_runs r
go_on (at_tag_count v) r = read_runs r
go_on (at_tag v k) r = read_runs r
go_on (at_length v tag) r = read_runs r
go_on (at_run_count v tag n) r = read_runs r
go_on (at_run v tag n count rs) r = read_end r

-- what bytes from a place on are read as
abbrev pub read_from : SavedPlace → List ℕ → SavedRead
read_from p l = go_on p (read_units (units_from p) (draft-at p) l)

-- the place behind the unit u
abbrev pub next-place : SavedPlace → List ℕ → SavedPlace
next-place at_mark u = at_version
next-place at_version u = at_tag_count (version_of (value_of u))
next-place (at_tag_count v) u = at_tag v (value_of u)
next-place (at_tag v k) u = at_length v u
next-place (at_length v tag) u = at_run_count v tag (value_of u)
next-place (at_run_count v tag n) u = at_run v tag n (value_of u) []
next-place (at_run v tag n count rs) u = at_run v tag n count (rs ++ (run_of u ∷ []))

-- what is wrong with the unit u at a place, 0 for nothing
abbrev pub fault_at : SavedPlace → List ℕ → ℕ
fault_at p u = unit_fault (draft-at p) (unit_at p) u

-- the sizes of the table are those of the reading
size_at_lem : (p : SavedPlace) → size_at p ≡ unit_size (draft-at p) (unit_at p)
size_at_lem at_mark = refl
size_at_lem at_version = refl
size_at_lem (at_tag_count v) = refl
size_at_lem (at_tag v k) = refl
size_at_lem (at_length v tag) = refl
size_at_lem (at_run_count v tag n) = refl
size_at_lem (at_run v tag n count rs) = refl

-- so many units of which one is to come
replicate-next : (x : SavedUnit) (k : ℕ) → 0 < k → replicate k x ≡ x ∷ drop 1 (replicate k x)
replicate-next x zero h = absurd (omega arith)
replicate-next x (suc k) h = refl

-- and one less
replicate_less : (x : SavedUnit) (k : ℕ) → drop 1 (replicate k x) ≡ replicate (k - 1) x
replicate_less x zero = refl
replicate_less x (suc k) = let e : k ≡ suc k - 1 = omega arith in ap (λ (j : ℕ). replicate j x) e

-- where a unit comes, it is the first of those from the place on
first_unit : (p : SavedPlace) → UnitComes p → units_from p ≡ unit_at p ∷ drop 1 (units_from p)
first_unit at_mark c = refl
first_unit at_version c = refl
first_unit (at_tag_count v) c = refl
first_unit (at_tag v k) c = refl
first_unit (at_length v tag) c = refl
first_unit (at_run_count v tag n) c = refl
first_unit (at_run v tag n count rs) c = replicate-next run_unit (count - length rs) (omega arith)

-- the first refusal ends the reading
refusal-ends : (p : SavedPlace) (k : ℕ) → go_on p (refused_by k) ≡ refuses k
refusal-ends at_mark k = refl
refusal-ends at_version k = refl
refusal-ends (at_tag_count v) k = refl
refusal-ends (at_tag v t) k = refl
refusal-ends (at_length v tag) k = refl
refusal-ends (at_run_count v tag n) k = refl
refusal-ends (at_run v tag n count rs) k = refl

-- behind runs and one more
pub behind-last : (lo : ℕ) (rs : List Run) (r : Run) → behind lo (rs ++ (r ∷ [])) ≡ suc (suc r.last)
behind-last lo [] r = refl
behind-last lo (q ∷ rs) r = behind-last (suc (suc q.last)) rs r

-- the units behind the right unit u are those from the next place on
units_next : (p : SavedPlace) (u l : List ℕ) → UnitComes p → length u ≡ size_at p → fault_at p u ≡ 0
    → go_on p (read_units (drop 1 (units_from p)) (noted (draft-at p) (unit_at p) u) l) ≡ read_from (next-place p u) l
unfolding read_units
units_next at_mark u l c s f = refl
units_next at_version u l c s f = rw (version-number (value_of u) (passed (is_version (value_of u)) 22 f))
units_next (at_tag_count v) u l c s f = refl
units_next (at_tag v k) u l c s f = rw s
units_next (at_length v tag) u l c s f = refl
units_next (at_run_count v tag n) u l c s f = rw (sub-zero (value_of u))
units_next (at_run v tag n count rs) u l c s f =
    let r = run_of u in
    let k : (count - length rs) - 1 ≡ count - length (rs ++ (r ∷ [])) = omega (arith, length-append rs (r ∷ [])) in
    ap₂ (λ (us : List SavedUnit) (lo : ℕ). read_end (read_units us (draft_of v tag n count (rs ++ (r ∷ [])) lo) l))
    (replicate_less run_unit (count - length rs) ∙ ap (λ (j : ℕ). replicate j run_unit) k) (sym (behind-last 0 rs r))

-- ---- one unit

-- where a unit comes, it is read first
unit_first : (p : SavedPlace) (l : List ℕ) → UnitComes p → read_from p l ≡ go_on p (read_units (unit_at p ∷ drop 1 (units_from p)) (draft-at p) l)
unit_first p l c = ap (λ (us : List SavedUnit). go_on p (read_units us (draft-at p) l)) (first_unit p c)

-- one that is not whole is refused by 29
pub read_short : (p : SavedPlace) (l : List ℕ) → UnitComes p → length l < size_at p → read_from p l ≡ refuses 29
read_short p l c h =
    unit_first p l c ∙ ap (go_on p) (units_short (unit_at p) _ (draft-at p) l (rw (size_at_lem p) at h)) ∙ refusal-ends p 29

-- one that is wrong is refused by its number
pub read_wrong : (p : SavedPlace) (u l : List ℕ) (k : ℕ) → UnitComes p → length u ≡ size_at p → fault_at p u ≡ suc k → read_from p (u ++ l) ≡ refuses (suc k)
read_wrong p u l k c s f =
    unit_first p (u ++ l) c ∙ ap (go_on p) (units_wrong (unit_at p) _ (draft-at p) u l k (s ∙ size_at_lem p) f) ∙ refusal-ends p (suc k)

-- one that is right leads to the next place
pub read_right : (p : SavedPlace) (u l : List ℕ) → UnitComes p → length u ≡ size_at p → fault_at p u ≡ 0 → read_from p (u ++ l) ≡ read_from (next-place p u) l
read_right p u l c s f =
    unit_first p (u ++ l) c ∙ ap (go_on p) (units_right (unit_at p) _ (draft-at p) u l (s ∙ size_at_lem p) f) ∙ units_next p u l c s f

-- behind the last run nothing is read
pub read_end_lem : (v : Version) (tag : List ℕ) (n : ℕ) (rs : List Run) (l : List ℕ)
    → read_from (at_run v tag n (length rs) rs) l ≡ read_end (units (draft-at (at_run v tag n (length rs) rs)) l)
unfolding read_units
read_end_lem v tag n rs l = rw (sub_self (length rs))
