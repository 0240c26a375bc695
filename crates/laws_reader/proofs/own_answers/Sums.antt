-- The length of a multipart's body: its data are different positions of the file, its lines are short, and its parts are few.
use Prim.Native.Nat.{ℕ, zero, suc, ◌+◌, ◌*◌, ◌≤◌}
use mathlib.Core.Path.{◌≡◌, refl, ap}
use mathlib.Core.Bool.{Bool, true, false, cond}
use mathlib.Core.List.{List, [], ◌∷◌, ◌++◌}
use native.Mathlib.Omega.{arith}
use lib.Dec.{ltb, eqb}
use lib.ListN.{length, length-append}
use borrow.Author.Tests.{ltb-true, ltb-false, lt-ltb, le-ltb, eqb-true, eqb-false}
use Rattle.rules_server.specs.Limits.{max_specs, max_file, max_type, max_boundary, merge_gap}
use Rattle.rules_server.specs.Octets.{all}
use Rattle.rules_server.specs.Texts.{crlf}
use Rattle.rules_server.specs.Ranges.{ByteSpec, satisfiable}
use Rattle.rules_server.specs.Parts.{run_of, spec_runs, near, hull, joined, apart, place, gather}
use Rattle.rules_server.specs.Status.{Resource}
use Rattle.rules_server.specs.Answers.{Cell, own_then, from_then, lines_then, type_lines, range_line, part_head, closing, data_of, multipart_body}
use Rattle.rules_server.specs.declared.Run.{Run}
use Rattle.laws_server.proofs.grammar.Bytes.{and_left, and_right, and_both}
use Rattle.rules_demands.specs.Positions.{positions, times, Each, Pairs, RunIn}
use Rattle.laws_server.proofs.Runs.{Apart}
use Rattle.laws_server.proofs.Cells.{length_data, positions_own, body_once}
use Rattle.rules_tablet.specs.Limits.{max_size}
use Rattle.laws_reader.proofs.own_answers.Names.{print_few}
use Rattle.laws_reader.proofs.own_answers.Parts.{own_length, from-length, closing-length, data_then}

-- how many numbers of a list are below n
abbrev count_below : ℕ → List ℕ → ℕ
count_below n [] = 0
count_below n (x ∷ l) = cond (ltb x n) (suc (count_below n l)) (count_below n l)

-- none is below 0
count-none : (l : List ℕ) → count_below 0 l ≡ 0
count-none [] = refl
count-none (x ∷ l) = rw (le-ltb x 0 (omega arith)) (count-none l)

-- below n + 1 are those below n and those that are n
count-next : (n : ℕ) (l : List ℕ) → count_below (suc n) l ≡ count_below n l + times n l
count-next n [] = omega arith
count-next n (x ∷ l) = go (ltb x n) refl (eqb x n) refl (count-next n l)
  where
    go : (a : Bool) → ltb x n ≡ a → (b : Bool) → eqb x n ≡ b → count_below (suc n) l ≡ count_below n l + times n l
        → count_below (suc n) (x ∷ l) ≡ count_below n (x ∷ l) + times n (x ∷ l)
    go true e true f ih = absurd (omega (arith, ltb-true x n e, eqb-true x n f))
    go true e false f ih = rw (e, f, lt-ltb x (suc n) (omega (arith, ltb-true x n e))) (omega arith)
    go false e true f ih = rw (e, f, lt-ltb x (suc n) (omega (arith, eqb-true x n f))) (omega arith)
    go false e false f ih =
        let h = eqb-false x n f in
        rw (e, f, le-ltb x (suc n) (omega (arith, ltb-false x n e))) ih

-- where no number stands twice, at most n are below n
count_once : (n : ℕ) (l : List ℕ) → ((p : ℕ) → times p l ≤ 1) → count_below n l ≤ n
count_once zero l h = omega (arith, count-none l)
count_once (suc n) l h = omega (arith, count-next n l, count_once n l h, h n)

-- where all are below n, they are counted
count-all : (n : ℕ) (l : List ℕ) → all (λ x. ltb x n) l ≡ true → count_below n l ≡ length l
count-all n [] e = refl
count-all n (x ∷ l) e = rw (and_left (ltb x n) (all (λ x. ltb x n) l) e) (ap suc (count-all n l (and_right (ltb x n) (all (λ x. ltb x n) l) e)))

-- the positions of bytes from a on are below n
from_below : (n a : ℕ) (l : List ℕ) (rest : List Cell) → a + length l ≤ n → all (λ x. ltb x n) (positions rest) ≡ true
    → all (λ x. ltb x n) (positions (from_then a l rest)) ≡ true
from_below n a [] rest h e = e
from_below n a (b ∷ l) rest h e =
    and_both (ltb a n) (all (λ x. ltb x n) (positions (from_then (suc a) l rest))) (lt-ltb a n (omega arith)) (from_below n (suc a) l rest (omega arith) e)

-- so are those of a body
body_below : (f : Resource) (rs : List Run) → Each (RunIn (length f.file)) rs → all (λ x. ltb x (length f.file)) (positions (multipart_body f rs)) ≡ true
body_below f [] o = rw positions_own refl
body_below f (r ∷ rs) o =
    let count = length_data f.file r o.0 in
    let i = o.0.inside in
    rw positions_own
    (from_below (length f.file) r.first (data_of f.file r) (own_then crlf (multipart_body f rs)) (omega arith) (body_below f rs o.1))

-- a body's data together are at most the file
pub data_sum : (f : Resource) (rs : List Run) → Each (RunIn (length f.file)) rs → Pairs (Apart merge_gap) rs
    → length (positions (multipart_body f rs)) ≤ length f.file
data_sum f rs o a =
    let l = positions (multipart_body f rs) in
    omega (arith, count-all (length f.file) l (body_below f rs o), count_once (length f.file) l (λ p. body_once f p rs o a))

-- as many positions as bytes
from-positions : (a : ℕ) (l : List ℕ) (rest : List Cell) → length (positions (from_then a l rest)) ≡ length l + length (positions rest)
from-positions a [] rest = omega arith
from-positions a (b ∷ l) rest = let h = from-positions (suc a) l rest in omega arith

-- the most bytes of a part's framing: its mark, its lines and CR LF
abbrev part_frame : ℕ
part_frame = max_boundary + max_type + 100

-- a type's line
type_length : (media rest : List ℕ) → length (lines_then (type_lines media) rest) ≤ length media + 16 + length rest
type_length [] rest = omega arith
type_length (b ∷ media) rest = let a = length-append media (crlf ++ rest) in omega arith

-- a Content-Range line of numbers within the longest file
range_length : (n : ℕ) (r : Run) → n ≤ max_file → RunIn n r → length (range_line r n) ≤ 62
unfolding range_line
range_length n r small o =
    let i = o.ordered in
    let j = o.inside in
    let a = print_few r.first (omega arith) in
    let b = print_few r.last (omega arith) in
    let c = print_few n (omega arith) in
    simp length-append (omega arith)

-- what stands before a part's data
head-length : (f : Resource) (r : Run) → length f.file ≤ max_file → length f.media ≤ max_type → length f.boundary ≤ max_boundary
    → RunIn (length f.file) r
    → length (part_head f.boundary f.media (length f.file) r) + 2 ≤ part_frame
unfolding part_head
head-length f r small m b o =
    let line = range_line r (length f.file) in
    let a = range_length (length f.file) r small o in
    let c = length-append line (crlf ++ crlf) in
    let d = type_length f.media (line ++ (crlf ++ crlf)) in
    let e = length-append f.boundary (crlf ++ lines_then (type_lines f.media) (line ++ (crlf ++ crlf))) in
    omega arith

-- a body is its data and the framing
frame_sum : (f : Resource) (rs : List Run) → length f.file ≤ max_file → length f.media ≤ max_type → length f.boundary ≤ max_boundary
    → Each (RunIn (length f.file)) rs
    → length (multipart_body f rs) ≤ length (positions (multipart_body f rs)) + length rs * part_frame + (max_boundary + 6)
frame_sum f [] small m b o = omega (arith, own_length (closing f.boundary) [], closing-length f.boundary)
frame_sum f (r ∷ rs) small m b o =
    let rest = own_then crlf (multipart_body f rs) in
    let front = part_head f.boundary f.media (length f.file) r in
    let a = own_length front (data_then f r rs) in
    let c = from-length r.first (data_of f.file r) rest in
    let d = head-length f r small m b o.0 in
    let e : length (positions (multipart_body f (r ∷ rs))) ≡ length (positions (data_then f r rs)) = ap length (positions_own front (data_then f r rs)) in
    let g = from-positions r.first (data_of f.file r) rest in
    let ih = frame_sum f rs small m b o.1 in
    omega arith

-- placing runs makes no more of them
apart_few : (g : ℕ) (r : Run) (qs : List Run) → length (apart g r qs) ≤ length qs
apart_few g r [] = omega arith
apart_few g r (q ∷ qs) = go (near g r q) (apart_few g (hull r q) qs) (apart_few g r qs)
  where
    go : (b : Bool) → length (apart g (hull r q) qs) ≤ length qs → length (apart g r qs) ≤ length qs
        → length (cond b (apart g (hull r q) qs) (q ∷ apart g r qs)) ≤ suc (length qs)
    go true h k = omega arith
    go false h k = omega arith

-- placing a run makes at most one more
place_few : (g : ℕ) (r : Run) (qs : List Run) → length (place g r qs) ≤ suc (length qs)
place_few g r [] = omega arith
place_few g r (q ∷ qs) = go (near g r q) (apart_few g (hull r q) qs) (place_few g r qs)
  where
    go : (b : Bool) → length (apart g (hull r q) qs) ≤ length qs → length (place g r qs) ≤ suc (length qs)
        → length (cond b (joined g (hull r q) qs ∷ apart g (hull r q) qs) (q ∷ place g r qs)) ≤ suc (suc (length qs))
    go true h k = omega arith
    go false h k = omega arith

-- placing all makes at most as many as they are
gather_few : (g : ℕ) (rs done : List Run) → length (gather g rs done) ≤ length rs + length done
gather_few g [] done = omega arith
gather_few g (r ∷ rs) done = omega (arith, gather_few g rs (place g r done), place_few g r done)

-- no more runs than specs
runs_few : (n : ℕ) (ss : List ByteSpec) → length (spec_runs n ss) ≤ length ss
runs_few n [] = omega arith
runs_few n (s ∷ ss) = go (satisfiable n s) (runs_few n ss)
  where
    go : (b : Bool) → length (spec_runs n ss) ≤ length ss → length (cond b (run_of n s ∷ spec_runs n ss) (spec_runs n ss)) ≤ suc (length ss)
    go true h = omega arith
    go false h = omega arith

-- no more parts than specs
pub parts_few : (n : ℕ) (ss : List ByteSpec) → length (gather merge_gap (spec_runs n ss) []) ≤ length ss
parts_few n ss = omega (arith, gather_few merge_gap (spec_runs n ss) [], runs_few n ss)

-- so a Content-Length says a body's length
pub body_short : (f : Resource) (rs : List Run) → length f.file ≤ max_file → length f.media ≤ max_type → length f.boundary ≤ max_boundary
    → Each (RunIn (length f.file)) rs → Pairs (Apart merge_gap) rs
    → length rs ≤ max_specs → length (multipart_body f rs) ≤ max_size
body_short f rs small m b o a w = omega (arith, frame_sum f rs small m b o, data_sum f rs o a)
