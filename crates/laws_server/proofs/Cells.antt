-- The cells of a 206's body: which positions they carry, how often, and which bytes.
-- Assumes nothing.
use Prim.Native.Nat.{ℕ, suc, ◌+◌, ◌-◌, ◌≤◌, ◌<◌}
use native.Mathlib.Omega.{arith}
use mathlib.Core.Path.{◌≡◌, refl, sym, ap, ◌∙◌}
use mathlib.Core.Logic.{◌⊎◌, inl, inr}
use mathlib.Core.List.Memᴰ
use mathlib.Core.List.{List, [], ◌∷◌, Memᴰ}
use lib.Dec.{leb, ltb, eqb}
use lib.ListN.{length, drop, get_or, length-take, length-drop}
use lib.Seq.{get_or-take, get_or-drop}
use borrow.Author.Tests.{leb-true, leb-false, ltb-true, ltb-false, eqb-true, eqb-false, ne_eqb}
use Rattle.rules_server.specs.Limits.{merge_gap}
use Rattle.rules_server.specs.Texts.{crlf}
use Rattle.rules_server.specs.Status.{Resource}
use Rattle.rules_server.specs.Answers.{Cell, own, from, own_then, from_then, data_of, part_head, closing, multipart_body, plain_answer, multipart_answer}
use Rattle.rules_server.specs.Answers.{partial_answer}
use Rattle.rules_server.specs.declared.Run.{Run}
use Rattle.rules_demands.specs.Positions.{positions, times, Each, Pairs, RunIn, In, Covers}
use Rattle.laws_server.proofs.Runs.{tested, Apart, apart_in, each_map}
use Rattle.laws_server.proofs.Covering.{covers_each}

-- the framing's own bytes carry no position
pub positions_own : (l : List ℕ) (rest : List Cell) → positions (own_then l rest) ≡ positions rest
positions_own [] rest = refl
positions_own (b ∷ l) rest = positions_own l rest

-- what follows the file's bytes counts by its positions alone
pub positions-from : (a : ℕ) (l : List ℕ) (c d : List Cell) → positions c ≡ positions d → positions (from_then a l c) ≡ positions (from_then a l d)
positions-from a [] c d e = e
positions-from a (b ∷ l) c d e = ap (λ (x : List ℕ). a ∷ x) (positions-from (suc a) l c d e)

-- bytes from position a on carry the positions from a on, and then come those of the rest
pub mem_from : (p a : ℕ) (l : List ℕ) (rest : List Cell) → Memᴰ p (positions (from_then a l rest))
    → ((a ≤ p) × (p < a + length l)) ⊎ Memᴰ p (positions rest)
mem_from p a [] rest m = inr m
mem_from p a (b ∷ l) rest m = go (Memᴰ.cases_cons m) (mem_from p (suc a) l rest)
  where
    next : ((suc a ≤ p) × (p < suc a + length l)) ⊎ Memᴰ p (positions rest) → ((a ≤ p) × (p < a + suc (length l))) ⊎ Memᴰ p (positions rest)
    next (inl h) = inl (omega arith, omega arith)
    next (inr m) = inr m

    go : (p ≡ a) ⊎ Memᴰ p (positions (from_then (suc a) l rest))
        → (Memᴰ p (positions (from_then (suc a) l rest)) → ((suc a ≤ p) × (p < suc a + length l)) ⊎ Memᴰ p (positions rest))
        → ((a ≤ p) × (p < a + suc (length l))) ⊎ Memᴰ p (positions rest)
    go (inl e) rec = inl (omega arith, omega arith)
    go (inr m) rec = next (rec m)

-- and the other way
pub from_mem : (p a : ℕ) (l : List ℕ) (rest : List Cell) → ((a ≤ p) × (p < a + length l)) ⊎ Memᴰ p (positions rest)
    → Memᴰ p (positions (from_then a l rest))
from_mem p a [] rest (inl h) = absurd (omega arith)
from_mem p a [] rest (inr m) = m
from_mem p a (b ∷ l) rest (inl h) =
    tested (eqb a p) (λ t. Memᴰ.head (sym (eqb-true a p t)))
    (λ t. let k = eqb-false a p t in Memᴰ.tail (from_mem p (suc a) l rest (inl (omega arith, omega arith))))
from_mem p a (b ∷ l) rest (inr m) = Memᴰ.tail (from_mem p (suc a) l rest (inr m))

-- bytes from position a on carry no position outside them
pub times_out : (p a : ℕ) (l : List ℕ) (rest : List Cell) → (p < a) ⊎ (a + length l ≤ p) → times p (positions (from_then a l rest)) ≡ times p (positions rest)
times_out p a [] rest h = refl
times_out p a (b ∷ l) rest (inl h) = rw (ne_eqb a p (omega arith)) (times_out p (suc a) l rest (inl (omega arith)))
times_out p a (b ∷ l) rest (inr h) = rw (ne_eqb a p (omega arith)) (times_out p (suc a) l rest (inr (omega arith)))

-- and each of theirs once
pub times_in : (p a : ℕ) (l : List ℕ) (rest : List Cell) → a ≤ p → p < a + length l → times p (positions (from_then a l rest)) ≡ suc (times p (positions rest))
times_in p a [] rest h k = absurd (omega arith)
times_in p a (b ∷ l) rest h k =
    tested (eqb a p) (λ t. let e = eqb-true a p t in rw t (ap suc (times_out p (suc a) l rest (inl (omega arith)))))
    (λ t. let e = eqb-false a p t in rw t (times_in p (suc a) l rest (omega arith) (omega arith)))

-- the data of a run has a byte for each of its positions
pub length_data : (file : List ℕ) (r : Run) → RunIn (length file) r → r.first + length (data_of file r) ≡ suc r.last
length_data file r h = simp (length-take, length-drop) (omega arith)

-- the positions of the parts' bodies are those that the parts cover
pub body_covered : (f : Resource) (p : ℕ) (rs : List Run) → Each (RunIn (length f.file)) rs → Memᴰ p (positions (multipart_body f rs)) → Covers p rs
body_covered f p [] o m = absurd (Memᴰ.not-nil (rw positions_own at m))
body_covered f p (r ∷ rs) o m = go (mem_from p r.first (data_of f.file r) (own_then crlf (multipart_body f rs)) (rw positions_own at m))
    (body_covered f p rs o.1)
  where
    go : ((r.first ≤ p) × (p < r.first + length (data_of f.file r))) ⊎ Memᴰ p (positions (own_then crlf (multipart_body f rs)))
        → (Memᴰ p (positions (multipart_body f rs)) → Covers p rs) → Covers p (r ∷ rs)
    go (inl h) rest = let e = length_data f.file r o.0 in inl (omega arith, omega arith)
    go (inr m) rest = inr (rest (rw positions_own at m))

-- and the other way
pub covered_body : (f : Resource) (p : ℕ) (rs : List Run) → Each (RunIn (length f.file)) rs → Covers p rs → Memᴰ p (positions (multipart_body f rs))
covered_body f p [] o c = absurd c
covered_body f p (r ∷ rs) o (inl i) =
    let e = length_data f.file r o.0 in
    rw positions_own (from_mem p r.first (data_of f.file r) (own_then crlf (multipart_body f rs)) (inl (omega arith, omega arith)))
covered_body f p (r ∷ rs) o (inr c) =
    rw positions_own (from_mem p r.first (data_of f.file r) (own_then crlf (multipart_body f rs)) (inr (rw positions_own (covered_body f p rs o.1 c))))

-- a position of the part stands once more in its body than in those behind it
part_in_lem : (f : Resource) (p : ℕ) (r : Run) (rs : List Run) → RunIn (length f.file) r → In p r
    → times p (positions (multipart_body f (r ∷ rs))) ≡ suc (times p (positions (multipart_body f rs)))
part_in_lem f p r rs o i =
    let e = length_data f.file r o in
    rw positions_own (times_in p r.first (data_of f.file r) (own_then crlf (multipart_body f rs)) (omega arith) (omega arith) ∙ rw positions_own refl)

-- any other does not
part_out : (f : Resource) (p : ℕ) (r : Run) (rs : List Run) → RunIn (length f.file) r → (In p r → ⊥)
    → times p (positions (multipart_body f (r ∷ rs))) ≡ times p (positions (multipart_body f rs))
part_out f p r rs o h = rw positions_own (times_out p r.first (data_of f.file r) (own_then crlf (multipart_body f rs)) outside ∙ rw positions_own refl)
  where
    outside : (p < r.first) ⊎ (r.first + length (data_of f.file r) ≤ p)
    outside =
        let e = length_data f.file r o in
        tested (ltb p r.first) (λ t. inl (ltb-true _ _ t))
        (λ t. let k = ltb-false p r.first t in
        tested (leb p r.last) (λ u. absurd (h (k, leb-true _ _ u))) (λ u. let l = leb-false p r.last u in inr (omega arith)))

-- p lies in the run, or it does not
in_or_not : {A : Type 0} (p : ℕ) (r : Run) → (In p r → A) → ((In p r → ⊥) → A) → A
in_or_not p r t f =
    tested (leb r.first p)
    (λ x. tested (leb p r.last) (λ y. t (leb-true _ _ x, leb-true _ _ y)) (λ y. let l = leb-false p r.last y in f (λ i. omega arith)))
    (λ x. let l = leb-false r.first p x in f (λ i. omega arith))

-- a position that no part covers is not sent
pub body_none : (f : Resource) (p : ℕ) (rs : List Run) → Each (RunIn (length f.file)) rs → (Covers p rs → ⊥) → times p (positions (multipart_body f rs)) ≡ 0
body_none f p [] o h = rw positions_own refl
body_none f p (r ∷ rs) o h = part_out f p r rs o.0 (λ i. h (inl i)) ∙ body_none f p rs o.1 (λ c. h (inr c))

-- parts that are apart send each position once
pub body_once : (f : Resource) (p : ℕ) (rs : List Run) → Each (RunIn (length f.file)) rs → Pairs (Apart merge_gap) rs
    → times p (positions (multipart_body f rs)) ≤ 1
body_once f p [] o ps = omega (arith, body_none f p [] o (λ c. c))
body_once f p (r ∷ rs) o ps =
    in_or_not p r
    (λ i. omega (
      arith,
      part_in_lem f p r rs o.0 i,
      body_none f p rs o.1
          (λ c. covers_each ⊥ p rs c (each_map rs (λ (q : Run) (a : Apart merge_gap r q) (j : In p q). apart_in merge_gap p r q a i j) ps.0)),
    ))
    (λ h. omega (arith, part_out f p r rs o.0 h, body_once f p rs o.1 ps.1))

-- a cell of the file among the framing's own bytes stands behind them
pub cell_own : (p b : ℕ) (l : List ℕ) (rest : List Cell) → Memᴰ (from p b) (own_then l rest) → Memᴰ (from p b) rest
cell_own p b [] rest m = m
cell_own p b (x ∷ l) rest m = go (Memᴰ.cases_cons m) (cell_own p b l rest)
  where
    go : (from p b ≡ own x) ⊎ Memᴰ (from p b) (own_then l rest) → (Memᴰ (from p b) (own_then l rest) → Memᴰ (from p b) rest)
        → Memᴰ (from p b) rest
    go (inl e) rec = absurd (let z : ◌≡◌ {A = ℕ} 0 1 = cc in omega arith)
    go (inr m) rec = rec m

-- the byte of a list that starts at position a
pub record ByteAt (p b a : ℕ) (l : List ℕ) : Type 0 where
  pub index : ℕ
  pub inside : index < length l
  pub place : p ≡ a + index
  pub byte : b ≡ get_or l index 0

-- a cell of the file is one of the bytes from a on, or of the rest
pub cell_from : (p b a : ℕ) (l : List ℕ) (rest : List Cell) → Memᴰ (from p b) (from_then a l rest) → ByteAt p b a l ⊎ Memᴰ (from p b) rest
cell_from p b a [] rest m = inr m
cell_from p b a (x ∷ l) rest m = go (Memᴰ.cases_cons m) (cell_from p b (suc a) l rest)
  where
    next : ByteAt p b (suc a) l ⊎ Memᴰ (from p b) rest → ByteAt p b a (x ∷ l) ⊎ Memᴰ (from p b) rest
    next (inl h) = inl (record { index = suc h.index; inside = omega arith; place = omega arith; byte = h.byte })
    next (inr m) = inr m

    go : (from p b ≡ from a x) ⊎ Memᴰ (from p b) (from_then (suc a) l rest)
        → (Memᴰ (from p b) (from_then (suc a) l rest) → ByteAt p b (suc a) l ⊎ Memᴰ (from p b) rest) → ByteAt p b a (x ∷ l) ⊎ Memᴰ (from p b) rest
    go (inl e) rec = let k : p ≡ a = cc in let j : b ≡ x = cc in inl (record { index = 0; inside = omega arith; place = omega arith; byte = j })
    go (inr m) rec = next (rec m)

-- b is the file's byte at position p
abbrev pub Right : List ℕ → ℕ → ℕ → Type 0
Right file p b = (p < length file) × (b ≡ get_or file p 0)

-- a byte of a run's data is the file's at its position
pub data_right : (file : List ℕ) (r : Run) (p b : ℕ) → ByteAt p b r.first (data_of file r) → Right file p b
data_right file r p b h =
    let l = simp (length-take, length-drop) at h.inside in (
      omega arith,
      h.byte ∙ get_or-take (suc r.last - r.first) (drop r.first file) h.index 0 (omega arith) ∙ get_or-drop r.first file h.index 0
          ∙ ap (λ (i : ℕ). get_or file i 0) (sym h.place),
    )

-- so each byte of the parts' bodies is
pub body_right : (f : Resource) (p b : ℕ) (rs : List Run) → Memᴰ (from p b) (multipart_body f rs) → Right f.file p b
body_right f p b [] m = absurd (Memᴰ.not-nil (cell_own p b (closing f.boundary) [] m))
body_right f p b (r ∷ rs) m =
    go (cell_from p b r.first (data_of f.file r) (own_then crlf (multipart_body f rs))
    (cell_own p b (part_head f.boundary f.media (length f.file) r) _ m)) (body_right f p b rs)
  where
    go : ByteAt p b r.first (data_of f.file r) ⊎ Memᴰ (from p b) (own_then crlf (multipart_body f rs))
        → (Memᴰ (from p b) (multipart_body f rs) → Right f.file p b) → Right f.file p b
    go (inl h) rest = data_right f.file r p b h
    go (inr m) rest = rest (cell_own p b crlf (multipart_body f rs) m)

-- the plain body of one part
pub plain_right : (f : Resource) (p b : ℕ) (r : Run) → Memᴰ (from p b) (from_then r.first (data_of f.file r) []) → Right f.file p b
plain_right f p b r m = go (cell_from p b r.first (data_of f.file r) [] m)
  where
    go : ByteAt p b r.first (data_of f.file r) ⊎ Memᴰ (from p b) [] → Right f.file p b
    go (inl h) = data_right f.file r p b h
    go (inr m) = absurd (Memᴰ.not-nil m)

-- a 206's body carries the positions of the multipart's, plain or not
pub partial-positions : (f : Resource) (rs : List Run) → positions (partial_answer f rs).body ≡ positions (multipart_body f rs)
unfolding plain_answer multipart_answer
partial-positions f [] = refl
partial-positions f (r ∷ []) =
    positions-from r.first (data_of f.file r) [] (own_then crlf (multipart_body f []))
    (sym (positions_own crlf (multipart_body f []) ∙ positions_own (closing f.boundary) []))
    ∙ sym (positions_own (part_head f.boundary f.media (length f.file) r) _)
partial-positions f (r ∷ s ∷ rs) = refl

-- and its bytes are the file's
pub partial_right : (f : Resource) (p b : ℕ) (rs : List Run) → Memᴰ (from p b) (partial_answer f rs).body → Right f.file p b
unfolding plain_answer multipart_answer
partial_right f p b [] m = body_right f p b [] m
partial_right f p b (r ∷ []) m = plain_right f p b r m
partial_right f p b (r ∷ s ∷ rs) m = body_right f p b (r ∷ s ∷ rs) m
