-- The lines one after another, as the loop counts them.
-- Assumes nothing.
use Prim.Native.Nat.{ℕ, zero, suc, ◌+◌, ◌-◌, ◌≤◌, ◌<◌}
use native.Mathlib.Omega.{arith}
use mathlib.Core.Path.{◌≡◌, refl, sym, ap, ◌∙◌}
use mathlib.Core.Bool.{Bool, true, false, ◌&&◌, and-false, and-eq-true_iff, false≢true}
use mathlib.Core.List.{List, [], ◌∷◌, ◌++◌}
use lib.Dec.{leb, eqb}
use lib.ListN.{length, drop, length-append, length-drop}
use lib.Seq.{drop-drop}
use borrow.Author.Tests.{eqb-true, leb-true}
use Rattle.rules_server.specs.Octets.{starts_with}
use Rattle.rules_server.specs.Texts.{crlf}
use Rattle.rules_tablet.specs.Limits.{max_line}
use Rattle.rules_tablet.specs.Fields.{is_field, name_of, kind_of}
use Rattle.std.specs.Prelude.{None, Some}
use Rattle.reader_head.specs.Lines.{line_at, is_other, is_other_line, some_bytes, other_line, other_lines}
use Rattle.reader_head.specs.declared.uncounted_fields.OtherLines.{OtherLines}
use Rattle.reader_head.proofs.uncounted_fields.Runs.{line_split}

-- CR LF at the front
pub ends : (d : List ℕ) → starts_with crlf d ≡ true → d ≡ 13 ∷ 10 ∷ drop 2 d
ends [] e = absurd (false≢true e)
ends (x ∷ []) e = absurd (false≢true (sym (and-false (eqb 13 x)) ∙ e))
ends (x ∷ y ∷ d) e =
    let f = (and-eq-true_iff (eqb 13 x) (eqb 10 y && true)).0 e in
    let g = (and-eq-true_iff (eqb 10 y) true).0 f.1 in
    rw (← eqb-true 13 x f.0, ← eqb-true 10 y g.0)

-- what such a line is
pub record Line (l : List ℕ) : Type 0 where
  pub few : length (line_at l) ≤ max_line
  pub field : is_field (line_at l) ≡ true
  pub name : is_other (kind_of (name_of (line_at l))) ≡ true
  pub ended : l ≡ line_at l ++ (13 ∷ 10 ∷ drop 2 (drop (length (line_at l)) l))
  pub size : other_line l ≡ length (line_at l) + 2

pub line_is : (l : List ℕ) → (other_line l ≡ 0 → ⊥) → Line l
unfolding other_line
line_is l n = go (is_other_line (line_at l) && starts_with crlf (drop (length (line_at l)) l)) refl where
  go : (b : Bool) → (is_other_line (line_at l) && starts_with crlf (drop (length (line_at l)) l)) ≡ b → Line l
  go false e = absurd (n (rw e))
  go true e =
      let a = (and-eq-true_iff (is_other_line (line_at l)) (starts_with crlf (drop (length (line_at l)) l))).0 e in
      let b = (and-eq-true_iff (leb (length (line_at l)) max_line && is_field (line_at l)) (is_other (kind_of (name_of (line_at l))))).0 a.0 in
      let c = (and-eq-true_iff (leb (length (line_at l)) max_line) (is_field (line_at l))).0 b.0 in
      record {
        few = leb-true (length (line_at l)) max_line c.0;
        field = c.1;
        name = b.1;
        ended = sym (line_split l) ∙ ap (λ (d : List ℕ). line_at l ++ d) (ends (drop (length (line_at l)) l) a.1);
        size = rw e;
      }

-- it lies in the piece
pub line-within : (l : List ℕ) → other_line l ≤ length l
line-within l = go (other_line l) refl where
  go : (k : ℕ) → other_line l ≡ k → other_line l ≤ length l
  go zero e = omega arith
  go (suc k) e =
      let w = line_is l (λ z. omega arith) in
      omega (arith, w.size, simp length-append at (ap length w.ended))

-- so many lines and bytes before others
abbrev pub plus : ℕ → ℕ → OtherLines → OtherLines
plus i k o = record { lines = i + o.lines; taken = k + o.taken }

pub lines_end : (m : ℕ) (l : List ℕ) → other_line l ≡ 0 → other_lines (suc m) l ≡ record { lines = 0; taken = 0 }
unfolding other_lines
lines_end m l e = rw e

pub lines_on : (m : ℕ) (l : List ℕ) (k : ℕ) → other_line l ≡ k → (k ≡ 0 → ⊥) → other_lines (suc m) l ≡ plus 1 k (other_lines m (drop k l))
unfolding other_lines
lines_on m l zero e n = absurd (n refl)
lines_on m l (suc k) e n =
    let s : suc (other_lines m (drop (suc k) l)).lines ≡ 1 + (other_lines m (drop (suc k) l)).lines = omega arith in
    rw e (λ i. record { lines = s i; taken = suc k + (other_lines m (drop (suc k) l)).taken })

-- counts are the same by their numbers
same_counts : (a b c d : ℕ) → a ≡ c → b ≡ d → ◌≡◌ {A = OtherLines} (record { lines = a; taken = b }) (record { lines = c; taken = d })
same_counts a b c d e f = λ i. record { lines = e i; taken = f i }

-- the loop behind i lines of k bytes
module _ (m : ℕ) (l : List ℕ) (i k j : ℕ) (u : i < m) (e : j ≡ other_line (drop k l)) where
  left : m - i ≡ suc (m - (i + 1))
  left = omega arith

  -- no line is next
  pub count_end : j ≡ 0 → other_lines m l ≡ plus i k (other_lines (m - i) (drop k l)) → record { lines = i; taken = k } ≡ other_lines m l
  count_end z h =
      sym
      (h
      ∙ ap (λ (x : ℕ). plus i k (other_lines x (drop k l))) left
      ∙ ap (plus i k) (lines_end (m - (i + 1)) (drop k l) (sym e ∙ z))
      ∙ same_counts (i + 0) (k + 0) i k (omega arith) (omega arith))

  -- a line is next
  pub count_on : (j ≡ 0 → ⊥) → other_lines m l ≡ plus i k (other_lines (m - i) (drop k l))
      → other_lines m l ≡ plus (i + 1) (k + j) (other_lines (m - (i + 1)) (drop (k + j) l))
  count_on n h =
      let o = other_lines (m - (i + 1)) (drop (k + j) l) in
      h
      ∙ ap (λ (x : ℕ). plus i k (other_lines x (drop k l))) left
      ∙ ap (plus i k) (lines_on (m - (i + 1)) (drop k l) j (sym e) n)
      ∙ ap (λ (x : List ℕ). plus i k (plus 1 j (other_lines (m - (i + 1)) x))) (drop-drop j k l)
      ∙ same_counts (i + (1 + o.lines)) (k + (j + o.taken)) (i + 1 + o.lines) (k + j + o.taken) (omega arith) (omega arith)

-- as many lines as may come
pub count_full : (m : ℕ) (l : List ℕ) (i k : ℕ) → m ≤ i → other_lines m l ≡ plus i k (other_lines (m - i) (drop k l))
    → record { lines = i; taken = k } ≡ other_lines m l
unfolding other_lines
count_full m l i k u h =
    let z : m - i ≡ 0 = omega arith in
    sym (h ∙ ap (λ (x : ℕ). plus i k (other_lines x (drop k l))) z ∙ same_counts (i + 0) (k + 0) i k (omega arith) (omega arith))

-- the line that is next lies in the piece
pub taken_within : (l : List ℕ) (k j : ℕ) → k ≤ length l → j ≡ other_line (drop k l) → k + j ≤ length l
taken_within l k j u e = omega (arith, e, line-within (drop k l), length-drop k l)

-- the lines lie in the piece, and are no more than may come
pub lines-within : (m : ℕ) (l : List ℕ) → (other_lines m l).taken ≤ length l
unfolding other_lines
lines-within zero l = omega arith
lines-within (suc m) l = go (other_line l) refl (lines-within m (drop (other_line l) l)) where
  go : (k : ℕ) → other_line l ≡ k → (other_lines m (drop (other_line l) l)).taken ≤ length (drop (other_line l) l) → (other_lines (suc m) l).taken ≤ length l
  go zero e h = rw (lines_end m l e) (omega arith)
  go (suc k) e h =
      let s = length-drop (other_line l) l in
      let w = line-within l in
      rw (lines_on m l (other_line l) refl (λ z. omega arith)) (omega arith)

pub lines_few : (m : ℕ) (l : List ℕ) → (other_lines m l).lines ≤ m
unfolding other_lines
lines_few zero l = omega arith
lines_few (suc m) l = go (other_line l) refl (lines_few m (drop (other_line l) l)) where
  go : (k : ℕ) → other_line l ≡ k → (other_lines m (drop (other_line l) l)).lines ≤ m → (other_lines (suc m) l).lines ≤ suc m
  go zero e h = rw (lines_end m l e) (omega arith)
  go (suc k) e h = rw (lines_on m l (other_line l) refl (λ z. omega arith)) (omega arith)

-- no bytes
pub none_bytes : (k : ℕ) → None ≡ some_bytes k → k ≡ 0
none_bytes zero e = refl
none_bytes (suc k) e = absurd (cc)

-- some bytes
pub some_bytes_lem : (k j : ℕ) → Some j ≡ some_bytes k → (j ≡ k) × (j ≡ 0 → ⊥)
some_bytes_lem zero j e = absurd (cc)
some_bytes_lem (suc k) j e = let h : j ≡ suc k = cc in (h, λ z. omega arith)
