-- A delimiter's line that lies whole at the front of a piece: CR LF `--` boundary CR LF.
-- Assumes nothing.
use Prim.Native.Nat.{ℕ, zero, suc, ◌+◌, ◌≤◌, ◌<◌}
use native.Mathlib.Omega.{arith}
use mathlib.Core.Bool.{Bool, true, false, cond, ◌&&◌, false≢true}
use mathlib.Core.List.{List, [], ◌∷◌, ◌++◌}
use mathlib.Core.Path.{◌≡◌, refl, ap, ◌∙◌}
use lib.Dec.{eqb}
use lib.ListN.{length, get_or, drop, drop_of_length-le}
use lib.Seq.{drop-cons, drop-drop}
use borrow.Author.Tests.{lt-ltb, eq-eqb, ne_eqb, eqb-true}
use Rattle.rules_server.specs.Octets.{starts_with}
use Rattle.rules_server.specs.Answers.{dash_boundary}
use Rattle.rules_server.specs.Texts.{crlf}
use Rattle.rules_tablet.specs.declared.Stage.{Stage}
use Rattle.rules_tablet.specs.declared.Stage.TheVariants.{Delimiter, AfterDelimiter, PartLine}
use Rattle.reader_multipart.specs.Passing.{counted, pass_on}
use Rattle.reader_multipart.specs.declared.delimiters.Passed.{Passed}
use Rattle.reader_multipart.proofs.delimiters.Loops.{onward_known}

-- behind so many bytes
abbrev passed : Stage → ℕ → ℕ → Passed
passed s after taken = record { stage = s; after = after; taken = taken }

module _ (d : List ℕ) where
  abbrev delimiter : List ℕ
  delimiter = crlf ++ dash_boundary d

  -- a byte of the delimiter, with one more counted
  step : (i a t : ℕ) (l : List ℕ) → i < length delimiter
      → pass_on (passed (Delimiter i) (suc a) t) d (get_or delimiter i 0 ∷ l) ≡ pass_on
      (passed (cond (eqb (suc i) (length delimiter)) AfterDelimiter (Delimiter (suc i))) a (suc t)) d l
  step i a t l u =
      onward_known (passed (Delimiter i) (suc a) t) d (get_or delimiter i 0) l
      (passed (cond (eqb (suc i) (length delimiter)) AfterDelimiter (Delimiter (suc i))) a 1)
      (rw (lt-ltb i (length delimiter) u, eq-eqb (get_or delimiter i 0) (get_or delimiter i 0) refl) (go (eqb (suc i) (length delimiter))))
    where
      go : (q : Bool) → passed (cond q AfterDelimiter (Delimiter (suc i))) a 1 ≡ counted (suc a) (cond q AfterDelimiter (Delimiter (suc i)))
      go true = refl
      go false = refl

  -- its bytes from i on
  marks : (m i a k t : ℕ) (l : List ℕ) → i + suc m ≡ length delimiter → k ≡ suc (m + a)
      → pass_on (passed (Delimiter i) k t) d (drop i delimiter ++ l) ≡ pass_on (passed AfterDelimiter a (t + suc m)) d l
  marks zero i a k t l e f =
      let u : i < length delimiter = omega arith in
      let z : suc i ≡ length delimiter = omega arith in
      let c : k ≡ suc a = omega arith in
      let n : suc t ≡ t + 1 = omega arith in
      let v : length delimiter ≤ suc i = omega arith in
      rw (drop-cons delimiter i 0 u, drop_of_length-le delimiter v, c)
      (step i a t l u ∙ rw (eq-eqb (suc i) (length delimiter) z) (ap (λ (x : ℕ). pass_on (passed AfterDelimiter a x) d l) n))
  marks (suc m) i a k t l e f =
      let u : i < length delimiter = omega arith in
      let c : k ≡ suc (suc (m + a)) = omega arith in
      let n : suc t + suc m ≡ t + suc (suc m) = omega arith in
      rw (drop-cons delimiter i 0 u, c)
      (step i (suc (m + a)) t (drop (suc i) delimiter ++ l) u
      ∙ rw (ne_eqb (suc i) (length delimiter) (λ z. omega arith))
      (marks m (suc i) a (suc (m + a)) (suc t) l (omega arith) refl ∙ ap (λ (x : ℕ). pass_on (passed AfterDelimiter a x) d l) n))

  -- none is passed in a part's lines
  stops : (a t : ℕ) (l : List ℕ) → pass_on (passed PartLine a (suc t)) d l ≡ passed PartLine a (suc t)
  stops a t [] = refl
  stops a t (b ∷ l) = rw (ne_eqb (suc t) 0 (λ z. omega arith))

  -- the whole line
  pub whole-line : (a k : ℕ) (rest : List ℕ) → k ≡ length d + 6 + a
      → pass_on (passed (Delimiter 0) k 0) d (delimiter ++ (13 ∷ 10 ∷ rest)) ≡ passed PartLine a (length d + 6)
  whole-line a k rest e =
      let n : suc (suc (suc (length d + 3))) ≡ length d + 6 = omega arith in
      let z : 0 + suc (length d + 3) ≡ suc (length d + 3) = omega arith in
      marks (length d + 3) 0 (suc (suc a)) k 0 (13 ∷ 10 ∷ rest) (omega arith) (omega arith)
      ∙ ap (λ (x : ℕ). pass_on (passed AfterDelimiter (suc (suc a)) x) d (13 ∷ 10 ∷ rest)) z
      ∙ stops a (suc (suc (length d + 3))) rest
      ∙ ap (passed PartLine a) n

-- what begins with a text is the text and what follows
starts_front : (p l : List ℕ) → starts_with p l ≡ true → l ≡ p ++ drop (length p) l
starts_front [] l e = refl
starts_front (x ∷ p) [] e = absurd (false≢true e)
starts_front (x ∷ p) (y ∷ l) e = go (eqb x y) refl e (starts_front p l)
  where
    go : (q : Bool) → eqb x y ≡ q → (q && starts_with p l) ≡ true → (starts_with p l ≡ true → l ≡ p ++ drop (length p) l)
        → ◌≡◌ {A = List ℕ} (y ∷ l) (x ∷ (p ++ drop (length p) l))
    go true h e f = rw (eqb-true x y h) (ap (λ (z : List ℕ). y ∷ z) (f e))
    go false h e f = absurd (false≢true e)

-- a piece that begins with CR LF `--`, the boundary and CR LF
pub line_ahead : (d piece : List ℕ) → starts_with (13 ∷ 10 ∷ 45 ∷ 45 ∷ []) piece ≡ true → starts_with d (drop 4 piece) ≡ true
    → starts_with (13 ∷ 10 ∷ []) (drop (length d + 4) piece) ≡ true
    → piece ≡ (crlf ++ dash_boundary d) ++ (13 ∷ 10 ∷ drop (length d + 6) piece)
line_ahead d piece e f g =
    let h : (length d + 4) + 2 ≡ length d + 6 = omega arith in
    let k : 4 + length d ≡ length d + 4 = omega arith in
    let two : drop 2 (drop (length d + 4) piece) ≡ drop (length d + 6) piece = drop-drop 2 (length d + 4) piece ∙ ap (λ (x : ℕ). drop x piece) h in
    let back : drop (length d) (drop 4 piece) ≡ drop (length d + 4) piece = drop-drop (length d) 4 piece ∙ ap (λ (x : ℕ). drop x piece) k in
    let last = starts_front (13 ∷ 10 ∷ []) (drop (length d + 4) piece) g ∙ ap (λ (z : List ℕ). 13 ∷ 10 ∷ z) two in
    starts_front (13 ∷ 10 ∷ 45 ∷ 45 ∷ []) piece e
    ∙ ap (λ (z : List ℕ). 13 ∷ 10 ∷ 45 ∷ 45 ∷ z) (starts_front d (drop 4 piece) f ∙ ap (λ (z : List ℕ). d ++ z) (back ∙ last))
