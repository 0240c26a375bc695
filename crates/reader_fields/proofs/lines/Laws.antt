-- What the definitions of lines say in the order of the code's tests.
use Prim.Native.Nat.compare
use Prim.Native.Nat.{ℕ, zero, suc, ◌+◌, ◌≤◌, ◌<◌}
use native.Mathlib.Omega.{arith}
use mathlib.Core.Bool.{Bool, true, false, not, cond, ◌&&◌, and-true, and-false, and-eq-true_iff, false≢true}
use mathlib.Core.List.{List, [], ◌∷◌}
use mathlib.Core.Path.{◌≡◌, refl, sym, ap, ◌∙◌}
use Rattle.std.specs.Prelude.{Option, None, Some, position}
use Rattle.std.specs.List.{prefix_len}
use borrow.Author.Tests.{lt-ltb, ltb-true, ltb-false, eqb-true}
use lib.Dec.{eqb, ltb}
use lib.ListN.{length, get_or, take, drop}
use lib.Seq.{length-take-le}
use Rattle.rules_server.specs.Octets.{is_nil, all, before}
use Rattle.octets.proofs.strings.Laws.{not_nil, drop-next, drop_end}
use Rattle.rules_tablet.specs.Fields.{is_field, name_of}
use Rattle.rules_tablet.specs.Lines.{is_token_byte}
use Rattle.reader_fields.specs.Lines.{token_at}

-- how many bytes stand before the first c, by the place of it
pub before-length : (c : ℕ) (l : List ℕ) (e : ℕ) → e ≤ length l → take e l ≡ before c l → length (before c l) ≡ e
before-length c l e h b = ap length (sym b) ∙ length-take-le e l h

-- of a line with a colon at e the name is left to test
pub field_rest : (l : List ℕ) (e : ℕ) → e < length l → take e l ≡ before 58 l → is_field l ≡ (not (is_nil (take e l)) && all is_token_byte (take e l))
unfolding is_field
field_rest l e h b = rw (before-length 58 l e (omega arith) b, lt-ltb e (length l) h, ← b)

-- the place of a colon behind bytes of a token is that of a field's where some byte stands before it
colon-place : (l : List ℕ) (e : ℕ) → e < length l → take e l ≡ before 58 l → all is_token_byte (take e l) ≡ true
    → cond (ltb 0 e) (Some e) None ≡ cond (is_field l) (Some (length (before 58 l))) None
colon-place l zero u b a = let f : is_field l ≡ false = rw (field_rest l 0 u b) in rw f
colon-place l (suc e) u b a =
    let some = not_nil (take (suc e) l) (λ z. omega (arith, length-take-le (suc e) l (omega arith))) in
    let f : is_field l ≡ true = rw (field_rest l (suc e) u b, some, a) in
    rw (f, lt-ltb 0 (suc e) (omega arith), before-length 58 l (suc e) (omega arith) b)

-- a colon is next
abbrev colon-next : List ℕ → Bool
colon-next [] = false
colon-next (x ∷ l) = eqb x 58

-- a name of a token has a colon behind it where one is next behind the token at the front
token_colon : (l : List ℕ) → (ltb (length (before 58 l)) (length l) && all is_token_byte (before 58 l)) ≡ colon-next (drop (length (token_at l)) l)
token_colon [] = refl
token_colon (x ∷ l) = go (eqb x 58) (is_token_byte x) refl refl (token_colon l) where
  go : (b t : Bool) → eqb x 58 ≡ b → is_token_byte x ≡ t
      → (ltb (length (before 58 l)) (length l) && all is_token_byte (before 58 l)) ≡ colon-next (drop (length (token_at l)) l)
      → (ltb (length (before 58 (x ∷ l))) (length (x ∷ l)) && all is_token_byte (before 58 (x ∷ l))) ≡ colon-next (drop (length (token_at (x ∷ l))) (x ∷ l))
  go true t e f h = let v = eqb-true x 58 e in rw (v, lt-ltb 0 (suc (length l)) (omega arith))
  go false true e f h = rw (e, f, compare.suc-suc (suc (length (before 58 l))) (length l)) h
  go false false e f h = rw (e, f, and-false (ltb (suc (length (before 58 l))) (suc (length l))), e)

two_of_three : (a n b : Bool) → (a && b) ≡ false → (a && n && b) ≡ false
two_of_three true true b e = e
two_of_three true false b e = refl
two_of_three false n b e = refl

-- no field, by the byte behind the token
pub token_none : (l : List ℕ) → colon-next (drop (length (token_at l)) l) ≡ false → is_field l ≡ false
unfolding is_field
token_none l e = two_of_three (ltb (length (before 58 l)) (length l)) (not (is_nil (before 58 l))) (all is_token_byte (before 58 l)) (token_colon l ∙ e)

-- where a colon is next, the token is the name
pub token_name : (l : List ℕ) → colon-next (drop (length (token_at l)) l) ≡ true → token_at l ≡ before 58 l
token_name [] e = refl
token_name (x ∷ l) e = go (eqb x 58) (is_token_byte x) refl refl (token_name l) e where
  go : (b t : Bool) → eqb x 58 ≡ b → is_token_byte x ≡ t → (colon-next (drop (length (token_at l)) l) ≡ true → token_at l ≡ before 58 l)
      → colon-next (drop (length (token_at (x ∷ l))) (x ∷ l)) ≡ true → token_at (x ∷ l) ≡ before 58 (x ∷ l)
  go true t e f h n = let v = eqb-true x 58 e in rw v
  go false true e f h n = rw (e, f) (ap (λ (y : List ℕ). x ∷ y) (h (rw f at n)))
  go false false e f h n = absurd (false≢true (rw (f, e) at n))

pub token_all : (l : List ℕ) → all is_token_byte (token_at l) ≡ true
token_all [] = refl
token_all (x ∷ l) = go (is_token_byte x) refl (token_all l) where
  go : (b : Bool) → is_token_byte x ≡ b → all is_token_byte (token_at l) ≡ true → all is_token_byte (token_at (x ∷ l)) ≡ true
  go true e h = rw (e, h, e)
  go false e h = rw e

-- a front of the length of what stands before the first c
take-before : (c : ℕ) (l : List ℕ) → take (length (before c l)) l ≡ before c l
take-before c [] = refl
take-before c (x ∷ l) = go (eqb x c) refl (take-before c l) where
  go : (b : Bool) → eqb x c ≡ b → take (length (before c l)) l ≡ before c l → take (length (before c (x ∷ l))) (x ∷ l) ≡ before c (x ∷ l)
  go true e h = rw e
  go false e h = rw e (ap (λ (r : List ℕ). x ∷ r) h)

-- the first byte that may not stand in a token is behind the token at the front
token_len : (l : List ℕ) → prefix_len (λ b. not (not (is_token_byte b))) l ≡ length (token_at l)
token_len [] = refl
token_len (x ∷ l) = go (is_token_byte x) (token_len l) where
  go : (b : Bool) → prefix_len (λ b. not (not (is_token_byte b))) l ≡ length (token_at l)
      → cond (not (not b)) (1 + prefix_len (λ b. not (not (is_token_byte b))) l) 0 ≡ length (cond b (x ∷ token_at l) [])
  go true h = omega (arith, h)
  go false h = refl

-- the token at the front is a front
token_front : (l : List ℕ) → (length (token_at l) ≤ length l) × (take (length (token_at l)) l ≡ token_at l)
token_front [] = (omega arith, refl)
token_front (x ∷ l) = go (is_token_byte x) (token_front l) where
  go : (b : Bool) → (length (token_at l) ≤ length l) × (take (length (token_at l)) l ≡ token_at l)
      → (length (cond b (x ∷ token_at l) []) ≤ suc (length l)) × (take (length (cond b (x ∷ token_at l) [])) (x ∷ l) ≡ cond b (x ∷ token_at l) [])
  go true h = (omega (arith, h.0), ap (λ (t : List ℕ). x ∷ t) h.1)
  go false h = (omega arith, refl)

-- a colon at the place of the first byte that may not stand in a token, and some byte before it
abbrev pub colon_at : List ℕ → Option ℕ → Option ℕ
colon_at l None = None
colon_at l (Some k) = cond (ltb 0 k && eqb (get_or l k 0) 58) (Some k) None

-- it is the colon of a field, by where the token at the front ends
colon_by : (l : List ℕ) (k : ℕ) → k ≡ length (token_at l)
    → colon_at l (cond (ltb k (length l)) (Some k) None) ≡ cond (is_field l) (Some (length (name_of l))) None
colon_by l k n = go (ltb k (length l)) refl where
  next : (b : Bool) → eqb (get_or l k 0) 58 ≡ b → k < length l → ltb k (length l) ≡ true
      → colon_at l (cond (ltb k (length l)) (Some k) None) ≡ cond (is_field l) (Some (length (name_of l))) None
  next false q w e = rw (e, q, and-false (ltb 0 k), token_none l (rw (← n, drop-next l k w, q)))
  next true q w e =
      let name = token_name l (rw (← n, drop-next l k w, q)) in
      let front : take k l ≡ token_at l = rw n (token_front l).1 in
      rw (e, q, and-true (ltb 0 k)) (colon-place l k w (front ∙ name) (rw front (token_all l)))

  go : (b : Bool) → ltb k (length l) ≡ b → colon_at l (cond (ltb k (length l)) (Some k) None) ≡ cond (is_field l) (Some (length (name_of l))) None
  go true e = next (eqb (get_or l k 0) 58) refl (ltb-true k (length l) e) e
  go false e = rw (e, token_none l (rw (← n, drop_end l k (ltb-false k (length l) e))))

-- it is the colon of a field
pub colon_is : (l : List ℕ) → colon_at l (position (λ b. not (is_token_byte b)) l) ≡ cond (is_field l) (Some (length (name_of l))) None
colon_is l = colon_by l (prefix_len (λ b. not (not (is_token_byte b))) l) (token_len l)

-- what the place of a field's colon says
pub record Colon (l : List ℕ) (e : ℕ) : Type 0 where
  pub field : is_field l ≡ true
  pub within : e < length l
  pub name : take e l ≡ name_of l
  pub value : drop (suc e) l ≡ drop (suc (length (name_of l))) l

pub colon-field : (l : List ℕ) (e : ℕ) → Some e ≡ cond (is_field l) (Some (length (name_of l))) None → Colon l e
unfolding is_field
colon-field l e h = go (is_field l) refl where
  go : (b : Bool) → is_field l ≡ b → Colon l e
  go false f = let n : Some e ≡ None = h ∙ rw f in absurd (cc)
  go true f =
      let s : Some e ≡ Some (length (name_of l)) = h ∙ rw f in
      let m : e ≡ length (name_of l) = cc in
      let k = ((and-eq-true_iff (ltb (length (name_of l)) (length l) && not (is_nil (name_of l))) (all is_token_byte (name_of l))).0 f).0 in
      let u = ltb-true (length (name_of l)) (length l) ((and-eq-true_iff (ltb (length (name_of l)) (length l)) (not (is_nil (name_of l)))).0 k).0 in
      record { field = f; within = omega (arith, m, u); name = rw m (take-before 58 l); value = rw m }

-- where there is none, l is no field
pub colon-none : (l : List ℕ) → None ≡ cond (is_field l) (Some (length (name_of l))) None → is_field l ≡ false
colon-none l h = go (is_field l) refl where
  go : (b : Bool) → is_field l ≡ b → is_field l ≡ false
  go false f = f
  go true f = let n : None ≡ Some (length (name_of l)) = h ∙ rw f in absurd (cc)
