-- The name of the line at the front of a piece, and what its length says of it.
-- Assumes nothing.
use Prim.Native.Nat.{ℕ, suc, ◌+◌, ◌-◌, ◌≤◌, ◌<◌}
use native.Mathlib.Omega.{arith}
use native.Mathlib.Numerals.{add-one}
use mathlib.Core.Path.{◌≡◌, refl, sym, ap, ◌∙◌}
use mathlib.Core.Bool.{Bool, true, false, cond, not, ◌&&◌, ◌||◌, and-true, and-false, and-eq-true_iff, true≢false, false≢true}
use mathlib.Core.List.{List, [], ◌∷◌, ◌++◌}
use Rattle.std.specs.Prelude.{None, Some}
use lib.Dec.{leb, ltb, eqb}
use lib.ListN.{length, take, drop, length-append, length-drop}
use lib.Seq.{length-take-le}
use borrow.Author.Tests.{leb-true, leb-false, eqb-true, ne_eqb, lt-ltb, ltb-true}
use Rattle.rules_server.specs.Octets.{codes, all, is_nil, within, before, starts_with}
use Rattle.rules_server.specs.Texts.{crlf, etag_name, type_name, range_name, length_name}
use Rattle.rules_tablet.specs.Limits.{max_line}
use Rattle.rules_tablet.specs.Lines.{is_line_byte, is_token_byte}
use Rattle.rules_tablet.specs.Fields.{is_field, name_of, other, kind_of}
use Rattle.octets.proofs.Laws.{within_below, within_above, within-both}
use Rattle.octets.proofs.strings.Laws.{same_fold_unlike, part_to_end}
use Rattle.reader_fields.proofs.lines.Laws.{Colon, before-length}
use Rattle.reader_head.specs.Lines.{line_at, is_other, some_bytes, other_line}
use Rattle.reader_head.proofs.uncounted_fields.Runs.{line-front, line_split}

-- a name of another length than those that count
pub other_length : (name : List ℕ) → (eqb (length name) 4 || within 12 14 (length name) || eqb (length name) 17) ≡ false → kind_of name ≡ other
unfolding kind_of
other_length name h =
    rw (
      same_fold_unlike name etag_name (λ e. true≢false (rw e at h)),
      same_fold_unlike name type_name (λ e. true≢false (rw e at h)),
      same_fold_unlike name range_name (λ e. true≢false (rw e at h)),
      same_fold_unlike name length_name (λ e. true≢false (rw e at h)),
      same_fold_unlike name
          (codes "Transfer-Encoding") (λ e. true≢false (rw e at h)),
    )

-- a byte of a token may stand in a line
token_line : (b : ℕ) → is_token_byte b ≡ true → is_line_byte b ≡ true
token_line b t = low (leb 33 b) refl where
  high : (x : Bool) → leb b 126 ≡ x → 33 ≤ b → is_line_byte b ≡ true
  high true e u = rw (ne_eqb b 9 (omega arith), within-both 0x20 0x7E b (omega arith) (leb-true b 126 e))
  high false e u =
      let v = leb-false b 126 e in
      let none : is_token_byte b ≡ false =
      rw (
        within_above 48 57 b (omega arith),
        within_above 65 90 b (omega arith),
        within_above 97 122 b (omega arith),
        ne_eqb b 33 (omega arith),
        within_above 35 39 b (omega arith),
        ne_eqb b 42 (omega arith),
        ne_eqb b 43 (omega arith),
        ne_eqb b 45 (omega arith),
        ne_eqb b 46 (omega arith),
        within_above 94 96 b (omega arith),
        ne_eqb b 124 (omega arith),
        ne_eqb b 126 (omega arith),
      ) in
      absurd (false≢true (sym none ∙ t))

  low : (x : Bool) → leb 33 b ≡ x → is_line_byte b ≡ true
  low true e = high (leb b 126) refl (leb-true 33 b e)
  low false e =
      let v = leb-false 33 b e in
      let none : is_token_byte b ≡ false =
      rw (
        within_below 48 57 b (omega arith),
        within_below 65 90 b (omega arith),
        within_below 97 122 b (omega arith),
        ne_eqb b 33 (omega arith),
        within_below 35 39 b (omega arith),
        ne_eqb b 42 (omega arith),
        ne_eqb b 43 (omega arith),
        ne_eqb b 45 (omega arith),
        ne_eqb b 46 (omega arith),
        within_below 94 96 b (omega arith),
        ne_eqb b 124 (omega arith),
        ne_eqb b 126 (omega arith),
      ) in
      absurd (false≢true (sym none ∙ t))

-- a name of a token and its colon may stand in a line
name_line : (l : List ℕ) → length (before 58 l) < length l → all is_token_byte (before 58 l) ≡ true → all is_line_byte (take (suc (length (before 58 l))) l) ≡ true
name_line [] u t = absurd (omega arith)
name_line (x ∷ l) u t = go (eqb x 58) refl (name_line l) u t where
  go : (b : Bool) → eqb x 58 ≡ b → (length (before 58 l) < length l → all is_token_byte (before 58 l) ≡ true
      → all is_line_byte (take (suc (length (before 58 l))) l) ≡ true)
      → length (before 58 (x ∷ l)) < length (x ∷ l) → all is_token_byte (before 58 (x ∷ l)) ≡ true
      → all is_line_byte (take (suc (length (before 58 (x ∷ l)))) (x ∷ l)) ≡ true
  go true e h u t = rw (e, eqb-true x 58 e)
  go false e h u t =
      let v : suc (length (before 58 l)) < suc (length l) = rw e at u in
      let f = (and-eq-true_iff (is_token_byte x) (all is_token_byte (before 58 l))).0 (rw e at t) in
      rw (e, token_line x f.0) (h (omega arith) f.1)

-- the name is the same where more follows
name_more : (a b : List ℕ) → length (before 58 a) < length a → before 58 (a ++ b) ≡ before 58 a
name_more [] b u = absurd (omega arith)
name_more (x ∷ a) b u = go (eqb x 58) refl (name_more a b) u where
  go : (z : Bool) → eqb x 58 ≡ z → (length (before 58 a) < length a → before 58 (a ++ b) ≡ before 58 a) → length (before 58 (x ∷ a)) < length (x ∷ a)
      → before 58 (x ∷ (a ++ b)) ≡ before 58 (x ∷ a)
  go true e h u = rw e
  go false e h u =
      let v : suc (length (before 58 a)) < suc (length a) = rw e at u in
      rw e (ap (λ (y : List ℕ). x ∷ y) (h (omega arith)))

-- and in a front that its colon stands in
name_less : (a b : List ℕ) → length (before 58 (a ++ b)) < length a → before 58 (a ++ b) ≡ before 58 a
name_less [] b u = absurd (omega arith)
name_less (x ∷ a) b u = go (eqb x 58) refl (name_less a b) u where
  go : (z : Bool) → eqb x 58 ≡ z → (length (before 58 (a ++ b)) < length a → before 58 (a ++ b) ≡ before 58 a)
      → length (before 58 (x ∷ (a ++ b))) < length (x ∷ a) → before 58 (x ∷ (a ++ b)) ≡ before 58 (x ∷ a)
  go true e h u = rw e
  go false e h u =
      let v : suc (length (before 58 (a ++ b))) < suc (length a) = rw e at u in
      rw e (ap (λ (y : List ℕ). x ∷ y) (h (omega arith)))

-- the three parts of a field
pub record Parted (l : List ℕ) : Type 0 where
  pub within : length (before 58 l) < length l
  pub named : not (is_nil (before 58 l)) ≡ true
  pub token : all is_token_byte (before 58 l) ≡ true

parted : (l : List ℕ) → is_field l ≡ true → Parted l
unfolding is_field
parted l f =
    let k = (and-eq-true_iff (ltb (length (name_of l)) (length l) && not (is_nil (name_of l))) (all is_token_byte (name_of l))).0 f in
    let u = (and-eq-true_iff (ltb (length (name_of l)) (length l)) (not (is_nil (name_of l)))).0 k.0 in
    record { within = ltb-true (length (name_of l)) (length l) u.0; named = u.1; token = k.1 }

joined : (l : List ℕ) → Parted l → is_field l ≡ true
unfolding is_field
joined l p = rw (lt-ltb (length (before 58 l)) (length l) p.within, p.named, p.token)

-- a field, where more follows
field_more : (a b : List ℕ) → is_field a ≡ true → is_field (a ++ b) ≡ true
field_more a b f =
    let p = parted a f in
    let e = name_more a b p.within in
    joined (a ++ b) (record { within = rw (e, length-append a b) (omega (arith, p.within)); named = rw e p.named; token = rw e p.token })

-- a front of a field that its colon stands in
field_less : (a b : List ℕ) → length (before 58 (a ++ b)) < length a → is_field (a ++ b) ≡ true → is_field a ≡ true
field_less a b u f =
    let p = parted (a ++ b) f in
    let e = name_less a b u in
    joined a (record { within = rw e at u; named = rw e at p.named; token = rw e at p.token })

-- where the piece is no field, the line at its front is none
pub no_field : (l : List ℕ) → is_field l ≡ false → is_field (line_at l) ≡ false
no_field l f = go (is_field (line_at l)) refl where
  go : (b : Bool) → is_field (line_at l) ≡ b → is_field (line_at l) ≡ false
  go false e = e
  go true e = absurd (true≢false (sym (rw (line_split l) at (field_more (line_at l) (drop (length (line_at l)) l) e)) ∙ f))

-- where it is one, so is the line at its front, with the same name
pub record FieldFront (l : List ℕ) (e : ℕ) : Type 0 where
  pub line : take (suc e) l ++ line_at (drop (suc e) l) ≡ line_at l
  pub field : is_field (line_at l) ≡ true
  pub name : name_of (line_at l) ≡ take e l

pub field-front : (l : List ℕ) (e : ℕ) → Colon l e → FieldFront l e
field-front l e c =
    let p = parted l c.field in
    let m = before-length 58 l e (omega (arith, c.within)) c.name in
    let f = line-front (suc e) l (rw m at (name_line l p.within p.token)) in
    let s = line_split l in
    let d = length-take-le (suc e) l c.within in
    let u : length (before 58 l) < length (line_at l) = omega (arith, m, d, simp length-append at (ap length f)) in
    record {
      line = f;
      field = field_less (line_at l) (drop (length (line_at l)) l) (rw s u) (rw s c.field);
      name = sym (rw s at (name_less (line_at l) (drop (length (line_at l)) l) (rw s u))) ∙ sym c.name;
    }

-- how long the line is, from the place of the colon and the length of what may stand behind it
pub front_size : (l : List ℕ) (e r : ℕ) → Colon l e → r ≤ length (take (length l - (e + 1)) (drop (e + 1) l))
    → take r (take (length l - (e + 1)) (drop (e + 1) l)) ≡ line_at (take (length l - (e + 1)) (drop (e + 1) l))
    → (length (line_at l) ≡ e + 1 + r) × (e + 1 + r ≤ length l)
front_size l e r c w t =
    let f = field-front l e c in
    let u : r ≤ length (drop (suc e) l) = rw (part_to_end l (e + 1), add-one) at w in
    let v : take r (drop (suc e) l) ≡ line_at (drop (suc e) l) = rw (part_to_end l (e + 1), add-one) at t in
    let d = length-take-le (suc e) l c.within in
    let g = ap length v in
    let i = length-take-le r (drop (suc e) l) u in
    let j = simp length-append at (ap length f.line) in
    (omega (arith, d, g, i, j), omega (arith, u, length-drop (suc e) l, c.within))

-- what is left to test of a field at the front
pub other_is : (l : List ℕ) (e : ℕ) → FieldFront l e
    → other_line l ≡ cond (leb (length (line_at l)) max_line && is_other (kind_of (take e l)) && starts_with crlf (drop (length (line_at l)) l))
    (length (line_at l) + 2) 0
unfolding other_line
other_is l e f = rw (f.field, f.name, and-true (leb (length (line_at l)) max_line))

pub other_none : (l : List ℕ) → is_field l ≡ false → other_line l ≡ 0
unfolding other_line
other_none l f = rw (no_field l f, and-false (leb (length (line_at l)) max_line))

-- a field at the front whose name does not count, by the place of its colon and the length of what may stand behind it
pub other_said : (l : List ℕ) (e r : ℕ) → Colon l e → is_other (kind_of (take e l)) ≡ true → r ≤ length (take (length l - (e + 1)) (drop (e + 1) l))
    → take r (take (length l - (e + 1)) (drop (e + 1) l)) ≡ line_at (take (length l - (e + 1)) (drop (e + 1) l))
    → some_bytes (other_line l)
    ≡ cond (leb (e + 1 + r) max_line && starts_with crlf (take (length l - (e + 1 + r)) (drop (e + 1 + r) l))) (Some (e + 1 + r + 2)) None
other_said l e r f o w t =
    let z = front_size l e r f w t in
    rw (other_is l e (field-front l e f), z.0, o, part_to_end l (e + 1 + r)) (go (leb (e + 1 + r) max_line) (starts_with crlf (drop (e + 1 + r) l)))
  where
    two : (k : ℕ) → some_bytes (k + 2) ≡ Some (k + 2)
    two k = let s : k + 2 ≡ suc (suc k) = omega arith in rw s

    go : (a b : Bool) → some_bytes (cond (a && true && b) (e + 1 + r + 2) 0) ≡ cond (a && b) (Some (e + 1 + r + 2)) None
    go false b = refl
    go true false = refl
    go true true = two (e + 1 + r)
