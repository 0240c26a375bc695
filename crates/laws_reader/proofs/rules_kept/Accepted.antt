-- What an accepted head says, by the tests of its refusals.
-- Assumes nothing.
use Prim.Native.Nat.{ℕ, ◌+◌, ◌≤◌}
use native.Mathlib.Omega.{arith}
use mathlib.Core.Path.{◌≡◌, refl}
use mathlib.Core.Bool.{Bool, true, false, not, cond, ◌&&◌, ◌||◌, true≢false, and-true}
use mathlib.Core.List.{List, [], ◌∷◌}
use lib.Dec.{eqb}
use borrow.Author.Tests.{eqb-true, not-false}
use Rattle.rules_server.specs.Octets.{same}
use Rattle.rules_tablet.specs.Fields.{is_wrong, is_foreign, first_of}
use Rattle.rules_tablet.specs.Heads.{has_range, is_broken, has_size, size_of, span_of, is_ok, is_parts, is_part, is_unsatisfied, other_status}
use Rattle.rules_tablet.specs.Heads.{broken_head, unlike_copy, wrong_range, head_refusal}
use Rattle.rules_tablet.specs.declared.RangeField.{RangeField}
use Rattle.rules_tablet.specs.declared.RangeField.TheVariants.{Absent, Wrong, Span, Of}
use Rattle.rules_tablet.specs.declared.Head.{Head}
use Rattle.laws_reader.proofs.rules_kept.Tests.{and_rest, or_left, or_right, or_rest, Falses, falses}
use Rattle.laws_reader.proofs.rules_kept.Lines.{right_span}

-- where a choice is 0 its number was not chosen
unchosen : (b : Bool) (k x : ℕ) → 1 ≤ k → cond b k x ≡ 0 → (b ≡ false) × (x ≡ 0)
unchosen true k x u e = absurd (omega arith)
unchosen false k x u e = (refl, e)

-- without a Content-Range there is no first
no_first : (r : RangeField) → has_range r ≡ false → first_of r ≡ 0
no_first Absent e = refl
no_first Wrong e = refl
no_first (Span a b) e = absurd (true≢false e)
no_first (Of a b s) e = absurd (true≢false e)

module _ (t : List ℕ) (n : ℕ) (h : Head) (v : List ℕ) (accepted : head_refusal t n h v ≡ 0) where
  -- no refusal's test holds
  passed : (other_status h ≡ false) × (broken_head n h ≡ false) × (unlike_copy t n h v ≡ false) × (wrong_range n h ≡ false)
  unfolding head_refusal
  passed =
      let a = unchosen (other_status h) 12 _ (omega arith) accepted in
      let b = unchosen (broken_head n h) 11 _ (omega arith) a.1 in
      let d = unchosen (unlike_copy t n h v) 13 _ (omega arith) b.1 in
      (a.0, b.0, d.0, (unchosen (wrong_range n h) 14 _ (omega arith) d.1).0)

  -- what would be unlike the copy
  alike :
      Falses
      ((not (is_unsatisfied h) && not (h.has_tag && same v t))
      ∷ (is_ok h && not (eqb (size_of h.size) n))
      ∷ (is_part h && is_foreign n h.range)
      ∷ [])
  unfolding unlike_copy
  alike = falses _ (_ ∷ _ ∷ []) passed.2

  -- a tag was seen, the copy's, unless it is a 416
  pub tagged : is_unsatisfied h ≡ false → (h.has_tag && same v t) ≡ true
  tagged u = not-false _ (and_rest (not (is_unsatisfied h)) _ alike.0 (rw u))

  -- a 200 is as long as the copy
  pub as_long : is_ok h ≡ true → size_of h.size ≡ n
  as_long o = eqb-true _ _ (not-false _ (and_rest (is_ok h) (not (eqb (size_of h.size) n)) alike.1.0 o))

  -- what is neither a 416 nor a 200 is a 206
  pub partial : is_unsatisfied h ≡ false → is_ok h ≡ false → eqb h.status 206 ≡ true
  unfolding other_status
  partial u o = not-false _ (simp (o, u, and-true) at passed.0)

  -- what the lines together would break
  unbroken :
      Falses
      (not (has_size h.size)
      ∷ (is_ok h && has_range h.range)
      ∷ (is_parts h && (is_broken h.media || has_range h.range))
      ∷ (is_part h && (not (has_range h.range) || (not (is_wrong n h.range) && not (eqb (span_of h.range) (size_of h.size)))))
      ∷ [])
  unfolding broken_head
  unbroken = falses _ (_ ∷ _ ∷ _ ∷ []) passed.1

  -- a size was seen
  pub sized : has_size h.size ≡ true
  sized = not-false _ unbroken.0

  -- a multipart's type has its boundary
  pub unbroken_type : is_parts h ≡ true → is_broken h.media ≡ false
  unbroken_type s =
      or_left _ (has_range h.range) (and_rest (is_parts h) (is_broken h.media || has_range h.range) unbroken.1.1.0 s)

  -- a 200 begins at 0
  pub ok_first : is_ok h ≡ true → first_of h.range ≡ 0
  ok_first o = no_first h.range (and_rest (is_ok h) (has_range h.range) unbroken.1.0 o)

  -- a 206 of one part: its Content-Range is not wrong
  pub in_copy : is_part h ≡ true → is_wrong n h.range ≡ false
  unfolding wrong_range
  in_copy s = and_rest (is_part h) (is_wrong n h.range) passed.3 s

  -- and its span is its Content-Length
  pub spanning : is_part h ≡ true → span_of h.range ≡ size_of h.size
  spanning s =
      let x = not (is_wrong n h.range) && not (eqb (span_of h.range) (size_of h.size)) in
      let y = and_rest (is_part h) (not (has_range h.range) || x) unbroken.1.1.1.0 s in
      eqb-true _ _ (not-false _ (and_rest (not (is_wrong n h.range)) _ (or_right (not (has_range h.range)) x y) (rw (in_copy s))))

  -- the body of a 200 or of a 206 of one part lies in the copy
  pub plain-fits : (is_ok h || is_part h) ≡ true → first_of h.range + size_of h.size ≤ n
  plain-fits e = go (is_ok h) refl
    where
      go : (b : Bool) → is_ok h ≡ b → first_of h.range + size_of h.size ≤ n
      go true o = omega (arith, ok_first o, as_long o)
      go false o = let s = or_rest (is_ok h) (is_part h) e o in omega (arith, spanning s, right_span n h.range (in_copy s))
