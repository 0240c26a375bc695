-- A head that the parser does not refuse at its empty line is an accepted one.
use Prim.Native.Nat.{ℕ, zero, suc, ◌<◌}
use mathlib.Core.Path.{◌≡◌, refl, sym, ap, subst, ◌∙◌}
use mathlib.Core.Bool.{Bool, true, false, cond, not, ◌&&◌, ◌||◌, true≢false}
use mathlib.Core.List.{List, [], ◌∷◌}
use Rattle.std.specs.Prelude.{Option, None, Some}
use native.Mathlib.Omega.{arith}
use lib.Dec.{eqb, leb}
use lib.ListN.{length}
use borrow.Author.Tests.{eqb-true, eqb-false, not-false}
use Rattle.rules_server.specs.Limits.{max_tag}
use Rattle.rules_server.specs.Octets.{same, is_nil}
use Rattle.laws_server.proofs.grammar.Bytes.{and_left, and_right}
use Rattle.rules_demands.specs.AcceptanceGrammar.{lookup, Kind, data_from, no_data, parts_under, Accepted, ok, part, many, unsatisfied}
use Rattle.rules_tablet.specs.Fields.{etag, type, range, type_field, boundary_of, range_field, is_wrong, is_foreign, first_of}
use Rattle.rules_tablet.specs.Heads.{has_range, is_multipart, is_broken, kept_tag, span_of, other_status, broken_head, unlike_copy, wrong_range, empty_parts, head_refusal}
use Rattle.rules_tablet.specs.declared.RangeField.TheVariants.{Absent}
use Rattle.rules_tablet.specs.declared.TypeField.{TypeField}
use Rattle.rules_tablet.specs.declared.TypeField.TheVariants.{Absent as NoType, Other, Multipart, Broken}
use Rattle.rules_tablet.specs.declared.Head.{Head}
use Rattle.laws_refusals.proofs.acceptance.Fields.{said_or}
use Rattle.laws_refusals.proofs.acceptance.Heads.{head-said, tag-said, parts-said}
use Rattle.laws_refusals.proofs.acceptance.Values.{range_there}

-- neither of two
pub no_left : (a b : Bool) → (a || b) ≡ false → a ≡ false
no_left true b e = e
no_left false b e = refl

-- nor the second
pub no_right : (a b : Bool) → (a || b) ≡ false → b ≡ false
no_right true b e = absurd (true≢false e)
no_right false b e = e

-- no refusal at the empty line: none of the five tests holds
pub record Unrefused (a b c d e : Bool) : Type 0 where
  pub status : a ≡ false
  pub broken : b ≡ false
  pub unlike : c ≡ false
  pub wrong : d ≡ false
  pub empty : e ≡ false

-- the five tests, in the order of their numbers
none-refused : (a b c d e : Bool) → ◌≡◌ {A = ℕ} (cond a 12 (cond b 11 (cond c 13 (cond d 14 (cond e 15 0))))) 0 → Unrefused a b c d e
none-refused true b c d e f = absurd (omega arith)
none-refused false true c d e f = absurd (omega arith)
none-refused false false true d e f = absurd (omega arith)
none-refused false false false true e f = absurd (omega arith)
none-refused false false false false true f = absurd (omega arith)
none-refused false false false false false f = record { status = refl; broken = refl; unlike = refl; wrong = refl; empty = refl }

-- the same of a head
pub unrefused : (tag : List ℕ) (n : ℕ) (h : Head) (v : List ℕ) → head_refusal tag n h v ≡ 0
    → Unrefused (other_status h) (broken_head n h) (unlike_copy tag n h v) (wrong_range n h) (empty_parts h)
unfolding head_refusal
unrefused tag n h v e = none-refused (other_status h) (broken_head n h) (unlike_copy tag n h v) (wrong_range n h) (empty_parts h) e

-- the same bytes are equal
pub same_equal : (a b : List ℕ) → same a b ≡ true → a ≡ b
same_equal [] [] e = refl
same_equal [] (y ∷ b) e = absurd (true≢false (sym e))
same_equal (x ∷ a) [] e = absurd (true≢false (sym e))
same_equal (x ∷ a) (y ∷ b) e =
    let p = eqb-true x y (and_left (eqb x y) (same a b) e) in
    let q = same_equal a b (and_right (eqb x y) (same a b) e) in
    rw (p, q)

-- a kept tag that is not empty is the whole value
kept_equal : (v tag : List ℕ) → is_nil tag ≡ false → kept_tag v ≡ tag → v ≡ tag
kept_equal v tag s e = go (leb (length v) max_tag) e
  where
    go : (b : Bool) → cond b v [] ≡ tag → v ≡ tag
    go true e = e
    go false e = absurd (true≢false (ap is_nil e ∙ s))

-- no range was found
no_range : (o : Option (List ℕ)) → has_range (said_or Absent range_field o) ≡ false → o ≡ None
no_range None e = refl
no_range (Some v) e = absurd (true≢false (sym (range_there v) ∙ e))

-- a range was found
pub record Found (o : Option (List ℕ)) : Type 0 where
  pub value : List ℕ
  pub found : o ≡ Some value

-- a range that is there was found
pub some_range : (o : Option (List ℕ)) → has_range (said_or Absent range_field o) ≡ true → Found o
some_range None e = absurd (true≢false (sym e))
some_range (Some v) e = record { value = v; found = refl }

-- the copy's tag was found
pub tag-found : (tag : List ℕ) (o : Option (List ℕ)) → is_nil tag ≡ false → not (said_or false (λ v. true) o && same (said_or [] kept_tag o) tag) ≡ false
    → o ≡ Some tag
tag-found tag None s e = absurd (true≢false e)
tag-found tag (Some v) s e = ap Some (kept_equal v tag s (same_equal (kept_tag v) tag (not-false (same (kept_tag v) tag) e)))

-- a multipart that is not broken
multipart_is : (m : TypeField) → is_multipart m ≡ true → is_broken m ≡ false → m ≡ Multipart
multipart_is NoType e f = absurd (true≢false (sym e))
multipart_is Other e f = absurd (true≢false (sym e))
multipart_is Multipart e f = refl
multipart_is Broken e f = absurd (true≢false f)

-- a type was found
some_type : (o : Option (List ℕ)) → is_multipart (said_or NoType type_field o) ≡ true → Found o
some_type None e = absurd (true≢false (sym e))
some_type (Some v) e = record { value = v; found = refl }

-- what a head is accepted as
pub record AcceptedAs (tag : List ℕ) (n s : ℕ) (fs : List (List ℕ)) (z : ℕ) : Type 0 where
  pub kind : Kind
  pub accepted : Accepted tag n s fs z kind

module _ (tag : List ℕ) (n : ℕ) (fs : List (List ℕ)) (z : ℕ) (some-tag : is_nil tag ≡ false) where
  -- a 200
  from-ok : head_refusal tag n (head-said 200 fs z) (tag-said fs) ≡ 0 → Accepted tag n 200 fs z (data_from 0)
  unfolding broken_head unlike_copy
  from-ok f =
      let u = unrefused tag n (head-said 200 fs z) (tag-said fs) f in
      let r = has_range (said_or Absent range_field (lookup range fs)) in
      let g = not (said_or false (λ v. true) (lookup etag fs) && same (tag-said fs) tag) in
      let e = not (eqb z n) in
      ok refl (no_range (lookup range fs) (no_left r false (no_left (r || false) false u.broken)))
      (tag-found tag (lookup etag fs) some-tag (no_left g e (no_left (g || e) false u.unlike)))
      (eqb-true z n (not-false (eqb z n) (no_right g e (no_left (g || e) false u.unlike)))) refl

  -- a 206 of several parts
  from-many : is_multipart (said_or NoType type_field (lookup type fs)) ≡ true → head_refusal tag n (head-said 206 fs z) (tag-said fs) ≡ 0 → AcceptedAs tag n 206 fs z
  unfolding broken_head unlike_copy empty_parts
  from-many m f =
      let u = unrefused tag n (head-said 206 fs z) (tag-said fs) f in
      let t = some_type (lookup type fs) m in
      let x = is_broken (said_or NoType type_field (lookup type fs)) in
      let r = has_range (said_or Absent range_field (lookup range fs)) in
      let g = not (said_or false (λ v. true) (lookup etag fs) && same (tag-said fs) tag) in
      let b : (x || r || false) ≡ false = rw m at u.broken in
      let c : (g || false || false) ≡ false = rw m at u.unlike in
      let e : eqb z 0 ≡ false = rw m at u.empty in
      let z-some = eqb-false z 0 e in
      let is : said_or NoType type_field (lookup type fs) ≡ Multipart =
      multipart_is (said_or NoType type_field (lookup type fs)) m (no_left x r (no_left (x || r) false b)) in
      record {
        kind = parts_under (boundary_of t.value);
        accepted = many t.value refl t.found (sym (ap (said_or NoType type_field) t.found) ∙ is)
            (no_range (lookup range fs) (no_right x r (no_left (x || r) false b)))
            (tag-found tag (lookup etag fs) some-tag (no_left g false (no_left (g || false) false c))) (some_size z z-some) refl;
      }
    where
      some_size : (z : ℕ) → (z ≡ 0 → ⊥) → 0 < z
      some_size zero e = absurd (e refl)
      some_size (suc z) e = omega arith

  -- a 206 of one part
  from_part : is_multipart (said_or NoType type_field (lookup type fs)) ≡ false → head_refusal tag n (head-said 206 fs z) (tag-said fs) ≡ 0
      → AcceptedAs tag n 206 fs z
  unfolding broken_head unlike_copy wrong_range
  from_part m f =
      let u = unrefused tag n (head-said 206 fs z) (tag-said fs) f in
      let q = said_or Absent range_field (lookup range fs) in
      let g = not (said_or false (λ v. true) (lookup etag fs) && same (tag-said fs) tag) in
      let d : is_wrong n q ≡ false = rw m at u.wrong in
      let b : (not (has_range q) || not (is_wrong n q) && not (eqb (span_of q) z)) ≡ false = rw m at u.broken in
      let c : (g || false || is_foreign n q) ≡ false = rw m at u.unlike in
      let r = some_range (lookup range fs) (not-false (has_range q) (no_left (not (has_range q)) (not (is_wrong n q) && not (eqb (span_of q) z)) b)) in
      let is : q ≡ range_field r.value = ap (said_or Absent range_field) r.found in
      let s : (not (is_wrong n q) && not (eqb (span_of q) z)) ≡ false = no_right (not (has_range q)) (not (is_wrong n q) && not (eqb (span_of q) z)) b in
      let k : eqb (span_of q) z ≡ true = not-false (eqb (span_of q) z) (rw d at s) in
      record {
        kind = data_from (first_of (range_field r.value));
        accepted = part r.value refl (sym (parts-said (lookup type fs)) ∙ m) r.found (subst (λ x. is_wrong n x ≡ false) is d)
            (subst (λ x. is_foreign n x ≡ false) is (no_right (g || false) (is_foreign n q) c))
            (subst (λ x. span_of x ≡ z) is (eqb-true (span_of q) z k))
            (tag-found tag (lookup etag fs) some-tag (no_left g false (no_left (g || false) (is_foreign n q) c))) refl;
      }

  -- a head that is not refused, by its status
  pub accepted_as : (s : ℕ) → head_refusal tag n (head-said s fs z) (tag-said fs) ≡ 0 → AcceptedAs tag n s fs z
  unfolding other_status
  accepted_as s f = go (eqb s 200) (eqb s 206) (eqb s 416) refl refl refl
    where
      parted : (b : Bool) → is_multipart (said_or NoType type_field (lookup type fs)) ≡ b → head_refusal tag n (head-said 206 fs z) (tag-said fs) ≡ 0
          → AcceptedAs tag n 206 fs z
      parted true m f = from-many m f
      parted false m f = from_part m f

      go : (a b c : Bool) → eqb s 200 ≡ a → eqb s 206 ≡ b → eqb s 416 ≡ c → AcceptedAs tag n s fs z
      go true b c e e1 e2 =
          let is = eqb-true s 200 e in
          subst (λ (x : ℕ). AcceptedAs tag n x fs z) (sym is)
          (record { kind = data_from 0; accepted = from-ok (subst (λ (x : ℕ). head_refusal tag n (head-said x fs z) (tag-said fs) ≡ 0) is f) })
      go false true c e e1 e2 =
          let is = eqb-true s 206 e1 in
          subst (λ (x : ℕ). AcceptedAs tag n x fs z) (sym is)
          (parted (is_multipart (said_or NoType type_field (lookup type fs))) refl (subst (λ (x : ℕ). head_refusal tag n (head-said x fs z) (tag-said fs) ≡ 0) is f))
      go false false true e e1 e2 = record { kind = no_data; accepted = unsatisfied (eqb-true s 416 e2) refl }
      go false false false e e1 e2 = absurd (true≢false (rw (e, e1, e2) at (unrefused tag n (head-said s fs z) (tag-said fs) f).status))
