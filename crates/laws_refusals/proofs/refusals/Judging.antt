-- The judgement at a head's empty line: the parser's number is that of the first fault.
use Prim.Native.Nat.{ℕ, ◌≤◌}
use mathlib.Core.Path.{◌≡◌, refl, sym, ap, subst, ◌∙◌}
use mathlib.Core.Logic.{◌⊎◌, inl, inr}
use mathlib.Core.Bool.{Bool, true, false, cond, not, ◌&&◌, ◌||◌, true≢false}
use mathlib.Core.List.{List, []}
use Rattle.std.specs.Prelude.{Option, None, Some}
use lib.Dec.{eqb}
use lib.ListN.{length}
use native.Mathlib.Omega.{arith}
use borrow.Author.Tests.{eqb-true, eqb-false}
use Rattle.rules_server.specs.Limits.{max_tag}
use Rattle.rules_server.specs.Octets.{same, is_nil}
use Rattle.rules_server.specs.Numerals.{decimal}
use Rattle.rules_tablet.specs.Fields.{etag, type, range, size, type_field, range_field, is_wrong, is_foreign}
use Rattle.rules_tablet.specs.Heads.{has_range, has_size, size_of, is_multipart, is_broken, kept_tag, span_of, other_status, broken_head, unlike_copy, wrong_range}
use Rattle.rules_tablet.specs.Heads.{empty_parts, head_refusal}
use Rattle.rules_tablet.specs.declared.RangeField.TheVariants.{Absent}
use Rattle.rules_tablet.specs.declared.TypeField.{TypeField}
use Rattle.rules_tablet.specs.declared.TypeField.TheVariants.{Absent as NoType, Other, Multipart, Broken}
use Rattle.rules_demands.specs.AcceptanceGrammar.{lookup, says_parts}
use Rattle.laws_reader.proofs.own_answers.Bytes.{same_self}
use Rattle.laws_refusals.proofs.acceptance.Fields.{said_or, none-some, some_value}
use Rattle.laws_refusals.proofs.acceptance.Heads.{tag-said, parts-said, kept_short}
use Rattle.laws_refusals.proofs.acceptance.Values.{range_there}
use Rattle.laws_refusals.proofs.acceptance.Judging.{Found, some_range, tag-found}
use Rattle.rules_demands.specs.RefusalHeads.{OtherStatus, BrokenHead, unsized, ok_range, parts_type, parts_range, no_range, other_span, Unlike, ok_tag}
use Rattle.rules_demands.specs.RefusalHeads.{partial_tag, ok_size, stated, WrongRange, EmptyParts, HeadFault}
use Rattle.laws_refusals.proofs.refusals.Decides.{Decides, Says, or_decides, and_decides, not_decides, eq_decides, by_test, renamed, is_decides}
use Rattle.laws_refusals.proofs.refusals.Decides.{none-says, first_says}
use Rattle.laws_refusals.proofs.refusals.Fields.{said}

-- a size as it was found
abbrev size_by : Option (List ℕ) → Option ℕ
size_by o = said_or None (λ v. Some (decimal v)) o

-- no size was found
no_size_decides : (o : Option (List ℕ)) → Decides (not (has_size (size_by o))) (o ≡ None)
no_size_decides None = record { yes = λ e. refl; sure = λ e. refl }
no_size_decides (Some v) = record { yes = λ e. absurd (true≢false (sym e)); sure = λ e. absurd (none-some v (sym e)) }

-- a range was found
range_decides : (o : Option (List ℕ)) → Decides (has_range (said_or Absent range_field o)) (Found o)
range_decides o = record { yes = some_range o; sure = λ f. ap (λ x. has_range (said_or Absent range_field x)) f.found ∙ range_there f.value }

-- none was found
pub no_range_decides : (o : Option (List ℕ)) → Decides (not (has_range (said_or Absent range_field o))) (o ≡ None)
no_range_decides None = record { yes = λ e. refl; sure = λ e. refl }
no_range_decides (Some v) = record { yes = λ e. absurd (true≢false (sym (rw (range_there v) at e))); sure = λ e. absurd (none-some v (sym e)) }

-- the type is of parts
parts_decides : (o : Option (List ℕ)) → Decides (is_multipart (said_or NoType type_field o)) (says_parts o ≡ true)
parts_decides o = record { yes = λ e. sym (parts-said o) ∙ e; sure = λ e. parts-said o ∙ e }

-- it is not
no_parts_decides : (o : Option (List ℕ)) → Decides (not (is_multipart (said_or NoType type_field o))) (says_parts o ≡ false)
no_parts_decides o = go (is_multipart (said_or NoType type_field o)) (says_parts o) (parts-said o)
  where
    go : (a b : Bool) → a ≡ b → Decides (not a) (b ≡ false)
    go true b e = record { yes = λ f. absurd (true≢false (sym f)); sure = λ f. absurd (true≢false (e ∙ f)) }
    go false b e = record { yes = λ f. sym e; sure = λ f. refl }

-- a type of parts without a right boundary
record BrokenType (o : Option (List ℕ)) : Type 0 where
  pub value : List ℕ
  pub found : o ≡ Some value
  pub broken : type_field value ≡ Broken

-- a broken type
broken_is : (m : TypeField) → is_broken m ≡ true → m ≡ Broken
broken_is NoType e = absurd (true≢false (sym e))
broken_is Other e = absurd (true≢false (sym e))
broken_is Multipart e = absurd (true≢false (sym e))
broken_is Broken e = refl

-- the type is broken
broken_decides : (o : Option (List ℕ)) → Decides (is_broken (said_or NoType type_field o)) (BrokenType o)
broken_decides o = record { yes = yes o; sure = λ b. ap (λ x. is_broken (said_or NoType type_field x)) b.found ∙ ap is_broken b.broken }
  where
    yes : (o : Option (List ℕ)) → is_broken (said_or NoType type_field o) ≡ true → BrokenType o
    yes None e = absurd (true≢false (sym e))
    yes (Some v) e = record { value = v; found = refl; broken = broken_is (type_field v) e }

-- the status and the type of a plain 206
plain_decides : (s : ℕ) (o : Option (List ℕ)) → Decides (eqb s 206 && not (is_multipart (said_or NoType type_field o))) ((s ≡ 206) × (says_parts o ≡ false))
plain_decides s o = and_decides (eqb s 206) (not (is_multipart (said_or NoType type_field o))) (eq_decides s 206) (no_parts_decides o)

-- of a multipart
many_decides : (s : ℕ) (o : Option (List ℕ)) → Decides (eqb s 206 && is_multipart (said_or NoType type_field o)) ((s ≡ 206) × (says_parts o ≡ true))
many_decides s o = and_decides (eqb s 206) (is_multipart (said_or NoType type_field o)) (eq_decides s 206) (parts_decides o)

-- a range that is not wrong, with another span than the size
record OtherSpan (n : ℕ) (or os : Option (List ℕ)) : Type 0 where
  pub value : List ℕ
  pub found : or ≡ Some value
  pub right : is_wrong n (range_field value) ≡ false
  pub unlike : span_of (range_field value) ≡ size_of (size_by os) → ⊥

-- so it is by the parser
span_decides : (n : ℕ) (or os : Option (List ℕ))
    → Decides (not (is_wrong n (said_or Absent range_field or)) && not (eqb (span_of (said_or Absent range_field or)) (size_of (size_by os)))) (OtherSpan n or os)
span_decides n None os = record { yes = λ e. absurd (true≢false (sym e)); sure = λ b. absurd (none-some b.value b.found) }
span_decides n (Some v) os =
    renamed (not (is_wrong n (range_field v)) && not (eqb (span_of (range_field v)) (size_of (size_by os))))
    (and_decides (not (is_wrong n (range_field v))) (not (eqb (span_of (range_field v)) (size_of (size_by os)))) (not_is (is_wrong n (range_field v)))
    (not_decides (eqb (span_of (range_field v)) (size_of (size_by os))) (eq_decides (span_of (range_field v)) (size_of (size_by os)))))
    (λ p. record { value = v; found = refl; right = p.0; unlike = p.1 })
    (λ b. (
      subst (λ (x : List ℕ). is_wrong n (range_field x) ≡ false) (sym (some_value v b.value b.found)) b.right,
      λ e. b.unlike (ap (λ (x : List ℕ). span_of (range_field x)) (sym (some_value v b.value b.found)) ∙ e),
    ))
  where
    not_is : (t : Bool) → Decides (not t) (t ≡ false)
    not_is true = record { yes = λ e. absurd (true≢false (sym e)); sure = λ e. absurd (true≢false e) }
    not_is false = record { yes = λ e. refl; sure = λ e. refl }

-- the copy's tag was found
tag_decides : (tag : List ℕ) (o : Option (List ℕ)) → is_nil tag ≡ false → length tag ≤ max_tag
    → Decides (said_or false (λ v. true) o && same (said_or [] kept_tag o) tag) (o ≡ Some tag)
tag_decides tag o some-tag short = record { yes = λ e. tag-found tag o some-tag (rw e); sure = λ e. rw (e, kept_short tag short) (same_self tag) }

-- a range that states another length
record ForeignRange (n : ℕ) (o : Option (List ℕ)) : Type 0 where
  pub value : List ℕ
  pub found : o ≡ Some value
  pub foreign : is_foreign n (range_field value) ≡ true

-- so it is by the parser
foreign_decides : (n : ℕ) (o : Option (List ℕ)) → Decides (is_foreign n (said_or Absent range_field o)) (ForeignRange n o)
foreign_decides n o = record { yes = yes o; sure = λ b. ap (λ x. is_foreign n (said_or Absent range_field x)) b.found ∙ b.foreign }
  where
    yes : (o : Option (List ℕ)) → is_foreign n (said_or Absent range_field o) ≡ true → ForeignRange n o
    yes None e = absurd (true≢false (sym e))
    yes (Some v) e = record { value = v; found = refl; foreign = e }

module _ (tag : List ℕ) (n s : ℕ) (fs : List (List ℕ)) where
  -- 12
  status_decides : Decides (other_status (said s fs)) (OtherStatus s)
  unfolding other_status
  status_decides =
      renamed (not (eqb s 200) && not (eqb s 206) && not (eqb s 416))
      (and_decides (not (eqb s 200) && not (eqb s 206)) (not (eqb s 416))
      (and_decides (not (eqb s 200)) (not (eqb s 206)) (not_decides (eqb s 200) (eq_decides s 200)) (not_decides (eqb s 206) (eq_decides s 206)))
      (not_decides (eqb s 416) (eq_decides s 416)))
      (λ p. record { no_200 = p.0.0; no_206 = p.0.1; no_416 = p.1 })
      (λ o. ((o.no_200, o.no_206), o.no_416))

  -- what breaks a head, as the parser tests it
  abbrev Breaks : Type 0
  Breaks =
      (((lookup size fs ≡ None) ⊎ ((s ≡ 200) × Found (lookup range fs)))
      ⊎ (((s ≡ 206) × (says_parts (lookup type fs) ≡ true)) × (BrokenType (lookup type fs) ⊎ Found (lookup range fs))))
      ⊎ (((s ≡ 206) × (says_parts (lookup type fs) ≡ false)) × ((lookup range fs ≡ None) ⊎ OtherSpan n (lookup range fs) (lookup size fs)))

  -- a size that differs from a span, or none
  from_span : (os : Option (List ℕ)) → lookup size fs ≡ os → s ≡ 206 → says_parts (lookup type fs) ≡ false → OtherSpan n (lookup range fs) os → BrokenHead n s fs
  from_span None e p q b = unsized e
  from_span (Some w) e p q b = other_span b.value w p q b.found b.right e b.unlike

  -- from the parser's tests to the faults
  from_breaks : Breaks → BrokenHead n s fs
  from_breaks (inl (inl (inl e))) = unsized e
  from_breaks (inl (inl (inr p))) = ok_range p.1.value p.0 p.1.found
  from_breaks (inl (inr (p, inl b))) = parts_type b.value p.0 b.found b.broken
  from_breaks (inl (inr (p, inr f))) = parts_range f.value p.0 p.1 f.found
  from_breaks (inr (p, inl e)) = no_range p.0 p.1 e
  from_breaks (inr (p, inr b)) = from_span (lookup size fs) refl p.0 p.1 b

  -- a broken type is of parts
  broken-parts : (v : List ℕ) → type_field v ≡ Broken → says_parts (Some v) ≡ true
  broken-parts v e = sym (parts-said (Some v)) ∙ ap is_multipart e

  -- and back
  to_breaks : BrokenHead n s fs → Breaks
  to_breaks (unsized e) = inl (inl (inl e))
  to_breaks (ok_range v e f) = inl (inl (inr (e, record { value = v; found = f })))
  to_breaks (parts_type v e f b) = inl (inr ((e, ap says_parts f ∙ broken-parts v b), inl (record { value = v; found = f; broken = b })))
  to_breaks (parts_range v e p f) = inl (inr ((e, p), inr (record { value = v; found = f })))
  to_breaks (no_range e p f) = inr ((e, p), inl f)
  to_breaks (other_span v w e p f r g u) = inr ((e, p), inr (record { value = v; found = f; right = r; unlike = λ q. u (q ∙ ap (λ o. size_of (size_by o)) g) }))

  -- 11
  broken_head_decides : Decides (broken_head n (said s fs)) (BrokenHead n s fs)
  unfolding broken_head
  broken_head_decides =
      let m = said_or NoType type_field (lookup type fs) in
      let r = said_or Absent range_field (lookup range fs) in
      let z = size_by (lookup size fs) in
      let a = not (has_size z) in
      let b = eqb s 200 && has_range r in
      let c = eqb s 206 && is_multipart m && (is_broken m || has_range r) in
      let d = eqb s 206 && not (is_multipart m) && (not (has_range r) || (not (is_wrong n r) && not (eqb (span_of r) (size_of z)))) in
      renamed (a || b || c || d)
      (or_decides (a || b || c) d
      (or_decides (a || b) c
      (or_decides a b (no_size_decides (lookup size fs)) (and_decides (eqb s 200) (has_range r) (eq_decides s 200) (range_decides (lookup range fs))))
      (and_decides (eqb s 206 && is_multipart m) (is_broken m || has_range r) (many_decides s (lookup type fs))
      (or_decides (is_broken m) (has_range r) (broken_decides (lookup type fs)) (range_decides (lookup range fs)))))
      (and_decides (eqb s 206 && not (is_multipart m)) (not (has_range r) || (not (is_wrong n r) && not (eqb (span_of r) (size_of z))))
      (plain_decides s (lookup type fs))
      (or_decides (not (has_range r)) (not (is_wrong n r) && not (eqb (span_of r) (size_of z))) (no_range_decides (lookup range fs))
      (span_decides n (lookup range fs) (lookup size fs)))))
      from_breaks to_breaks

  -- what is unlike the copy, as the parser tests it
  abbrev Differs : Type 0
  Differs =
      (((s ≡ 416 → ⊥) × (lookup etag fs ≡ Some tag → ⊥)) ⊎ ((s ≡ 200) × (size_of (size_by (lookup size fs)) ≡ n → ⊥)))
      ⊎ (((s ≡ 206) × (says_parts (lookup type fs) ≡ false)) × ForeignRange n (lookup range fs))

  -- a status that is neither of three but 416
  by_status : {A : Type 0} → (OtherStatus s → ⊥) → (s ≡ 416 → ⊥) → (s ≡ 200 → A) → (s ≡ 206 → A) → A
  by_status {A} o u f g =
      by_test (eqb s 200) (λ e. f (eqb-true s 200 e))
      (λ e. by_test (eqb s 206) (λ h. g (eqb-true s 206 h)) (λ h. absurd (o (record { no_200 = eqb-false s 200 e; no_206 = eqb-false s 206 h; no_416 = u }))))

  -- a size that was found, since the head is not broken
  by_size : {A : Type 0} → (BrokenHead n s fs → ⊥) → ((w : List ℕ) → lookup size fs ≡ Some w → A) → A
  by_size {A} b f = go (lookup size fs) refl
    where
      go : (o : Option (List ℕ)) → lookup size fs ≡ o → A
      go None e = absurd (b (unsized e))
      go (Some w) e = f w e

  -- from the parser's tests to the faults
  from_differs : (OtherStatus s → ⊥) → (BrokenHead n s fs → ⊥) → Differs → Unlike tag n s fs
  from_differs o b (inl (inl p)) = by_status o p.0 (λ e. ok_tag e p.1) (λ e. partial_tag e p.1)
  from_differs o b (inl (inr p)) = by_size b (λ w e. ok_size w p.0 e (λ q. p.1 (ap (λ x. size_of (size_by x)) e ∙ q)))
  from_differs o b (inr (p, f)) = stated f.value p.0 p.1 f.found f.foreign

  -- and back
  to_differs : Unlike tag n s fs → Differs
  to_differs (ok_tag e f) = inl (inl (λ q. absurd (omega arith), f))
  to_differs (partial_tag e f) = inl (inl (λ q. absurd (omega arith), f))
  to_differs (ok_size w e f g) = inl (inr (e, λ q. g (sym (ap (λ x. size_of (size_by x)) f) ∙ q)))
  to_differs (stated v e p f g) = inr ((e, p), record { value = v; found = f; foreign = g })

  -- 13
  unlike_decides : is_nil tag ≡ false → length tag ≤ max_tag → (OtherStatus s → ⊥) → (BrokenHead n s fs → ⊥)
      → Decides (unlike_copy tag n (said s fs) (tag-said fs)) (Unlike tag n s fs)
  unfolding unlike_copy
  unlike_decides some-tag short o w =
      let m = said_or NoType type_field (lookup type fs) in
      let r = said_or Absent range_field (lookup range fs) in
      let z = size_of (size_by (lookup size fs)) in
      let t = said_or false (λ v. true) (lookup etag fs) && same (tag-said fs) tag in
      let a = not (eqb s 416) && not t in
      let b = eqb s 200 && not (eqb z n) in
      let c = eqb s 206 && not (is_multipart m) && is_foreign n r in
      renamed (a || b || c)
      (or_decides (a || b) c
      (or_decides a b (and_decides (not (eqb s 416)) (not t) (not_decides (eqb s 416) (eq_decides s 416))
      (not_decides t (tag_decides tag (lookup etag fs) some-tag short)))
      (and_decides (eqb s 200) (not (eqb z n)) (eq_decides s 200) (not_decides (eqb z n) (eq_decides z n))))
      (and_decides (eqb s 206 && not (is_multipart m)) (is_foreign n r) (plain_decides s (lookup type fs)) (foreign_decides n (lookup range fs))))
      (from_differs o w) to_differs

  -- 14
  wrong_decides : (BrokenHead n s fs → ⊥) → Decides (wrong_range n (said s fs)) (WrongRange n s fs)
  unfolding wrong_range
  wrong_decides b =
      let m = said_or NoType type_field (lookup type fs) in
      let r = said_or Absent range_field (lookup range fs) in
      renamed (eqb s 206 && not (is_multipart m) && is_wrong n r)
      (and_decides (eqb s 206 && not (is_multipart m)) (is_wrong n r) (plain_decides s (lookup type fs)) (is_decides (is_wrong n r)))
      (λ p. go (lookup range fs) refl p.0.0 p.0.1 p.1)
      (λ w. ((w.partial, w.no_parts), ap (λ x. is_wrong n (said_or Absent range_field x)) w.found ∙ w.wrong))
    where
      go : (o : Option (List ℕ)) → lookup range fs ≡ o → s ≡ 206 → says_parts (lookup type fs) ≡ false → is_wrong n (said_or Absent range_field o) ≡ true
          → WrongRange n s fs
      go None e p q w = absurd (b (no_range p q e))
      go (Some v) e p q w = record { value = v; partial = p; no_parts = q; found = e; wrong = w }

  -- 15
  empty_decides : (BrokenHead n s fs → ⊥) → Decides (empty_parts (said s fs)) (EmptyParts s fs)
  unfolding empty_parts
  empty_decides b =
      let m = said_or NoType type_field (lookup type fs) in
      let z = size_of (size_by (lookup size fs)) in
      renamed (eqb s 206 && is_multipart m && eqb z 0)
      (and_decides (eqb s 206 && is_multipart m) (eqb z 0) (many_decides s (lookup type fs)) (eq_decides z 0))
      (λ p. by_size b (λ w e. record { value = w; partial = p.0.0; of_parts = p.0.1; found = e; empty = sym (ap (λ x. size_of (size_by x)) e) ∙ p.1 }))
      (λ w. ((w.partial, w.of_parts), ap (λ x. size_of (size_by x)) w.found ∙ w.empty))

  -- the number at the empty line is that of the first fault
  pub head-says : is_nil tag ≡ false → length tag ≤ max_tag → Says (head_refusal tag n (said s fs) (tag-said fs)) (HeadFault tag n s fs)
  unfolding head_refusal
  head-says some-tag short =
      let h = said s fs in
      let r15 = cond {A = ℕ} (empty_parts h) 15 0 in
      let r14 = cond {A = ℕ} (wrong_range n h) 14 r15 in
      let r13 = cond {A = ℕ} (unlike_copy tag n h (tag-said fs)) 13 r14 in
      let r11 = cond {A = ℕ} (broken_head n h) 11 r13 in
      first_says (other_status h) 12 r11 status_decides
      (λ o. first_says (broken_head n h) 11 r13 broken_head_decides
      (λ b. first_says (unlike_copy tag n h (tag-said fs)) 13 r14 (unlike_decides some-tag short o b)
      (λ u. first_says (wrong_range n h) 14 r15 (wrong_decides b)
      (λ w. first_says (empty_parts h) 15 0 (empty_decides b) (λ e. none-says)))))
