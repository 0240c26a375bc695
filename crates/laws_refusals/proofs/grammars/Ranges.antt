-- What a value is read as, for every value, and what it is for a copy, against the grammar of Content-Range.
use Prim.Native.Nat.{ℕ, suc, ◌+◌, ◌≤◌, ◌<◌}
use mathlib.Core.Path.{◌≡◌, refl, sym, ap, ◌∙◌}
use mathlib.Core.Logic.{◌⊎◌, inl, inr}
use mathlib.Core.Bool.{Bool, true, false, not, ◌&&◌, ◌||◌, true≢false}
use mathlib.Core.List.{List, ◌∷◌, ◌++◌}
use Rattle.std.specs.Prelude.{Option, None, Some}
use native.Mathlib.Omega.{arith}
use lib.Dec.{leb, ltb, eqb}
use lib.ListN.{drop}
use borrow.Author.Tests.{leb-true, leb-false, le-leb, lt-leb, ltb-false, le-ltb, eqb-false, ne_eqb, not-true}
use Rattle.rules_server.specs.Limits.{max_file}
use Rattle.rules_server.specs.Octets.{codes, dash, slash}
use Rattle.rules_server.specs.Numerals.{decimal}
use Rattle.rules_server.specs.Ranges.{digits, after_digits}
use Rattle.rules_tablet.specs.Fields.{range_field, small, is_wrong, is_foreign, first_of, last_of}
use Rattle.rules_tablet.specs.Heads.{span_of}
use Rattle.rules_tablet.specs.declared.RangeField.{RangeField}
use Rattle.rules_tablet.specs.declared.RangeField.TheVariants.{Absent, Wrong, Span, Of}
use Rattle.laws_server.proofs.grammar.Bytes.{and_left, and_right}
use Rattle.rules_demands.specs.GrammarContentRange.{LengthText, unknown, stated, ContentRangeText, RangeStated, RangeRight, RangeForeign}
use Rattle.rules_demands.specs.GrammarContentRange.{ContentRangesDecided, ContentRangeExamples}
use Rattle.laws_refusals.proofs.grammars.Texts.{or_left, or_right}
use Rattle.laws_refusals.proofs.grammars.ContentRange.{digits-run, digits-behind, reading, complete, Formed, form}

-- what a range with these numbers is read as
abbrev says : ℕ → ℕ → Option ℕ → RangeField
says a b None = Span a b
says a b (Some n) = Of a b n

-- no such range is wrong
says_wrong : (a b : ℕ) (o : Option ℕ) → says a b o ≡ Wrong → ⊥
says_wrong a b None e = let z : ◌≡◌ {A = ℕ} 0 1 = cc in omega arith
says_wrong a b (Some n) e = let z : ◌≡◌ {A = ℕ} 0 1 = cc in omega arith

-- nor absent
says_absent : (a b : ℕ) (o : Option ℕ) → says a b o ≡ Absent → ⊥
says_absent a b None e = let z : ◌≡◌ {A = ℕ} 0 1 = cc in omega arith
says_absent a b (Some n) e = let z : ◌≡◌ {A = ℕ} 0 1 = cc in omega arith

-- of small numbers, the range is read so
small-says : (a b : ℕ) (o : Option ℕ) → a ≤ max_file → b ≤ max_file → ((n : ℕ) → o ≡ Some n → n ≤ max_file) → reading a b o ≡ says a b o
small-says a b None x y z = rw (le-leb a max_file x, le-leb b max_file y)
small-says a b (Some n) x y z = rw (le-leb a max_file x, le-leb b max_file y, le-leb n max_file (z n refl))

-- numbers are small, or they are read as wrong
data Sized (a b : ℕ) (o : Option ℕ) : Type 0 where
  fit : a ≤ max_file → b ≤ max_file → ((n : ℕ) → o ≡ Some n → n ≤ max_file) → Sized a b o
  large : reading a b o ≡ Wrong → Sized a b o

sized : (a b : ℕ) (o : Option ℕ) → Sized a b o
sized a b None = go (small a && small b) refl
  where
    go : (t : Bool) → (small a && small b) ≡ t → Sized a b None
    go true t =
        fit (leb-true a max_file (and_left (small a) (small b) t)) (leb-true b max_file (and_right (small a) (small b) t))
        (λ n q. let z : ◌≡◌ {A = ℕ} 0 1 = cc in absurd (omega arith))
    go false t = large (rw t)
sized a b (Some n) = go (small a && small b && small n) refl
  where
    go : (t : Bool) → (small a && small b && small n) ≡ t → Sized a b (Some n)
    go true t =
        let both = and_left (small a && small b) (small n) t in
        let last : n ≤ max_file = leb-true n max_file (and_right (small a && small b) (small n) t) in
        fit (leb-true a max_file (and_left (small a) (small b) both)) (leb-true b max_file (and_right (small a) (small b) both))
        (λ m q. let z : n ≡ m = cc in omega arith)
    go false t = large (rw t)

-- a range of the grammar is read so
stated_says : (v : List ℕ) (a b : ℕ) (o : Option ℕ) → RangeStated v a b o → range_field v ≡ says a b o
stated_says v a b o r = complete v a b o r.form ∙ small-says a b o r.first_small r.last_small r.length_small

-- a value is a range of the grammar, or wrong
data View (v : List ℕ) : Type 0 where
  right : (a b : ℕ) (o : Option ℕ) → RangeStated v a b o → range_field v ≡ says a b o → View v
  wrong : range_field v ≡ Wrong → View v

view : (v : List ℕ) → View v
view v = go (form v)
  where
    by_size : (f : Formed v) → Sized f.a f.b f.o → View v
    by_size f (fit x y z) =
        let r : RangeStated v f.a f.b f.o = record { form = f.is; first_small = x; last_small = y; length_small = z } in
        right f.a f.b f.o r (stated_says v f.a f.b f.o r)
    by_size f (large e) = wrong (complete v f.a f.b f.o f.is ∙ e)

    go : Formed v ⊎ (range_field v ≡ Wrong) → View v
    go (inl f) = by_size f (sized f.a f.b f.o)
    go (inr e) = wrong e

-- each reading, of a value with its view
module _ (v : List ℕ) where
  -- with a stated length
  of_sound : (a b n : ℕ) → range_field v ≡ Of a b n → View v → RangeStated v a b (Some n)
  of_sound a b n e (right c d None r q) = let z : ◌≡◌ {A = ℕ} 0 1 = cc in absurd (omega arith)
  of_sound a b n e (right c d (Some m) r q) =
      let f : Of c d m ≡ Of a b n = sym q ∙ e in
      let x : c ≡ a = cc in
      let y : d ≡ b = cc in
      let z : m ≡ n = cc in
      rw (← x, ← y, ← z) r
  of_sound a b n e (wrong q) = let z : ◌≡◌ {A = ℕ} 0 1 = cc in absurd (omega arith)

  -- with `*`
  span_sound : (a b : ℕ) → range_field v ≡ Span a b → View v → RangeStated v a b None
  span_sound a b e (right c d None r q) =
      let f : Span c d ≡ Span a b = sym q ∙ e in
      let x : c ≡ a = cc in
      let y : d ≡ b = cc in
      rw (← x, ← y) r
  span_sound a b e (right c d (Some m) r q) = let z : ◌≡◌ {A = ℕ} 0 1 = cc in absurd (omega arith)
  span_sound a b e (wrong q) = let z : ◌≡◌ {A = ℕ} 0 1 = cc in absurd (omega arith)

  -- wrong
  wrong_back : ((a b : ℕ) (o : Option ℕ) → RangeStated v a b o → ⊥) → View v → range_field v ≡ Wrong
  wrong_back n (right a b o r q) = absurd (n a b o r)
  wrong_back n (wrong q) = q

  -- never absent
  absent : range_field v ≡ Absent → View v → ⊥
  absent e (right a b o r q) = says_absent a b o (sym q ∙ e)
  absent e (wrong q) = let z : ◌≡◌ {A = ℕ} 0 1 = cc in omega arith

-- not wrong for a copy of n bytes
right_sound : (n : ℕ) (v : List ℕ) → is_wrong n (range_field v) ≡ false → View v → RangeRight n v
right_sound n v e (wrong q) = absurd (true≢false (rw q at e))
right_sound n v e (right a b None r q) =
    let f : (ltb b a || leb n b) ≡ false = rw q at e in
    record {
      first = a;
      last = b;
      stated = None;
      range = r;
      ordered = ltb-false b a (or_left (ltb b a) (leb n b) f);
      within_stated = λ s h. let z : ◌≡◌ {A = ℕ} 0 1 = cc in absurd (omega arith);
      within_copy = leb-false n b (or_right (ltb b a) (leb n b) f);
    }
right_sound n v e (right a b (Some s) r q) =
    let f : (ltb b a || leb s b || leb n b) ≡ false = rw q at e in
    let both = or_left (ltb b a || leb s b) (leb n b) f in
    let lengths : b < s = leb-false s b (or_right (ltb b a) (leb s b) both) in
    record {
      first = a;
      last = b;
      stated = Some s;
      range = r;
      ordered = ltb-false b a (or_left (ltb b a) (leb s b) both);
      within_stated = λ m h. let z : s ≡ m = cc in omega arith;
      within_copy = leb-false n b (or_right (ltb b a || leb s b) (leb n b) f);
    }

-- and back
right_complete : (n : ℕ) (v : List ℕ) → RangeRight n v → is_wrong n (range_field v) ≡ false
right_complete n v r = rw (stated_says v r.first r.last r.stated r.range) (go r.stated r.within_stated)
  where
    go : (o : Option ℕ) → ((s : ℕ) → o ≡ Some s → r.last < s) → is_wrong n (says r.first r.last o) ≡ false
    go None h = rw (le-ltb r.last r.first r.ordered, lt-leb n r.last r.within_copy)
    go (Some s) h = rw (le-ltb r.last r.first r.ordered, lt-leb s r.last (h s refl), lt-leb n r.last r.within_copy)

-- with a stated length unlike the copy's
foreign_sound : (n : ℕ) (v : List ℕ) → is_foreign n (range_field v) ≡ true → View v → RangeForeign n v
foreign_sound n v e (wrong q) = absurd (true≢false (sym (rw q at e)))
foreign_sound n v e (right a b None r q) = absurd (true≢false (sym (rw q at e)))
foreign_sound n v e (right a b (Some s) r q) =
    let f : not (eqb s n) ≡ true = rw q at e in
    record { first = a; last = b; stated = s; range = r; unlike = eqb-false s n (not-true (eqb s n) f) }

-- and back
foreign_complete : (n : ℕ) (v : List ℕ) → RangeForeign n v → is_foreign n (range_field v) ≡ true
foreign_complete n v r =
    rw (stated_says v r.first r.last (Some r.stated) r.range, ne_eqb r.stated n r.unlike)

-- the first and the last of a range
first_is : (a b : ℕ) (o : Option ℕ) → first_of (says a b o) ≡ a
first_is a b None = refl
first_is a b (Some n) = refl

last_is : (a b : ℕ) (o : Option ℕ) → last_of (says a b o) ≡ b
last_is a b None = refl
last_is a b (Some n) = refl

-- how many bytes it has
span_is : (v : List ℕ) (a b : ℕ) (o : Option ℕ) → RangeStated v a b o → a ≤ b → a + span_of (range_field v) ≡ suc b
span_is v a b o r h =
    let x : first_of (range_field v) ≡ a = ap first_of (stated_says v a b o r) ∙ first_is a b o in
    let y : last_of (range_field v) ≡ b = ap last_of (stated_says v a b o r) ∙ last_is a b o in
    rw (x, y) (omega arith)

-- the three texts of a value of the form, by what the value begins with
abbrev after_unit : List ℕ → List ℕ
after_unit v = drop 6 v

abbrev after-dash : List ℕ → List ℕ
after-dash v = drop 1 (after_digits (after_unit v))

abbrev after-slash : List ℕ → List ℕ
after-slash v = drop 1 (after_digits (after-dash v))

-- they are these
record Texts (v first last length : List ℕ) : Type 0 where
  pub first_text : first ≡ digits (after_unit v)
  pub last_text : last ≡ digits (after-dash v)
  pub length_text : length ≡ after-slash v

texts : (v : List ℕ) (a b : ℕ) (o : Option ℕ) (d : ContentRangeText v a b o) → Texts v d.first d.last d.complete
texts v a b o d =
    let f = d.first in
    let l = d.last in
    let s = d.complete in
    let fd = d.is_first.digits.digits in
    let ld = d.is_last.digits.digits in
    let one : after_unit v ≡ f ++ (dash ∷ (l ++ (slash ∷ s))) = ap after_unit d.text in
    let two : after-dash v ≡ l ++ (slash ∷ s) = rw (one, digits-behind f dash (l ++ (slash ∷ s)) fd refl) in
    record {
      first_text = rw one (sym (digits-run f dash (l ++ (slash ∷ s)) fd refl));
      last_text = rw two (sym (digits-run l slash s ld refl));
      length_text = rw (two, digits-behind l slash s ld refl);
    }

-- one text states one length
one_length : (s : List ℕ) (o p : Option ℕ) → LengthText s o → LengthText s p → o ≡ p
one_length s o p (unknown q e) (unknown r f) = e ∙ sym f
one_length s o p (unknown q e) (stated n d f) = absurd (true≢false (sym (rw q at d.digits.digits)))
one_length s o p (stated m d e) (unknown q f) = absurd (true≢false (sym (rw q at d.digits.digits)))
one_length s o p (stated m c e) (stated n d f) = e ∙ ap {B = Option ℕ} Some (c.value ∙ sym d.value) ∙ sym f

-- a value has the form in one way
one_way : (v : List ℕ) (a b c d : ℕ) (o p : Option ℕ) → ContentRangeText v a b o → ContentRangeText v c d p → (a ≡ c) × (b ≡ d) × (o ≡ p)
one_way v a b c d o p x y =
    let s = texts v a b o x in
    let t = texts v c d p y in (
      x.is_first.value ∙ ap decimal (s.first_text ∙ sym t.first_text) ∙ sym y.is_first.value,
      x.is_last.value ∙ ap decimal (s.last_text ∙ sym t.last_text) ∙ sym y.is_last.value,
      one_length (after-slash v) o p (rw s.length_text at x.is_length) (rw t.length_text at y.is_length),
    )

-- every value
pub content_ranges-decided : ContentRangesDecided
content_ranges-decided v = record {
  of = λ a b n. (λ e. of_sound v a b n e (view v), stated_says v a b (Some n));
  span = λ a b. (λ e. span_sound v a b e (view v), stated_says v a b None);
  wrong = (λ e a b o r. says_wrong a b o (sym (stated_says v a b o r) ∙ e), λ n. wrong_back v n (view v));
  there = λ e. absent v e (view v);
  first = λ a b o r. ap first_of (stated_says v a b o r) ∙ first_is a b o;
  last = λ a b o r. ap last_of (stated_says v a b o r) ∙ last_is a b o;
  span_of_value = span_is v;
  right = λ n. (λ e. right_sound n v e (view v), right_complete n v);
  foreign = λ n. (λ e. foreign_sound n v e (view v), foreign_complete n v);
  unique = one_way v;
}

-- a value that is read as wrong has no such form
none_of : (v : List ℕ) → range_field v ≡ Wrong → (a b : ℕ) (o : Option ℕ) → RangeStated v a b o → ⊥
none_of v e a b o r = says_wrong a b o (sym (stated_says v a b o r) ∙ e)

-- a value that is wrong for a copy
not_right : (n : ℕ) (v : List ℕ) → is_wrong n (range_field v) ≡ true → RangeRight n v → ⊥
not_right n v e r = true≢false (sym e ∙ right_complete n v r)

-- both sides of an edge
pub content_range_examples : ContentRangeExamples
unfolding range_field
content_range_examples = record {
  whole = ((content_ranges-decided (codes "bytes 500-999/8000")).of 500 999 8000).0 refl;
  unknown = ((content_ranges-decided (codes "bytes 0-0/*")).span 0 0).0 refl;
  largest = ((content_ranges-decided (codes "bytes 0-0/1099511627776")).of 0 0 1099511627776).0 refl;
  too_large = none_of (codes "bytes 0-0/1099511627777") refl;
  no_first = none_of (codes "bytes -0/1") refl;
  two_spaces = none_of (codes "bytes  0-0/1") refl;
  unsatisfied = none_of (codes "bytes */1234") refl;
  exact = ((content_ranges-decided (codes "bytes 0-0/1")).right 1).0 refl;
  at_length = not_right 2 (codes "bytes 0-1/1") refl;
  backward = not_right 9 (codes "bytes 2-1/9") refl;
  beyond = not_right 1 (codes "bytes 0-1/*") refl;
}
