-- Which of the names that count a name is; and both sides of some edges of field lines.
use Prim.Native.Nat.{ℕ}
use mathlib.Core.Path.{◌≡◌, refl, sym, subst, ◌∙◌}
use mathlib.Core.Bool.{Bool, true, false, ◌&&◌, true≢false}
use mathlib.Core.List.{List}
use native.Mathlib.Omega.{arith}
use lib.ListN.{length}
use Rattle.rules_server.specs.Octets.{codes, same, same_fold}
use Rattle.rules_server.specs.Texts.{etag_name, type_name, range_name, length_name}
use Rattle.rules_tablet.specs.Fields.{is_field, name_of, value_of, Name, etag, type, range, size, transfer, other, kind_of}
use Rattle.rules_demands.specs.GrammarLetters.{AnyCase}
use Rattle.rules_demands.specs.GrammarFieldLine.{Named, NamesDecided, TagLinesDecided, FieldLineText, FieldLineExamples}
use Rattle.rules_demands.specs.Demand3Foreign.{gives_tag}
use Rattle.laws_server.proofs.grammar.Bytes.{and_left, and_right}
use Rattle.laws_reader.proofs.read_back.Plain.{same_itself}
use Rattle.laws_refusals.proofs.acceptance.Judging.{same_equal}
use Rattle.laws_server.proofs.grammar.Letters.{fold_any, any_fold, any_length}
use Rattle.laws_refusals.proofs.grammars.FieldLine.{complete, name_is, value_is, sound}

-- the name of a coding
abbrev coding_name : List ℕ
coding_name = codes "Transfer-Encoding"

-- a text that is not another one in any case
unfolded : (n p : List ℕ) → same_fold n p ≡ false → AnyCase n p → ⊥
unfolded n p e a = true≢false (sym (any_fold n p a) ∙ e)

-- and back
apart : (n p : List ℕ) → (AnyCase n p → ⊥) → same_fold n p ≡ false
apart n p h = go (same_fold n p) refl
  where
    go : (b : Bool) → same_fold n p ≡ b → same_fold n p ≡ false
    go true t = absurd (h (fold_any n p t))
    go false t = t

-- one text is not two of different lengths
longer : (n p q : List ℕ) → AnyCase n q → (length q ≡ length p → ⊥) → same_fold n p ≡ false
longer n p q a h = apart n p (λ b. h (sym (any_length n q a) ∙ any_length n p b))

-- a name is of its kind
found : (n : List ℕ) → Named (kind_of n) n
unfolding kind_of
found n = by_etag (same_fold n etag_name) refl
  where
    by_coding : (b : Bool) → same_fold n etag_name ≡ false → same_fold n type_name ≡ false → same_fold n range_name ≡ false → same_fold n length_name ≡ false
        → same_fold n coding_name ≡ b → Named (kind_of n) n
    by_coding true e t r s c = rw (e, t, r, s, c) (fold_any n coding_name c)
    by_coding false e t r s c =
        rw (e, t, r, s, c) (unfolded n etag_name e, unfolded n type_name t, unfolded n range_name r, unfolded n length_name s, unfolded n coding_name c)

    by_size : (b : Bool) → same_fold n etag_name ≡ false → same_fold n type_name ≡ false → same_fold n range_name ≡ false → same_fold n length_name ≡ b
        → Named (kind_of n) n
    by_size true e t r s = rw (e, t, r, s) (fold_any n length_name s)
    by_size false e t r s = by_coding (same_fold n coding_name) e t r s refl

    by_range : (b : Bool) → same_fold n etag_name ≡ false → same_fold n type_name ≡ false → same_fold n range_name ≡ b → Named (kind_of n) n
    by_range true e t r = rw (e, t, r) (fold_any n range_name r)
    by_range false e t r = by_size (same_fold n length_name) e t r refl

    by_type : (b : Bool) → same_fold n etag_name ≡ false → same_fold n type_name ≡ b → Named (kind_of n) n
    by_type true e t = rw (e, t) (fold_any n type_name t)
    by_type false e t = by_range (same_fold n range_name) e t refl

    by_etag : (b : Bool) → same_fold n etag_name ≡ b → Named (kind_of n) n
    by_etag true e = rw e (fold_any n etag_name e)
    by_etag false e = by_type (same_fold n type_name) e refl

-- a name of a kind is of no other
kind_is : (k : Name) (n : List ℕ) → Named k n → kind_of n ≡ k
unfolding kind_of
kind_is etag n a = rw (any_fold n etag_name a)
kind_is type n a = rw (longer n etag_name type_name a (λ q. omega arith), any_fold n type_name a)
kind_is range n a =
    rw (longer n etag_name range_name a (λ q. omega arith), longer n type_name range_name a (λ q. omega arith), any_fold n range_name a)
kind_is size n a =
    rw (
      longer n etag_name length_name a (λ q. omega arith),
      longer n type_name length_name a (λ q. omega arith),
      longer n range_name length_name a (λ q. omega arith),
      any_fold n length_name a,
    )
kind_is transfer n a =
    rw (
      longer n etag_name coding_name a (λ q. omega arith),
      longer n type_name coding_name a (λ q. omega arith),
      longer n range_name coding_name a (λ q. omega arith),
      longer n length_name coding_name a (λ q. omega arith),
      any_fold n coding_name a,
    )
kind_is other n a =
    rw (
      apart n etag_name a.0,
      apart n type_name a.1,
      apart n range_name a.2,
      apart n length_name a.3,
      apart n coding_name a.4,
    )

-- every name
pub names-decided : NamesDecided
names-decided n k = (λ e. subst (λ (j : Name). Named j n) e (found n), kind_is k n)

-- a line that gives a tag
tag_sound : (tag l : List ℕ) → gives_tag tag l ≡ true → (name : List ℕ) × Named etag name × FieldLineText l name tag
unfolding gives_tag
tag_sound tag l e =
    let both = and_left (is_field l && same_fold (name_of l) etag_name) (same (value_of l) tag) e in
    let value = same_equal (value_of l) tag (and_right (is_field l && same_fold (name_of l) etag_name) (same (value_of l) tag) e) in
    let line = sound l (and_left (is_field l) (same_fold (name_of l) etag_name) both) in (
      name_of l,
      fold_any (name_of l) etag_name (and_right (is_field l) (same_fold (name_of l) etag_name) both),
      subst (λ (v : List ℕ). FieldLineText l (name_of l) v) value line,
    )

-- and back
tag_complete : (tag l name : List ℕ) → Named etag name → FieldLineText l name tag → gives_tag tag l ≡ true
unfolding gives_tag
tag_complete tag l name a d =
    rw (complete l name tag d, ← value_is l name tag d, ← name_is l name tag d, any_fold name etag_name a) (same_itself tag)

-- every line
pub tag-lines-decided : TagLinesDecided
tag-lines-decided tag l = (tag_sound tag l, λ p. tag_complete tag l p.0 p.1 p.2)

-- a line that is not taken is not derived
no_field : (l : List ℕ) → is_field l ≡ false → (n v : List ℕ) → FieldLineText l n v → ⊥
no_field l e n v d = true≢false (sym (complete l n v d) ∙ e)

-- both sides of an edge
pub field_line-examples : FieldLineExamples
unfolding is_field kind_of
field_line-examples = record {
  blanks = sound (codes "a: \tb c\t ") refl;
  no_value = sound (codes "a:") refl;
  second_colon = sound (codes "a:b:c") refl;
  no_colon = no_field (codes "a") refl;
  no_name = no_field (codes ":b") refl;
  blank_in_name = no_field (codes "a :b") refl;
  bracket_in_name = no_field (codes "a]:b") refl;
  any_case = fold_any (codes "eTAG") etag_name refl;
  too_long = unfolded (codes "ETags") etag_name refl;
}
