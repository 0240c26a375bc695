-- The field lines of a head so far, and one more: what the parser has gathered is what the lookups say, and it refuses the line exactly by a fault of it.
use Prim.Native.Nat.{ℕ, suc, ◌+◌, ◌≤◌, ◌<◌}
use mathlib.Core.Path.{◌≡◌, refl, sym, subst, ◌∙◌}
use mathlib.Core.Bool.{Bool, true, false, cond, not, ◌||◌, true≢false}
use mathlib.Core.List.{List, [], ◌∷◌, ◌++◌}
use Rattle.std.specs.Prelude.{Option, None, Some}
use native.Mathlib.Omega.{arith}
use lib.Dec.{eqb, leb}
use lib.ListN.{length, length-append}
use borrow.Author.Tests.{leb-true, leb-false, not-false}
use Rattle.rules_server.specs.Numerals.{decimal}
use Rattle.rules_tablet.specs.Limits.{max_fields}
use Rattle.rules_tablet.specs.Fields.{is_field, name_of, value_of, Name, etag, type, range, size, transfer, other, kind_of, is_size, type_field, boundary_of}
use Rattle.rules_tablet.specs.Fields.{range_field}
use Rattle.rules_tablet.specs.Heads.{kept_tag}
use Rattle.rules_tablet.specs.Parsers.{Parser, refuse, with_line, kept_boundary, head_field, field_line}
use Rattle.rules_tablet.specs.declared.RangeField.TheVariants.{Absent}
use Rattle.rules_tablet.specs.declared.TypeField.TheVariants.{Absent as NoType}
use Rattle.rules_tablet.specs.declared.Head.{Head}
use Rattle.rules_demands.specs.AcceptanceGrammar.{Line, FieldLine, FieldLines, number_of, is_named, count, lookup, Heading}
use Rattle.laws_reader.proofs.own_answers.Heads.{head_of, in_head}
use Rattle.laws_refusals.proofs.acceptance.Fields.{said_or, none-some, some_value, some-count}
use Rattle.laws_refusals.proofs.acceptance.Heads.{tag-said, boundary_said}
use Rattle.laws_refusals.proofs.acceptance.Values.{type_there, range_there}
use Rattle.rules_demands.specs.RefusalHeads.{etag_counts, type_counts, range_counts, size_counts, LineFault, no_field, one_too_many, repeated, no_size, coded}

-- a value that was found, or this one
abbrev or_else : Option (List ℕ) → List ℕ → Option (List ℕ)
or_else None v = Some v
or_else (Some w) v = Some w

-- what is found of a name behind one line more, of the name kd and the value v
abbrev pub added : Name → Name → List ℕ → Option (List ℕ) → Option (List ℕ)
added k kd v o = cond (eqb (number_of k) (number_of kd)) (or_else o v) o

-- so it is with the line itself
pub lookup-last : (k : Name) (fs : List (List ℕ)) (l : List ℕ) → lookup k (fs ++ (l ∷ [])) ≡ added k (kind_of (name_of l)) (value_of l) (lookup k fs)
lookup-last k [] l = refl
lookup-last k (f ∷ fs) l = go (is_named k f) (lookup-last k fs l)
  where
    here : (b : Bool) → Some (value_of f) ≡ cond b (or_else (Some (value_of f)) (value_of l)) (Some (value_of f))
    here true = refl
    here false = refl

    go : (b : Bool) → lookup k (fs ++ (l ∷ [])) ≡ added k (kind_of (name_of l)) (value_of l) (lookup k fs)
        → cond b (Some (value_of f)) (lookup k (fs ++ (l ∷ []))) ≡ added k (kind_of (name_of l)) (value_of l) (cond b (Some (value_of f)) (lookup k fs))
    go true ih = here (is_named k l)
    go false ih = ih

-- how many lines have a name behind more lines
pub count-append : (k : Name) (a b : List (List ℕ)) → count k (a ++ b) ≡ count k a + count k b
count-append k [] b = omega arith
count-append k (f ∷ fs) b = go (is_named k f) (count-append k fs b)
  where
    go : (x : Bool) → count k (fs ++ b) ≡ count k fs + count k b
        → cond x (suc (count k (fs ++ b))) (count k (fs ++ b)) ≡ cond x (suc (count k fs)) (count k fs) + count k b
    go true ih = omega arith
    go false ih = ih

-- what is not found is not counted
pub none-count : (k : Name) (fs : List (List ℕ)) → lookup k fs ≡ None → count k fs ≡ 0
none-count k [] e = refl
none-count k (f ∷ fs) e = go (is_named k f) (none-count k fs) e
  where
    go : (x : Bool) → (lookup k fs ≡ None → count k fs ≡ 0) → cond x (Some (value_of f)) (lookup k fs) ≡ None → cond x (suc (count k fs)) (count k fs) ≡ 0
    go true ih e = absurd (none-some (value_of f) (sym e))
    go false ih e = ih e

-- whether a value was found
abbrev pub is_some : Option (List ℕ) → Bool
is_some None = false
is_some (Some v) = true

-- the head that these lookups say, with so many lines
abbrev head_by : ℕ → ℕ → (oe ot or os : Option (List ℕ)) → Head
head_by s k oe ot or os = head_of s k (said_or false (λ v. true) oe) (said_or NoType type_field ot) (said_or Absent range_field or)
    (said_or None (λ v. Some (decimal v)) os)

-- a parser behind the field lines that these lookups are of
abbrev behind_by : ℕ → ℕ → (oe ot or os : Option (List ℕ)) → Parser
behind_by s k oe ot or os = in_head (head_by s k oe ot or os) (said_or [] kept_tag oe) (said_or [] (λ v. kept_boundary (type_field v) (boundary_of v)) ot)

-- the head that field lines say, behind the status s
abbrev pub said : ℕ → List (List ℕ) → Head
said s fs = head_by s (length fs) (lookup etag fs) (lookup type fs) (lookup range fs) (lookup size fs)

-- the parser behind a status line of the status s and these field lines
abbrev pub behind : ℕ → List (List ℕ) → Parser
behind s fs = in_head (said s fs) (tag-said fs) (boundary_said fs)

-- a field line of the name kd and the value v is refused
abbrev clash : Name → List ℕ → (oe ot or os : Option (List ℕ)) → Bool
clash etag v oe ot or os = is_some oe
clash type v oe ot or os = is_some ot
clash range v oe ot or os = is_some or
clash size v oe ot or os = is_some os || not (is_size v)
clash transfer v oe ot or os = true
clash other v oe ot or os = false

-- so it is by the parser
field_by : (kd : Name) (v l : List ℕ) (s k : ℕ) (oe ot or os : Option (List ℕ))
    → head_field kd v (with_line l true (behind_by s k oe ot or os)) (head_by s k oe ot or os)
    ≡ cond (clash kd v oe ot or os) (refuse 11 (with_line l true (behind_by s k oe ot or os)))
    (behind_by s (suc k) (added etag kd v oe) (added type kd v ot) (added range kd v or) (added size kd v os))
field_by etag v l s k None ot or os = refl
field_by etag v l s k (Some w) ot or os = refl
field_by type v l s k oe None or os = refl
field_by type v l s k oe (Some w) or os = rw (type_there w)
field_by range v l s k oe ot None os = refl
field_by range v l s k oe ot (Some w) os = rw (range_there w)
field_by size v l s k oe ot or None = go (is_size v)
  where
    go : (b : Bool) → cond b (behind_by s (suc k) oe ot or (Some v)) (refuse 11 (with_line l true (behind_by s k oe ot or None))) ≡ cond (not b)
        (refuse 11 (with_line l true (behind_by s k oe ot or None))) (behind_by s (suc k) oe ot or (Some v))
    go true = refl
    go false = refl
field_by size v l s k oe ot or (Some w) = refl
field_by transfer v l s k oe ot or os = refl
field_by other v l s k oe ot or os = refl

-- a field line that is not refused: nothing of its name was found, it is no Transfer-Encoding, and a Content-Length is one
record Free (kd : Name) (v : List ℕ) (oe ot or os : Option (List ℕ)) : Type 0 where
  pub free_etag : eqb (number_of etag) (number_of kd) ≡ true → oe ≡ None
  pub free_type : eqb (number_of type) (number_of kd) ≡ true → ot ≡ None
  pub free_range : eqb (number_of range) (number_of kd) ≡ true → or ≡ None
  pub free_size : eqb (number_of size) (number_of kd) ≡ true → os ≡ None
  pub right_size : eqb (number_of size) (number_of kd) ≡ true → is_size v ≡ true
  pub uncoded : eqb (number_of transfer) (number_of kd) ≡ false

-- nothing was found
pub unfound : (o : Option (List ℕ)) → is_some o ≡ false → o ≡ None
unfound None e = refl
unfound (Some v) e = absurd (true≢false e)

-- neither of two
neither : (a b : Bool) → (a || b) ≡ false → (a ≡ false) × (b ≡ false)
neither true b e = absurd (true≢false e)
neither false b e = (refl, e)

-- another name
pub another : {A : Type 0} → false ≡ true → A
another e = absurd (true≢false (sym e))

-- a field line that is not refused, by its name
free : (kd : Name) (v : List ℕ) (oe ot or os : Option (List ℕ)) → clash kd v oe ot or os ≡ false → Free kd v oe ot or os
free etag v oe ot or os e = record {
  free_etag = λ q. unfound oe e;
  free_type = another;
  free_range = another;
  free_size = another;
  right_size = another;
  uncoded = refl;
}
free type v oe ot or os e = record {
  free_etag = another;
  free_type = λ q. unfound ot e;
  free_range = another;
  free_size = another;
  right_size = another;
  uncoded = refl;
}
free range v oe ot or os e = record {
  free_etag = another;
  free_type = another;
  free_range = λ q. unfound or e;
  free_size = another;
  right_size = another;
  uncoded = refl;
}
free size v oe ot or os e =
    let f = neither (is_some os) (not (is_size v)) e in
    record {
      free_etag = another;
      free_type = another;
      free_range = another;
      free_size = λ q. unfound os f.0;
      right_size = λ q. not-false (is_size v) f.1;
      uncoded = refl;
    }
free transfer v oe ot or os e = absurd (true≢false e)
free other v oe ot or os e = record {
  free_etag = another;
  free_type = another;
  free_range = another;
  free_size = another;
  right_size = another;
  uncoded = refl;
}

-- something was found
pub found-count : (k : Name) (fs : List (List ℕ)) → is_some (lookup k fs) ≡ true → 0 < count k fs
found-count k fs e = go (lookup k fs) refl e
  where
    go : (o : Option (List ℕ)) → lookup k fs ≡ o → is_some o ≡ true → 0 < count k fs
    go None f e = another e
    go (Some v) f e = some-count k fs v f

-- a line that is refused by its name or value has a fault
clash_fault : (fs : List (List ℕ)) (l : List ℕ) (kd : Name) → kind_of (name_of l) ≡ kd
    → clash kd (value_of l) (lookup etag fs) (lookup type fs) (lookup range fs) (lookup size fs) ≡ true → LineFault fs l
clash_fault fs l etag e c = repeated etag (etag_counts refl) (rw e) (found-count etag fs c)
clash_fault fs l type e c = repeated type (type_counts refl) (rw e) (found-count type fs c)
clash_fault fs l range e c = repeated range (range_counts refl) (rw e) (found-count range fs c)
clash_fault fs l size e c = go (is_some (lookup size fs)) (is_size (value_of l)) refl refl c
  where
    go : (a b : Bool) → is_some (lookup size fs) ≡ a → is_size (value_of l) ≡ b → (a || not b) ≡ true → LineFault fs l
    go true b f g c = repeated size (size_counts refl) (rw e) (found-count size fs f)
    go false true f g c = another c
    go false false f g c = no_size (rw e) g
clash_fault fs l transfer e c = coded (rw e)
clash_fault fs l other e c = another c

-- a name of which at most one line may be, behind one line more
pub one_more : (k : Name) (fs : List (List ℕ)) (l : List ℕ) → count k fs ≤ 1 → (is_named k l ≡ true → lookup k fs ≡ None) → count k (fs ++ (l ∷ [])) ≤ 1
one_more k fs l h f = let e = count-append k fs (l ∷ []) in go (is_named k l) refl e
  where
    go : (b : Bool) → is_named k l ≡ b → count k (fs ++ (l ∷ [])) ≡ count k fs + cond b 1 0 → count k (fs ++ (l ∷ [])) ≤ 1
    go true g e = let z = none-count k fs (f g) in omega arith
    go false g e = omega arith

-- field lines, and one more
pub lines-last : (fs : List (List ℕ)) (l : List ℕ) → FieldLines fs → FieldLine l → FieldLines (fs ++ (l ∷ []))
lines-last [] l f g = (g, tt)
lines-last (x ∷ fs) l f g = (f.0, lines-last fs l f.1 g)

-- the size that is found behind one line more
size_last : (fs : List (List ℕ)) (l : List ℕ) → ((v : List ℕ) → lookup size fs ≡ Some v → is_size v ≡ true) → (is_named size l ≡ true → is_size (value_of l) ≡ true)
    → (v : List ℕ) → lookup size (fs ++ (l ∷ [])) ≡ Some v → is_size v ≡ true
size_last fs l h g v e = go (is_named size l) (lookup size fs) refl refl (sym (lookup-last size fs l) ∙ e)
  where
    go : (b : Bool) (o : Option (List ℕ)) → is_named size l ≡ b → lookup size fs ≡ o → cond b (or_else o (value_of l)) o ≡ Some v → is_size v ≡ true
    go true None p q e = subst (λ (w : List ℕ). is_size w ≡ true) (some_value (value_of l) v e) (g p)
    go true (Some w) p q e = h v (q ∙ e)
    go false o p q e = h v (q ∙ e)

-- a line that was allowed behind a heading makes a longer heading
heading_more : (status : List ℕ) (fs : List (List ℕ)) (l : List ℕ) → Heading status fs → Line l → is_field l ≡ true → length fs < max_fields
    → Free (kind_of (name_of l)) (value_of l) (lookup etag fs) (lookup type fs) (lookup range fs) (lookup size fs) → Heading status (fs ++ (l ∷ []))
heading_more status fs l h line formed room f =
    let longer = length-append fs (l ∷ []) in
    let coded-more = count-append transfer fs (l ∷ []) in
    let uncoded : count transfer (l ∷ []) ≡ 0 = rw f.uncoded in
    record {
      status_bytes = h.status_bytes;
      status_formed = h.status_formed;
      lines = lines-last fs l h.lines (record { line = line; formed = formed });
      few = omega (arith, longer);
      one_etag = one_more etag fs l h.one_etag f.free_etag;
      one_type = one_more type fs l h.one_type f.free_type;
      one_range = one_more range fs l h.one_range f.free_range;
      one_size = one_more size fs l h.one_size f.free_size;
      no_transfer = omega (arith, h.no_transfer);
      sizes = size_last fs l h.sizes f.right_size;
    }

-- a line behind a heading: it has a fault and is refused, or the heading goes on
pub data FieldCase (status : List ℕ) (s : ℕ) (fs : List (List ℕ)) (l : List ℕ) : Type 0 where
  faulty : LineFault fs l → field_line l (with_line l true (behind s fs)) ≡ refuse 11 (with_line l true (behind s fs)) → FieldCase status s fs l
  longer : Heading status (fs ++ (l ∷ [])) → field_line l (with_line l true (behind s fs)) ≡ behind s (fs ++ (l ∷ [])) → FieldCase status s fs l

-- the parser behind a heading with one line more
behind_more : (s : ℕ) (fs : List (List ℕ)) (l : List ℕ)
    → behind_by s (suc (length fs)) (added etag (kind_of (name_of l)) (value_of l) (lookup etag fs)) (added type (kind_of (name_of l)) (value_of l) (lookup type fs))
    (added range (kind_of (name_of l)) (value_of l) (lookup range fs)) (added size (kind_of (name_of l)) (value_of l) (lookup size fs))
    ≡ behind s (fs ++ (l ∷ []))
behind_more s fs l =
    let longer = length-append fs (l ∷ []) in
    let len : length (fs ++ (l ∷ [])) ≡ suc (length fs) = omega arith in
    rw (lookup-last etag fs l, lookup-last type fs l, lookup-last range fs l, lookup-last size fs l, len)

-- every line is one of these
pub field_case : (status : List ℕ) (s : ℕ) (fs : List (List ℕ)) (l : List ℕ) → Heading status fs → Line l → FieldCase status s fs l
unfolding field_line
field_case status s fs l h line = go (leb max_fields (length fs)) (is_field l)
    (clash (kind_of (name_of l)) (value_of l) (lookup etag fs) (lookup type fs) (lookup range fs) (lookup size fs)) refl refl refl
  where
    go : (a b c : Bool) → leb max_fields (length fs) ≡ a → is_field l ≡ b
        → clash (kind_of (name_of l)) (value_of l) (lookup etag fs) (lookup type fs) (lookup range fs) (lookup size fs) ≡ c → FieldCase status s fs l
    go true b c e f g = let m = leb-true max_fields (length fs) e in faulty (one_too_many (omega (arith, h.few))) (rw e)
    go false false c e f g = faulty (no_field f) (rw (e, f))
    go false true true e f g =
        let by = field_by (kind_of (name_of l)) (value_of l) l s (length fs) (lookup etag fs) (lookup type fs) (lookup range fs) (lookup size fs) in
        faulty (clash_fault fs l (kind_of (name_of l)) refl g) (rw (e, f) (by ∙ rw g))
    go false true false e f g =
        let by = field_by (kind_of (name_of l)) (value_of l) l s (length fs) (lookup etag fs) (lookup type fs) (lookup range fs) (lookup size fs) in
        longer (heading_more status fs l h line f (leb-false max_fields (length fs) e)
        (free (kind_of (name_of l)) (value_of l) (lookup etag fs) (lookup type fs) (lookup range fs) (lookup size fs) g))
        (rw (e, f) (by ∙ rw (g, behind_more s fs l)))

-- field lines without the last ones
pub lines-front : (a b : List (List ℕ)) → FieldLines (a ++ b) → FieldLines a
lines-front [] b f = tt
lines-front (x ∷ a) b f = (f.0, lines-front a b f.1)

-- the last of field lines is one
pub last-line : (fs : List (List ℕ)) (l : List ℕ) → FieldLines (fs ++ (l ∷ [])) → FieldLine l
last-line [] l f = f.0
last-line (x ∷ fs) l f = last-line fs l f.1

-- a line among field lines is one
pub line_in_lem : (before rest : List (List ℕ)) (l : List ℕ) → FieldLines (before ++ (l ∷ rest)) → Line l
line_in_lem [] rest l f = f.0.line
line_in_lem (x ∷ before) rest l f = line_in_lem before rest l f.1

-- a heading without its last lines is one
pub heading_front : (status : List ℕ) (a b : List (List ℕ)) → Heading status (a ++ b) → Heading status a
heading_front status a b h =
    let longer = length-append a b in
    let ce = count-append etag a b in
    let ct = count-append type a b in
    let cr = count-append range a b in
    let cs = count-append size a b in
    let cx = count-append transfer a b in
    record {
      status_bytes = h.status_bytes;
      status_formed = h.status_formed;
      lines = lines-front a b h.lines;
      few = omega (arith, longer, h.few);
      one_etag = omega (arith, ce, h.one_etag);
      one_type = omega (arith, ct, h.one_type);
      one_range = omega (arith, cr, h.one_range);
      one_size = omega (arith, cs, h.one_size);
      no_transfer = omega (arith, cx, h.no_transfer);
      sizes = λ v e. h.sizes v (lookup-front size a b v e);
    }
  where
    lookup-front : (k : Name) (a b : List (List ℕ)) (v : List ℕ) → lookup k a ≡ Some v → lookup k (a ++ b) ≡ Some v
    lookup-front k [] b v e = absurd (none-some v e)
    lookup-front k (x ∷ a) b v e = go (is_named k x) (lookup-front k a b v) e
      where
        go : (c : Bool) → (lookup k a ≡ Some v → lookup k (a ++ b) ≡ Some v) → cond c (Some (value_of x)) (lookup k a) ≡ Some v
            → cond c (Some (value_of x)) (lookup k (a ++ b)) ≡ Some v
        go true ih e = e
        go false ih e = ih e

-- a name that may stand once does not stand again in a longer heading
pub once : (k : Name) (fs : List (List ℕ)) (l : List ℕ) → count k (fs ++ (l ∷ [])) ≤ 1 → is_named k l ≡ true → 0 < count k fs → ⊥
once k fs l h e f =
    let c = count-append k fs (l ∷ []) in
    let one : count k (l ∷ []) ≡ 1 = rw e in
    omega arith

-- the last line of a heading has no fault
pub last_right : (status : List ℕ) (fs : List (List ℕ)) (l : List ℕ) → Heading status (fs ++ (l ∷ [])) → LineFault fs l → ⊥
last_right status fs l h (no_field e) = true≢false (sym (last-line fs l h.lines).formed ∙ e)
last_right status fs l h (one_too_many e) = let longer = length-append fs (l ∷ []) in omega (arith, longer, h.few)
last_right status fs l h (repeated k (etag_counts c) e f) =
    once etag fs l h.one_etag (subst (λ (x : Name). is_named x l ≡ true) c e) (subst (λ (x : Name). 0 < count x fs) c f)
last_right status fs l h (repeated k (type_counts c) e f) =
    once type fs l h.one_type (subst (λ (x : Name). is_named x l ≡ true) c e) (subst (λ (x : Name). 0 < count x fs) c f)
last_right status fs l h (repeated k (range_counts c) e f) =
    once range fs l h.one_range (subst (λ (x : Name). is_named x l ≡ true) c e) (subst (λ (x : Name). 0 < count x fs) c f)
last_right status fs l h (repeated k (size_counts c) e f) =
    once size fs l h.one_size (subst (λ (x : Name). is_named x l ≡ true) c e) (subst (λ (x : Name). 0 < count x fs) c f)
last_right status fs l h (no_size e f) = go (lookup size fs) refl
  where
    go : (o : Option (List ℕ)) → lookup size fs ≡ o → ⊥
    go None g = true≢false (sym (h.sizes (value_of l) (lookup-last size fs l ∙ rw (e, g))) ∙ f)
    go (Some v) g = once size fs l h.one_size e (some-count size fs v g)
last_right status fs l h (coded e) =
    let c = count-append transfer fs (l ∷ []) in
    let one : count transfer (l ∷ []) ≡ 1 = rw e in
    omega (arith, c, one, h.no_transfer)
