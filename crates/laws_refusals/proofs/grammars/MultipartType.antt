-- A value is read as the type of a multipart exactly when its grammar derives it.
use Prim.Native.Nat.{ℕ, suc, ◌≤◌}
use mathlib.Core.Path.{◌≡◌, refl, sym, ap, subst, ◌∙◌}
use mathlib.Core.Bool.{Bool, true, false, not, ◌&&◌, ◌||◌, true≢false}
use mathlib.Core.List.{List, [], ◌∷◌, ◌++◌, append_assoc, append-nil}
use native.Mathlib.Omega.{arith}
use lib.Dec.{ltb, eqb}
use lib.ListN.{length, take, drop, take-append-drop, drop_of_length-le, replicate}
use lib.Seq.{take_at, drop_at}
use borrow.Author.Tests.{eqb-true, not-true, not-false, ltb-false, le-ltb}
use Rattle.rules_server.specs.Limits.{max_boundary}
use Rattle.rules_server.specs.Octets.{codes, all, is_nil, is_blank, is_boundary_byte, lower, same_fold, before, trim, trim_start, semicolon, space, tab}
use Rattle.rules_server.specs.Texts.{multipart_type}
use Rattle.rules_server.specs.Tags.{is_multipart_type, bad_boundary}
use Rattle.rules_tablet.specs.Fields.{type_field, parameter, boundary_of}
use Rattle.rules_tablet.specs.declared.TypeField.TheVariants.{Absent, Other, Multipart, Broken}
use Rattle.laws_server.proofs.grammar.Bytes.{and_left, and_right, and_both, all-append, all_weaker}
use Rattle.laws_server.proofs.grammar.Blanks.{solid, start_blanks, trim_solid, trim-before, trim-behind, padded, padded-before}
use Rattle.rules_demands.specs.GrammarLetters.{AnyCase}
use Rattle.rules_demands.specs.GrammarMultipartType.{Parameters, none, semicolon_then, MultipartText, BoundaryText, BoundaryParameter}
use Rattle.rules_demands.specs.GrammarMultipartType.{PartsText, MultipartSome, MultipartTypesDecided, MultipartTypeExamples}
use Rattle.laws_refusals.proofs.grammars.Texts.{or_left, or_right, is_other, before-at, before_alone, drop-behind, Cut, whole, parted, cut}
use Rattle.laws_refusals.proofs.grammars.Classes.{boundary_among, among_boundary}
use Rattle.laws_server.proofs.grammar.Letters.{fold_any, any_fold, any_length, alike-lower}

-- neither a blank nor a `;`
abbrev plain : ℕ → Bool
plain x = solid x && is_other semicolon x

-- so is a byte that is one but for its case
plain-alike : (x y : ℕ) → lower x ≡ lower y → plain (lower y) ≡ true → plain x ≡ true
plain-alike x y e h = go (eqb x space) (eqb x tab) (eqb x semicolon) refl refl refl
  where
    at : (c : ℕ) → eqb x c ≡ true → plain (lower c) ≡ true
    at c t = subst (λ (k : ℕ). plain k ≡ true) (sym e ∙ ap lower (eqb-true x c t)) h

    go : (a b c : Bool) → eqb x space ≡ a → eqb x tab ≡ b → eqb x semicolon ≡ c → plain x ≡ true
    go true b c s t u = absurd (true≢false (sym (at space s)))
    go false true c s t u = absurd (true≢false (sym (at tab t)))
    go false false true s t u = absurd (true≢false (sym (at semicolon u)))
    go false false false s t u = rw (s, t, u)

-- a text that is a text of such bytes in any case
any_plain : (t p : List ℕ) → AnyCase t p → all (λ (y : ℕ). plain (lower y)) p ≡ true → all plain t ≡ true
any_plain [] [] a e = refl
any_plain [] (y ∷ p) a e = absurd a
any_plain (x ∷ t) [] a e = absurd a
any_plain (x ∷ t) (y ∷ p) a e =
    and_both (plain x) (all plain t)
    (plain-alike x y (alike-lower x y a.0) (and_left (plain (lower y)) (all (λ (z : ℕ). plain (lower z)) p) e))
    (any_plain t p a.1 (and_right (plain (lower y)) (all (λ (z : ℕ). plain (lower z)) p) e))

-- it has no blanks
plain_solid : (t : List ℕ) → all plain t ≡ true → all solid t ≡ true
plain_solid t e = all_weaker plain solid (λ x h. and_left (solid x) (is_other semicolon x) h) t e

-- and no `;`
plain_other : (t : List ℕ) → all plain t ≡ true → all (is_other semicolon) t ≡ true
plain_other t e = all_weaker plain (is_other semicolon) (λ x h. and_right (solid x) (is_other semicolon x) h) t e

-- blanks have no `;`
blank_other : (x : ℕ) → is_blank x ≡ true → is_other semicolon x ≡ true
blank_other x e = go (eqb x semicolon) refl
  where
    go : (b : Bool) → eqb x semicolon ≡ b → is_other semicolon x ≡ true
    go true t = absurd (true≢false (sym (rw (eqb-true x semicolon t) at e)))
    go false t = ap not t

blanks_other : (w : List ℕ) → all is_blank w ≡ true → all (is_other semicolon) w ≡ true
blanks_other w e = all_weaker is_blank (is_other semicolon) blank_other w e

-- what stands before any `;`
before_parameters : (p rest : List ℕ) → all (is_other semicolon) p ≡ true → Parameters rest → before semicolon (p ++ rest) ≡ p
before_parameters p rest e (none q) = rw (q, append-nil p) (before_alone semicolon p e)
before_parameters p rest e (semicolon_then l q) = rw q (before-at semicolon p l e)

-- of a value of the type
module _ (v rest : List ℕ) (d : MultipartText v rest) where
  -- the type with blanks around it
  padding : List ℕ
  padding = d.leading ++ (d.name ++ d.trailing)

  name_plain : all plain d.name ≡ true
  name_plain = any_plain d.name multipart_type d.is_name refl

  padding_other : all (is_other semicolon) padding ≡ true
  unfolding padding
  padding_other =
      all-append (is_other semicolon) d.leading (d.name ++ d.trailing) (blanks_other d.leading d.before)
      (all-append (is_other semicolon) d.name d.trailing (plain_other d.name name_plain) (blanks_other d.trailing d.behind))

  -- the value is that and what stands behind
  value_text : v ≡ padding ++ rest
  unfolding padding
  value_text =
      d.text ∙ ap (λ (k : List ℕ). d.leading ++ k) (sym (append_assoc d.name d.trailing rest))
      ∙ sym (append_assoc d.leading (d.name ++ d.trailing) rest)

  -- before any `;`
  before_is : before semicolon v ≡ padding
  before_is = ap (before semicolon) value_text ∙ before_parameters padding rest padding_other d.parameters

  -- trimmed
  trimmed_is : trim padding ≡ d.name
  unfolding padding
  trimmed_is =
      trim-before d.leading (d.name ++ d.trailing) d.before ∙ trim-behind d.name d.trailing d.behind
      ∙ trim_solid d.name (plain_solid d.name name_plain)

  -- it is of that type
  named_complete : is_multipart_type v ≡ true
  unfolding is_multipart_type
  named_complete =
      ap (λ (k : List ℕ). same_fold (trim k) multipart_type) before_is ∙ ap (λ (k : List ℕ). same_fold k multipart_type) trimmed_is
      ∙ any_fold d.name multipart_type d.is_name

  -- what stands behind the `;`
  behind_is : (l : List ℕ) → rest ≡ semicolon ∷ l → drop (suc (length (before semicolon v))) v ≡ l
  behind_is l q =
      ap (λ (k : List ℕ). drop (suc (length k)) v) before_is
      ∙ ap (λ (k : List ℕ). drop (suc (length padding)) k) (value_text ∙ ap (λ (k : List ℕ). padding ++ k) q) ∙ drop-behind semicolon padding l

-- a value of the type, with what stands behind it
text_with : (v rest : List ℕ) → is_multipart_type v ≡ true → v ≡ before semicolon v ++ rest → Parameters rest → MultipartText v rest
unfolding is_multipart_type
text_with v rest e q p =
    let pad = padded (before semicolon v) in
    record {
      leading = pad.front;
      name = trim (before semicolon v);
      trailing = pad.back;
      before = pad.front_blank;
      behind = pad.back_blank;
      is_name = fold_any (trim (before semicolon v)) multipart_type e;
      parameters = p;
      text = q ∙ padded-before (before semicolon v) rest pad;
    }

-- any value of the type
named_sound : (v : List ℕ) → is_multipart_type v ≡ true → Cut semicolon v → MultipartSome v
named_sound v e (whole q) = record { rest = []; named = text_with v [] e (sym q ∙ sym (append-nil (before semicolon v))) (none refl) }
named_sound v e (parted h q) =
    let l = drop (suc (length (before semicolon v))) v in
    record { rest = semicolon ∷ l; named = text_with v (semicolon ∷ l) e q (semicolon_then l refl) }

-- a boundary by its tests
boundary_text : (b : List ℕ) → bad_boundary b ≡ false → BoundaryText b
unfolding bad_boundary
boundary_text b e =
    let first = or_left (is_nil b || ltb max_boundary (length b)) (not (all is_boundary_byte b)) e in
    record {
      some = some-length b (or_left (is_nil b) (ltb max_boundary (length b)) first);
      short = ltb-false max_boundary (length b) (or_right (is_nil b) (ltb max_boundary (length b)) first);
      bytes = boundary_among b
          (not-false (all is_boundary_byte b) (or_right (is_nil b || ltb max_boundary (length b)) (not (all is_boundary_byte b)) e));
    }
  where
    some-length : (l : List ℕ) → is_nil l ≡ false → 1 ≤ length l
    some-length [] t = absurd (true≢false t)
    some-length (x ∷ l) t = omega arith

-- and back
boundary_right : (b : List ℕ) → BoundaryText b → bad_boundary b ≡ false
unfolding bad_boundary
boundary_right b t = rw (some_bytes b t.some, le-ltb max_boundary (length b) t.short, among_boundary b t.bytes)
  where
    some_bytes : (l : List ℕ) → 1 ≤ length l → is_nil l ≡ false
    some_bytes [] h = absurd (omega arith)
    some_bytes (x ∷ l) h = refl

-- the word before a boundary
abbrev boundary_word : List ℕ
boundary_word = codes "boundary="

-- no blank stands before it
start_word : (word b : List ℕ) → AnyCase word boundary_word → trim_start (word ++ b) ≡ word ++ b
start_word [] b a = absurd a
start_word (x ∷ word) b a =
    let p = any_plain (x ∷ word) boundary_word a refl in
    rw (not-true (is_blank x) (and_left (solid x) (is_other semicolon x) (and_left (plain x) (all plain word) p)))

-- the parameter of a value of the type
parameter_is : (v rest b : List ℕ) → MultipartText v rest → (p : BoundaryParameter rest b) → parameter v ≡ p.word ++ b
parameter_is v rest b d p =
    ap trim_start (behind_is v rest d (p.leading ++ (p.word ++ b)) p.text)
    ∙ start_blanks p.leading (p.word ++ b) p.before ∙ start_word p.word b p.is_word

-- a value of the grammar: its boundary, and how it is read
module _ (v b : List ℕ) (d : PartsText v b) where
  word_length : length d.parameter.word ≡ 9
  word_length = any_length d.parameter.word boundary_word d.parameter.is_word

  boundary_is : boundary_of v ≡ b
  boundary_is =
      ap (drop 9) (parameter_is v d.rest b d.named d.parameter) ∙ drop_at d.parameter.word b 9 word_length

  word_is : take 9 (parameter v) ≡ d.parameter.word
  word_is = ap (take 9) (parameter_is v d.rest b d.named d.parameter) ∙ take_at d.parameter.word b 9 word_length

  parts_complete : type_field v ≡ Multipart
  unfolding type_field
  parts_complete =
      rw (
        named_complete v d.rest d.named,
        word_is,
        any_fold d.parameter.word boundary_word d.parameter.is_word,
        boundary_is,
        boundary_right b d.parameter.is_boundary,
      )

-- a text is blanks and what is left without them
record Led (l : List ℕ) : Type 0 where
  pub front : List ℕ
  pub blanks : all is_blank front ≡ true
  pub text : l ≡ front ++ trim_start l

led : (l : List ℕ) → Led l
led [] = record { front = []; blanks = refl; text = refl }
led (x ∷ l) = go (is_blank x) refl (led l)
  where
    go : (b : Bool) → is_blank x ≡ b → Led l → Led (x ∷ l)
    go true t r = record {
      front = x ∷ r.front;
      blanks = and_both (is_blank x) (all is_blank r.front) t r.blanks;
      text = rw t (ap (λ (k : List ℕ). x ∷ k) r.text);
    }
    go false t r = record { front = []; blanks = refl; text = rw t }

-- behind no `;` stands no parameter
no_parameter : (v : List ℕ) → before semicolon v ≡ v → same_fold (take 9 (parameter v)) boundary_word ≡ true → ⊥
no_parameter v q e =
    let gone : drop (suc (length (before semicolon v))) v ≡ [] = drop_of_length-le v {i = suc (length (before semicolon v))} (rw q (omega arith)) in
    true≢false (sym (rw gone at e))

-- a value of the type with the word and a boundary
parts_sound : (v : List ℕ) → is_multipart_type v ≡ true → same_fold (take 9 (parameter v)) boundary_word ≡ true → bad_boundary (boundary_of v) ≡ false
    → Cut semicolon v → PartsText v (boundary_of v)
parts_sound v e w b (whole q) = absurd (no_parameter v q w)
parts_sound v e w b (parted h q) =
    let l = drop (suc (length (before semicolon v))) v in
    let d = led l in
    record {
      rest = semicolon ∷ l;
      named = text_with v (semicolon ∷ l) e q (semicolon_then l refl);
      parameter = record {
        leading = d.front;
        word = take 9 (parameter v);
        before = d.blanks;
        is_word = fold_any (take 9 (parameter v)) boundary_word w;
        is_boundary = boundary_text (boundary_of v) b;
        text = ap (λ (k : List ℕ). semicolon ∷ k) (d.text ∙ ap (λ (k : List ℕ). d.front ++ k) (sym (take-append-drop 9 (parameter v))));
      };
    }

-- a value is of another type, or of the type with the parameter or without it
data View (v : List ℕ) : Type 0 where
  parts : PartsText v (boundary_of v) → type_field v ≡ Multipart → View v
  broken : is_multipart_type v ≡ true → type_field v ≡ Broken → View v
  another : is_multipart_type v ≡ false → type_field v ≡ Other → View v

view : (v : List ℕ) → View v
unfolding type_field
view v = by_type (is_multipart_type v) refl
  where
    by_boundary : (b : Bool) → is_multipart_type v ≡ true → same_fold (take 9 (parameter v)) boundary_word ≡ true → bad_boundary (boundary_of v) ≡ b → View v
    by_boundary true t w b = broken t (rw (t, w, b))
    by_boundary false t w b = parts (parts_sound v t w b (cut semicolon v)) (rw (t, w, b))

    by_word : (b : Bool) → is_multipart_type v ≡ true → same_fold (take 9 (parameter v)) boundary_word ≡ b → View v
    by_word true t w = by_boundary (bad_boundary (boundary_of v)) t w refl
    by_word false t w = broken t (rw (t, w))

    by_type : (b : Bool) → is_multipart_type v ≡ b → View v
    by_type true t = by_word (same_fold (take 9 (parameter v)) boundary_word) t refl
    by_type false t = another t (rw t)

-- the cases are apart
multipart-broken : Multipart ≡ Broken → ⊥
multipart-broken e = let z : ◌≡◌ {A = ℕ} 0 1 = cc in omega arith

multipart_other : Multipart ≡ Other → ⊥
multipart_other e = let z : ◌≡◌ {A = ℕ} 0 1 = cc in omega arith

broken_other : Broken ≡ Other → ⊥
broken_other e = let z : ◌≡◌ {A = ℕ} 0 1 = cc in omega arith

-- each reading, of a value with its view
module _ (v : List ℕ) where
  some-named : MultipartSome v → is_multipart_type v ≡ true
  some-named m = named_complete v m.rest m.named

  multipart_sound : (b : List ℕ) → type_field v ≡ Multipart → boundary_of v ≡ b → View v → PartsText v b
  multipart_sound b e q (parts p f) = rw (← q) p
  multipart_sound b e q (broken t f) = absurd (multipart-broken (sym e ∙ f))
  multipart_sound b e q (another t f) = absurd (multipart_other (sym e ∙ f))

  broken_sound : type_field v ≡ Broken → View v → MultipartSome v
  broken_sound e (parts p f) = absurd (multipart-broken (sym f ∙ e))
  broken_sound e (broken t f) = named_sound v t (cut semicolon v)
  broken_sound e (another t f) = absurd (broken_other (sym e ∙ f))

  broken_complete : MultipartSome v → ((b : List ℕ) → PartsText v b → ⊥) → View v → type_field v ≡ Broken
  broken_complete m n (parts p f) = absurd (n (boundary_of v) p)
  broken_complete m n (broken t f) = f
  broken_complete m n (another t f) = absurd (true≢false (sym (some-named m) ∙ t))

  other_sound : type_field v ≡ Other → View v → MultipartSome v → ⊥
  other_sound e (parts p f) m = multipart_other (sym f ∙ e)
  other_sound e (broken t f) m = broken_other (sym f ∙ e)
  other_sound e (another t f) m = true≢false (sym (some-named m) ∙ t)

  other_complete : (MultipartSome v → ⊥) → View v → type_field v ≡ Other
  other_complete n (parts p f) = absurd (n (record { rest = p.rest; named = p.named }))
  other_complete n (broken t f) = absurd (n (named_sound v t (cut semicolon v)))
  other_complete n (another t f) = f

  absent : type_field v ≡ Absent → View v → ⊥
  absent e (parts p f) = let z : ◌≡◌ {A = ℕ} 0 1 = cc in omega arith
  absent e (broken t f) = let z : ◌≡◌ {A = ℕ} 0 1 = cc in omega arith
  absent e (another t f) = let z : ◌≡◌ {A = ℕ} 0 1 = cc in omega arith

-- every value
pub multipart-types-decided : MultipartTypesDecided
multipart-types-decided v = record {
  named = (λ e. named_sound v e (cut semicolon v), some-named v);
  multipart = λ b. (λ p. multipart_sound v b p.0 p.1 (view v), λ d. (parts_complete v b d, boundary_is v b d));
  broken = (
    λ e. (broken_sound v e (view v), λ b d. multipart-broken (sym (parts_complete v b d) ∙ e)),
    λ p. broken_complete v p.0 p.1 (view v),
  );
  other = (λ e. other_sound v e (view v), λ n. other_complete v n (view v));
  there = λ e. absent v e (view v);
  unique = λ b c d e. sym (boundary_is v b d) ∙ boundary_is v c e;
}

-- a value that is not read as a multipart has no boundary
no_parts : (v : List ℕ) → type_field v ≡ Broken → (b : List ℕ) → PartsText v b → ⊥
no_parts v e b d = multipart-broken (sym (parts_complete v b d) ∙ e)

-- a value that is read as one
some-parts : (v b : List ℕ) → type_field v ≡ Multipart → boundary_of v ≡ b → PartsText v b
some-parts v b e q = multipart_sound v b e q (view v)

-- both sides of an edge
pub multipart_type-examples : MultipartTypeExamples
unfolding type_field is_multipart_type bad_boundary
multipart_type-examples = record {
  plain = some-parts (codes "multipart/byteranges; boundary=B") (codes "B") refl refl;
  any_case = some-parts (codes "Multipart/BYTERANGES ;BOUNDARY=B") (codes "B") refl refl;
  longest = some-parts (codes "multipart/byteranges;boundary=" ++ replicate max_boundary 66) (replicate max_boundary 66) refl refl;
  too_long = no_parts (codes "multipart/byteranges;boundary=" ++ replicate (suc max_boundary) 66) refl;
  empty = no_parts (codes "multipart/byteranges; boundary=") refl;
  quoted = no_parts (codes "multipart/byteranges; boundary=\"B\"") refl;
  second = no_parts (codes "multipart/byteranges; boundary=B; a=b") refl;
  another = λ m. true≢false (sym (some-named (codes "multipart/byterange; boundary=B") m));
}
