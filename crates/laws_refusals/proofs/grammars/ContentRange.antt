-- A value is read as a Content-Range exactly when its grammar derives it.
use Prim.Native.Nat.{ℕ}
use mathlib.Core.Path.{◌≡◌, refl, sym, ap, ◌∙◌}
use mathlib.Core.Logic.{◌⊎◌, inl, inr}
use mathlib.Core.Bool.{Bool, true, false, ◌&&◌, true≢false}
use mathlib.Core.List.{List, [], ◌∷◌, ◌++◌}
use Rattle.std.specs.Prelude.{Option, None, Some}
use lib.Dec.{eqb}
use lib.ListN.{length, drop}
use borrow.Author.Tests.{eqb-true, ne_eqb}
use Rattle.rules_server.specs.Octets.{all, is_digit, is_nil, starts_with, asterisk, dash, slash}
use Rattle.rules_server.specs.Texts.{bytes_range}
use Rattle.rules_server.specs.Numerals.{decimal}
use Rattle.rules_server.specs.Ranges.{digits, after_digits}
use Rattle.rules_tablet.specs.Fields.{range_field, span_field, length_field, stated_field, last_field, first_field}
use Rattle.rules_tablet.specs.declared.RangeField.{RangeField}
use Rattle.rules_tablet.specs.declared.RangeField.TheVariants.{Wrong}
use Rattle.laws_server.proofs.grammar.Bytes.{and_left, and_right, and_both}
use Rattle.rules_demands.specs.GrammarContentRange.{Number, LengthText, unknown, stated, ContentRangeText}
use Rattle.laws_refusals.proofs.grammars.Texts.{starts_text}

-- a text is its digits and what stands behind them
digits_text : (l : List ℕ) → l ≡ digits l ++ after_digits l
digits_text [] = refl
digits_text (x ∷ l) = go (is_digit x) refl (digits_text l)
  where
    go : (b : Bool) → is_digit x ≡ b → l ≡ digits l ++ after_digits l → x ∷ l ≡ digits (x ∷ l) ++ after_digits (x ∷ l)
    go true e h = rw e (ap (λ (k : List ℕ). x ∷ k) h)
    go false e h = rw e

-- they are digits
digits-all : (l : List ℕ) → all is_digit (digits l) ≡ true
digits-all [] = refl
digits-all (x ∷ l) = go (is_digit x) refl (digits-all l)
  where
    go : (b : Bool) → is_digit x ≡ b → all is_digit (digits l) ≡ true → all is_digit (digits (x ∷ l)) ≡ true
    go true e h = rw e (and_both (is_digit x) (all is_digit (digits l)) e h)
    go false e h = rw e

-- the digits before a byte that is none, and what stands behind them
pub digits-run : (a : List ℕ) (x : ℕ) (l : List ℕ) → all is_digit a ≡ true → is_digit x ≡ false → digits (a ++ (x ∷ l)) ≡ a
digits-run [] x l e h = rw h
digits-run (y ∷ a) x l e h =
    rw (and_left (is_digit y) (all is_digit a) e) (ap (λ (k : List ℕ). y ∷ k) (digits-run a x l (and_right (is_digit y) (all is_digit a) e) h))

pub digits-behind : (a : List ℕ) (x : ℕ) (l : List ℕ) → all is_digit a ≡ true → is_digit x ≡ false → after_digits (a ++ (x ∷ l)) ≡ x ∷ l
digits-behind [] x l e h = rw h
digits-behind (y ∷ a) x l e h = rw (and_left (is_digit y) (all is_digit a) e) (digits-behind a x l (and_right (is_digit y) (all is_digit a) e) h)

-- what a value of the form is read as: wrong only by a number that is too large
abbrev pub reading : ℕ → ℕ → Option ℕ → RangeField
reading a b None = span_field a b
reading a b (Some n) = length_field a b n

-- behind the `/`
stated_complete : (a b : ℕ) (s : List ℕ) (o : Option ℕ) → LengthText s o → stated_field a b s ≡ reading a b o
stated_complete a b s o (unknown q r) = rw (q, r)
stated_complete a b [] o (stated n d r) = absurd (true≢false d.digits.some)
stated_complete a b (x ∷ s) o (stated n d r) =
    let e = d.digits.digits in
    rw (r, d.value, no_star (and_left (is_digit x) (all is_digit s) e), e)
  where
    no_star : is_digit x ≡ true → eqb x asterisk ≡ false
    no_star h = ne_eqb x asterisk (λ q. true≢false (sym (rw q at h)))

-- behind the `-`
last_complete : (a : ℕ) (b s : List ℕ) → is_nil b ≡ false → last_field a b (slash ∷ s) ≡ stated_field a (decimal b) s
last_complete a [] s e = absurd (true≢false e)
last_complete a (x ∷ b) s e = refl

-- behind the unit
first_complete : (a r : List ℕ) → is_nil a ≡ false → first_field a (dash ∷ r) ≡ last_field (decimal a) (digits r) (after_digits r)
first_complete [] r e = absurd (true≢false e)
first_complete (x ∷ a) r e = refl

-- a value of the form is read so
pub complete : (v : List ℕ) (a b : ℕ) (o : Option ℕ) → ContentRangeText v a b o → range_field v ≡ reading a b o
unfolding range_field
complete v a b o d =
    let f = d.first in
    let l = d.last in
    let s = d.complete in
    let fd = d.is_first.digits in
    let ld = d.is_last.digits in
    rw (
      d.text,
      digits-run f dash (l ++ (slash ∷ s)) fd.digits refl,
      digits-behind f dash (l ++ (slash ∷ s)) fd.digits refl,
      first_complete f (l ++ (slash ∷ s)) fd.some,
      digits-run l slash s ld.digits refl,
      digits-behind l slash s ld.digits refl,
      last_complete (decimal f) l s ld.some,
      d.is_first.value,
      d.is_last.value,
    )
    (stated_complete (decimal f) (decimal l) s o d.is_length)

-- behind the `/`: of the form, or wrong
stated_form : (a b : ℕ) (s : List ℕ) → ((o : Option ℕ) × LengthText s o) ⊎ (stated_field a b s ≡ Wrong)
stated_form a b [] = inr refl
stated_form a b (x ∷ s) = star (eqb x asterisk && is_nil s) refl
  where
    number : (t : Bool) → all is_digit (x ∷ s) ≡ t → (eqb x asterisk && is_nil s) ≡ false
        → ((o : Option ℕ) × LengthText (x ∷ s) o) ⊎ (stated_field a b (x ∷ s) ≡ Wrong)
    number true e h =
        inl (Some (decimal (x ∷ s)), stated (decimal (x ∷ s)) (record { digits = record { some = refl; digits = e }; value = refl }) refl)
    number false e h = inr (rw (h, e))

    no_more : (l : List ℕ) → is_nil l ≡ true → l ≡ []
    no_more [] e = refl
    no_more (y ∷ l) e = absurd (true≢false (sym e))

    star : (t : Bool) → (eqb x asterisk && is_nil s) ≡ t → ((o : Option ℕ) × LengthText (x ∷ s) o) ⊎ (stated_field a b (x ∷ s) ≡ Wrong)
    star true e =
        let p = eqb-true x asterisk (and_left (eqb x asterisk) (is_nil s) e) in
        let q = no_more s (and_right (eqb x asterisk) (is_nil s) e) in
        let is : x ∷ s ≡ asterisk ∷ [] = rw (p, q) in
        inl (None, unknown is refl)
    star false e = number (all is_digit (x ∷ s)) refl e

-- last, `/` and the length
record LastText (t : List ℕ) : Type 0 where
  pub last : List ℕ
  pub complete : List ℕ
  pub b : ℕ
  pub o : Option ℕ
  pub is_last : Number last b
  pub is_length : LengthText complete o
  pub text : t ≡ last ++ (slash ∷ complete)

-- behind the `-`: of the form, or wrong
last_form : (a : ℕ) (b rest : List ℕ) → all is_digit b ≡ true → LastText (b ++ rest) ⊎ (last_field a b rest ≡ Wrong)
last_form a [] rest e = inr refl
last_form a (y ∷ b) [] e = inr refl
last_form a (y ∷ b) (x ∷ s) e = go (eqb x slash) refl (stated_form a (decimal (y ∷ b)) s)
  where
    go : (t : Bool) → eqb x slash ≡ t → ((o : Option ℕ) × LengthText s o) ⊎ (stated_field a (decimal (y ∷ b)) s ≡ Wrong)
        → LastText ((y ∷ b) ++ (x ∷ s)) ⊎ (last_field a (y ∷ b) (x ∷ s) ≡ Wrong)
    go true t (inl p) = inl
        (record {
          last = y ∷ b;
          complete = s;
          b = decimal (y ∷ b);
          o = p.0;
          is_last = record { digits = record { some = refl; digits = e }; value = refl };
          is_length = p.1;
          text = ap (λ (k : ℕ). (y ∷ b) ++ (k ∷ s)) (eqb-true x slash t);
        })
    go true t (inr w) = inr (rw t w)
    go false t p = inr (rw t)

-- first, `-`, last, `/` and the length
record FirstText (t : List ℕ) : Type 0 where
  pub first : List ℕ
  pub rest : List ℕ
  pub is_first : Number first (decimal first)
  pub behind : LastText rest
  pub text : t ≡ first ++ (dash ∷ rest)

-- behind the unit: of the form, or wrong
first_form : (a rest : List ℕ) → all is_digit a ≡ true → FirstText (a ++ rest) ⊎ (first_field a rest ≡ Wrong)
first_form [] rest e = inr refl
first_form (y ∷ a) [] e = inr refl
first_form (y ∷ a) (x ∷ r) e = go (eqb x dash) refl (last_form (decimal (y ∷ a)) (digits r) (after_digits r) (digits-all r))
  where
    go : (t : Bool) → eqb x dash ≡ t → LastText (digits r ++ after_digits r) ⊎ (last_field (decimal (y ∷ a)) (digits r) (after_digits r) ≡ Wrong)
        → FirstText ((y ∷ a) ++ (x ∷ r)) ⊎ (first_field (y ∷ a) (x ∷ r) ≡ Wrong)
    go true t (inl p) = inl
        (record {
          first = y ∷ a;
          rest = r;
          is_first = record { digits = record { some = refl; digits = e }; value = refl };
          behind = rw (digits_text r) p;
          text = ap (λ (k : ℕ). (y ∷ a) ++ (k ∷ r)) (eqb-true x dash t);
        })
    go true t (inr w) = inr (rw t w)
    go false t p = inr (rw t)

-- a value has the form
pub record Formed (v : List ℕ) : Type 0 where
  pub a : ℕ
  pub b : ℕ
  pub o : Option ℕ
  pub is : ContentRangeText v a b o

-- every value has it, or is wrong
pub form : (v : List ℕ) → Formed v ⊎ (range_field v ≡ Wrong)
unfolding range_field
form v = go (starts_with bytes_range v) refl (first_form (digits m) (after_digits m) (digits-all m))
  where
    m : List ℕ
    m = drop (length bytes_range) v

    go : (t : Bool) → starts_with bytes_range v ≡ t → FirstText (digits m ++ after_digits m) ⊎ (first_field (digits m) (after_digits m) ≡ Wrong)
        → Formed v ⊎ (range_field v ≡ Wrong)
    go true t (inl p) = inl
        (record {
          a = decimal p.first;
          b = p.behind.b;
          o = p.behind.o;
          is = record {
            first = p.first;
            last = p.behind.last;
            complete = p.behind.complete;
            is_first = p.is_first;
            is_last = p.behind.is_last;
            is_length = p.behind.is_length;
            text = starts_text bytes_range v t ∙ ap (λ (k : List ℕ). bytes_range ++ k) (digits_text m ∙ p.text)
                ∙ ap (λ (k : List ℕ). bytes_range ++ (p.first ++ (dash ∷ k))) p.behind.text;
          };
        })
    go true t (inr w) = inr (rw t w)
    go false t p = inr (rw t)
