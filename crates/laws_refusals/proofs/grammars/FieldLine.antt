-- A line is taken for a field exactly when the grammar of a field line derives it, with the same name and value.
use Prim.Native.Nat.{ℕ, suc, ◌<◌}
use mathlib.Core.Path.{◌≡◌, refl, sym, ap, ◌∙◌}
use mathlib.Core.Bool.{Bool, true, false, not, ◌&&◌, true≢false}
use mathlib.Core.List.{List, ◌∷◌, ◌++◌}
use native.Mathlib.Omega.{arith}
use lib.Dec.{ltb, eqb}
use lib.ListN.{length, drop, length-append}
use borrow.Author.Tests.{ltb-true, lt-ltb, eqb-true, not-true}
use Rattle.rules_server.specs.Octets.{all, is_nil, trim, colon}
use Rattle.rules_tablet.specs.Lines.{is_token_byte}
use Rattle.rules_tablet.specs.Fields.{is_field, name_of, value_of}
use Rattle.laws_server.proofs.grammar.Bytes.{and_left, and_right, and_both, all_weaker}
use Rattle.laws_server.proofs.grammar.Blanks.{padded}
use Rattle.rules_demands.specs.GrammarFieldLine.{FieldLineText, FieldLinesDecided}
use Rattle.laws_refusals.proofs.grammars.Texts.{is_other, before-at, drop-behind, Cut, whole, parted, cut}
use Rattle.laws_refusals.proofs.grammars.Classes.{token_among, among_token}
use Rattle.laws_refusals.proofs.grammars.Blanks.{trim_around, trimmed}

-- a byte of a token is no colon
token_other : (x : ℕ) → is_token_byte x ≡ true → is_other colon x ≡ true
token_other x e = go (eqb x colon) refl
  where
    go : (b : Bool) → eqb x colon ≡ b → is_other colon x ≡ true
    go true t = let q = eqb-true x colon t in absurd (true≢false (sym (rw q at e)))
    go false t = ap not t

-- what the functions say of a line that is a token, a colon and a text
module _ (n r : List ℕ) (bytes : all is_token_byte n ≡ true) where
  -- its name
  name_at_lem : name_of (n ++ (colon ∷ r)) ≡ n
  name_at_lem = before-at colon n r (all_weaker is_token_byte (is_other colon) token_other n bytes)

  -- its value
  value_at : value_of (n ++ (colon ∷ r)) ≡ trim r
  value_at = rw (name_at_lem, drop-behind colon n r)

  -- it is a field
  field_at : is_nil n ≡ false → is_field (n ++ (colon ∷ r)) ≡ true
  unfolding is_field
  field_at e =
      let parts = ltb (length n) (length (n ++ (colon ∷ r))) in
      let longer : parts ≡ true = lt-ltb (length n) (length (n ++ (colon ∷ r))) (rw (length-append n (colon ∷ r)) (omega arith)) in
      rw (name_at_lem, e, bytes) (and_both (parts && true) true (and_both parts true longer refl) refl)

-- a line that the grammar derives
module _ (l n v : List ℕ) (d : FieldLineText l n v) where
  -- is taken
  pub complete : is_field l ≡ true
  complete = rw d.text (field_at n (d.leading ++ (v ++ d.trailing)) (among_token n d.token.bytes) d.token.some)

  -- with its name
  pub name_is : n ≡ name_of l
  name_is = rw d.text (sym (name_at_lem n (d.leading ++ (v ++ d.trailing)) (among_token n d.token.bytes)))

  -- and its value
  pub value_is : v ≡ value_of l
  value_is =
      let r = d.leading ++ (v ++ d.trailing) in
      rw d.text (sym (value_at n r (among_token n d.token.bytes) ∙ trim_around d.leading v d.trailing d.before d.trimmed d.behind))

-- what a line that is taken passes
record Tests (l : List ℕ) : Type 0 where
  pub parts : length (name_of l) < length l
  pub some : is_nil (name_of l) ≡ false
  pub bytes : all is_token_byte (name_of l) ≡ true

tests : (l : List ℕ) → is_field l ≡ true → Tests l
unfolding is_field
tests l e =
    let first = and_left (ltb (length (name_of l)) (length l) && not (is_nil (name_of l))) (all is_token_byte (name_of l)) e in
    record {
      parts = ltb-true (length (name_of l)) (length l) (and_left (ltb (length (name_of l)) (length l)) (not (is_nil (name_of l))) first);
      some = not-true (is_nil (name_of l)) (and_right (ltb (length (name_of l)) (length l)) (not (is_nil (name_of l))) first);
      bytes = and_right (ltb (length (name_of l)) (length l) && not (is_nil (name_of l))) (all is_token_byte (name_of l)) e;
    }

-- a line that is taken is derived
pub sound : (l : List ℕ) → is_field l ≡ true → FieldLineText l (name_of l) (value_of l)
sound l e = go (cut colon l) (tests l e)
  where
    go : Cut colon l → Tests l → FieldLineText l (name_of l) (value_of l)
    go (whole q) t = let h = t.parts in let z : length (name_of l) ≡ length l = ap length q in absurd (omega arith)
    go (parted h q) t =
        let p = padded (drop (suc (length (name_of l))) l) in
        record {
          leading = p.front;
          trailing = p.back;
          token = record { some = t.some; bytes = token_among (name_of l) t.bytes };
          before = p.front_blank;
          behind = p.back_blank;
          trimmed = trimmed (drop (suc (length (name_of l))) l);
          text = q ∙ ap (λ (k : List ℕ). name_of l ++ (colon ∷ k)) p.text;
        }

-- every line
pub field_lines-decided : FieldLinesDecided
field_lines-decided l = record {
  decides = (λ e. (name_of l, value_of l, sound l e), λ p. complete l p.0 p.1 p.2);
  name = name_is l;
  value = value_is l;
  unique = λ n v m w d f. (name_is l n v d ∙ sym (name_is l m w f), value_is l n v d ∙ sym (value_is l m w f));
}
