-- A line is taken for a status line exactly when the grammar of a status line derives it.
use Prim.Native.Nat.{ℕ, ◌≤◌}
use mathlib.Core.Path.{◌≡◌, refl, sym, ap, subst, ◌∙◌}
use mathlib.Core.Bool.{Bool, true, false, ◌&&◌, ◌||◌, true≢false}
use mathlib.Core.List.{List, [], ◌∷◌, ◌++◌}
use native.Mathlib.Omega.{arith}
use lib.Dec.{leb, eqb}
use lib.ListN.{length, take, drop, get_or, take-append-drop, drop_of_length-le}
use lib.Seq.{length-take-le, drop-cons}
use borrow.Author.Tests.{leb-true, le-leb, eqb-true, eqb-false, eq-eqb, ne_eqb}
use Rattle.rules_server.specs.Octets.{codes, all, is_digit, is_nil, starts_with, space}
use Rattle.rules_server.specs.Numerals.{decimal}
use Rattle.rules_tablet.specs.Fields.{is_status_line, status_number}
use Rattle.laws_server.proofs.grammar.Bytes.{and_left, and_right, and_both}
use Rattle.laws_refusals.proofs.grammars.Texts.{starts_text}
use Rattle.rules_demands.specs.GrammarStatusLine.{ReasonText, none, space_then, StatusLineText, StatusLinesDecided, StatusLineExamples}

-- the version and a space
abbrev version : List ℕ
version = codes "HTTP/1.1 "

-- a line of the grammar is taken for a status line, and its status is that of its digits
record Taken (l code : List ℕ) : Type 0 where
  pub taken : is_status_line l ≡ true
  pub number : status_number l ≡ decimal code

-- with three digits, at the end
taken_bare : (a b c : ℕ) → all is_digit (a ∷ b ∷ c ∷ []) ≡ true → Taken (version ++ (a ∷ b ∷ c ∷ [])) (a ∷ b ∷ c ∷ [])
unfolding is_status_line
taken_bare a b c e = record { taken = rw e; number = refl }

-- with three digits before a space and text
taken_reason : (a b c : ℕ) (reason : List ℕ) → all is_digit (a ∷ b ∷ c ∷ []) ≡ true → Taken (version ++ (a ∷ b ∷ c ∷ space ∷ reason)) (a ∷ b ∷ c ∷ [])
unfolding is_status_line
taken_reason a b c reason e = record {
  taken =
      let l = version ++ (a ∷ b ∷ c ∷ space ∷ reason) in
      and_both (leb 12 (length l) && all is_digit (a ∷ b ∷ c ∷ [])) (eqb (length l) 12 || true)
      (and_both (leb 12 (length l)) (all is_digit (a ∷ b ∷ c ∷ [])) (le-leb 12 (length l) (omega arith)) e)
      (or_true (eqb (length l) 12));
  number = refl;
}
  where
    or_true : (x : Bool) → (x || true) ≡ true
    or_true true = refl
    or_true false = refl

-- with any three digits
taken_any : (code rest : List ℕ) → length code ≡ 3 → all is_digit code ≡ true → ReasonText rest → Taken (version ++ (code ++ rest)) code
taken_any [] rest e d r = absurd (omega arith)
taken_any (a ∷ []) rest e d r = absurd (omega arith)
taken_any (a ∷ b ∷ []) rest e d r = absurd (omega arith)
taken_any (a ∷ b ∷ c ∷ []) rest e d (none q) = rw q (taken_bare a b c d)
taken_any (a ∷ b ∷ c ∷ []) rest e d (space_then reason q) = rw q (taken_reason a b c reason d)
taken_any (a ∷ b ∷ c ∷ x ∷ code) rest e d r = absurd (omega arith)

-- a line that the grammar derives
complete : (l : List ℕ) (k : ℕ) (d : StatusLineText l k) → Taken l d.code
complete l k d = rw d.text (taken_any d.code d.rest d.three d.digits.digits d.behind)

-- three bytes are not none
three_some : (l : List ℕ) → length l ≡ 3 → is_nil l ≡ false
three_some [] e = absurd (omega arith)
three_some (x ∷ l) e = refl

-- what stands behind three of at least three bytes, where there are just three or the fourth is a space
behind_three : (m : List ℕ) → 3 ≤ length m → (eqb (length m) 3 || eqb (get_or m 3 0) space) ≡ true → ReasonText (drop 3 m)
behind_three m h e = go (eqb (length m) 3) refl
  where
    go : (b : Bool) → eqb (length m) 3 ≡ b → ReasonText (drop 3 m)
    go true t = let n = eqb-true (length m) 3 t in none (drop_of_length-le m {i = 3} (omega arith))
    go false t =
        let n : (length m ≡ 3 → ⊥) = eqb-false (length m) 3 t in
        let s : eqb (get_or m 3 0) space ≡ true = rw t at e in
        let x : get_or m 3 0 ≡ space = eqb-true (get_or m 3 0) space s in
        space_then (drop 4 m) (drop-cons m 3 0 (omega arith) ∙ ap (λ (k : ℕ). k ∷ drop 4 m) x)

-- the tests of a line that begins with the version, of what stands behind it
record Tests (m : List ℕ) : Type 0 where
  pub long : 3 ≤ length m
  pub digits : all is_digit (take 3 m) ≡ true
  pub ending : (eqb (length m) 3 || eqb (get_or m 3 0) space) ≡ true

-- a line that is taken for a status line passes them
tests : (m : List ℕ) → is_status_line (version ++ m) ≡ true → Tests m
unfolding is_status_line
tests m e =
    let l = version ++ m in
    let ends = eqb (length l) 12 || eqb (get_or m 3 0) space in
    let first = and_left (leb 12 (length l) && all is_digit (take 3 m)) ends e in
    let n : 12 ≤ length l = leb-true 12 (length l) (and_left (leb 12 (length l)) (all is_digit (take 3 m)) first) in
    record {
      long = omega arith;
      digits = and_right (leb 12 (length l)) (all is_digit (take 3 m)) first;
      ending = rw (← shorter (eqb (length l) 12) refl) (and_right (leb 12 (length l) && all is_digit (take 3 m)) ends e);
    }
  where
    shorter : (b : Bool) → eqb (length (version ++ m)) 12 ≡ b → eqb (length (version ++ m)) 12 ≡ eqb (length m) 3
    shorter true t = let n = eqb-true (length (version ++ m)) 12 t in t ∙ sym (eq-eqb (length m) 3 (omega arith))
    shorter false t =
        let n : (length (version ++ m) ≡ 12 → ⊥) = eqb-false (length (version ++ m)) 12 t in
        t ∙ sym (ne_eqb (length m) 3 (λ q. n (omega arith)))

-- a line that is taken is derived
sound_at : (m : List ℕ) → Tests m → StatusLineText (version ++ m) (decimal (take 3 m))
sound_at m t =
    let n : length (take 3 m) ≡ 3 = length-take-le 3 m t.long in
    record {
      code = take 3 m;
      rest = drop 3 m;
      digits = record { some = three_some (take 3 m) n; digits = t.digits };
      three = n;
      behind = behind_three m t.long t.ending;
      value = refl;
      text = ap (λ (k : List ℕ). version ++ k) (sym (take-append-drop 3 m));
    }

-- a line that is taken begins with the version
begins : (l : List ℕ) → is_status_line l ≡ true → starts_with version l ≡ true
unfolding is_status_line
begins l e =
    let ends = eqb (length l) 12 || eqb (get_or l 12 0) space in
    and_left (starts_with version l) (leb 12 (length l))
    (and_left (starts_with version l && leb 12 (length l)) (all is_digit (take 3 (drop 9 l)))
    (and_left (starts_with version l && leb 12 (length l) && all is_digit (take 3 (drop 9 l))) ends e))

-- any line that is taken
sound : (l : List ℕ) → is_status_line l ≡ true → (k : ℕ) × StatusLineText l k
sound l e =
    let q : l ≡ version ++ drop 9 l = starts_text version l (begins l e) in
    (decimal (take 3 (drop 9 l)), rw q (sound_at (drop 9 l) (tests (drop 9 l) (subst (λ (k : List ℕ). is_status_line k ≡ true) q e))))

-- the status is the grammar's
number_is : (l : List ℕ) (k : ℕ) → StatusLineText l k → k ≡ status_number l
number_is l k d = d.value ∙ sym (complete l k d).number

-- every line
pub status_lines-decided : StatusLinesDecided
status_lines-decided l = record {
  decides = (sound l, λ p. (complete l p.0 p.1).taken);
  number = number_is l;
  unique = λ j k d f. number_is l j d ∙ sym (number_is l k f);
}

-- a line that is not taken is not derived
apart : (l : List ℕ) → is_status_line l ≡ false → (k : ℕ) → StatusLineText l k → ⊥
apart l e k d = true≢false (sym (complete l k d).taken ∙ e)

-- both sides of an edge
pub status_line-examples : StatusLineExamples
unfolding is_status_line
status_line-examples = record {
  bare = sound_at (codes "206") (tests (codes "206") refl);
  empty_reason = sound_at (codes "206 ") (tests (codes "206 ") refl);
  two_digits = apart (codes "HTTP/1.1 20") refl;
  four_digits = apart (codes "HTTP/1.1 2060") refl;
  small_letters = apart (codes "http/1.1 206") refl;
}
