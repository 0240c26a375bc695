-- The reading of one spec against its grammar.
use Prim.Native.Nat.{ℕ, ◌≤◌}
use mathlib.Core.Path.{◌≡◌, refl, ◌∙◌, ap}
use mathlib.Core.Bool.{Bool, true, false, true≢false}
use mathlib.Core.List.{List, [], ◌∷◌, ◌++◌, append-nil}
use native.Mathlib.Omega.{arith}
use lib.Dec.{leb, eqb}
use borrow.Author.Tests.{leb-true, ne_eqb, eqb-true}
use Rattle.rules_server.specs.Octets.{is_digit, is_nil, all}
use Rattle.rules_server.specs.Numerals.{decimal}
use Rattle.rules_server.specs.Ranges.{ByteSpec, span, onward, suffix, no_spec, spec_then, digits, after_digits, spec_of, spec_from, spec_at, Reading, other_unit}
use Rattle.rules_server.specs.Ranges.{malformed, listed, add_spec, add_member}
use Rattle.rules_server.specs.Ranges.{SpecFront as Begun}
use Rattle.rules_demands.specs.GrammarRange.{SpecText, first_last, open_end, last_bytes}
use Rattle.laws_server.proofs.grammar.Bytes.{and_left, and_right, and_both, all-append, all_weaker}
use Rattle.laws_server.proofs.grammar.Blanks.{solid}
use Rattle.laws_server.proofs.grammar.Commas.{inner}

-- a malformed value is no list
pub broken_list : (ss : List ByteSpec) → malformed ≡ listed ss → ⊥
broken_list ss h = let z : ◌≡◌ {A = ℕ} 0 1 = cc in omega arith

-- another unit is no list
pub other_list : (ss : List ByteSpec) → other_unit ≡ listed ss → ⊥
other_list ss h = let z : ◌≡◌ {A = ℕ} 0 1 = cc in omega arith

-- another unit is not malformed
pub other_broken : other_unit ≡ malformed → ⊥
other_broken h = let z : ◌≡◌ {A = ℕ} 0 1 = cc in omega arith

-- one list is read
pub same_list : (ss ts : List ByteSpec) → listed ss ≡ listed ts → ss ≡ ts
same_list ss ts h = cc

-- a text is its digits and what stands behind them
digits_text : (l : List ℕ) → l ≡ digits l ++ after_digits l
digits_text [] = refl
digits_text (x ∷ l) = go (is_digit x) refl (digits_text l)
  where
    go : (b : Bool) → is_digit x ≡ b → l ≡ digits l ++ after_digits l → x ∷ l ≡ digits (x ∷ l) ++ after_digits (x ∷ l)
    go true e h = rw e (ap (λ (k : List ℕ). x ∷ k) h)
    go false e h = rw e

-- they are digits
digits-all : (l : List ℕ) → all is_digit (digits l) ≡ true
digits-all [] = refl
digits-all (x ∷ l) = go (is_digit x) refl (digits-all l)
  where
    go : (b : Bool) → is_digit x ≡ b → all is_digit (digits l) ≡ true → all is_digit (digits (x ∷ l)) ≡ true
    go true e h = rw e (and_both (is_digit x) (all is_digit (digits l)) e h)
    go false e h = rw e

-- the digits of digits before a text that begins with none
digits-run : (a l : List ℕ) → all is_digit a ≡ true → digits l ≡ [] → digits (a ++ l) ≡ a
digits-run [] l e h = h
digits-run (x ∷ a) l e h = rw (and_left (is_digit x) (all is_digit a) e) (ap (λ (k : List ℕ). x ∷ k) (digits-run a l (and_right (is_digit x) (all is_digit a) e) h))

-- what stands behind them
digits-behind : (a l : List ℕ) → all is_digit a ≡ true → after_digits l ≡ l → after_digits (a ++ l) ≡ l
digits-behind [] l e h = h
digits-behind (x ∷ a) l e h = rw (and_left (is_digit x) (all is_digit a) e) (digits-behind a l (and_right (is_digit x) (all is_digit a) e) h)

-- the digits of digits alone
digits_alone : (a : List ℕ) → all is_digit a ≡ true → digits a ≡ a
digits_alone a e = rw append-nil at (digits-run a [] e refl)

-- nothing stands behind them
digits_end : (a : List ℕ) → all is_digit a ≡ true → after_digits a ≡ []
digits_end a e = rw append-nil at (digits-behind a [] e refl)

-- digits, `-` and digits are read as the two
spec_at_lem : (a b : List ℕ) → all is_digit a ≡ true → all is_digit b ≡ true → spec_at (a ++ (45 ∷ b)) ≡ spec_of a b []
unfolding spec_at
spec_at_lem a b e f = rw (digits-run a (45 ∷ b) e refl, digits-behind a (45 ∷ b) e refl, digits_alone b f, digits_end b f)

-- both numbers: a span
of_span : (a b : List ℕ) → is_nil a ≡ false → is_nil b ≡ false → spec_of a b [] ≡ spec_then (span (decimal a) (decimal b)) []
of_span [] b e f = absurd (true≢false e)
of_span (x ∷ a) [] e f = absurd (true≢false f)
of_span (x ∷ a) (y ∷ b) e f = refl

-- the first number alone: an open end
of_onward : (a : List ℕ) → is_nil a ≡ false → spec_of a [] [] ≡ spec_then (onward (decimal a)) []
of_onward [] e = absurd (true≢false e)
of_onward (x ∷ a) e = refl

-- the second number alone: a suffix
of_suffix : (b : List ℕ) → is_nil b ≡ false → spec_of [] b [] ≡ spec_then (suffix (decimal b)) []
of_suffix [] e = absurd (true≢false e)
of_suffix (y ∷ b) e = refl

-- a text of the grammar is read as its spec
pub spec_complete : {t : List ℕ} {s : ByteSpec} → SpecText t s → spec_at t ≡ spec_then s []
spec_complete (first_last a b da db q r) = rw (q, r) (spec_at_lem a b da.digits db.digits ∙ of_span a b da.some db.some)
spec_complete (open_end a da q r) = rw (q, r) (spec_at_lem a [] da.digits refl ∙ of_onward a da.some)
spec_complete (last_bytes k dk q r) = rw (q, r) (spec_at_lem [] k refl dk.digits ∙ of_suffix k dk.some)

-- no spec is not a spec
none_spec : (s : ByteSpec) (l : List ℕ) → no_spec ≡ spec_then s l → ⊥
none_spec s l h = let z : ◌≡◌ {A = ℕ} 0 1 = cc in omega arith

-- digits, `-` and a text that are read as a spec are a text of the grammar
of_sound : (a b c : List ℕ) (s : ByteSpec) → all is_digit a ≡ true → all is_digit b ≡ true → spec_of a b c ≡ spec_then s [] → SpecText (a ++ (45 ∷ (b ++ c))) s
of_sound [] [] c s e f h = absurd (none_spec s [] h)
of_sound [] (y ∷ b) c s e f h =
    let z : c ≡ [] = cc in
    let r : s ≡ suffix (decimal (y ∷ b)) = cc in
    rw (z, append-nil b) (last_bytes (y ∷ b) (record { some = refl; digits = f }) refl r)
of_sound (x ∷ a) [] c s e f h =
    let z : c ≡ [] = cc in
    let r : s ≡ onward (decimal (x ∷ a)) = cc in
    rw z (open_end (x ∷ a) (record { some = refl; digits = e }) refl r)
of_sound (x ∷ a) (y ∷ b) c s e f h =
    let z : c ≡ [] = cc in
    let r : s ≡ span (decimal (x ∷ a)) (decimal (y ∷ b)) = cc in
    rw (z, append-nil b) (first_last (x ∷ a) (y ∷ b) (record { some = refl; digits = e }) (record { some = refl; digits = f }) refl r)

-- the same of digits and a text, which then begins with `-`
from_sound : (a l : List ℕ) (s : ByteSpec) → all is_digit a ≡ true → spec_from a l ≡ spec_then s [] → SpecText (a ++ l) s
from_sound a [] s e h = absurd (none_spec s [] h)
from_sound a (x ∷ l) s e h = go (eqb x 45) refl
  where
    go : (b : Bool) → eqb x 45 ≡ b → SpecText (a ++ (x ∷ l)) s
    go true t = rw (eqb-true x 45 t, digits_text l) (of_sound a (digits l) (after_digits l) s e (digits-all l) (rw t at h))
    go false t = absurd (none_spec s [] (rw t at h))

-- what is read as a spec is a text of the grammar
pub spec_sound : (t : List ℕ) (s : ByteSpec) → spec_at t ≡ spec_then s [] → SpecText t s
unfolding spec_at
spec_sound t s h = rw (digits_text t) (from_sound (digits t) (after_digits t) s (digits-all t) h)

-- a digit is no blank
pub digit_solid : (x : ℕ) → is_digit x ≡ true → solid x ≡ true
digit_solid x e =
    let h : 48 ≤ x = leb-true 48 x (and_left (leb 48 x) (leb x 57) e) in
    rw (ne_eqb x 32 (λ q. omega arith), ne_eqb x 9 (λ q. omega arith))

-- a digit is no comma
digit_inner : (x : ℕ) → is_digit x ≡ true → inner x ≡ true
digit_inner x e =
    let h : 48 ≤ x = leb-true 48 x (and_left (leb 48 x) (leb x 57) e) in
    rw (ne_eqb x 44 (λ q. omega arith))

-- a text of the grammar passes a test that digits and `-` pass
spec_all : (p : ℕ → Bool) → ((x : ℕ) → is_digit x ≡ true → p x ≡ true) → p 45 ≡ true → {t : List ℕ} {s : ByteSpec} → SpecText t s → all p t ≡ true
spec_all p h e (first_last a b da db q r) =
    rw q (all-append p a (45 ∷ b) (all_weaker is_digit p h a da.digits) (and_both (p 45) (all p b) e (all_weaker is_digit p h b db.digits)))
spec_all p h e (open_end a da q r) = rw q (all-append p a (45 ∷ []) (all_weaker is_digit p h a da.digits) (and_both (p 45) true e refl))
spec_all p h e (last_bytes k dk q r) = rw q (and_both (p 45) (all p k) e (all_weaker is_digit p h k dk.digits))

-- it has no blanks
pub spec_solid : {t : List ℕ} {s : ByteSpec} → SpecText t s → all solid t ≡ true
spec_solid d = spec_all solid digit_solid refl d

-- it has no commas
pub spec_inner : {t : List ℕ} {s : ByteSpec} → SpecText t s → all inner t ≡ true
spec_inner d = spec_all inner digit_inner refl d

-- it is not empty
pub spec_some : {s : ByteSpec} → SpecText [] s → ⊥
unfolding spec_at
spec_some {s} d = none_spec s [] (spec_complete d)

-- as a member it adds its spec
pub add_spec_lem : (t : List ℕ) (s : ByteSpec) (ss : List ByteSpec) → SpecText t s → add_member t (listed ss) ≡ listed (s ∷ ss)
unfolding spec_at
add_spec_lem [] s ss d = absurd (spec_some d)
add_spec_lem (x ∷ t) s ss d = ap (λ (r : Begun). add_spec r (listed ss)) (spec_complete d)

-- a member that is a text of the grammar, before members that are read as a list
pub record Added (t : List ℕ) (r : Reading) (ss : List ByteSpec) : Type 0 where
  pub first : ByteSpec
  pub others : List ByteSpec
  pub spec : SpecText t first
  pub behind : r ≡ listed others
  pub specs : ss ≡ first ∷ others

-- a member that is not empty and is read is such a member
pub added : (x : ℕ) (m : List ℕ) (r : Reading) (ss : List ByteSpec) → add_member (x ∷ m) r ≡ listed ss → Added (x ∷ m) r ss
unfolding spec_at
added x m r ss h = go (spec_at (x ∷ m)) refl r h
  where
    go : (k : Begun) → spec_at (x ∷ m) ≡ k → (r : Reading) → add_spec k r ≡ listed ss → Added (x ∷ m) r ss
    go no_spec e r h = absurd (broken_list ss h)
    go (spec_then s (y ∷ l)) e r h = absurd (broken_list ss h)
    go (spec_then s []) e other_unit h = absurd (broken_list ss h)
    go (spec_then s []) e malformed h = absurd (broken_list ss h)
    go (spec_then s []) e (listed os) h = record { first = s; others = os; spec = spec_sound (x ∷ m) s e; behind = refl; specs = (cc) }
