-- What the grammar of Range derives, it derives as the same specs with zeros put before some of the numbers.
use Prim.Native.Nat.{ℕ, ◌<◌}
use mathlib.Core.Path.{◌≡◌, refl, ◌∙◌, ap}
use mathlib.Core.Bool.{Bool, true}
use mathlib.Core.List.{List, [], ◌∷◌, ◌++◌}
use native.Mathlib.Omega.{arith}
use borrow.Author.Tests.{le-leb, lt-leb}
use Rattle.rules_server.specs.Octets.{codes, is_blank, all, comma, dash}
use Rattle.rules_server.specs.Ranges.{ByteSpec}
use Rattle.rules_demands.specs.GrammarLetters.{Alike, capital, small, AnyCase}
use Rattle.rules_demands.specs.GrammarRange.{Ows, SpecText, first_last, open_end, last_bytes, Leading, Following, ByteRangeSet, RangeText}
use Rattle.laws_server.proofs.grammar.Bytes.{and_left, and_right, and_both, all-append, all_weaker}
use Rattle.laws_server.proofs.zeros.Texts.{plain, blank-plain, Put, ends, split, plain-same, number-same}

-- blanks have no digit
blanks-plain : (w : List ℕ) → Ows w → all plain w ≡ true
blanks-plain w e = all_weaker is_blank plain (λ x t. rw (blank-plain x t)) w e

-- a text without a digit, which is kept, and the zeros put behind it
record Behind (a b w : List ℕ) : Type 0 where
  pub right : List ℕ
  pub text : w ≡ a ++ right
  pub digit : Bool
  pub rest : Put digit b right

behind : {c : Bool} {w : List ℕ} (a b : List ℕ) → all plain a ≡ true → Put c (a ++ b) w → Behind a b w
behind {c} a b e p =
    let s = split p a b refl in
    record { right = s.right; text = s.text ∙ ap (λ (k : List ℕ). k ++ s.right) (plain-same s.first e); digit = ends c a; rest = s.second }

-- behind one byte
behind_byte : {c : Bool} {w : List ℕ} (x : ℕ) (b : List ℕ) → plain x ≡ true → Put c (x ∷ b) w → Behind (x ∷ []) b w
behind_byte x b e p = behind (x ∷ []) b (and_both (plain x) true e refl) p

-- a spec
spec_put : {c : Bool} {t u : List ℕ} {s : ByteSpec} → SpecText t s → Put c t u → SpecText u s
spec_put (first_last a b da db q r) p =
    let s = split p a (dash ∷ b) q in
    let first = number-same s.first da in
    let d = behind_byte dash b refl s.second in
    let last = number-same d.rest db in
    first_last s.left d.right first.digits last.digits (s.text ∙ ap (λ (k : List ℕ). s.left ++ k) d.text)
    (r ∙ rw (first.value, last.value))
spec_put (open_end a da q r) p =
    let s = split p a (dash ∷ []) q in
    let first = number-same s.first da in
    open_end s.left first.digits (s.text ∙ ap (λ (k : List ℕ). s.left ++ k) (plain-same s.second refl)) (r ∙ rw first.value)
spec_put (last_bytes k dk q r) p =
    let d = behind_byte dash k refl (rw q at p) in
    let count = number-same d.rest dk in
    last_bytes d.right count.digits d.text (r ∙ rw count.value)

-- the start of a list has no digit
leading-plain : {t : List ℕ} → Leading t → all plain t ≡ true
leading-plain (Leading.none q) = rw q
leading-plain (Leading.comma_then w l o g q) = rw q (all-append plain w l (blanks-plain w o) (leading-plain g))

-- what follows the first spec
following_put : {c : Bool} {t u : List ℕ} {ss : List ByteSpec} → Following t ss → Put c t u → Following u ss
following_put (Following.none q r) p = Following.none (plain-same p (rw q) ∙ q) r
following_put {c = c} {u = u} (Following.empty w l o f q) p =
    let d = behind w (comma ∷ l) (blanks-plain w o) (rw q at p) in
    let e = behind_byte comma l refl d.rest in
    Following.empty w e.right o (following_put {c = e.digit} f e.rest) (d.text ∙ ap (λ (k : List ℕ). w ++ k) e.text)
following_put (Following.spec w v x l s rest o n y f q r) p =
    let d = behind w (comma ∷ (v ++ (x ++ l))) (blanks-plain w o) (rw q at p) in
    let e = behind_byte comma (v ++ (x ++ l)) refl d.rest in
    let g = behind v (x ++ l) (blanks-plain v n) e.rest in
    let h = split g.rest x l refl in
    let whole = g.text ∙ ap (λ (k : List ℕ). v ++ k) h.text in
    Following.spec w v h.left h.right s rest o n (spec_put y h.first) (following_put f h.second)
    (d.text ∙ ap (λ (k : List ℕ). w ++ k) (e.text ∙ ap (λ (k : List ℕ). comma ∷ k) whole)) r

-- the set
set_put : {c : Bool} {t u : List ℕ} {ss : List ByteSpec} → ByteRangeSet t ss → Put c t u → ByteRangeSet u ss
set_put b p =
    let d = behind b.lead (b.one ++ b.rest) (leading-plain b.leading) (rw b.text at p) in
    let h = split d.rest b.one b.rest refl in
    record {
      lead = b.lead;
      one = h.left;
      rest = h.right;
      first = b.first;
      others = b.others;
      leading = b.leading;
      spec = spec_put b.spec h.first;
      following = following_put b.following h.second;
      text = d.text ∙ ap (λ (k : List ℕ). b.lead ++ k) h.text;
      specs = b.specs;
    }

-- a byte beyond the digits
beyond-plain : (x : ℕ) → 57 < x → plain x ≡ true
beyond-plain x h = rw (le-leb 48 x (omega arith), lt-leb x 57 h)

-- a byte in the other case is a letter
alike-plain : (x y : ℕ) → Alike x y → plain y ≡ true → plain x ≡ true
alike-plain x y (Alike.same e) h = rw e h
alike-plain x y (capital k l e f) h = beyond-plain x (omega arith)
alike-plain x y (small k l e f) h = beyond-plain x (omega arith)

any_plain : (t p : List ℕ) → AnyCase t p → all plain p ≡ true → all plain t ≡ true
any_plain [] [] a e = refl
any_plain [] (y ∷ p) a e = refl
any_plain (x ∷ t) [] a e = absurd a
any_plain (x ∷ t) (y ∷ p) a e =
    and_both (plain x) (all plain t) (alike-plain x y a.0 (and_left (plain y) (all plain p) e)) (any_plain t p a.1 (and_right (plain y) (all plain p) e))

-- the whole value
pub range_put : {c : Bool} {v w : List ℕ} {ss : List ByteSpec} → RangeText v ss → Put c v w → RangeText w ss
range_put b p =
    let d = behind b.unit b.set (any_plain b.unit (codes "bytes=") b.is_unit refl) (rw b.text at p) in
    record { unit = b.unit; set = d.right; is_unit = b.is_unit; members = set_put b.members d.rest; text = d.text }
