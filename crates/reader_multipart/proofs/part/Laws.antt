-- A field line of a part, by the part's head; the name of a Content-Range and any other.
use Prim.Native.Nat.{ℕ, suc}
use native.Mathlib.Omega.{arith}
use mathlib.Core.Bool.{Bool, true, false, cond, true≢false}
use mathlib.Core.List.{List}
use mathlib.Core.Path.{◌≡◌, refl, sym, ap, ◌∙◌}
use lib.Dec.{leb}
use lib.ListN.{length}
use Rattle.rules_server.specs.Octets.{codes, same_fold}
use Rattle.rules_server.specs.Texts.{etag_name, type_name, range_name, length_name}
use Rattle.octets.proofs.strings.Laws.{same_fold_unlike}
use Rattle.rules_tablet.specs.Fields.{is_field, name_of, value_of, etag, type, range, size, transfer, other, kind_of}
use Rattle.rules_tablet.specs.Limits.{max_part_lines}
use Rattle.rules_tablet.specs.declared.PartHead.{PartHead}
use Rattle.rules_tablet.specs.Parsers.{Parser, refuse, with_part, part_field, part_line}

-- a field line, by the part's head
pub line_of : (l : List ℕ) (p : Parser) (x : PartHead) → p.part ≡ x
    → part_line l p ≡ cond (leb max_part_lines x.lines) (refuse 15 p) (cond (is_field l) (part_field (kind_of (name_of l)) (value_of l) p x) (refuse 15 p))
unfolding part_line
line_of l p x e = ap (λ (y : PartHead). cond (leb max_part_lines y.lines) (refuse 15 p)
    (cond (is_field l) (part_field (kind_of (name_of l)) (value_of l) p y) (refuse 15 p))) e

-- the name of a Content-Range has another length than the names before it
pub range_name_lem : (name : List ℕ) → same_fold name range_name ≡ true → kind_of name ≡ range
unfolding kind_of
range_name_lem name h =
    let unlike : (k : ℕ) → (k ≡ 13 → ⊥) → length name ≡ k → ⊥ = λ k u e. true≢false (sym h ∙ same_fold_unlike name range_name (λ f. u (omega (arith, e, f)))) in
    rw (same_fold_unlike name etag_name (unlike 4 (λ e. omega arith)), same_fold_unlike name type_name (unlike 12 (λ e. omega arith)), h)

-- any other name does not count in a part
other_kind : (a b c d : Bool) (v : List ℕ) (p : Parser) (x : PartHead)
    → part_field (cond a etag (cond b type (cond c size (cond d transfer other)))) v p x ≡ with_part (record { lines = suc x.lines; range = x.range }) p
other_kind true b c d v p x = refl
other_kind false true c d v p x = refl
other_kind false false true d v p x = refl
other_kind false false false true v p x = refl
other_kind false false false false v p x = refl

pub other_name : (name v : List ℕ) (p : Parser) (x : PartHead) → same_fold name range_name ≡ false
    → part_field (kind_of name) v p x ≡ with_part (record { lines = suc x.lines; range = x.range }) p
unfolding kind_of
other_name name v p x h =
    rw h (other_kind (same_fold name etag_name) (same_fold name type_name) (same_fold name length_name) (same_fold name (codes "Transfer-Encoding")) v p x)
