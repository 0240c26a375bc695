-- The texts that the writers write are the bytes of document 01's multipart body, and what the writers' calls write, one behind the other. Assumes nothing.
use Prim.Native.Nat.{ℕ, ◌+◌, ◌-◌}
use mathlib.Core.Path.{◌≡◌, refl, sym, ◌∙◌, ap, subst}
use mathlib.Core.Bool.{Bool, true, false}
use mathlib.Core.List.{List, [], ◌∷◌, ◌++◌, map, append_assoc, append-nil}
use native.Mathlib.Omega.{arith}
use lib.Dec.{leb}
use borrow.Author.Tests.{leb-true, leb-false}
use lib.ListN.{length, length-append, length-map}
use Rattle.rules_server.specs.Texts.{crlf}
use Rattle.rules_server.specs.Numerals.{print}
use Rattle.rules_server.specs.Answers.{byte_of, lines_then, type_lines, range_line, part_head, closing, multipart_body}
use Rattle.rules_server.specs.Status.{Resource}
use Rattle.rules_server.specs.declared.Run.{Run}
use Rattle.writing.specs.Window.{Wrote}
use Rattle.writing.specs.declared.window.Writer.{Writer}
use Rattle.writing.proofs.window.Laws.{append}
use Rattle.writing.specs.Measures.{enormous}
use Rattle.server_answers.specs.Lengths.{parts_length}
use Rattle.laws_numerals.proofs.Laws.{print_one}
use Rattle.laws_server.proofs.Bytes.{own_bytes_lem, from_bytes, lines-append}
use Rattle.server_answers.specs.Bodies.{parts_text, body_text}

-- the bytes of a multipart body
pub body_bytes : (f : Resource) (rs : List Run) → map byte_of (multipart_body f rs) ≡ body_text f.boundary f.media f.file rs
body_bytes f [] = simp (own_bytes_lem, append-nil)
body_bytes f (r ∷ rs) = simp (own_bytes_lem, from_bytes, body_bytes f rs)

-- its length is that of its bytes
pub body_length : (f : Resource) (rs : List Run) → length (multipart_body f rs) ≡ length (body_text f.boundary f.media f.file rs)
body_length f rs = sym (length-map (multipart_body f rs) byte_of) ∙ ap length (body_bytes f rs)

-- ---- what the writers' calls write

-- two calls, the first of two texts
pub joined : (a b : List ℕ) {d : List ℕ} {w v u : Writer} → Wrote (a ++ b) w v → Wrote d v u → Wrote (a ++ (b ++ d)) w u
joined a b {d} {w} {v} {u} first second = subst (λ (t : List ℕ). Wrote t w u) (append_assoc a b d) (append first second)

-- two calls, the first of lines
pub lines-both : (fs : List (List ℕ)) {rest : List ℕ} {w v u : Writer} → Wrote (lines_then fs []) w v → Wrote rest v u → Wrote (lines_then fs rest) w u
lines-both fs {rest} {w} {v} {u} first second = subst (λ (t : List ℕ). Wrote t w u) (lines-append fs [] rest) (append first second)

-- the parts and the closing line are the body
parts-closing : (boundary media file : List ℕ) (rs : List Run) → parts_text boundary media file rs ++ closing boundary ≡ body_text boundary media file rs
parts-closing boundary media file [] = refl
parts-closing boundary media file (r ∷ rs) = simp (append_assoc, parts-closing boundary media file rs)

-- two calls, of the parts and of the closing line, write the body
pub parts-both : (boundary media file : List ℕ) (rs : List Run) {w v u : Writer} → Wrote (parts_text boundary media file rs) w v
    → Wrote (closing boundary) v u → Wrote (body_text boundary media file rs) w u
parts-both boundary media file rs {w} {v} {u} first second =
    subst (λ (t : List ℕ). Wrote t w u) (parts-closing boundary media file rs) (append first second)

-- ---- the length of the body

-- a run whose positions have one digit each
abbrev pub zeros : Run
zeros = record { first = 0; last = 0 }

-- the length of Content-Range's line
pub range_length : (r : Run) (n : ℕ) → length (range_line r n) ≡ 23 + (length (print r.first) + (length (print r.last) + length (print n)))
unfolding range_line
range_length r n = simp length-append (omega arith)

lines-length : (fs : List (List ℕ)) (rest : List ℕ) → length (lines_then fs rest) ≡ length (lines_then fs []) + length rest
lines-length fs rest = ap length (sym (lines-append fs [] rest)) ∙ length-append (lines_then fs []) rest

head_size : (boundary media : List ℕ) (n : ℕ) (r : Run)
    → length (part_head boundary media n r) ≡ length boundary + (length (lines_then (type_lines media) []) + length (range_line r n)) + 8
unfolding part_head
head_size boundary media n r =
    simp length-append (omega (arith, lines-length (type_lines media) (range_line r n ++ (crlf ++ crlf)), length-append (range_line r n) (crlf ++ crlf)))

-- the lines of a part are longer than those of `zeros` by the digits beyond the first
head-length : (boundary media : List ℕ) (n : ℕ) (r : Run)
    → length (part_head boundary media n r) + 2 ≡ length (part_head boundary media n zeros) + (length (print r.first) + length (print r.last))
head-length boundary media n r =
    omega (arith, head_size boundary media n r, head_size boundary media n zeros, range_length r n, range_length zeros n, ap length (print_one 0 (omega arith)))

-- the CR LF behind a part's data stands for the two digits of `zeros`
parts_length_lem : (boundary media file : List ℕ) (rs : List Run)
    → length (parts_text boundary media file rs) ≡ parts_length (length (part_head boundary media (length file) zeros)) file rs
parts_length_lem boundary media file [] = refl
parts_length_lem boundary media file (r ∷ rs) =
    simp length-append (omega (arith, head-length boundary media (length file) r, parts_length_lem boundary media file rs))

-- lines are counted up to an enormous number
clipped : (lines : ℕ) (file : List ℕ) (rs : List Run) → enormous - parts_length (enormous - (enormous - lines)) file rs ≡ enormous - parts_length lines file rs
clipped lines file [] = refl
clipped lines file (r ∷ rs) = go (leb lines enormous) refl
  where
    go : (b : Bool) → leb lines enormous ≡ b → enormous - parts_length (enormous - (enormous - lines)) file (r ∷ rs) ≡ enormous - parts_length lines file (r ∷ rs)
    go true e = ap (λ (k : ℕ). enormous - parts_length k file (r ∷ rs)) (omega (arith, leb-true lines enormous e))
    go false e = omega (arith, leb-false lines enormous e)

-- what an enormous skip leaves behind the lines of `zeros`, the parts and the closing line tells the length of the body
pub body_left : (boundary media file : List ℕ) (rs : List Run) {lines left last : ℕ} → lines ≡ enormous - length (part_head boundary media (length file) zeros)
    → left ≡ enormous - parts_length (enormous - lines) file rs → last ≡ left - length (closing boundary)
    → enormous - last ≡ enormous - (enormous - length (body_text boundary media file rs))
body_left boundary media file rs {lines} {left} {last} e f g =
    let size = length (part_head boundary media (length file) zeros) in
    let parts = rw e at f ∙ clipped size file rs in
    let body = ap length (sym (parts-closing boundary media file rs)) ∙ length-append (parts_text boundary media file rs) (closing boundary) in
    omega (arith, parts, body, parts_length_lem boundary media file rs, g)
