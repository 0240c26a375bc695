-- A line behind the status line, whole: its bytes, CR and LF.
-- Assumes nothing.
use Prim.Native.Nat.{ℕ, ◌+◌, ◌≤◌}
use native.Mathlib.Omega.{arith}
use mathlib.Core.Path.{◌≡◌, refl, ap, ◌∙◌}
use mathlib.Core.Bool.{Bool, true, false, cond, true≢false}
use mathlib.Core.List.{List, [], ◌∷◌, ◌++◌}
use lib.Dec.{leb}
use lib.ListN.{length}
use Rattle.rules_server.specs.Octets.{all}
use Rattle.rules_tablet.specs.Limits.{max_line, max_fields}
use Rattle.rules_tablet.specs.Fields.{is_field, name_of, value_of, Name, etag, type, range, size, transfer, other, kind_of, is_size}
use Rattle.rules_tablet.specs.Heads.{has_range, has_type, has_size}
use Rattle.rules_tablet.specs.Lines.{is_line_byte, whole}
use Rattle.rules_tablet.specs.Parsers.{Parser, at, with_line, head_field, field_line, head_end, fields_step, is_refused}
use Rattle.rules_tablet.specs.Feeding.{Held, feed}
use Rattle.rules_tablet.specs.declared.Head.{Head}
use Rattle.rules_tablet.specs.declared.Stage.TheVariants.{Fields}
use Rattle.laws_reader.proofs.at_once.Steps.{tablet_at, ahead, ahead_add}
use Rattle.laws_reader.proofs.at_once.Laws.{feed_framing, feed-fields}

-- two ways that are the same unless they are refused
pub arms : (b : Bool) {a a' d d' : Parser} → (is_refused a.stage ≡ false → a' ≡ a) → (is_refused d.stage ≡ false → d' ≡ d)
    → is_refused (cond b a d).stage ≡ false → cond b a' d' ≡ cond b a d
arms true f g e = f e
arms false f g e = g e

pub never : {A : Type 0} → true ≡ false → A
never e = absurd (true≢false e)

module _ (x : List ℕ) (c : Bool) where
  -- a field line that is not refused does not depend on the line before it
  field-same : (k : Name) (v : List ℕ) (p : Parser) (h : Head) → is_refused (head_field k v p h).stage ≡ false
      → head_field k v (with_line x c p) h ≡ head_field k v p h
  field-same etag v p h = arms h.has_tag never (λ e. refl)
  field-same type v p h = arms (has_type h.media) never (λ e. refl)
  field-same range v p h = arms (has_range h.range) never (λ e. refl)
  field-same size v p h = arms (has_size h.size) never (arms (is_size v) (λ e. refl) never)
  field-same transfer v p h = never
  field-same other v p h = λ e. refl

  line-same : (l : List ℕ) (p : Parser) → is_refused (field_line l p).stage ≡ false → field_line l (with_line x c p) ≡ field_line l p
  unfolding field_line
  line-same l p = arms (leb max_fields p.head.lines) never (arms (is_field l) (field-same (kind_of (name_of l)) (value_of l) p p.head) never)

  end_same : (t : List ℕ) (n : ℕ) (p : Parser) → head_end t n (with_line x c p) ≡ head_end t n p
  unfolding head_end
  end_same t n p = refl

  whole-same : (t : List ℕ) (n : ℕ) (l : List ℕ) (p : Parser) → is_refused (fields_step t n (whole l) p).stage ≡ false
      → fields_step t n (whole l) (with_line x c p) ≡ fields_step t n (whole l) p
  whole-same t n [] p = λ e. end_same t n p
  whole-same t n (y ∷ l) p = line-same (y ∷ l) p

-- a parser that stands before a line behind the status line
abbrev pub start : Parser → Parser
start p = at Fields (with_line [] false p)

pub same_start : (p : Parser) → p.stage ≡ Fields → p.line ≡ [] → p.cr ≡ false → p ≡ start p
same_start p e f c = λ j. at (e j) (with_line (f j) (c j) p)

-- a line that is not refused is taken with its CR LF, whatever follows
pub feed-whole : (lim : ℕ) (t : List ℕ) (n : ℕ) (h : Held) (l rest : List ℕ) (p : Parser) → all is_line_byte l ≡ true → length l ≤ max_line
    → is_refused (fields_step t n (whole l) (start p)).stage ≡ false
    → feed lim t n (l ++ (13 ∷ 10 ∷ rest)) (tablet_at h (start p)) ≡ ahead (length l + 2) (feed lim t n rest (tablet_at h (fields_step t n (whole l) (start p))))
feed-whole lim t n h l rest p fit few r =
    let e = whole-same l true t n l (start p) r in
    let f : is_refused (fields_step t n (whole l) (with_line l true (start p))).stage ≡ false = ap (λ (q : Parser). is_refused q.stage) e ∙ r in
    feed-fields lim t n (length l) l (13 ∷ 10 ∷ rest) refl (start p) h refl fit (omega (arith, few)) refl
    ∙ ap (ahead (length l)) (feed_framing lim t n 13 (10 ∷ rest) h (with_line l false (start p)) refl refl refl)
    ∙ ap (λ y. ahead (length l) (ahead 1 y)) (feed_framing lim t n 10 rest h (with_line l true (start p)) refl refl f)
    ∙ ap (λ (q : Parser). ahead (length l) (ahead 1 (ahead 1 (feed lim t n rest (tablet_at h q))))) e
    ∙ ap (ahead (length l)) (ahead_add 1 1 (feed lim t n rest (tablet_at h (fields_step t n (whole l) (start p)))))
    ∙ ahead_add (length l) 2 (feed lim t n rest (tablet_at h (fields_step t n (whole l) (start p))))
