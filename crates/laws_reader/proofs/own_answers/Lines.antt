-- A line of the head or of a part, byte by byte, up to its CR.
use Prim.Native.Nat.{ℕ, zero, suc, ◌+◌, ◌≤◌, ◌<◌}
use mathlib.Core.Path.{◌≡◌, refl, sym, ◌∙◌}
use mathlib.Core.Bool.{Bool, true, false, true≢false}
use mathlib.Core.List.{List, [], ◌∷◌, ◌++◌, append_assoc, append-nil}
use Rattle.std.specs.Prelude.{None}
use native.Mathlib.Omega.{arith}
use lib.Dec.{eqb}
use lib.ListN.{length, length-append}
use borrow.Author.Tests.{lt-ltb, eqb-true}
use Rattle.rules_server.specs.Octets.{all}
use Rattle.rules_server.specs.Answers.{Cell, own, own_then}
use Rattle.laws_server.proofs.grammar.Bytes.{and_left, and_right}
use Rattle.rules_tablet.specs.Limits.{max_line}
use Rattle.rules_tablet.specs.Lines.{is_line_byte, going, line_step}
use Rattle.rules_tablet.specs.Parsers.{Parser, at, with_line, with_framing, counted_body, event, is_refused}
use Rattle.rules_tablet.specs.Feeding.{is_over}
use Rattle.rules_tablet.specs.declared.Stage.TheVariants.{Status, Fields, PartLine}
use Rattle.rules_demands.specs.FeedingFollowed.{next}
use Rattle.laws_reader.proofs.own_answers.Segments.{Passes, step}

-- a line byte is no CR
line_no_cr : (b : ℕ) → is_line_byte b ≡ true → eqb b 13 ≡ false
line_no_cr b h = go (eqb b 13) refl
  where
    go : (t : Bool) → eqb b 13 ≡ t → t ≡ false
    go true e = absurd (true≢false (sym h ∙ rw (eqb-true b 13 e)))
    go false e = refl

-- a line byte lengthens a line that is not full
line_grows : (l : List ℕ) (b : ℕ) → is_line_byte b ≡ true → length l < max_line → line_step l false b ≡ going (l ++ (b ∷ [])) false
line_grows l b h f = rw (line_no_cr b h, h, lt-ltb (length l) max_line f)

-- a parser inside a line: `state k l cr` with k bytes of the body after the next one, of which a head's line knows nothing
module _ (tag : List ℕ) (n : ℕ) (state : ℕ → List ℕ → Bool → Parser)
    (isOpen : (k : ℕ) (l : List ℕ) (cr : Bool) → is_over (state k l cr).stage ≡ false)
    (quiet : (k : ℕ) (l : List ℕ) (cr : Bool) → event (state k l cr).stage ≡ None)
    (unrefused : (k : ℕ) (l : List ℕ) (cr : Bool) → is_refused (state k l cr).stage ≡ false)
    (goes : (k : ℕ) (l m : List ℕ) (b : ℕ) (cr : Bool) → line_step l false b ≡ going m cr → next tag n (state (suc k) l false) (own b) ≡ state k m cr) where
  -- the bytes of a line and its CR
  pub line_bytes : (m l more : List ℕ) (rest : List Cell) (j k : ℕ) → all is_line_byte m ≡ true → length l + length m ≤ max_line → j ≡ suc (length m + k)
      → Passes tag n (state k (l ++ m) true) (own_then more rest) → Passes tag n (state j l false) (own_then (m ++ (13 ∷ more)) rest)
  line_bytes [] l more rest zero k a f e h = absurd (omega arith)
  line_bytes [] l more rest (suc j) k a f e h =
      let same : j ≡ k = omega arith in
      step tag n (state (suc j) l false) (state k l true) (own 13) (own_then more rest) (goes j l l 13 true refl ∙ rw same) (isOpen _ _ _) (quiet _ _ _)
      (unrefused _ _ _) (rw append-nil at h)
  line_bytes (b ∷ m) l more rest zero k a f e h = absurd (omega arith)
  line_bytes (b ∷ m) l more rest (suc j) k a f e h =
      let longer = length-append l (b ∷ []) in
      step tag n (state (suc j) l false) (state j (l ++ (b ∷ [])) false) (own b) (own_then (m ++ (13 ∷ more)) rest)
      (goes j l (l ++ (b ∷ [])) b false (line_grows l b (and_left (is_line_byte b) (all is_line_byte m) a) (omega arith))) (isOpen _ _ _) (quiet _ _ _)
      (unrefused _ _ _)
      (line_bytes m (l ++ (b ∷ [])) more rest j k (and_right (is_line_byte b) (all is_line_byte m) a) (omega arith) (omega arith) (rw append_assoc h))

module _ (tag : List ℕ) (n : ℕ) (p : Parser) where
  -- the status line, up to its CR
  pub status_bytes : (m more : List ℕ) (rest : List Cell) → all is_line_byte m ≡ true → length m ≤ max_line
      → Passes tag n (with_line m true (at Status p)) (own_then more rest) → Passes tag n (with_line [] false (at Status p)) (own_then (m ++ (13 ∷ more)) rest)
  status_bytes m more rest a f h =
      line_bytes tag n (λ k l cr. with_line l cr (at Status p)) (λ k l cr. refl) (λ k l cr. refl) (λ k l cr. refl) (λ k l m b cr e. rw e) m [] more rest _ 0 a
      (omega arith) refl h

  -- a field line of the head, up to its CR
  pub field_bytes : (m more : List ℕ) (rest : List Cell) → all is_line_byte m ≡ true → length m ≤ max_line
      → Passes tag n (with_line m true (at Fields p)) (own_then more rest) → Passes tag n (with_line [] false (at Fields p)) (own_then (m ++ (13 ∷ more)) rest)
  field_bytes m more rest a f h =
      line_bytes tag n (λ k l cr. with_line l cr (at Fields p)) (λ k l cr. refl) (λ k l cr. refl) (λ k l cr. refl) (λ k l m b cr e. rw e) m [] more rest _ 0 a
      (omega arith) refl h

  -- a part's line, up to its CR, with j and then k bytes of the body after the next one
  pub part_bytes : (m more : List ℕ) (rest : List Cell) (j k : ℕ) → all is_line_byte m ≡ true → length m ≤ max_line → j ≡ suc (length m + k)
      → Passes tag n (with_framing (counted_body k) (with_line m true (at PartLine p))) (own_then more rest)
      → Passes tag n (with_framing (counted_body j) (with_line [] false (at PartLine p))) (own_then (m ++ (13 ∷ more)) rest)
  part_bytes m more rest j k a f e h =
      line_bytes tag n (λ k l cr. with_framing (counted_body k) (with_line l cr (at PartLine p))) (λ k l cr. refl) (λ k l cr. refl) (λ k l cr. refl)
      (λ k l m b cr e. rw e) m [] more rest j k a (omega arith) e h
