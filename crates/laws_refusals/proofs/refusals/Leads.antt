-- Bytes that lead the parser from one place to another.
use Prim.Native.Nat.{ℕ, zero, suc, ◌+◌, ◌≤◌}
use mathlib.Core.Path.{◌≡◌, refl, sym, ap, subst}
use mathlib.Core.Bool.{Bool, true, false}
use mathlib.Core.List.{List, [], ◌∷◌, ◌++◌, append_assoc, append-nil}
use Rattle.std.specs.Prelude.{None}
use native.Mathlib.Omega.{arith}
use lib.ListN.{length, length-append}
use Rattle.rules_server.specs.Octets.{all}
use Rattle.rules_server.specs.Answers.{Cell, own, own_then}
use Rattle.laws_server.proofs.grammar.Bytes.{and_left, and_right}
use Rattle.rules_tablet.specs.Limits.{max_line}
use Rattle.rules_tablet.specs.Lines.{is_line_byte, going, line_step}
use Rattle.rules_tablet.specs.Parsers.{Parser, event, is_refused}
use Rattle.rules_tablet.specs.Feeding.{is_over}
use Rattle.rules_demands.specs.FeedingFollowed.{position_of, next, Tracks, after}
use Rattle.rules_demands.specs.AcceptanceGrammar.{Line}
use Rattle.rules_demands.specs.RefusalLines.{so_far}
use Rattle.laws_refusals.proofs.refusals.Lines.{line_on}

-- the parser follows these bytes from p on, and then stands at q
abbrev pub Leads : List ℕ → ℕ → Parser → List Cell → Parser → Type 0
Leads tag n p cells q = Tracks tag n p cells × (after tag n p cells ≡ q)

-- bytes of the framing before others
pub own_append : (a b : List ℕ) (rest : List Cell) → own_then (a ++ b) rest ≡ own_then a (own_then b rest)
own_append [] b rest = refl
own_append (x ∷ a) b rest = ap (λ (l : List Cell). own x ∷ l) (own_append a b rest)

-- the same before anything
pub own_before : (a : List ℕ) (rest : List Cell) → own_then a rest ≡ own_then a [] ++ rest
own_before [] rest = refl
own_before (x ∷ a) rest = ap (λ (l : List Cell). own x ∷ l) (own_before a rest)

module _ (tag : List ℕ) (n : ℕ) where
  -- one byte, and then the rest
  pub lead_step : (p q r : Parser) (c : Cell) (cs : List Cell) → next tag n p c ≡ q → is_over p.stage ≡ false → event p.stage ≡ position_of c
      → is_refused q.stage ≡ false
      → Leads tag n q cs r → Leads tag n p (c ∷ cs) r
  lead_step p q r c cs e o v f h =
      let k = subst (λ (x : Parser). Leads tag n x cs r) (sym e) h in
      ((record { going = o; carries = v; allowed = subst (λ (x : Parser). is_refused x.stage ≡ false) (sym e) f }, k.0), k.1)

  -- no byte
  pub lead_none : (p : Parser) → Leads tag n p [] p
  lead_none p = (tt, refl)

  -- some bytes, and then others
  pub lead_then : (a b : List Cell) (p q r : Parser) → Leads tag n p a q → Leads tag n q b r → Leads tag n p (a ++ b) r
  lead_then [] b p q r f g = subst (λ (x : Parser). Leads tag n x b r) (sym f.1) g
  lead_then (c ∷ a) b p q r f g =
      let h = lead_then a b (next tag n p c) q r (f.0.1, f.1) g in
      ((f.0.0, h.0), h.1)

  -- one byte behind others
  pub lead_last : (a : List Cell) (c : Cell) (p q r : Parser) → Leads tag n p a q → next tag n q c ≡ r → is_over q.stage ≡ false
      → event q.stage ≡ position_of c → is_refused r.stage ≡ false
      → Leads tag n p (a ++ (c ∷ [])) r
  lead_last a c p q r f e o v u = lead_then a (c ∷ []) p q r f (lead_step q r r c [] e o v u (lead_none r))

  -- a parser inside a line: `state k l cr` with k bytes of the body after the next one, of which a head's line knows nothing
  module _ (state : ℕ → List ℕ → Bool → Parser)
      (isOpen : (k : ℕ) (l : List ℕ) (cr : Bool) → is_over (state k l cr).stage ≡ false)
      (quiet : (k : ℕ) (l : List ℕ) (cr : Bool) → event (state k l cr).stage ≡ None)
      (unrefused : (k : ℕ) (l : List ℕ) (cr : Bool) → is_refused (state k l cr).stage ≡ false)
      (goes : (k : ℕ) (l m : List ℕ) (b : ℕ) (cr : Bool) → line_step l false b ≡ going m cr → next tag n (state (suc k) l false) (own b) ≡ state k m cr) where
    -- the bytes of a line
    line_leads : (m l : List ℕ) (j k : ℕ) → all is_line_byte m ≡ true → length l + length m ≤ max_line → j ≡ length m + k
        → Leads tag n (state j l false) (own_then m []) (state k (l ++ m) false)
    line_leads [] l j k a f e =
        let same : j ≡ k = omega arith in
        rw (append-nil l, same) (lead_none (state k l false))
    line_leads (b ∷ m) l zero k a f e = absurd (omega arith)
    line_leads (b ∷ m) l (suc j) k a f e =
        let longer = length-append l (b ∷ []) in
        let ih = line_leads m (l ++ (b ∷ [])) j k (and_right (is_line_byte b) (all is_line_byte m) a) (omega arith) (omega arith) in
        lead_step (state (suc j) l false) (state j (l ++ (b ∷ [])) false) (state k (l ++ (b ∷ m)) false) (own b) (own_then m [])
        (goes j l (l ++ (b ∷ [])) b false (line_on l b (and_left (is_line_byte b) (all is_line_byte m) a) (omega arith))) (isOpen _ _ _) (quiet _ _ _)
        (unrefused _ _ _)
        (rw (append_assoc l (b ∷ []) m) at ih)

    -- the bytes of a line so far
    pub far_leads : (cr : Bool) (m : List ℕ) (j k : ℕ) → Line m → j ≡ length (so_far m cr) + k
        → Leads tag n (state j [] false) (own_then (so_far m cr) []) (state k m cr)
    far_leads false m j k f e = line_leads m [] j k f.bytes (omega (arith, f.short)) e
    far_leads true m j k f e =
        let longer = length-append m (13 ∷ []) in
        let h = lead_last (own_then m []) (own 13) (state j [] false) (state (suc k) m false) (state k m true)
        (line_leads m [] j (suc k) f.bytes (omega (arith, f.short)) (omega arith))
        (goes k m m 13 true refl) (isOpen _ _ _) (quiet _ _ _) (unrefused _ _ _) in
        rw (own_append m (13 ∷ []) [], own_before m (own 13 ∷ [])) h

    -- a whole line, whose LF leads to q, and what follows it
    pub whole_leads : (m rest : List ℕ) (q r : Parser) (j k : ℕ) → Line m → j ≡ length m + 1 + k → next tag n (state k m true) (own 10) ≡ q
        → is_refused q.stage ≡ false → Leads tag n q (own_then rest []) r
        → Leads tag n (state j [] false) (own_then (m ++ (13 ∷ 10 ∷ rest)) []) r
    whole_leads m rest q r j k f e g u h =
        let longer = length-append m (13 ∷ []) in
        let a = far_leads true m j k f (omega arith) in
        let b = lead_step (state k m true) q r (own 10) (own_then rest []) g (isOpen k m true) (quiet k m true) u h in
        let all = lead_then (own_then (m ++ (13 ∷ [])) []) (own 10 ∷ own_then rest []) (state j [] false) (state k m true) r a b in
        rw (own_append m (13 ∷ 10 ∷ rest) [], own_before m (own 13 ∷ own 10 ∷ own_then rest [])) (regroup m (own 10 ∷ own_then rest []) (state j [] false) r all)
      where
        regroup : (m : List ℕ) (rest : List Cell) (p r : Parser) → Leads tag n p (own_then (m ++ (13 ∷ [])) [] ++ rest) r
            → Leads tag n p (own_then m [] ++ (own 13 ∷ rest)) r
        regroup m rest p r h = rw (own_append m (13 ∷ []) [], own_before m (own 13 ∷ []), append_assoc (own_then m []) (own 13 ∷ []) rest) at h
