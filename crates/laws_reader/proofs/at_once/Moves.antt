-- Where several bytes take the parser: data, skipped bytes, and bytes of a line.
-- Assumes nothing.
use Prim.Native.Nat.{ℕ, zero, suc, ◌+◌, ◌-◌, ◌≤◌, ◌<◌}
use native.Mathlib.Omega.{arith}
use mathlib.Core.Path.{◌≡◌, refl, sym, ap, subst, ◌∙◌}
use mathlib.Core.Bool.{Bool, true, false, true≢false, and-eq-true_iff}
use mathlib.Core.List.{List, [], ◌∷◌, ◌++◌, append-nil, append_assoc}
use Rattle.std.specs.Prelude.{Option, None, Some}
use lib.ListN.{length, length-append}
use borrow.Author.Tests.{lt-ltb, ne_eqb}
use Rattle.rules_server.specs.Octets.{all}
use Rattle.rules_tablet.specs.Limits.{max_line}
use Rattle.rules_tablet.specs.Lines.{is_line_byte, LineStep, going, line_step}
use Rattle.rules_tablet.specs.Parsers.{Parser, at, with_framing, counted_body, with_line, last_byte, framed, parse, event, is_refused}
use Rattle.rules_tablet.specs.Feeding.{is_over}
use Rattle.rules_tablet.specs.declared.Stage.{Stage}
use Rattle.rules_tablet.specs.declared.Stage.TheVariants.{Status, Fields, Plain, Skip, Delimiter, PartLine, Data, Epilogue, Finished}
use Rattle.laws_reader.proofs.at_once.Steps.{Passes, Moves, framing}

-- a byte of a line, which is no CR, goes on the line
line_byte : (line : List ℕ) (b : ℕ) → is_line_byte b ≡ true → length line < max_line → line_step line false b ≡ going (line ++ (b ∷ [])) false
line_byte line b e u = rw (ne_eqb b 13 (λ f. true≢false (sym e ∙ ap is_line_byte f)), e, lt-ltb (length line) max_line u)

-- where a body's bytes are counted and nothing else, wherever the parser stands along them
record Counted (tag : List ℕ) (n : ℕ) (ev : ℕ → Option ℕ) (s : ℕ → Stage) : Type 0 where
  going : (i : ℕ) → is_over (s i) ≡ false
  carries : (i : ℕ) → event (s i) ≡ ev i
  fine : (i : ℕ) → is_refused (s i) ≡ false
  steps : (i b : ℕ) (p : Parser) → parse tag n (s i) b (at (s i) p) ≡ framed p.framing (at (s (suc i)) p)
  ends : (i : ℕ) (p : Parser) → last_byte (s i) p ≡ at Finished p

-- where a line's bytes are gathered and nothing is counted
record Gathered (tag : List ℕ) (n : ℕ) (s : Stage) : Type 0 where
  going : is_over s ≡ false
  carries : event s ≡ None
  fine : is_refused s ≡ false
  steps : (b : ℕ) (line : List ℕ) (p : Parser) → line_step p.line p.cr b ≡ LineStep.going line false
      → parse tag n s b (at s p) ≡ with_line line false (at s p)

module _ (tag : List ℕ) (n : ℕ) where
  -- a parser that stands at s is itself at s
  from_stage : (ev : ℕ → Option ℕ) (i : ℕ) (l : List ℕ) (p q : Parser) (s : Stage) → p.stage ≡ s → Moves tag n ev i l (at s p) q → Moves tag n ev i l p q
  from_stage ev i l p q s e h = subst (λ (x : Parser). Moves tag n ev i l x q) (ap (λ (x : Stage). at x p) (sym e)) h

  -- the same where the bytes leave it there
  same_stage : (i : ℕ) (l : List ℕ) (f : Parser → Parser) (p : Parser) (s : Stage) → p.stage ≡ s → Moves tag n framing i l (at s p) (f (at s p))
      → Moves tag n framing i l p (f p)
  same_stage i l f p s e h = subst (λ (x : Parser). Moves tag n framing i l x (f x)) (ap (λ (x : Stage). at x p) (sym e)) h

  -- and where no CR is seen
  same-line : (i : ℕ) (l : List ℕ) (f : Parser → Parser) (p : Parser) (s : Stage) → p.stage ≡ s → p.cr ≡ false
      → Moves tag n framing i l (at s (with_line p.line false p)) (f (at s (with_line p.line false p)))
      → Moves tag n framing i l p (f p)
  same-line i l f p s e c h =
      let near : Bool → Parser = λ x. at s (with_line p.line x p) in
      same_stage i l f p s e (subst (λ (x : Bool). Moves tag n framing i l (near x) (f (near x))) (sym c) h)

  module _ (ev : ℕ → Option ℕ) (s : ℕ → Stage) (c : Counted tag n ev s) where
    -- a counted byte that is not the last is passed
    counted_passes : (i b a : ℕ) (p : Parser) → Passes tag n (ev i) b (at (s i) (with_framing (counted_body (suc a)) p))
    counted_passes i b a p =
        record { going = c.going i; carries = c.carries i; allowed = rw (c.steps i b (with_framing (counted_body (suc a)) p)) (c.fine (suc i)) }

    -- the last one too
    last_passes : (i b : ℕ) (p : Parser) → Passes tag n (ev i) b (at (s i) (with_framing (counted_body 0) p))
    last_passes i b p = record { going = c.going i; carries = c.carries i; allowed = rw (c.steps i b (with_framing (counted_body 0) p), c.ends (suc i)) }

    -- counted bytes before the last
    counted_on : (i : ℕ) (l : List ℕ) (a : ℕ) (p : Parser) → length l ≤ a
        → Moves tag n ev i l (at (s i) (with_framing (counted_body a) p)) (at (s (i + length l)) (with_framing (counted_body (a - length l)) p))
    counted_on i [] a p u =
        let e : i ≡ i + 0 = omega arith in
        let f : a ≡ a - 0 = omega arith in
        λ j. at (s (e j)) (with_framing (counted_body (f j)) p)
    counted_on i (b ∷ l) zero p u = absurd (omega arith)
    counted_on i (b ∷ l) (suc a) p u =
        let e : i + suc (length l) ≡ suc i + length l = omega arith in
        let f : suc a - suc (length l) ≡ a - length l = omega arith in
        (counted_passes i b a p, rw (c.steps i b (with_framing (counted_body (suc a)) p), e, f) (counted_on (suc i) l a p (omega arith)))

    -- counted bytes up to the last
    counted_end : (i : ℕ) (l : List ℕ) (a : ℕ) (p : Parser) → length l ≡ suc a
        → Moves tag n ev i l (at (s i) (with_framing (counted_body a) p)) (at Finished (with_framing (counted_body 0) p))
    counted_end i [] a p e = absurd (omega arith)
    counted_end i (b ∷ []) zero p e = (last_passes i b p, rw (c.steps i b (with_framing (counted_body 0) p), c.ends (suc i)))
    counted_end i (b ∷ x ∷ l) zero p e = absurd (omega arith)
    counted_end i (b ∷ []) (suc a) p e = absurd (omega arith)
    counted_end i (b ∷ x ∷ l) (suc a) p e =
        (counted_passes i b a p, rw (c.steps i b (with_framing (counted_body (suc a)) p)) (counted_end (suc i) (x ∷ l) a p (omega arith)))

  -- the body of a 200 or a plain 206
  plain : Counted tag n Some Plain
  plain = record { going = λ i. refl; carries = λ i. refl; fine = λ i. refl; steps = λ i b p. refl; ends = λ i p. refl }

  -- the body of a 416
  skip : Counted tag n framing (λ i. Skip)
  skip = record { going = λ i. refl; carries = λ i. refl; fine = λ i. refl; steps = λ i b p. refl; ends = λ i p. refl }

  -- what follows the closing mark
  epilogue : Counted tag n framing (λ i. Epilogue)
  epilogue = record { going = λ i. refl; carries = λ i. refl; fine = λ i. refl; steps = λ i b p. refl; ends = λ i p. refl }

  -- the status line
  status : Gathered tag n Status
  status = record { going = refl; carries = refl; fine = refl; steps = λ b line p e. rw e }

  -- a field line of the head
  fields : Gathered tag n Fields
  fields = record { going = refl; carries = refl; fine = refl; steps = λ b line p e. rw e }

  -- bytes of a line of the head
  gathered_on : (s : Stage) (g : Gathered tag n s) (i : ℕ) (l line : List ℕ) (p : Parser) → all is_line_byte l ≡ true → length line + length l ≤ max_line
      → Moves tag n framing i l (at s (with_line line false p)) (at s (with_line (line ++ l) false p))
  gathered_on s g i [] line p h u = ap (λ (x : List ℕ). at s (with_line x false p)) (sym (append-nil line))
  gathered_on s g i (b ∷ l) line p h u =
      let k = (and-eq-true_iff (is_line_byte b) (all is_line_byte l)).0 h in
      let e = g.steps b (line ++ (b ∷ [])) (with_line line false p) (line_byte line b k.0 (omega arith)) in
      let v : length (line ++ (b ∷ [])) + length l ≤ max_line = simp length-append (omega arith) in (
        record { going = g.going; carries = g.carries; allowed = rw e g.fine },
        rw (e, ← append_assoc line (b ∷ []) l) (gathered_on s g (suc i) l (line ++ (b ∷ [])) p k.1 v),
      )

  -- bytes of a part's line before the last counted one
  part_on : (i : ℕ) (l line : List ℕ) (a : ℕ) (p : Parser) → all is_line_byte l ≡ true → length line + length l ≤ max_line → length l ≤ a
      → Moves tag n framing i l (at PartLine (with_framing (counted_body a) (with_line line false p)))
      (at PartLine (with_framing (counted_body (a - length l)) (with_line (line ++ l) false p)))
  part_on i [] line a p h u w =
      let e : a ≡ a - 0 = omega arith in
      let f = sym (append-nil line) in
      λ j. at PartLine (with_framing (counted_body (e j)) (with_line (f j) false p))
  part_on i (b ∷ l) line zero p h u w = absurd (omega arith)
  part_on i (b ∷ l) line (suc a) p h u w =
      let k = (and-eq-true_iff (is_line_byte b) (all is_line_byte l)).0 h in
      let e = line_byte line b k.0 (omega arith) in
      let f : suc a - suc (length l) ≡ a - length l = omega arith in
      let v : length (line ++ (b ∷ [])) + length l ≤ max_line = simp length-append (omega arith) in (
        record { going = refl; carries = refl; allowed = rw e },
        rw (e, f, ← append_assoc line (b ∷ []) l) (part_on (suc i) l (line ++ (b ∷ [])) a p k.1 v (omega arith)),
      )

  -- bytes of a part's data before the last one
  data_on : (i : ℕ) (l : List ℕ) (left a : ℕ) (p : Parser) → length l < left → length l ≤ a
      → Moves tag n Some i l (at (Data i left) (with_framing (counted_body a) p))
      (at (Data (i + length l) (left - length l)) (with_framing (counted_body (a - length l)) p))
  data_on i [] left a p u w =
      let e : i ≡ i + 0 = omega arith in
      let f : left ≡ left - 0 = omega arith in
      let g : a ≡ a - 0 = omega arith in
      λ j. at (Data (e j) (f j)) (with_framing (counted_body (g j)) p)
  data_on i (b ∷ l) left zero p u w = absurd (omega arith)
  data_on i (b ∷ l) zero (suc a) p u w = absurd (omega arith)
  data_on i (b ∷ l) (suc zero) (suc a) p u w = absurd (omega arith)
  data_on i (b ∷ l) (suc (suc k)) (suc a) p u w =
      let e : i + suc (length l) ≡ suc i + length l = omega arith in
      let f : suc (suc k) - suc (length l) ≡ suc k - length l = omega arith in
      let g : suc a - suc (length l) ≡ a - length l = omega arith in
      (record { going = refl; carries = refl; allowed = refl }, rw (e, f, g) (data_on (suc i) l (suc k) a p (omega arith) (omega arith)))

  -- bytes of a part's data up to the last one
  data_end : (i : ℕ) (l : List ℕ) (left a : ℕ) (p : Parser) → length l ≡ left → 1 ≤ left → left ≤ a
      → Moves tag n Some i l (at (Data i left) (with_framing (counted_body a) p)) (at (Delimiter 0) (with_framing (counted_body (a - left)) p))
  data_end i [] left a p e u w = absurd (omega arith)
  data_end i (b ∷ l) left zero p e u w = absurd (omega arith)
  data_end i (b ∷ l) zero (suc a) p e u w = absurd (omega arith)
  data_end i (b ∷ []) (suc zero) (suc a) p e u w =
      let g : a ≡ suc a - 1 = omega arith in
      (record { going = refl; carries = refl; allowed = refl }, λ j. at (Delimiter 0) (with_framing (counted_body (g j)) p))
  data_end i (b ∷ x ∷ l) (suc zero) (suc a) p e u w = absurd (omega arith)
  data_end i (b ∷ []) (suc (suc k)) (suc a) p e u w = absurd (omega arith)
  data_end i (b ∷ x ∷ l) (suc (suc k)) (suc a) p e u w =
      let g : suc a - suc (suc k) ≡ a - suc k = omega arith in
      (record { going = refl; carries = refl; allowed = refl }, rw g (data_end (suc i) (x ∷ l) (suc k) a p (omega arith) (omega arith) (omega arith)))

  -- k bytes
  module _ (k : ℕ) (l : List ℕ) (m : length l ≡ k) (p : Parser) where
    -- data of a 200 or a plain 206, before the last counted byte
    pub plain_moves : (next : ℕ) → p.stage ≡ Plain next → k ≤ p.framing.after
        → Moves tag n Some next l p (at (Plain (next + k)) (with_framing (counted_body (p.framing.after - k)) p))
    plain_moves next e u = rw (← m) (from_stage Some next l p _ (Plain next) e (counted_on Some Plain plain next l p.framing.after p (omega arith)))

    -- data of a 200 or a plain 206, up to the last counted byte
    pub plain-ends : (next : ℕ) → p.stage ≡ Plain next → k ≡ suc p.framing.after → Moves tag n Some next l p (at Finished (with_framing (counted_body 0) p))
    plain-ends next e u = from_stage Some next l p _ (Plain next) e (counted_end Some Plain plain next l p.framing.after p (omega arith))

    -- data of a part, before its last byte
    pub data_moves : (next left : ℕ) → p.stage ≡ Data next left → k < left → k ≤ p.framing.after
        → Moves tag n Some next l p (at (Data (next + k) (left - k)) (with_framing (counted_body (p.framing.after - k)) p))
    data_moves next left e u w =
        rw (← m) (from_stage Some next l p _ (Data next left) e (data_on next l left p.framing.after p (omega arith) (omega arith)))

    -- data of a part, up to its last byte
    pub data_ends : (next : ℕ) → p.stage ≡ Data next k → 1 ≤ k → k ≤ p.framing.after
        → Moves tag n Some next l p (at (Delimiter 0) (with_framing (counted_body (p.framing.after - k)) p))
    data_ends next e u w = from_stage Some next l p _ (Data next k) e (data_end next l k p.framing.after p m u w)

    -- the body of a 416, before the last counted byte
    pub skip_moves : p.stage ≡ Skip → k ≤ p.framing.after → Moves tag n framing 0 l p (with_framing (counted_body (p.framing.after - k)) p)
    skip_moves e u =
        rw (← m)
        (same_stage 0 l (λ x. with_framing (counted_body (x.framing.after - length l)) x) p Skip e
        (counted_on framing (λ i. Skip) skip 0 l p.framing.after p (omega arith)))

    -- the body of a 416, up to the last counted byte
    pub skip_ends : p.stage ≡ Skip → k ≡ suc p.framing.after → Moves tag n framing 0 l p (at Finished (with_framing (counted_body 0) p))
    skip_ends e u = from_stage framing 0 l p _ Skip e (counted_end framing (λ i. Skip) skip 0 l p.framing.after p (omega arith))

    -- what follows the closing mark, before the last counted byte
    pub epilogue_moves : p.stage ≡ Epilogue → k ≤ p.framing.after → Moves tag n framing 0 l p (with_framing (counted_body (p.framing.after - k)) p)
    epilogue_moves e u =
        rw (← m)
        (same_stage 0 l (λ x. with_framing (counted_body (x.framing.after - length l)) x) p Epilogue e
        (counted_on framing (λ i. Epilogue) epilogue 0 l p.framing.after p (omega arith)))

    -- what follows the closing mark, up to the last counted byte
    pub epilogue_ends : p.stage ≡ Epilogue → k ≡ suc p.framing.after → Moves tag n framing 0 l p (at Finished (with_framing (counted_body 0) p))
    epilogue_ends e u = from_stage framing 0 l p _ Epilogue e (counted_end framing (λ i. Epilogue) epilogue 0 l p.framing.after p (omega arith))

    -- bytes of a line, whose CR is not seen
    module _ (c : p.cr ≡ false) (h : all is_line_byte l ≡ true) (u : length p.line + k ≤ max_line) where
      -- of the status line
      pub status_moves : p.stage ≡ Status → Moves tag n framing 0 l p (with_line (p.line ++ l) false p)
      status_moves e = same-line 0 l (λ x. with_line (x.line ++ l) false x) p Status e c (gathered_on Status status 0 l p.line p h (omega arith))

      -- of a field line of the head
      pub fields_moves : p.stage ≡ Fields → Moves tag n framing 0 l p (with_line (p.line ++ l) false p)
      fields_moves e = same-line 0 l (λ x. with_line (x.line ++ l) false x) p Fields e c (gathered_on Fields fields 0 l p.line p h (omega arith))

      -- of a part's line, before the last counted byte
      pub part_moves : p.stage ≡ PartLine → k ≤ p.framing.after
          → Moves tag n framing 0 l p (with_line (p.line ++ l) false (with_framing (counted_body (p.framing.after - k)) p))
      part_moves e w =
          rw (← m)
          (same-line 0 l (λ x. with_line (x.line ++ l) false (with_framing (counted_body (x.framing.after - length l)) x)) p PartLine e c
          (part_on 0 l p.line p.framing.after p h (omega arith) (omega arith)))
