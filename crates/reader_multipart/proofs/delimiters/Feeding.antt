-- Feeding the bytes between parts: those that are passed are taken, and the first one that is refused is not.
-- Assumes nothing.
use Prim.Native.Nat.{ℕ, suc, ◌-◌, ◌≤◌}
use native.Mathlib.Omega.{arith}
use mathlib.Core.Bool.{Bool, true, false, cond, true≢false}
use mathlib.Core.List.{List, [], ◌∷◌}
use Rattle.std.specs.Prelude.{None}
use mathlib.Core.Path.{◌≡◌, refl, sym, ap, subst, ◌∙◌}
use lib.Dec.{eqb}
use lib.ListN.{length, take}
use lib.Seq.{length-take-le}
use borrow.Author.Tests.{ne_eqb, eqb-true, eqb-false}
use Rattle.rules_tablet.specs.Feeding.{Held, is_over, feed}
use Rattle.rules_tablet.specs.Parsers.{Parser, at, with_framing, counted_body, parse, event}
use Rattle.rules_tablet.specs.declared.Stage.{Stage}
use Rattle.laws_reader.proofs.Stages.{where_met, each}
use Rattle.laws_reader.proofs.at_once.Laws.{TakesAll, feed_refusing, framing_taken}
use Rattle.laws_reader.proofs.at_once.Steps.{Moves, framing, tablet_at}
use Rattle.reader_state.specs.Rooms.{Roomy}
use Rattle.reader_multipart.specs.Parsers.{led_to, passed_to}
use Rattle.reader_multipart.specs.Passing.{is_between, pass_byte, pass_on}
use Rattle.reader_multipart.specs.declared.delimiters.Passed.{Passed}
use Rattle.reader_multipart.proofs.delimiters.Loops.{advanced}
use Rattle.reader_multipart.proofs.delimiters.Steps.{Made, byte_made, byte_room}

-- a parser between parts is not over
between_going : (s : Stage) → is_between s ≡ true → is_over s ≡ false
between_going =
    where_met is_between (λ s. is_over s ≡ false)
    (tt, tt, λ next. tt, tt, λ k. refl, λ k. refl, λ i. refl, λ i. refl, refl, refl, refl, refl, tt, λ next left. tt, tt, tt, λ k. tt)

-- and its next byte is no data
between_bare : (s : Stage) → is_between s ≡ true → event s ≡ None
between_bare =
    where_met is_between (λ s. event s ≡ None)
    (tt, tt, λ next. tt, tt, λ k. refl, λ k. refl, λ i. refl, λ i. refl, refl, refl, refl, refl, tt, λ next left. tt, tt, tt, λ k. tt)

-- and begins no part
led_between : (s : Stage) (p : Parser) → is_between s ≡ true → led_to s p ≡ at s p
led_between s p =
    where_met is_between (λ x. led_to x p ≡ at x p)
    (tt, tt, λ next. tt, tt, λ k. refl, λ k. refl, λ i. refl, λ i. refl, refl, refl, refl, refl, tt, λ next left. tt, tt, tt, λ k. tt) s

-- where a parser stood before does not matter
led_again : (s : Stage) (k : ℕ) (t : Stage) (j : ℕ) (p : Parser)
    → led_to s (with_framing (counted_body k) (at t (with_framing (counted_body j) p))) ≡ led_to s (with_framing (counted_body k) p)
led_again s k t j p =
    each (λ x. led_to x (with_framing (counted_body k) (at t (with_framing (counted_body j) p))) ≡ led_to x (with_framing (counted_body k) p))
    (refl, refl, λ next. refl, refl, λ k. refl, λ k. refl, λ i. refl, λ i. refl, refl, refl, refl, refl, refl, λ next left. refl, refl, refl, λ k. refl) s

-- a byte is taken only between parts
taken_between : (s : Stage) (after : ℕ) (d : List ℕ) (b : ℕ) → eqb (pass_byte s after d b).taken 0 ≡ false → is_between s ≡ true
taken_between s after d b e = go (is_between s) refl
  where
    go : (t : Bool) → is_between s ≡ t → t ≡ true
    go true f = refl
    go false f = absurd (true≢false (rw f at e))

module _ (tag : List ℕ) (n : ℕ) (p : Parser) where
  -- behind the bytes of x the front of l takes the parser behind those of y
  record Reached (x y : Passed) (l : List ℕ) (next : ℕ) : Type 0 where
    more : x.taken ≤ y.taken
    few : y.taken - x.taken ≤ length l
    moves : Moves tag n framing next (take (y.taken - x.taken) l) (passed_to x p) (passed_to y p)

  -- no byte more
  stays : (x : Passed) (l : List ℕ) (next : ℕ) → Reached x x l next
  stays x l next = let e : x.taken - x.taken ≡ 0 = omega arith in record { more = omega arith; few = omega arith; moves = rw e }

  -- one byte between parts
  module _ (x : Passed) (b : ℕ) (f : is_between x.stage ≡ true) (r : Roomy x.stage x.after (length p.boundary)) where
    abbrev near : Parser
    near = at x.stage (with_framing (counted_body x.after) p)

    abbrev outcome : Passed
    outcome = pass_byte x.stage x.after p.boundary b

    made : Made near (parse tag n x.stage b near) outcome
    made = byte_made tag n x.stage b near f r

    one : (next : ℕ) → (outcome.taken ≡ 0 → ⊥) → (l : List ℕ) (q : Parser) → Moves tag n framing (suc next) l (passed_to outcome p) q
        → Moves tag n framing next (b ∷ l) (passed_to x p) q
    one next t l q m =
        let e : parse tag n x.stage b near ≡ passed_to outcome p = made.goes t ∙ led_again outcome.stage outcome.after x.stage x.after p in
        subst (λ (y : Parser). Moves tag n framing next (b ∷ l) y q) (sym (led_between x.stage (with_framing (counted_body x.after) p) f)) (
          record { going = between_going x.stage f; carries = between_bare x.stage f; allowed = made.passes t },
          subst (λ (y : Parser). Moves tag n framing (suc next) l y q) (sym e) m,
        )

  -- a piece behind some bytes
  reaches : (x : Passed) (l : List ℕ) (next : ℕ) → (x.taken ≡ 0 → ⊥) → Roomy x.stage x.after (length p.boundary)
      → Reached x (pass_on x p.boundary l) l next
  reaches x [] next z r = stays x [] next
  reaches x (b ∷ l) next z r = go (eqb (pass_byte x.stage x.after p.boundary b).taken 0) refl
      (λ f. reaches (advanced x (pass_byte x.stage x.after p.boundary b)) l (suc next) (λ u. omega arith)
      (byte_room x.stage x.after p.boundary b f))
    where
      y : Passed
      y = pass_byte x.stage x.after p.boundary b

      go : (t : Bool) → eqb y.taken 0 ≡ t → (is_between x.stage ≡ true → Reached (advanced x y) (pass_on (advanced x y) p.boundary l) l (suc next))
          → Reached x (cond t (cond (eqb x.taken 0) y x) (pass_on (advanced x y) p.boundary l)) (b ∷ l) next
      go true e h = rw (ne_eqb x.taken 0 z) (stays x (b ∷ l) next)
      go false e h =
          let f = taken_between x.stage x.after p.boundary b e in
          let g = h f in
          let w = pass_on (advanced x y) p.boundary l in
          let k : w.taken - x.taken ≡ suc (w.taken - suc x.taken) = omega (arith, g.more) in
          record {
            more = omega (arith, g.more);
            few = omega (arith, g.more, g.few);
            moves = rw k (one x b f r next (eqb-false y.taken 0 e) (take (w.taken - suc x.taken) l) (passed_to w p) g.moves);
          }

module _ (lim : ℕ) (tag : List ℕ) (n : ℕ) (h : Held) (p : Parser) (f : is_between p.stage ≡ true)
    (r : Roomy p.stage p.framing.after (length p.boundary)) where
  -- before the piece
  abbrev start : Passed
  start = record { stage = p.stage; after = p.framing.after; taken = 0 }

  -- what the bytes of a piece between parts are to feeding
  pub record PassedIs (piece : List ℕ) (x : Passed) : Type 0 where
    pub within : x.taken ≤ length piece
    pub takes : (x.taken ≡ 0 → ⊥) → (rest : List ℕ) → TakesAll lim tag n x.taken (take x.taken piece) rest h p h (passed_to x p)
    pub stops : x.taken ≡ 0 → 1 ≤ length piece → feed lim tag n piece (tablet_at h p) ≡ record { tablet = tablet_at h (at x.stage p); taken = 0 }

  -- the bytes that are passed are taken, whatever follows them; where none is, the first is refused
  pub pass_is : (piece : List ℕ) → PassedIs piece (pass_on start p.boundary piece)
  pass_is [] = record { within = omega arith; takes = λ t. absurd (t refl); stops = λ t u. absurd (omega arith) }
  pass_is (b ∷ l) = go (eqb y.taken 0) refl
    where
      y : Passed
      y = pass_byte p.stage p.framing.after p.boundary b

      go : (t : Bool) → eqb y.taken 0 ≡ t → PassedIs (b ∷ l) (cond t y (pass_on (advanced start y) p.boundary l))
      go true e =
          let z = eqb-true y.taken 0 e in
          let m = made tag n p start b f r in
          record {
            within = omega arith;
            takes = λ t. absurd (t z);
            stops = λ t u. feed_refusing lim tag n b l h p (between_going p.stage f) (between_bare p.stage f) (m.refuses z)
                ∙ ap (λ (s : Stage). record { tablet = tablet_at h (at s p); taken = 0 }) (m.stops z);
          }
      go false e =
          let w = pass_on (advanced start y) p.boundary l in
          let g = reaches tag n p (advanced start y) l 1 (λ u. omega arith) (byte_room p.stage p.framing.after p.boundary b f) in
          let k : w.taken ≡ suc (w.taken - 1) = omega (arith, g.more) in
          let u : w.taken ≤ length (b ∷ l) = omega (arith, g.more, g.few) in
          let m = one tag n p start b f r 0 (eqb-false y.taken 0 e) (take (w.taken - 1) l) (passed_to w p) g.moves in
          record {
            within = u;
            takes = λ t rest.
                framing_taken lim tag n w.taken (take w.taken (b ∷ l)) rest (length-take-le w.taken (b ∷ l) u) p h (passed_to w p)
                (subst (λ (q : Parser). Moves tag n framing 0 (take w.taken (b ∷ l)) q (passed_to w p)) (led_between p.stage p f)
                (subst (λ (i : ℕ). Moves tag n framing 0 (take i (b ∷ l)) (passed_to start p) (passed_to w p)) (sym k) m));
            stops = λ t. absurd (omega (arith, g.more));
          }
