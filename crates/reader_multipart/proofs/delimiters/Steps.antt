-- What a byte between parts is to the parser.
-- Assumes nothing.
use Prim.Native.Nat.{ℕ, zero, suc, ◌+◌, ◌<◌}
use native.Mathlib.Omega.{arith}
use mathlib.Core.Bool.{Bool, true, false, not, cond, false≢true}
use mathlib.Core.List.{List, [], ◌∷◌, ◌++◌}
use mathlib.Core.Path.{◌≡◌, refl, ap}
use lib.Dec.{ltb, eqb}
use lib.ListN.{length, get_or}
use borrow.Author.Tests.{lt-ltb, ltb-true, eqb-false}
use Rattle.rules_server.specs.Answers.{dash_boundary}
use Rattle.rules_server.specs.Texts.{crlf}
use Rattle.rules_tablet.specs.Limits.{max_preamble}
use Rattle.rules_tablet.specs.Parsers.{Parser, at, with_framing, counted_body, parse, framed, count_byte, last_byte, body_step, delimiter, is_refused}
use Rattle.rules_tablet.specs.declared.Stage.{Stage}
use Rattle.rules_tablet.specs.declared.Stage.TheVariants.{Status, Fields, Plain, Skip, Preamble, PreambleEnd, FirstDelimiter, Delimiter, AfterFirstDelimiter}
use Rattle.rules_tablet.specs.declared.Stage.TheVariants.{AfterDelimiter, PartBegin, Closing, PartLine, Data, Epilogue, Finished, Refused}
use Rattle.laws_reader.proofs.Stages.{where_met, each}
use Rattle.reader_state.specs.Rooms.{Roomy}
use Rattle.reader_state.proofs.stages.Laws.{no, so, itself}
use Rattle.reader_multipart.specs.Parsers.{led_to, passed_to}
use Rattle.reader_multipart.specs.Passing.{is_between, is_epilogue, delimiter_next, next_stage, counted, pass_byte, onward, pass_on}
use Rattle.reader_multipart.specs.declared.delimiters.Passed.{Passed}

-- where a byte between parts can lead, with a boundary of m bytes
abbrev pub Led : Stage → ℕ → Type 0
Led Status m = ⊥
Led Fields m = ⊥
Led (Plain next) m = ⊥
Led Skip m = ⊥
Led (Preamble k) m = Unit {0}
Led (PreambleEnd k) m = k < max_preamble
Led (FirstDelimiter i) m = i < m + 4
Led (Delimiter i) m = i < m + 4
Led AfterFirstDelimiter m = Unit {0}
Led AfterDelimiter m = Unit {0}
Led PartBegin m = Unit {0}
Led Closing m = Unit {0}
Led PartLine m = Unit {0}
Led (Data next left) m = ⊥
Led Epilogue m = Unit {0}
Led Finished m = ⊥
Led (Refused k) m = k ≡ 15

-- a property of both sides of a test
pub either : {A : Type 0} (P : A → Type 0) (b : Bool) {x y : A} → (b ≡ true → P x) → (b ≡ false → P y) → P (cond b x y)
either P true f g = f refl
either P false f g = g refl

-- tests of where a byte leads
spread : (t : Bool) (x y : Stage) (p : Parser) → cond t (led_to x p) (led_to y p) ≡ led_to (cond t x y) p
spread true x y p = refl
spread false x y p = refl

spread_then : (t u : Bool) (x y z : Stage) (p : Parser) → cond t (cond u (led_to x p) (led_to y p)) (led_to z p) ≡ led_to (cond t (cond u x y) z) p
spread_then true u x y z p = spread u x y p
spread_then false u x y z p = refl

spread_both : (t u v : Bool) (x y z w : Stage) (p : Parser)
    → cond t (cond u (led_to x p) (led_to y p)) (cond v (led_to z p) (led_to w p)) ≡ led_to (cond t (cond u x y) (cond v z w)) p
spread_both true u v x y z w p = spread u x y p
spread_both false u v x y z w p = spread v z w p

-- the parser goes where the byte leads
pub body_goes : (n : ℕ) (s : Stage) (b : ℕ) (p : Parser) → is_between s ≡ true → Roomy s p.framing.after (length p.boundary)
    → body_step n s b p ≡ led_to (next_stage s p.boundary b) p
body_goes n Status b p e r = absurd (false≢true e)
body_goes n Fields b p e r = absurd (false≢true e)
body_goes n (Plain next) b p e r = absurd (false≢true e)
body_goes n Skip b p e r = absurd (false≢true e)
body_goes n (Preamble k) b p e r = spread_both (eqb b 13) (ltb k max_preamble) (eqb b 45) (PreambleEnd k) (Refused 15) (FirstDelimiter 3) (Refused 15) p
body_goes n (PreambleEnd k) b p e r = rw (lt-ltb k max_preamble r) (spread (eqb b 10) (Preamble (suc k)) (Refused 15) p)
body_goes n (FirstDelimiter i) b p e r =
    rw (lt-ltb i (length (delimiter p)) (omega (arith, r)))
    (spread_then (eqb b (get_or (delimiter p) i 0)) (eqb (suc i) (length (delimiter p))) AfterFirstDelimiter (FirstDelimiter (suc i)) (Refused 15) p)
body_goes n (Delimiter i) b p e r = rw (lt-ltb i (length (delimiter p)) (omega (arith, r)))
    (spread_then (eqb b (get_or (delimiter p) i 0)) (eqb (suc i) (length (delimiter p))) AfterDelimiter (Delimiter (suc i)) (Refused 15) p)
body_goes n AfterFirstDelimiter b p e r = spread (eqb b 13) PartBegin (Refused 15) p
body_goes n AfterDelimiter b p e r = spread_both (eqb b 13) true (eqb b 45) PartBegin PartBegin Closing (Refused 15) p
body_goes n PartBegin b p e r = spread (eqb b 10) PartLine (Refused 15) p
body_goes n Closing b p e r = spread (eqb b 45) Epilogue (Refused 15) p
body_goes n PartLine b p e r = absurd (false≢true e)
body_goes n (Data next left) b p e r = absurd (false≢true e)
body_goes n Epilogue b p e r = absurd (false≢true e)
body_goes n Finished b p e r = absurd (false≢true e)
body_goes n (Refused k) b p e r = absurd (false≢true e)

-- and the byte is counted
parse_body : (tag : List ℕ) (n : ℕ) (s : Stage) (b : ℕ) (p : Parser) → is_between s ≡ true → parse tag n s b p ≡ framed p.framing (body_step n s b p)
parse_body tag n s b p =
    where_met is_between (λ x. parse tag n x b p ≡ framed p.framing (body_step n x b p))
    (tt, tt, λ next. tt, tt, λ k. refl, λ k. refl, λ i. refl, λ i. refl, refl, refl, refl, refl, tt, λ next left. tt, tt, tt, λ k. tt) s

-- a byte of a delimiter
mark_led : (first : Bool) (i : ℕ) (d : List ℕ) (b : ℕ) → Led (delimiter_next first i d b) (length d)
mark_led first i d b =
    let P : Stage → Type 0 = λ s. Led s (length d) in
    either P (ltb i (length (crlf ++ dash_boundary d)))
    (λ t. either P (eqb b (get_or (crlf ++ dash_boundary d) i 0))
    (λ e. either P (eqb (suc i) (length (crlf ++ dash_boundary d)))
    (λ l. either P first (λ f. tt) (λ f. tt))
    (λ l.
    let v : suc i < length d + 4 = omega (arith, ltb-true i (length (crlf ++ dash_boundary d)) t, eqb-false (suc i) (length (crlf ++ dash_boundary d)) l) in
    either P first (λ f. v) (λ f. v)))
    (λ e. refl))
    (λ t. refl)

-- a byte leads where one can
next_led : (s : Stage) (d : List ℕ) (b : ℕ) → Led (next_stage s d b) (length d)
next_led Status d b = refl
next_led Fields d b = refl
next_led (Plain next) d b = refl
next_led Skip d b = refl
next_led (Preamble k) d b = either (λ (s : Stage). Led s (length d)) (eqb b 13)
    (λ t. either (λ (s : Stage). Led s (length d)) (ltb k max_preamble) (λ u. ltb-true k max_preamble u) (λ u. refl))
    (λ t. either (λ (s : Stage). Led s (length d)) (eqb b 45) (λ u. omega arith) (λ u. refl))
next_led (PreambleEnd k) d b = either (λ (s : Stage). Led s (length d)) (ltb k max_preamble)
    (λ t. either (λ (s : Stage). Led s (length d)) (eqb b 10) (λ u. tt) (λ u. refl)) (λ t. refl)
next_led (FirstDelimiter i) d b = mark_led true i d b
next_led (Delimiter i) d b = mark_led false i d b
next_led AfterFirstDelimiter d b = either (λ (s : Stage). Led s (length d)) (eqb b 13) (λ t. tt) (λ t. refl)
next_led AfterDelimiter d b = either (λ (s : Stage). Led s (length d)) (eqb b 13) (λ t. tt)
    (λ t. either (λ (s : Stage). Led s (length d)) (eqb b 45) (λ u. tt) (λ u. refl))
next_led PartBegin d b = either (λ (s : Stage). Led s (length d)) (eqb b 10) (λ t. tt) (λ t. refl)
next_led Closing d b = either (λ (s : Stage). Led s (length d)) (eqb b 45) (λ t. tt) (λ t. refl)
next_led PartLine d b = refl
next_led (Data next left) d b = refl
next_led Epilogue d b = refl
next_led Finished d b = refl
next_led (Refused k) d b = refl

-- it leaves room
led_room : (s : Stage) (m after : ℕ) → Led s m → Roomy s after m
led_room s m after =
    each (λ x. Led x m → Roomy x after m)
    (so, so, λ next. no, so, λ k. so, λ k l. l, λ i l. l, λ i l. l, so, so, so, so, so, λ next left. no, so, so, λ k. so) s

-- what a byte between parts makes of a parser: it is refused at the stage of y, or taken
pub record Made (p q : Parser) (y : Passed) : Type 0 where
  pub refuses : y.taken ≡ 0 → is_refused q.stage ≡ true
  pub stops : y.taken ≡ 0 → q.stage ≡ y.stage
  pub passes : (y.taken ≡ 0 → ⊥) → is_refused q.stage ≡ false
  pub goes : (y.taken ≡ 0 → ⊥) → q ≡ passed_to y p

refused : {p q : Parser} {y : Passed} → y.taken ≡ 0 → is_refused q.stage ≡ true → q.stage ≡ y.stage → Made p q y
refused t r s = record { refuses = λ u. r; stops = λ u. s; passes = λ u. absurd (u t); goes = λ u. absurd (u t) }

taken : {p q : Parser} {y : Passed} → y.taken ≡ 1 → is_refused q.stage ≡ false → q ≡ passed_to y p → Made p q y
taken t r s = record { refuses = λ u. absurd (omega arith); stops = λ u. absurd (omega arith); passes = λ u. r; goes = λ u. s }

-- behind the closing mark the last counted byte ends the answer
closed_ends : (t : Stage) (p : Parser) → is_epilogue t ≡ true → last_byte t (led_to t p) ≡ at Finished p
closed_ends t p =
    where_met is_epilogue (λ x. last_byte x (led_to x p) ≡ at Finished p)
    (tt, tt, λ next. tt, tt, λ k. tt, λ k. tt, λ i. tt, λ i. tt, tt, tt, tt, tt, tt, λ next left. tt, refl, tt, λ k. tt) t

-- elsewhere it is refused
unclosed_breaks : (t : Stage) (m : ℕ) (p : Parser) → is_epilogue t ≡ false → Led t m → (last_byte t (led_to t p)).stage ≡ Refused 15
unclosed_breaks t m p e =
    where_met (λ x. not (is_epilogue x)) (λ x. Led x m → (last_byte x (led_to x p)).stage ≡ Refused 15)
    (no, no, λ x. no, no, λ k. itself, λ k. itself, λ i. itself, λ i. itself, itself, itself, itself, itself, itself, λ x y. no, tt, no, λ k. ap Refused) t
    (rw e)

-- where a byte leads does not depend on the count
led_framed : (t : Stage) (k : ℕ) (p : Parser) → with_framing (counted_body k) (led_to t p) ≡ led_to t (with_framing (counted_body k) p)
led_framed t k p =
    each (λ x. with_framing (counted_body k) (led_to x p) ≡ led_to x (with_framing (counted_body k) p))
    (refl, refl, λ next. refl, refl, λ k. refl, λ k. refl, λ i. refl, λ i. refl, refl, refl, refl, refl, refl, λ next left. refl, refl, refl, λ k. refl) t

-- counted, where it leads to t
counted_made : (k : ℕ) (t : Stage) (m : ℕ) (p : Parser) → Led t m
    → Made (with_framing (counted_body k) p) (count_byte k (led_to t (with_framing (counted_body k) p))) (counted k t)
counted_made zero t m p l = go (is_epilogue t) refl
  where
    go : (b : Bool) → is_epilogue t ≡ b → Made (with_framing (counted_body 0) p) (last_byte t (led_to t (with_framing (counted_body 0) p)))
        (cond b (record { stage = Finished; after = 0; taken = 1 }) (record { stage = Refused 15; after = 0; taken = 0 }))
    go true e = let f = closed_ends t (with_framing (counted_body 0) p) e in taken refl (rw f) f
    go false e = let f = unclosed_breaks t m (with_framing (counted_body 0) p) e l in refused refl (rw f) f
counted_made (suc k) t m p l = go (is_refused t) refl
  where
    go : (b : Bool) → is_refused t ≡ b → Made (with_framing (counted_body (suc k)) p) (count_byte (suc k) (led_to t (with_framing (counted_body (suc k)) p)))
        (cond b (record { stage = t; after = suc k; taken = 0 }) (record { stage = t; after = k; taken = 1 }))
    go true e = refused refl e refl
    go false e = taken refl e (led_framed t k (with_framing (counted_body (suc k)) p))

-- a byte between parts
pub byte_made : (tag : List ℕ) (n : ℕ) (s : Stage) (b : ℕ) (p : Parser) → is_between s ≡ true → Roomy s p.framing.after (length p.boundary)
    → Made p (parse tag n s b p) (pass_byte s p.framing.after p.boundary b)
byte_made tag n s b p e r =
    rw (parse_body tag n s b p e, body_goes n s b p e r, e)
    (counted_made p.framing.after (next_stage s p.boundary b) (length p.boundary) p (next_led s p.boundary b))

-- one byte that is not the last
pub one_passed : (s : Stage) (d : List ℕ) (b : ℕ) → is_between s ≡ true → (pass_on (record { stage = s; after = 1; taken = 0 }) d (b ∷ [])).stage ≡ next_stage s d b
one_passed s d b e = rw e (go (is_refused (next_stage s d b)))
  where
    go : (r : Bool) → (onward (record { stage = s; after = 1; taken = 0 })
        (cond r (record { stage = next_stage s d b; after = 1; taken = 0 }) (record { stage = next_stage s d b; after = 0; taken = 1 }))
        (record {
          stage = (cond {A = Passed} r (record { stage = next_stage s d b; after = 1; taken = 0 })
              (record { stage = next_stage s d b; after = 0; taken = 1 })).stage;
          after = (cond {A = Passed} r (record { stage = next_stage s d b; after = 1; taken = 0 })
              (record { stage = next_stage s d b; after = 0; taken = 1 })).after;
          taken = 1;
        })).stage ≡ next_stage s d b
    go true = refl
    go false = refl

-- where it is taken there is room
pub byte_room : (s : Stage) (after : ℕ) (d : List ℕ) (b : ℕ) → is_between s ≡ true → Roomy (pass_byte s after d b).stage (pass_byte s after d b).after (length d)
byte_room s after d b e = rw e (counted_room after (next_stage s d b) (length d) (next_led s d b))
  where
    P : ℕ → Passed → Type 0
    P m y = Roomy y.stage y.after m

    counted_room : (k : ℕ) (t : Stage) (m : ℕ) → Led t m → P m (counted k t)
    counted_room zero t m l = either (P m) (is_epilogue t) (λ u. tt) (λ u. tt)
    counted_room (suc k) t m l = either (P m) (is_refused t) (λ u. led_room t m (suc k) l) (λ u. led_room t m k l)
