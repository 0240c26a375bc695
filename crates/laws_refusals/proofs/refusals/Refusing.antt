-- From a fresh reader, an answer is refused, goes on or ends exactly as its fronts say.
use Prim.Native.Nat.{ℕ, ◌+◌, ◌≤◌}
use mathlib.Core.Path.{◌≡◌, refl, sym, ap, subst, ◌∙◌}
use mathlib.Core.Bool.{true, false, true≢false}
use mathlib.Core.List.{List, [], ◌∷◌, ◌++◌, map, append_assoc, append-nil}
use Rattle.std.specs.Prelude.{Option}
use native.Mathlib.Omega.{arith}
use lib.ListN.{length, length-append, length-map}
use Rattle.rules_server.specs.Limits.{max_tag}
use Rattle.rules_server.specs.Octets.{is_nil}
use Rattle.rules_server.specs.Answers.{Cell, byte_of}
use Rattle.rules_tablet.specs.Parsers.{Parser, at, is_refused, report_of}
use Rattle.rules_tablet.specs.Feeding.{Held, kept, take_in, Tablet, Fed, is_over, feed}
use Rattle.rules_tablet.specs.Calls.{fresh}
use Rattle.rules_tablet.specs.declared.Stage.{Stage}
use Rattle.rules_tablet.specs.declared.Stage.TheVariants.{Finished, Refused}
use Rattle.rules_demands.specs.AcceptanceGrammar.{Acceptable}
use Rattle.rules_demands.specs.AcceptanceByCopy.{TakenAcceptable, OnlyAcceptableTaken, Agrees, done}
use Rattle.laws_reader.proofs.rules_kept.Pieces.{splits}
use Rattle.laws_refusals.proofs.acceptance.Taking.{cell_at, kept_back, feed_agrees}
use Rattle.rules_demands.specs.RefusalHeads.{in_status}
use Rattle.rules_demands.specs.RefusalFronts.{Front, in_head, position, Refuses, by_form, by_data}
use Rattle.rules_demands.specs.RefusalsExactly.{RefusedAt, GoesOn, EndedAt, FedRefused, FedOn, FedEnded, RefusesExactly, Outcome, refused, going, ended}
use Rattle.rules_demands.specs.RefusalsExactly.{OneOutcomeAlways}
use Rattle.laws_refusals.proofs.refusals.Bytes.{quiet, form_byte, data_byte, over-none, StoreCase, refuses, keeps, store_case, data_refused, agrees_then}
use Rattle.laws_refusals.proofs.refusals.Bytes.{cell_byte, bytes_then}
use Rattle.laws_refusals.proofs.refusals.Lines.{none_far}
use Rattle.laws_refusals.proofs.refusals.Sound.{taken}
use Rattle.laws_refusals.proofs.refusals.Reports.{number-said}
use Rattle.laws_refusals.proofs.refusals.Fronts.{frontState, front_leads, FrontStep, refused as front-refuses, onward as front-onward}
use Rattle.laws_refusals.proofs.refusals.Fronts.{ended as front-ended, front_step, front-refused, front_open, front-event}

module _ (lim : ℕ) (tag : List ℕ) (n : ℕ) (h : Held) (some-tag : is_nil tag ≡ false) (short : length tag ≤ max_tag) where
  -- where h is held and nothing is read
  abbrev start : Tablet
  start = record { held = h; parser = fresh }

  -- a front whose data agrees is taken whole
  front-fed : (cells : List Cell) (f : Front tag n cells) (last : Held) → Agrees lim h cells last
      → feed lim tag n (map byte_of cells) start ≡ record { tablet = record { held = last; parser = frontState tag n cells f }; taken = length cells }
  front-fed cells f last a =
      let g = front_leads tag n short cells f in
      feed_agrees lim tag n h last fresh cells g.0 a
      ∙ ap (λ (p : Parser). record { tablet = record { held = last; parser = p }; taken = length cells }) g.1

  -- and then the rest
  module _ (cells : List Cell) (f : Front tag n cells) (last : Held) (a : Agrees lim h cells last) (rest : List ℕ) (to : Fed)
      (e : feed lim tag n rest (record { held = last; parser = frontState tag n cells f }) ≡ to) where
    -- what is left
    then_tablet : (feed lim tag n (map byte_of cells ++ rest) start).tablet ≡ to.tablet
    then_tablet =
        (splits lim tag n (map byte_of cells) rest start).0
        ∙ ap (λ (x : Fed). (feed lim tag n rest x.tablet).tablet) (front-fed cells f last a) ∙ ap (λ (x : Fed). x.tablet) e

    -- and what is taken
    then_taken : (feed lim tag n (map byte_of cells ++ rest) start).taken ≡ length cells + to.taken
    then_taken =
        (splits lim tag n (map byte_of cells) rest start).1
        ∙ ap (λ (x : Fed). x.taken + (feed lim tag n rest x.tablet).taken) (front-fed cells f last a) ∙ ap (λ (x : Fed). length cells + x.taken) e

  -- a byte that a front refuses
  refuses-fed : (cells : List Cell) (f : Front tag n cells) (last : Held) (x k : ℕ) (rest : List ℕ) → Refuses lim tag n last cells f x k
      → feed lim tag n (x ∷ rest) (record { held = last; parser = frontState tag n cells f })
      ≡ record { tablet = record { held = last; parser = at (Refused k) (frontState tag n cells f) }; taken = 0 }
  refuses-fed cells f last x k rest (by_form q) =
      form_byte lim tag n last (frontState tag n cells f) x k rest (front_open tag n short cells f)
      (front-event tag n short cells f ∙ quiet tag n cells f x k q) (front-refused tag n short some-tag cells f x k q)
  refuses-fed cells f last x k rest (by_data q) =
      data_byte lim tag n last (frontState tag n cells f) x k rest (front_open tag n short cells f)
      (ap (λ (o : Option ℕ). take_in lim last o x) (front-event tag n short cells f) ∙ data_refused lim last (position tag n cells f) x k q)

  -- what is refused is fed so
  refused-fed : (bytes : List ℕ) (i k : ℕ) (last : Held) → RefusedAt lim tag n h bytes i k last → FedRefused lim tag n h bytes i k last
  refused-fed bytes i k last r =
      let e = refuses-fed r.cells r.front last r.byte k r.rest r.why in
      let t = ap (λ (l : List ℕ). (feed lim tag n l start).tablet) r.text ∙ then_tablet r.cells r.front last r.agrees (r.byte ∷ r.rest) _ e in
      let m = ap (λ (l : List ℕ). (feed lim tag n l start).taken) r.text ∙ then_taken r.cells r.front last r.agrees (r.byte ∷ r.rest) _ e in
      record {
        stage = ap (λ (x : Tablet). x.parser.stage) t;
        taken = omega (arith, m, r.place);
        holds = ap (λ (x : Tablet). x.held) t;
      }

  -- so is what goes on
  going_fed : (bytes : List ℕ) (last : Held) → GoesOn lim tag n h bytes last → FedOn lim tag n h bytes last
  going_fed bytes last g =
      let e = ap (λ (l : List ℕ). feed lim tag n l start) g.text ∙ front-fed g.cells g.front last g.agrees in
      record {
        stage = ap (λ (x : Fed). is_over x.tablet.parser.stage) e ∙ front_open tag n short g.cells g.front;
        taken = ap (λ (x : Fed). x.taken) e ∙ sym (length-map g.cells byte_of) ∙ ap length (sym g.text);
        holds = ap (λ (x : Fed). x.tablet.held) e;
      }

  -- and what has ended
  ended_fed : (bytes : List ℕ) (i : ℕ) (last : Held) → EndedAt lim tag n h bytes i last → FedEnded lim tag n h bytes i last
  ended_fed bytes i last r =
      let w = r.whole in
      let k = taken lim tag n h last r.answer w.cells short w.acceptable w.agrees in
      let t = (feed lim tag n r.answer start).tablet in
      let over : is_over t.parser.stage ≡ true = ap is_over k.ends in
      let s = splits lim tag n r.answer r.rest start in
      let z = over-none lim tag n t r.rest over in
      let tablet = ap (λ (l : List ℕ). (feed lim tag n l start).tablet) r.text ∙ s.0 ∙ ap (λ (x : Fed). x.tablet) z in
      let count = ap (λ (l : List ℕ). (feed lim tag n l start).taken) r.text ∙ s.1 in
      let None-more = ap (λ (x : Fed). x.taken) z in
      record {
        stage = ap (λ (x : Tablet). x.parser.stage) tablet ∙ k.ends;
        taken = omega (arith, count, None-more, k.all, r.place);
        holds = ap (λ (x : Tablet). x.held) tablet ∙ k.holds;
      }

  -- one byte more of a front
  module _ (cells : List Cell) (f : Front tag n cells) (last : Held) (a : Agrees lim h cells last) (x : ℕ) (rest : List ℕ) where
    -- the byte with its position
    abbrev cell : Cell
    cell = cell_at (position tag n cells f) x

    -- the bytes with it
    byte_text : map byte_of (cells ++ (cell ∷ [])) ≡ map byte_of cells ++ (x ∷ [])
    byte_text = bytes_then cells (cell ∷ []) ∙ ap (λ (y : ℕ). map byte_of cells ++ (y ∷ [])) (cell_byte (position tag n cells f) x)

    -- and the rest
    rest_text : map byte_of (cells ++ (cell ∷ [])) ++ rest ≡ map byte_of cells ++ (x ∷ rest)
    rest_text = ap (λ (l : List ℕ). l ++ rest) byte_text ∙ append_assoc (map byte_of cells) (x ∷ []) rest

    -- it agrees where it is kept
    byte_agrees : (to : Held) → take_in lim last (position tag n cells f) x ≡ kept to → Agrees lim h (cells ++ (cell ∷ [])) to
    byte_agrees to e = agrees_then lim h last to cells (cell ∷ []) a (kept_back lim last to to (position tag n cells f) x [] e (done refl refl))

    -- refused there
    refused_here : (k : ℕ) → Refuses lim tag n last cells f x k → Outcome lim tag n h (map byte_of cells ++ (x ∷ rest))
    refused_here k q = refused (length cells) k last
        (record { cells = cells; byte = x; rest = rest; front = f; agrees = a; why = q; text = refl; place = refl })

    -- an answer that ends there
    ended_here : (to : Held) → take_in lim last (position tag n cells f) x ≡ kept to
        → Acceptable tag n (map byte_of (cells ++ (cell ∷ []))) (cells ++ (cell ∷ [])) → Outcome lim tag n h (map byte_of cells ++ (x ∷ rest))
    ended_here to e q =
        ended (length (map byte_of (cells ++ (cell ∷ [])))) to
        (record {
          answer = map byte_of (cells ++ (cell ∷ []));
          rest = rest;
          whole = record { cells = cells ++ (cell ∷ []); acceptable = q; agrees = byte_agrees to e };
          text = sym rest_text;
          place = refl;
        })

  -- the outcome of a front and the rest of the bytes
  outcome-from : (rest : List ℕ) (cells : List Cell) (f : Front tag n cells) (last : Held) → Agrees lim h cells last
      → Outcome lim tag n h (map byte_of cells ++ rest)
  outcome-from [] cells f last a = going last (record { cells = cells; front = f; agrees = a; text = append-nil (map byte_of cells) })
  outcome-from (x ∷ rest) cells f last a =
      stepped (front_step tag n short some-tag cells f x) (store_case lim last (position tag n cells f) x) (outcome-from rest)
    where
      stepped : FrontStep tag n short cells f x → StoreCase lim last (position tag n cells f) x
          → ((cells : List Cell) (f : Front tag n cells) (last : Held) → Agrees lim h cells last → Outcome lim tag n h (map byte_of cells ++ rest))
          → Outcome lim tag n h (map byte_of cells ++ (x ∷ rest))
      stepped (front-refuses k q) s rec = refused_here cells f last a x rest k (by_form q)
      stepped (front-onward g) (refuses k q) rec = refused_here cells f last a x rest k (by_data q)
      stepped (front-onward g) (keeps to e) rec =
          subst (Outcome lim tag n h) (rest_text cells f last a x rest)
          (rec (cells ++ (cell_at (position tag n cells f) x ∷ [])) g to (byte_agrees cells f last a x rest to e))
      stepped (front-ended q p) (refuses k r) rec = refused_here cells f last a x rest k (by_data r)
      stepped (front-ended q p) (keeps to e) rec = ended_here cells f last a x rest to e q

  -- every answer has an outcome
  outcome : (bytes : List ℕ) → Outcome lim tag n h bytes
  outcome bytes = outcome-from bytes [] (in_head [] (in_status [] false none_far refl) refl) h (done refl refl)

-- two refusals of one stage have one number
one_number : (s : Stage) (k m : ℕ) → s ≡ Refused k → s ≡ Refused m → k ≡ m
one_number s k m e f = sym (ap (λ x. number-said (report_of x)) e) ∙ ap (λ x. number-said (report_of x)) f

-- a refusal is no end
refused_no_end : (s : Stage) (k : ℕ) → s ≡ Refused k → s ≡ Finished → ⊥
refused_no_end s k e f = true≢false (sym (ap is_refused e) ∙ ap is_refused f)

-- nor does it go on
refused-over : (s : Stage) (k : ℕ) → s ≡ Refused k → is_over s ≡ false → ⊥
refused-over s k e f = true≢false (sym (ap is_over e) ∙ f)

-- nor does an end
ended_over : (s : Stage) → s ≡ Finished → is_over s ≡ false → ⊥
ended_over s e f = true≢false (sym (ap is_over e) ∙ f)

module _ (lim : ℕ) (tag : List ℕ) (n : ℕ) (h : Held) (bytes : List ℕ) (some-tag : is_nil tag ≡ false) (short : length tag ≤ max_tag) where
  -- from what feeding leaves back to a refusal
  refused_back : (i k : ℕ) (last : Held) → FedRefused lim tag n h bytes i k last → RefusedAt lim tag n h bytes i k last
  refused_back i k last f = go (outcome lim tag n h some-tag short bytes)
    where
      go : Outcome lim tag n h bytes → RefusedAt lim tag n h bytes i k last
      go (refused j m other r) =
          let g = refused-fed lim tag n h some-tag short bytes j m other r in
          subst (λ (y : ℕ). RefusedAt lim tag n h bytes y k last) (sym g.taken ∙ f.taken)
          (subst (λ (y : ℕ). RefusedAt lim tag n h bytes j y last) (one_number _ m k g.stage f.stage)
          (subst (λ (y : Held). RefusedAt lim tag n h bytes j m y) (sym g.holds ∙ f.holds) r))
      go (going other g) = absurd (refused-over _ k f.stage (going_fed lim tag n h some-tag short bytes other g).stage)
      go (ended j other g) = absurd (refused_no_end _ k f.stage (ended_fed lim tag n h some-tag short bytes j other g).stage)

  -- to an answer that goes on
  going_back : (last : Held) → FedOn lim tag n h bytes last → GoesOn lim tag n h bytes last
  going_back last f = go (outcome lim tag n h some-tag short bytes)
    where
      go : Outcome lim tag n h bytes → GoesOn lim tag n h bytes last
      go (refused j m other r) = absurd (refused-over _ m (refused-fed lim tag n h some-tag short bytes j m other r).stage f.stage)
      go (going other g) = subst (λ (y : Held). GoesOn lim tag n h bytes y) (sym (going_fed lim tag n h some-tag short bytes other g).holds ∙ f.holds) g
      go (ended j other g) = absurd (ended_over _ (ended_fed lim tag n h some-tag short bytes j other g).stage f.stage)

  -- to one that has ended
  ended_back : (i : ℕ) (last : Held) → FedEnded lim tag n h bytes i last → EndedAt lim tag n h bytes i last
  ended_back i last f = go (outcome lim tag n h some-tag short bytes)
    where
      go : Outcome lim tag n h bytes → EndedAt lim tag n h bytes i last
      go (refused j m other r) = absurd (refused_no_end _ m (refused-fed lim tag n h some-tag short bytes j m other r).stage f.stage)
      go (going other g) = absurd (ended_over _ f.stage (going_fed lim tag n h some-tag short bytes other g).stage)
      go (ended j other g) =
          let e = ended_fed lim tag n h some-tag short bytes j other g in
          subst (λ (y : ℕ). EndedAt lim tag n h bytes y last) (sym e.taken ∙ f.taken)
          (subst (λ (y : Held). EndedAt lim tag n h bytes j y) (sym e.holds ∙ f.holds) g)

-- each report is given exactly when
pub refuses_exactly : RefusesExactly
refuses_exactly lim tag n h bytes some-tag short =
    record {
      refused = λ i k last. (refused-fed lim tag n h some-tag short bytes i k last, refused_back lim tag n h bytes some-tag short i k last);
      going = λ last. (going_fed lim tag n h some-tag short bytes last, going_back lim tag n h bytes some-tag short last);
      ended = λ i last. (ended_fed lim tag n h some-tag short bytes i last, ended_back lim tag n h bytes some-tag short i last);
    }

-- every answer has one outcome
pub one_outcome : OneOutcomeAlways
one_outcome lim tag n h bytes some-tag short =
    let r = refused-fed lim tag n h some-tag short bytes in
    let g = going_fed lim tag n h some-tag short bytes in
    let e = ended_fed lim tag n h some-tag short bytes in
    record {
      some_outcome = outcome lim tag n h some-tag short bytes;
      one_refusal = λ i j k m last other p q. (
        sym (r i k last p).taken
            ∙ (r j m other q).taken,
        one_number _ k m (r i k last p).stage (r j m other q).stage,
        sym (r i k last p).holds ∙ (r j m other q).holds,
      );
      one_end = λ i j last other p q. (sym (e i last p).taken ∙ (e j other q).taken, sym (e i last p).holds ∙ (e j other q).holds);
      refused_going = λ i k last other p q. refused-over _ k (r i k last p).stage (g other q).stage;
      refused_ended = λ i j k last other p q. refused_no_end _ k (r i k last p).stage (e j other q).stage;
      going_ended = λ j last other p q. ended_over _ (e j other q).stage (g last p).stage;
    }

-- an answer that is taken whole is acceptable, and its data agrees
pub only_acceptable : OnlyAcceptableTaken
only_acceptable lim tag n h last bytes some-tag short k =
    whole (((refuses_exactly lim tag n h bytes some-tag short).ended (length bytes) last).1 (record { stage = k.ends; taken = k.all; holds = k.holds }))
  where
    nothing : (a r : List ℕ) → length a ≡ length (a ++ r) → a ++ r ≡ a
    nothing a [] e = append-nil a
    nothing a (x ∷ r) e = let c = length-append a (x ∷ r) in absurd (omega arith)

    whole : EndedAt lim tag n h bytes (length bytes) last → TakenAcceptable lim tag n h last bytes
    whole e = subst (TakenAcceptable lim tag n h last) (sym (e.text ∙ nothing e.answer e.rest (e.place ∙ ap length e.text))) e.whole
