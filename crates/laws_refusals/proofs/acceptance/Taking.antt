-- Feeding bytes that the parser follows and whose data agrees.
use Prim.Native.Nat.{ℕ, suc}
use mathlib.Core.Path.{◌≡◌, refl, sym, ap, subst, ◌∙◌}
use mathlib.Core.Bool.{Bool, true, false, cond, true≢false}
use mathlib.Core.List.{List, ◌∷◌, map}
use Rattle.std.specs.Prelude.{Option, None, Some}
use lib.Dec.{eqb, ltb}
use lib.ListN.{length, get_or, set}
use borrow.Author.Tests.{eq-eqb, le-ltb, eqb-true, ltb-false}
use Rattle.rules_server.specs.Answers.{Cell, own, from, byte_of}
use Rattle.rules_demands.specs.AcceptanceByCopy.{Agrees, done, framing, again, new}
use Rattle.rules_tablet.specs.Runs.{member, insert}
use Rattle.rules_tablet.specs.Parsers.{Parser}
use Rattle.rules_tablet.specs.Feeding.{Held, Stored, kept, refused_by, store, take_in, Tablet, Fed, Byte, feed_byte, feed_on, feed}
use Rattle.rules_demands.specs.FeedingFollowed.{next, Tracks, after}
use Rattle.laws_reader.proofs.storing.Bytes.{feed-none, byte_kept}

-- a byte that is taken, and the rest
more_bytes : (lim : ℕ) (tag : List ℕ) (n b : ℕ) (l : List ℕ) (t to : Tablet) → feed_byte lim tag n t b ≡ record { tablet = to; is_taken = true }
    → feed lim tag n (b ∷ l) t ≡ record { tablet = (feed lim tag n l to).tablet; taken = suc (feed lim tag n l to).taken }
unfolding feed_byte
more_bytes lim tag n b l t to e = ap (λ (x : Byte). feed_on x (feed lim tag n l x.tablet)) e

-- the same with what the rest leaves
then_rest : (lim : ℕ) (tag : List ℕ) (n b : ℕ) (l : List ℕ) (t to : Tablet) (last : Fed) → feed_byte lim tag n t b ≡ record { tablet = to; is_taken = true }
    → feed lim tag n l to ≡ last
    → feed lim tag n (b ∷ l) t ≡ record { tablet = last.tablet; taken = suc last.taken }
then_rest lim tag n b l t to last e f = more_bytes lim tag n b l t to e ∙ ap (λ (x : Fed). record { tablet = x.tablet; taken = suc x.taken }) f

-- what is fed, from a parser that follows the bytes
pub feed_agrees : (lim : ℕ) (tag : List ℕ) (n : ℕ) (h last : Held) (p : Parser) (cells : List Cell) → Tracks tag n p cells → Agrees lim h cells last
    → feed lim tag n (map byte_of cells) (record { held = h; parser = p }) ≡ record {
      tablet = record { held = last; parser = after tag n p cells };
      taken = length cells;
    }
unfolding store
feed_agrees lim tag n h last p cells f (done e g) = rw (e, g) (feed-none lim tag n (record { held = h; parser = p }))
feed_agrees lim tag n h last p cells f (framing b rest e a) =
    let t : Tracks tag n p (own b ∷ rest) = rw e at f in
    let one = byte_kept lim tag n (record { held = h; parser = p }) (own b) h t.0 refl in
    let ih = feed_agrees lim tag n h last (next tag n p (own b)) rest t.1 a in
    rw e (then_rest lim tag n (byte_of (own b)) (map byte_of rest) (record { held = h; parser = p }) (record { held = h; parser = next tag n p (own b) })
    (record { tablet = record { held = last; parser = after tag n (next tag n p (own b)) rest }; taken = length rest }) one ih)
feed_agrees lim tag n h last p cells f (again q b rest e m g a) =
    let t : Tracks tag n p (from q b ∷ rest) = rw e at f in
    let one = byte_kept lim tag n (record { held = h; parser = p }) (from q b) h t.0 (rw (m, eq-eqb (get_or h.bytes q 0) b g)) in
    let ih = feed_agrees lim tag n h last (next tag n p (from q b)) rest t.1 a in
    rw e (then_rest lim tag n (byte_of (from q b)) (map byte_of rest) (record { held = h; parser = p }) (record { held = h; parser = next tag n p (from q b) })
    (record { tablet = record { held = last; parser = after tag n (next tag n p (from q b)) rest }; taken = length rest }) one ih)
feed_agrees lim tag n h last p cells f (new q b rest e m g a) =
    let t : Tracks tag n p (from q b ∷ rest) = rw e at f in
    let to : Held = record { runs = insert q h.runs; bytes = set h.bytes q b } in
    let one = byte_kept lim tag n (record { held = h; parser = p }) (from q b) to t.0 (rw (m, le-ltb lim (length (insert q h.runs)) g)) in
    let ih = feed_agrees lim tag n to last (next tag n p (from q b)) rest t.1 a in
    rw e (then_rest lim tag n (byte_of (from q b)) (map byte_of rest) (record { held = h; parser = p }) (record { held = to; parser = next tag n p (from q b) })
    (record { tablet = record { held = last; parser = after tag n (next tag n p (from q b)) rest }; taken = length rest }) one ih)

-- a byte at the position that the parser gives it
abbrev pub cell_at : Option ℕ → ℕ → Cell
cell_at None b = own b
cell_at (Some p) b = from p b

-- what is kept is one thing, and no refusal
abbrev kept_or : Held → Stored → Held
kept_or d (kept h) = h
kept_or d (refused_by k) = d

-- whether it is kept
abbrev is_kept : Stored → Bool
is_kept (kept h) = true
is_kept (refused_by k) = false

-- what is kept is one thing
kept_is : (a b : Held) → kept a ≡ kept b → a ≡ b
kept_is a b e = ap (kept_or a) e

-- a refusal keeps nothing
refused_kept : (k : ℕ) (h : Held) → refused_by k ≡ kept h → ⊥
refused_kept k h e = true≢false (sym (ap is_kept e))

-- a store that was kept
pub kept_back : (lim : ℕ) (h to last : Held) (o : Option ℕ) (b : ℕ) (rest : List Cell) → take_in lim h o b ≡ kept to → Agrees lim to rest last
    → Agrees lim h (cell_at o b ∷ rest) last
unfolding store
kept_back lim h to last None b rest e a = framing b rest refl (subst (λ (x : Held). Agrees lim x rest last) (sym (kept_is h to e)) a)
kept_back lim h to last (Some q) b rest e a = go (member q h.runs) (eqb (get_or h.bytes q 0) b) (ltb lim (length (insert q h.runs))) refl refl refl e
  where
    go : (u v w : Bool) → member q h.runs ≡ u → eqb (get_or h.bytes q 0) b ≡ v → ltb lim (length (insert q h.runs)) ≡ w
        → cond u (cond v (kept h) (refused_by 17)) (cond w (refused_by 16) (kept (record { runs = insert q h.runs; bytes = set h.bytes q b }))) ≡ kept to
        → Agrees lim h (from q b ∷ rest) last
    go true true w e1 e2 e3 f = again q b rest refl e1 (eqb-true (get_or h.bytes q 0) b e2)
        (subst (λ (x : Held). Agrees lim x rest last) (sym (kept_is h to f)) a)
    go true false w e1 e2 e3 f = absurd (refused_kept 17 to f)
    go false v true e1 e2 e3 f = absurd (refused_kept 16 to f)
    go false v false e1 e2 e3 f =
        new q b rest refl e1 (ltb-false lim (length (insert q h.runs)) e3)
        (subst (λ (x : Held). Agrees lim x rest last) (sym (kept_is (record { runs = insert q h.runs; bytes = set h.bytes q b }) to f)) a)
