-- Feeding cells that the parser follows stores just what the rule on sets says.
-- Assumes nothing.
use Prim.Native.Nat.{ℕ, suc, ◌≤◌, ◌<◌}
use native.Mathlib.Omega.{arith}
use mathlib.Core.Path.{◌≡◌, refl, sym, ap, ◌∙◌}
use mathlib.Core.Logic.{inl, inr}
use mathlib.Core.Bool.{Bool, true, false}
use mathlib.Core.List.{List, [], ◌∷◌, map}
use lib.ListN.{length, get_or, length-set, set as put}
use lib.Seq.{get_or-set_same, get_or-set_other}
use borrow.Author.Tests.{eq-eqb}
use Rattle.rules_server.specs.Answers.{Cell, own, from, byte_of}
use Rattle.rules_tablet.specs.Runs.{member, insert, maximal_runs, with}
use Rattle.rules_tablet.specs.Parsers.{refuse}
use Rattle.rules_tablet.specs.Feeding.{Held, kept, refused_by, store, Tablet, Fed, feed}
use Rattle.laws_runs.proofs.Lies.{equal_or}
use Rattle.laws_runs.proofs.Scan.{scan_member, scan_insert}
use Rattle.rules_demands.specs.Demand3Arrivals.{Set, too_many, arrive, admitted}
use Rattle.rules_demands.specs.FeedingFollowed.{Follows}
use Rattle.rules_demands.specs.FeedingStored.{Holds, StoresCells, TakesAlways}
use Rattle.laws_reader.proofs.storing.Arrive.{with_other, with_away, with-held, scan_held, few, few_held, arrive_by, admitted_by, arrive-before}
use Rattle.laws_reader.proofs.storing.Bytes.{feed-none, moved, feed_kept, feed-refused}

-- what is held after the byte b for position p, which was not held
abbrev added : Held → ℕ → ℕ → Held
added h p b = record { runs = insert p h.runs; bytes = put h.bytes p b }

-- what is held, and a byte of the file at its position
module _ (lim : ℕ) (file : List ℕ) (set : Set) (h : Held) (p b : ℕ) (known : Holds file set h) (below : p < length file) (same : b ≡ get_or file p 0) where
  -- p is a member of the runs where it is in the set
  held-member : member p h.runs ≡ set p
  held-member = rw known.runs (scan_member (length file) set p below)

  -- the runs with p are those of the set with p
  added-runs : insert p h.runs ≡ maximal_runs (length file) (with p set)
  added-runs = rw known.runs (sym (scan_insert (length file) p set below))

  -- the byte for a held position is kept, and nothing changes
  store-held : set p ≡ true → store lim h p b ≡ kept h
  unfolding store
  store-held e = rw (held-member, e, eq-eqb _ _ (known.right p below e ∙ sym same))

  -- a position that makes too many runs is refused by 16
  store-many : set p ≡ false → too_many lim (length file) p set ≡ true → store lim h p b ≡ refused_by 16
  unfolding store too_many
  store-many e m = rw (held-member, e, added-runs, m)

  -- any other is added
  store-added : set p ≡ false → too_many lim (length file) p set ≡ false → store lim h p b ≡ kept (added h p b)
  unfolding store too_many
  store-added e m = rw (held-member, e, added-runs, m)

  -- with a held position the set is held as before
  holds-held : set p ≡ true → Holds file (with p set) h
  holds-held e = record {
    runs = known.runs ∙ sym (scan_held (length file) p set e);
    room = known.room;
    right = λ q l f. known.right q l (sym (with-held p q set e) ∙ f);
  }

  -- with an added position the set is held with the byte
  holds-added : Holds file (with p set) (added h p b)
  holds-added = record {
    runs = added-runs;
    room = length-set h.bytes p b ∙ known.room;
    right = λ q l f.
        equal_or q p
        (λ g. rw g (get_or-set_same h.bytes p b 0 (omega (arith, known.room)) ∙ same))
        (λ g. get_or-set_other h.bytes p q b 0 g ∙ known.right q l (sym (with_other p q set g) ∙ f));
  }

-- cells behind a first one, from a set and a state
module _ (lim : ℕ) (file tag : List ℕ) (c : Cell) (cs : List Cell) (set : Set) (t : Tablet) where
  -- the first byte is taken: from the state after it the others are
  takes_on : (new : Set) (h : Held) (r : Fed)
      → arrive lim (length file) (c ∷ cs) set ≡ arrive lim (length file) cs new
      → admitted lim (length file) (c ∷ cs) set ≡ suc (admitted lim (length file) cs new)
      → ((q : ℕ) → arrive lim (length file) cs new q ≡ false → get_or h.bytes q 0 ≡ get_or t.held.bytes q 0)
      → StoresCells lim file tag cs new (moved tag (length file) t c h) r
      → StoresCells lim file tag (c ∷ cs) set t (record { tablet = r.tablet; taken = suc r.taken })
  takes_on new h r a k others rest = record {
    holds = rw a rest.holds;
    others = λ q e. let f = rw a at e in rest.others q f ∙ others q f;
    taken = ap suc rest.taken ∙ sym k;
    place = rest.place;
    all = λ e. rest.all (omega arith);
    cut = λ l. rest.cut (omega arith);
  }

  -- the first byte is refused by 16: nothing changes but where the parser stands
  takes_none : Holds file set t.held
      → arrive lim (length file) (c ∷ cs) set ≡ set
      → admitted lim (length file) (c ∷ cs) set ≡ 0
      → StoresCells lim file tag (c ∷ cs) set t (record { tablet = record { held = t.held; parser = refuse 16 t.parser }; taken = 0 })
  takes_none known a k = record {
    holds = rw a known;
    others = λ q e. refl;
    taken = sym k;
    place = inr refl;
    all = λ e. absurd (omega arith);
    cut = λ l. refl;
  }

-- no cell
takes_nil : (lim : ℕ) (file tag : List ℕ) (set : Set) (t : Tablet) → Holds file set t.held
    → StoresCells lim file tag [] set t (record { tablet = t; taken = 0 })
takes_nil lim file tag set t known = record {
  holds = known;
  others = λ q e. refl;
  taken = refl;
  place = inl refl;
  all = λ e. refl;
  cut = λ l. absurd (omega arith);
}

-- what feeding the cells' bytes does
abbrev TakesCells : ℕ → List ℕ → List ℕ → List Cell → Set → Tablet → Type 0
TakesCells lim file tag cells set t = StoresCells lim file tag cells set t (feed lim tag (length file) (map byte_of cells) t)

-- a first byte for position p, with the others taken from any state after it
module _ (lim : ℕ) (file tag : List ℕ) (p b : ℕ) (cs : List Cell) (set : Set) (t : Tablet)
    (known : Holds file set t.held) (few_runs : length (maximal_runs (length file) set) ≤ lim)
    (follows : Follows tag (length file) t.parser (from p b)) (below : p < length file) (same : b ≡ get_or file p 0)
    (rest : (h : Held) → Holds file (with p set) h → length (maximal_runs (length file) (with p set)) ≤ lim
    → TakesCells lim file tag cs (with p set) (moved tag (length file) t (from p b) h))
  where
    -- the byte is kept
    takes_kept : (h : Held) → store lim t.held p b ≡ kept h → too_many lim (length file) p set ≡ false → Holds file (with p set) h
        → ((q : ℕ) → with p set q ≡ false → get_or h.bytes q 0 ≡ get_or t.held.bytes q 0)
        → TakesCells lim file tag (from p b ∷ cs) set t
    takes_kept h e m holds others =
        rw (feed_kept lim tag (length file) t (from p b) (map byte_of cs) h follows e)
        (takes_on lim file tag (from p b) cs set t (with p set) h _
        (arrive_by lim (length file) p b cs set false m)
        (admitted_by lim (length file) p b cs set false m)
        (λ q f. others q (arrive-before lim (length file) cs (with p set) q f))
        (rest h holds (few lim (length file) p set m)))

    -- by whether the position is held, and whether it makes too many runs
    takes_from : TakesCells lim file tag (from p b ∷ cs) set t
    takes_from = by_held (set p) refl
      where
        -- not held: refused by 16, or added
        by_runs : (x : Bool) → too_many lim (length file) p set ≡ x → set p ≡ false → TakesCells lim file tag (from p b ∷ cs) set t
        by_runs true m e =
            rw (feed-refused lim tag (length file) t (from p b) (map byte_of cs) 16 follows (store-many lim file set t.held p b known below same e m))
            (takes_none lim file tag (from p b) cs set t known
            (arrive_by lim (length file) p b cs set true m)
            (admitted_by lim (length file) p b cs set true m))
        by_runs false m e =
            takes_kept (added t.held p b) (store-added lim file set t.held p b known below same e m) m
            (holds-added lim file set t.held p b known below same)
            (λ q f. get_or-set_other t.held.bytes p q b 0 (with_away p q set f))

        -- held: kept, and nothing changes
        by_held : (x : Bool) → set p ≡ x → TakesCells lim file tag (from p b ∷ cs) set t
        by_held true e =
            takes_kept t.held (store-held lim file set t.held p b known below same e) (few_held lim (length file) p set e few_runs)
            (holds-held lim file set t.held p b known below same e)
            (λ q f. refl)
        by_held false e = by_runs (too_many lim (length file) p set) refl e

-- Feeding cells that the parser follows stores just what the rule on sets says.
pub takes_always : TakesAlways
takes_always lim file tag [] set t known few_runs tracks right = rw (feed-none lim tag (length file) t) (takes_nil lim file tag set t known)
takes_always lim file tag (own b ∷ cs) set t known few_runs tracks right =
    let after-own = moved tag (length file) t (own b) t.held in
    rw (feed_kept lim tag (length file) t (own b) (map byte_of cs) t.held tracks.0 refl)
    (takes_on lim file tag (own b) cs set t set t.held _ refl refl (λ q e. refl)
    (takes_always lim file tag cs set after-own known few_runs tracks.1 right.1))
takes_always lim file tag (from p b ∷ cs) set t known few_runs tracks right =
    takes_from lim file tag p b cs set t known few_runs tracks.0 right.0.0 right.0.1
    (λ h holds l. takes_always lim file tag cs (with p set) (moved tag (length file) t (from p b) h) holds l tracks.1 right.1)
