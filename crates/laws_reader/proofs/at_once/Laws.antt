-- Feeding many bytes at once: data that is not held, held data, skipped bytes, bytes of a line; and the bytes that are refused.
-- Each law is for any rest of the piece. Assumes nothing.
use Prim.Native.Nat.{ℕ, suc, ◌+◌, ◌-◌, ◌≤◌, ◌<◌}
use native.Mathlib.Omega.{arith}
use mathlib.Core.Path.{◌≡◌, refl, ap}
use mathlib.Core.Bool.{true, false}
use mathlib.Core.List.{List, [], ◌∷◌, ◌++◌}
use Rattle.std.specs.Prelude.{None, Some}
use lib.ListN.{length, get_or, take, drop}
use lib.Seq.{sets}
use Rattle.rules_server.specs.Octets.{all}
use Rattle.rules_server.specs.declared.Run.{Run}
use Rattle.rules_tablet.specs.Limits.{max_line}
use Rattle.rules_tablet.specs.Lines.{is_line_byte}
use Rattle.rules_tablet.specs.Runs.{member, WellFormed, insert}
use Rattle.rules_tablet.specs.Parsers.{Parser, at, with_framing, counted_body, with_line, parse, event, is_refused}
use Rattle.rules_tablet.specs.Feeding.{Held, is_over, feed}
use Rattle.rules_tablet.specs.declared.Stage.{Stage}
use Rattle.rules_tablet.specs.declared.Stage.TheVariants.{Status, Fields, Plain, Skip, Delimiter, PartLine, Data, Epilogue, Finished, Refused}
use Rattle.laws_runs.specs.Spans.{insert_span}
use Rattle.laws_reader.proofs.Stages.{has_position, by_data}
use Rattle.laws_reader.proofs.at_once.Steps.{tablet_at, ahead, Moves, framing, framing_keeps, feed_one, feed-refused, feed_unfit, feed_through}
use Rattle.laws_reader.proofs.at_once.Stores.{held_of, Stretch, store-many, store_other, fresh_keeps, held_keeps}
use Rattle.laws_reader.proofs.at_once.Moves.{plain_moves, plain-ends, data_moves, data_ends, skip_moves, skip_ends, epilogue_moves, epilogue_ends}
use Rattle.laws_reader.proofs.at_once.Moves.{status_moves, fields_moves, part_moves}

-- a parser whose next byte is data is not over
data_going : (s : Stage) (next : ℕ) → event s ≡ Some next → is_over s ≡ false
data_going s next e = by_data (λ x. is_over x ≡ false) (λ i. refl) (λ i left. refl) s (ap has_position e)

-- the k bytes l before the rest are all taken, and leave what is held and the parser so
abbrev pub TakesAll : ℕ → List ℕ → ℕ → ℕ → List ℕ → List ℕ → Held → Parser → Held → Parser → Type 0
TakesAll lim tag n k l rest h p g q = feed lim tag n (l ++ rest) (tablet_at h p) ≡ ahead k (feed lim tag n rest (tablet_at g q))

-- the byte b before the rest is refused, and only where the parser stands is changed
abbrev pub TakesNone : ℕ → List ℕ → ℕ → ℕ → List ℕ → Held → Parser → Stage → Type 0
TakesNone lim tag n b rest h p s = feed lim tag n (b ∷ rest) (tablet_at h p) ≡ record { tablet = tablet_at h (at s p); taken = 0 }

module _ (lim : ℕ) (tag : List ℕ) (n : ℕ) where
  -- a byte for a position, by whether the copy keeps it
  module _ (next b : ℕ) (rest : List ℕ) (runs : List Run) (bytes : List ℕ) (p : Parser) (e : event p.stage ≡ Some next) where
    -- a byte for a position that is not held, which would make more than lim runs, is refused by 16
    pub feed-many : member next runs ≡ false → lim < length (insert next runs) → TakesNone lim tag n b rest (held_of runs bytes) p (Refused 16)
    feed-many m c =
        feed-refused lim tag n b rest (held_of runs bytes) p 16 (data_going p.stage next e)
        (rw e (store-many lim next b runs bytes m c))

    -- another byte than the held one is refused by 17
    pub feed_other : member next runs ≡ true → (get_or bytes next 0 ≡ b → ⊥) → TakesNone lim tag n b rest (held_of runs bytes) p (Refused 17)
    feed_other m d =
        feed-refused lim tag n b rest (held_of runs bytes) p 17 (data_going p.stage next e)
        (rw e (store_other lim next b runs bytes m d))

  -- a byte without an event, by whether the parser refuses it
  module _ (b : ℕ) (rest : List ℕ) (h : Held) (p : Parser) (o : is_over p.stage ≡ false) (e : event p.stage ≡ None) where
    -- it is taken
    pub feed_framing : is_refused (parse tag n p.stage b p).stage ≡ false → TakesAll lim tag n 1 (b ∷ []) rest h p h (parse tag n p.stage b p)
    feed_framing r = feed_one lim tag n b rest h h p None (record { going = o; carries = e; allowed = r }) refl

    -- it is refused as the parser says
    pub feed_refusing : is_refused (parse tag n p.stage b p).stage ≡ true → TakesNone lim tag n b rest h p (parse tag n p.stage b p).stage
    feed_refusing r = feed_unfit lim tag n b rest h p o e r

  -- k bytes before any rest
  module _ (k : ℕ) (l rest : List ℕ) (m : length l ≡ k) (p : Parser) where
    -- data for the k positions from next on
    module _ (next : ℕ) (runs : List Run) (bytes : List ℕ) where
      -- which are not held, where the first makes at most lim runs
      module _ (f : WellFormed 0 n runs) (s : Stretch false next k runs) (c : length (insert next runs) ≤ lim) where
        -- they are added, wherever they take the parser
        pub fresh_taken : (q : Parser) → Moves tag n Some next l p q
            → TakesAll lim tag n k l rest (held_of runs bytes) p (held_of (insert_span next k runs) (sets bytes next l)) q
        fresh_taken q w =
            rw (← m)
            (feed_through lim tag n Some next l rest (held_of runs bytes) _ p q w
            (fresh_keeps lim n next l runs bytes f (λ i a u. s i a (omega arith)) c))

        -- of a 200 or a plain 206, before the last counted byte
        pub fresh-plain : p.stage ≡ Plain next → k ≤ p.framing.after
            → TakesAll lim tag n k l rest (held_of runs bytes) p (held_of (insert_span next k runs) (sets bytes next l))
            (at (Plain (next + k)) (with_framing (counted_body (p.framing.after - k)) p))
        fresh-plain e u = fresh_taken _ (plain_moves tag n k l m p next e u)

        -- of a 200 or a plain 206, up to the last counted byte
        pub fresh-plain_end : p.stage ≡ Plain next → k ≡ suc p.framing.after
            → TakesAll lim tag n k l rest (held_of runs bytes) p (held_of (insert_span next k runs) (sets bytes next l))
            (at Finished (with_framing (counted_body 0) p))
        fresh-plain_end e u = fresh_taken _ (plain-ends tag n k l m p next e u)

        -- of a part, before its last byte
        pub fresh_data : (left : ℕ) → p.stage ≡ Data next left → k < left → k ≤ p.framing.after
            → TakesAll lim tag n k l rest (held_of runs bytes) p (held_of (insert_span next k runs) (sets bytes next l))
            (at (Data (next + k) (left - k)) (with_framing (counted_body (p.framing.after - k)) p))
        fresh_data left e u v = fresh_taken _ (data_moves tag n k l m p next left e u v)

        -- of a part, up to its last byte
        pub fresh_data_end : p.stage ≡ Data next k → 1 ≤ k → k ≤ p.framing.after
            → TakesAll lim tag n k l rest (held_of runs bytes) p (held_of (insert_span next k runs) (sets bytes next l))
            (at (Delimiter 0) (with_framing (counted_body (p.framing.after - k)) p))
        fresh_data_end e u v = fresh_taken _ (data_ends tag n k l m p next e u v)

      -- which are held, with these bytes
      module _ (s : Stretch true next k runs) (x : take k (drop next bytes) ≡ l) where
        -- nothing held changes, wherever they take the parser
        pub held_taken : (q : Parser) → Moves tag n Some next l p q → TakesAll lim tag n k l rest (held_of runs bytes) p (held_of runs bytes) q
        held_taken q w =
            rw (← m)
            (feed_through lim tag n Some next l rest (held_of runs bytes) (held_of runs bytes) p q w
            (held_keeps lim next l runs bytes (λ i a u. s i a (omega arith)) (rw m x)))

        -- of a 200 or a plain 206, before the last counted byte
        pub held-plain : p.stage ≡ Plain next → k ≤ p.framing.after
            → TakesAll lim tag n k l rest (held_of runs bytes) p (held_of runs bytes)
            (at (Plain (next + k)) (with_framing (counted_body (p.framing.after - k)) p))
        held-plain e u = held_taken _ (plain_moves tag n k l m p next e u)

        -- of a 200 or a plain 206, up to the last counted byte
        pub held-plain_end : p.stage ≡ Plain next → k ≡ suc p.framing.after
            → TakesAll lim tag n k l rest (held_of runs bytes) p (held_of runs bytes) (at Finished (with_framing (counted_body 0) p))
        held-plain_end e u = held_taken _ (plain-ends tag n k l m p next e u)

        -- of a part, before its last byte
        pub held_data : (left : ℕ) → p.stage ≡ Data next left → k < left → k ≤ p.framing.after
            → TakesAll lim tag n k l rest (held_of runs bytes) p (held_of runs bytes)
            (at (Data (next + k) (left - k)) (with_framing (counted_body (p.framing.after - k)) p))
        held_data left e u v = held_taken _ (data_moves tag n k l m p next left e u v)

        -- of a part, up to its last byte
        pub held_data_end : p.stage ≡ Data next k → 1 ≤ k → k ≤ p.framing.after
            → TakesAll lim tag n k l rest (held_of runs bytes) p (held_of runs bytes) (at (Delimiter 0) (with_framing (counted_body (p.framing.after - k)) p))
        held_data_end e u v = held_taken _ (data_ends tag n k l m p next e u v)

    -- bytes without an event, which store nothing
    module _ (h : Held) where
      -- wherever they take the parser
      pub framing_taken : (q : Parser) → Moves tag n framing 0 l p q → TakesAll lim tag n k l rest h p h q
      framing_taken q w = rw (← m) (feed_through lim tag n framing 0 l rest h h p q w (framing_keeps lim 0 l h))

      -- the body of a 416, before the last counted byte
      pub feed_skip : p.stage ≡ Skip → k ≤ p.framing.after → TakesAll lim tag n k l rest h p h (with_framing (counted_body (p.framing.after - k)) p)
      feed_skip e u = framing_taken _ (skip_moves tag n k l m p e u)

      -- the body of a 416, up to the last counted byte
      pub feed_skip_end : p.stage ≡ Skip → k ≡ suc p.framing.after → TakesAll lim tag n k l rest h p h (at Finished (with_framing (counted_body 0) p))
      feed_skip_end e u = framing_taken _ (skip_ends tag n k l m p e u)

      -- what follows the closing mark, before the last counted byte
      pub feed_epilogue : p.stage ≡ Epilogue → k ≤ p.framing.after → TakesAll lim tag n k l rest h p h (with_framing (counted_body (p.framing.after - k)) p)
      feed_epilogue e u = framing_taken _ (epilogue_moves tag n k l m p e u)

      -- what follows the closing mark, up to the last counted byte
      pub feed_epilogue_end : p.stage ≡ Epilogue → k ≡ suc p.framing.after
          → TakesAll lim tag n k l rest h p h (at Finished (with_framing (counted_body 0) p))
      feed_epilogue_end e u = framing_taken _ (epilogue_ends tag n k l m p e u)

      -- bytes of a line, whose CR is not seen
      module _ (c : p.cr ≡ false) (a : all is_line_byte l ≡ true) (u : length p.line + k ≤ max_line) where
        -- of the status line
        pub feed_status : p.stage ≡ Status → TakesAll lim tag n k l rest h p h (with_line (p.line ++ l) false p)
        feed_status e = framing_taken _ (status_moves tag n k l m p c a u e)

        -- of a field line of the head
        pub feed-fields : p.stage ≡ Fields → TakesAll lim tag n k l rest h p h (with_line (p.line ++ l) false p)
        feed-fields e = framing_taken _ (fields_moves tag n k l m p c a u e)

        -- of a part's line, before the last counted byte
        pub feed_part : p.stage ≡ PartLine → k ≤ p.framing.after
            → TakesAll lim tag n k l rest h p h (with_line (p.line ++ l) false (with_framing (counted_body (p.framing.after - k)) p))
        feed_part e w = framing_taken _ (part_moves tag n k l m p c a u e w)
