-- Where a byte string holds another, and the parts whose data hold one.
use Rattle.std.proofs.Common.{◌≡◌, ℕ, zero, suc, ◌≤◌, ◌<◌, Bool, ◌||◌, true, false, List, [], ◌∷◌, ◌++◌, length, take, drop, get_or, eqb, refl, sym, ap, ◌∙◌, arith}
use Rattle.std.proofs.Common.{drop-cons, drop_of_length-le}
use borrow.Author.Tests.{eqb-false, eq-eqb, ne_eqb}
use Rattle.std.specs.List.{list_any}
use Rattle.rules_server.specs.Octets.{starts_with, occurs, before}
use Rattle.rules_server.specs.Texts.{crlf}
use Rattle.rules_server.specs.Answers.{dash_boundary, data_of}
use Rattle.rules_server.specs.Refusals.{delimiter_in_parts}
use Rattle.rules_server.specs.declared.Run.{Run}

-- the bytes at two places are the same: what follows decides
pub starts_step : (p l : List ℕ) (i j : ℕ) → i < length p → j < length l → get_or l j 0 ≡ get_or p i 0
    → starts_with (drop i p) (drop j l) ≡ starts_with (drop (suc i) p) (drop (suc j) l)
starts_step p l i j h g e = rw (drop-cons p i 0 h, drop-cons l j 0 g, eq-eqb _ _ (sym e))

-- they differ
pub starts_differ : (p l : List ℕ) (i j : ℕ) → i < length p → j < length l → (get_or l j 0 ≡ get_or p i 0 → ⊥) → starts_with (drop i p) (drop j l) ≡ false
starts_differ p l i j h g d = rw (drop-cons p i 0 h, drop-cons l j 0 g, ne_eqb _ _ (λ q. d (sym q)))

-- a string of two bytes or more against one that begins with a and b
module _ (a b : ℕ) (p l : List ℕ) (h : 2 ≤ length l) where
  -- its first byte is another
  pub first_differs : (get_or l 0 0 ≡ a → ⊥) → starts_with (a ∷ b ∷ p) l ≡ false
  first_differs d = starts_differ (a ∷ b ∷ p) l 0 0 (omega arith) (omega arith) d

  -- its second byte is another
  pub second_differs : get_or l 0 0 ≡ a → (get_or l 1 0 ≡ b → ⊥) → starts_with (a ∷ b ∷ p) l ≡ false
  second_differs e d = starts_step (a ∷ b ∷ p) l 0 0 (omega arith) (omega arith) e ∙ starts_differ (a ∷ b ∷ p) l 1 1 (omega arith) (omega arith) d

  -- both are the same: what follows decides
  pub both-same : get_or l 0 0 ≡ a → get_or l 1 0 ≡ b → starts_with (a ∷ b ∷ p) l ≡ starts_with p (drop 2 l)
  both-same e f = starts_step (a ∷ b ∷ p) l 0 0 (omega arith) (omega arith) e ∙ starts_step (a ∷ b ∷ p) l 1 1 (omega arith) (omega arith) f

-- what stands at the front stands somewhere
pub occurs_here : (m l : List ℕ) → starts_with m l ≡ true → occurs m l ≡ true
occurs_here m [] h = h
occurs_here m (x ∷ l) h = rw h

-- what does not stand at the front is looked for behind the first byte
pub occurs_behind : (m l : List ℕ) {x : ℕ} {rest : List ℕ} → l ≡ x ∷ rest → starts_with m l ≡ false → occurs m l ≡ occurs m rest
occurs_behind m l {x} {rest} e h = rw e (let f : starts_with m (x ∷ rest) ≡ false = rw e at h in rw f)

-- what does not stand at a place is looked for behind it
pub occurs-behind : (m l : List ℕ) (i : ℕ) → i < length l → starts_with m (drop i l) ≡ false → occurs m (drop i l) ≡ occurs m (drop (suc i) l)
occurs-behind m l i h e =
    let f = rw (drop-cons l i 0 h) at e in
    rw (drop-cons l i 0 h, f)

-- nothing that begins with c stands where the bytes before the first c stand
pub occurs_skip : (c : ℕ) (m l : List ℕ) (k : ℕ) → take k l ≡ before c l → occurs (c ∷ m) l ≡ occurs (c ∷ m) (drop k l)
occurs_skip c m [] zero e = refl
occurs_skip c m (x ∷ l) zero e = refl
occurs_skip c m [] (suc k) e = refl
occurs_skip c m (x ∷ l) (suc k) e = go (eqb x c) refl (occurs_skip c m l k)
  where
    go : (b : Bool) → eqb x c ≡ b → (take k l ≡ before c l → occurs (c ∷ m) l ≡ occurs (c ∷ m) (drop k l)) → occurs (c ∷ m) (x ∷ l) ≡ occurs (c ∷ m) (drop k l)
    go true f r = let bad : x ∷ take k l ≡ [] = rw f at e in cc
    go false f r =
        let rest : x ∷ take k l ≡ x ∷ before c l = rw f at e in
        let other : eqb c x ≡ false = ne_eqb c x (λ q. eqb-false x c f (sym q)) in
        rw other (r (ap (drop 1) rest))

-- data that does not begin with `--` boundary: CR LF `--` boundary is looked for in the data alone
pub occurs_data : (boundary l : List ℕ) → starts_with (dash_boundary boundary) l ≡ false
    → occurs (crlf ++ dash_boundary boundary) l ≡ occurs (crlf ++ dash_boundary boundary) (crlf ++ l)
occurs_data boundary l e = rw e

-- data that begins with it holds it behind CR LF
pub occurs_front : (boundary l : List ℕ) → starts_with (dash_boundary boundary) l ≡ true → occurs (crlf ++ dash_boundary boundary) (crlf ++ l) ≡ true
occurs_front boundary l e = rw e

-- the data of some part
pub in_some_part : (boundary file : List ℕ) (rs : List Run)
    → list_any (λ r. occurs (crlf ++ dash_boundary boundary) (crlf ++ data_of file r)) rs ≡ delimiter_in_parts boundary file rs
in_some_part boundary file [] = refl
in_some_part boundary file (r ∷ rs) = ap (λ b. occurs (crlf ++ dash_boundary boundary) (crlf ++ data_of file r) || b) (in_some_part boundary file rs)

-- the parts from place i on, where the run r stands at i
module _ (boundary file : List ℕ) (rs : List Run) (i : ℕ) {r : Run} (h : i < length rs) (g : r ≡ get_or rs i (record { first = 0; last = 0 })) where
  -- its data holds the delimiter
  pub parts_here : {part : List ℕ} → part ≡ data_of file r → occurs (crlf ++ dash_boundary boundary) (crlf ++ part) ≡ true
      → delimiter_in_parts boundary file (drop i rs) ≡ true
  parts_here q e = rw (drop-cons rs i (record { first = 0; last = 0 }) h, ← g, ← q, e)

  -- its data does not: the others decide
  pub parts-behind : {part : List ℕ} → part ≡ data_of file r → occurs (crlf ++ dash_boundary boundary) (crlf ++ part) ≡ false
      → delimiter_in_parts boundary file (drop i rs) ≡ delimiter_in_parts boundary file (drop (suc i) rs)
  parts-behind q e = rw (drop-cons rs i (record { first = 0; last = 0 }) h, ← g, ← q, e)

-- behind the last there is no part
pub parts_end : (boundary file : List ℕ) (l : List Run) (i : ℕ) → length l ≤ i → delimiter_in_parts boundary file (drop i l) ≡ false
parts_end boundary file l i h = rw (drop_of_length-le l {i = i} h)
