-- Laws of blanks and of trimming.
use Prim.Native.Nat.{ℕ}
use mathlib.Core.Path.{◌≡◌, refl, sym, ◌∙◌, ap}
use mathlib.Core.Bool.{Bool, true, false, not}
use mathlib.Core.List.{List, [], ◌∷◌, ◌++◌, append_assoc, append-nil}
use native.Mathlib.Omega.{arith}
use borrow.Author.Tests.{not-true}
use Rattle.rules_server.specs.Octets.{is_blank, all, trim, trim_start, trim_end, before_end}
use Rattle.laws_server.proofs.grammar.Bytes.{and_left, and_right, and_both, all-append}

-- blanks that a text begins with are trimmed away
pub start_blanks : (u l : List ℕ) → all is_blank u ≡ true → trim_start (u ++ l) ≡ trim_start l
start_blanks [] l e = refl
start_blanks (x ∷ u) l e = rw (and_left (is_blank x) (all is_blank u) e) (start_blanks u l (and_right (is_blank x) (all is_blank u) e))

-- of blanks nothing is left
pub end_blanks : (w : List ℕ) → all is_blank w ≡ true → trim_end w ≡ []
end_blanks [] e = refl
end_blanks (x ∷ w) e = rw (end_blanks w (and_right (is_blank x) (all is_blank w) e), and_left (is_blank x) (all is_blank w) e)

-- blanks that a text ends with are trimmed away
pub end_behind : (l w : List ℕ) → all is_blank w ≡ true → trim_end (l ++ w) ≡ trim_end l
end_behind [] w e = end_blanks w e
end_behind (x ∷ l) w e = ap (before_end x) (end_behind l w e)

-- blanks before a text change nothing of what is left of it
pub trim-before : (u l : List ℕ) → all is_blank u ≡ true → trim (u ++ l) ≡ trim l
trim-before u l e = ap trim_end (start_blanks u l e)

-- nor do blanks behind it
pub trim-behind : (l w : List ℕ) → all is_blank w ≡ true → trim (l ++ w) ≡ trim l
trim-behind [] w e = ap trim (sym (append-nil w)) ∙ trim-before w [] e
trim-behind (x ∷ l) w e = go (is_blank x) refl (trim-behind l w e)
  where
    go : (b : Bool) → is_blank x ≡ b → trim (l ++ w) ≡ trim l → trim ((x ∷ l) ++ w) ≡ trim (x ∷ l)
    go true t h = rw t h
    go false t h = rw t (end_behind (x ∷ l) w e)

-- no blank
abbrev pub solid : ℕ → Bool
solid x = not (is_blank x)

-- a text without blanks keeps its end
pub end_solid : (l : List ℕ) → all solid l ≡ true → trim_end l ≡ l
end_solid [] e = refl
end_solid (x ∷ l) e = rw (end_solid l (and_right (solid x) (all solid l) e)) (go l)
  where
    go : (m : List ℕ) → before_end x m ≡ x ∷ m
    go [] = rw (not-true (is_blank x) (and_left (solid x) (all solid l) e))
    go (y ∷ m) = refl

-- a text without blanks is left as it is
pub trim_solid : (l : List ℕ) → all solid l ≡ true → trim l ≡ l
trim_solid [] e = refl
trim_solid (x ∷ l) e = rw (not-true (is_blank x) (and_left (solid x) (all solid l) e)) (end_solid (x ∷ l) e)

-- a text that ends in no blank ends so behind its first byte too
pub end_tail : (x : ℕ) (l : List ℕ) → trim_end (x ∷ l) ≡ x ∷ l → trim_end l ≡ l
end_tail x l e = go (trim_end l) refl
  where
    lone : (b : Bool) → is_blank x ≡ b → trim_end l ≡ [] → [] ≡ l
    lone true t h = absurd (let f : [] ≡ x ∷ l = rw (h, t) at e in let z : ◌≡◌ {A = ℕ} 0 1 = cc in omega arith)
    lone false t h = let f : x ∷ [] ≡ x ∷ l = rw (h, t) at e in cc

    go : (m : List ℕ) → trim_end l ≡ m → trim_end l ≡ l
    go [] h = h ∙ lone (is_blank x) refl h
    go (y ∷ m) h = let f : x ∷ y ∷ m ≡ x ∷ l = rw h at e in cc

-- each text that it ends with ends so
pub end_back : (m l : List ℕ) → trim_end (m ++ l) ≡ m ++ l → trim_end l ≡ l
end_back [] l e = e
end_back (x ∷ m) l e = end_back m l (end_tail x (m ++ l) e)

-- what is trimmed ends in no blank
pub end_twice : (l : List ℕ) → trim_end (trim_end l) ≡ trim_end l
end_twice [] = refl
end_twice (x ∷ l) = go (trim_end l) (end_twice l)
  where
    lone : (b : Bool) → is_blank x ≡ b → trim_end (before_end x []) ≡ before_end x []
    lone true t = rw t
    lone false t = rw (t, t)

    go : (m : List ℕ) → trim_end m ≡ m → trim_end (before_end x m) ≡ before_end x m
    go [] h = lone (is_blank x) refl
    go (y ∷ m) h = ap (before_end x) h

-- a text is blanks, what is left of it trimmed, and blanks
pub record Padded (m : List ℕ) : Type 0 where
  pub front : List ℕ
  pub back : List ℕ
  pub front_blank : all is_blank front ≡ true
  pub back_blank : all is_blank back ≡ true
  pub text : m ≡ front ++ (trim m ++ back)

-- a text is what is left of it with its end trimmed, and blanks
record Tailed (m : List ℕ) : Type 0 where
  pub back : List ℕ
  pub back_blank : all is_blank back ≡ true
  pub text : m ≡ trim_end m ++ back

-- every text has such an end
tailed : (m : List ℕ) → Tailed m
tailed [] = record { back = []; back_blank = refl; text = refl }
tailed (x ∷ m) = go (trim_end m) refl (tailed m)
  where
    lone : (b : Bool) → is_blank x ≡ b → trim_end m ≡ [] → (r : Tailed m) → Tailed (x ∷ m)
    lone true t h r =
        record {
          back = x ∷ r.back;
          back_blank = and_both (is_blank x) (all is_blank r.back) t r.back_blank;
          text = rw (h, t) (ap (λ (k : List ℕ). x ∷ k) (rw h at r.text));
        }
    lone false t h r = record { back = r.back; back_blank = r.back_blank; text = rw (h, t) (ap (λ (k : List ℕ). x ∷ k) (rw h at r.text)) }

    go : (l : List ℕ) → trim_end m ≡ l → Tailed m → Tailed (x ∷ m)
    go [] h r = lone (is_blank x) refl h r
    go (y ∷ l) h r = record { back = r.back; back_blank = r.back_blank; text = rw h (ap (λ (k : List ℕ). x ∷ k) (rw h at r.text)) }

-- every text is of that form
pub padded : (m : List ℕ) → Padded m
padded [] = record { front = []; back = []; front_blank = refl; back_blank = refl; text = refl }
padded (x ∷ m) = go (is_blank x) refl (padded m) (tailed (x ∷ m))
  where
    go : (b : Bool) → is_blank x ≡ b → Padded m → Tailed (x ∷ m) → Padded (x ∷ m)
    go true t r q =
        record {
          front = x ∷ r.front;
          back = r.back;
          front_blank = and_both (is_blank x) (all is_blank r.front) t r.front_blank;
          back_blank = r.back_blank;
          text = rw t (ap (λ (k : List ℕ). x ∷ k) r.text);
        }
    go false t r q = record { front = []; back = q.back; front_blank = refl; back_blank = q.back_blank; text = rw t q.text }

-- the same with a text behind it
pub padded-before : (m l : List ℕ) (r : Padded m) → m ++ l ≡ r.front ++ (trim m ++ (r.back ++ l))
padded-before m l r = ap (λ (k : List ℕ). k ++ l) r.text ∙ append_assoc r.front (trim m ++ r.back) l
    ∙ ap (λ (k : List ℕ). r.front ++ k) (append_assoc (trim m) r.back l)

-- a text that ends in no blank has no blanks behind what is left of it
pub no_back : (m : List ℕ) → trim_end m ≡ m → (r : Padded m) → r.back ≡ []
no_back m e r = sym (end_back (trim m) r.back (end_back r.front (trim m ++ r.back) (rw r.text at e))) ∙ end_blanks r.back r.back_blank

-- a text of which nothing is left is blank
pub blank_gone : (m : List ℕ) → trim m ≡ [] → all is_blank m ≡ true
blank_gone m e =
    let r = padded m in
    let f : m ≡ r.front ++ r.back = rw e at r.text in
    rw f (all-append is_blank r.front r.back r.front_blank r.back_blank)

-- it is empty if it ends in no blank
pub nothing_gone : (m : List ℕ) → trim_end m ≡ m → trim m ≡ [] → m ≡ []
nothing_gone m e h = sym e ∙ end_blanks m (blank_gone m h)
