-- Laws of a position of n bytes, and what makes a resolved spec.
use Rattle.std.proofs.Common.{◌≡◌, ℕ, zero, suc, ◌-◌, ◌≤◌, ◌<◌, Bool, true, false, cond, None, Some, ltb, refl, ◌∙◌, arith}
use borrow.Author.Tests.{ltb-true, ltb-false}
use lib.Dec.{leb-suc-suc}
use Rattle.numerals.specs.Bounds.{bounded_by}
use Rattle.rules_server.specs.Ranges.{ByteSpec, invalid, satisfiable}
use Rattle.rules_server.specs.Parts.{run_of}
use Rattle.server_ranges.specs.declared.resolve.Resolved.{Resolved}
use Rattle.server_ranges.specs.Resolves.{resolution, below_of}

-- a value below n
pub below_within : (n v x : ℕ) → Some x ≡ below_of n v → (v < n) × (x ≡ v)
below_within n v x e = go (ltb v n) refl e
  where
    go : (b : Bool) → ltb v n ≡ b → Some x ≡ cond b (Some v) None → (v < n) × (x ≡ v)
    go true h e = (ltb-true v n h, cc)
    go false h e = cc

-- a value that is not below n
pub below_over : (n v : ℕ) → None ≡ below_of n v → n ≤ v
below_over n v e = go (ltb v n) refl e
  where
    go : (b : Bool) → ltb v n ≡ b → None ≡ cond b (Some v) None → n ≤ v
    go true h e = cc
    go false h e = ltb-false v n h

-- below n is at most n - 1
pub below_bounded : (n v : ℕ) → (n ≡ 0 → ⊥) → bounded_by (n - 1) v ≡ below_of n v
below_bounded zero v h = absurd (h refl)
below_bounded (suc n) v h =
    let e : suc n - 1 ≡ n = omega arith in
    rw (e, leb-suc-suc v n)

-- a spec that is not satisfiable
pub resolves_out : (n : ℕ) (s : ByteSpec) (r : Resolved) (i : Bool) → r ≡ record { invalid = i; run = None } → i ≡ invalid s → satisfiable n s ≡ false
    → r ≡ resolution n s
unfolding resolution
resolves_out n s r i e p f = e ∙ rw f (λ j. record { invalid = p j; run = None })

-- a satisfiable spec, with its run
pub resolves_in : (n : ℕ) (s : ByteSpec) (i : Bool) (x y : ℕ) → i ≡ invalid s → satisfiable n s ≡ true → x ≡ (run_of n s).first → y ≡ (run_of n s).last
    → record { invalid = i; run = Some (record { first = x; last = y }) } ≡ resolution n s
unfolding resolution
resolves_in n s i x y e f p q = rw f (λ j. record { invalid = e j; run = Some (record { first = p j; last = q j }) })
