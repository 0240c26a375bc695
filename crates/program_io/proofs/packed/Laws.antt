-- Laws of packed texts. Assumes nothing.
use Rattle.std.proofs.Common.{◌≡◌, ◌∙◌, ℕ, zero, suc, ◌+◌, ◌-◌, ◌<◌, List, length, refl, ap, arith}
use Rattle.program_io.specs.Packed.{behind_at, place_from}

-- one field more
pub next-place : (v : List ℕ) (a k i : ℕ) → i < k → place_from v a (k - i) ≡ place_from v (behind_at v a) (k - (i + 1))
next-place v a k i h = let e : k - i ≡ suc (k - (i + 1)) = omega arith in ap (place_from v a) e

-- no field more
pub last-place : (v : List ℕ) (a n : ℕ) → n ≡ 0 → place_from v a n ≡ a
last-place v a n e = rw e

-- from the end of a text on, every place is its end
pub end-stays : (v : List ℕ) (a n : ℕ) → a ≡ length v → place_from v a n ≡ a
end-stays v a zero e = refl
end-stays v a (suc n) e =
    let stays : behind_at v a ≡ a = omega (arith, e) in
    ap (λ b. place_from v b n) stays ∙ end-stays v a n e
