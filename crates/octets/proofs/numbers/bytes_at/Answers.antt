-- Where so many bytes are there, they are the first of those from the place on.
use Rattle.std.proofs.Common.{◌≡◌, ◌∙◌, ℕ, zero, suc, ◌+◌, ◌-◌, ◌≤◌, List, ◌∷◌, length, take, drop, get_or, subst, ap, arith, refl}
use Rattle.std.specs.Array.{IsFirstChunk}
use Rattle.std.proofs.lemmas.List.{length-drop, take_all}
use Rattle.octets.specs.Numbers.{bytes_at}
use Rattle.octets.proofs.strings.Laws.{drop-next}
use Rattle.octets.proofs.numbers.bytes_at.Goals as goal

-- the bytes from a place on, where so many are there
together : (v : List ℕ) (a i n p : ℕ) → p ≡ a + i → p + n ≤ length v → take n (drop p v) ≡ bytes_at v a i n
together v a i zero p e h = refl
together v a i (suc n) p e h =
    let more : take n (drop (p + 1) v) ≡ bytes_at v a (i + 1) n = together v a (i + 1) n (p + 1) (omega (arith, e)) (omega arith) in
    rw (drop-next v p (omega arith))
    (subst (λ q. get_or v p 0 ∷ take n (drop (p + 1) v) ≡ get_or v q 0 ∷ bytes_at v a (i + 1) n) e (ap (λ l. get_or v p 0 ∷ l) more))

pub returns-in-Some : goal.returns-in-Some
returns-in-Some g c =
    let v = c.args.v.now in
    let at = c.args.at in
    let rest : take (length v - at) (drop at v) ≡ drop at v = take_all (length v - at) (drop at v) (omega (arith, length-drop at v)) in
    let first : IsFirstChunk (drop at v) c.in-Some.whole.now g.row.N = subst (λ l. IsFirstChunk l c.in-Some.whole.now g.row.N) rest c.in-Some.ensures.cases in
    first.same ∙ together v at 0 g.row.N at (omega arith) (omega (arith, subst (λ k. g.row.N ≤ k) (length-drop at v) first.enough))
