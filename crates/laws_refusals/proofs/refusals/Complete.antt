-- An answer that a fresh reader's parser finishes is acceptable.
use Prim.Native.Nat.{ℕ, ◌≤◌}
use mathlib.Core.Path.{◌≡◌, refl, sym, ap, subst, ◌∙◌}
use mathlib.Core.Bool.{true, false, true≢false}
use mathlib.Core.List.{List, [], ◌∷◌, ◌++◌, map, append_assoc, append-nil}
use lib.ListN.{length}
use Rattle.rules_server.specs.Limits.{max_tag}
use Rattle.rules_server.specs.Octets.{is_nil}
use Rattle.rules_server.specs.Answers.{Cell, byte_of}
use Rattle.rules_tablet.specs.Parsers.{Parser, parse, is_refused}
use Rattle.rules_tablet.specs.Feeding.{is_over}
use Rattle.rules_tablet.specs.Calls.{fresh}
use Rattle.rules_tablet.specs.declared.Stage.TheVariants.{Finished}
use Rattle.rules_demands.specs.AcceptanceByParser.{Finishes, AcceptableSome, FinishedAcceptable}
use Rattle.rules_demands.specs.FeedingFollowed.{next, after}
use Rattle.laws_refusals.proofs.acceptance.Taking.{cell_at}
use Rattle.rules_demands.specs.RefusalHeads.{in_status}
use Rattle.rules_demands.specs.RefusalFronts.{Front, in_head, position}
use Rattle.laws_refusals.proofs.refusals.Lines.{none_far}
use Rattle.laws_refusals.proofs.refusals.Bytes.{cell_byte, bytes_then}
use Rattle.laws_refusals.proofs.refusals.Fronts.{frontState, front_leads, FrontStep, refused, onward, ended, front_step, front-refused, front_open}

-- a parser that is over does not finish behind more bytes, and has finished where there are none
over_nil : (tag : List ℕ) (n : ℕ) (p : Parser) (l : List ℕ) → is_over p.stage ≡ true → Finishes tag n p l → (l ≡ []) × (p.stage ≡ Finished)
over_nil tag n p [] o f = (refl, f)
over_nil tag n p (b ∷ l) o f = absurd (true≢false (sym o ∙ f.0))

-- the parser behind one byte more
after-last : (tag : List ℕ) (n : ℕ) (a : List Cell) (c : Cell) (p : Parser) → after tag n p (a ++ (c ∷ [])) ≡ next tag n (after tag n p a) c
after-last tag n [] c p = refl
after-last tag n (x ∷ a) c p = after-last tag n a c (next tag n p x)

module _ (tag : List ℕ) (n : ℕ) (some-tag : is_nil tag ≡ false) (short : length tag ≤ max_tag) where
  -- a front with one byte more is what the parser makes of it
  onward-state : (cells : List Cell) (f : Front tag n cells) (x : ℕ) (g : Front tag n (cells ++ (cell_at (position tag n cells f) x ∷ [])))
      → parse tag n (frontState tag n cells f).stage x (frontState tag n cells f) ≡ frontState tag n (cells ++ (cell_at (position tag n cells f) x ∷ [])) g
  onward-state cells f x g =
      let c = cell_at (position tag n cells f) x in
      sym (ap (λ (y : ℕ). parse tag n (frontState tag n cells f).stage y (frontState tag n cells f)) (cell_byte (position tag n cells f) x))
      ∙ sym (ap (λ (p : Parser). next tag n p c) (front_leads tag n short cells f).1) ∙ sym (after-last tag n cells c fresh)
      ∙ (front_leads tag n short (cells ++ (c ∷ [])) g).1

  -- from a front on
  complete_from : (rest : List ℕ) (cells : List Cell) (f : Front tag n cells) → Finishes tag n (frontState tag n cells f) rest
      → AcceptableSome tag n (map byte_of cells ++ rest)
  complete_from [] cells f q = absurd (true≢false (sym (ap is_over q) ∙ front_open tag n short cells f))
  complete_from (x ∷ rest) cells f q = go (front_step tag n short some-tag cells f x) (complete_from rest)
    where
      there : map byte_of (cells ++ (cell_at (position tag n cells f) x ∷ [])) ++ rest ≡ map byte_of cells ++ (x ∷ rest)
      there =
          ap (λ (l : List ℕ). l ++ rest) (bytes_then cells (cell_at (position tag n cells f) x ∷ [])
          ∙ ap (λ (y : ℕ). map byte_of cells ++ (y ∷ [])) (cell_byte (position tag n cells f) x))
          ∙ append_assoc (map byte_of cells) (x ∷ []) rest

      go : FrontStep tag n short cells f x → ((cells : List Cell) (f : Front tag n cells) → Finishes tag n (frontState tag n cells f) rest
          → AcceptableSome tag n (map byte_of cells ++ rest)) → AcceptableSome tag n (map byte_of cells ++ (x ∷ rest))
      go (refused k r) rec =
          let e = front-refused tag n short some-tag cells f x k r in
          let o = over_nil tag n (parse tag n (frontState tag n cells f).stage x (frontState tag n cells f)) rest (ap is_over e) q.1 in
          absurd (true≢false (sym (ap is_refused e) ∙ ap is_refused o.1))
      go (onward g) rec =
          subst (AcceptableSome tag n) there (rec (cells ++ (cell_at (position tag n cells f) x ∷ [])) g
          (subst (λ (p : Parser). Finishes tag n p rest) (onward-state cells f x g) q.1))
      go (ended a e) rec =
          let o = over_nil tag n (parse tag n (frontState tag n cells f).stage x (frontState tag n cells f)) rest (ap is_over e) q.1 in
          let c = cells ++ (cell_at (position tag n cells f) x ∷ []) in
          subst (AcceptableSome tag n) (sym (append-nil (map byte_of c)) ∙ ap (λ (l : List ℕ). map byte_of c ++ l) (sym o.0) ∙ there)
          (record { cells = c; acceptable = a })

-- an answer whose parser finishes is acceptable
pub complete : FinishedAcceptable
unfolding fresh
complete tag n bytes some-tag short f = complete_from tag n some-tag short bytes [] (in_head [] (in_status [] false none_far refl) refl) f
