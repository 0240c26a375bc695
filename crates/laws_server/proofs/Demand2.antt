-- Demand 2, the server's half: which status, and which bytes of the file a 206 carries.
-- Assumes nothing.
use Prim.Native.Nat.{ℕ}
use native.Mathlib.Omega.{arith}
use mathlib.Core.Path.{◌≡◌, refl, sym, ◌∙◌, ap}
use mathlib.Core.Logic.{◌↔◌, ◌⊎◌, inl, inr}
use mathlib.Core.Bool.{Bool, true, false, not, cond, true≢false}
use mathlib.Core.List.{List, [], ◌∷◌}
use lib.Dec.{eqb}
use lib.ListN.{length}
use borrow.Author.Tests.{le-ltb, eq-eqb, ne_eqb}
use Rattle.rules_server.specs.Limits.{max_range, max_specs}
use Rattle.rules_server.specs.Octets.{same}
use Rattle.rules_server.specs.Texts.{head}
use Rattle.rules_server.specs.Ranges.{ByteSpec, span, onward, suffix, listed, read_range, invalid, satisfiable, any_spec}
use Rattle.rules_server.specs.Status.{Request, Resource, is_absent, range_value, rows, decide, specs, status_of}
use Rattle.rules_server.specs.Answers.{from_then, ok_answer, parts_for, partial_answer, answer}
use Rattle.rules_server.specs.Refusals.{outcome, output}
use Rattle.rules_server.specs.declared.Reason.{Reason}
use Rattle.rules_server.specs.declared.Reason.TheVariants.{Invalid, Unsatisfiable, Empty, Partial}
use Rattle.rules_demands.specs.Positions.{Backward, Satisfiable, NonzeroSuffix, Some as SomeSpec}
use Rattle.rules_demands.specs.Demand2Server.{Wanted, Demand2, Demand2Holds}
use Rattle.laws_server.proofs.grammar.Reading.{range_complete}
use Rattle.laws_server.proofs.Decided.{sent_unsatisfied}
use Rattle.laws_server.proofs.Asking.{invalid_backward, backward_invalid, test_satisfiable, satisfiable_test, some_any, any_some}
use Rattle.laws_server.proofs.Partials.{gathered, parts_gathered, parted, carries}

-- the rows of the table that are left, by their tests
abbrev pub left-rows : Bool → Bool → Bool → Reason
left-rows back some empty = cond back Invalid (cond (not some) Unsatisfiable (cond empty Empty Partial))

-- in an empty file a spec is satisfiable just when it is a nonzero suffix
satisfiable_nonzero : (n : ℕ) → n ≡ 0 → (s : ByteSpec) → Satisfiable n s → NonzeroSuffix s
satisfiable_nonzero n z (span a b) h = omega arith
satisfiable_nonzero n z (onward a) h = omega arith
satisfiable_nonzero n z (suffix k) h = h

nonzero_satisfiable : (n : ℕ) (s : ByteSpec) → NonzeroSuffix s → Satisfiable n s
nonzero_satisfiable n (span a b) h = absurd h
nonzero_satisfiable n (onward a) h = absurd h
nonzero_satisfiable n (suffix k) h = h

-- the reason of the empty file is not that of a 416
empty_status : (x : Reason) → x ≡ Empty → status_of x ≡ 416 → ⊥
empty_status x e h = let z : status_of Empty ≡ 416 = rw e at h in omega arith

-- a file of no bytes is sent as none
no_cells : (file : List ℕ) → length file ≡ 0 → from_then 0 file [] ≡ []
no_cells [] e = refl
no_cells (b ∷ file) e = absurd (omega arith)

module _ (q : Request) (f : Resource) (v : List ℕ) (ss : List ByteSpec) (w : Wanted q f v ss) where
  -- the value is read as these specs
  read : read_range (range_value q) ≡ listed ss
  read = range_complete (range_value q) ss w.well_formed

  -- the rows above do not apply
  decide-left : decide q f ≡ left-rows (any_spec invalid ss) (any_spec (satisfiable (length f.file)) ss) (eqb (length f.file) 0)
  unfolding decide rows
  decide-left =
      let isNotHead : same q.method head ≡ false = rw w.is_get in
      let given : is_absent q.range ≡ false = rw w.ranged in
      let short = le-ltb max_range (length (range_value q)) w.short in
      let few = le-ltb max_specs (length ss) w.few in
      rw (read, isNotHead, given, short, few, w.unfailing)

  -- 416 where some spec is backward or none is satisfiable, and only there
  pub refused : (status_of (decide q f) ≡ 416) ↔ (SomeSpec Backward ss ⊎ (SomeSpec (Satisfiable (length f.file)) ss → ⊥))
  refused = (
    λ e. there (any_spec invalid ss) refl (any_spec (satisfiable (length f.file)) ss) refl (eqb (length f.file) 0) (rw decide-left at e),
    λ h. rw decide-left (back (any_spec invalid ss) refl (any_spec (satisfiable (length f.file)) ss) refl (eqb (length f.file) 0) h),
  )
    where
      there : (a : Bool) → any_spec invalid ss ≡ a → (b : Bool) → any_spec (satisfiable (length f.file)) ss ≡ b → (c : Bool) → status_of (left-rows a b c) ≡ 416
          → SomeSpec Backward ss ⊎ (SomeSpec (Satisfiable (length f.file)) ss → ⊥)
      there true x b y c e = inl (some_any invalid Backward invalid_backward ss x)
      there false x true y true e = absurd (omega arith)
      there false x true y false e = absurd (omega arith)
      there false x false y c e =
          inr
          (λ h. true≢false (sym (any_some (satisfiable (length f.file)) h.spec ss h.is_listed
          (satisfiable_test (length f.file) h.spec h.holds)) ∙ y))

      back : (a : Bool) → any_spec invalid ss ≡ a → (b : Bool) → any_spec (satisfiable (length f.file)) ss ≡ b → (c : Bool)
          → SomeSpec Backward ss ⊎ (SomeSpec (Satisfiable (length f.file)) ss → ⊥) → status_of (left-rows a b c) ≡ 416
      back true x b y c h = refl
      back false x false y c h = refl
      back false x true y c (inl h) = absurd (true≢false (sym (any_some invalid h.spec ss h.is_listed (backward_invalid h.spec h.holds)) ∙ x))
      back false x true y c (inr h) =
          absurd (h (some_any (satisfiable (length f.file)) (Satisfiable (length f.file)) (test_satisfiable (length f.file)) ss y))

  -- elsewhere no spec is backward and some is satisfiable
  unrefused : (status_of (decide q f) ≡ 416 → ⊥) → (any_spec invalid ss ≡ false) × (any_spec (satisfiable (length f.file)) ss ≡ true)
  unrefused h = go (any_spec invalid ss) (any_spec (satisfiable (length f.file)) ss) (eqb (length f.file) 0) (λ e. h (rw decide-left e))
    where
      go : (a b c : Bool) → (status_of (left-rows a b c) ≡ 416 → ⊥) → (a ≡ false) × (b ≡ true)
      go true b c h = absurd (h refl)
      go false true c h = (refl, refl)
      go false false c h = absurd (h refl)

  -- 200 for an empty file
  pub empty : (status_of (decide q f) ≡ 416 → ⊥) → length f.file ≡ 0 → decide q f ≡ Empty
  empty h z = let t = unrefused h in decide-left ∙ rw (t.0, t.1, eq-eqb (length f.file) 0 z)

  -- without a byte behind its head
  empty_answer : decide q f ≡ Empty → length f.file ≡ 0 → answer q f ≡ ok_answer f []
  unfolding answer
  empty_answer e z = rw (e, no_cells f.file z)

  -- exactly where a nonzero suffix is asked for and no spec is backward
  suffixed : length f.file ≡ 0 → (decide q f ≡ Empty) ↔ (SomeSpec NonzeroSuffix ss × (SomeSpec Backward ss → ⊥))
  suffixed z = (
    λ e. let t = unrefused (empty_status (decide q f) e) in
        let s = some_any (satisfiable (length f.file)) (Satisfiable (length f.file)) (test_satisfiable (length f.file)) ss t.1 in (
          record { spec = s.spec; is_listed = s.is_listed; holds = satisfiable_nonzero (length f.file) z s.spec s.holds },
          λ h. true≢false (sym (any_some invalid h.spec ss h.is_listed (backward_invalid h.spec h.holds)) ∙ t.0),
        ),
    λ h. empty (λ e. neither h (refused.0 e)) z,
  )
    where
      neither : SomeSpec NonzeroSuffix ss × (SomeSpec Backward ss → ⊥) → SomeSpec Backward ss ⊎ (SomeSpec (Satisfiable (length f.file)) ss → ⊥) → ⊥
      neither h (inl b) = h.1 b
      neither h (inr n) = n (record { spec = h.0.spec; is_listed = h.0.is_listed; holds = nonzero_satisfiable (length f.file) h.0.spec h.0.holds })

  -- 206 for any other
  pub partly : (status_of (decide q f) ≡ 416 → ⊥) → (length f.file ≡ 0 → ⊥) → decide q f ≡ Partial
  partly h z = let t = unrefused h in decide-left ∙ rw (t.0, t.1, ne_eqb (length f.file) 0 z)

  -- whose answer has the parts
  pub answered : decide q f ≡ Partial → answer q f ≡ partial_answer f (parts_for q f)
  unfolding answer
  answered e = rw e

  -- that the specs' runs make
  pub parts_for_lem : parts_for q f ≡ gathered (length f.file) ss
  unfolding parts_for specs
  parts_for_lem = rw read (parts_gathered (length f.file) ss)

  -- demand 2 for this request
  pub demand_2_of : Demand2 q f ss
  unfolding answer outcome output
  demand_2_of =
      record {
        said = λ out h. (rw h, rw h);
        refused = refused;
        unsatisfied = sent_unsatisfied (decide q f) f (parts_for q f);
        empty = λ h z. let e = empty h z in (e, ap status_of e, empty_answer e z);
        suffixed = suffixed;
        partial =
            λ h z.
            let t = unrefused h in
            let e = answered (partly h z) in (
              partly h z,
              ap status_of (partly h z),
              e,
              rw (e, parts_for_lem) (carries f ss (omega arith) t.0),
              rw parts_for_lem (parted (length f.file) ss (omega arith) t.0 t.1),
            );
      }

-- each request that is wanted has it
pub demand_2 : Demand2Holds
demand_2 = demand_2_of
