-- What is said of loading and what the caller's memory then holds, from what the file is read as. Assumes nothing.
use Prim.Native.Nat.{ℕ, ◌+◌}
use mathlib.Core.Path.{◌≡◌, refl, sym, ap, ◌∙◌}
use mathlib.Core.List.{List, ◌++◌, append-nil}
use native.Mathlib.Nat.{zero-add}
use native.Mathlib.Omega.{arith}
use lib.ListN.{length, drop}
use Rattle.std.specs.Prelude.{Result, Ok, Err}
use lib.Seq.{drop-length, sets-eq}
use borrow.Author.Tests.{eq-eqb, ne_eqb, le-leb}
use Rattle.rules_server.specs.Limits.{max_tag}
use Rattle.rules_tablet.specs.Limits.{max_runs}
use Rattle.rules_tablet.specs.SavedCopies.{runs_bytes, SavedRead, loads, refuses, saved_read}
use Rattle.rules_tablet.specs.declared.Copy.{Copy}
use Rattle.writing.specs.Window.{write}
use Rattle.octets.specs.Overwriting.{overwritten}
use Rattle.copy_bytes.specs.Lists.{eight, list_bytes, runs_size}
use Rattle.copy_bytes.specs.SavedFiles.{record_of, loaded_as, load_outcome}
use Rattle.copy_bytes.proofs.Lists.{list_written}
use Rattle.baxoodhiir.specs.Saves.{CopyMemory, is_memory, loaded_number, load_said, memory_with, load_left, LoadIs}

-- the tag's array has another size
pub tag_unfit : (file : List ℕ) (m : CopyMemory) → (length m.tag ≡ max_tag → ⊥) → LoadIs file m 19 m
unfolding load_said load_left is_memory
tag_unfit file m h = let e = ne_eqb (length m.tag) max_tag h in record { says = rw e refl; leaves = rw e refl }

-- the list has
pub list_unfit : (file : List ℕ) (m : CopyMemory) → length m.tag ≡ max_tag → (length m.runs ≡ runs_size → ⊥) → LoadIs file m 19 m
unfolding load_said load_left is_memory
list_unfit file m t h =
    let e = eq-eqb (length m.tag) max_tag t in
    let f = ne_eqb (length m.runs) runs_size h in
    record { says = rw (e, f) refl; leaves = rw (e, f) refl }

-- a file that is loaded is not refused
whole_refused : (c : Copy) (k : ℕ) → ◌≡◌ {A = Result Copy ℕ} (Ok c) (Err k) → ⊥
whole_refused c k e = let z : ◌≡◌ {A = ℕ} 0 1 = cc in absurd (omega arith)

-- a refusal has one number
same_number : (k j : ℕ) → ◌≡◌ {A = Result Copy ℕ} (Err k) (Err j) → k ≡ j
same_number k j e = cc

-- one copy is loaded
same_copy : (c d : Copy) → ◌≡◌ {A = Result Copy ℕ} (Ok c) (Ok d) → c ≡ d
same_copy c d e = cc

-- bytes over as many others
over : (a b : List ℕ) → length b ≡ length a → overwritten a 0 b ≡ b
over a b e =
    rw (le-leb (0 + length b) (length a) (omega arith))
    (sets-eq b a 0 (omega arith) ∙ rw zero-add (ap (λ (k : ℕ). b ++ drop k a) e ∙ ap (λ (l : List ℕ). b ++ l) (drop-length a) ∙ append-nil b))

-- both have their own
module _ (file : List ℕ) (m : CopyMemory) (t : length m.tag ≡ max_tag) (r : length m.runs ≡ runs_size) where
  -- by what the file is read as
  read_as : (x : SavedRead) (k : ℕ) (m' : CopyMemory) → saved_read file ≡ x → k ≡ loaded_number x → m' ≡ memory_with x m → LoadIs file m k m'
  unfolding load_said load_left is_memory
  read_as x k m' e f g =
      let a = eq-eqb (length m.tag) max_tag t in
      let b = eq-eqb (length m.runs) runs_size r in
      record { says = rw (a, b, e) f; leaves = rw (a, b, e) g }

  -- it is refused
  pub load_refused : (k : ℕ) → Err k ≡ load_outcome file → LoadIs file m k m
  unfolding load_outcome
  load_refused k h = go (saved_read file) refl
    where
      go : (x : SavedRead) → saved_read file ≡ x → LoadIs file m k m
      go (loads y) e = absurd (whole_refused (record_of y) k (sym (h ∙ ap loaded_as e)))
      go (refuses j) e = read_as (refuses j) k m e (same_number k j (h ∙ ap loaded_as e)) refl

  -- it is loaded
  pub load_loaded : (c : Copy) (tag' : List ℕ) (k n : ℕ) (runs' : List ℕ) → Ok c ≡ load_outcome file
      → length c.tag ≡ max_tag → length c.runs ≡ max_runs → tag' ≡ overwritten m.tag 0 c.tag → k ≡ c.tag_len
      → n ≡ c.length → runs' ≡ (write (eight c.count ++ runs_bytes c.runs) (record { bytes = m.runs; skip = 0; at = 0 })).bytes
      → LoadIs file m 0 (record { tag = tag'; tag_length = k; length = n; runs = runs' })
  unfolding load_outcome list_bytes
  load_loaded c tag' k n runs' h tags full p q v w = go (saved_read file) refl
    where
      put : tag' ≡ c.tag
      put = p ∙ over m.tag c.tag (tags ∙ sym t)

      list : runs' ≡ eight c.count ++ runs_bytes c.runs
      list = list_written c.count c.runs m.runs runs' full r w

      go : (x : SavedRead) → saved_read file ≡ x → LoadIs file m 0 (record { tag = tag'; tag_length = k; length = n; runs = runs' })
      go (refuses j) e = absurd (whole_refused c j (h ∙ ap loaded_as e))
      go (loads y) e =
          let is : c ≡ record_of y = same_copy c (record_of y) (h ∙ ap loaded_as e) in
          read_as (loads y) 0 (record { tag = tag'; tag_length = k; length = n; runs = runs' }) e refl
          ((λ i. record { tag = put i; tag_length = q i; length = v i; runs = list i })
          ∙ ap (λ (z : Copy). record { tag = z.tag; tag_length = z.tag_len; length = z.length; runs = eight z.count ++ runs_bytes z.runs }) is)
