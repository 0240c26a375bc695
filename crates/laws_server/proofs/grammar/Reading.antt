-- The reading of a trimmed value is sound and complete for the grammar of Range, and what the grammar yields is unique.
use Prim.Native.Nat.{ℕ}
use mathlib.Core.Path.{◌≡◌, refl, sym, ◌∙◌, ap}
use mathlib.Core.Bool.{Bool, true, false}
use mathlib.Core.List.{List, [], ◌∷◌, ◌++◌}
use lib.ListN.{length, take, drop, get_or, take-append-drop}
use lib.Seq.{take_at, drop_at}
use Rattle.rules_server.specs.Octets.{is_blank, same_fold, trim, trim_start, trim_end}
use Rattle.rules_server.specs.Texts.{bytes_unit}
use Rattle.rules_server.specs.Ranges.{ByteSpec, members, Reading, other_unit, malformed, listed, read_members, at_least_one, read_list, read_range}
use Rattle.rules_demands.specs.GrammarLetters.{AnyCase}
use Rattle.rules_demands.specs.GrammarRange.{RangeText, UnitBytes, GrammarRead}
use Rattle.laws_server.proofs.grammar.Letters.{fold_any, any_fold, any_length}
use Rattle.laws_server.proofs.grammar.Blanks.{end_twice, end_back}
use Rattle.laws_server.proofs.grammar.Complete.{list_complete}
use Rattle.laws_server.proofs.grammar.Sound.{list_sound}
use Rattle.laws_server.proofs.grammar.Specs.{broken_list, other_list, other_broken, same_list}

-- a value whose first bytes are the unit is read as a list
read_bytes : (v : List ℕ) → same_fold (take (length bytes_unit) v) bytes_unit ≡ true → read_range v ≡ read_list (drop (length bytes_unit) v)
unfolding read_range
read_bytes v e = rw e

-- any other is of another unit
read_other : (v : List ℕ) → same_fold (take (length bytes_unit) v) bytes_unit ≡ false → read_range v ≡ other_unit
unfolding read_range
read_other v e = rw e

-- a value that is the unit and a text is read as that text's list
read_unit : (v u l : List ℕ) → AnyCase u bytes_unit → v ≡ u ++ l → read_range v ≡ read_list l
read_unit v u l e q =
    let n : length u ≡ length bytes_unit = any_length u bytes_unit e in
    rw q (read_bytes (u ++ l) (rw (take_at u l (length bytes_unit) n) (any_fold u bytes_unit e)) ∙ ap read_list (drop_at u l (length bytes_unit) n))

-- a list with at least one spec is never of another unit
some_other : (r : Reading) → at_least_one r ≡ other_unit → ⊥
some_other other_unit h = other_broken (sym h)
some_other malformed h = other_broken (sym h)
some_other (listed []) h = other_broken (sym h)
some_other (listed (s ∷ ss)) h = other_list (s ∷ ss) (sym h)

-- what stands behind the unit is never read as another unit
list_other : (t : List ℕ) → read_list t ≡ other_unit → ⊥
unfolding read_list
list_other t h = go (is_blank (get_or t 0 0)) refl
  where
    go : (b : Bool) → is_blank (get_or t 0 0) ≡ b → ⊥
    go true f = other_broken (sym (rw f at h))
    go false f = some_other (read_members (members t)) (rw f at h)

-- the value starts with `bytes=`, and the rest is read as a list
record Started (v : List ℕ) : Type 0 where
  pub starts : UnitBytes v
  pub read : read_range v ≡ read_list starts.set

-- a value whose reading is not another unit does
started : (v : List ℕ) → (read_range v ≡ other_unit → ⊥) → Started v
started v n = go (same_fold (take (length bytes_unit) v) bytes_unit) refl
  where
    go : (b : Bool) → same_fold (take (length bytes_unit) v) bytes_unit ≡ b → Started v
    go true e =
        record {
          starts = record {
            unit = take (length bytes_unit) v;
            set = drop (length bytes_unit) v;
            is_unit = fold_any (take (length bytes_unit) v) bytes_unit e;
            text = sym (take-append-drop (length bytes_unit) v);
          };
          read = read_bytes v e;
        }
    go false e = absurd (n (read_other v e))

-- a value that starts with `bytes=` is never of another unit
starts_other : (v : List ℕ) → UnitBytes v → read_range v ≡ other_unit → ⊥
starts_other v d h = list_other d.set (sym (read_unit v d.unit d.set d.is_unit d.text) ∙ h)

-- a value that ends in no blank and is read as a list has a derivation
range_sound : (v : List ℕ) → trim_end v ≡ v → (ss : List ByteSpec) → read_range v ≡ listed ss → RangeText v ss
range_sound v e ss h =
    let b = started v (λ o. other_list ss (sym o ∙ h)) in
    let d = b.starts in
    record {
      unit = d.unit;
      set = d.set;
      is_unit = d.is_unit;
      members = list_sound d.set ss (end_back d.unit d.set (rw d.text at e)) (sym b.read ∙ h);
      text = d.text;
    }

-- a value with a derivation is read as its list
pub range_complete : (v : List ℕ) (ss : List ByteSpec) → RangeText v ss → read_range v ≡ listed ss
range_complete v ss d = read_unit v d.unit d.set d.is_unit d.text ∙ list_complete d.set ss d.members

-- a value that does not start with `bytes=` is of another unit
range_other : (v : List ℕ) → (UnitBytes v → ⊥) → read_range v ≡ other_unit
range_other v n = go (read_range v) refl
  where
    go : (r : Reading) → read_range v ≡ r → read_range v ≡ other_unit
    go other_unit h = h
    go malformed h = absurd (n (started v (λ o. other_broken (sym o ∙ h))).starts)
    go (listed ss) h = absurd (n (started v (λ o. other_list ss (sym o ∙ h))).starts)

-- a value that starts with `bytes=` and has no derivation is malformed
range_broken : (v : List ℕ) → trim_end v ≡ v → UnitBytes v → ((ss : List ByteSpec) → RangeText v ss → ⊥) → read_range v ≡ malformed
range_broken v e d n = go (read_range v) refl
  where
    go : (r : Reading) → read_range v ≡ r → read_range v ≡ malformed
    go other_unit h = absurd (starts_other v d h)
    go malformed h = h
    go (listed ss) h = absurd (n ss (range_sound v e ss h))

-- the reading of every trimmed value is that of the grammar
pub grammar_read : GrammarRead
grammar_read raw =
    let v = trim raw in
    let e : trim_end v ≡ v = end_twice (trim_start raw) in
    record {
      sound = range_sound v e;
      complete = range_complete v;
      unique = λ ss ts d f. same_list ss ts (sym (range_complete v ss d) ∙ range_complete v ts f);
      other = (λ h d. starts_other v d h, range_other v);
      broken = (
        λ h. (
          (started v (λ o. other_broken (sym o ∙ h))).starts,
          λ ss d. broken_list ss (sym h ∙ range_complete v ss d),
        ),
        λ p. range_broken v e p.0 p.1,
      );
    }
