-- What the reading yields behind `bytes=`, the grammar derives, of a text that ends in no blank.
use Prim.Native.Nat.{ℕ}
use mathlib.Core.Path.{◌≡◌, refl, sym, ◌∙◌, ap}
use mathlib.Core.Bool.{Bool, true, false, true≢false}
use mathlib.Core.List.{List, [], ◌∷◌, ◌++◌, append_assoc, append-nil}
use lib.ListN.{get_or}
use Rattle.rules_server.specs.Octets.{is_blank, all, trim, trim_end}
use Rattle.rules_server.specs.Ranges.{ByteSpec, members, Reading, other_unit, malformed, listed, add_member, read_members, at_least_one, read_list, spec_at}
use Rattle.rules_demands.specs.GrammarRange.{Leading, comma_then, Following, empty, spec, ByteRangeSet}
use Rattle.laws_server.proofs.grammar.Bytes.{and_left, nil_cons}
use Rattle.laws_server.proofs.grammar.Blanks.{blank_gone, nothing_gone, padded, Padded, no_back, end_tail, end_back, padded-before}
use Rattle.laws_server.proofs.grammar.Commas.{inner, members-last, members_more, Cut, last, more, cut}
use Rattle.laws_server.proofs.grammar.Specs.{broken_list, same_list, Added, added}

-- a member: blanks, or one spec with blanks around it
data Member (m : List ℕ) (r : Reading) (ss : List ByteSpec) : Type 0 where
  blanks : trim m ≡ [] → r ≡ listed ss → Member m r ss
  one : Added (trim m) r ss → Member m r ss

-- a member that is read is one of the two
member : (m : List ℕ) (r : Reading) (ss : List ByteSpec) → add_member (trim m) r ≡ listed ss → Member m r ss
unfolding spec_at
member m r ss h = go (trim m) refl h
  where
    go : (k : List ℕ) → trim m ≡ k → add_member k r ≡ listed ss → Member m r ss
    go [] e h = blanks e h
    go (x ∷ k) e h = one (rw e (added x k r ss h))

-- the last member is one of the two
last-member : (t : List ℕ) (ss : List ByteSpec) → all inner t ≡ true → read_members (members t) ≡ listed ss → Member t (listed []) ss
unfolding spec_at
last-member t ss i h = member t (listed []) ss (rw (members-last t i) at h)

-- so is a member before a comma
more_member : (t m l : List ℕ) (ss : List ByteSpec) → all inner m ≡ true → t ≡ m ++ (44 ∷ l) → read_members (members t) ≡ listed ss
    → Member m (read_members (members l)) ss
unfolding spec_at
more_member t m l ss i p h = member m (read_members (members l)) ss (rw (p, members_more m l i) at h)

-- the text behind a comma ends in no blank if the whole does
end_more : (t m l : List ℕ) → trim_end t ≡ t → t ≡ m ++ (44 ∷ l) → trim_end l ≡ l
end_more t m l e p = end_tail 44 l (end_back m (44 ∷ l) (rw p at e))

-- nothing follows the last member
follows_none : (t : List ℕ) (os : List ByteSpec) → trim_end t ≡ t → (f : Padded t) → listed [] ≡ listed os → Following f.back os
follows_none t os e f r = Following.none (no_back t e f) (sym (same_list [] os r))

-- blanks w, a comma and the last member follow a spec
following_last : (t w : List ℕ) (ss : List ByteSpec) → all is_blank w ≡ true → trim_end t ≡ t → Member t (listed []) ss → Following (w ++ (44 ∷ t)) ss
following_last t w ss o e (blanks g r) = empty w t o (Following.none (nothing_gone t e g) (sym (same_list [] ss r))) refl
following_last t w ss o e (one a) =
    let f = padded t in
    spec w f.front (trim t) f.back a.first a.others o f.front_blank a.spec (follows_none t a.others e f a.behind)
    (ap (λ (k : List ℕ). w ++ (44 ∷ k)) f.text) a.specs

-- so do blanks w, a comma and a member, where the next comma and what stands behind it do
following_more : (t m l w : List ℕ) (ss : List ByteSpec) → all is_blank w ≡ true → t ≡ m ++ (44 ∷ l)
    → ((v : List ℕ) (ts : List ByteSpec) → all is_blank v ≡ true → read_members (members l) ≡ listed ts → Following (v ++ (44 ∷ l)) ts)
    → Member m (read_members (members l)) ss → Following (w ++ (44 ∷ t)) ss
following_more t m l w ss o p next (blanks g r) = empty w (m ++ (44 ∷ l)) o (next m ss (blank_gone m g) r) (ap (λ (k : List ℕ). w ++ (44 ∷ k)) p)
following_more t m l w ss o p next (one a) =
    let f = padded m in
    spec w f.front (trim m) (f.back ++ (44 ∷ l)) a.first a.others o f.front_blank a.spec (next f.back a.others f.back_blank a.behind)
    (ap (λ (k : List ℕ). w ++ (44 ∷ k)) (p ∙ padded-before m (44 ∷ l) f)) a.specs

-- blanks w, a comma and a text that is read as a list follow a spec
following_sound : {t : List ℕ} → Cut t → (w : List ℕ) (ss : List ByteSpec) → all is_blank w ≡ true → trim_end t ≡ t → read_members (members t) ≡ listed ss
    → Following (w ++ (44 ∷ t)) ss
following_sound {t} (last i) w ss o e h = following_last t w ss o e (last-member t ss i h)
following_sound {t} (more m l i c p) w ss o e h =
    following_more t m l w ss o p (λ v ts b g. following_sound c v ts b (end_more t m l e p) g) (more_member t m l ss i p h)

-- a list of the grammar behind blanks
record Behind (t : List ℕ) (ss : List ByteSpec) : Type 0 where
  pub front : List ℕ
  pub set : List ℕ
  pub front_blank : all is_blank front ≡ true
  pub list : ByteRangeSet set ss
  pub text : t ≡ front ++ set

-- a first member that is a spec, with what follows it
behind_spec : (t m l : List ℕ) (r : Reading) (ss : List ByteSpec) (f : Padded m) (a : Added (trim m) r ss)
    → Following (f.back ++ l) a.others → t ≡ m ++ l → Behind t ss
behind_spec t m l r ss f a g p =
    record {
      front = f.front;
      set = trim m ++ (f.back ++ l);
      front_blank = f.front_blank;
      list =
          record {
            lead = [];
            one = trim m;
            rest = f.back ++ l;
            first = a.first;
            others = a.others;
            leading = Leading.none refl;
            spec = a.spec;
            following = g;
            text = refl;
            specs = a.specs;
          };
      text = p ∙ padded-before m l f;
    }

-- a first member that is blank, and a comma, before a list of the grammar behind blanks
behind-comma : (t m l : List ℕ) (ss : List ByteSpec) → all is_blank m ≡ true → Behind l ss → t ≡ m ++ (44 ∷ l) → Behind t ss
behind-comma t m l ss o b p =
    let d = b.list in
    record {
      front = m;
      set = 44 ∷ l;
      front_blank = o;
      list =
          record {
            lead = 44 ∷ (b.front ++ d.lead);
            one = d.one;
            rest = d.rest;
            first = d.first;
            others = d.others;
            leading = comma_then b.front d.lead b.front_blank d.leading refl;
            spec = d.spec;
            following = d.following;
            text = ap (λ (k : List ℕ). 44 ∷ k) (b.text ∙ ap (λ (k : List ℕ). b.front ++ k) d.text
                ∙ sym (append_assoc b.front d.lead (d.one ++ d.rest)));
            specs = d.specs;
          };
      text = p;
    }

-- the only member, read with at least one spec, is a list of the grammar behind blanks
leading-last : (t : List ℕ) (s : ByteSpec) (ss : List ByteSpec) → trim_end t ≡ t → Member t (listed []) (s ∷ ss) → Behind t (s ∷ ss)
leading-last t s ss e (blanks g r) = absurd (nil_cons s ss (same_list [] (s ∷ ss) r))
leading-last t s ss e (one a) =
    let f = padded t in
    behind_spec t t [] (listed []) (s ∷ ss) f a (rw append-nil (follows_none t a.others e f a.behind)) (sym (append-nil t))

-- so is a member with a comma and what stands behind it
leading_more : (t m l : List ℕ) (ss : List ByteSpec) → trim_end l ≡ l → Cut l → t ≡ m ++ (44 ∷ l)
    → (read_members (members l) ≡ listed ss → Behind l ss) → Member m (read_members (members l)) ss → Behind t ss
leading_more t m l ss e c p next (blanks g r) = behind-comma t m l ss (blank_gone m g) (next r) p
leading_more t m l ss e c p next (one a) =
    let f = padded m in
    behind_spec t m (44 ∷ l) (read_members (members l)) ss f a (following_sound c f.back a.others f.back_blank e a.behind) p

-- a text that is read with at least one spec is a list of the grammar behind blanks
leading_sound : {t : List ℕ} → Cut t → (s : ByteSpec) (ss : List ByteSpec) → trim_end t ≡ t → read_members (members t) ≡ listed (s ∷ ss) → Behind t (s ∷ ss)
leading_sound {t} (last i) s ss e h = leading-last t s ss e (last-member t (s ∷ ss) i h)
leading_sound {t} (more m l i c p) s ss e h =
    leading_more t m l (s ∷ ss) (end_more t m l e p) c p (λ g. leading_sound c s ss (end_more t m l e p) g) (more_member t m l (s ∷ ss) i p h)

-- no blanks stand before a text that begins with none
no_front : (w l : List ℕ) → all is_blank w ≡ true → is_blank (get_or (w ++ l) 0 0) ≡ false → w ≡ []
no_front [] l e f = refl
no_front (x ∷ w) l e f = absurd (true≢false (sym (and_left (is_blank x) (all is_blank w) e) ∙ f))

-- what is read as a list of specs is a list of the grammar
pub list_sound : (t : List ℕ) (ss : List ByteSpec) → trim_end t ≡ t → read_list t ≡ listed ss → ByteRangeSet t ss
unfolding read_list
list_sound t ss e h = go (is_blank (get_or t 0 0)) refl
  where
    whole : (s : ByteSpec) (os : List ByteSpec) → is_blank (get_or t 0 0) ≡ false → read_members (members t) ≡ listed (s ∷ os) → ByteRangeSet t (s ∷ os)
    whole s os f r =
        let b = leading_sound (cut t) s os e r in
        let z : b.front ≡ [] = no_front b.front b.set b.front_blank (rw b.text at f) in
        let q : t ≡ b.set = b.text ∙ ap (λ (k : List ℕ). k ++ b.set) z in
        rw q b.list

    some : (r : Reading) → read_members (members t) ≡ r → is_blank (get_or t 0 0) ≡ false → at_least_one r ≡ listed ss → ByteRangeSet t ss
    some other_unit r f k = absurd (broken_list ss k)
    some malformed r f k = absurd (broken_list ss k)
    some (listed []) r f k = absurd (broken_list ss k)
    some (listed (s ∷ os)) r f k = rw (sym (same_list (s ∷ os) ss k)) (whole s os f r)

    go : (b : Bool) → is_blank (get_or t 0 0) ≡ b → ByteRangeSet t ss
    go true f = absurd (broken_list ss (rw f at h))
    go false f = some (read_members (members t)) refl f (rw f at h)
