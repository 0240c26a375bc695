use Rattle.std.proofs.Common.{◌≡◌, subst, rules, refl}
use Rattle.std.proofs.lemmas.Fn.{fold_over, slice_gives, fronts}
use Rattle.rules_server.specs.Octets.{all}
use Rattle.octets.specs.Alike.{is_byte}
use Rattle.octets.proofs.blocks.Laws.{all_snoc}
use Rattle.octets.proofs.blocks.all_are.Goals as goal

pub returns : goal.returns
returns c =
    subst (λ l. c.fold.result ≡ all (is_byte c.args.b) l) c.iter.ensures.rest
    (fold_over fronts (λ y. y.now) _ (λ ys r. r ≡ all (is_byte c.args.b) ys) _
    (λ ys a x b f' j k. rw (all_snoc (is_byte c.args.b) ys x.now, ← j) (search rules))
    _ _ _ _ (slice_gives c.iter.result) refl c.fold.ensures.ran)
