use Rattle.r4_patch.proofs.Effects.{changed_after, content_after, effects_follow, others_after}
use Rattle.r4_patch.proofs.follow_laws.effects_follow.Goals as goal

pub returns : goal.returns
returns c = record {
  changed = λ p t root at to k v a h. changed_after p t root a.part a.meets at to a.effect k v h;
  others = λ p t root at to k v a h. others_after p t root a.part a.meets at to a.effect k v h;
  content = λ p t root at to m n a u is. content_after p t root at to m n a.part a.meets a.effect u is;
  follow = λ p q t root a b f g x ep eq.
      effects_follow p q t root x.part x.one_is x.one_meets x.two_is x.two_meets a b f g ep eq;
}
