use Rattle.std.proofs.Common.{◌≡◌, ℕ, false, ap, sym, ◌∙◌}
use Rattle.std.specs.Prelude.{Bool, if◌then◌else◌}
use Rattle.r4_bodies.specs.r4_leaf_edits.r4_reach.Touched.{Body, blocks_end, going}
use Rattle.r4_extent_demands.proofs.sized_body.SizedBody.going.Goals as goal

-- nothing goes where the body stood in no extents
none_goes : (b : Body) → b.in_extents ≡ false → going b ≡ (0, 0)
none_goes b off = ap pair off
  where
    pair : Bool → ℕ × ℕ
    pair t = if t then (blocks_end b b.now, blocks_end b b.was) else (0, 0)

pub returns-then-not-self-clause-from : goal.returns-then-not-self-clause-from
returns-then-not-self-clause-from c =
    let off = sym (ap (λ (x : Body). x.in_extents) c.self.view_is) ∙ c.if-not-self.true in
    c.no_keys.ensures.from ∙ sym (ap (λ (r : ℕ × ℕ). r.0) (none_goes c.args.self.now off))

pub returns-then-not-self-clause-to : goal.returns-then-not-self-clause-to
returns-then-not-self-clause-to c =
    let off = sym (ap (λ (x : Body). x.in_extents) c.self.view_is) ∙ c.if-not-self.true in
    c.no_keys.ensures.to ∙ sym (ap (λ (r : ℕ × ℕ). r.1) (none_goes c.args.self.now off))
