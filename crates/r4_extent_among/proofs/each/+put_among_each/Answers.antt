use Rattle.std.proofs.Common.{map, ◌≡◌, ◌∷◌, ap, arith, length, sym, ◌∙◌}
use Rattle.std.specs.Arc.{arc_value}
use Rattle.std.specs.Option.{option_copied}
use Rattle.r4_content.specs.Held.{edits_of}
use Rattle.r4_extent_among.proofs.Several.{others_can}
use Rattle.r4_extent_among.proofs.each.+put_among_each.Goals as goal

pub put_among_each-requires : goal.put_among_each-requires
put_among_each-requires t c =
    let (s, (r, can)) = c.requires.can in
    let twigs = map (λ x. arc_value x) c.args.twigs.now in
    let rest = map (λ x. arc_value x) c.in-Some.rest.now in
    let is : twigs ≡ c.deref.result.now ∷ rest = ap (map (λ x. arc_value x)) c.in-Some.ensures.cases.0 ∙ ap (λ x. x ∷ rest) (sym c.deref.ensures) in
    let n = ap length c.in-Some.ensures.cases.0 in (
      omega (arith, n),
      (
        c.requires.edits,
        (
          s,
          (
            r,
            others_can (option_copied c.args.body) (edits_of c.args.edits.now) s r twigs c.deref.result.now rest c.args.fresh.now c.put_among.new.fresh c.args.set.now c.put_among.new.set
                (map (λ x. arc_value x) c.in_ok-leaves-in-Some.leaves.items) is can c.in_ok-leaves-in-Some.ensures,
          ),
        ),
      ),
    )
