use Rattle.std.proofs.Common.{rules, refl, ◌≡◌, ◌≢◌, ◌<◌, ◌≤◌, ◌++◌, ◌∷◌, ◌∙◌, ap, sym, subst, drop, length, take, List}
use Rattle.std.specs.Prelude.{All, Some, slice_get}
use Rattle.std.proofs.lemmas.Option.{slice_get_within}
use Rattle.r4_base.specs.Key.{rank}
use Rattle.r4_content.specs.declared.seen.SeenPart.{SeenPart}
use Rattle.r4_content.specs.declared.seen.SeenPart.TheVariants.{One}
use Rattle.r4_summary.proofs.Parts.{in_order, insert_at, set_at}
use Rattle.r4_summary.proofs.Places.{above_place}
use Rattle.r4_summary.specs.Kept.{AreKept, key_in, pairs_in}
use Rattle.r4_summary.proofs.kept.set.Goals as goal

pub returns-then-stands_at : goal.returns-then-stands_at
returns-then-stands_at c =
    let s = c.if-stands_at.ensures.stands refl in
    let there = subst (λ xs. slice_get xs c.place-at.result ≡ Some s.0) c.as_slice-2.ensures.value s.1 in
    let before = subst (λ xs. All (λ p. key_in p < rank c.args.key) (take c.place-at.result xs)) c.as_slice.ensures.value c.place-at.ensures.before in
    set_at c.args.key c.args.value c.args.parts.now.items c.place-at.result c.requires
    (slice_get_within c.args.parts.now.items c.place-at.result s.0 there) before s.0 there s.2

pub returns : goal.returns
returns c =
    let before = subst (λ xs. All (λ p. key_in p < rank c.args.key) (take c.place-at.result xs)) c.as_slice.ensures.value c.place-at.ensures.before in
    let behind = subst (λ xs. All (λ p. rank c.args.key ≤ key_in p) (drop c.place-at.result xs)) c.as_slice.ensures.value c.place-at.ensures.behind in
    let bound = subst (λ xs. c.place-at.result ≤ length xs) c.as_slice.ensures.value c.place-at.ensures.bound in
    let other = subst (λ (xs : List SeenPart). (p : SeenPart) → slice_get xs c.place-at.result ≡ Some p → key_in p ≢ rank c.args.key) c.as_slice-2.ensures.value (c.if-stands_at.ensures.other refl) in
    let done = insert_at c.args.key c.args.value c.args.parts.now.items c.place-at.result c.requires before
    (above_place (rank c.args.key) c.args.parts.now.items c.place-at.result bound (in_order c.args.parts.now.items c.requires) behind other) in
    let is : c.insert.new.self.items ≡ take c.place-at.result c.args.parts.now.items ++ One c.args.key c.args.value ∷ drop c.place-at.result c.args.parts.now.items = search rules in
    (subst AreKept (sym is) done.0, ap pairs_in is ∙ done.1)
