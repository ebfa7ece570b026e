use Rattle.std.proofs.Common.{map, ◌≡◌, ◌∷◌, length, sym, ap, subst, ◌∙◌, arith}
use Rattle.std.specs.Prelude.{Contains}
use Rattle.std.specs.Arc.{arc_value}
use Rattle.std.proofs.lemmas.Result.{on_ok_weaker}
use Rattle.r4_base.specs.Key.{rank}
use Rattle.r4_extent_build.specs.r4_cell.Seen.{CellSeen, node_of}
use Rattle.r4_content.specs.Seen.{pairs_in}
use Rattle.r4_build.proofs.r4_patch.Members.{here, later}
use Rattle.r4_extent_turn.proofs.Gathered.{adds_first}
use Rattle.r4_extent_turn.proofs.tails.+add_leaves.Goals as goal

pub add_leaf-requires : goal.add_leaf-requires
add_leaf-requires t c =
    let is = ap (map (λ x. arc_value x)) c.in-Some.ensures.cases.0 in
    let first = arc_value c.in-Some.first.now in
    subst (λ (x : CellSeen). x.level ≡ 1) (sym c.deref.ensures) (c.requires first (subst (λ cs. Contains cs first) (sym is) (here first (map (λ x. arc_value x) c.in-Some.rest.now))))

pub add_leaves-requires : goal.add_leaves-requires
add_leaves-requires t c =
    let is = ap (map (λ x. arc_value x)) c.in-Some.ensures.cases.0 in
    let n = ap length c.in-Some.ensures.cases.0 in
    let first = arc_value c.in-Some.first.now in
    (omega (arith, n), λ d at. c.requires d (subst (λ cs. Contains cs d) (sym is) (later first d (map (λ x. arc_value x) c.in-Some.rest.now) at)))

pub returns-in_ok-add_leaf-in-Some : goal.returns-in_ok-add_leaf-in-Some
returns-in_ok-add_leaf-in-Some t c =
    let from = rank c.args.within.from in
    let to = rank c.args.within.to in
    let is = ap (map (λ x. arc_value x)) c.in-Some.ensures.cases.0 in
    on_ok_weaker c.add_leaves.result (λ done. adds_first (λ (d : CellSeen). pairs_in (node_of d).units from to) (map (λ x. arc_value x) c.args.leaves.now) c.deref.result.now (map (λ x. arc_value x) c.in-Some.rest.now)
    (is ∙ ap (λ (d : CellSeen). d ∷ map (λ x. arc_value x) c.in-Some.rest.now) (sym c.deref.ensures))
    c.args.runs.now.items c.add_leaf.new.runs.items c.add_leaves.new.runs.items c.in_ok-add_leaf-in-Some.ensures done) c.add_leaves.ensures
