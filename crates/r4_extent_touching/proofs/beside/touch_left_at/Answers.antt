use Rattle.std.proofs.Common.{◌≡◌, ◌<◌, ap, length, subst, sym, arith}
use Rattle.std.proofs.lemmas.Bool.Decides.{nat_tests}
use Rattle.r4_base.specs.Key.{rank}
use Rattle.r4_base.specs.Node.{items_of}
use Rattle.r4_touching.specs.r4_cell.Seen.{CellSeen}
use Rattle.r4_marking.proofs.r4_search.Walks.{goes_same, handed}
use Rattle.r4_marking.specs.r4_search.Place.{child_name}
use Rattle.r4_marking.specs.r4_search.Pool.{IsNamed}
use Rattle.r4_extent_touching.proofs.Left.{child_named, no_left}
use Rattle.r4_extent_touching.proofs.beside.touch_left_at.Goals as goal
use Rattle.r4_extent_touching.specs.Holding.{StopsLeft}

pub returns-in_default-clause-met : goal.returns-in_default-clause-met
returns-in_default-clause-met g c =
    no_left c.args.twig.now c.requires.level (g.P.Pool.state c.args.pool.now) c.args.place (rank c.args.at.now) c.in_default.ensures.none

pub fetch-requires : goal.fetch-requires
fetch-requires g c =
    let within : c.args.place < length (items_of c.args.twig.now.block) = (let w = c.requires.within in let n = ap length c.requires.items in omega (arith, w, n)) in
    c.requires.knows (child_name c.in-Some.child) (child_named c.args.twig.now c.requires.level c.args.place c.in-Some.child within c.in-Some.ensures.child)

pub returns-in_err-fetch-clause-err : goal.returns-in_err-fetch-clause-err
returns-in_err-fetch-clause-err g c =
    let old = g.P.Pool.state c.args.pool.now in
    let new = g.P.Pool.state c.fetch.new.self in
    let within : c.args.place < length (items_of c.args.twig.now.block) = (let w = c.requires.within in let n = ap length c.requires.items in omega (arith, w, n)) in
    let same_ranks = c.if-not-is_same.ensures.ranks in
    let test = c.if-not-is_same.false in
    let ends : rank c.in-Some.child.hi ≡ rank c.args.at.now = grind (arith, nat_tests, same_ranks, test) in
    handed (λ e. StopsLeft c.args.twig.now (rank c.args.at.now) old e new) c.from_residual.result c.in_err-fetch.field-0.0
    c.from_residual.ensures.1 (
      child_name c.in-Some.child,
      child_named c.args.twig.now c.requires.level c.args.place c.in-Some.child within c.in-Some.ensures.child,
      ends,
      old,
      goes_same old,
      c.in_err-fetch.ensures.fetches.err,
    )

pub returns-clause-only : goal.returns-clause-only
returns-clause-only g c i x is was =
    let within : c.args.place < length (items_of c.args.twig.now.block) = (let w = c.requires.within in let n = ap length c.requires.items in omega (arith, w, n)) in
    let same_ranks = c.if-not-is_same.ensures.ranks in
    let test = c.if-not-is_same.false in
    let ends : rank c.in-Some.child.hi ≡ rank c.args.at.now = grind (arith, nat_tests, same_ranks, test) in
    let same = c.in_ok-fetch.ensures.fetches.only_met i x is was in (
      child_name c.in-Some.child,
      child_named c.args.twig.now c.requires.level c.args.place c.in-Some.child within c.in-Some.ensures.child,
      ends,
      subst (λ (y : CellSeen). IsNamed (child_name c.in-Some.child) y) (sym same) c.in_ok-fetch.ensures.fetches.ok.named,
    )
