use Rattle.std.proofs.Common.{◌≡◌, ◌++◌, List, map, ap, ◌∙◌}
use Rattle.std.proofs.lemmas.Result.{on_ok_weaker}
use Rattle.std.specs.Arc.{arc_value}
use Rattle.r4_twig_work.specs.r4_cell.Seen.{CellSeen}
use Rattle.r4_content.specs.Held.{edits_of}
use Rattle.r4_extent_renew.specs.Overwriting.{is_set_in, value_set}
use Rattle.r4_extent_renew.proofs.Staying.{stays_measured}
use Rattle.r4_extent_renew.proofs.Overwritten.{may_renew, pairs, renewed_as, sets}
use Rattle.r4_extent_renew.proofs.renewing.overwrite.Goals as goal

pub overwrite_each-requires : goal.overwrite_each-requires
overwrite_each-requires c = let (t, (r, (f, is))) = c.requires.can in λ d at. (is.each d at).level

pub renew-requires : goal.renew-requires
renew-requires c =
    let (t, (r, (f, is))) = c.requires.can in
    let blocks : List CellSeen = map (λ x. arc_value x) c.args.blocks.now in
    let (news, news_are, made) = c.in_ok-overwrite_each.ensures in
    let olds : map (λ x. arc_value x) c.add.new.cells.items ≡ blocks = c.in_ok-add.ensures ∙ ap (λ xs. map (λ x. arc_value x) xs ++ blocks) c.new-old.ensures.items in
    let those : map (λ x. arc_value x) c.overwrite_each.new.cells.items ≡ news = news_are ∙ ap (λ xs. map (λ x. arc_value x) xs ++ news) c.new-new.ensures.items in
    record { can = (t, (r, (f, (pairs blocks news, may_renew (edits_of c.args.edits.now) t r f c.args.set.now blocks news _ _ olds those made is)))) }

pub returns-clause-working : goal.returns-clause-working
returns-clause-working c =
    let blocks : List CellSeen = map (λ x. arc_value x) c.args.blocks.now in
    let (news, news_are, made) = c.in_ok-overwrite_each.ensures in
    let olds : map (λ x. arc_value x) c.add.new.cells.items ≡ blocks = c.in_ok-add.ensures ∙ ap (λ xs. map (λ x. arc_value x) xs ++ blocks) c.new-old.ensures.items in
    let those : map (λ x. arc_value x) c.overwrite_each.new.cells.items ≡ news = news_are ∙ ap (λ xs. map (λ x. arc_value x) xs ++ news) c.new-new.ensures.items in
    on_ok_weaker c.renew.result (λ done t r f is. done t r f (pairs blocks news) (may_renew (edits_of c.args.edits.now) t r f c.args.set.now blocks news _ _ olds those made is)) c.renew.ensures.working

pub returns-clause-changes : goal.returns-clause-changes
returns-clause-changes c =
    let (t, (r, (f, is))) = c.requires.can in
    let e = edits_of c.args.edits.now in
    let blocks : List CellSeen = map (λ x. arc_value x) c.args.blocks.now in
    let (news, news_are, made) = c.in_ok-overwrite_each.ensures in
    let olds : map (λ x. arc_value x) c.add.new.cells.items ≡ blocks = c.in_ok-add.ensures ∙ ap (λ xs. map (λ x. arc_value x) xs ++ blocks) c.new-old.ensures.items in
    let those : map (λ x. arc_value x) c.overwrite_each.new.cells.items ≡ news = news_are ∙ ap (λ xs. map (λ x. arc_value x) xs ++ news) c.new-new.ensures.items in
    on_ok_weaker c.renew.result
    (λ does. does t r f (pairs blocks news) (may_renew e t r f c.args.set.now blocks news _ _ olds those made is) (is_set_in e blocks) (value_set e) (sets e t r f c.args.set.now blocks news is made)) c.renew.ensures.effect

pub returns-clause-renewed : goal.returns-clause-renewed
returns-clause-renewed c =
    let e = edits_of c.args.edits.now in
    let w = c.args.set.now in
    let blocks : List CellSeen = map (λ x. arc_value x) c.args.blocks.now in
    let (news, news_are, made) = c.in_ok-overwrite_each.ensures in
    let olds : map (λ x. arc_value x) c.add.new.cells.items ≡ blocks = c.in_ok-add.ensures ∙ ap (λ xs. map (λ x. arc_value x) xs ++ blocks) c.new-old.ensures.items in
    let those : map (λ x. arc_value x) c.overwrite_each.new.cells.items ≡ news = news_are ∙ ap (λ xs. map (λ x. arc_value x) xs ++ news) c.new-new.ensures.items in
    on_ok_weaker c.renew.result
    (λ done. (
      news,
      (
        made,
        λ t r f is. renewed_as t r f w c.renew.new.set blocks news _ _ olds those
            (done t r f (pairs blocks news) (may_renew e t r f w blocks news _ _ olds those made is)),
      ),
    )) c.renew.ensures.renewed

pub returns-clause-stand : goal.returns-clause-stand
returns-clause-stand c =
    let (t, (r, (f, is))) = c.requires.can in
    let e = edits_of c.args.edits.now in
    let w = c.args.set.now in
    let blocks : List CellSeen = map (λ x. arc_value x) c.args.blocks.now in
    let (news, news_are, made) = c.in_ok-overwrite_each.ensures in
    let olds : map (λ x. arc_value x) c.add.new.cells.items ≡ blocks = c.in_ok-add.ensures ∙ ap (λ xs. map (λ x. arc_value x) xs ++ blocks) c.new-old.ensures.items in
    let those : map (λ x. arc_value x) c.overwrite_each.new.cells.items ≡ news = news_are ∙ ap (λ xs. map (λ x. arc_value x) xs ++ news) c.new-new.ensures.items in
    on_ok_weaker c.renew.result
    (λ done. (renewed_as t r f w c.renew.new.set blocks news _ _ olds those
    (done t r f (pairs blocks news) (may_renew e t r f w blocks news _ _ olds those made is))).as_before (λ d at. (is.each d at).stands)) c.renew.ensures.renewed

pub returns-clause-measured : goal.returns-clause-measured
returns-clause-measured c =
    let e = edits_of c.args.edits.now in
    let w = c.args.set.now in
    let blocks : List CellSeen = map (λ x. arc_value x) c.args.blocks.now in
    let (news, news_are, made) = c.in_ok-overwrite_each.ensures in
    let olds : map (λ x. arc_value x) c.add.new.cells.items ≡ blocks = c.in_ok-add.ensures ∙ ap (λ xs. map (λ x. arc_value x) xs ++ blocks) c.new-old.ensures.items in
    let those : map (λ x. arc_value x) c.overwrite_each.new.cells.items ≡ news = news_are ∙ ap (λ xs. map (λ x. arc_value x) xs ++ news) c.new-new.ensures.items in
    on_ok_weaker c.renew.result
    (λ done t r f b is m. stays_measured e t r f w c.renew.new.set b blocks news is.each made (renewed_as t r f w c.renew.new.set blocks news _ _ olds those
    (done t r f (pairs blocks news) (may_renew e t r f w blocks news _ _ olds those made is))) m) c.renew.ensures.renewed
