use Rattle.std.proofs.Common.{map, subst}
use Rattle.std.proofs.lemmas.Result.{on_ok_weaker}
use Rattle.std.specs.Arc.{arc_value}
use Rattle.std.specs.Prelude.{None}
use Rattle.r4_twig_work.proofs.Renewed.{renewable_as, renewed_does, renewed_made, renewed_next, renewed_working}
use Rattle.r4_twig_work.proofs.renewing.renew.Goals as goal
use Rattle.r4_twig_work.specs.Renewing.{renewing}
use Rattle.r4_measure.proofs.r4_work.Ranges.{kept_by_place}
use Rattle.r4_measure.specs.r4_work.Working.{IsPutInPlace}

pub put_in_place-requires : goal.put_in_place-requires
put_in_place-requires c =
    let (t, (r, (f, (ps, is)))) = c.requires.can in
    let w = c.args.set.now in
    let held = renewable_as t r f w (map (λ x. arc_value x) c.args.old.items) (map (λ x. arc_value x) c.args.new.items)
    c.from_vec.result c.from_vec-2.result ps c.from_vec.ensures c.from_vec-2.ensures is in
    kept_by_place t r f w is.working f (record { old = c.from_vec.result; new = c.from_vec-2.result; root = None })
    (renewed_next t r f w c.from_vec.result c.from_vec-2.result ps held)

pub returns-clause-working : goal.returns-clause-working
returns-clause-working c =
    let w = c.args.set.now in
    on_ok_weaker c.put_in_place.result (λ put t r f ps is.
    renewed_working t r f w c.from_vec.result c.from_vec-2.result ps
    (renewable_as t r f w (map (λ x. arc_value x) c.args.old.items) (map (λ x. arc_value x) c.args.new.items)
    c.from_vec.result c.from_vec-2.result ps c.from_vec.ensures c.from_vec-2.ensures is)
    c.put_in_place.new.self put) c.put_in_place.ensures.done

pub returns-clause-effect : goal.returns-clause-effect
returns-clause-effect c =
    let w = c.args.set.now in
    on_ok_weaker c.put_in_place.result (λ put t r f ps is.
    renewed_does t r f w c.from_vec.result c.from_vec-2.result ps
    (renewable_as t r f w (map (λ x. arc_value x) c.args.old.items) (map (λ x. arc_value x) c.args.new.items)
    c.from_vec.result c.from_vec-2.result ps c.from_vec.ensures c.from_vec-2.ensures is)
    c.put_in_place.new.self put) c.put_in_place.ensures.done

pub returns-clause-renewed : goal.returns-clause-renewed
returns-clause-renewed c =
    let w = c.args.set.now in
    let olds = map (λ x. arc_value x) c.args.old.items in
    let news = map (λ x. arc_value x) c.args.new.items in
    on_ok_weaker c.put_in_place.result (λ put t r f ps is.
    renewed_made t r f w olds news ps is c.put_in_place.new.self
    (subst (λ xs. IsPutInPlace w (renewing xs news) c.put_in_place.new.self) c.from_vec.ensures
    (subst (λ ys. IsPutInPlace w (renewing c.from_vec.result ys) c.put_in_place.new.self) c.from_vec-2.ensures put))) c.put_in_place.ensures.done
