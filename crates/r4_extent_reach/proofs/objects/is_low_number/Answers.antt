use Rattle.std.proofs.Common.{◌<◌, ◌^◌, ℕ, rules, subst, sym}
use Rattle.r4_base.proofs.Keys.{is_key}
use Rattle.r4_extent_reach.proofs.Numbers.{tells_number}
use Rattle.r4_extent_reach.proofs.objects.is_low_number.Goals as goal

pub returns : goal.returns
returns c = λ a same.
    let k = c.args.key.now in
    let is = is_key k (search (rules, c.well_formed)) (search (rules, c.well_formed)) (search (rules, c.well_formed))
    (search (rules, c.well_formed)) (search (rules, c.well_formed)) in
    let size : c.args.size < 2 ^ 64 = search (rules, c.well_formed) in
    tells_number k a is (subst (λ (n : ℕ). n < 2 ^ 64) (sym same) size)
