use Rattle.std.proofs.Common.{◌+◌, ◌-◌, ◌^◌, ◌<◌, ◌≤◌, get_or, arith, rules}
use Rattle.r4_base.specs.Key.{IsKey, rank}
use Rattle.r4_base.specs.declared.key.Key.{Key}
use Rattle.r4_base.proofs.Keys.{is_key}
use Rattle.r4_leaf_edits.proofs.keys.next_key.Goals as goal

-- no key is above that of the greatest numbers
below_top : (k a : Key) → IsKey a → rank k < rank a → 2 ^ 64 - 1 ≤ get_or k.el 1 0 → 2 ^ 64 - 1 ≤ get_or k.el 2 0 → 2 ^ 64 - 1 ≤ get_or k.el 3 0 → get_or k.el 0 0 + 1 < 2 ^ 64
unfolding rank
below_top k a is lt x y z =
    let p = is.small 0 in
    let q = is.small 1 in
    let r = is.small 2 in
    let s = is.small 3 in
    omega arith

pub overflow_add-el-else-el1-lt18446744073709551615 : goal.overflow_add-el-else-el1-lt18446744073709551615
overflow_add-el-else-el1-lt18446744073709551615 c =
    let is = is_key c.args.above (search rules) (search rules) (search rules) (search rules) (search rules) in
    let lt = below_top c.args.key c.args.above is c.requires (omega arith) (omega arith) (omega arith) in
    omega (arith, lt)
