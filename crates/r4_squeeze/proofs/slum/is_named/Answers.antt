use Rattle.std.proofs.Common.{◌≤◌, subst, sym}
use Rattle.r4_squeeze.proofs.slum.is_named.Goals as goal

pub item-item-requires : goal.item-item-requires
item-item-requires c = c.requires.within

pub overflow_sub-level : goal.overflow_sub-level
overflow_sub-level c = subst (λ n. 1 ≤ n) (sym c.level-then-to-id.ensures) c.requires.level

pub key_behind-requires : goal.key_behind-requires
key_behind-requires c = c.requires.within
